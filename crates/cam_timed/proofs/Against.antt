-- What refuses a line, by what the machine keeps.
use Rattle.std.proofs.Common.{◌≡◌, ℕ, List, [], Option, Some, None, refl, sym, ap, ◌∙◌}
use Rattle.cam_names.specs.declared.name.Name.{Name}
use Rattle.cam_names.specs.Names.{home_node}
use Rattle.cam_type.specs.declared.ObjectDecl.{ObjectDecl}
use Rattle.cam_event.specs.declared.Deed.{Deed}
use Rattle.cam_event.specs.declared.Want.{Want}
use Rattle.cam_event.specs.declared.LineRefusal.{LineRefusal}
use Rattle.cam_event.specs.declared.LineRefusal.TheVariants as refusals
use Rattle.cam_event.specs.Refusals.{refusal, query_refusal, is_not_open, where_so, first_of_two}
use Rattle.cam_event.specs.Sights.{Sight, knows_outcome}
use Rattle.cam_timed.specs.declared.TimedEvent.{TimedEvent}
use Rattle.cam_timed.specs.declared.refusing.TimedRefusal.{TimedRefusal}
use Rattle.cam_timed.specs.KeptSights.{kept_sight}
use Rattle.cam_timed.specs.Moments.{events, moment_of, until_of}
use Rattle.cam_timed.specs.TimedRefusals.{untimed, where_quiesced, where_early, early_want, request_refusal, expire_refusal}
use Rattle.cam_timed.specs.TimedRuns.{IsTimedRun, sight_here}
use Rattle.cam_timed.proofs.Brought.{none_first}
use Rattle.cam_timed.proofs.Standing.{refusal_kept, query_refusal_kept}
use Rattle.cam_timed.proofs.TableSights.{kept_fields}

-- What refuses the end of a top action, besides moments, follows from what tables have.
abbrev against_end : Name → Sight → Option LineRefusal
against_end a g =
    first_of_two (is_not_open g a) (where_so (knows_outcome g a) refusals.NothingToDo)

end_kept : (objects : List ObjectDecl) (T : List TimedEvent) (s : ℕ) (a : Name)
    → IsTimedRun objects T
    → against_end a (kept_sight objects (events T) s []) ≡ against_end a (sight_here objects T s)
end_kept objects T s a run =
    ap (λ (first : List Deed). against_end a (kept_sight objects (events T) s first))
    (sym (none_first (events T) s))
    ∙ sym (ap (λ (g : Sight). against_end a g) (kept_fields objects T s None run tt))

-- of two refusals without time the first counts
both : (one two : Option LineRefusal) (other : Option TimedRefusal)
    → untimed (first_of_two one two) other ≡ untimed one (untimed two other)
both None two other = refl
both (Some r) two other = refl

module _ (objects : List ObjectDecl) (T : List TimedEvent) (run : IsTimedRun objects T) (s : ℕ)
    (a : Name) (home : s ≡ home_node a) (g : Sight)
    (sight : g ≡ kept_sight objects (events T) s []) (refused : Option LineRefusal)
    (early : Option TimedRefusal) where
  -- against a request
  pub request_against : (want : Want) → refused ≡ refusal g a want
      → early ≡ where_quiesced (moment_of T s) (until_of T a) (early_want T (moment_of T s) want)
      → untimed refused early ≡ request_refusal (sight_here objects T (home_node a)) T a want
  request_against want is moments =
      (λ i. untimed (first i) (moments i))
      ∙ ap (λ (n : ℕ). untimed (refusal (sight_here objects T n) a want)
      (where_quiesced (moment_of T n) (until_of T a) (early_want T (moment_of T n) want))) home
    where
      first : refused ≡ refusal (sight_here objects T s) a want
      first =
          is ∙ ap (λ (h : Sight). refusal h a want) sight ∙ refusal_kept objects T s a want run

  -- against an expiry
  pub expire_against : refused ≡ against_end a g
      → early ≡ where_early (moment_of T s) (until_of T a)
      → untimed refused early ≡ expire_refusal (sight_here objects T (home_node a)) T a
  expire_against is moments =
      (λ i. untimed (first i) (moments i))
      ∙ ap (λ (n : ℕ). untimed (against_end a (sight_here objects T n))
      (where_early (moment_of T n) (until_of T a))) home
      ∙ both (is_not_open (sight_here objects T (home_node a)) a)
      (where_so (knows_outcome (sight_here objects T (home_node a)) a) refusals.NothingToDo)
      (where_early (moment_of T (home_node a)) (until_of T a))
    where
      first : refused ≡ against_end a (sight_here objects T s)
      first = is ∙ ap (λ (h : Sight). against_end a h) sight ∙ end_kept objects T s a run

-- against a query
pub query_against :
    (objects : List ObjectDecl) (T : List TimedEvent) (s : ℕ) (f : Name) (g : Sight)
    (result : Option LineRefusal) → IsTimedRun objects T
    → g ≡ kept_sight objects (events T) s [] → result ≡ query_refusal g f
    → result ≡ query_refusal (sight_here objects T s) f
query_against objects T s f g result run sight is =
    is ∙ ap (λ (h : Sight). query_refusal h f) sight ∙ query_refusal_kept objects T s f run
