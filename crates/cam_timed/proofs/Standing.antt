-- Tables that have what the events of a run by time say, with first Informs, stand for what a node goes by.
use Rattle.std.proofs.Common.{◌≡◌, inl, inr, ℕ, List, [], ◌∷◌, length, Option, Some, None, refl, sym, ap, ◌∙◌, subst}
use Rattle.std.specs.Prelude.{nat_le}
use Rattle.std.proofs.lemmas.Bool.{leb-false}
use Rattle.cam_names.specs.declared.name.Name.{Name}
use Rattle.cam_names.specs.Names.{parent, home_node}
use Rattle.cam_type.specs.declared.ObjectDecl.{ObjectDecl}
use Rattle.cam_event.specs.declared.Event.{Event}
use Rattle.cam_event.specs.declared.LetterId.{LetterId}
use Rattle.cam_event.specs.declared.LineRefusal.TheVariants as refusals
use Rattle.cam_event.specs.declared.Want.{Want}
use Rattle.cam_event.specs.declared.Want.TheVariants as wants
use Rattle.cam_event.specs.declared.Deed.{Deed}
use Rattle.cam_event.specs.declared.Deed.TheVariants.{Ask}
use Rattle.cam_event.specs.History.{after, count}
use Rattle.cam_event.specs.Pasts.{plain_all, every, IsEarlier}
use Rattle.cam_event.specs.Refusals.{refusal, query_refusal, has_ended, has_call, is_not_open}
use Rattle.cam_event.specs.Runs.{IsNode}
use Rattle.cam_event.specs.Sights.{Sight, entries}
use Rattle.cam_event.proofs.Members.{In}
use Rattle.cam_plain.specs.Legal.{Legal}
use Rattle.cam_plain.proofs.Performed.{runs_created, created_named}
use Rattle.cam_cut.proofs.HomeFacts.{child_parent}
use Rattle.cam_cut.proofs.HomeLines.{first_none, where_none}
use Rattle.cam_cut.proofs.Holds.{every_part}
use Rattle.cam_cut.proofs.Firsts.{keep_each}
use Rattle.cam_own.specs.declared.own.Own.{Own}
use Rattle.cam_own.specs.declared.all_nodes.AllNodes.{AllNodes}
use Rattle.cam_own.specs.Own.{KeepsOwn}
use Rattle.cam_own.specs.AllNodes.{KeepsAllNodes}
use Rattle.cam_timed.specs.declared.TimedEvent.{TimedEvent}
use Rattle.cam_timed.specs.declared.ruled.NodeInput.{NodeInput}
use Rattle.cam_timed.specs.declared.ruled.NodeInput.TheVariants as inputs
use Rattle.cam_timed.specs.Here.{AskedByParents, StandHere, input_of, HasPlaceHere}
use Rattle.cam_timed.specs.KeptSights.{kept_sight}
use Rattle.cam_timed.specs.Machine.{deeds_of}
use Rattle.cam_timed.specs.Moments.{events}
use Rattle.cam_timed.specs.TimedRuns.{TimedMayCome, IsTimedRun, sight_here}
use Rattle.cam_timed.specs.Travelling.{carrier, abort_paths, timed_informs}
use Rattle.cam_timed.proofs.Brought.{none_first}
use Rattle.cam_timed.proofs.Holding.{TimedHolds}
use Rattle.cam_timed.proofs.RuleHolds.{timed_holds}
use Rattle.cam_timed.proofs.TableSights.{kept_fields}
use Rattle.cam_timed.proofs.TimedSees.{timed_sees, untimed_none}
use Rattle.cam_timed.proofs.Told.{first_each}

-- a child was asked for by its parent
asked_parent : (objects : List ObjectDecl) (L : List Deed) (p b : Name) → Legal objects L → In (Ask p b) L → parent b ≡ Some p
asked_parent objects [] p b legal i = absurd i
asked_parent objects (d ∷ L) p b legal (inl e) =
    let line = subst (λ (x : Deed). Legal objects (x ∷ L)) (sym e) legal in
    child_parent p b (created_named objects L p legal.1 (runs_created L p line.0.running)) line.0.child
asked_parent objects (d ∷ L) p b legal (inr r) = asked_parent objects L p b legal.1 r

all_asked : (L : List Deed) → ((p b : Name) → In (Ask p b) L → parent b ≡ Some p) → AskedByParents L
all_asked [] h = tt
all_asked (Ask p b ∷ L) h = (h p b (inl refl), all_asked L (λ q c i. h q c (inr i)))
all_asked (_ ∷ L) h = all_asked L (λ q c i. h q c (inr i))

-- The tables stand.
pub stand_here : (objects : List ObjectDecl) (T : List TimedEvent) (s : ℕ) (got : Option LetterId) (first : List Deed) (own : Own) (all_nodes : AllNodes)
    → IsTimedRun objects T → IsEarlier (length (events T)) got → IsNode s → first ≡ timed_informs (events T) s got
    → KeepsOwn objects s (after (deeds_of (events T) s) first) (entries (events T) s) own → KeepsAllNodes objects (after (plain_all (events T)) first) all_nodes
    → StandHere objects (events T) s first own all_nodes
stand_here objects T s got first own all_nodes run early node is keeps_own keeps_all_nodes =
    let sees = timed_sees objects t s got every holds early (every_part t s got) in
    let each = first_each t (abort_paths t) s got (carrier t got) in
    record {
      node = node;
      keeps_own = keeps_own;
      keeps_all_nodes = keeps_all_nodes;
      count = ap (λ (ds : List Deed). count (after (deeds_of t s) ds) s) is ∙ sees.same_count ∙ keep_each (λ L. count L s) (λ r b o L. refl) s informs each (plain_all t) ∙ holds.no_crash s;
      asked = all_asked (after (deeds_of t s) first) (λ p b i. asked_parent objects (after (plain_all t) informs) p b sees.legal (sees.own_fewer (Ask p b) (subst (λ (ds : List Deed). In (Ask p b) (after (deeds_of t s) ds)) is i)));
    }
  where
    t : List Event
    t = events T

    informs : List Deed
    informs = timed_informs t s got

    holds : TimedHolds objects t
    holds = timed_holds objects T run

-- What refuses a line follows from what tables have.
pub refusal_kept : (objects : List ObjectDecl) (T : List TimedEvent) (s : ℕ) (a : Name) (want : Want) → IsTimedRun objects T
    → refusal (kept_sight objects (events T) s []) a want ≡ refusal (sight_here objects T s) a want
refusal_kept objects T s a want run =
    ap (λ (first : List Deed). refusal (kept_sight objects (events T) s first) a want) (sym (none_first (events T) s))
    ∙ sym (ap (λ (g : Sight). refusal g a want) (kept_fields objects T s None run tt))

pub query_refusal_kept : (objects : List ObjectDecl) (T : List TimedEvent) (s : ℕ) (f : Name) → IsTimedRun objects T
    → query_refusal (kept_sight objects (events T) s []) f ≡ query_refusal (sight_here objects T s) f
query_refusal_kept objects T s f run =
    ap (λ (first : List Deed). query_refusal (kept_sight objects (events T) s first) f) (sym (none_first (events T) s))
    ∙ sym (ap (λ (g : Sight). query_refusal g f) (kept_fields objects T s None run tt))

-- A child or a call that may be asked for has a place.
pub has_place : (objects : List ObjectDecl) (T : List TimedEvent) (input : NodeInput) → TimedMayCome objects T (input_of input) → HasPlaceHere objects input
has_place objects T (inputs.Begin s until) may = tt
has_place objects T (inputs.Request a (wants.Ask m) until) may =
    let g : Sight = sight_here objects T (home_node a) in
    let free = (untimed_none (refusal g a (wants.Ask m)) _ may.0).0 in
    let rest = (first_none (is_not_open g a) _ (first_none (has_call g a) _ (first_none (has_ended g a) _ free).1).1).1 in
    (leb-false 8 (length a) (where_none (nat_le 8 (length a)) refusals.TooDeep rest), may.1)
has_place objects T (inputs.Request a (wants.Call x op) until) may = may.1.1
has_place objects T (inputs.Request a (wants.Commit v) until) may = tt
has_place objects T (inputs.Request a wants.Abort until) may = tt
has_place objects T (inputs.Request a (wants.GiveUp b) until) may = tt
has_place objects T (inputs.Letter id) may = tt
has_place objects T (inputs.Tell s to) may = may.1
has_place objects T (inputs.Query s f) may = tt
has_place objects T (inputs.Tick s moment) may = tt
has_place objects T (inputs.Expire a) may = tt
