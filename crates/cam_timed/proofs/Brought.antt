-- What a letter brings, and the first Informs of its arrival: of the outcomes of which its sender was informed, by how many there were then.
use Rattle.std.proofs.Common.{◌≡◌, if◌then◌else◌, ℕ, Bool, true, false, not, ◌&&◌, List, [], ◌++◌, map, filter, take, Some, None, refl, sym, ap, ◌∙◌}
use Rattle.std.specs.Prelude.{flat_map}
use Rattle.std.specs.List.{list_any}
use Rattle.cam_names.specs.declared.name.Name.{Name}
use Rattle.cam_names.specs.Names.{name_eq}
use Rattle.cam_type.specs.declared.ObjectDecl.{ObjectDecl}
use Rattle.cam_event.specs.declared.Event.{Event}
use Rattle.cam_event.specs.declared.Deed.{Deed}
use Rattle.cam_event.specs.declared.Deed.TheVariants.{Inform}
use Rattle.cam_event.specs.History.{committed, aborted, informed}
use Rattle.cam_event.specs.Rules.{informs}
use Rattle.cam_event.specs.ByPast.{abort_in, commit_in, own_past, letter_past}
use Rattle.cam_event.proofs.NewestPasts.{plain_none}
use Rattle.cam_event.proofs.SortedNames.{sorted_same}
use Rattle.cam_cut.proofs.Informs.{any_aborts, any_commits, any_filter_name}
use Rattle.cam_own.specs.Informed.{commits_of, aborts_of}
use Rattle.cam_timed.specs.declared.TimedEvent.{TimedEvent}
use Rattle.cam_timed.specs.declared.machine.Letter.{Letter}
use Rattle.cam_timed.specs.Held.{own_until, BringsWhatWasHeld}
use Rattle.cam_timed.specs.Machine.{deeds_of, KeepsLetter}
use Rattle.cam_timed.specs.Moments.{events}
use Rattle.cam_timed.specs.Travelling.{brings_aborts, carrier, abort_paths, timed_informs}
use Rattle.cam_timed.specs.TimedRuns.{IsTimedRun}
use Rattle.cam_timed.proofs.Held.{letters_bring_what_was_held}
use Rattle.cam_timed.proofs.Holding.{TimedHolds}
use Rattle.cam_timed.proofs.RuleHolds.{timed_holds}
use Rattle.cam_timed.proofs.ToldNames.{told_commits, told_aborts}
use Rattle.cam_timed.proofs.WereTold.{WereTold, were_told}

-- Without a letter there are none.
pub none_first : (t : List Event) (s : ℕ) → timed_informs t s None ≡ []
none_first t s = λ i.
    informs s (filter (λ a. not (aborted (own_past (abort_paths t) s) a)) (flat_map abort_in (plain_none (abort_paths t) i)))
    (filter (λ a. not (committed (own_past t s) a)) (flat_map commit_in (plain_none t i)))

-- the commits and the aborts that a letter brings, as its sender has them in order
abbrev pub brought_commits : List Event → Letter → List Name
brought_commits t letter =
    take letter.commits (commits_of (deeds_of t letter.mail.from) letter.mail.from)

abbrev pub brought_aborts : List Event → Letter → List Name
brought_aborts t letter =
    take letter.aborts (aborts_of (deeds_of t letter.mail.from) letter.mail.from)

-- They are in the past of its sender, the aborts along the paths on which aborts travel.
pub record Brings (t : List Event) (letter : Letter) (a : Name) : Type 0 where
  pub commits :
      list_any (name_eq a) (brought_commits t letter)
      ≡ committed (letter_past t (Some letter.id)) a
  pub aborts :
      list_any (name_eq a) (brought_aborts t letter)
      ≡ aborted (letter_past (abort_paths t) (carrier t (Some letter.id))) a

pub letter_brings :
    (objects : List ObjectDecl) (T : List TimedEvent) (letter : Letter) (a : Name)
    → IsTimedRun objects T → KeepsLetter T letter → Brings (events T) letter a
letter_brings objects T letter a run keeps = record {
  commits =
      ap (list_any (name_eq a)) told.commits ∙ sym (told_commits then_told from a)
      ∙ sym brings.commits;
  aborts =
      ap (list_any (name_eq a)) told.aborts ∙ in_aborts (brings_aborts letter.mail.body)
      ∙ sym brings.aborts;
}
  where
    t : List Event
    t = events T

    from : ℕ
    from = letter.mail.from

    then_told : List Deed
    then_told = own_until t letter.id.event

    told : WereTold t letter
    told = were_told T letter keeps

    brings : BringsWhatWasHeld t letter.id letter.mail a
    brings = letters_bring_what_was_held objects T letter.id letter.mail a run keeps.mail

    in_aborts : (b : Bool)
        → list_any (name_eq a) (if b then aborts_of then_told from else [])
        ≡ (b && informed then_told from a false)
    in_aborts true = sym (told_aborts then_told from a)
    in_aborts false = refl

-- Informs of the same names are the same
same_informs :
    (s : ℕ) (xs ys vs ws : List Name)
    → ((a : Name) → list_any (name_eq a) xs ≡ list_any (name_eq a) vs)
    → ((a : Name) → list_any (name_eq a) ys ≡ list_any (name_eq a) ws)
    → informs s xs ys ≡ informs s vs ws
same_informs s xs ys vs ws one other = λ i.
    map (λ a. Inform s a false) (sorted_same xs vs one i)
    ++ map (λ a. Inform s a true) (sorted_same ys ws other i)

-- The first Informs are of those of which the node was not informed.
pub firsts_same :
    (objects : List ObjectDecl) (T : List TimedEvent) (s : ℕ) (letter : Letter)
    → IsTimedRun objects T → KeepsLetter T letter
    → informs s
    (filter (λ a. not (informed (deeds_of (events T) s) s a false))
    (brought_aborts (events T) letter))
    (filter (λ a. not (informed (deeds_of (events T) s) s a true))
    (brought_commits (events T) letter))
    ≡ timed_informs (events T) s (Some letter.id)
firsts_same objects T s letter run keeps =
    same_informs s (filter new_abort (brought_aborts t letter))
    (filter new_commit (brought_commits t letter))
    (filter (λ a. not (aborted (own_past paths s) a))
    (flat_map abort_in (letter_past paths (carrier t (Some letter.id)))))
    (filter (λ a. not (committed (own_past t s) a))
    (flat_map commit_in (letter_past t (Some letter.id)))) each_abort each_commit
  where
    t : List Event
    t = events T

    paths : List Event
    paths = abort_paths t

    new_commit : Name → Bool
    new_commit a = not (informed (deeds_of t s) s a true)

    new_abort : Name → Bool
    new_abort a = not (informed (deeds_of t s) s a false)

    holds : TimedHolds objects t
    holds = timed_holds objects T run

    brings : (a : Name) → Brings t letter a
    brings a = letter_brings objects T letter a run keeps

    each_commit : (a : Name)
        → list_any (name_eq a) (filter new_commit (brought_commits t letter))
        ≡ list_any (name_eq a) (filter (λ b. not (committed (own_past t s) b))
        (flat_map commit_in (letter_past t (Some letter.id))))
    each_commit a =
        let past = letter_past t (Some letter.id) in
        any_filter_name new_commit a (brought_commits t letter)
        ∙ (λ i. not (holds.told s a true i) && ((brings a).commits ∙ sym (any_commits a past)) i)
        ∙ sym (any_filter_name (λ b. not (committed (own_past t s) b)) a (flat_map commit_in past))

    each_abort : (a : Name)
        → list_any (name_eq a) (filter new_abort (brought_aborts t letter))
        ≡ list_any (name_eq a) (filter (λ b. not (aborted (own_past paths s) b))
        (flat_map abort_in (letter_past paths (carrier t (Some letter.id)))))
    each_abort a =
        let past = letter_past paths (carrier t (Some letter.id)) in
        any_filter_name new_abort a (brought_aborts t letter)
        ∙ (λ i. not (holds.told s a false i) && ((brings a).aborts ∙ sym (any_aborts a past)) i)
        ∙ sym (any_filter_name (λ b. not (aborted (own_past paths s) b)) a (flat_map abort_in past))
