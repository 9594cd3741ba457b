-- One more step of a node by a vote that comes.
use Rattle.std.proofs.Common.{inl, inr, ◌≡◌, ℕ, Bool, true, false, ◌||◌, if◌then◌else◌, List, Some, sym, ap, ◌∙◌, refl}
use Rattle.std.specs.List.{list_any}
use Rattle.std.proofs.lemmas.Bool.{cases_Bool, true≢false, false_from_ne_true, or_left}
use Rattle.std.proofs.lemmas.List.Folds.{list_any-append}
use Rattle.cam_names.specs.declared.name.Name.{Name}
use Rattle.cam_names.proofs.Names.{name_eq_refl}
use Rattle.cam_type.specs.declared.ObjectDecl.{ObjectDecl}
use Rattle.cam_know.specs.Knowledge.{Knowledge}
use Rattle.cam_event.specs.declared.Body.{Body}
use Rattle.cam_event.specs.declared.Deed.{Deed}
use Rattle.cam_event.specs.declared.LetterId.{LetterId}
use Rattle.cam_event.specs.declared.Note.TheVariants as notes
use Rattle.cam_event.specs.History.{is_commit, is_abort, is_secure_at}
use Rattle.cam_event.specs.Inputs.{Receives, Mail}
use Rattle.cam_event.specs.Sights.{Sight, is_preparing_note}
use Rattle.cam_event.specs.Rules.{Did, nothing_but, arrives}
use Rattle.cam_event.specs.ByKnowledge.{held_sight, held_informs}
use Rattle.cam_event.specs.Carried.{Carried}
use Rattle.cam_commit.specs.declared.Voted.{Voted}
use Rattle.cam_commit.specs.declared.Voted.TheVariants as voted
use Rattle.cam_commit.specs.Calls.{yes, ends, voted_by}
use Rattle.cam_commit.specs.Events.{BeginsNone, SecuresNone}
use Rattle.cam_commit.specs.Steps.{is_late, is_finish_of, is_prepare_of, did_voted, IsOfKind}
use Rattle.cam_commit.specs.Stepping.{received, VoteStepKeeps}
use Rattle.cam_commit.proofs.Calling.{quiet_keeps, vote_keeps}
use Rattle.cam_commit.proofs.RuleCalls.{voted_is_rule}
use Rattle.cam_commit.proofs.Sights.{sight_is_answered}
use Rattle.cam_commit.proofs.StepKinds.{steps_are_of_kind}
use Rattle.cam_commit.proofs.LateVotes.{late_counts_none}

pub kind_of : (objects : List ObjectDecl) (s : ℕ) (before : List Carried) (letter : LetterId) (mail : Mail) (brought : Knowledge)
    → IsOfKind s (Receives letter) (received objects s before letter mail brought)
kind_of objects s before letter mail brought = steps_are_of_kind objects s before (Receives letter) (Some mail) brought

-- but for a finish a letter begins none, and but for a prepare it secures none
pub begins_none : (objects : List ObjectDecl) (s : ℕ) (before : List Carried) (letter : LetterId) (mail : Mail) (brought : Knowledge)
    → ((f : Name) → is_finish_of f mail.body ≡ false) → BeginsNone (received objects s before letter mail brought)
begins_none objects s before letter mail brought none f =
    false_from_ne_true (is_preparing_note f (received objects s before letter mail brought).event.note)
    (λ is. true≢false (sym ((kind_of objects s before letter mail brought).begins f is) ∙ none f))

pub secures_none : (objects : List ObjectDecl) (s : ℕ) (before : List Carried) (letter : LetterId) (mail : Mail) (brought : Knowledge)
    → ((f : Name) → is_prepare_of f mail.body ≡ false) → SecuresNone s (received objects s before letter mail brought)
secures_none objects s before letter mail brought none f =
    false_from_ne_true (list_any (is_secure_at f s) (received objects s before letter mail brought).event.deeds)
    (λ is. true≢false (sym ((kind_of objects s before letter mail brought).secures f is) ∙ none f))

either : (a b c d : Bool) → (b || d) ≡ true → ((a || b) || (c || d)) ≡ true
either true b c d h = refl
either false true c d h = refl
either false false true d h = refl
either false false false d h = h

-- a vote that decides commits its family, or aborts it
decided_by : (g : Sight) (f : Name) (r : Voted) → ends r ≡ true
    → (list_any (is_commit f) (did_voted g f r).deeds || list_any (is_abort f) (did_voted g f r).deeds) ≡ true
decided_by g f voted.All h = or_left _ _ (or_left _ _ (name_eq_refl f))
decided_by g f voted.No h = or_left _ _ (name_eq_refl f)
decided_by g f voted.Some h = cc
decided_by g f voted.Late h = cc

pub vote_step_keeps : VoteStepKeeps
vote_step_keeps objects s before letter mail brought f n agrees old new at here takes commits =
    elim (cases_Bool (is_late g f)) [
      | inl late ↦
          quiet_keeps objects s before c old new
          (record {
            no_restart = (kind_of objects s before letter mail brought).restarts;
            begins = begins;
            counts = late_counts_none objects s before letter mail brought f n agrees old at here commits late;
            secures = secures;
          })
          (takes.late late) commits
      | inr in_time ↦
          vote_keeps objects s before c f mail.from n agrees result old new
          (record {
            no_restart = (kind_of objects s before letter mail brought).restarts;
            begins = begins;
            vote = (mail, refl, refl, at);
            decides = decides in_time;
            secures = secures;
          })
          (takes.in_time in_time) commits
    ]
  where
    c : Carried
    c = received objects s before letter mail brought

    g : Sight
    g = held_sight objects s before brought

    first : List Deed
    first = held_informs objects s before brought

    ds : List Deed
    ds = (arrives objects g mail.from mail.body).deeds

    result : Voted
    result = voted_by old (yes f mail.from n) agrees (g.deps f)

    begins : BeginsNone c
    begins = begins_none objects s before letter mail brought (λ h. ap (is_finish_of h) at)

    secures : SecuresNone s c
    secures = secures_none objects s before letter mail brought (λ h. ap (is_prepare_of h) at)

    rule_is : is_late g f ≡ false → arrives objects g mail.from mail.body ≡ did_voted g f result
    rule_is in_time =
        ap (λ (b : Body). arrives objects g mail.from b) at
        ∙ voted_is_rule g old mail.from f n agrees (sight_is_answered objects s before brought old commits)
        ∙ ap (λ (b : Bool). if b then nothing_but notes.Late else did_voted g f result) in_time

    decides : is_late g f ≡ false → ends result ≡ true → (list_any (is_commit f) c.event.deeds || list_any (is_abort f) c.event.deeds) ≡ true
    decides in_time is =
        (λ i. list_any-append (is_commit f) first ds i || list_any-append (is_abort f) first ds i)
        ∙ either (list_any (is_commit f) first) (list_any (is_commit f) ds) (list_any (is_abort f) first) (list_any (is_abort f) ds)
        (ap (λ (d : Did). list_any (is_commit f) d.deeds || list_any (is_abort f) d.deeds) (rule_is in_time) ∙ decided_by g f result is)
