-- One more step of a node by a prepare that comes, and by a finish of a top action.
use Rattle.std.proofs.Common.{inl, inr, ◌≡◌, ℕ, Bool, true, false, not, ◌&&◌, ◌||◌, if◌then◌else◌, List, ◌∷◌, Option, Some, None, ap, ◌∙◌, refl}
use Rattle.std.specs.Prelude.{is_some}
use Rattle.std.specs.List.{list_any}
use Rattle.std.proofs.lemmas.Bool.{cases_Bool, and_parts, or_parts, eq-eqb}
use Rattle.std.proofs.lemmas.List.Folds.{list_any-append}
use Rattle.cam_names.specs.declared.name.Name.{Name}
use Rattle.cam_names.specs.Names.{name_eq}
use Rattle.cam_names.specs.Dependencies.{pairs_of, has_pair}
use Rattle.cam_names.proofs.Names.{name_eq_sym}
use Rattle.cam_know.specs.Known.{new_aborts, new_commits}
use Rattle.cam_know.specs.declared.Reason.{Reason}
use Rattle.cam_event.specs.declared.Body.{Body}
use Rattle.cam_event.specs.declared.Deed.{Deed}
use Rattle.cam_event.specs.declared.Note.TheVariants as notes
use Rattle.cam_event.specs.History.{is_secure_at}
use Rattle.cam_event.specs.Sights.{Sight, yes_in, is_preparing_note}
use Rattle.cam_event.specs.Rules.{Did, nothing_but, prepares, arrives}
use Rattle.cam_event.specs.ByKnowledge.{held, held_sight, held_informs}
use Rattle.cam_event.specs.Carried.{Carried}
use Rattle.cam_commit.specs.declared.Asked.{Asked}
use Rattle.cam_commit.specs.declared.Asked.TheVariants as asked
use Rattle.cam_commit.specs.Families.{CommitsFamilies}
use Rattle.cam_commit.specs.Calls.{AreSame}
use Rattle.cam_commit.specs.Events.{BeginsNone, SecuresNone, CountsNone}
use Rattle.cam_commit.specs.Steps.{is_late, is_finish_of, is_prepare_of, did_asked}
use Rattle.cam_commit.specs.Stepping.{received, asked_at, is_begun, TakesPrepare, PrepareStepKeeps, FinishStepKeeps}
use Rattle.cam_commit.proofs.Calling.{quiet_keeps, prepare_keeps, secure_keeps}
use Rattle.cam_commit.proofs.RuleCalls.{top_finish_is_rule, asked_is_rule}
use Rattle.cam_commit.proofs.Sights.{sight_is_answered}
use Rattle.cam_commit.proofs.StepKinds.{informs_secure_none}
use Rattle.cam_commit.proofs.Stepping.{kind_of, begins_none, secures_none}

itself : (x : Bool) → ((x && true) || false) ≡ x
itself true = refl
itself false = refl

pub prepare_step_keeps : PrepareStepKeeps
prepare_step_keeps objects s before letter mail brought f n old new at takes commits = by (asked_at g old f n) refl takes
  where
    c : Carried
    c = received objects s before letter mail brought

    g : Sight
    g = held_sight objects s before brought

    first : List Deed
    first = held_informs objects s before brought

    ds : List Deed
    ds = (arrives objects g mail.from mail.body).deeds

    begins : BeginsNone c
    begins = begins_none objects s before letter mail brought (λ h. ap (is_finish_of h) at)

    counts : CountsNone objects before c old
    counts = λ h m k undecided preparing. ap (λ (b : Body). has_pair (yes_in h mail.from b) m k) at

    secures_as : (r : Asked) → asked_at g old f n ≡ r → (h : Name)
        → list_any (is_secure_at h s) c.event.deeds ≡ list_any (is_secure_at h s) (did_asked g f n r).deeds
    secures_as r is h =
        list_any-append (is_secure_at h s) first ds
        ∙ ap (λ b. b || list_any (is_secure_at h s) ds) (informs_secure_none h s (new_aborts brought (held objects before)) (new_commits brought (held objects before)))
        ∙ ap (λ (d : Did). list_any (is_secure_at h s) d.deeds)
        (ap (λ (b : Body). arrives objects g mail.from b) at
        ∙ asked_is_rule g old f n (sight_is_answered objects s before brought old commits) ∙ ap (did_asked g f n) is)

    quiet : SecuresNone s c → AreSame old new → CommitsFamilies objects s (c ∷ before) new
    quiet none same =
        quiet_keeps objects s before c old new
        (record { no_restart = (kind_of objects s before letter mail brought).restarts; begins = begins; counts = counts; secures = none }) same commits

    by : (r : Asked) → asked_at g old f n ≡ r → TakesPrepare f r old new → CommitsFamilies objects s (c ∷ before) new
    by asked.Secure is takes =
        secure_keeps objects s before c f old new
        (record {
          no_restart = (kind_of objects s before letter mail brought).restarts;
          begins = begins;
          counts = counts;
          secures = λ h.
              secures_as asked.Secure is h ∙ ap (λ b. (name_eq h f && b) || false) (eq-eqb s s refl) ∙ itself (name_eq h f) ∙ name_eq_sym h f;
        })
        takes commits
    by asked.AlreadyYes is takes = quiet (secures_as asked.AlreadyYes is) takes
    by asked.Refuse is takes = quiet (secures_as asked.Refuse is) takes
    by asked.Late is takes = quiet (secures_as asked.Late is) takes

not_so : (b : Bool) → not b ≡ true → b ≡ false
not_so true h = cc
not_so false h = refl

-- the note of a finish is that its family is begun, where it is
note_when : (g : Sight) (f h : Name) (late : Bool) (reason : Option Reason)
    → is_preparing_note h (if late then nothing_but notes.Late else prepares g f reason).note ≡ ((not late && not (is_some reason)) && name_eq f h)
note_when g f h true reason = refl
note_when g f h false None = name_eq_sym h f
note_when g f h false (Some reason) = refl

pub finish_step_keeps : FinishStepKeeps
finish_step_keeps objects s before letter mail brought f v counts old new at top takes commits =
    elim (cases_Bool (is_begun g old f)) [
      | inl begun ↦
          let parts = and_parts (not (is_late g f || old.is_preparing f)) (not (is_some (g.orphan f (pairs_of (g.deps f))))) begun in
          prepare_keeps objects s before c f old new
          (record {
            no_restart = (kind_of objects s before letter mail brought).restarts;
            note = λ h. note_is h ∙ ap (λ b. b && name_eq f h) begun;
            fresh = (or_parts (is_late g f) (old.is_preparing f) (not_so (is_late g f || old.is_preparing f) parts.0)).1;
            no_vote = no_vote;
            secures = secures;
          })
          (takes.begun begun) commits
      | inr other ↦
          quiet_keeps objects s before c old new
          (record {
            no_restart = (kind_of objects s before letter mail brought).restarts;
            begins = λ h. note_is h ∙ ap (λ b. b && name_eq f h) other;
            counts = λ h m k undecided preparing. no_vote h m k;
            secures = secures;
          })
          (takes.other other) commits
    ]
  where
    c : Carried
    c = received objects s before letter mail brought

    g : Sight
    g = held_sight objects s before brought

    secures : SecuresNone s c
    secures = secures_none objects s before letter mail brought (λ h. ap (is_prepare_of h) at)

    no_vote : (h : Name) (m k : ℕ) → has_pair (yes_in h mail.from mail.body) m k ≡ false
    no_vote h m k = ap (λ (b : Body). has_pair (yes_in h mail.from b) m k) at

    note_is : (h : Name) → is_preparing_note h c.event.note ≡ (is_begun g old f && name_eq f h)
    note_is h =
        ap (λ (d : Did). is_preparing_note h d.note)
        (ap (λ (b : Body). arrives objects g mail.from b) at
        ∙ top_finish_is_rule objects g old mail.from f v counts top (sight_is_answered objects s before brought old commits))
        ∙ note_when g f h (is_late g f || old.is_preparing f) (g.orphan f (pairs_of (g.deps f)))
