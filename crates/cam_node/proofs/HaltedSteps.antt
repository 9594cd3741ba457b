-- What may be read at a halt.
use Rattle.std.proofs.Common.{◌≡◌, inl, inr, ◌⊎◌, ℕ, ◌≤◌, false, List, [], ◌∷◌, Option, Result, Ok, Err, sym, ap, ◌∙◌, subst, arith}
use Rattle.cam_type.specs.declared.ObjectDecl.{ObjectDecl}
use Rattle.cam_event.specs.declared.Event.{Event}
use Rattle.cam_event.specs.Inputs.{Input, Mail}
use Rattle.cam_event.specs.Loads.{Load}
use Rattle.cam_commit.specs.Steps.{is_restarting}
use Rattle.cam_recman.specs.declared.Record.{Record}
use Rattle.cam_recman.specs.declared.RecFault.{RecFault}
use Rattle.cam_recman.specs.declared.Recovered.{Recovered}
use Rattle.cam_recman.specs.Ranges.{AreRecords}
use Rattle.cam_recman.specs.Recovery.{with_records, recover}
use Rattle.cam_recman.specs.Says.{Says}
use Rattle.cam_recman.proofs.Said.{said_is_recovered}
use Rattle.cam_log.specs.Moments.{Opened, Grows}
use Rattle.cam_ckpt.specs.Moments.{IsOldOrNew}
use Rattle.cam_node.specs.Log.{Logged}
use Rattle.cam_node.specs.Halting.{IsStepThrough, taken, taken_step}
use Rattle.cam_node.specs.Keeping.{IsLogOf, IsHalt}
use Rattle.cam_node.specs.Opened.{IsKnowledge, MayRead, logged_of}
use Rattle.cam_node.specs.Planned.{HasEntry}
use Rattle.cam_node.specs.Represents.{Node}
use Rattle.cam_node.proofs.KeptSteps.{logged, known_then}

-- What may be read at a halt is what the entries said before, or with the event's entry.
abbrev entries_of : Opened → List (List ℕ)
entries_of (Ok entries) = entries
entries_of (Err fault) = []

abbrev recovered_or : Recovered → Result Recovered RecFault → Recovered
recovered_or r (Ok q) = q
recovered_or r (Err fault) = r

abbrev pub opens_with : List (List ℕ) → Opened
opens_with entries = Ok entries

pub reads_said : (since : ℕ → Opened → Type 0) (n : ℕ) (one : Logged) (read : MayRead since n one)
    (entries : List (List ℕ)) (w : Recovered)
    → opens_with read.entries ≡ opens_with entries → Says entries w → one ≡ logged_of w
reads_said since n one read entries w is said =
    read.is
    ∙ ap logged_of (ap (recovered_or w) (sym read.recovers ∙ ap (λ (o : Opened). recover
    (entries_of o)) is ∙ (said_is_recovered entries w said).0))

read_either : (b n : ℕ) (past since : ℕ → Opened → Type 0) (before after : List (List ℕ)) (r q :
    Recovered) (one : Logged)
    → Says before r → Says after q → ((o : Opened) → past b o → o ≡ Ok before) → Grows b n past
    since (IsOldOrNew before after)
    → ((o : Opened) → since n o → since b o) → MayRead since n one → (one ≡ logged_of r) ⊎ (one ≡
    logged_of q)
read_either b n past since before after r q one says more rest grows back read =
    by (grows.nothing_else b (Ok read.entries) (omega arith) (back (Ok read.entries) read.opens))
  where
    by : past b (Ok read.entries) ⊎ IsOldOrNew before after (Ok read.entries) → (one ≡ logged_of r)
        ⊎ (one ≡ logged_of q)
    by (inl was) = inl (reads_said since n one read before r (rest (Ok read.entries) was) says)
    by (inr (inl old)) = inl (reads_said since n one read before r old says)
    by (inr (inr new)) = inr (reads_said since n one read after q new more)

pub halts : (objects : List ObjectDecl) (old new : Node) (before after : List (List ℕ)) (input :
    Input) (mail : Option Mail) (load : Load) (event : Event) (rs : List Record)
    (b n : ℕ) (past since : ℕ → Opened → Type 0)
    → (1 ≤ old.number) × (old.number ≤ 8) → is_restarting input ≡ false → IsKnowledge new.know →
    AreRecords rs → HasEntry objects old input mail load event rs
    → ((r : Recovered) → Says before r → Says after (with_records r rs)) → IsStepThrough objects
    old new input mail load event
    → ((o : Opened) → past b o → o ≡ Ok before) → Grows b n past since (IsOldOrNew before after) →
    ((o : Opened) → since n o → since b o)
    → IsHalt objects old before input mail load (MayRead since n)
halts objects old new before after input mail load event rs b n past since node plain knows are
    entry says step rest grows back = record {
      either = λ history one keeps may read.
          let s : ℕ = old.number in
          let r : Recovered = keeps.keeps.recovered in
          let has = logged objects old new input mail load event rs history before keeps node plain
          (known_then objects old new input mail load event knows step) are entry step may in
          elim (read_either b n past since before after r (with_records r rs) one keeps.keeps.says
          (says r keeps.keeps.says) rest grows back read) [
            | inl is ↦ inl (subst (λ (l : Logged). IsLogOf objects s history l) (sym is)
                keeps.keeps.is_log)
            | inr is ↦ inr (subst (λ (l : Logged). IsLogOf objects s (taken_step objects s history
                input mail load ∷ history) l) (sym is)
                (subst (λ (e : Event). IsLogOf objects s (taken (record {
                  event = e;
                  mail = mail;
                  load
                      = load;
                }) ∷ history) (logged_of (with_records r rs)))
                (step.next history keeps.through keeps.represents may) has.taken_so))
          ];
    }
