-- The answer to words, by the command of which they are the form.
use Rattle.std.proofs.Common.{◌≡◌, ◌↔◌, ◌⊎◌, inl, inr, ℕ, Bool, List, [], Option, Some, None, Result, Ok, Err}
use Rattle.std.proofs.Common.{IfOk, refl, sym, ap, subst}
use Rattle.std.proofs.lemmas.Result.{IfOk-weaker}
use Rattle.cam_base.specs.Told.{IfTold}
use Rattle.cam_base.proofs.Told.{if_told_weaker}
use Rattle.cam_args.specs.declared.Command.{Command}
use Rattle.cam_args.specs.declared.Command.TheVariants.{Storm}
use Rattle.cam_args.specs.declared.ArgsFault.{ArgsFault}
use Rattle.cam_args.specs.declared.ArgsFault.TheVariants.{Usage, NoMemory}
use Rattle.cam_args.specs.Forms.{IsCommand, IsForm, IsFrom, Finds, IsNoForm, UnlessNoMemory}
use Rattle.cam_event.specs.declared.Event.{Event}
use Rattle.cam_gen.specs.Storms.{Words}
use Rattle.cam_run.specs.declared.answer.Answer.{Answer}
use Rattle.cam_run.specs.Status.{number}
use Rattle.cam_cluster.specs.declared.fault.RunFault.TheVariants as faults
use Rattle.cam_run.specs.declared.status.Status.TheVariants as statuses
use Rattle.cam_run.specs.Texts.{disk_fault_text}
use Rattle.cam_run.specs.Disks.{IsCaused, IsNamed, OneFailed}
use Rattle.cam_run.specs.Answer.{IsAnswer, IsOfCommand, IsOfDisk, IsOfStorm, NamesDisk, Outcome}
use Rattle.cam_run.specs.Answer.{command_status, nodes_for}
use Rattle.cam_run.specs.Commands.{storm_of}
use Rattle.cam_run.proofs.CommandStatus.{command_has_status}

-- the command that words are the form of is one alone
command_of : Result Command ArgsFault → Command → Command
command_of (Ok command) other = command
command_of (Err fault) other = other

pub same_command : (words : List (List ℕ)) (command other : Command)
    → Finds words (Ok command) → IsForm words other → command ≡ other
unfolding command_of
same_command words command other finds form =
    ap (λ (r : Result Command ArgsFault). command_of r other) (finds other form)

-- the answer where the disk of one of so many nodes failed
pub of_disk : {E : Type 0} (nodes : ℕ) (failed : ℕ → Type 0) (node : ℕ) (Else : Answer → Type 0)
    (r : Result Answer E)
    → IsCaused nodes failed (faults.DiskFault node)
    → IfOk r (λ a. a.status ≡ statuses.DiskFault)
    → IfOk r (λ a. a.text.items ≡ disk_fault_text node)
    → IfOk r (λ a. IsOfDisk nodes failed (number a.status) a.text.items ⊎ Else a)
of_disk nodes failed node Else (Err e) cause status text = tt
of_disk nodes failed node Else (Ok a) cause status text =
    inl (record {
      one = record { node = node; high = cause.0; did = cause.1 };
      first = cause.2;
      is = ap number status;
      names = text;
    })

-- and where it kept a run from its end
pub of_named : {E : Type 0} (nodes : ℕ) (failed : ℕ → Type 0) (node : ℕ) (Else : Answer → Type 0)
    (r : Result Answer E)
    → IsNamed nodes failed (faults.DiskFault node)
    → IfOk r (λ a. a.status ≡ statuses.DiskFault)
    → IfOk r (λ a. a.text.items ≡ disk_fault_text node)
    → IfOk r (λ a. NamesDisk nodes failed (number a.status) a.text.items ⊎ Else a)
of_named nodes failed node Else (Err e) cause status text = tt
of_named nodes failed node Else (Ok a) cause status text =
    inl (record {
      one = record { node = node; high = cause.0; did = cause.1 };
      is = ap number status;
      names = text;
    })

-- what is said of the command that was read is said of each command of which the words are the form
pub of_words : (words : List (List ℕ)) (command : Command) (P : Command → List ℕ → Type 0)
    (old new : Option (List ℕ))
    → Finds words (Ok command) → IfTold old new (λ input _. P command input)
    → IfTold old new (λ input _. (other : Command) → IsForm words other → P other input)
of_words words command P old new finds told =
    if_told_weaker old new
    (λ input rest said other form.
    subst (λ (c : Command). P c input) (same_command words command other finds form) said)
    told

-- the answer to a command, from what is told of it before it is known whether it was made, and
-- whether the source tells its bytes
pub answers_words : {E : Type 0} (words : List (List ℕ)) (command : Command) (outcome : Outcome)
    (old new : Option (List ℕ)) (r : Result Answer E)
    → IsForm words command
    → IfTold old new
    (λ input _.
    IfOk r (λ a. IsOfCommand command outcome input (number a.status) a.text.items))
    → IfTold old new
    (λ input _. IfOk r (λ a. IsAnswer words outcome input (number a.status) a.text.items))
answers_words words command outcome old new r form told =
    if_told_weaker old new
    (λ input rest said. IfOk-weaker r _ _ (λ a is. inr (command, form, is)) said)
    told

-- and its status
pub completes_words : {E : Type 0} (words : List (List ℕ)) (command : Command) (outcome : Outcome)
    (old new : Option (List ℕ)) (r : Result Answer E)
    → Finds words (Ok command)
    → IfTold old new
    (λ input _.
    IfOk r (λ a. IsOfCommand command outcome input (number a.status) a.text.items))
    → IfTold old new
    (λ input _. (other : Command) → IsForm words other
    → IfOk r
    (λ a. (outcome.source_failed → ⊥) → (OneFailed (nodes_for other input) outcome.disks.failed → ⊥)
    → number a.status ≡ command_status other input))
completes_words words command outcome old new r finds told =
    of_words words command
    (λ (c : Command) (input : List ℕ).
    IfOk r
    (λ a. (outcome.source_failed → ⊥) → (OneFailed (nodes_for c input) outcome.disks.failed → ⊥)
    → number a.status ≡ command_status c input))
    old new finds
    (if_told_weaker old new
    (λ input rest said.
    IfOk-weaker r _ _
    (λ a is.
    command_has_status command outcome input (number a.status) a.text.items is)
    said)
    told)

-- the answer to the words of a storm is that to the command that asks for it
pub storm_answers : {E : Type 0} (command : Command) (storm : Words) (threads : ℕ)
    (outcome : Outcome) (r : Result Answer E)
    → command ≡ Storm storm.seed storm.actions threads storm.calm
    → IfOk r (λ a. IsOfStorm storm outcome.disks.failed (outcome.disks.keep_storm storm) (number a.status) a.text.items)
    → (input : List ℕ)
    → IfOk r (λ a. IsOfCommand command outcome input (number a.status) a.text.items)
storm_answers command storm threads outcome r is told input =
    subst
    (λ (c : Command).
    IfOk r (λ a. IsOfCommand c outcome input (number a.status) a.text.items))
    (sym is) told

-- its numbers are in their ranges
pub storm_in_range : (words : List (List ℕ)) (command : Command) (storm : Words) (threads : ℕ)
    → IsForm words command → command ≡ Storm storm.seed storm.actions threads storm.calm
    → IsFrom 1 64 storm.actions × IsFrom 1 4 threads
storm_in_range words command storm threads form is =
    let range : IsCommand (Storm storm.seed storm.actions threads storm.calm) =
    subst IsCommand is form.is in
    (range.1, range.2)

-- words that are the form of a storm are those of the command that was read
pub storm_words : {E : Type 0} (words : List (List ℕ)) (command : Command) (outcome : Outcome)
    (r : Result Answer E)
    → Finds words (Ok command)
    → IfOk r (λ a. IsOfCommand command outcome [] (number a.status) a.text.items)
    → (seed actions threads : ℕ) (calm : Bool) → IsForm words (Storm seed actions threads calm)
    → IfOk r
    (λ a. IsOfStorm (storm_of seed actions calm) outcome.disks.failed
    (outcome.disks.keep_storm (storm_of seed actions calm)) (number a.status) a.text.items)
storm_words words command outcome r finds told seed actions threads calm form =
    subst
    (λ (c : Command).
    IfOk r (λ a. IsOfCommand c outcome [] (number a.status) a.text.items))
    (same_command words command (Storm seed actions threads calm) finds form) told

-- words of which none was read are the form of no command
pub no_words : {P : Type 0} (words : List (List ℕ)) (fault : ArgsFault) → fault ≡ Usage
    → UnlessNoMemory (Err fault)
    (◌≡◌ {A = Result Command ArgsFault} (Err fault) (Err Usage) ↔ IsNoForm words)
    → (command : Command) → IsForm words command → P
no_words words Usage is told command form = absurd (told.0 refl command form)
no_words words NoMemory is told command form = absurd cc

-- what holds whatever the input is holds of an input that the source has still
pub of_unread : (left : Option (List ℕ)) (P : List ℕ → Type 0) → ((input : List ℕ) → P input)
    → IfTold left left (λ input _. P input)
of_unread (Some input) P each = each input
of_unread None P each = tt
