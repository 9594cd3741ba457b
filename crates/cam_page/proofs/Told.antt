-- What was written into an empty sink, from a source that had not failed, is told.
use Rattle.std.proofs.Common.{◌≡◌, ℕ, Bool, List, [], All, Some, subst}
use Rattle.cam_args.specs.declared.Command.{Command}
use Rattle.cam_base.specs.Causes.{Rose}
use Rattle.cam_run.specs.Answer.{IsOfCommand, IsWritten, Outcome}
use Rattle.cam_run.specs.Disks.{disks_left}
use Rattle.cam_page.specs.Page.{IsTold}

pub told : {D : Type 0} (tells : D → Bool) (faults moment : D → ℕ)
    (left_since : D → ℕ → List ℕ → Type 0)
    (command : Command) (script bytes : List ℕ) (was source : ℕ) (before after : List D) (status : ℕ)
    (nothing text written : List ℕ) → bytes ≡ script → was ≡ 0 → nothing ≡ [] → written ≡ text
    → All (λ d. faults d ≡ 0) before
    → IsWritten (IsOfCommand command (record {
      source_failed = Rose was source;
      disks = disks_left tells faults moment left_since before after;
    }) bytes) status (Some nothing) (Some written)
    → IsTold tells faults moment left_since command script status text
told tells faults moment left_since command script bytes was source before after status nothing text
    written is_script is_fresh is_empty is_text fresh is =
    let outcome : ℕ → Outcome = λ (n : ℕ). record {
      source_failed = Rose n source;
      disks = disks_left tells faults moment left_since before after;
    } in
    let of_script = subst
    (λ (b : List ℕ). IsWritten (IsOfCommand command (outcome was) b) status
    (Some nothing) (Some written)) is_script is in
    let from_fresh = subst
    (λ (n : ℕ). IsWritten (IsOfCommand command (outcome n) script) status
    (Some nothing) (Some written)) is_fresh of_script in
    let from_empty = subst
    (λ (n : List ℕ). IsWritten (IsOfCommand command (outcome 0) script) status
    (Some n) (Some written)) is_empty from_fresh in
    let to_text = subst
    (λ (t : List ℕ). IsWritten (IsOfCommand command (outcome 0) script) status
    (Some []) (Some t)) is_text from_empty in
    record { source = source; before = before; after = after; fresh = fresh; written = to_text }
