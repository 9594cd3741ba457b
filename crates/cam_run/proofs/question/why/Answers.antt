-- What is told of a stop, by the record.
use Rattle.std.proofs.Common.{◌≡◌, ℕ, List, ap, subst, sym}
use Rattle.std.specs.Prelude.{reverse}
use Rattle.cam_why.specs.Causes.{stop_at}
use Rattle.cam_why.specs.declared.fault.WhyFault.TheVariants.{NoSuchStop}
use Rattle.cam_run.proofs.Recorded.{has_no_stop, has_stop}
use Rattle.cam_run.specs.Told.{IsOfStop}
use Rattle.cam_run.proofs.question.why.Goals as goal

pub returns-in-Ok-clause-told : goal.returns-in-Ok-clause-told
returns-in-Ok-clause-told c =
    subst (λ (t : List ℕ). IsOfStop (stop_at (reverse c.args.run.now.trace) c.args.event)
    (reverse c.args.run.now.trace) c.args.event 0 t)
    (sym (ap (λ v. v.items) c.into_bytes.ensures.value))
    (has_stop c.args.run.now c.args.event _ c.requires c.in-Ok.ensures.text)

pub returns-in_ok-format-in-Err-NoSuchStop-clause-told : goal.returns-in_ok-format-in-Err-NoSuchStop-clause-told
returns-in_ok-format-in-Err-NoSuchStop-clause-told c =
    let stopless : c.in-Err-NoSuchStop.field-0 ≡ NoSuchStop = cc in
    subst (λ (t : List ℕ). IsOfStop (stop_at (reverse c.args.run.now.trace) c.args.event)
    (reverse c.args.run.now.trace) c.args.event 8 t)
    (sym (ap (λ v. v.items) c.into_bytes-in-Err-NoSuchStop.ensures.value))
    (has_no_stop c.args.run.now c.args.event _ _ c.requires stopless
    c.in-Err-NoSuchStop.ensures.fault c.in_ok-format-in-Err-NoSuchStop.ensures.ok)
