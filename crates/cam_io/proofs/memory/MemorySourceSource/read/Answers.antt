use Rattle.std.proofs.Common.{◌≡◌, ◌+◌, ◌-◌, ◌++◌, ap, subst, sym, take, drop, ◌∙◌, arith}
use Rattle.cam_io.specs.Moving.{Moves}
use Rattle.cam_io.proofs.Moved.{Moves-copied}
use Rattle.cam_io.proofs.memory.MemorySourceSource.read.Goals as goal

pub returns-clause-bytes : goal.returns-clause-bytes
returns-clause-bytes c =
    let at = c.self.inside.at in
    let n = c.min-count.result in
    let bytes = c.self.inside.bytes.items in
    let seen : c.args.self.now.bytes ≡ drop at bytes = cc in
    subst (λ left. Moves left (drop (at + n) bytes) (take n (c.copy_from_slice.new.self ++ drop n c.args.into.now))) (sym seen)
    (Moves-copied bytes c.copy_from_slice.new.self (drop n c.args.into.now) at n
    (omega (arith, c.min-count.ensures, c.self.invariant)) (λ none. omega (arith, c.min-count.ensures))
    (c.copy_from_slice.ensures.after ∙ ap (λ b. take (at + n - at) (drop at b)) c.deref.ensures.value))
