use Rattle.std.proofs.Common.{◌≡◌, not, false, ℕ, List, filter, drop}
use Rattle.cam_type.specs.declared.ObjectDecl.{ObjectDecl}
use Rattle.cam_event.specs.declared.Deed.{Deed as DeedValue}
use Rattle.cam_event.specs.History.{informed}
use Rattle.cam_event.specs.Rules.{sorted_names}
use Rattle.cam_event.specs.Sights.{Entry}
use Rattle.cam_own.specs.Own.{KeepsOwn}
use Rattle.cam_own.proofs.informs.new_aborts.Given as goal

-- what is new from the place on
abbrev pub invariant-loop-place : goal.invariant-loop-place
invariant-loop-place l =
    (objects : List ObjectDecl) (s : ℕ) (L : List DeedValue) (E : List Entry) → KeepsOwn objects s L E l.own
    → l.new.keys ≡ sorted_names (filter (λ a. not (informed L s a false)) (drop l.place l.aborts))
