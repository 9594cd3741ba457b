-- A deed that gives a step of an action's view is one that the action sees.
use Rattle.std.proofs.Common.{◌≡◌, Bool, true, false, if◌then◌else◌, refl, List, []}
use Rattle.cam_names.specs.declared.name.Name.{Name}
use Rattle.cam_names.specs.Names.{is_child, name_eq}
use Rattle.cam_event.specs.declared.Deed.{Deed}
use Rattle.cam_event.specs.declared.Deed.TheVariants.{Create, Ask, Call, Perform, Bounce, Got, AskCommit, AskAbort, Commit, Abort, Secure, Inform, Crash}
use Rattle.cam_event.specs.declared.ViewStep.{ViewStep}
use Rattle.cam_event.specs.Views.{step_of}
use Rattle.cam_cut.specs.Witness.{is_some_step}
use Rattle.cam_draw.specs.Light.{is_seen}

only_if : (b : Bool) (steps : List ViewStep) → is_some_step (if b then steps else []) ≡ true → b ≡ true
only_if true steps some = refl
only_if false steps some = some

pub steps_are_seen : (before : List Deed) (d : Deed) (a : Name) → is_some_step (step_of before d a) ≡ true → is_seen a d ≡ true
steps_are_seen before (Create b) a some = only_if (name_eq a b) _ some
steps_are_seen before (Ask p b) a some = only_if (name_eq a p) _ some
steps_are_seen before (Call b n x op c) a some = only_if (name_eq a b) _ some
steps_are_seen before (Got b n seen) a some = only_if (name_eq a b) _ some
steps_are_seen before (AskCommit b v) a some = only_if (name_eq a b) _ some
steps_are_seen before (AskAbort b) a some = only_if (name_eq a b) _ some
steps_are_seen before (Commit b) a some = only_if (is_child a b) _ some
steps_are_seen before (Abort b) a some = only_if (is_child a b) _ some
steps_are_seen before (Perform b n answer) a some = some
steps_are_seen before (Bounce b n holder) a some = some
steps_are_seen before (Secure f s c) a some = some
steps_are_seen before (Inform s b committed) a some = some
steps_are_seen before (Crash s) a some = some
