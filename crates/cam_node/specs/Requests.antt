-- What an action's home does at a request, by what it knows and what its actions answer.
use Rattle.std.specs.Prelude.{ℕ, false, List, [], ◌∷◌}
use Rattle.cam_names.specs.declared.name.Name.{Name}
use Rattle.cam_names.specs.Dependencies.{pairs_of}
use Rattle.cam_type.specs.declared.ObjectDecl.{ObjectDecl}
use Rattle.cam_know.specs.Knowledge.{Knowledge}
use Rattle.cam_know.specs.Known.{known_count}
use Rattle.cam_know.specs.Orphans.{known_orphan}
use Rattle.cam_event.specs.declared.Body.TheVariants as bodies
use Rattle.cam_event.specs.declared.Deed.TheVariants.{AskCommit, AskAbort, Abort, Inform}
use Rattle.cam_event.specs.declared.Want.{Want}
use Rattle.cam_event.specs.declared.Want.TheVariants as wants
use Rattle.cam_event.specs.Live.{site_of}
use Rattle.cam_event.specs.Inputs.{decider}
use Rattle.cam_event.specs.Rules.{Did, did, one, send, stopped_by, asks_child, makes_call}
use Rattle.cam_tranman.specs.Actions.{Actions, deps}
use Rattle.cam_tranman.specs.Calls.{next_child, next_call}

-- what an action that may go on does: a child or a call with the next number, and letters with what it depends on
abbrev pub wanted_by : List ObjectDecl → ℕ → Knowledge → Actions → Name → Want → Did
wanted_by objects s k actions a (wants.Ask m) = asks_child a (next_child actions a m (known_count k m)) m (deps actions a)
wanted_by objects s k actions a (wants.Call x op) =
    makes_call a (next_call actions a) x op (site_of objects x) (known_count k (site_of objects x)) (deps actions a)
wanted_by objects s k actions a (wants.Commit v) = did (one (AskCommit a v)) (one (send (decider a) (bodies.Finish a v (deps actions a))))
wanted_by objects s k actions a wants.Abort = did (one (AskAbort a)) (one (send (decider a) (bodies.Quit a)))
wanted_by objects s k actions a (wants.GiveUp b) = did (Abort b ∷ Inform s b false ∷ []) []

-- An action that is an orphan by what it depends on is stopped.
abbrev pub requested_by : List ObjectDecl → ℕ → Knowledge → Actions → Name → Want → Did
requested_by objects s k actions a want = stopped_by a (known_orphan k a (pairs_of (deps actions a))) (wanted_by objects s k actions a want)
