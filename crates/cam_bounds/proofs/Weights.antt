-- What the event of an input sends weighs 81 at most.
use Rattle.std.proofs.Common.{◌≡◌, ◌⊎◌, inl, inr, ◌≤◌, List, [], ◌∷◌, ◌++◌, Option, Some, None, ap, arith}
use Rattle.cam_names.specs.declared.name.Name.{Name}
use Rattle.cam_names.specs.Dependencies.{pairs_of}
use Rattle.cam_type.specs.declared.ObjectDecl.{ObjectDecl}
use Rattle.cam_know.specs.declared.Reason.{Reason}
use Rattle.cam_event.specs.declared.Body.{Body}
use Rattle.cam_event.specs.declared.Body.TheVariants as bodies
use Rattle.cam_event.specs.declared.Deed.{Deed}
use Rattle.cam_event.specs.declared.Deed.TheVariants.{AskCommit}
use Rattle.cam_event.specs.declared.Event.{Event}
use Rattle.cam_event.specs.declared.Want.{Want}
use Rattle.cam_event.specs.declared.Want.TheVariants as wants
use Rattle.cam_event.specs.ByPast.{next as next_past}
use Rattle.cam_event.specs.Inputs.{got_of, mail_got, Begins, Input, Mail, Queries, Receives, Requests, Restarts, Tells}
use Rattle.cam_event.specs.Rules.{rule, stopped_by, wanted}
use Rattle.cam_event.specs.Sights.{Sight}
use Rattle.cam_cut.proofs.NextEvent.{sight_of}
use Rattle.cam_runs.specs.Requests.{asked_in}
use Rattle.cam_runs.specs.Running.{weight}
use Rattle.cam_runs.proofs.Light.{sent_weight, unless_stopped, FewDeps, Light}
use Rattle.cam_runs.proofs.Lighter.{arrives_lighter}

heaviest : (body : Body) → weight body ≤ 81
heaviest (bodies.Start b counts) = omega arith
heaviest (bodies.Call a n x op c counts) = omega arith
heaviest (bodies.Answer a n reply) = omega arith
heaviest (bodies.Finish a v counts) = omega arith
heaviest (bodies.Quit a) = omega arith
heaviest (bodies.Prepare f c) = omega arith
heaviest (bodies.Vote f c agrees) = omega arith
heaviest (bodies.Query f) = omega arith
heaviest bodies.News = omega arith

wanted_light : (objects : List ObjectDecl) (g : Sight) (a : Name) (want : Want)
    → Light 81 (wanted objects g a want)
wanted_light objects g a (wants.Ask m) = omega arith
wanted_light objects g a (wants.Call x op) = omega arith
wanted_light objects g a (wants.Commit v) = omega arith
wanted_light objects g a wants.Abort = omega arith
wanted_light objects g a (wants.GiveUp b) = omega arith

input_light : (objects : List ObjectDecl) (g : Sight) (mail : Option Mail) (input : Input)
    → FewDeps g → Light 81 (rule objects g mail input)
input_light objects g mail (Begins s) few = omega arith
input_light objects g mail (Requests r) few =
    unless_stopped r.action (g.orphan r.action (pairs_of (g.deps r.action))) 81
    (wanted objects g r.action r.want) (wanted_light objects g r.action r.want)
input_light objects g None (Receives letter) few = omega arith
input_light objects g (Some mail) (Receives letter) few =
    let less = arrives_lighter objects g mail.from mail.body few in
    let most = heaviest mail.body in
    omega (arith, less, most)
input_light objects g mail (Tells s to) few = omega arith
input_light objects g mail (Queries s f) few = omega arith
input_light objects g mail (Restarts s) few = omega arith

-- THE LAW
pub next_light : (objects : List ObjectDecl) (t : List Event) (input : Input)
    → sent_weight (next_past objects t input).sent ≤ 81
next_light objects t input =
    input_light objects (sight_of objects t input) (mail_got t (got_of input)) input
    (λ a. omega arith)

-- A request that asks for a child sends 10 at most.
pub asks_light : (objects : List ObjectDecl) (g : Sight) (a : Name) (want : Want)
    (o : Option Reason) (first : List Deed) → first ≡ []
    → (asked_in (first ++ (stopped_by a o (wanted objects g a want)).deeds) ≡ None)
    ⊎ (sent_weight (stopped_by a o (wanted objects g a want)).sent ≤ 10)
asks_light objects g a want (Some reason) first none = inr (omega arith)
asks_light objects g a (wants.Ask m) None first none = inr (omega arith)
asks_light objects g a (wants.Call x op) None first none = inr (omega arith)
asks_light objects g a (wants.Commit v) None first none =
    inl (ap (λ (ds : List Deed). asked_in (ds ++ AskCommit a v ∷ [])) none)
asks_light objects g a wants.Abort None first none = inr (omega arith)
asks_light objects g a (wants.GiveUp b) None first none = inr (omega arith)
