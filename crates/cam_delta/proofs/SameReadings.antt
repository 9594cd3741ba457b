-- By what is not acknowledged, and by pasts, each input gives the same event and the same is refused.
use Rattle.std.proofs.Common.{◌≡◌, ℕ, List, ap, ◌∙◌}
use Rattle.cam_names.specs.declared.name.Name.{Name}
use Rattle.cam_type.specs.declared.ObjectDecl.{ObjectDecl}
use Rattle.cam_event.specs.declared.Event.{Event}
use Rattle.cam_event.specs.declared.Want.{Want}
use Rattle.cam_event.specs.Refusals.{refusal, query_refusal}
use Rattle.cam_event.specs.Readings.{by_pasts, by_knowledge}
use Rattle.cam_event.proofs.OwnSteps.{refusals_same}
use Rattle.cam_agree.proofs.Ran.{Ran, ran_sent, plain_ran}
use Rattle.cam_agree.proofs.DepsEvents.{ran_queries as whole_queries}
use Rattle.cam_delta.specs.Program.{EventsAgree, RefusalsAgree, QueryRefusalsAgree}
use Rattle.cam_delta.proofs.Addressed.{ran_addressed}
use Rattle.cam_delta.proofs.SameSteps.{nodes_go_by_the_same, events_are_those_of_pasts}

pub ran_refusals : (objects : List ObjectDecl) (t : List Event) (s : ℕ) (a : Name) (want : Want) → Ran objects t → refusal ((by_knowledge objects).sight t s) a want ≡ refusal ((by_pasts objects).sight t s) a want
ran_refusals objects t s a want run = ap (λ g. refusal g a want) (nodes_go_by_the_same objects t s (ran_addressed objects t run)) ∙ refusals_same objects t s a want (ran_sent objects t run)

pub ran_queries : (objects : List ObjectDecl) (t : List Event) (s : ℕ) (f : Name) → Ran objects t → query_refusal ((by_knowledge objects).sight t s) f ≡ query_refusal ((by_pasts objects).sight t s) f
ran_queries objects t s f run = ap (λ g. query_refusal g f) (nodes_go_by_the_same objects t s (ran_addressed objects t run)) ∙ whole_queries objects t s f run

-- of runs without a halt
pub events_agree : EventsAgree
events_agree = events_are_those_of_pasts

pub refusals_agree : RefusalsAgree
refusals_agree objects t s a want run = ran_refusals objects t s a want (plain_ran objects t run)

pub query_refusals_agree : QueryRefusalsAgree
query_refusals_agree objects t s f run = ran_queries objects t s f (plain_ran objects t run)
