-- An action calls an object: the event is the definition's, by the objects that the site knows.
use Rattle.std.proofs.Common.{◌≡◌, ℕ, ◌<◌, List, [], Option, None, refl, sym, ap, ◌∙◌, subst}
use Rattle.cam_names.specs.declared.name.Name.{Name}
use Rattle.cam_names.specs.Dependencies.{AreCounts, pairs_of}
use Rattle.cam_type.specs.declared.ObjectDecl.{ObjectDecl}
use Rattle.cam_type.specs.declared.Op.{Op}
use Rattle.cam_type.specs.Objects.{site_of}
use Rattle.cam_know.specs.Knowledge.{Knowledge}
use Rattle.cam_know.specs.Known.{known_count}
use Rattle.cam_know.specs.Orphans.{known_orphan}
use Rattle.cam_event.specs.declared.Event.{Event}
use Rattle.cam_event.specs.declared.Want.TheVariants as wants
use Rattle.cam_event.specs.Inputs.{Input, Requests, Mail}
use Rattle.cam_event.specs.Rules.{makes_call}
use Rattle.cam_event.specs.ByPast.{event_of}
use Rattle.cam_event.specs.Loads.{Load, no_load}
use Rattle.cam_tranman.specs.declared.call.OpenCall.{OpenCall}
use Rattle.cam_tranman.specs.Actions.{Actions, deps, calls}
use Rattle.cam_tranman.specs.Calls as tranman
use Rattle.cam_tranman.specs.Calls.{IsFree, next_call, called}
use Rattle.cam_node.specs.Represents.{Node}
use Rattle.cam_node.specs.Halting.{IsStepThrough}
use Rattle.cam_node.proofs.Steps.{goes_on}

-- A node stands for histories over the objects of its site alone, so a step that is the
-- definition's for these is so for all.
pub by_known : (objects : List ObjectDecl) (old new : Node) (input : Input) (mail : Option Mail)
    (load : Load) (event : Event)
    → ((known : List ObjectDecl) → old.server.table.site.objects ≡ known
    → IsStepThrough known old new input mail load event)
    → IsStepThrough objects old new input mail load event
by_known objects old new input mail load event step = record {
  number = (step old.server.table.site.objects refl).number;
  next = λ history through rep may. (step objects rep.serves.site.objects_are).next history through
      rep may;
  represents = λ history through rep may.
      (step objects rep.serves.site.objects_are).represents history through rep may;
}

pub calls_on : (objects : List ObjectDecl) (old mid : Node) (known : Knowledge) (actions : Actions)
    (a : Name) (n r x : ℕ) (op : Op) (m c : ℕ)
    (ds : List ℕ) (event : Event) → mid ≡ old → known ≡ mid.know → AreCounts 1 known.counts
    → IsFree old.actions a (wants.Call x op)
    → None ≡ known_orphan mid.know a (pairs_of (deps mid.actions a))
    → m ≡ site_of mid.server.table.site.objects x
    → c ≡ known_count known m → n ≡ next_call mid.actions a → r ≡ next_call mid.actions a
    → ds ≡ deps mid.actions a
    → event ≡ event_of mid.number None [] (makes_call a n x op m c ds)
    → tranman.AreSame (called a (record { number = r; object = x; op = op; site = m; count = c })
    mid.actions) actions
    → IsStepThrough objects old (record mid { actions = actions })
    (Requests (record { action = a; want = wants.Call x op })) None no_load event
calls_on objects old mid known actions a n r x op m c ds event same settled counts free none site_is
    count_is number_is same_number deps_are is h =
    by_known objects old (record mid { actions = actions })
    (Requests (record { action = a; want = wants.Call x op })) None no_load event
    (λ declared objects_are. on declared
    (site_is ∙ ap (λ (o : Node). site_of o.server.table.site.objects x) same ∙ ap
    (λ (os : List ObjectDecl). site_of os x) objects_are))
  where
    on : (declared : List ObjectDecl) → m ≡ site_of declared x
        → IsStepThrough declared old (record mid { actions = actions })
        (Requests (record { action = a; want = wants.Call x op })) None no_load event
    on declared site =
        let count : c ≡ known_count mid.know (site_of declared x) =
        count_is ∙ (λ i. known_count (settled i) (site i)) in
        goes_on declared old mid known actions a
        (wants.Call x op) event same settled counts free none
        (is ∙ (λ i. event_of mid.number None []
        (makes_call a (number_is i) x op (site i) (count i) (deps_are i))))
        (record { alone = refl; begins = λ f. refl })
        (subst (λ (call : OpenCall). tranman.AreSame (called a call mid.actions) actions)
        (λ i. record {
          number = same_number i;
          object = x;
          op = op;
          site = site i;
          count = count i;
        }) h)

pub few_calls_then : (old mid : Node) (a : Name) → mid ≡ old → calls old.actions a < 1000000000
    → calls mid.actions a < 1000000000
few_calls_then old mid a same few = subst
    (λ (o : Node). calls o.actions a < 1000000000) (sym same) few
