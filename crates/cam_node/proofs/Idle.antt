-- A node tells or asks another, and nothing else: the event is the definition's, and the node stands for the longer history.
use Rattle.std.proofs.Common.{◌≡◌, ℕ, [], ◌∷◌, List, None, refl, sym, ap, subst}
use Rattle.cam_names.specs.declared.name.Name.{Name}
use Rattle.cam_names.specs.Names.{home_node}
use Rattle.cam_names.specs.Dependencies.{AreCounts}
use Rattle.cam_type.specs.declared.ObjectDecl.{ObjectDecl}
use Rattle.cam_event.specs.declared.Event.{Event}
use Rattle.cam_event.specs.declared.Body.TheVariants as bodies
use Rattle.cam_event.specs.declared.Note.TheVariants as notes
use Rattle.cam_event.specs.Inputs.{Tells, Queries}
use Rattle.cam_event.specs.Rules.{send}
use Rattle.cam_event.specs.Loads.{no_load}
use Rattle.cam_node.specs.Represents.{Node}
use Rattle.cam_node.specs.Calls.{AreSame}
use Rattle.cam_node.specs.Halting.{IsStepThrough}
use Rattle.cam_node.specs.Quiet.{IsIdle}
use Rattle.cam_node.proofs.Quiet.{idle_keeps}

pub node_same : (node : Node) → AreSame node node
node_same node = record {
  number = refl;
  count = refl;
  know = refl;
  places = refl;
  actions = record { node = refl; count = refl; tops = refl; action = λ a. refl; call = λ a. refl; children = λ b. refl };
  families = record { preparing = λ f. refl; votes = λ f m c. refl; secured = λ f. refl };
  server = record { count = refl; site = refl; replies = λ a n. refl };
}

pub same_of : (old new : Node) → new ≡ old → AreSame old new
same_of old new is = subst (AreSame old) (sym is) (node_same old)

pub told : (objects : List ObjectDecl) (old new : Node) (to : ℕ) (event : Event) → AreCounts 1 old.know.counts → new ≡ old
    → event ≡ record { node = old.number; got = None; deeds = []; sent = send to bodies.News ∷ []; note = notes.Plain }
    → IsStepThrough objects old new (Tells old.number to) None no_load event
told objects old new to event counted same is = record {
  number = ap (λ (n : Node). n.number) same;
  next = λ history through rep may. is;
  represents = λ history through rep may.
      idle_keeps objects history (record { event = event; mail = None; load = no_load }) old new
      (subst (λ (e : Event). IsIdle (record { event = e; mail = None; load = no_load })) (sym is) (record { deeds = refl; begins = λ f. refl; mail = refl; load = refl }))
      counted (same_of old new same) rep;
}

pub queried : (objects : List ObjectDecl) (old new : Node) (f : Name) (event : Event) → AreCounts 1 old.know.counts → new ≡ old
    → event ≡ record { node = old.number; got = None; deeds = []; sent = send (home_node f) (bodies.Query f) ∷ []; note = notes.Plain }
    → IsStepThrough objects old new (Queries old.number f) None no_load event
queried objects old new f event counted same is = record {
  number = ap (λ (n : Node). n.number) same;
  next = λ history through rep may. is;
  represents = λ history through rep may.
      idle_keeps objects history (record { event = event; mail = None; load = no_load }) old new
      (subst (λ (e : Event). IsIdle (record { event = e; mail = None; load = no_load })) (sym is) (record { deeds = refl; begins = λ f. refl; mail = refl; load = refl }))
      counted (same_of old new same) rep;
}
