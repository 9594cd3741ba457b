-- What stands against a query is what the node's parts answer.
use Rattle.std.proofs.Common.{◌≡◌, Bool, true, false, not, ◌&&◌, ◌||◌, List, [], ◌∷◌, map, refl, sym, ap, ap₂, ◌∙◌}
use Rattle.std.specs.List.{list_any}
use Rattle.std.proofs.lemmas.List.{append-nil}
use Rattle.cam_names.specs.declared.name.Name.{Name}
use Rattle.cam_names.specs.Names.{name_eq, family}
use Rattle.cam_type.specs.declared.ObjectDecl.{ObjectDecl}
use Rattle.cam_know.specs.Knowledge.{Knowledge}
use Rattle.cam_know.specs.declared.Outcome.{Outcome}
use Rattle.cam_know.specs.Known.{nothing, both, is_abort_of, is_commit_of}
use Rattle.cam_event.specs.declared.Operation.{Operation}
use Rattle.cam_event.specs.declared.LineRefusal.TheVariants as refusals
use Rattle.cam_event.specs.History.{secured_at}
use Rattle.cam_event.specs.Refusals.{query_refusal, where_so}
use Rattle.cam_event.specs.Sights.{Sight, knows_outcome}
use Rattle.cam_event.specs.ByKnowledge.{held_sight}
use Rattle.cam_event.specs.HeldSites.{Placed}
use Rattle.cam_event.specs.ByDeltas.{Received, as_carried, known}
use Rattle.cam_commit.specs.Calls.{is_decided}
use Rattle.cam_commit.proofs.Sights.{sight_is_answered}
use Rattle.cam_locks.specs.declared.LiveOp.{LiveOp}
use Rattle.cam_locks.specs.Calls.{is_of, has_family}
use Rattle.cam_server.specs.Server.{AreLiveOps}
use Rattle.cam_node.specs.Refused.{query_refusal_by}
use Rattle.cam_node.specs.Represents.{Node, Represents}

-- what the node goes by without a letter
abbrev pub sight_now : List ObjectDecl → Node → List Received → Sight
sight_now objects node history = held_sight objects node.number (map as_carried history) nothing

known_alone : (k : Knowledge) (f : Name) → is_decided (both k nothing) f ≡ is_decided k f
known_alone k f =
    ap (λ (os : List Outcome). list_any (is_commit_of f) os || list_any (is_abort_of f) os)
    (append-nil k.outcomes)

any_live : (f : Name) (ks : List LiveOp) (ps : List Placed) → AreLiveOps ks ps
    → list_any (λ (o : Operation). name_eq f (family o.action))
    (map (λ p. p.operation) ps) ≡ list_any (is_of f) ks
any_live f [] [] are = refl
any_live f [] (p ∷ ps) are = absurd are
any_live f (k ∷ ks) [] are = absurd are
any_live f (k ∷ ks) (p ∷ ps) are =
    ap₂ (λ a b. a || b) (ap (λ (a : Name). name_eq f (family a)) (sym are.0.action))
    (any_live f ks ps are.1)

query_refused : (objects : List ObjectDecl) (node : Node) (history : List Received) (f : Name)
    → Represents objects history node
    → (knows_outcome (sight_now objects node history) f
    || (not (secured_at (sight_now objects node history).deeds f node.number)
    && not (list_any (λ o. name_eq f (family o.action)) (sight_now objects node history).live)))
    ≡ (is_decided node.know f || not
    (node.families.is_secured f || has_family node.server.table.site f))
query_refused objects node history f rep =
    by (knows_outcome g f) (is_decided node.know f) refl knows
  where
    g : Sight
    g = sight_now objects node history

    knows : knows_outcome g f ≡ is_decided node.know f
    knows =
        known_alone (known objects history) f
        ∙ ap (λ (k : Knowledge). is_decided k f) (sym rep.knowledge)

    not_both : (a b c d : Bool) → a ≡ c → b ≡ d → (not a && not b) ≡ not (c || d)
    not_both true b true d one other = refl
    not_both false true false true one other = refl
    not_both false false false false one other = refl
    not_both true b false d one other = cc
    not_both false b true d one other = cc
    not_both false true false false one other = cc
    not_both false false false true one other = cc

    by : (x y : Bool) → knows_outcome g f ≡ x → x ≡ y
        → (x ||
        (not (secured_at g.deeds f node.number) && not
        (list_any (λ o. name_eq f (family o.action)) g.live)))
        ≡ (y || not (node.families.is_secured f || has_family node.server.table.site f))
    by true true is same = refl
    by false false is same =
        not_both (secured_at g.deeds f node.number)
        (list_any (λ o. name_eq f (family o.action)) g.live)
        (node.families.is_secured f) (has_family node.server.table.site f)
        (sym (sight_is_answered objects node.number
        (map as_carried history) nothing node.families rep.commits f is).secured)
        (any_live f node.server.table.site.live _ rep.serves.site.operations)
    by true false is same = cc
    by false true is same = cc

-- So what stands against a query by the rule is what stands against it by the parts.
pub query_is_rule : (objects : List ObjectDecl) (node : Node) (history : List Received) (f : Name)
    → Represents objects history node
    → query_refusal (sight_now objects node history) f ≡ query_refusal_by node f
query_is_rule objects node history f rep =
    ap (λ (b : Bool). where_so b refusals.NothingToDo) (query_refused objects node history f rep)

-- By the answers of the two tests: the outcome is told, the node has something of the family, or nothing.
pub told : (a b r : Bool) → r ≡ a → r ≡ true → true ≡ (a || not b)
told true b r is so = refl
told false b true is so = cc
told false b false is so = cc

pub held : (a b r t : Bool) → r ≡ a → r ≡ false → t ≡ b → t ≡ true → false ≡ (a || not b)
held a b r t is so at there = λ i. (sym so ∙ is) i || not ((sym there ∙ at) i)

pub none_held : (a b r t : Bool) → r ≡ a → r ≡ false → t ≡ b → t ≡ false → true ≡ (a || not b)
none_held a b r t is so at there = λ i. (sym so ∙ is) i || not ((sym there ∙ at) i)
