-- The value that the lock table of a node hands up is the one that the node's history does.
use Rattle.std.proofs.Common.{◌≡◌, ℕ, eqb, Bool, true, false, ◌&&◌, cond, List, [], ◌∷◌, map, Option, Some, None, Result, Ok, Err, IfOk, refl, sym, ap, ◌∙◌, true≢false}
use Rattle.std.specs.Prelude.{filter, is_none}
use Rattle.cam_base.specs.declared.memory.NoMemory.{NoMemory}
use Rattle.cam_names.specs.declared.name.Name.{Name}
use Rattle.cam_type.specs.declared.ObjectDecl.{ObjectDecl}
use Rattle.cam_type.specs.declared.Op.{Op}
use Rattle.cam_type.specs.declared.State.{State}
use Rattle.cam_type.specs.Objects.{start_of}
use Rattle.cam_type.specs.Table.{state_after}
use Rattle.cam_know.specs.Known.{lift_by}
use Rattle.cam_event.specs.declared.Deed.{Deed}
use Rattle.cam_event.specs.declared.Operation.{Operation}
use Rattle.cam_event.specs.History.{informed}
use Rattle.cam_event.specs.Live as live
use Rattle.cam_event.specs.Rules.{on_object}
use Rattle.cam_event.specs.Settled.{is_past_top}
use Rattle.cam_event.specs.HeldSites.{site}
use Rattle.cam_event.specs.Carried.{deeds_of}
use Rattle.cam_event.specs.ByDeltas.{Received, as_carried}
use Rattle.cam_locks.specs.declared.LiveOp.{LiveOp}
use Rattle.cam_locks.specs.Moss as locks
use Rattle.cam_locks.specs.Moss.{is_on, is_settled_on, settled}
use Rattle.cam_locks.specs.Names.{has_name}
use Rattle.cam_server.specs.Server.{AreLive}
use Rattle.cam_node.specs.Represents.{Node, Represents}
use Rattle.cam_node.specs.Values.{handed_up, is_handed_up, ValuesAreMet}

past_top : (o : Option Name) → is_none o ≡ is_past_top o
past_top None = refl
past_top (Some u) = refl

module _ (L : List Deed) (s x : ℕ) (committed : List Name)
    (commits : (u : Name) → has_name committed u ≡ informed L s u true) where
  test_same : (k : LiveOp) (o : Operation) → k.action ≡ o.action → k.object ≡ o.object
      → is_settled_on committed x k ≡ is_handed_up L s x o
  test_same k o action object = λ i.
      eqb (object i) x
      && (ap is_none (λ j. lift_by (λ u. commits u j) (action j))
      ∙ past_top (live.lift L s o.action)) i

  replay_same : (ks : List LiveOp) (os : List Operation) (state : State) → AreLive ks os
      → locks.replay state (filter (is_settled_on committed x) ks)
      ≡ live.replay state (filter (is_handed_up L s x) os)
  replay_same [] [] state are = refl
  replay_same [] (o ∷ os) state are = absurd are
  replay_same (k ∷ ks) [] state are = absurd are
  replay_same (k ∷ ks) (o ∷ os) state are =
      by (is_settled_on committed x k) (is_handed_up L s x o)
      (test_same k o are.0.action are.0.object) (λ after. replay_same ks os after are.1)
    where
      mine : List LiveOp
      mine = filter (is_settled_on committed x) ks

      theirs : List Operation
      theirs = filter (is_handed_up L s x) os

      by : (b c : Bool) → b ≡ c
          → ((after : State) → locks.replay after mine ≡ live.replay after theirs)
          → locks.replay state (cond b (k ∷ mine) mine)
          ≡ live.replay state (cond c (o ∷ theirs) theirs)
      by true true is rest =
          ap (λ (op : Op). locks.replay (state_after state op) mine) are.0.op
          ∙ rest (state_after state o.op)
      by false false is rest = rest state
      by true false is rest = absurd (true≢false is)
      by false true is rest = absurd (true≢false (sym is))

pub hands_up : (objects : List ObjectDecl) (history : List Received) (node : Node) (x : ℕ)
    → Represents objects history node
    → settled node.server.table.site x ≡ handed_up objects node.number history x
hands_up objects history node x rep =
    let at = node.server.table.site in
    ap (λ (ds : List ObjectDecl).
    locks.replay (start_of ds x) (filter (is_settled_on at.committed x) at.live))
    rep.serves.site.objects_are
    ∙ replay_same (deeds_of (map as_carried history)) node.number x at.committed
    rep.serves.commits at.live (map (λ p. p.operation) (site (map as_carried history)).live)
    (start_of objects x) rep.serves.site.operations

pub value_by_history : (objects : List ObjectDecl) (node : Node) (x : ℕ)
    (result : Result State NoMemory)
    → IfOk result (λ state. state ≡ settled node.server.table.site x)
    → IfOk result (λ state. (history : List Received) → Represents objects history node
    → state ≡ handed_up objects node.number history x)
value_by_history objects node x (Ok state) is =
    λ history rep. is ∙ hands_up objects history node x rep
value_by_history objects node x (Err fault) is = tt

-- The live operations of both on an object leave the same state.
met_same : (x : ℕ) (ks : List LiveOp) (os : List Operation) (state : State) → AreLive ks os
    → locks.replay state (filter (is_on x) ks) ≡ live.replay state (on_object x os)
met_same x [] [] state are = refl
met_same x [] (o ∷ os) state are = absurd are
met_same x (k ∷ ks) [] state are = absurd are
met_same x (k ∷ ks) (o ∷ os) state are =
    by (eqb k.object x) (eqb o.object x) (ap (λ n. eqb n x) are.0.object)
    (λ after. met_same x ks os after are.1)
  where
    mine : List LiveOp
    mine = filter (is_on x) ks

    theirs : List Operation
    theirs = on_object x os

    by : (b c : Bool) → b ≡ c
        → ((after : State) → locks.replay after mine ≡ live.replay after theirs)
        → locks.replay state (cond b (k ∷ mine) mine)
        ≡ live.replay state (cond c (o ∷ theirs) theirs)
    by true true is rest =
        ap (λ (op : Op). locks.replay (state_after state op) mine) are.0.op
        ∙ rest (state_after state o.op)
    by false false is rest = rest state
    by true false is rest = absurd (true≢false is)
    by false true is rest = absurd (true≢false (sym is))

pub values_are_met : ValuesAreMet
values_are_met objects history node x rep =
    let at = node.server.table.site in
    ap (λ (ds : List ObjectDecl). locks.replay (start_of ds x) (filter (is_on x) at.live))
    rep.serves.site.objects_are
    ∙ met_same x at.live (map (λ p. p.operation) (site (map as_carried history)).live)
    (start_of objects x) rep.serves.site.operations
