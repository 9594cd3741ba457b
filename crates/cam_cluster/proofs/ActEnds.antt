-- How each line ends that puts one input unless it is refused.
use Rattle.std.proofs.Common.{◌≡◌, ℕ, Option, Some, None, Err, sym, subst}
use Rattle.std.specs.Prelude.{Result}
use Rattle.cam_names.specs.declared.name.Name.{Name}
use Rattle.cam_names.specs.Names.{family}
use Rattle.cam_event.specs.declared.LineRefusal.TheVariants as refusals
use Rattle.cam_event.specs.declared.Want.{Want}
use Rattle.cam_event.specs.declared.Want.TheVariants as wants
use Rattle.cam_event.specs.Inputs.{Input, Tells}
use Rattle.cam_event.specs.Readings.{by_knowledge}
use Rattle.cam_node.specs.declared.Input.TheVariants as inputs
use Rattle.cam_node.specs.Log.{Logged}
use Rattle.cam_runs.specs.HaltedLines.{setting}
use Rattle.cam_runs.specs.Standing.{Standing}
use Rattle.cam_runs.specs.UnderHalts.{IsNextStep}
use Rattle.cam_script.specs.declared.Act.{Act}
use Rattle.cam_script.specs.declared.Act.TheVariants as acts
use Rattle.cam_script.specs.declared.Script.{Script}
use Rattle.cam_script.specs.Law.{IsScript}
use Rattle.cam_cluster.specs.declared.LineFault.{LineFault}
use Rattle.cam_cluster.specs.declared.works.Put.{Put}
use Rattle.cam_cluster.specs.InputLines.{IsLineToSome, IsRefusedAs, IsTriedLine}
use Rattle.cam_cluster.specs.SoFar.{IsEnded, IsLineOfInput, KeepsLines, LinesFields}
use Rattle.cam_cluster.specs.VariableLines.{IsItsInput, IsVariableLine, IsNextOfSome, IsRequestBy}
use Rattle.cam_cluster.specs.VariableLines.{IsRequestBySome, IsRequestLine, action_of, give_up_of}
use Rattle.cam_cluster.specs.VariableLines.{query_of, request_of}
use Rattle.cam_cluster.proofs.NodeActs.{query_to, query_unbound, tell_to}
use Rattle.cam_cluster.proofs.VariableActs.{give_up_by, give_up_unbound}
use Rattle.cam_cluster.proofs.VariableEnds.{stands_for, unbound_line}

-- in each run whose next step is of this act it makes the request
abbrev pub Makes : ℕ → Act → ℕ → Want → LinesFields → (ℕ → Logged → Type 0) → Type 0
Makes line act_is v want lines may_read =
    (script : Script) (st : Standing) → IsScript script → KeepsLines script st lines may_read
    → IsNextStep script st (record { line = line; act = act_is })
    → IsRequestBy script st act_is v want

module _ (line v : ℕ) (want : Want) (act_is : Act) (old new : LinesFields)
    (might may : ℕ → Logged → Type 0) (makes : Makes line act_is v want old might) where
  pub makes_some : IsNextOfSome line act_is old might → IsRequestBySome v want old might
  makes_some some = record {
    script = some.script;
    standing = some.standing;
    act_is = act_is;
    is_script = some.is_script;
    keeps = some.keeps;
    placed = some.placed;
    is_request = makes some.script some.standing some.is_script some.keeps some.next;
  }

  pub makes_line : (result : Result Put LineFault)
      → IsRequestLine line v want old might new may result
      → IsVariableLine line act_is (request_of (action_of old.bound v) want) old might new may
      result
  makes_line result has input its script st halts later is keeps next =
      has script st halts act_is later is keeps next (makes script st is keeps next) input its

-- `give_up` by what its child's variable stands for
module _ (line v w : ℕ) (old new : LinesFields) (might may : ℕ → Logged → Type 0) where
  pub give_up_makes : (b : Name) → action_of old.bound w ≡ Some b
      → Makes line (acts.GiveUp v w) v (wants.GiveUp b) old might
  give_up_makes b child script st is keeps next =
      give_up_by _ _ _ is _ _ _ (stands_for _ _ _ _ _ _ keeps child) next

  pub give_up_line : (b : Name) → action_of old.bound w ≡ Some b → (result : Result Put LineFault)
      → IsRequestLine line v (wants.GiveUp b) old might new may result
      → IsVariableLine line (acts.GiveUp v w)
      (give_up_of (action_of old.bound v) (action_of old.bound w)) old might new may result
  give_up_line b child result has =
      rw child (makes_line line v (wants.GiveUp b) (acts.GiveUp v w) old new might may
      (give_up_makes b child) result has)

  pub give_up_refused : action_of old.bound w ≡ None → (fault : LineFault)
      → IsRefusedAs line refusals.Unbound old might new may fault
      → IsVariableLine line (acts.GiveUp v w)
      (give_up_of (action_of old.bound v) (action_of old.bound w)) old might new may (Err fault)
  give_up_refused none fault has input its script st halts later is keeps next =
      unbound_line line (acts.GiveUp v w) old new might may script st halts later is keeps next
      (give_up_unbound script st v w (stands_for script st old might w None keeps none)) fault has
      input

-- `tell`
module _ (line s to : ℕ) (old new : LinesFields) (might may : ℕ → Logged → Type 0) where
  pub tell_some : IsNextOfSome line (acts.Tell s to) old might
      → IsLineToSome s (inputs.Tell to) old might
  tell_some some = record {
    script = some.script;
    standing = some.standing;
    act_is = acts.Tell s to;
    is_script = some.is_script;
    keeps = some.keeps;
    is_line = tell_to _ _ _ some.is_script _ _ some.next;
  }

  pub tell_line : (result : Result Put LineFault)
      → IsTriedLine line s (inputs.Tell to) old might new may result
      → IsLineOfInput line (acts.Tell s to) (Tells s to) old might new may result
  tell_line result has script st halts later is keeps next =
      has script st halts (acts.Tell s to) later is keeps next (tell_to _ _ _ is _ _ next)

-- `query` by what its variable stands for
module _ (line s v : ℕ) (old new : LinesFields) (might may : ℕ → Logged → Type 0) where
  pub query_some : (a : Name) → action_of old.bound v ≡ Some a
      → IsNextOfSome line (acts.Query s v) old might
      → IsLineToSome s (inputs.Query (family a)) old might
  query_some a at some = record {
    script = some.script;
    standing = some.standing;
    act_is = acts.Query s v;
    is_script = some.is_script;
    keeps = some.keeps;
    is_line =
        query_to _ _ _ some.is_script _ _ _ (stands_for _ _ _ _ _ _ some.keeps at)
        some.next;
  }

  pub query_line : (a : Name) → action_of old.bound v ≡ Some a → (result : Result Put LineFault)
      → IsTriedLine line s (inputs.Query (family a)) old might new may result
      → IsVariableLine line (acts.Query s v) (query_of s (action_of old.bound v)) old might new may
      result
  query_line a at result has input its script st halts later is keeps next =
      subst (λ (i : Input). IsEnded script st
      (setting (by_knowledge script.objects) halts
      (record { line = line; act = acts.Query s v }) later) (acts.Query s v) i new may result)
      (subst (λ (o : Option Name). IsItsInput (query_of s o) input) at its)
      (has script st halts (acts.Query s v) later is keeps next
      (query_to script st line is s v a (stands_for script st old might v (Some a) keeps at) next))

  pub query_refused : action_of old.bound v ≡ None → (fault : LineFault)
      → IsRefusedAs line refusals.Unbound old might new may fault
      → IsVariableLine line (acts.Query s v) (query_of s (action_of old.bound v)) old might new may
      (Err fault)
  query_refused none fault has input its script st halts later is keeps next =
      unbound_line line (acts.Query s v) old new might may script st halts later is keeps next
      (query_unbound script st line is s v (stands_for script st old might v None keeps none)) fault
      has input
