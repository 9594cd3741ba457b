-- What comes of a node's own event that has no entry.
use Rattle.std.proofs.Common.{◌≡◌, ℕ, ◌≤◌, true, List, [], Option, None, Result, Ok, Err, IfOk, OnErr, refl, ap, ◌∙◌, subst}
use Rattle.cam_type.specs.declared.ObjectDecl.{ObjectDecl}
use Rattle.cam_event.specs.declared.Event.{Event}
use Rattle.cam_event.specs.Inputs as rules
use Rattle.cam_event.specs.Inputs.{Mail}
use Rattle.cam_event.specs.Loads.{Load, no_load}
use Rattle.cam_node.specs.declared.Input.{Input}
use Rattle.cam_node.specs.declared.Input.TheVariants as inputs
use Rattle.cam_node.specs.declared.Stepped.{Stepped}
use Rattle.cam_node.specs.Appending.{HasAppended}
use Rattle.cam_node.specs.Calls.{AreSame, input_of, load_of, mail_of}
use Rattle.cam_node.specs.Halting.{IsStepThrough}
use Rattle.cam_node.specs.Keeping.{KeepsOn}
use Rattle.cam_node.specs.Opened.{IsKnowledge}
use Rattle.cam_node.specs.Represents.{Node}
use Rattle.cam_node.specs.Unlogged.{is_unlogged}
use Rattle.cam_node.proofs.OwnKept.{own_entry, own_kept_on}

-- Its number stays.
pub number_kept : {E : Type 0} (result : Result Stepped E) (objects : List ObjectDecl) (old new :
    Node) (input : rules.Input) (mail : Option Mail) (load : Load)
    → IfOk result (λ s. IsStepThrough objects old new input mail load s.event) → OnErr result
    (AreSame old new) → new.number ≡ old.number
number_kept (Ok x) objects old new input mail load step same = step.number
number_kept (Err fault) objects old new input mail load step same = same.number

-- The node's own step, once what a failed one learnt is forgotten: no letter comes.
pub step_from : (objects : List ObjectDecl) (old mid new : Node) (input : Input) (event : Event)
    → is_unlogged (input_of old.number input) ≡ true → mid ≡ old
    → IsStepThrough objects mid new (input_of mid.number input) None no_load event
    → IsStepThrough objects old new (input_of old.number input) (mail_of input) (load_of input)
    event
step_from objects old mid new input event own same step =
    by input own (subst (λ (o : Node). IsStepThrough objects o new (input_of o.number input) None
    no_load event) same step)
  where
    by : (i : Input) → is_unlogged (input_of old.number i) ≡ true
        → IsStepThrough objects old new (input_of old.number i) None no_load event
        → IsStepThrough objects old new (input_of old.number i) (mail_of i) (load_of i) event
    by inputs.Begin own step = step
    by (inputs.Request request) own step = step
    by (inputs.Letter id letter) own step = absurd (cc)
    by (inputs.Tell to) own step = step
    by (inputs.Query family) own step = step

pub keeps_from : (objects : List ObjectDecl) (old mid new : Node) (entries : List (List ℕ))
    (input : Input) (event : Event) → (1 ≤ old.number) × (old.number ≤ 8) → IsKnowledge old.know
    → is_unlogged (input_of old.number input) ≡ true → mid ≡ old → new.server ≡ mid.server
    → IsStepThrough objects mid new (input_of mid.number input) None no_load event
    → KeepsOn objects old entries new entries (input_of old.number input) (mail_of input)
    (load_of input) event
keeps_from objects old mid new entries input event node knows own same serves step =
    by input own (own_kept_on objects old new entries (input_of old.number input) event node knows
    own (serves ∙ ap (λ (n : Node). n.server) same) (subst (λ (o : Node). IsStepThrough objects o new (input_of o.number input) None no_load
    event) same step))
  where
    by : (i : Input) → is_unlogged (input_of old.number i) ≡ true
        → KeepsOn objects old entries new entries (input_of old.number i) None no_load event
        → KeepsOn objects old entries new entries (input_of old.number i) (mail_of i) (load_of i)
        event
    by inputs.Begin own keeps = keeps
    by (inputs.Request request) own keeps = keeps
    by (inputs.Letter id letter) own keeps = absurd (cc)
    by (inputs.Tell to) own keeps = keeps
    by (inputs.Query family) own keeps = keeps

-- It has no entry: the log lists the same, and the disk does no call.
pub appended_from : (objects : List ObjectDecl) (old new : Node) (entries : List (List ℕ))
    (passes : Option ℕ) (input : Input) (event : Event) → IsKnowledge old.know
    → is_unlogged (input_of old.number input) ≡ true
    → IsStepThrough objects old new (input_of old.number input) None no_load event
    → HasAppended objects old (input_of old.number input) (mail_of input) (load_of input) event
    entries entries passes passes
appended_from objects old new entries passes input event knows own step =
    by input own (record {
      records = [];
      entry = own_entry objects old new (input_of old.number input) event knows.counts own step;
      listed = refl;
      spent = refl;
    })
  where
    by : (i : Input) → is_unlogged (input_of old.number i) ≡ true
        → HasAppended objects old (input_of old.number i) None no_load event entries entries
        passes passes
        → HasAppended objects old (input_of old.number i) (mail_of i) (load_of i) event entries
        entries passes passes
    by inputs.Begin own has = has
    by (inputs.Request request) own has = has
    by (inputs.Letter id letter) own has = absurd (cc)
    by (inputs.Tell to) own has = has
    by (inputs.Query family) own has = has
