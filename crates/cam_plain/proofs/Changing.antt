-- What one more deed changes of what is kept of actions.
use Rattle.std.proofs.Common.{◌≡◌, inl, inr, ◌+◌, Bool, true, false, ◌||◌, if◌then◌else◌, cond, List, ◌∷◌, Some, unwrap_or, refl, sym, ap, ◌∙◌}
use Rattle.std.specs.HashMap.{HashMap, get}
use Rattle.std.proofs.lemmas.Bool.{cases_Bool}
use Rattle.cam_names.specs.declared.name.Name.{Name}
use Rattle.cam_names.specs.Names.{name_eq, is_child, parent}
use Rattle.cam_names.proofs.Names.{name_eq_same, name_eq_sym}
use Rattle.cam_names.proofs.Children.{is_some_name, child_of}
use Rattle.cam_event.specs.declared.Deed.{Deed}
use Rattle.cam_event.specs.declared.Deed.TheVariants.{Ask}
use Rattle.cam_event.specs.History.{committed, aborted, asks}
use Rattle.cam_plain.specs.declared.actions.Action.{Action}
use Rattle.cam_plain.specs.declared.actions.Change.{Change}
use Rattle.cam_plain.specs.declared.actions.Change.TheVariants as changes
use Rattle.cam_plain.specs.Lines.{asked_for}
use Rattle.cam_plain.specs.Actions.{action_of, action_in, unnamed, decisions, KeepsActions, changed, Changes, IsDecision}

-- what a change makes, or not
abbrev made : Bool → Change → Action → Action
made t change r = if t then changed change r else r

-- what is put at an action, and what stays
pub change_put : {S : Type 0} (old new : HashMap Name Action S) (b : Name) (change : Change) (r : Action) → r ≡ changed change (action_in old b)
    → ((q : Name) → get name_eq new q ≡ cond (name_eq b q) (Some r) (get name_eq old q)) → Changes change b old new
change_put old new b change r is put a =
    elim (cases_Bool (name_eq a b)) [
      | inl same ↦
          ap (λ o. unwrap_or o unnamed) (put a ∙ ap (λ t. cond t (Some r) (get name_eq old a)) (name_eq_sym b a ∙ same))
          ∙ is ∙ ap (λ (n : Name). changed change (action_in old n)) (sym (name_eq_same a b same))
          ∙ ap (λ t. made t change (action_in old a)) (sym same)
      | inr other ↦
          ap (λ o. unwrap_or o unnamed) (put a ∙ ap (λ t. cond t (Some r) (get name_eq old a)) (name_eq_sym b a ∙ other))
          ∙ ap (λ t. made t change (action_in old a)) (sym other)
    ]

-- an Ask changes its parent and its child
pub ask_both : {S : Type 0} (L : List Deed) (p b : Name) (old middle new : HashMap Name Action S)
    → Changes changes.ChildAsked p old middle → Changes changes.AskedFor b middle new → KeepsActions L old → KeepsActions (Ask p b ∷ L) new
ask_both L p b old middle new first second before a named =
    second a ∙ ap (made (name_eq a b) changes.AskedFor) (first a ∙ ap (made (name_eq a p) changes.ChildAsked) (before a named)) ∙ by (name_eq a b) (name_eq a p)
  where
    by : (t u : Bool) → made t changes.AskedFor (made u changes.ChildAsked (action_of L a))
        ≡ record (action_of L a) { is_asked_for = t || asked_for L a; asks = if u then asks L a + 1 else asks L a }
    by true true = refl
    by true false = refl
    by false true = refl
    by false false = refl

-- what a decision says of an action
decided_by : (outcome : Change) (b : Name) (d : Deed) → IsDecision outcome b d → (L : List Deed) (a : Name)
    → made (is_child a b) changes.ChildDecided (made (name_eq a b) outcome (action_of L a)) ≡ action_of (d ∷ L) a
decided_by changes.Committed b d is L a = by (is_child a b) (name_eq a b) ∙ ap (λ (e : Deed). action_of (e ∷ L) a) (sym is)
  where
    by : (t u : Bool) → made t changes.ChildDecided (made u changes.Committed (action_of L a))
        ≡ record (action_of L a) { is_committed = u || committed L a; decisions = if t then decisions L a + 1 else decisions L a }
    by true true = refl
    by true false = refl
    by false true = refl
    by false false = refl
decided_by changes.Aborted b d is L a = by (is_child a b) (name_eq a b) ∙ ap (λ (e : Deed). action_of (e ∷ L) a) (sym is)
  where
    by : (t u : Bool) → made t changes.ChildDecided (made u changes.Aborted (action_of L a))
        ≡ record (action_of L a) { is_aborted = u || aborted L a; decisions = if t then decisions L a + 1 else decisions L a }
    by true true = refl
    by true false = refl
    by false true = refl
    by false false = refl
decided_by _ b d is L a = absurd is

-- a decision of a child, and of a top action
pub decision_child : {S : Type 0} (L : List Deed) (outcome : Change) (b p : Name) (d : Deed) (old middle new : HashMap Name Action S) → IsDecision outcome b d → Some p ≡ parent b
    → Changes outcome b old middle → Changes changes.ChildDecided p middle new → KeepsActions L old → KeepsActions (d ∷ L) new
decision_child L outcome b p d old middle new is up first second before a named =
    second a ∙ ap (λ t. made t changes.ChildDecided (action_in middle a)) (ap (is_some_name a) up ∙ sym (child_of a b named))
    ∙ ap (made (is_child a b) changes.ChildDecided) (first a ∙ ap (made (name_eq a b) outcome) (before a named)) ∙ decided_by outcome b d is L a
