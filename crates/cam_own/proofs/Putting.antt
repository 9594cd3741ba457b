-- What is put into a table at a name, and what stays.
use Rattle.std.proofs.Common.{◌≡◌, Bool, true, false, not, eqb, length, if◌then◌else◌, cond, List, [], ◌∷◌, ◌++◌, arith, Option, Some, unwrap_or, refl, sym, ap, ◌∙◌}
use Rattle.std.specs.List.{list_any}
use Rattle.std.specs.Option.{option_map_or}
use Rattle.std.specs.HashMap.{HashMap, get}
use Rattle.cam_names.specs.declared.name.Name.{Name}
use Rattle.cam_names.specs.Names.{name_eq, parent}
use Rattle.cam_names.proofs.Names.{name_eq_same, name_eq_sym}
use Rattle.cam_own.specs.declared.actions.Action.{Action}
use Rattle.cam_own.specs.declared.actions.Change.{Change}
use Rattle.cam_own.specs.Actions.{action_in, unnamed, changed, Changes}
use Rattle.cam_event.specs.declared.Deed.{Deed}
use Rattle.cam_event.specs.declared.Deed.TheVariants.{Ask}
use Rattle.cam_own.specs.Children.{is_parent, without, open_of, children_in, KeepsChildren, Puts}

-- one or the other
chosen : {X : Type 0} (t : Bool) (r : X) (o : Option X) (d : X) → unwrap_or (cond t (Some r) o) d ≡ (if t then r else unwrap_or o d)
chosen true r o d = refl
chosen false r o d = refl

pub put_at : {X S : Type 0} (d r : X) (old new : HashMap Name X S) (b : Name) → ((q : Name) → get name_eq new q ≡ cond (name_eq b q) (Some r) (get name_eq old q))
    → (a : Name) → unwrap_or (get name_eq new a) d ≡ (if name_eq a b then r else unwrap_or (get name_eq old a) d)
put_at d r old new b put a =
    ap (λ o. unwrap_or o d) (put a) ∙ chosen (name_eq b a) r (get name_eq old a) d
    ∙ ap (λ t. if t then r else unwrap_or (get name_eq old a) d) (name_eq_sym b a)

-- a change at an action
pub change_put : {S : Type 0} (old new : HashMap Name Action S) (b : Name) (change : Change) (r : Action) → r ≡ changed change (action_in old b)
    → ((q : Name) → get name_eq new q ≡ cond (name_eq b q) (Some r) (get name_eq old q)) → Changes change b old new
change_put old new b change r is put a =
    put_at unnamed r old new b put a ∙ by (name_eq a b) refl
  where
    by : (t : Bool) → name_eq a b ≡ t → (if t then r else action_in old a) ≡ (if t then changed change (action_in old a) else action_in old a)
    by true same = is ∙ ap (λ (n : Name). changed change (action_in old n)) (sym (name_eq_same a b same))
    by false other = refl

-- a list of names at an action, which was taken out before
pub puts : {S : Type 0} (old mid new : HashMap Name (List Name) S) (b : Name) (r names : List Name) → r ≡ names
    → ((q : Name) → name_eq b q ≡ false → children_in mid q ≡ children_in old q)
    → ((q : Name) → get name_eq new q ≡ cond (name_eq b q) (Some r) (get name_eq mid q)) → Puts b names old new
puts old mid new b r names is kept put a =
    put_at [] r mid new b put a ∙ by (name_eq a b) refl
  where
    by : (t : Bool) → name_eq a b ≡ t → (if t then r else children_in mid a) ≡ (if t then names else children_in old a)
    by true same = is
    by false other = kept a (name_eq_sym b a ∙ other)

-- a list has something if it is not empty
pub any_there : (names : List Name) → list_any (λ c. true) names ≡ not (eqb (length names) 0)
any_there [] = refl
any_there (b ∷ names) = grind arith

-- an action asks for a child
pub ask_kept : {S : Type 0} (L : List Deed) (p b : Name) (old new : HashMap Name (List Name) S) → Puts p (children_in old p ++ b ∷ []) old new → KeepsChildren L old → KeepsChildren (Ask p b ∷ L) new
ask_kept L p b old new put before a =
    put a ∙ by (name_eq a p) refl
  where
    by : (t : Bool) → name_eq a p ≡ t → (if t then children_in old p ++ b ∷ [] else children_in old a) ≡ (if t then open_of L a ++ b ∷ [] else open_of L a)
    by true same = ap (λ (names : List Name). names ++ b ∷ []) (ap (children_in old) (sym (name_eq_same a p same)) ∙ before a)
    by false other = before a

-- a decision is of a child of its parent
pub decided : {S : Type 0} (b p : Name) (old new : HashMap Name (List Name) S) → Some p ≡ parent b → Puts p (without b (children_in old p)) old new
    → (a : Name) → children_in new a ≡ (if is_parent a b then without b (children_in old a) else children_in old a)
decided b p old new is put a =
    put a ∙ by (name_eq a p) refl ∙ ap (λ (o : Option Name). if option_map_or (name_eq a) o false then without b (children_in old a) else children_in old a) is
  where
    by : (t : Bool) → name_eq a p ≡ t → (if t then without b (children_in old p) else children_in old a) ≡ (if t then without b (children_in old a) else children_in old a)
    by true same = ap (λ n. without b (children_in old n)) (sym (name_eq_same a p same))
    by false other = refl
