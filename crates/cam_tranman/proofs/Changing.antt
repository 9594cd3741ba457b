-- One entry of what is kept of actions is changed, and one child is taken away.
use Rattle.std.proofs.Common.{◌≡◌, ℕ, ◌+◌, Bool, true, false, not, ◌&&◌, ◌||◌, if◌then◌else◌, List, [], ◌∷◌, ◌++◌, filter, Option, Some, None, refl, sym, ap, subst, ◌∙◌}
use Rattle.std.specs.Prelude.{option_map}
use Rattle.std.specs.List.{list_any}
use Rattle.std.specs.Option.{option_map_or}
use Rattle.cam_names.specs.declared.name.Name.{Name}
use Rattle.cam_names.specs.Names.{name_eq}
use Rattle.cam_event.specs.declared.Seen.{Seen}
use Rattle.cam_names.proofs.Names.{name_eq_same, name_eq_sym}
use Rattle.cam_tranman.specs.declared.action.Action.{Action}
use Rattle.cam_tranman.specs.declared.call.OpenCall.{OpenCall}
use Rattle.cam_tranman.specs.Actions.{Actions}
use Rattle.cam_tranman.specs.Calls.{AreSame, changed, on, with_call, seeing, got_by, got, next_child}

-- what was kept of it, changed
pub changed_there : (a : Name) (kept more : Action) (change : Action → Action) (old new : Name → Option Action) → old a ≡ Some kept → more ≡ change kept
    → ((b : Name) → new b ≡ (if name_eq a b then Some more else old b)) → (b : Name) → new b ≡ changed a change old b
changed_there a kept more change old new was is put b = put b ∙ by (name_eq a b) refl
  where
    by : (t : Bool) → name_eq a b ≡ t → (if t then Some more else old b) ≡ (if t then option_map change (old b) else old b)
    by true same = ap (λ (k : Action). Some k) is ∙ sym (ap (λ (o : Option Action). option_map change o) (ap old (sym (name_eq_same a b same)) ∙ was))
    by false other = refl

-- where nothing was kept, nothing is changed
pub changed_nowhere : (a : Name) (change : Action → Action) (old : Name → Option Action) → old a ≡ None → (b : Name) → old b ≡ changed a change old b
changed_nowhere a change old was b = by (name_eq a b) refl
  where
    by : (t : Bool) → name_eq a b ≡ t → old b ≡ (if t then option_map change (old b) else old b)
    by true same = let e = ap old (sym (name_eq_same a b same)) ∙ was in e ∙ sym (ap (λ (o : Option Action). option_map change o) e)
    by false other = refl

-- among the others
pub without_among : (b q : Name) (names : List Name)
    → list_any (name_eq q) (filter (λ c. not (name_eq b c)) names) ≡ (not (name_eq b q) && list_any (name_eq q) names)
without_among b q [] = none (name_eq b q)
  where
    none : (t : Bool) → false ≡ (not t && false)
    none true = refl
    none false = refl
without_among b q (c ∷ names) = by (name_eq b c) refl (without_among b q names)
  where
    by : (t : Bool) → name_eq b c ≡ t → list_any (name_eq q) (filter (λ c. not (name_eq b c)) names) ≡ (not (name_eq b q) && list_any (name_eq q) names)
        → list_any (name_eq q) (if not t then c ∷ filter (λ c. not (name_eq b c)) names else filter (λ c. not (name_eq b c)) names)
        ≡ (not (name_eq b q) && (name_eq q c || list_any (name_eq q) names))
    by true same rest = rest ∙ here (name_eq q c) refl
      where
        here : (u : Bool) → name_eq q c ≡ u → (not (name_eq b q) && list_any (name_eq q) names) ≡ (not (name_eq b q) && (u || list_any (name_eq q) names))
        here true is = let e : name_eq b q ≡ true = ap (name_eq b) (name_eq_same q c is) ∙ same in rw e refl
        here false is = refl
    by false other rest = ap (λ (t : Bool). name_eq q c || t) rest ∙ here (name_eq q c) refl
      where
        here : (u : Bool) → name_eq q c ≡ u → (u || (not (name_eq b q) && list_any (name_eq q) names)) ≡ (not (name_eq b q) && (u || list_any (name_eq q) names))
        here true is = let e : name_eq b q ≡ false = ap (name_eq b) (name_eq_same q c is) ∙ other in rw e refl
        here false is = refl

-- the same changes make the same of the same
pub changed_same : (a : Name) (change : Action → Action) (one other : Name → Option Action) → ((q : Name) → other q ≡ one q) → (q : Name)
    → changed a change other q ≡ changed a change one q
changed_same a change one other same q = ap (λ (o : Option Action). if name_eq a q then option_map change o else o) (same q)

-- what an action got, where this is its open call
pub got_is : (a : Name) (seen : Seen) (call : OpenCall) (old new : Actions) → old.call a ≡ Some call
    → AreSame (with_call a None (on a (seeing seen call) old)) new → AreSame (got a seen old) new
got_is a seen call old new is same = subst (λ (o : Option OpenCall). AreSame (got_by o a seen old) new) (sym is) same

-- the next child, where this is kept of its parent
pub child_is : (a b : Name) (m n : ℕ) (kept : Action) (old : Actions) → old.action a ≡ Some kept
    → b ≡ a ++ record { node = m; count = n; number = kept.asks + 1 } ∷ [] → b ≡ next_child old a m n
child_is a b m n kept old was is =
    is ∙ ap (λ (o : Option Action). a ++ record { node = m; count = n; number = option_map_or (λ k. k.asks) o 0 + 1 } ∷ []) (sym was)

-- one of these among them, told from either side
pub or_among : (b c q : Name) (one other : Bool) → b ≡ c → other ≡ one → (name_eq b q || other) ≡ (name_eq q c || one)
or_among b c q one other is same = ap (λ (t : Bool). name_eq b q || t) same ∙ ap (λ (t : Bool). t || one) (ap (λ (x : Name). name_eq x q) is ∙ name_eq_sym c q)
