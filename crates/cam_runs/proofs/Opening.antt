-- An action that works at a body has at most one call or child open, and then the last of its tries is open.
use Rattle.std.proofs.Common.{◌≡◌, inl, inr, cond, ℕ, Bool, true, false, not, ◌||◌, List, [], ◌∷◌, ◌++◌, filter, Some, None, is_some, refl, sym, ap, ◌∙◌, subst}
use Rattle.std.specs.List.{list_any}
use Rattle.std.proofs.lemmas.Bool.{true≢false, false_from_ne_true}
use Rattle.cam_names.specs.declared.name.Name.{Name}
use Rattle.cam_names.specs.Names.{name_eq, is_child}
use Rattle.cam_names.proofs.Names.{name_eq_same, name_eq_refl}
use Rattle.cam_type.specs.declared.ObjectDecl.{ObjectDecl}
use Rattle.cam_event.specs.declared.ViewStep.{ViewStep}
use Rattle.cam_event.specs.declared.Deed.{Deed}
use Rattle.cam_event.specs.History.{asked, decided, open_call, open_children, is_empty, has_open_child}
use Rattle.cam_event.specs.Views.{view}
use Rattle.cam_plain.specs.Legal.{Legal}
use Rattle.cam_plain.proofs.Decided.{child_open}
use Rattle.cam_body.specs.Work.{Try, closed_with, tries_after}
use Rattle.cam_runs.proofs.Tries.{closed, tries_append}
use Rattle.cam_runs.specs.UnderWay.{is_open_try, last_open, tries, Idle, Calling, Asking, OneOpen}

-- where a call is open that is it
pub called : (L : List Deed) (a : Name) (n : ℕ) → open_call L a ≡ Some n → OneOpen L a → Calling L a
called L a n h (inl k) = absurd (true≢false (ap is_some (sym h ∙ k.no_call)))
called L a n h (inr (inl k)) = k
called L a n h (inr (inr k)) = absurd (true≢false (ap is_some (sym h ∙ k.no_call)))

-- where neither is open nothing is
pub closed_idle : (L : List Deed) (a : Name) → open_call L a ≡ None → has_open_child L a ≡ false → OneOpen L a → (open_children L a ≡ [])
closed_idle L a none shut h = empty (open_children L a) shut
  where
    empty : (xs : List Name) → not (is_empty xs) ≡ false → xs ≡ []
    empty [] e = refl
    empty (x ∷ xs) e = cc

-- where a child is open that is it
pub asking : (L : List Deed) (a b : Name) → list_any (name_eq b) (open_children L a) ≡ true → OneOpen L a → (k : Asking L a) × (b ≡ k.child)
asking L a b h (inl k) = absurd (true≢false (sym h ∙ ap (list_any (name_eq b)) k.no_child))
asking L a b h (inr (inl k)) = absurd (true≢false (sym h ∙ ap (list_any (name_eq b)) k.no_child))
asking L a b h (inr (inr k)) = (k, name_eq_same b k.child (only (name_eq b k.child) (sym (ap (list_any (name_eq b)) k.one) ∙ h)))
  where
    only : (x : Bool) → (x || false) ≡ true → x ≡ true
    only true e = refl
    only false e = e

-- the child that was decided is closed
pub closes : (L : List Deed) (d : Deed) (a b : Name) (step : ViewStep) (result : Try) → list_any (name_eq b) (open_children L a) ≡ true → OneOpen L a
    → open_call (d ∷ L) a ≡ open_call L a → open_children (d ∷ L) a ≡ filter (λ c. not (name_eq b c)) (open_children L a) → view (d ∷ L) a ≡ view L a ++ step ∷ []
    → tries_after (tries L a) (step ∷ []) ≡ closed_with result (tries L a) → is_open_try result ≡ false → Idle (d ∷ L) a
closes L d a b step result h one same_call kids seen closing shut =
    let k = asking L a b h one in
    record {
      no_call = same_call ∙ k.0.no_call;
      no_child = kids ∙ ap (filter (λ c. not (name_eq b c))) k.0.one ∙ ap (λ (t : Bool). cond (not t) (k.0.child ∷ []) []) (subst (λ (c : Name). name_eq b c ≡ true) k.1 (name_eq_refl b));
      settled = ap (last_open false) (ap (tries_after []) seen ∙ tries_append [] (view L a) (step ∷ []) ∙ closing) ∙ closed result (tries L a) shut;
    }

-- what is the same stays
pub same_open : (L : List Deed) (d : Deed) (a : Name) → open_call (d ∷ L) a ≡ open_call L a → open_children (d ∷ L) a ≡ open_children L a → last_open false (tries (d ∷ L) a) ≡ last_open false (tries L a) → OneOpen L a → OneOpen (d ∷ L) a
same_open L d a c k t (inl h) = inl (record { no_call = c ∙ h.no_call; no_child = k ∙ h.no_child; settled = t ∙ h.settled })
same_open L d a c k t (inr (inl h)) = inr (inl (record { no_child = k ∙ h.no_child; waits = t ∙ h.waits }))
same_open L d a c k t (inr (inr h)) = inr (inr (record { child = h.child; is_its = h.is_its; no_call = c ∙ h.no_call; one = k ∙ h.one; waits = t ∙ h.waits }))

-- a decision of an action that is no child of this one
pub elsewhere : (L : List Deed) (a b : Name) → is_child a b ≡ false → OneOpen L a → filter (λ c. not (name_eq b c)) (open_children L a) ≡ open_children L a
elsewhere L a b other (inl k) = ap (filter (λ c. not (name_eq b c))) k.no_child ∙ sym k.no_child
elsewhere L a b other (inr (inl k)) = ap (filter (λ c. not (name_eq b c))) k.no_child ∙ sym k.no_child
elsewhere L a b other (inr (inr k)) =
    ap (filter (λ c. not (name_eq b c))) k.one
    ∙ ap (λ (t : Bool). cond (not t) (k.child ∷ []) []) (false_from_ne_true (name_eq b k.child) (λ e. true≢false (sym (subst (λ (c : Name). is_child a c ≡ true) (sym (name_eq_same b k.child e)) k.is_its) ∙ other)))
    ∙ sym k.one

-- an undecided child that was asked for is open
pub undecided_open : (objects : List ObjectDecl) (L : List Deed) (a b : Name) → Legal objects L → asked L a b ≡ true → decided L b ≡ false → list_any (name_eq b) (open_children L a) ≡ true
undecided_open objects L a b legal h fresh = elim (child_open objects L a b legal h) [ inl d ↦ absurd (true≢false (sym d ∙ fresh)) | inr o ↦ o ]
