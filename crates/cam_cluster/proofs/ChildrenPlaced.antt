-- A body asks for children at nodes of the script alone.
use Rattle.std.proofs.Common.{◌≡◌, ◌⊎◌, inl, inr, ℕ, ℤ, ◌+◌, ◌≤◌, Bool, true, ◌&&◌}
use Rattle.std.proofs.Common.{List, [], ◌∷◌, Some, refl, sym}
use Rattle.std.proofs.Common.{subst, length}
use Rattle.std.specs.Prelude.{nat_le, nat_lt}
use Rattle.std.specs.List.{list_all}
use Rattle.cam_names.specs.declared.name.Name.{Name}
use Rattle.cam_type.specs.declared.ObjectDecl.{ObjectDecl}
use Rattle.cam_event.specs.declared.Want.{Want}
use Rattle.cam_event.specs.declared.Want.TheVariants as wants
use Rattle.cam_body.specs.Work.{body_at, want_of}
use Rattle.cam_script.specs.declared.Statement.{Statement}
use Rattle.cam_script.specs.declared.Statement.TheVariants as statements
use Rattle.cam_script.specs.Law.{are_bodies, asks_rightly, closes_rightly, is_body}
use Rattle.cam_script.specs.Law.{is_node, is_whole_body}
use Rattle.cam_script.proofs.Appended.{left, right}
use Rattle.cam_script.proofs.Holds.{both}
use Rattle.cam_cluster.specs.VariableLines.{IsAtNode}
use Rattle.cam_cluster.proofs.Bindings.{IsAskedAt}
use Rattle.cam_cluster.proofs.StepHolds.{node_within}

-- a statement asks for a child at a node of the script alone
abbrev pub child_placed : ℕ → Statement → Bool
child_placed nodes (statements.Call tries x op) = true
child_placed nodes (statements.Child tries m body) = is_node nodes m
child_placed nodes (statements.Commit e) = true
child_placed nodes statements.Abort = true

asks_placed : (nodes : ℕ) (objects : List ObjectDecl) (b earlier : ℕ) (s : Statement)
    → asks_rightly nodes objects b earlier s ≡ true → child_placed nodes s ≡ true
asks_placed nodes objects b earlier (statements.Call tries x op) h = refl
asks_placed nodes objects b earlier (statements.Child tries m body) h =
    left (is_node nodes m) (nat_lt body b) (right _ _ h)
asks_placed nodes objects b earlier (statements.Commit e) h = refl
asks_placed nodes objects b earlier statements.Abort h = refl

closes_placed : (nodes earlier : ℕ) (s : Statement) → closes_rightly earlier s ≡ true
    → child_placed nodes s ≡ true
closes_placed nodes earlier (statements.Call tries x op) h = refl
closes_placed nodes earlier (statements.Child tries m body) h = cc
closes_placed nodes earlier (statements.Commit e) h = refl
closes_placed nodes earlier statements.Abort h = refl

body_placed : (nodes : ℕ) (objects : List ObjectDecl) (b earlier : ℕ) (ss : List Statement)
    → is_whole_body nodes objects b earlier ss ≡ true → list_all (child_placed nodes) ss ≡ true
body_placed nodes objects b earlier [] h = refl
body_placed nodes objects b earlier (s ∷ []) h = both (closes_placed nodes earlier s h) refl
body_placed nodes objects b earlier (s ∷ t ∷ ss) h =
    both (asks_placed nodes objects b earlier s (left _ (is_whole_body nodes objects b (earlier +
    1) (t ∷ ss)) h)) (body_placed nodes objects b (earlier + 1) (t ∷ ss) (right _ _ h))

pub bodies_placed : (nodes : ℕ) (objects : List ObjectDecl) (b : ℕ) (bs : List (List Statement))
    → are_bodies nodes objects b bs ≡ true
    → list_all (λ body. list_all (child_placed nodes) body) bs ≡ true
bodies_placed nodes objects b [] h = refl
bodies_placed nodes objects b (x ∷ bs) h =
    both (body_placed nodes objects b 0 x (left _ (nat_le (length x) 32) (left _ (are_bodies nodes
    objects (b + 1) bs) h))) (bodies_placed nodes objects (b + 1) bs (right _ _ h))

-- a child that a statement at work asks for
pub at_child : (nodes : ℕ) (values : List ℤ) (s : Statement) (more : List Statement) (n : ℕ)
    (want : Want) (b : Name) → child_placed nodes s ≡ true → body_at (s ∷ more) ≡ Some n
    → (want ≡ wants.Abort) ⊎ (want ≡ want_of values s) → IsAskedAt want b → IsAtNode nodes b
at_child nodes values s more n want b holds at (inl aborts) asked =
    absurd (subst (λ (w : Want). IsAskedAt w b) aborts asked)
at_child nodes values (statements.Child tries m body) more n want b holds at (inr its) asked =
    subst (λ (k : ℕ). (1 ≤ k) × (k ≤ nodes)) (sym (subst (λ (w : Want). IsAskedAt w b) its asked))
    (node_within _ _ holds)
at_child nodes values (statements.Call tries x op) more n want b holds at (inr its) asked = cc
at_child nodes values (statements.Commit e) more n want b holds at (inr its) asked = cc
at_child nodes values statements.Abort more n want b holds at (inr its) asked = cc
