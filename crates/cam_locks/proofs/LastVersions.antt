-- The last version that passes a test.
use Rattle.std.proofs.Common.{◌≡◌, ◌⊎◌, ℕ, ◌≤◌, ◌<◌, Bool, true, false, if◌then◌else◌, cond, List, [], ◌∷◌, ◌++◌, length, drop, get_or, map, Option, Some, None, zero, suc, refl, sym, ap, ◌∙◌, arith}
use Rattle.std.proofs.Math.Logic.{inl, inr}
use Rattle.std.specs.Prelude.{slice_get}
use Rattle.std.specs.Option.{option_or}
use Rattle.cam_locks.specs.declared.LiveOp.{LiveOp}
use Rattle.cam_locks.specs.declared.versions.Version.{Version}
use Rattle.cam_locks.specs.Members.{In}
use Rattle.cam_locks.specs.Site.{IndicesRise}
use Rattle.cam_locks.specs.Changes.{last_current, last_of}
use Rattle.cam_locks.proofs.Members.{above}
use Rattle.cam_locks.proofs.LastElements.{split_last, last_snoc, got_at}

-- the last that passes is a member, and none behind it passes
pub record IsLast (test : Version → Bool) (vs : List Version) (v : Version) : Type 0 where
  pub member : In v vs
  pub passes : test v ≡ true
  pub last : (w : Version) → In w vs → test w ≡ true → w.last.index ≤ v.last.index

abbrev ops : List Version → List LiveOp
ops vs = map (λ v. v.last) vs

-- the last write of a version is among those of all of them
pub in_ops : (v : Version) (vs : List Version) → In v vs → In v.last (ops vs)
in_ops v [] h = absurd h
in_ops v (w ∷ vs) (inl e) = inl (ap (λ (u : Version). u.last) e)
in_ops v (w ∷ vs) (inr h) = inr (in_ops v vs h)

-- where no version is the last that passes, none passes
pub no_current : (test : Version → Bool) (vs : List Version) → last_current test vs ≡ None → (v : Version) → In v vs → test v ≡ false
no_current test [] none v h = absurd h
no_current test (w ∷ vs) none v h = by_rest (last_current test vs) (test w) refl refl none (no_current test vs) h
  where
    by_rest : (r : Option Version) (b : Bool) → last_current test vs ≡ r → test w ≡ b → option_or r (cond b (Some w) None) ≡ None
        → (last_current test vs ≡ None → (u : Version) → In u vs → test u ≡ false) → In v (w ∷ vs) → test v ≡ false
    by_rest (Some u) b is at none rest k = cc
    by_rest None true is at none rest k = cc
    by_rest None false is at none rest (inl e) = ap test e ∙ at
    by_rest None false is at none rest (inr k) = rest is v k

-- the last version that passes is behind all others that do
pub current_last : (test : Version → Bool) (low : ℕ) (vs : List Version) (next : ℕ) (v : Version) → IndicesRise low (ops vs) next
    → last_current test vs ≡ Some v → IsLast test vs v
current_last test low [] next v rise h = cc
current_last test low (w ∷ vs) next v rise h = by_rest (last_current test vs) (test w) refl refl h (current_last test (suc w.last.index) vs next v rise.1)
  where
    by_rest : (r : Option Version) (b : Bool) → last_current test vs ≡ r → test w ≡ b → option_or r (cond b (Some w) None) ≡ Some v
        → (last_current test vs ≡ Some v → IsLast test vs v) → IsLast test (w ∷ vs) v
    by_rest (Some u) b is at found rest =
        let r = rest (is ∙ found) in
        record {
          member = inr r.member;
          passes = r.passes;
          last = λ z m t. elim m [
            | inl e ↦ let from : suc w.last.index ≤ v.last.index = above (suc w.last.index) (ops vs) next v.last rise.1 (in_ops v vs r.member) in let same : z.last.index ≡ w.last.index = ap (λ (y : Version). y.last.index) e in omega arith
            | inr k ↦ r.last z k t
          ];
        }
    by_rest None true is at found rest =
        let same : w ≡ v = cc in
        record {
          member = inl (sym same);
          passes = ap test (sym same) ∙ at;
          last = λ z m t. elim m [
            | inl e ↦ let equal : z.last.index ≡ v.last.index = ap (λ (y : Version). y.last.index) (e ∙ same) in omega arith
            | inr k ↦ let wrong : true ≡ false = sym t ∙ no_current test vs is z k in cc
          ];
        }
    by_rest None false is at found rest = cc

-- the last that passes, with one more
last_more : (test : Version → Bool) (vs : List Version) (v : Version) → last_current test (vs ++ v ∷ []) ≡ (if test v then Some v else last_current test vs)
last_more test [] v = refl
last_more test (w ∷ vs) v =
    ap (λ (r : Option Version). option_or r (if test w then Some w else None)) (last_more test vs v) ∙ by_test (test v)
  where
    by_test : (b : Bool) → option_or (cond b (Some v) (last_current test vs)) (cond (test w) (Some w) None) ≡ cond b (Some v) (option_or (last_current test vs) (cond (test w) (Some w) None))
    by_test true = refl
    by_test false = refl

-- where the last version passes it is the last that does
pub current_last_of : (test : Version → Bool) (vs : List Version) (v : Version) → last_of vs ≡ Some v → test v ≡ true → last_current test vs ≡ Some v
current_last_of test vs v is passes = by_split (split_last vs)
  where
    by_split : (vs ≡ []) ⊎ ((us : List Version) × (u : Version) × (vs ≡ us ++ u ∷ [])) → last_current test vs ≡ Some v
    by_split (inl e) = let none : last_of vs ≡ None = ap last_of e in let wrong : Some v ≡ None = sym is ∙ none in cc
    by_split (inr r) =
        let same : Some r.1 ≡ Some v = sym (last_snoc r.0 r.1) ∙ sym (ap last_of r.2) ∙ is in
        let one : r.1 ≡ v = cc in
        ap (last_current test) r.2 ∙ last_more test r.0 r.1 ∙ ap (λ (b : Bool). cond b (Some r.1) (last_current test r.0)) (ap test one ∙ passes) ∙ same

-- where there is no version none passes
pub current_none_of : (test : Version → Bool) (vs : List Version) → last_of vs ≡ None → last_current test vs ≡ None
current_none_of test vs is = by_split (split_last vs)
  where
    by_split : (vs ≡ []) ⊎ ((us : List Version) × (u : Version) × (vs ≡ us ++ u ∷ [])) → last_current test vs ≡ None
    by_split (inl e) = ap (last_current test) e
    by_split (inr r) = let wrong : Some r.1 ≡ None = sym (last_snoc r.0 r.1) ∙ sym (ap last_of r.2) ∙ is in cc

-- what is found where all behind the place were passed
pub current_found : (test : Version → Bool) (vs : List Version) (i : ℕ) (v : Version) → i < length vs → v ≡ get_or vs i v → test v ≡ true
    → last_current test (drop (suc i) vs) ≡ None → last_current test vs ≡ slice_get vs i
current_found test [] i v lt is passes none = absurd (omega arith)
current_found test (w ∷ vs) zero v lt is passes none =
    ap (λ (r : Option Version). option_or r (if test w then Some w else None)) none ∙ ap (λ (b : Bool). cond b (Some w) None) (ap test (sym is) ∙ passes)
current_found test (w ∷ vs) (suc i) v lt is passes none =
    let rest : last_current test vs ≡ slice_get vs i = current_found test vs i v (omega arith) is passes none in
    let at : slice_get vs i ≡ Some v = got_at vs i v (omega arith) is in
    ap (λ (r : Option Version). option_or r (if test w then Some w else None)) (rest ∙ at) ∙ sym at
