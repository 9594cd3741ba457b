-- What became of an operation whose answer its action got.
use Rattle.std.proofs.Common.{◌≡◌, inl, inr, eqb, Bool, true, false, ◌&&◌, List, [], ◌∷◌, Some, refl, sym, ◌∙◌, subst, ℕ, ◌++◌}
use Rattle.std.proofs.lemmas.Bool.{and_parts, and_from, true≢false, eq-eqb, or_cases, or_left, or_right, eqb-true}
use Rattle.std.specs.List.{list_any}
use Rattle.cam_names.proofs.Names.{name_eq_same}
use Rattle.cam_names.specs.Names.{name_eq}
use Rattle.cam_names.specs.declared.name.Name.{Name}
use Rattle.cam_type.specs.Table.{answer_eq}
use Rattle.cam_type.specs.declared.Answer.{Answer}
use Rattle.cam_type.specs.declared.ObjectDecl.{ObjectDecl}
use Rattle.cam_event.specs.Gained.{deps, visited}
use Rattle.cam_event.specs.History.{Addressed, call_of}
use Rattle.cam_event.specs.Live.{site_of}
use Rattle.cam_event.specs.declared.Deed.{Deed}
use Rattle.cam_event.specs.declared.Deed.TheVariants.{Got}
use Rattle.cam_event.specs.declared.Seen.{Seen}
use Rattle.cam_event.specs.declared.Seen.TheVariants.{Done, Busy, Gone}
use Rattle.cam_plain.specs.Legal.{Legal}
use Rattle.cam_plain.specs.Lines.{is_perform}
use Rattle.cam_plain.proofs.Called.{call_stays}
use Rattle.cam_plain.proofs.Fates.{performed_fate}
use Rattle.cam_plain.proofs.Held.{deps_grow}
use Rattle.cam_type.proofs.SameAnswers.{answer_eq_same}

-- the action got this answer of its call
abbrev pub is_done : Answer → Seen → Bool
is_done answer (Done other) = answer_eq answer other
is_done answer (Busy u) = false
is_done answer Gone = false

-- a Got of the call with this answer
abbrev pub is_got : Name → ℕ → Answer → Deed → Bool
is_got a n answer (Got b m seen) = name_eq a b && eqb n m && is_done answer seen
is_got a n answer _ = false

-- the pair of a call: its site and the count at which it was addressed
abbrev pub visits : List ObjectDecl → Addressed → ℕ × ℕ → Bool
visits objects call p = eqb p.0 (site_of objects call.object) && eqb p.1 call.count

-- a Got adds the pair of its call
got_visits : (objects : List ObjectDecl) (L : List Deed) (a b : Name) (m : ℕ) (other : Answer) (t : ℕ × ℕ → Bool) → name_eq a b ≡ true → list_any t (visited objects (call_of L b m) ++ deps objects L a) ≡ true → list_any t (deps objects (Got b m (Done other) ∷ L) a) ≡ true
got_visits objects L a b m other t e h = rw e h

-- of an answer that it got the call was performed, and the action depends on the site at the count
pub got_done : (objects : List ObjectDecl) (L : List Deed) (a : Name) (n : ℕ) (answer : Answer) → Legal objects L → list_any (is_got a n answer) L ≡ true → (list_any (is_perform a n answer) L ≡ true) × ((call : Addressed) × (call_of L a n ≡ Some call) × (list_any (visits objects call) (deps objects L a) ≡ true))
got_done objects [] a n answer legal h = cc
got_done objects (d ∷ L) a n answer legal h = elim (or_cases (is_got a n answer d) (list_any (is_got a n answer) L) h) [
  | inl e ↦ now d legal e
  | inr r ↦
      let rest = got_done objects L a n answer legal.1 r in
      (or_right (is_perform a n answer d) (list_any (is_perform a n answer) L) rest.0, (rest.1.0, call_stays objects L d a n rest.1.0 legal rest.1.1, deps_grow objects L d a (visits objects rest.1.0) rest.1.2))
]
  where
    now : (e : Deed) → Legal objects (e ∷ L) → is_got a n answer e ≡ true → (list_any (is_perform a n answer) (e ∷ L) ≡ true) × ((call : Addressed) × (call_of (e ∷ L) a n ≡ Some call) × (list_any (visits objects call) (deps objects (e ∷ L) a) ≡ true))
    now (Got b m (Done other)) l e =
        let parts = and_parts (name_eq a b && eqb n m) (answer_eq answer other) e in
        let names = and_parts (name_eq a b) (eqb n m) parts.0 in
        let one : b ≡ a = sym (name_eq_same a b names.0) in
        let two : m ≡ n = sym (eqb-true n m names.1) in
        let seen : list_any (is_perform a n answer) L ≡ true =
        subst (λ x. list_any (is_perform a n x) L ≡ true) (sym (answer_eq_same answer other parts.1)) (subst (λ k. list_any (is_perform a k other) L ≡ true) two (subst (λ x. list_any (is_perform x m other) L ≡ true) one l.0.seen_so)) in
        let found = performed_fate objects L a n answer l.1 seen in
        let asked : call_of L b m ≡ Some found.0 = (λ i. call_of L (one i) (two i)) ∙ found.1 in
        let there : list_any (visits objects found.0) (visited objects (call_of L b m) ++ deps objects L a) ≡ true =
        subst (λ c. list_any (visits objects found.0) (visited objects c ++ deps objects L a) ≡ true) (sym asked)
        (or_left (eqb (site_of objects found.0.object) (site_of objects found.0.object) && eqb found.0.count found.0.count) (list_any (visits objects found.0) (deps objects L a))
        (and_from (eqb (site_of objects found.0.object) (site_of objects found.0.object)) (eqb found.0.count found.0.count) (eq-eqb (site_of objects found.0.object) (site_of objects found.0.object) refl) (eq-eqb found.0.count found.0.count refl))) in
        (seen, (found.0, found.1, got_visits objects L a b m other (visits objects found.0) names.0 there))
    now (Got b m (Busy u)) l e = absurd (true≢false (sym (and_parts (name_eq a b && eqb n m) false e).1))
    now (Got b m Gone) l e = absurd (true≢false (sym (and_parts (name_eq a b && eqb n m) false e).1))
    now _ l e = absurd (true≢false (sym e))
