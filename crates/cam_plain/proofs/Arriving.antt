-- The tests of a call that comes to its site decide its lines.
use Rattle.std.proofs.Common.{◌≡◌, inl, inr, ℕ, ◌≤◌, eqb, Bool, true, false, not, ◌&&◌, if◌then◌else◌, List, Option, Some, None, refl, sym, ap, ◌∙◌, subst, arith}
use Rattle.std.specs.Prelude.{is_none, nat_le}
use Rattle.std.specs.Bool.{Decides}
use Rattle.std.specs.Option.{option_map_or}
use Rattle.std.proofs.lemmas.Bool.{true≢false}
use Rattle.std.proofs.lemmas.Bool.Decides.{Decides-eqb, Decides-and, Decides-like, leb_tells}
use Rattle.cam_names.specs.declared.name.Name.{Name}
use Rattle.cam_names.specs.Names.{name_eq}
use Rattle.cam_names.proofs.Names.{name_eq_same, name_eq_refl}
use Rattle.cam_type.specs.declared.ObjectDecl.{ObjectDecl}
use Rattle.cam_type.specs.declared.Answer.{Answer}
use Rattle.cam_type.specs.Table.{answer_of, answer_eq}
use Rattle.cam_event.specs.declared.Deed.{Deed}
use Rattle.cam_event.specs.History.{count, Addressed, call_of}
use Rattle.cam_event.specs.Live.{site_of, first_conflict, holder, value}
use Rattle.cam_plain.specs.Lines.{replied, ArrivalLine, PerformLine, BounceLine}
use Rattle.cam_plain.specs.Tests.{arrival_test, is_performed, perform_test, is_name, is_bounced, bounce_test}
use Rattle.cam_type.proofs.SameAnswers.{answer_eq_same, answer_eq_refl}

pub is_true : (b : Bool) → Decides b (b ≡ true)
is_true b = (λ h. h, λ h. h)

pub is_false : (b : Bool) → Decides (not b) (b ≡ false)
is_false true = (λ h. sym h, λ h. sym h)
is_false false = (λ h. refl, λ h. refl)

pub is_no : {X : Type 0} (o : Option X) → Decides (is_none o) (o ≡ None)
is_no None = (λ h. refl, λ h. refl)
is_no (Some x) = (λ h. absurd (true≢false (sym h)), λ h. cc)

pub is_most : (m n : ℕ) → Decides (nat_le m n) (m ≤ n)
is_most m n = elim (leb_tells m n) [
  | inl h ↦ (λ e. h.1, λ e. h.0)
  | inr h ↦ (λ e. absurd (true≢false (sym e ∙ h.0)), λ e. absurd (omega (arith, e, h.1)))
]

-- a choice by a test
pub either : (t x : Bool) (m n : ℕ) → Decides (if t then eqb m n else x) ((t ≡ false → x ≡ true) × (t ≡ true → m ≡ n))
either true x m n = (λ h. (λ e. absurd (true≢false e), λ e. (Decides-eqb m n).0 h), λ h. (Decides-eqb m n).1 (h.1 refl))
either false x m n = (λ h. (λ e. h, λ e. absurd (true≢false (sym e))), λ h. h.0 refl)

-- a call of this number comes to its site and there passes a test
record Arrives (objects : List ObjectDecl) (L : List Deed) (a : Name) (n : ℕ) (P : Addressed → Type 0) : Type 0 where
  call : Addressed
  arrival : ArrivalLine objects L a n call
  passes : P call

found : (objects : List ObjectDecl) (L : List Deed) (a : Name) (n : ℕ) (P : Addressed → Type 0) (test : Addressed → Bool) (decides : (call : Addressed) → Decides (test call) (P call))
    (fresh : replied L a n ≡ false) (o : Option Addressed) → call_of L a n ≡ o
    → option_map_or (λ call. eqb call.count (count L (site_of objects call.object)) && test call) o false ≡ true → Arrives objects L a n P
found objects L a n P test decides fresh None is h = absurd (true≢false (sym h))
found objects L a n P test decides fresh (Some call) is h =
    let both = (Decides-and _ _ (Decides-eqb call.count (count L (site_of objects call.object))) (decides call)).0 h in
    record { call = call; arrival = record { called = is; fresh = fresh; count = both.0 }; passes = both.1 }

arrives_decides : (objects : List ObjectDecl) (L : List Deed) (a : Name) (n : ℕ) (P : Addressed → Type 0) (test : Addressed → Bool) (decides : (call : Addressed) → Decides (test call) (P call))
    → Decides (arrival_test objects L a n test) (Arrives objects L a n P)
arrives_decides objects L a n P test decides =
    let tail : Option Addressed → Bool = λ o. option_map_or (λ call. eqb call.count (count L (site_of objects call.object)) && test call) o false in
    let both = Decides-and (not (replied L a n)) (tail (call_of L a n)) (is_false (replied L a n)) (is_true (tail (call_of L a n))) in (
      λ h. let parts = both.0 h in found objects L a n P test decides parts.0 (call_of L a n) refl parts.1,
      λ h. both.1 (
        h.arrival.fresh,
        ap tail h.arrival.called
            ∙ (Decides-and _ _ (Decides-eqb h.call.count (count L (site_of objects h.call.object))) (decides h.call)).1 (h.arrival.count, h.passes),
      ),
    )

-- the test of two answers decides whether they are the same
answer_decides : (one other : Answer) → Decides (answer_eq one other) (one ≡ other)
answer_decides one other = (answer_eq_same one other, λ h. subst (λ (x : Answer). answer_eq one x ≡ true) h (answer_eq_refl one))

pub perform_decides : (objects : List ObjectDecl) (L : List Deed) (a : Name) (n : ℕ) (answer : Answer) → Decides (perform_test objects L a n answer) (PerformLine objects L a n answer)
perform_decides objects L a n answer =
    Decides-like (perform_test objects L a n answer)
    (λ h. record { call = h.call; arrival = h.arrival; free = h.passes.0; answered = h.passes.1 })
    (λ h. record { call = h.call; arrival = h.arrival; passes = (h.free, h.answered) })
    (arrives_decides objects L a n
    (λ call. (first_conflict objects L a call.object call.op ≡ None) × (answer ≡ answer_of (value objects L call.object) call.op))
    (is_performed objects L a answer)
    (λ call. Decides-and _ _ (is_no (first_conflict objects L a call.object call.op)) (answer_decides answer (answer_of (value objects L call.object) call.op))))

name_decides : (u : Name) (o : Option Name) → Decides (is_name u o) (o ≡ Some u)
name_decides u None = (λ h. absurd (true≢false (sym h)), λ h. cc)
name_decides u (Some v) = (λ h. ap (λ x. Some x) (name_eq_same v u h), λ h. let same : v ≡ u = cc in subst (λ (w : Name). name_eq v w ≡ true) same (name_eq_refl v))

pub bounce_decides : (objects : List ObjectDecl) (L : List Deed) (a : Name) (n : ℕ) (u : Name) → Decides (bounce_test objects L a n u) (BounceLine objects L a n u)
bounce_decides objects L a n u =
    Decides-like (bounce_test objects L a n u)
    (λ h. record { call = h.call; arrival = h.arrival; held = h.passes })
    (λ h. record { call = h.call; arrival = h.arrival; passes = h.held })
    (arrives_decides objects L a n (λ call. holder objects L a call.object call.op ≡ Some u) (is_bounced objects L a u)
    (λ call. name_decides u (holder objects L a call.object call.op)))
