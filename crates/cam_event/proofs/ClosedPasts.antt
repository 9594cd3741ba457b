-- Each past is closed, and so are sets that have the past of each of their events.
use Rattle.std.proofs.Common.{◌≡◌, inl, inr, ℕ, ◌<◌, eqb, Bool, true, false, ◌||◌, List, [], ◌∷◌, length, Option, Some, None, refl, sym, ◌∙◌, arith, subst}
use Rattle.std.proofs.lemmas.Bool.{eqb-true, or_cases, or_left, or_right}
use Rattle.std.proofs.lemmas.Bool.Decides.{eqb_tells}
use Rattle.cam_event.specs.declared.LetterId.{LetterId}
use Rattle.cam_event.specs.declared.Event.{Event}
use Rattle.cam_event.specs.Pasts.{last_of, sender_of, holds, in_past, HasNode, HasSender, IsClosed, IsEarlier, IsOrdered}
use Rattle.cam_event.proofs.PastLaws.{in_past_newest, in_past_older, last_below, past_has_it, past_below}

-- more positions have each event of the node too
pub HasNode_more : (t : List Event) (S R : ℕ → Bool) (s : ℕ) → ((k : ℕ) → S k ≡ true → R k ≡ true) → HasNode t S s → HasNode t R s
HasNode_more [] S R s more has = tt
HasNode_more (e ∷ t) S R s more has = (λ same. more (length t) (has.0 same), HasNode_more t S R s more has.1)

pub HasSender_more : (S R : ℕ → Bool) (got : Option LetterId) → ((k : ℕ) → S k ≡ true → R k ≡ true) → HasSender S got → HasSender R got
HasSender_more S R None more has = tt
HasSender_more S R (Some letter) more has = more letter.event has

-- two closed sets together are closed
pub closed_or : (t : List Event) (S R : ℕ → Bool) → IsClosed t S → IsClosed t R → IsClosed t (λ k. S k || R k)
closed_or [] S R one other = tt
closed_or (e ∷ t) S R one other =
    let left : (k : ℕ) → S k ≡ true → (S k || R k) ≡ true = λ k h. or_left (S k) (R k) h in
    let right : (k : ℕ) → R k ≡ true → (S k || R k) ≡ true = λ k h. or_right (S k) (R k) h in (
      λ h. elim (or_cases (S (length t)) (R (length t)) h) [
        | inl in_one ↦ (HasNode_more t S (λ k. S k || R k) e.node left (one.0 in_one).0, HasSender_more S (λ k. S k || R k) e.got left (one.0 in_one).1)
        | inr in_other ↦ (HasNode_more t R (λ k. S k || R k) e.node right (other.0 in_other).0, HasSender_more R (λ k. S k || R k) e.got right (other.0 in_other).1)
      ],
      closed_or t S R one.1 other.1,
    )

-- a set that has the positions of a closed set, and others only from the trace's length on, is closed
pub closed_below : (t : List Event) (S R : ℕ → Bool) → ((k : ℕ) → S k ≡ true → R k ≡ true) → ((k : ℕ) → k < length t → R k ≡ true → S k ≡ true) → IsClosed t S → IsClosed t R
closed_below [] S R more less closed = tt
closed_below (e ∷ t) S R more less closed = (
  λ h. let there = closed.0 (less (length t) (omega arith) h) in (HasNode_more t S R e.node more there.0, HasSender_more S R e.got more there.1),
  closed_below t S R more (λ k small. less k (omega (arith, small))) closed.1,
)

pub closed_none : (t : List Event) → IsClosed t (λ k. false)
closed_none [] = tt
closed_none (e ∷ t) = (λ h. cc, closed_none t)

still_held : (e : Event) (t : List Event) (s i : ℕ) (o : Option ℕ) → last_of t s ≡ o → holds (in_past t i) o ≡ true → holds (in_past (e ∷ t) i) o ≡ true
still_held e t s i None at h = h
still_held e t s i (Some l) at h = in_past_older e t i l (last_below t s l at) ∙ h

-- the past of the last event of a node has each event of the node
pub last_has_node : (t : List Event) (s : ℕ) → HasNode t (λ i. holds (in_past t i) (last_of t s)) s
last_has_node [] s = tt
last_has_node (e ∷ t) s =
    elim (eqb_tells e.node s) [
      | inl y ↦
          let found : last_of (e ∷ t) s ≡ Some (length t) = rw y.0 refl in
          let S : ℕ → Bool = λ i. in_past (e ∷ t) i (length t) in
          let inner : HasNode t S s =
          HasNode_more t (λ i. holds (in_past t i) (last_of t s)) S s
          (λ i h. in_past_newest e t i ∙ or_left (eqb i (length t) || holds (in_past t i) (last_of t e.node)) (holds (in_past t i) (sender_of e.got))
          (or_right (eqb i (length t)) (holds (in_past t i) (last_of t e.node)) (subst (λ n. holds (in_past t i) (last_of t n) ≡ true) (sym y.1) h)))
          (last_has_node t s) in
          let mine : S (length t) ≡ true = past_has_it (e ∷ t) (length t) (omega arith) in
          subst (λ o. HasNode (e ∷ t) (λ i. holds (in_past (e ∷ t) i) o) s) (sym found) ((λ _. mine), inner)
      | inr n ↦
          let older : last_of (e ∷ t) s ≡ last_of t s = rw n.0 refl in
          subst (λ o. HasNode (e ∷ t) (λ i. holds (in_past (e ∷ t) i) o) s) (sym older) (
            (λ same. absurd (n.1 same)),
            HasNode_more t (λ i. holds (in_past t i) (last_of t s)) (λ i. holds (in_past (e ∷ t) i) (last_of t s)) s
                (λ i h. still_held e t s i (last_of t s) refl h) (last_has_node t s),
          )
    ]

below_itself : (t : List Event) (j : ℕ) → in_past t (length t) j ≡ true → ⊥
below_itself t j h = omega (arith, past_below t (length t) j h)

pub closed_held : (t : List Event) (o : Option ℕ) → ((j : ℕ) → IsClosed t (λ i. in_past t i j)) → IsClosed t (λ i. holds (in_past t i) o)
closed_held t None closed = closed_none t
closed_held t (Some k) closed = closed k

pub sender_held : (t : List Event) (got : Option LetterId) → IsEarlier (length t) got → HasSender (λ i. holds (in_past t i) (sender_of got)) got
sender_held t None earlier = tt
sender_held t (Some letter) earlier = past_has_it t letter.event earlier

-- Each past is closed, where each received letter names an earlier event.
pub past_is_closed : (t : List Event) → IsOrdered t → (j : ℕ) → IsClosed t (λ i. in_past t i j)
past_is_closed [] ordered j = tt
past_is_closed (e ∷ t) ordered j =
    elim (eqb_tells j (length t)) [
      | inl y ↦
          let L : ℕ → Bool = λ i. holds (in_past t i) (last_of t e.node) in
          let R : ℕ → Bool = λ i. holds (in_past t i) (sender_of e.got) in
          let S : ℕ → Bool = λ i. in_past (e ∷ t) i (length t) in
          let from_left : (i : ℕ) → L i ≡ true → S i ≡ true = λ i h. in_past_newest e t i ∙ or_left (eqb i (length t) || L i) (R i) (or_right (eqb i (length t)) (L i) h) in
          let from_right : (i : ℕ) → R i ≡ true → S i ≡ true = λ i h. in_past_newest e t i ∙ or_right (eqb i (length t) || L i) (R i) h in
          let inner : IsClosed t S =
          closed_below t (λ i. L i || R i) S
          (λ i h. elim (or_cases (L i) (R i) h) [ inl l ↦ from_left i l | inr r ↦ from_right i r ])
          (λ i small h. elim (or_cases (eqb i (length t) || L i) (R i) (sym (in_past_newest e t i) ∙ h)) [
            | inl first ↦ elim (or_cases (eqb i (length t)) (L i) first) [
              | inl same ↦ absurd (omega (arith, small, eqb-true i (length t) same))
              | inr l ↦ or_left (L i) (R i) l
            ]
            | inr r ↦ or_right (L i) (R i) r
          ])
          (closed_or t L R (closed_held t (last_of t e.node) (past_is_closed t ordered.1)) (closed_held t (sender_of e.got) (past_is_closed t ordered.1))) in
          let here : IsClosed (e ∷ t) S =
          ((λ _. (HasNode_more t L S e.node from_left (last_has_node t e.node), HasSender_more R S e.got from_right (sender_held t e.got ordered.0))), inner) in
          subst (λ k. IsClosed (e ∷ t) (λ i. in_past (e ∷ t) i k)) (sym y.1) here
      | inr n ↦
          let same : (i : ℕ) → in_past (e ∷ t) i j ≡ in_past t i j = λ i. rw n.0 refl in (
            (λ h. absurd (below_itself t j (sym (same (length t)) ∙ h))),
            closed_below t (λ i. in_past t i j) (λ i. in_past (e ∷ t) i j) (λ i h. same i ∙ h) (λ i _ h. sym (same i) ∙ h) (past_is_closed t ordered.1 j),
          )
    ]

-- only events of the trace have a past
pub past_of_below : (t : List Event) (i j : ℕ) → in_past t i j ≡ true → j < length t
past_of_below [] i j h = cc
past_of_below (e ∷ t) i j h =
    elim (eqb_tells j (length t)) [
      | inl y ↦ omega (arith, y.1)
      | inr n ↦
          let older : in_past (e ∷ t) i j ≡ in_past t i j = rw n.0 refl in
          omega (arith, past_of_below t i j (sym older ∙ h))
    ]

-- A set that has the past of each event that it has is closed.
pub past_closes : (t : List Event) (S : ℕ → Bool) → IsOrdered t → ((i j : ℕ) → in_past t i j ≡ true → S j ≡ true → S i ≡ true) → IsClosed t S
past_closes [] S ordered has = tt
past_closes (e ∷ t) S ordered has = (
  λ h.
      let R : ℕ → Bool = λ i. in_past (e ∷ t) i (length t) in
      let there = (past_is_closed (e ∷ t) ordered (length t)).0 (past_has_it (e ∷ t) (length t) (omega arith)) in
      (HasNode_more t R S e.node (λ k g. has k (length t) g h) there.0, HasSender_more R S e.got (λ k g. has k (length t) g h) there.1),
  past_closes t S ordered.1 (λ i j g there. has i j (in_past_older e t i j (past_of_below t i j g) ∙ g) there),
)
