-- What a letter carries covers what it and its commits depend on.
use Rattle.std.proofs.Common.{◌≡◌, ◌⊎◌, inl, inr, ℕ, ◌≤◌, eqb, true, false, not, List, [], Option, Some, is_some, refl, sym, ap, ◌∙◌, subst, arith}
use Rattle.std.specs.Prelude.{nat_le, zero, suc}
use Rattle.std.specs.List.{list_all}
use Rattle.std.proofs.lemmas.Bool.{le-leb}
use Rattle.std.proofs.lemmas.Bool.Decides.{eqb_tells}
use Rattle.cam_names.specs.declared.name.Name.{Name}
use Rattle.cam_names.specs.Dependencies.{pairs_of}
use Rattle.cam_type.specs.declared.ObjectDecl.{ObjectDecl}
use Rattle.cam_know.specs.declared.Outcome.{Outcome}
use Rattle.cam_know.specs.declared.Outcome.TheVariants.{Aborted, Committed}
use Rattle.cam_know.specs.Knowledge.{Knowledge}
use Rattle.cam_know.specs.Known.{known_count, IsSame}
use Rattle.cam_event.specs.declared.LetterId.{LetterId}
use Rattle.cam_event.specs.declared.Event.{Event}
use Rattle.cam_event.specs.declared.Body.{Body}
use Rattle.cam_event.specs.declared.Body.TheVariants as bodies
use Rattle.cam_event.specs.declared.Deed.{Deed}
use Rattle.cam_event.specs.History.{count}
use Rattle.cam_event.specs.Gained.{deps}
use Rattle.cam_event.specs.Pasts.{holds, in_past, plain, every, IsClosed}
use Rattle.cam_event.specs.Inputs.{Mail, letter_at}
use Rattle.cam_event.specs.ByPast.{told}
use Rattle.cam_event.specs.ByDeltas.{load_at}
use Rattle.cam_event.specs.DeltasByPast.{past_of, past_load, past_load_by, past_load_at, told_from, stands_in, base_in, trace_to, first_with}
use Rattle.cam_event.specs.Readings.{by_whole_letters, told_at}
use Rattle.cam_event.specs.Runs.{IsNode}
use Rattle.cam_event.proofs.Members.{In, event_below, plain_more}
use Rattle.cam_event.proofs.PastLaws.{past_has_it}
use Rattle.cam_event.proofs.ClosedPasts.{past_is_closed}
use Rattle.cam_plain.specs.Legal.{Legal}
use Rattle.cam_cut.proofs.DepsFacts.{Ranged, pair_count, pair_range}
use Rattle.cam_cut.proofs.Families.{sent_by}
use Rattle.cam_cut.proofs.Holds.{RunHolds}
use Rattle.cam_cut.proofs.Lists.{all_in, in_filter}
use Rattle.cam_cut.proofs.Pairs.{pairs_in}
use Rattle.cam_agree.proofs.Ran.{Ran, ran_holds}
use Rattle.cam_agree.proofs.DepsSaid.{letters_say}
use Rattle.cam_agree.proofs.DepsSays.{BodySays}
use Rattle.cam_agree.proofs.DepsAgreed.{told_in, ran_letters}
use Rattle.cam_delta.proofs.PastLoads.{ran_loads}
use Rattle.cam_delta.proofs.SameHistories.{same_alike}
use Rattle.cam_node.specs.Lawful.{are_known, body_counts, is_known_outcome}

-- the past of the event that sent a letter
pub record SenderPast (objects : List ObjectDecl) (t : List Event) (letter : LetterId) : Type 0 where
  pub closed : IsClosed t (λ k. in_past t k letter.event)
  pub it : in_past t letter.event letter.event ≡ true
  pub legal : Legal objects (past_of t letter.event)
  pub ranged : (d : Deed) → In d (past_of t letter.event) → Ranged objects d

pub sender_past : (objects : List ObjectDecl) (t : List Event) (letter : LetterId) (mail : Mail) → Ran objects t → letter_at t letter ≡ Some mail → SenderPast objects t letter
sender_past objects t letter mail run at =
    let holds : RunHolds objects t = ran_holds objects t run in
    let closed : IsClosed t (λ k. in_past t k letter.event) = past_is_closed t holds.ordered letter.event in
    let from = sent_by t letter mail at in
    record {
      closed = closed;
      it = past_has_it t letter.event (event_below t letter.event from.event from.at);
      legal = holds.legal (λ k. in_past t k letter.event) closed;
      ranged = λ d i. holds.ranged d (plain_more t (λ k. in_past t k letter.event) every (λ k h. refl) d i);
    }

-- the history has this pair: its node is 1 to 8, and its count is at most that of the node there
abbrev pub IsCovered : List Deed → ℕ × ℕ → Type 0
IsCovered L p = IsNode p.0 × (p.1 ≤ count L p.0)

pub deps_covered : (objects : List ObjectDecl) (L : List Deed) (a : Name) (p : ℕ × ℕ) → Legal objects L → ((d : Deed) → In d L → Ranged objects d) → In p (deps objects L a) → IsCovered L p
deps_covered objects L a p legal ranged i = ((pair_range objects L a p ranged i).0, pair_count objects L a p legal i)

says_covered : (objects : List ObjectDecl) (L : List Deed) (body : Body) (p : ℕ × ℕ) → Legal objects L → ((d : Deed) → In d L → Ranged objects d) → BodySays objects L body → In p (pairs_of (body_counts body)) → IsCovered L p
says_covered objects L (bodies.Start b counts) p legal ranged says i = deps_covered objects L b p legal ranged (says.within p (inr i))
says_covered objects L (bodies.Call a n x op c counts) p legal ranged says i = deps_covered objects L a p legal ranged (says.within p i)
says_covered objects L (bodies.Finish b v counts) p legal ranged says i =
    deps_covered objects L b p legal ranged (pairs_in (deps objects L b) p (subst (λ (cs : List ℕ). In p (pairs_of cs)) says.final i))
says_covered objects L (bodies.Answer a n reply) p legal ranged says i = absurd i
says_covered objects L (bodies.Quit a) p legal ranged says i = absurd i
says_covered objects L (bodies.Prepare f c) p legal ranged says i = absurd i
says_covered objects L (bodies.Vote f c agrees) p legal ranged says i = absurd i
says_covered objects L (bodies.Query f) p legal ranged says i = absurd i
says_covered objects L bodies.News p legal ranged says i = absurd i

-- the counts that a history tells
pub told_count : (objects : List ObjectDecl) (L : List Deed) (m : ℕ) → IsNode m → known_count (told objects L) m ≡ count L m
told_count objects L zero is = absurd (let low = is.0 in omega (arith, low))
told_count objects L (suc zero) is = refl
told_count objects L (suc (suc zero)) is = refl
told_count objects L (suc (suc (suc zero))) is = refl
told_count objects L (suc (suc (suc (suc zero)))) is = refl
told_count objects L (suc (suc (suc (suc (suc zero))))) is = refl
told_count objects L (suc (suc (suc (suc (suc (suc zero)))))) is = refl
told_count objects L (suc (suc (suc (suc (suc (suc (suc zero))))))) is = refl
told_count objects L (suc (suc (suc (suc (suc (suc (suc (suc zero)))))))) is = refl
told_count objects L (suc (suc (suc (suc (suc (suc (suc (suc (suc m))))))))) is = absurd (let high = is.1 in omega (arith, high))

-- knowledge that has the counts of a history, and of its outcomes some
pub record IsOf (objects : List ObjectDecl) (L : List Deed) (k : Knowledge) : Type 0 where
  pub counts : k.counts ≡ (told objects L).counts
  pub outcomes : (o : Outcome) → In o k.outcomes → In o (told objects L).outcomes

pub count_is : (objects : List ObjectDecl) (L : List Deed) (k : Knowledge) (m : ℕ) → IsOf objects L k → IsNode m → known_count k m ≡ count L m
count_is objects L k m is node = ap (λ (cs : List ℕ). known_count (record { outcomes = []; counts = cs }) m) is.counts ∙ told_count objects L m node

pub are_covered : (objects : List ObjectDecl) (L : List Deed) (k : Knowledge) (counts : List ℕ) → IsOf objects L k → ((p : ℕ × ℕ) → In p (pairs_of counts) → IsCovered L p) → are_known k counts ≡ true
are_covered objects L k counts is covers = all_in (λ q. nat_le q.1 (known_count k q.0)) (pairs_of counts) (λ p i.
    let c = covers p i in
    let same = count_is objects L k p.0 is c.0 in
    let less = c.1 in
    le-leb p.1 (known_count k p.0) (omega (arith, less, same)))

pub body_covered : (objects : List ObjectDecl) (t : List Event) (letter : LetterId) (mail : Mail) (k : Knowledge) → Ran objects t → letter_at t letter ≡ Some mail → IsOf objects (past_of t letter.event) k → are_known k (body_counts mail.body) ≡ true
body_covered objects t letter mail k run at is =
    let past = sender_past objects t letter mail run at in
    let says : BodySays objects (past_of t letter.event) mail.body = letters_say objects t run letter mail at (λ j. in_past t j letter.event) past.closed past.it in
    are_covered objects (past_of t letter.event) k (body_counts mail.body) is (λ p i. says_covered objects (past_of t letter.event) mail.body p past.legal past.ranged says i)

pub outcomes_covered : (objects : List ObjectDecl) (t : List Event) (letter : LetterId) (mail : Mail) (k : Knowledge) → Ran objects t → letter_at t letter ≡ Some mail → IsOf objects (past_of t letter.event) k → list_all (is_known_outcome k) k.outcomes ≡ true
outcomes_covered objects t letter mail k run at is = all_in (is_known_outcome k) k.outcomes by
  where
    past : SenderPast objects t letter
    past = sender_past objects t letter mail run at

    L : List Deed
    L = past_of t letter.event

    by : (o : Outcome) → In o k.outcomes → is_known_outcome k o ≡ true
    by (Aborted a) i = refl
    by (Committed a counts) i =
        let from = told_in objects L a counts (is.outcomes (Committed a counts) i) in
        are_covered objects L k counts is (λ p j. deps_covered objects L a p past.legal past.ranged (pairs_in (deps objects L a) p (subst (λ (cs : List ℕ). In p (pairs_of cs)) from.1 j)))

-- what a letter carries is of the past of its event: what is not acknowledged,
from_in : (t : List Event) (s base : ℕ) (os : List Outcome) (o : Outcome) → In o (told_from t s base os) → In o os
from_in t s base os o = by (eqb_tells base 0)
  where
    by : ((eqb base 0 ≡ true) × (base ≡ 0)) ⊎ ((eqb base 0 ≡ false) × (base ≡ 0 → ⊥)) → In o (told_from t s base os) → In o os
    by (inl y) = rw y.0 (λ h. h)
    by (inr n) = rw n.0 (λ h. (in_filter (λ x. not (stands_in (plain t (λ k. holds (in_past t k) (first_with t s base))) x)) os o h).0)

past_load_of : (objects : List ObjectDecl) (t : List Event) (i s r : ℕ) → IsOf objects (past_of t i) (past_load objects t i s r).know
past_load_of objects t i s r = by (eqb_tells s r)
  where
    by : ((eqb s r ≡ true) × (s ≡ r)) ⊎ ((eqb s r ≡ false) × (s ≡ r → ⊥)) → IsOf objects (past_of t i) (past_load objects t i s r).know
    by (inl y) = rw y.0 (record { counts = refl; outcomes = λ o h. absurd h })
    by (inr n) = rw n.0 (record { counts = refl; outcomes = λ o h. from_in t s (base_in (trace_to t i) s r) (told objects (past_of t i)).outcomes o h })

alike_of : (objects : List ObjectDecl) (L : List Deed) (k l : Knowledge) → IsSame k l → IsOf objects L l → IsOf objects L k
alike_of objects L k l same is = let alike = same_alike k l same in record { counts = alike.counts ∙ is.counts; outcomes = λ o i. is.outcomes o (alike.to o i) }

there : (t : List Event) (letter : LetterId) (mail : Mail) → letter_at t letter ≡ Some mail → is_some (letter_at t letter) ≡ true
there t letter mail at = ap (λ (o : Option Mail). is_some o) at

pub load_is_of : (objects : List ObjectDecl) (t : List Event) (letter : LetterId) (mail : Mail) → Ran objects t → letter_at t letter ≡ Some mail → IsOf objects (past_of t letter.event) (load_at objects t letter).know
load_is_of objects t letter mail run at =
    alike_of objects (past_of t letter.event) (load_at objects t letter).know (past_load_at objects t letter).know (ran_loads objects t letter run (there t letter mail at)).know
    (subst (λ (o : Option Mail). IsOf objects (past_of t letter.event) (past_load_by objects t letter o).know) (sym at) (past_load_of objects t letter.event mail.from mail.to))

-- and all that its sender held
pub whole_is_of : (objects : List ObjectDecl) (t : List Event) (letter : LetterId) (mail : Mail) → Ran objects t → letter_at t letter ≡ Some mail → IsOf objects (past_of t letter.event) ((by_whole_letters objects).carried t letter).know
whole_is_of objects t letter mail run at =
    alike_of objects (past_of t letter.event) ((by_whole_letters objects).carried t letter).know (told_at objects t letter) (ran_letters objects t letter run (there t letter mail at))
    (record { counts = refl; outcomes = λ o i. i })
