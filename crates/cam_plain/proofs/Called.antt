-- What comes of a call in a legal history.
use Rattle.std.proofs.Common.{◌≡◌, inl, inr, ◌+◌, ◌<◌, ◌≤◌, eqb, Bool, true, false, ◌&&◌, List, [], ◌∷◌, Some, None, refl, sym, ap, ◌∙◌, subst, arith, ◌⊎◌, ℕ, if◌then◌else◌}
use Rattle.std.proofs.lemmas.Bool.{and_parts, cases_Bool, true≢false, or_cases, or_right, eqb-true}
use Rattle.std.proofs.lemmas.Option.{same_Some, none-some}
use Rattle.std.specs.List.{list_any}
use Rattle.cam_names.proofs.Names.{name_eq_same}
use Rattle.cam_names.specs.Names.{name_eq}
use Rattle.cam_names.specs.declared.name.Name.{Name}
use Rattle.cam_type.specs.Table.{answer_eq}
use Rattle.cam_type.specs.declared.Answer.{Answer}
use Rattle.cam_type.specs.declared.ObjectDecl.{ObjectDecl}
use Rattle.cam_event.specs.History.{count, Addressed, call_of, is_crash, open_call, calls}
use Rattle.cam_event.specs.Live.{site_of, is_fit}
use Rattle.cam_event.specs.declared.Deed.{Deed}
use Rattle.cam_event.specs.declared.Deed.TheVariants.{Call, Perform, Got, Bounce}
use Rattle.cam_event.specs.declared.Seen.{Seen}
use Rattle.cam_event.specs.declared.Seen.TheVariants.{Done, Busy, Gone}
use Rattle.cam_plain.specs.Legal.{Legal}
use Rattle.cam_plain.specs.Lines.{is_perform, is_reply_to, replied, is_bounce, IsSeen}
use Rattle.cam_names.proofs.Any.{any_weaker}

-- a Perform of the call, whatever its answer, and a Bounce of it, whatever its holder
abbrev pub is_performed : Name → ℕ → Deed → Bool
is_performed a n (Perform b m answer) = name_eq a b && eqb n m
is_performed a n _ = false

-- a Bounce of the call
abbrev pub is_bounced : Name → ℕ → Deed → Bool
is_bounced a n (Bounce b m holder) = name_eq a b && eqb n m
is_bounced a n _ = false

-- a Perform is a reply
performed_reply : (a : Name) (n : ℕ) (d : Deed) → is_performed a n d ≡ true → is_reply_to a n d ≡ true
performed_reply a n (Perform b m answer) h = h
performed_reply a n _ h = cc

-- a Bounce is a reply
bounced_reply : (a : Name) (n : ℕ) (d : Deed) → is_bounced a n d ≡ true → is_reply_to a n d ≡ true
bounced_reply a n (Bounce b m holder) h = h
bounced_reply a n _ h = cc

-- a Perform with an answer is a Perform
perform_performed : (a : Name) (n : ℕ) (answer : Answer) (d : Deed) → is_perform a n answer d ≡ true → is_performed a n d ≡ true
perform_performed a n answer (Perform b m other) h = (and_parts (name_eq a b && eqb n m) (answer_eq answer other) h).0
perform_performed a n answer _ h = cc

-- a Bounce with a holder is a Bounce
bounce_bounced : (a : Name) (n : ℕ) (u : Name) (d : Deed) → is_bounce a n u d ≡ true → is_bounced a n d ≡ true
bounce_bounced a n u (Bounce b m other) h = (and_parts (name_eq a b && eqb n m) (name_eq u other) h).0
bounce_bounced a n u _ h = cc

-- what was performed has a reply
pub performed_replied : (L : List Deed) (a : Name) (n : ℕ) → list_any (is_performed a n) L ≡ true → replied L a n ≡ true
performed_replied L a n h = any_weaker (is_performed a n) (is_reply_to a n) L (performed_reply a n) h

-- what bounced has a reply
pub bounced_replied : (L : List Deed) (a : Name) (n : ℕ) → list_any (is_bounced a n) L ≡ true → replied L a n ≡ true
bounced_replied L a n h = any_weaker (is_bounced a n) (is_reply_to a n) L (bounced_reply a n) h

-- an answer that may be seen was performed
pub seen_performed : (L : List Deed) (a : Name) (n : ℕ) (answer : Answer) → list_any (is_perform a n answer) L ≡ true → list_any (is_performed a n) L ≡ true
seen_performed L a n answer h = any_weaker (is_perform a n answer) (is_performed a n) L (perform_performed a n answer) h

-- a refusal that may be seen bounced
pub seen_bounced : (L : List Deed) (a : Name) (n : ℕ) (u : Name) → list_any (is_bounce a n u) L ≡ true → list_any (is_bounced a n) L ≡ true
seen_bounced L a n u h = any_weaker (is_bounce a n u) (is_bounced a n) L (bounce_bounced a n u) h

-- two facts of a call under the names of an action and a number that are the same
pub same_call : (p : Name → ℕ → Type 0) (a b : Name) (n m : ℕ) → (name_eq a b && eqb n m) ≡ true → p a n → p b m
same_call p a b n m h g =
    let parts = and_parts (name_eq a b) (eqb n m) h in
    subst (λ k. p b k) (eqb-true n m parts.1) (subst (λ x. p x n) (name_eq_same a b parts.0) g)

-- no call is both performed and bounced
pub one_reply : (objects : List ObjectDecl) (L : List Deed) (a : Name) (n : ℕ) → Legal objects L → list_any (is_performed a n) L ≡ true → list_any (is_bounced a n) L ≡ true → ⊥
one_reply objects [] a n legal h g = cc
one_reply objects (Perform b m answer ∷ L) a n legal h g = elim (or_cases (name_eq a b && eqb n m) (list_any (is_performed a n) L) h) [
  | inl e ↦ true≢false (sym (bounced_replied L b m (same_call (λ x k. list_any (is_bounced x k) L ≡ true) a b n m e g)) ∙ legal.0.arrival.fresh)
  | inr r ↦ one_reply objects L a n legal.1 r g
]
one_reply objects (Bounce b m holder ∷ L) a n legal h g = elim (or_cases (name_eq a b && eqb n m) (list_any (is_bounced a n) L) g) [
  | inl e ↦ true≢false (sym (performed_replied L b m (same_call (λ x k. list_any (is_performed x k) L ≡ true) a b n m e h)) ∙ legal.0.arrival.fresh)
  | inr r ↦ one_reply objects L a n legal.1 h r
]
one_reply objects (_ ∷ L) a n legal h g = one_reply objects L a n legal.1 h g

-- the number of a call is at most the number of calls so far
pub call_number : (objects : List ObjectDecl) (L : List Deed) (a : Name) (n : ℕ) (call : Addressed) → Legal objects L → call_of L a n ≡ Some call → n ≤ calls L a
call_number objects [] a n call legal h = cc
call_number objects (Call b m x op c ∷ L) a n call legal h =
    elim (cases_Bool (name_eq a b)) [
      | inl e ↦ elim (cases_Bool (eqb n m)) [
        | inl same ↦
            let more : calls (Call b m x op c ∷ L) a ≡ calls L a + 1 = rw e refl in
            let mine : calls L a ≡ calls L b = ap (calls L) (name_eq_same a b e) in
            omega (arith, legal.0.number, eqb-true n m same, more, mine)
        | inr other ↦
            let more : calls (Call b m x op c ∷ L) a ≡ calls L a + 1 = rw e refl in
            let before : call_of (Call b m x op c ∷ L) a n ≡ call_of L a n = rw (e, other) refl in
            omega (arith, more, call_number objects L a n call legal.1 (sym before ∙ h))
      ]
      | inr no_one ↦
          let less : calls (Call b m x op c ∷ L) a ≡ calls L a = rw no_one refl in
          let before : call_of (Call b m x op c ∷ L) a n ≡ call_of L a n = rw no_one refl in
          omega (arith, less, call_number objects L a n call legal.1 (sym before ∙ h))
    ]
call_number objects (_ ∷ L) a n call legal h = call_number objects L a n call legal.1 h

-- a later Call leaves what an earlier one asked
pub call_stays : (objects : List ObjectDecl) (L : List Deed) (d : Deed) (a : Name) (n : ℕ) (call : Addressed) → Legal objects (d ∷ L) → call_of L a n ≡ Some call → call_of (d ∷ L) a n ≡ Some call
call_stays objects L (Call b m x op c) a n call legal h =
    elim (cases_Bool (name_eq a b && eqb n m)) [
      | inl e ↦
          let parts = and_parts (name_eq a b) (eqb n m) e in
          let mine : calls L a ≡ calls L b = ap (calls L) (name_eq_same a b parts.0) in
          absurd (omega (arith, legal.0.number, eqb-true n m parts.1, mine, call_number objects L a n call legal.1 h))
      | inr other ↦ rw other h
    ]
call_stays objects L _ a n call legal h = h

-- what was called fits its object
pub call_fits : (objects : List ObjectDecl) (L : List Deed) (a : Name) (n : ℕ) (call : Addressed) → Legal objects L → call_of L a n ≡ Some call → is_fit objects call.object call.op ≡ true
call_fits objects [] a n call legal h = cc
call_fits objects (Call b m x op c ∷ L) a n call legal h =
    elim (cases_Bool (name_eq a b && eqb n m)) [
      | inl e ↦
          let found : call_of (Call b m x op c ∷ L) a n ≡ Some (record { object = x; op = op; count = c }) = rw e refl in
          let same : record { object = x; op = op; count = c } ≡ call = same_Some (record { object = x; op = op; count = c }) call (sym found ∙ h) in
          subst (λ (k : Addressed). is_fit objects k.object k.op ≡ true) same legal.0.fits
      | inr other ↦
          let before : call_of (Call b m x op c ∷ L) a n ≡ call_of L a n = rw other refl in
          call_fits objects L a n call legal.1 (sym before ∙ h)
    ]
call_fits objects (_ ∷ L) a n call legal h = call_fits objects L a n call legal.1 h

-- one more deed lowers no count
pub count_grows : (L : List Deed) (d : Deed) (s : ℕ) → count L s ≤ count (d ∷ L) s
count_grows L d s = elim (is_crash s d) as (λ b. count L s ≤ (if b then count L s + 1 else count L s)) [ true ↦ omega arith | false ↦ omega arith ]

-- A call is open, or there is a reply to it, or its site has crashed since it was addressed.
abbrev pub Stands : List ObjectDecl → List Deed → Name → ℕ → Addressed → Type 0
Stands objects L a n call = (open_call L a ≡ Some n) ⊎ ((replied L a n ≡ true) ⊎ (call.count < count L (site_of objects call.object)))

-- a reply stays, and so does a crash since
over : (objects : List ObjectDecl) (d : Deed) (L : List Deed) (a : Name) (n : ℕ) (call : Addressed) → (replied L a n ≡ true) ⊎ (call.count < count L (site_of objects call.object)) → Stands objects (d ∷ L) a n call
over objects d L a n call (inl r) = inr (inl (or_right (is_reply_to a n d) (replied L a n) r))
over objects d L a n call (inr c) = inr (inr (omega (arith, c, count_grows L d (site_of objects call.object))))

-- a deed that leaves the open call leaves how a call stands
still : (objects : List ObjectDecl) (d : Deed) (L : List Deed) (a : Name) (n : ℕ) (call : Addressed) → open_call (d ∷ L) a ≡ open_call L a → Stands objects L a n call → Stands objects (d ∷ L) a n call
still objects d L a n call same (inl o) = inl (same ∙ o)
still objects d L a n call same (inr r) = over objects d L a n call r

-- what an action sees of a call says that there is a reply or was a crash
seen_over : (objects : List ObjectDecl) (L : List Deed) (a : Name) (n : ℕ) (call : Addressed) (seen : Seen) → call_of L a n ≡ Some call → IsSeen objects L a n seen → (replied L a n ≡ true) ⊎ (call.count < count L (site_of objects call.object))
seen_over objects L a n call (Done answer) called h = inl (performed_replied L a n (seen_performed L a n answer h))
seen_over objects L a n call (Busy u) called h = inl (bounced_replied L a n (seen_bounced L a n u h))
seen_over objects L a n call Gone called h = inr (subst (λ (k : Addressed). k.count < count L (site_of objects k.object)) (same_Some h.call call (sym h.called ∙ called)) h.crashed)

-- with no call open, a call that stands has a reply or was crashed upon
closed_now : (objects : List ObjectDecl) (d : Deed) (L : List Deed) (a : Name) (n : ℕ) (call : Addressed) → open_call L a ≡ None → Stands objects L a n call → Stands objects (d ∷ L) a n call
closed_now objects d L a n call none (inl o) = absurd (none-some n (sym none ∙ o))
closed_now objects d L a n call none (inr r) = over objects d L a n call r

-- behind the Got of a call it has a reply or was crashed upon
got_now : (objects : List ObjectDecl) (L : List Deed) (a : Name) (n m : ℕ) (call : Addressed) (seen : Seen) → call_of L a n ≡ Some call → open_call L a ≡ Some m → IsSeen objects L a m seen → Stands objects L a n call → Stands objects (Got a m seen ∷ L) a n call
got_now objects L a n m call seen called open_one h (inl o) =
    let same : m ≡ n = same_Some m n (sym open_one ∙ o) in
    over objects (Got a m seen) L a n call (seen_over objects L a n call seen called (subst (λ k. IsSeen objects L a k seen) same h))
got_now objects L a n m call seen called open_one h (inr r) = over objects (Got a m seen) L a n call r

-- each call of a legal history stands so
pub call_stands : (objects : List ObjectDecl) (L : List Deed) (a : Name) (n : ℕ) (call : Addressed) → Legal objects L → call_of L a n ≡ Some call → Stands objects L a n call
call_stands objects [] a n call legal h = cc
call_stands objects (Call b m x op c ∷ L) a n call legal h =
    elim (cases_Bool (name_eq a b)) [
      | inl e ↦ elim (cases_Bool (eqb n m)) [
        | inl same ↦ inl (rw e (ap (λ k. Some k) (sym (eqb-true n m same))))
        | inr other ↦
            let before : call_of (Call b m x op c ∷ L) a n ≡ call_of L a n = rw (e, other) refl in
            closed_now objects (Call b m x op c) L a n call (subst (λ y. open_call L y ≡ None) (sym (name_eq_same a b e)) legal.0.no_call) (call_stands objects L a n call legal.1 (sym before ∙ h))
      ]
      | inr other ↦
          let before : call_of (Call b m x op c ∷ L) a n ≡ call_of L a n = rw other refl in
          still objects (Call b m x op c) L a n call (rw other refl) (call_stands objects L a n call legal.1 (sym before ∙ h))
    ]
call_stands objects (Got b m seen ∷ L) a n call legal h =
    elim (cases_Bool (name_eq a b)) [
      | inl e ↦
          let same : b ≡ a = sym (name_eq_same a b e) in
          subst (λ y. Stands objects (Got y m seen ∷ L) a n call) (sym same)
          (got_now objects L a n m call seen h (subst (λ y. open_call L y ≡ Some m) same legal.0.open_one) (subst (λ y. IsSeen objects L y m seen) same legal.0.seen_so) (call_stands objects L a n call legal.1 h))
      | inr other ↦ still objects (Got b m seen) L a n call (rw other refl) (call_stands objects L a n call legal.1 h)
    ]
call_stands objects (d ∷ L) a n call legal h = still objects d L a n call refl (call_stands objects L a n call legal.1 h)
