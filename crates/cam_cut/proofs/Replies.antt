-- The reply to a call since the last crash of its site, and the operations of a site that no crash has removed, as the site's own deeds have them.
use Rattle.std.proofs.Common.{◌≡◌, inl, inr, if◌then◌else◌, ℕ, ◌+◌, ◌≤◌, eqb, Bool, true, false, ◌&&◌, ◌||◌, List, [], ◌∷◌, Some, None, refl, sym, ap, ◌∙◌, subst, arith}
use Rattle.std.proofs.lemmas.Bool.{and_parts, or_cases, cases_Bool, true≢false, eqb-true, eq-eqb, false_from_ne_true}
use Rattle.std.proofs.lemmas.Option.{same_Some, none-some}
use Rattle.cam_names.specs.declared.name.Name.{Name}
use Rattle.cam_names.specs.Names.{name_eq}
use Rattle.cam_names.proofs.Names.{name_eq_same}
use Rattle.cam_event.proofs.Members.{In}
use Rattle.cam_plain.proofs.Called.{call_stays}
use Rattle.cam_plain.proofs.Fates.{call_count}
use Rattle.cam_type.specs.declared.ObjectDecl.{ObjectDecl}
use Rattle.cam_event.specs.declared.Deed.{Deed}
use Rattle.cam_event.specs.declared.Deed.TheVariants.{Call, Perform, Bounce, Crash}
use Rattle.cam_event.specs.declared.Reply.{Reply}
use Rattle.cam_event.specs.declared.Reply.TheVariants as replies
use Rattle.cam_event.specs.History.{count, Addressed, call_of}
use Rattle.cam_event.specs.Live.{site_of}
use Rattle.cam_event.specs.Sights.{kept_reply}
use Rattle.cam_plain.specs.Lines.{is_reply_to, replied}
use Rattle.cam_plain.specs.Legal.{Legal}
use Rattle.cam_cut.proofs.Places.{PlacedAt, CalledAt, Local, local_same}
use Rattle.cam_cut.proofs.HomeFacts.{skip_crash}

-- whether a Perform or a Bounce of the call stands behind the last crash of the node
abbrev pub replied_since : ℕ → List Deed → Name → ℕ → Bool
replied_since s [] a n = false
replied_since s (Perform b m answer ∷ L) a n = if name_eq a b && eqb n m then true else replied_since s L a n
replied_since s (Bounce b m u ∷ L) a n = if name_eq a b && eqb n m then true else replied_since s L a n
replied_since s (Crash r ∷ L) a n = if eqb s r then false else replied_since s L a n
replied_since s (_ ∷ L) a n = replied_since s L a n

-- a deed that both have
since_both : (s : ℕ) (a : Name) (n : ℕ) (d : Deed) (L M : List Deed) → replied_since s L a n ≡ replied_since s M a n → replied_since s (d ∷ L) a n ≡ replied_since s (d ∷ M) a n
since_both s a n (Perform b m answer) L M h = ap (λ (r : Bool). if name_eq a b && eqb n m then true else r) h
since_both s a n (Bounce b m u) L M h = ap (λ (r : Bool). if name_eq a b && eqb n m then true else r) h
since_both s a n (Crash r) L M h = ap (λ (k : Bool). if eqb s r then false else k) h
since_both s a n _ L M h = h

-- a reply elsewhere is to another call
elsewhere : (objects : List ObjectDecl) (H : List Deed) (s r : ℕ) (a b : Name) (n m : ℕ) → CalledAt objects H s a n → CalledAt objects H r b m → (r ≡ s → ⊥) → (name_eq a b && eqb n m) ≡ false
elsewhere objects H s r a b n m mine other away = false_from_ne_true (name_eq a b && eqb n m) (λ e.
    let parts = and_parts (name_eq a b) (eqb n m) e in
    let same : mine.0 ≡ other.0 = same_Some mine.0 other.0 (sym mine.1 ∙ (λ i. call_of H (name_eq_same a b parts.0 i) (eqb-true n m parts.1 i)) ∙ other.1) in
    away (sym other.2 ∙ ap (λ (k : Addressed). site_of objects k.object) (sym same) ∙ mine.2))

-- a deed elsewhere leaves it
since_skip : (objects : List ObjectDecl) (H : List Deed) (s : ℕ) (a : Name) (n : ℕ) → CalledAt objects H s a n → (d : Deed) (M : List Deed) (r : ℕ) → PlacedAt objects H r d → (r ≡ s → ⊥) → replied_since s (d ∷ M) a n ≡ replied_since s M a n
since_skip objects H s a n mine (Perform b m answer) M r placed away = rw (elsewhere objects H s r a b n m mine placed away) refl
since_skip objects H s a n mine (Bounce b m u) M r placed away = rw (elsewhere objects H s r a b n m mine placed away) refl
since_skip objects H s a n mine (Crash x) M r placed away = rw (skip_crash objects H s (Crash x) r placed away) refl
since_skip objects H s a n mine _ M r placed away = refl

-- so it is that of the site's own deeds
pub local_since : (objects : List ObjectDecl) (H : List Deed) (s : ℕ) (a : Name) (n : ℕ) → CalledAt objects H s a n → Local objects H s (λ L M. replied_since s L a n ≡ replied_since s M a n)
local_since objects H s a n mine = local_same objects H s (λ L. replied_since s L a n) (since_both s a n) (since_skip objects H s a n mine)

-- a node that keeps no reply has given none since its last crash
pub none_kept : (s : ℕ) (L : List Deed) (a : Name) (n : ℕ) → ((r : ℕ) → In (Crash r) L → r ≡ s) → kept_reply L a n ≡ None → replied_since s L a n ≡ false
none_kept s [] a n crashes h = refl
none_kept s (Perform b m answer ∷ L) a n crashes h =
    elim (name_eq a b && eqb n m) as (λ t. (if t then Some (replies.Done answer) else kept_reply L a n) ≡ None → (if t then true else replied_since s L a n) ≡ false) [
      | true ↦ λ g. absurd (none-some (replies.Done answer) (sym g))
      | false ↦ λ g. none_kept s L a n (λ r i. crashes r (inr i)) g
    ] h
none_kept s (Bounce b m u ∷ L) a n crashes h =
    elim (name_eq a b && eqb n m) as (λ t. (if t then Some (replies.Busy u) else kept_reply L a n) ≡ None → (if t then true else replied_since s L a n) ≡ false) [
      | true ↦ λ g. absurd (none-some (replies.Busy u) (sym g))
      | false ↦ λ g. none_kept s L a n (λ r i. crashes r (inr i)) g
    ] h
none_kept s (Crash r ∷ L) a n crashes h = rw (eq-eqb s r (sym (crashes r (inl refl)))) refl
none_kept s (_ ∷ L) a n crashes h = none_kept s L a n (λ r i. crashes r (inr i)) h

-- A kept reply was given by a Perform or a Bounce.
abbrev pub IsGiven : List Deed → Name → ℕ → Reply → Type 0
IsGiven L a n (replies.Done answer) = In (Perform a n answer) L
IsGiven L a n (replies.Busy u) = In (Bounce a n u) L
IsGiven L a n replies.Missed = ⊥
IsGiven L a n replies.Refused = ⊥

-- it stays given
given_more : (L : List Deed) (d : Deed) (a : Name) (n : ℕ) (reply : Reply) → IsGiven L a n reply → IsGiven (d ∷ L) a n reply
given_more L d a n (replies.Done answer) h = inr h
given_more L d a n (replies.Busy u) h = inr h
given_more L d a n replies.Missed h = h
given_more L d a n replies.Refused h = h

-- each kept reply was given
pub reply_given : (L : List Deed) (a : Name) (n : ℕ) (reply : Reply) → kept_reply L a n ≡ Some reply → IsGiven L a n reply
reply_given [] a n reply h = cc
reply_given (Perform b m answer ∷ L) a n reply h =
    elim (cases_Bool (name_eq a b && eqb n m)) [
      | inl e ↦
          let parts = and_parts (name_eq a b) (eqb n m) e in
          let found : kept_reply (Perform b m answer ∷ L) a n ≡ Some (replies.Done answer) = rw e refl in
          subst (IsGiven (Perform b m answer ∷ L) a n) (same_Some (replies.Done answer) reply (sym found ∙ h)) (inl (λ i. Perform (name_eq_same a b parts.0 i) (eqb-true n m parts.1 i) answer))
      | inr other ↦
          let before : kept_reply (Perform b m answer ∷ L) a n ≡ kept_reply L a n = rw other refl in
          given_more L (Perform b m answer) a n reply (reply_given L a n reply (sym before ∙ h))
    ]
reply_given (Bounce b m u ∷ L) a n reply h =
    elim (cases_Bool (name_eq a b && eqb n m)) [
      | inl e ↦
          let parts = and_parts (name_eq a b) (eqb n m) e in
          let found : kept_reply (Bounce b m u ∷ L) a n ≡ Some (replies.Busy u) = rw e refl in
          subst (IsGiven (Bounce b m u ∷ L) a n) (same_Some (replies.Busy u) reply (sym found ∙ h)) (inl (λ i. Bounce (name_eq_same a b parts.0 i) (eqb-true n m parts.1 i) u))
      | inr other ↦
          let before : kept_reply (Bounce b m u ∷ L) a n ≡ kept_reply L a n = rw other refl in
          given_more L (Bounce b m u) a n reply (reply_given L a n reply (sym before ∙ h))
    ]
reply_given (Crash s ∷ L) a n reply h = cc
reply_given (d ∷ L) a n reply h = given_more L d a n reply (reply_given L a n reply h)

-- a reply is to a call
pub replied_called : (objects : List ObjectDecl) (L : List Deed) (a : Name) (n : ℕ) → Legal objects L → replied L a n ≡ true → (call : Addressed) × (call_of L a n ≡ Some call)
replied_called objects [] a n legal h = cc
replied_called objects (d ∷ L) a n legal h = elim (or_cases (is_reply_to a n d) (replied L a n) h) [
  | inl e ↦ now d legal e
  | inr r ↦ let rest = replied_called objects L a n legal.1 r in (rest.0, call_stays objects L d a n rest.0 legal rest.1)
]
  where
    now : (e : Deed) → Legal objects (e ∷ L) → is_reply_to a n e ≡ true → (call : Addressed) × (call_of (e ∷ L) a n ≡ Some call)
    now (Perform b m answer) l e = let parts = and_parts (name_eq a b) (eqb n m) e in (l.0.call, (λ i. call_of L (name_eq_same a b parts.0 i) (eqb-true n m parts.1 i)) ∙ l.0.arrival.called)
    now (Bounce b m u) l e = let parts = and_parts (name_eq a b) (eqb n m) e in (l.0.call, (λ i. call_of L (name_eq_same a b parts.0 i) (eqb-true n m parts.1 i)) ∙ l.0.arrival.called)
    now _ l e = absurd (true≢false (sym e))

-- a reply to a call that is addressed at its site's present count stands behind the site's last crash
pub replied_now : (objects : List ObjectDecl) (L : List Deed) (a : Name) (n s : ℕ) (call : Addressed) → Legal objects L → call_of L a n ≡ Some call → site_of objects call.object ≡ s → call.count ≡ count L s → replied L a n ≡ true → replied_since s L a n ≡ true
replied_now objects [] a n s call legal called site at h = cc
replied_now objects (Perform b m answer ∷ L) a n s call legal called site at h =
    elim (cases_Bool (name_eq a b && eqb n m)) [
      | inl e ↦ rw e refl
      | inr other ↦ rw other (replied_now objects L a n s call legal.1 called site at (sym (ap (λ t. t || replied L a n) other) ∙ h))
    ]
replied_now objects (Bounce b m u ∷ L) a n s call legal called site at h =
    elim (cases_Bool (name_eq a b && eqb n m)) [
      | inl e ↦ rw e refl
      | inr other ↦ rw other (replied_now objects L a n s call legal.1 called site at (sym (ap (λ t. t || replied L a n) other) ∙ h))
    ]
replied_now objects (Crash r ∷ L) a n s call legal called site at h =
    elim (cases_Bool (eqb s r)) [
      | inl e ↦
          let more : count (Crash r ∷ L) s ≡ count L s + 1 = rw e refl in
          let less : call.count ≤ count L s = subst (λ x. call.count ≤ count L x) site (call_count objects L a n call legal.1 called) in
          absurd (omega (arith, at, more, less))
      | inr other ↦
          let same : count (Crash r ∷ L) s ≡ count L s = rw other refl in
          rw other (replied_now objects L a n s call legal.1 called site (at ∙ same) h)
    ]
replied_now objects (Call b m x op c ∷ L) a n s call legal called site at h =
    let found = replied_called objects L a n legal.1 h in
    let same : found.0 ≡ call = same_Some found.0 call (sym (call_stays objects L (Call b m x op c) a n found.0 legal found.1) ∙ called) in
    replied_now objects L a n s call legal.1 (subst (λ k. call_of L a n ≡ Some k) same found.1) site at h
replied_now objects (_ ∷ L) a n s call legal called site at h = replied_now objects L a n s call legal.1 called site at h
