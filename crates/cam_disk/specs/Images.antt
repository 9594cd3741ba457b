-- A disk in memory, by the record of its calls.
use Rattle.std.specs.Prelude.{ℕ, ◌≡◌, ◌+◌, ◌-◌, ◌≤◌, Bool, true, false, ◌&&◌, nat_le, IsTrue, List, [], ◌∷◌, ◌++◌, length, take, drop, reverse}
use Rattle.std.proofs.Common.{arith, sym, ap, refl, subst, length-append, length-drop, append_assoc, ◌⊎◌, inl, inr, leb-true}
use Rattle.std.proofs.lemmas.Bool.{cases_lt}
use Rattle.std.proofs.lemmas.List.{length-take-le, take_at, drop_at, take_all, take-append-le, reverse-append}
use Rattle.cam_disk.specs.Disk.{Torn, Cut, Elapses, Follows, Same}
use Rattle.cam_disk.specs.declared.call.Call.{Call}
use Rattle.cam_disk.specs.declared.call.Call.TheVariants.{Write, Resize, Sync}

-- these bytes with others at a place
abbrev pub written : List ℕ → ℕ → List ℕ → List ℕ
written held at bytes = take at held ++ bytes ++ drop (at + length bytes) held

-- what a read gives after these calls, the newest first
abbrev pub held_after : List Call → List ℕ
held_after [] = []
held_after (Write at bytes ∷ calls) = written (held_after calls) at bytes.items
held_after (Resize size ∷ calls) = take size (held_after calls)
held_after (Sync ∷ calls) = held_after calls

-- each call was at a place that was there
abbrev pub is_record : List Call → Bool
is_record [] = true
is_record (Write at bytes ∷ calls) = nat_le at (length (held_after calls)) && is_record calls
is_record (Resize size ∷ calls) = nat_le size (length (held_after calls)) && is_record calls
is_record (Sync ∷ calls) = is_record calls

-- what a crash after these calls may leave
abbrev pub IsImage : List Call → List ℕ → Type 0
IsImage [] c = c ≡ []
IsImage (Write at bytes ∷ calls) c =
    (d : List ℕ) × IsImage calls d × Torn at (length bytes.items) d c
IsImage (Resize size ∷ calls) c = (d : List ℕ) × IsImage calls d × Cut size d c
IsImage (Sync ∷ calls) c = c ≡ held_after calls

-- what a crash might have left since t of these calls, the oldest first, were made
pub record LeftSince (calls : List Call) (t : ℕ) (c : List ℕ) : Type 0 where
  pub made : ℕ
  pub from : t ≤ made
  pub to : made ≤ length calls
  pub image : IsImage (reverse (take made calls)) c

-- what a crash after these calls, the oldest first, may leave
abbrev pub MayLeave : List Call → List ℕ → Type 0
MayLeave calls c = IsImage (reverse calls) c

-- time goes on, from the moment after the one list of calls to that after the other
abbrev pub Onward : List Call → List Call → Type 0
Onward old new = Elapses (length old) (length new) (LeftSince old) (LeftSince new) (MayLeave new)

-- neither what is read nor what a crash may leave has changed
abbrev pub Unchanged : List ℕ → List ℕ → List Call → List Call → Type 0
Unchanged held now old new = (now ≡ held) × Follows Same (MayLeave old) (MayLeave new)

Torn-written : (held bytes : List ℕ) (at : ℕ) → at ≤ length held
    → Torn at (length bytes) held (written held at bytes)
Torn-written held bytes at within =
    let front : length (take at held) ≡ at = length-take-le at held within in
    let whole : length (take at held ++ bytes) ≡ at + length bytes = omega (arith, length-append (take at held) bytes) in
    let size : length (written held at bytes) ≡ at + length bytes + (length held - (at + length bytes)) =
    omega (arith, length-append (take at held ++ bytes) (drop (at + length bytes) held), length-drop (at + length bytes) held)
    in
    record {
      before = rw append_assoc (take_at (take at held) (bytes ++ drop (at + length bytes) held) at front);
      after = drop_at (take at held ++ bytes) (drop (at + length bytes) held) (at + length bytes) whole;
      no_shorter = omega arith;
      no_longer = omega arith;
    }

Cut-taken : (held : List ℕ) (size : ℕ) → size ≤ length held → Cut size held (take size held)
Cut-taken held size within =
    let long : length (take size held) ≡ size = length-take-le size held within in
    record { no_shorter = omega arith; front = ap (λ n. take n held) long }

both_true : (a b : Bool) → IsTrue (a && b) → IsTrue a × IsTrue b
both_true true true h = (refl, refl)
both_true true false h = (refl, h)
both_true false b h = absurd (cc)

-- what a read gives is an image
pub IsImage-held : (calls : List Call) → IsTrue (is_record calls) → IsImage calls (held_after calls)
IsImage-held [] h = refl
IsImage-held (Write at bytes ∷ calls) h =
    let parts = both_true (nat_le at (length (held_after calls))) (is_record calls) h in (
      held_after calls,
      IsImage-held calls parts.1,
      Torn-written (held_after calls) bytes.items at
          (leb-true at (length (held_after calls)) parts.0),
    )
IsImage-held (Resize size ∷ calls) h =
    let parts = both_true (nat_le size (length (held_after calls))) (is_record calls) h in (
      held_after calls,
      IsImage-held calls parts.1,
      Cut-taken (held_after calls) size
          (leb-true size (length (held_after calls)) parts.0),
    )
IsImage-held (Sync ∷ calls) h = refl

-- the same of bytes that are held after these calls, the oldest first
pub held_is_image : (calls : List Call) {held : List ℕ} → held ≡ held_after (reverse calls)
    → IsTrue (is_record (reverse calls)) → IsImage (reverse calls) held
held_is_image calls is placed =
    subst (IsImage (reverse calls)) (sym is) (IsImage-held (reverse calls) placed)

-- one more call
pub LeftSince-more : (calls : List Call) (call : Call) (t : ℕ) (c : List ℕ) → LeftSince calls t c
    → LeftSince (calls ++ call ∷ []) t c
LeftSince-more calls call t c left = record {
  made = left.made;
  from = left.from;
  to = omega (arith, left.to, length-append calls (call ∷ []));
  image = rw (take-append-le left.made calls (call ∷ []) left.to) left.image;
}

pub LeftSince-less : (calls : List Call) (call : Call) (t : ℕ) (c : List ℕ)
    → LeftSince (calls ++ call ∷ []) t c
    → LeftSince calls t c ⊎ IsImage (reverse (calls ++ call ∷ [])) c
LeftSince-less calls call t c left =
    elim (cases_lt (length calls) left.made) [
      | inl last ↦ inr (let all : length (calls ++ call ∷ []) ≤ left.made = omega (arith, length-append calls (call ∷ []), last) in rw (take_all left.made (calls ++ call ∷ []) all) at left.image)
      | inr early ↦ inl (record { made = left.made; from = left.from; to = early; image = rw (take-append-le left.made calls (call ∷ []) early) at left.image })
    ]

pub LeftSince-now : (calls : List Call) (t : ℕ) (c : List ℕ) → t ≤ length calls
    → IsImage (reverse calls) c → LeftSince calls t c
LeftSince-now calls t c le now = record {
  made = length calls;
  from = le;
  to = omega arith;
  image = let whole : length calls ≤ length calls = omega arith in rw (take_all (length calls) calls whole) now;
}

pub LeftSince-only : (calls : List Call) (c : List ℕ) → LeftSince calls (length calls) c
    → IsImage (reverse calls) c
LeftSince-only calls c left = rw (take_all left.made calls left.from) at left.image

-- time goes on by one call
pub Elapses-call : (calls : List Call) (call : Call)
    → Elapses (length calls) (length (calls ++ call ∷ [])) (LeftSince calls)
    (LeftSince (calls ++ call ∷ [])) (IsImage (reverse (calls ++ call ∷ [])))
Elapses-call calls call = record {
  later = omega (arith, length-append calls (call ∷ []));
  nothing_else = λ t c le left. LeftSince-less calls call t c left;
  keeps = λ t c le left. LeftSince-more calls call t c left;
}

-- the newest call is the first of the record
pub reverse-call : (calls : List Call) (call : Call)
    → reverse (calls ++ call ∷ []) ≡ call ∷ reverse calls
reverse-call calls call = reverse-append calls (call ∷ [])

-- the same of a record that equals that one
pub Elapses-call_at : (calls new : List Call) (call : Call) → new ≡ calls ++ call ∷ []
    → Elapses (length calls) (length new) (LeftSince calls) (LeftSince new) (IsImage (reverse new))
Elapses-call_at calls new call e =
    subst (λ (n : List Call). Elapses (length calls) (length n) (LeftSince calls) (LeftSince n) (IsImage (reverse n))) (sym e) (Elapses-call calls call)
