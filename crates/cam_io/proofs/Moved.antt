-- A piece that is copied out of the bytes at a place.
use Rattle.std.proofs.Common.{ℕ, ◌≡◌, ◌+◌, ◌-◌, ◌≤◌, ◌<◌, List, ◌++◌, length, take, drop, arith, ap, sym, ◌∙◌, length-drop, length-append, append_assoc}
use Rattle.std.proofs.Math.Seq.{take-add}
use Rattle.std.proofs.lemmas.List.{take_at, take-append-drop, drop-drop, length-take-le, drop_all, take_rest}
use Rattle.cam_io.specs.Moving.{Moves}

pub Moves-copied : (bytes piece behind : List ℕ) (at n : ℕ) → at + n ≤ length bytes → (n ≡ 0 → length bytes ≤ at) → piece ≡ take (at + n - at) (drop at bytes) → Moves (drop at bytes) (drop (at + n) bytes) (take n (piece ++ behind))
Moves-copied bytes piece behind at n within at_end copied =
    let size : at + n - at ≡ n = omega arith in
    let room : n ≤ length (drop at bytes) = omega (arith, length-drop at bytes) in
    let front : piece ≡ take n (drop at bytes) = copied ∙ ap (λ k. take k (drop at bytes)) size in
    let long : length piece ≡ n = ap length front ∙ length-take-le n (drop at bytes) room in
    let moved : take n (piece ++ behind) ≡ take n (drop at bytes) = take_at piece behind n long ∙ front in
    record {
      whole =
          sym (take-append-drop n (drop at bytes))
          ∙ ap (λ rest. take n (drop at bytes) ++ rest) (drop-drop n at bytes)
          ∙ ap (λ m. m ++ drop (at + n) bytes) (sym moved);
      at_end = λ nothing.
          let none : n ≡ 0 = sym (length-take-le n (drop at bytes) room) ∙ ap length (sym moved ∙ nothing) in
          drop_all at bytes (at_end none);
    }

-- A front of the text was written, and then a front of the rest.
pub written-more : (text x y z : List ℕ) (at n : ℕ) → y ≡ x ++ take at text → z ≡ y ++ take n (take (length text - at) (drop at text)) → z ≡ x ++ take (at + n) text
written-more text x y z at n first second =
    rw (second, first, take_rest text at, append_assoc) (ap (λ piece. x ++ piece) (sym (take-add at n text)))

-- The bytes that were read go past the limit: those before, and the piece.
pub read_past : (limit n : ℕ) (bytes piece x y z : List ℕ) → limit - length bytes < n → n ≤ length piece → x ≡ bytes ++ y → Moves y z (take n piece) → (front : List ℕ) × (limit < length front) × (x ≡ front ++ z)
read_past limit n bytes piece x y z past within before moved =
    let long : length (take n piece) ≡ n = length-take-le n piece within in
    let whole : length (bytes ++ take n piece) ≡ length bytes + length (take n piece) = length-append bytes (take n piece) in
    (bytes ++ take n piece, omega (arith, past, long, whole), before ∙ ap (λ rest. bytes ++ rest) moved.whole ∙ sym (append_assoc bytes (take n piece) z))
