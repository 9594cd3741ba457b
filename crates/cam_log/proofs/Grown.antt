-- What a crash may leave over several calls in a row.
use Rattle.std.proofs.Common.{◌≡◌, inl, inr, ⊎_elim, ℕ, ◌+◌, ◌≤◌, List, ◌++◌, length, take, drop, length-append, arith, ◌∙◌, sym, ap, subst}
use Rattle.std.proofs.Math.Seq.{take-add}
use Rattle.std.proofs.lemmas.List.{length-take, length-drop}
use Rattle.cam_disk.specs.Disk.{Follows, Same, Elapses, Reads}
use Rattle.cam_log.specs.Moments.{Grows, AddsNothing}

module _ {A : Type 0} where
  -- fewer images are added than are said to be
  pub grows_weaker : {before now : ℕ} {past since : ℕ → A → Type 0} {P Q : A → Type 0} → ((c : A) → P c → Q c) → Grows before now past since P → Grows before now past since Q
  grows_weaker weaker grows = record {
    later = grows.later;
    keeps = grows.keeps;
    nothing_else = λ t c le left. ⊎_elim (λ was. inl was) (λ is. inr (weaker c is)) (grows.nothing_else t c le left);
  }

  -- one call, and then another
  pub grows_then : {first second third : ℕ} {one two three : ℕ → A → Type 0} {P : A → Type 0} → Grows first second one two P → Grows second third two three P → Grows first third one three P
  grows_then begins goes_on = record {
    later = omega (arith, begins.later, goes_on.later);
    keeps = λ t c le left. goes_on.keeps t c (omega (arith, le, begins.later)) (begins.keeps t c le left);
    nothing_else = λ t c le left. ⊎_elim (λ was. begins.nothing_else t c le was) (λ is. inr is) (goes_on.nothing_else t c (omega (arith, le, begins.later)) left);
  }

-- what is only read or synced
pub still_nothing : {first second third : ℕ} {one two three : ℕ → List ℕ → Type 0} {old mid new : List ℕ → Type 0} → ((t : ℕ) (c : List ℕ) → t ≤ first → old c → one t c) → AddsNothing first second one two → Follows Same old mid → Elapses second third two three new → Follows Same mid new → AddsNothing first third one three
still_nothing {first} {second} {third} {one} {two} {three} {old} {mid} {new} counts so_far were time are = record {
  later = omega (arith, so_far.later, time.later);
  keeps = λ t c le left. time.keeps t c (omega (arith, le, so_far.later)) (so_far.keeps t c le left);
  nothing_new = λ t c le left. ⊎_elim (λ was. so_far.nothing_new t c le was) (λ is. counts t c le (one_of c is)) (time.nothing_else t c (omega (arith, le, so_far.later)) left);
}
  where
    one_of : (c : List ℕ) → new c → old c
    one_of c is =
        let b = are c is in
        let a = were b.0 b.1 in
        subst old (sym (b.2 ∙ a.2)) a.1

pub same_twice : {old mid new : List ℕ → Type 0} → Follows Same old mid → Follows Same mid new → Follows Same old new
same_twice were are c is =
    let b = are c is in
    let a = were b.0 b.1 in
    (a.0, a.1, b.2 ∙ a.2)

-- one piece more of what a disk holds
front_piece : (held bytes piece : List ℕ) (room n : ℕ) → bytes ≡ take (length bytes) held → Reads held (length bytes) room n piece → bytes ++ piece ≡ take (length (bytes ++ piece)) held
front_piece held bytes piece room n front reads =
    let long : length piece ≡ n = omega (arith, ap (λ (p : List ℕ). length p) reads.copied, length-take n (drop (length bytes) held), length-drop (length bytes) held, reads.count) in
    let whole : length (bytes ++ piece) ≡ length bytes + n = omega (arith, length-append bytes piece, long) in
    (λ i. front i ++ reads.copied i) ∙ sym (take-add (length bytes) n held) ∙ ap (λ (k : ℕ). take k held) (sym whole)

pub front_more : (held seen bytes piece now : List ℕ) (at room n : ℕ) → seen ≡ held → at ≡ length bytes → bytes ≡ take (length bytes) held → Reads seen at room n piece → now ≡ bytes ++ piece → now ≡ take (length now) held
front_more held seen bytes piece now at room n same place front reads is =
    let here : Reads held (length bytes) room n piece = subst (λ (s : List ℕ). Reads s (length bytes) room n piece) same (subst (λ (k : ℕ). Reads seen k room n piece) place reads) in
    subst (λ (b : List ℕ). b ≡ take (length b) held) (sym is) (front_piece held bytes piece room n front here)
