-- To find the last halt of a node taken changes the halts at its input alone.
use Rattle.std.proofs.Common.{◌≡◌, inl, inr, ℕ, ◌<◌, ◌≤◌, Bool, true, false}
use Rattle.std.proofs.Common.{List, [], ◌∷◌, Option, Some, None, refl, sym, ap}
use Rattle.std.proofs.Common.{◌∙◌, arith, eqb-true}
use Rattle.std.specs.List.{AllByRecursion}
use Rattle.std.proofs.lemmas.Bool.{eq-eqb, ne_eqb, true≢false}
use Rattle.std.proofs.lemmas.Bool.Decides.{eqb_tells}
use Rattle.cam_runs.specs.Halts.{Halt, halt_at, Turn, accepted}
use Rattle.cam_histories.specs.Found.{last_input}
use Rattle.cam_cluster.specs.FoundHalts.{AreNewestFirst, FoundHaltsDiffer}
use Rattle.cam_cluster.specs.FoundHalts.{input_node, is_at, with_taken}
use Rattle.cam_cluster.proofs.LastInputs.{last_node, last_latest}

-- no halt after the first is at its input
pub none_again : (hs : List Halt) (n k : ℕ) → AllByRecursion (λ (g : Halt). g.input < n) hs → n ≤ k
    → halt_at hs k ≡ None
none_again [] n k all high = refl
none_again (g ∷ hs) n k all high =
    let low = all.0 in
    rw (ne_eqb g.input k (λ e. omega (arith, e, low, high))) (none_again hs n k all.1 high)

no_halt : None ≡ Some false → ⊥
no_halt e = cc

-- what the list says with the halt found
module _ (turns : List Turn) (s k : ℕ) (last : last_input turns s ≡ Some k) where
  pub record SaysTaken (halts : List Halt) : Type 0 where
    pub there : halt_at (with_taken turns s halts) k ≡ Some true
    pub others : (j : ℕ) → (j ≡ k → ⊥) → halt_at (with_taken turns s halts) j ≡ halt_at halts j

  at_node : (o : Option ℕ) → is_at o s ≡ true → o ≡ Some s
  at_node None h = absurd (true≢false (sym h))
  at_node (Some m) h = ap (λ n. Some n) (eqb-true m s h)

  pub says_taken : (halts : List Halt) → AreNewestFirst halts → halt_at halts k ≡ Some false
      → SaysTaken halts
  says_taken [] newest lost = cc
  says_taken (h ∷ hs) newest lost =
      by (is_at (input_node turns h.input) s) refl (says_taken hs newest.1)
    where
      by : (b : Bool) → is_at (input_node turns h.input) s ≡ b
          → (halt_at hs k ≡ Some false → SaysTaken hs) → SaysTaken (h ∷ hs)
      by true is rest = record {
        there = rw (is, eq-eqb h.input k here) refl;
        others = λ j off. rw (is, ne_eqb h.input j (λ e. off (sym e ∙ here))) refl;
      }
        where
          low : h.input ≤ k
          low = last_latest turns _ _ _ (at_node (input_node turns h.input) is) last

          here : h.input ≡ k
          here = elim (eqb_tells h.input k) [
            | inl y ↦ y.1
            | inr off ↦
                let older : halt_at (h ∷ hs) k ≡ halt_at hs k = rw off.0 refl in
                absurd (no_halt (sym (none_again _ _ _ newest.0 low) ∙ sym older ∙ lost))
          ]
      by false is rest = record {
        there = rw (is, ne_eqb h.input k off) more.there;
        others = λ j away. elim (eqb_tells h.input j) [
          | inl y ↦ rw (is, y.0) refl
          | inr n ↦ rw (is, n.0) (more.others j away)
        ];
      }
        where
          off : h.input ≡ k → ⊥
          off e =
              true≢false (sym (ap (λ o. is_at o s) (ap (input_node turns) e ∙ last_node turns _ _
              last) ∙ eq-eqb s s refl) ∙ is)

          older : halt_at (h ∷ hs) k ≡ halt_at hs k
          older = rw (ne_eqb h.input k off) refl

          more : SaysTaken hs
          more = rest (sym older ∙ lost)

pub found_halts_differ : FoundHaltsDiffer
found_halts_differ turns halts s k newest last lost =
    let says = says_taken turns s k last halts newest lost in
    record {
      alike = λ before m w again off. sym (says.others (accepted before) off);
      lost = λ before m w again is. ap (halt_at halts) is ∙ lost;
      took = λ before m w again is. ap (halt_at (with_taken turns s halts)) is ∙ says.there;
    }
