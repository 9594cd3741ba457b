-- The turns of a worker, as they are tallied.
use Rattle.std.proofs.Common.{◌≡◌, ℕ, ◌+◌, ◌<◌, ◌≤◌, List, [], ◌∷◌, length, refl, sym, arith}
use Rattle.cam_hall.specs.declared.served.End.TheVariants as ends
use Rattle.cam_hall.specs.declared.served.Turn.{Turn}
use Rattle.cam_hall.specs.declared.served.Turn.TheVariants.{Step, Empty, Waiting, Unused, Held}
use Rattle.cam_hall.specs.declared.worker.Tally.{Tally}
use Rattle.cam_hall.specs.Serving.{steps, empty_turns, IsTally, IsQuiet, IsBusy, EndsNoSooner, IsServed}

-- no more steps than turns
pub steps_within : (turns : List Turn) → steps turns ≤ length turns
steps_within [] = omega arith
steps_within (Step ∷ before) = let less = steps_within before in omega arith
steps_within (Empty ∷ before) = let less = steps_within before in omega arith
steps_within (Waiting ∷ before) = let less = steps_within before in omega arith
steps_within (Unused ∷ before) = let less = steps_within before in omega arith
steps_within (Held ∷ before) = let less = steps_within before in omega arith

-- no more empty ones
pub empty_within : (turns : List Turn) → empty_turns turns ≤ length turns
empty_within [] = omega arith
empty_within (Step ∷ before) = omega arith
empty_within (Empty ∷ before) = let less = empty_within before in omega arith
empty_within (Waiting ∷ before) = omega arith
empty_within (Unused ∷ before) = omega arith
empty_within (Held ∷ before) = omega arith

not_quiet : (turns : List Turn) → IsBusy turns → IsQuiet turns → ⊥
not_quiet [] busy quiet = omega arith
not_quiet (turn ∷ before) busy quiet = let less = busy.0 in omega arith

no_sooner : (turns : List Turn) → IsBusy turns → EndsNoSooner turns
no_sooner [] busy = tt
no_sooner (turn ∷ before) busy = busy.1

-- a worker that ends quiet
pub served_quiet : (most : ℕ) (turn : Turn) (before : List Turn) (tally : Tally)
    → IsTally (turn ∷ before) tally → length before < most → IsBusy before → 4096 ≤ tally.empty
    → IsServed most (turn ∷ before) (record {
      steps = tally.steps;
      turns = length before + 1;
      end = ends.Quiet;
    })
served_quiet most turn before tally tallied within busy quiet =
    let empty = tallied.empty_are in
    record {
      steps_are = tallied.steps_are;
      turns_are = omega arith;
      within = omega arith;
      quiet = ((λ is. omega (arith, empty, quiet)), (λ is. refl));
      spent = λ is. absurd (cc);
      no_sooner = busy;
    }

-- a worker whose turns have run out
pub served_spent : (most : ℕ) (turns : List Turn) (tally : Tally) → IsTally turns tally
    → length turns ≡ most → IsBusy turns
    → IsServed most turns (record { steps = tally.steps; turns = most; end = ends.Turns })
served_spent most turns tally tallied all busy = record {
  steps_are = tallied.steps_are;
  turns_are = sym all;
  within = omega arith;
  quiet = ((λ is. absurd (cc)), (λ is. absurd (not_quiet turns busy is)));
  spent = λ is. all;
  no_sooner = no_sooner turns busy;
}
