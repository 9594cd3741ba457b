-- The last input of a node, and the inputs of a run by number.
use Rattle.std.proofs.Common.{◌≡◌, inl, inr, ℕ, ◌+◌, ◌<◌, ◌≤◌, eqb, Bool, true, false}
use Rattle.std.proofs.Common.{if◌then◌else◌, List, [], ◌∷◌, ◌++◌, Some, refl, sym, ap}
use Rattle.std.proofs.Common.{◌∙◌, arith}
use Rattle.std.proofs.lemmas.Bool.{eq-eqb, ne_eqb}
use Rattle.std.proofs.lemmas.Bool.Decides.{eqb_tells}
use Rattle.std.proofs.lemmas.Option.{same_Some}
use Rattle.cam_runs.specs.Halts.{Turn, Input, Stop, Restart, accepted}
use Rattle.cam_histories.specs.Found.{last_input}
use Rattle.cam_cluster.specs.FoundHalts.{input_node}

-- It was accepted,
pub last_below : (turns : List Turn) (s k : ℕ) → last_input turns s ≡ Some k → k < accepted turns
last_below [] s k h = cc
last_below (Input m line w again ∷ before) s k h = by (eqb m s) h (last_below before s k)
  where
    by : (b : Bool) → (if b then Some (accepted before) else last_input before s) ≡ Some k
        → (last_input before s ≡ Some k → k < accepted before) → k < accepted before + 1
    by true is rest = let same = same_Some (accepted before) k is in omega (arith, same)
    by false is rest = let low = rest is in omega (arith, low)
last_below (Stop m calls ∷ before) s k h = last_below before s k h
last_below (Restart m ∷ before) s k h = last_below before s k h

-- and is one of the node;
pub last_node : (turns : List Turn) (s k : ℕ) → last_input turns s ≡ Some k
    → input_node turns k ≡ Some s
last_node [] s k h = cc
last_node (Input m line w again ∷ before) s k h = elim (eqb_tells m s) [
  | inl y ↦
      let here : last_input (Input m line w again ∷ before) s ≡ Some (accepted before) =
      rw y.0 refl in
      let same : accepted before ≡ k = same_Some (accepted before) k (sym here ∙ h) in
      rw (eq-eqb (accepted before) k same) (ap (λ n. Some n) y.1)
  | inr other ↦
      let older : last_input (Input m line w again ∷ before) s ≡ last_input before s =
      rw other.0 refl in
      let was : last_input before s ≡ Some k = sym older ∙ h in
      let low = last_below before s k was in
      rw (ne_eqb (accepted before) k (λ e. omega (arith, e, low))) (last_node before s k was)
]
last_node (Stop m calls ∷ before) s k h = last_node before s k h
last_node (Restart m ∷ before) s k h = last_node before s k h

-- no other one of it came later.
node_below : (turns : List Turn) (s j : ℕ) → input_node turns j ≡ Some s → j < accepted turns
node_below [] s j h = cc
node_below (Input m line w again ∷ before) s j h = elim (eqb_tells (accepted before) j) [
  | inl y ↦ let same = y.1 in omega (arith, same)
  | inr other ↦
      let older : input_node (Input m line w again ∷ before) j ≡ input_node before j =
      rw other.0 refl in
      let low = node_below before s j (sym older ∙ h) in
      omega (arith, low)
]
node_below (Stop m calls ∷ before) s j h = node_below before s j h
node_below (Restart m ∷ before) s j h = node_below before s j h

pub last_latest : (turns : List Turn) (s j k : ℕ) → input_node turns j ≡ Some s
    → last_input turns s ≡ Some k → j ≤ k
last_latest [] s j k at last = cc
last_latest (Input m line w again ∷ before) s j k at last = elim (eqb_tells m s) [
  | inl y ↦
      let here : last_input (Input m line w again ∷ before) s ≡ Some (accepted before) =
      rw y.0 refl in
      let same = same_Some (accepted before) k (sym here ∙ last) in
      let low = node_below (Input m line w again ∷ before) s j at in
      omega (arith, same, low)
  | inr other ↦
      let older : last_input (Input m line w again ∷ before) s ≡ last_input before s =
      rw other.0 refl in
      elim (eqb_tells (accepted before) j) [
        | inl z ↦
            let here : input_node (Input m line w again ∷ before) j ≡ Some m = rw z.0 refl in
            absurd (other.1 (same_Some m s (sym here ∙ at)))
        | inr off ↦
            let was : input_node (Input m line w again ∷ before) j ≡ input_node before j =
            rw off.0 refl in
            last_latest before s j k (sym was ∙ at) (sym older ∙ last)
      ]
]
last_latest (Stop m calls ∷ before) s j k at last = last_latest before s j k at last
last_latest (Restart m ∷ before) s j k at last = last_latest before s j k at last

-- What was accepted stays so, and the last input grows.
pub accepted_more : (more turns : List Turn) → accepted turns ≤ accepted (more ++ turns)
accepted_more [] turns = omega arith
accepted_more (Input m line w again ∷ more) turns =
    let low = accepted_more more turns in omega (arith, low)
accepted_more (Stop m calls ∷ more) turns = accepted_more more turns
accepted_more (Restart m ∷ more) turns = accepted_more more turns

pub node_stays : (more turns : List Turn) (k : ℕ) → k < accepted turns
    → input_node (more ++ turns) k ≡ input_node turns k
node_stays [] turns k low = refl
node_stays (Input m line w again ∷ more) turns k low =
    let all = accepted_more more turns in
    rw (ne_eqb (accepted (more ++ turns)) k (λ e. omega (arith, e, low, all)))
    (node_stays more turns k low)
node_stays (Stop m calls ∷ more) turns k low = node_stays more turns k low
node_stays (Restart m ∷ more) turns k low = node_stays more turns k low

pub record LastGrows (old new : List Turn) (s k : ℕ) : Type 0 where
  pub number : ℕ
  pub last : last_input new s ≡ Some number
  pub later : k ≤ number

pub last_grows : (more turns : List Turn) (s k : ℕ) → last_input turns s ≡ Some k
    → LastGrows turns (more ++ turns) s k
last_grows [] turns s k h = record { number = k; last = h; later = omega arith }
last_grows (Input m line w again ∷ more) turns s k h =
    let rest = last_grows more turns s k h in
    elim (eqb_tells m s) [
      | inl y ↦ record {
        number = accepted (more ++ turns);
        last = rw y.0 refl;
        later =
            let low = last_below turns s k h in
            let all = accepted_more more turns in
            omega (arith, low, all);
      }
      | inr other ↦ record {
        number = rest.number;
        last = rw other.0 rest.last;
        later = rest.later;
      }
    ]
last_grows (Stop m calls ∷ more) turns s k h =
    let rest = last_grows more turns s k h in
    record { number = rest.number; last = rest.last; later = rest.later }
last_grows (Restart m ∷ more) turns s k h =
    let rest = last_grows more turns s k h in
    record { number = rest.number; last = rest.last; later = rest.later }
