-- What is known of the same outcomes and counts passes the same tests.
use Rattle.std.proofs.Common.{◌≡◌, inl, inr, ℕ, ◌-◌, true, ◌&&◌, List, [], ◌∷◌, refl, ap, ◌∙◌}
use Rattle.std.specs.Prelude.{slice_index, nat_le}
use Rattle.std.specs.List.{list_all}
use Rattle.cam_names.specs.Dependencies.{pairs_of}
use Rattle.cam_know.specs.declared.Outcome.{Outcome}
use Rattle.cam_know.specs.declared.Outcome.TheVariants.{Aborted, Committed}
use Rattle.cam_know.specs.Knowledge.{Knowledge}
use Rattle.cam_know.specs.Order.{in_order, told_in_order}
use Rattle.cam_event.proofs.Members.{In}
use Rattle.cam_cut.proofs.Lists.{in_all}
use Rattle.cam_delta.proofs.DeltaLists.{in_ordered, ordered_in}
use Rattle.cam_delta.proofs.Distinctness.{Distinct}
use Rattle.cam_delta.proofs.OneOrder.{order_rises, rising_same}
use Rattle.cam_delta.proofs.SameHistories.{Alike}
use Rattle.cam_node.specs.Lawful.{are_known, is_known_outcome}

-- what a load is tested for goes by its set of outcomes and its counts
pub known_alike : (k l : Knowledge) (counts : List ℕ) → k.counts ≡ l.counts
    → are_known k counts ≡ are_known l counts
known_alike k l counts same = ap (λ (cs : List ℕ). list_all
    (λ p. nat_le p.1 (slice_index cs (p.0 - 1))) (pairs_of counts)) same

outcome_alike : (k l : Knowledge) (o : Outcome) → k.counts ≡ l.counts
    → is_known_outcome k o ≡ is_known_outcome l o
outcome_alike k l (Aborted a) same = refl
outcome_alike k l (Committed a counts) same = known_alike k l counts same

all_known : (k : Knowledge) (os : List Outcome)
    → ((o : Outcome) → In o os → is_known_outcome k o ≡ true)
    → list_all (is_known_outcome k) os ≡ true
all_known k [] each = refl
all_known k (o ∷ os) each = λ i. (each o (inl refl) i) && (all_known k os (λ p j. each p (inr j)) i)

pub outcomes_alike : (k l : Knowledge) → Alike k l → list_all (is_known_outcome l) l.outcomes ≡ true
    → list_all (is_known_outcome k) k.outcomes ≡ true
outcomes_alike k l alike all =
    all_known k k.outcomes (λ o i. outcome_alike k l o alike.counts ∙ in_all
    (is_known_outcome l) l.outcomes o all (alike.to o i))

-- the same in order
pub order_alike : (k l : Knowledge) → Alike k l → Distinct k.outcomes → Distinct l.outcomes
    → told_in_order k ≡ told_in_order l
order_alike k l alike one other =
    let outcomes : in_order k.outcomes ≡ in_order l.outcomes =
    rising_same (in_order k.outcomes) (in_order l.outcomes) (order_rises k.outcomes one)
    (order_rises l.outcomes other)
    (λ o i. in_ordered o l.outcomes (alike.to o (ordered_in o k.outcomes i)))
    (λ o i. in_ordered o k.outcomes (alike.back o (ordered_in o l.outcomes i))) in
    λ i. record { outcomes = outcomes i; counts = alike.counts i }
