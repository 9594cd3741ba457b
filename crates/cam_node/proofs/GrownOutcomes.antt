-- What an event teaches stands behind what was known.
use Rattle.std.proofs.Common.{◌≡◌, ◌+◌, List, [], ◌∷◌, ◌++◌, map, length, Option, refl, sym, ap, ◌∙◌, arith, append-nil, append_assoc, length-append}
use Rattle.cam_type.specs.declared.ObjectDecl.{ObjectDecl}
use Rattle.cam_know.specs.Knowledge.{Knowledge}
use Rattle.cam_know.specs.declared.Outcome.{Outcome}
use Rattle.cam_know.specs.declared.Outcome.TheVariants.{Aborted, Committed}
use Rattle.cam_know.specs.Known.{both, unknown, with_count, with_outcome}
use Rattle.cam_know.specs.Order.{told_in_order}
use Rattle.cam_event.specs.declared.Deed.{Deed}
use Rattle.cam_event.specs.declared.Deed.TheVariants.{Commit, Abort, Crash}
use Rattle.cam_event.specs.History.{count}
use Rattle.cam_event.specs.Inputs.{Mail}
use Rattle.cam_event.specs.ByKnowledge.{commit_counts, learned_by}
use Rattle.cam_event.specs.Carried.{Carried, deeds_of}
use Rattle.cam_event.specs.ByDeltas.{Received, as_carried, known}

pub record Grown (k now : Knowledge) : Type 0 where
  pub more : List Outcome
  pub is : now.outcomes ≡ k.outcomes ++ more

grown_behind : (k mid now : Knowledge) (u : List Outcome) → mid.outcomes ≡ k.outcomes ++ u
    → Grown mid now → Grown k now
grown_behind k mid now u is grown =
    record {
      more = u ++ grown.more;
      is =
          grown.is ∙ ap (λ (os : List Outcome). os ++ grown.more) is
          ∙ append_assoc k.outcomes u grown.more;
    }

learned_grown : (objects : List ObjectDecl) (h : List Carried) (mail : Option Mail) (k : Knowledge)
    (ds : List Deed) → Grown k (learned_by objects h mail k ds)
learned_grown objects h mail k [] = record { more = []; is = sym (append-nil k.outcomes) }
learned_grown objects h mail k (Commit a ∷ ds) =
    let o : Outcome = Committed a (commit_counts objects h mail a) in
    grown_behind k (with_outcome o k) (learned_by objects h mail (with_outcome o k) ds)
    (unknown k (o ∷ [])) refl (learned_grown objects h mail (with_outcome o k) ds)
learned_grown objects h mail k (Abort a ∷ ds) =
    let o : Outcome = Aborted a in
    grown_behind k (with_outcome o k) (learned_by objects h mail (with_outcome o k) ds)
    (unknown k (o ∷ [])) refl (learned_grown objects h mail (with_outcome o k) ds)
learned_grown objects h mail k (Crash s ∷ ds) =
    let then : Knowledge = with_count s (count (deeds_of h) s + 1) k in
    let rest = learned_grown objects h mail then ds in
    record { more = rest.more; is = rest.is }
learned_grown objects h mail k (d ∷ ds) = learned_grown objects h mail k ds

pub event_grown : (objects : List ObjectDecl) (history : List Received) (c : Received)
    → Grown (known objects history) (known objects (c ∷ history))
event_grown objects history c =
    let k : Knowledge = known objects history in
    let b : Knowledge = told_in_order c.load.know in
    grown_behind k (both k b) (known objects (c ∷ history)) (unknown k b.outcomes) refl
    (learned_grown objects (map as_carried history) c.mail (both k b) c.event.deeds)

-- where it is no longer, it is the same
pub same_long : (k now : Knowledge) → Grown k now → length k.outcomes ≡ length now.outcomes
    → k.outcomes ≡ now.outcomes
same_long k now grown long = by grown.more grown.is
  where
    by : (more : List Outcome) → now.outcomes ≡ k.outcomes ++ more → k.outcomes ≡ now.outcomes
    by [] is = sym (is ∙ append-nil k.outcomes)
    by (o ∷ os) is =
        let one = ap length is ∙ length-append k.outcomes (o ∷ os) in
        absurd (omega (arith, one, long))
