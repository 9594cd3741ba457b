-- What is read of a letter's bytes is the letter; those before a cut are too short.
use Rattle.std.proofs.Common.{◌≡◌, inl, inr, List, Result, Ok, Err, IfOk, sym, ap, subst}
use Rattle.cam_base.specs.declared.memory.NoMemory.{NoMemory}
use Rattle.cam_bytes.specs.declared.WireFault.{WireFault}
use Rattle.cam_bytes.specs.declared.WireFault.TheVariants.{NoMemory as OutOfMemory}
use Rattle.cam_know.specs.declared.Outcome.{Outcome}
use Rattle.cam_know.specs.Invariant.{NoTwice}
use Rattle.cam_cluster.specs.declared.arrival.Arrival.{Arrival}
use Rattle.cam_cluster.specs.declared.arrival.Arrival.TheVariants.{Cut}
use Rattle.cam_cluster.specs.Arrivals.{GivesWhole, GivesFault}
use Rattle.cam_cluster.proofs.arrival.read_arrival.Goals as goal

-- what holds of a letter that was cut, and not of running out of memory
of_cut : (P : Arrival → Type 0) (fault : WireFault) (result : Result Arrival NoMemory)
    → IfOk result (λ a. (a ≡ Cut fault) × (fault ≡ OutOfMemory → ⊥))
    → ((fault ≡ OutOfMemory → ⊥) → P (Cut fault)) → IfOk result P
of_cut P fault (Ok a) is holds = subst P (sym is.0) (holds is.1)
of_cut P fault (Err e) is holds = tt

pub returns-in-Ok-clause-whole : goal.returns-in-Ok-clause-whole
returns-in-Ok-clause-whole c =
    λ letter spells. (
      c.in-Ok.ensures.each letter spells,
      rw (← c.outcomes-outcomes.ensures.value)
          c.outcomes-outcomes.ensures.distinct,
    )

pub returns-in-Ok-clause-cut : goal.returns-in-Ok-clause-cut
returns-in-Ok-clause-cut c =
    λ letter more some spells. absurd (c.in-Ok.ensures.beginning letter more some spells)

pub returns-in-Err-clause-whole : goal.returns-in-Err-clause-whole
returns-in-Err-clause-whole c =
    of_cut (GivesWhole c.args.bytes.now) _ _ c.cut_by.ensures (λ off letter spells. absurd (off
    (c.in-Err.ensures.each letter spells)))

pub returns-in-Err-clause-cut : goal.returns-in-Err-clause-cut
returns-in-Err-clause-cut c =
    of_cut (GivesFault c.args.bytes.now) _ _ c.cut_by.ensures (λ off letter more some spells. elim
    (c.in-Err.ensures.beginning letter more some spells) [
      | inl short ↦ ap Cut short
      | inr e ↦ absurd (off e)
    ])
