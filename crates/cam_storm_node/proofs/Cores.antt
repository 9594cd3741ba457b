-- A core after a step: a storm node that is the replay of its history, whose disk has failed no
-- less often than before the storm.
use Rattle.std.proofs.Common.{ℕ, [], ◌∷◌, ◌++◌, arith}
use Rattle.std.specs.Prelude.{Ok, Err}
use Rattle.cam_journal.specs.declared.input.CoreFault.{CoreFault}
use Rattle.cam_journal.specs.declared.input.CoreInput.{CoreInput}
use Rattle.cam_journal.specs.Taking.{FaultsWithCause, IsNext, entry, letter_in}
use Rattle.cam_gen.specs.Storms.{Words}
use Rattle.cam_storm.specs.Core.{Answers}
use Rattle.cam_storm.specs.Events.{Copied, Stepped}
use Rattle.cam_storm.specs.Lawful.{SeatHistory, lawful, names}
use Rattle.cam_storm_node.specs.Playing.{StormNodeFields, IsCore, IsPlaying}
use Rattle.cam_storm_node.specs.Stepping.{HasStepped}
use Rattle.cam_storm_node.specs.Taking.{IsItem}
use Rattle.cam_storm_node.proofs.Steps.{faults_later}

module _ (words : Words) (failures : ℕ → ℕ) (old new : StormNodeFields) (item : CoreInput Copied)
  where
    -- with the event that it made
    pub core_stepped : (e : Stepped) → FaultsWithCause {E = Stepped} old.faults new.faults (Ok e)
        → ((s : ℕ) (history : SeatHistory) → IsPlaying words old s history → IsItem s item
        → HasStepped words s history item new (Ok e))
        → (s : ℕ) (history : SeatHistory) → IsCore words failures old s history → IsItem s item
        → Answers words s history item e
        × IsNext names (lawful words) s history (letter_in item) e
        × ((number : ℕ)
        → IsCore words failures new s (history ++ entry names number (letter_in item) e ∷ []))
    core_stepped e faults steps s history core here =
        let step = steps s history core.plays here in
        let before = core.later in (
          step.0,
          step.1,
          λ number. record { plays = step.2 number; later = omega (arith, before, faults) },
        )

    -- after a fault
    pub core_stays : (fault : CoreFault)
        → FaultsWithCause {E = Stepped} old.faults new.faults (Err fault)
        → ((s : ℕ) (history : SeatHistory) → IsPlaying words old s history → IsItem s item
        → HasStepped words s history item new (Err fault))
        → (s : ℕ) (history : SeatHistory) → IsCore words failures old s history → IsItem s item
        → IsCore words failures new s history
    core_stays fault faults steps s history core here =
        let before = core.later in
        let later = faults_later {E = Stepped} old.faults new.faults (Err fault) faults in record {
          plays = steps s history core.plays here;
          later = omega (arith, before, later);
        }
