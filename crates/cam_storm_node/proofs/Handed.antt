-- A storm node that may step may take a step with its item.
use Rattle.std.proofs.Common.{◌≡◌, ℕ, ◌<◌, false, length, Option, Some, None, subst, arith}
use Rattle.std.specs.Prelude.{IfSome}
use Rattle.cam_journal.specs.declared.entry.SentLetter.{SentLetter as Taken}
use Rattle.cam_journal.specs.declared.input.CoreInput.{CoreInput}
use Rattle.cam_journal.specs.Taking.{IsFromLawful, letter_in}
use Rattle.cam_node.specs.Lawful.{IsLetter}
use Rattle.cam_gen.specs.Storms.{Words, objects_of}
use Rattle.cam_storm.specs.Events.{Copied}
use Rattle.cam_storm.specs.Lawful.{SeatHistory, goes_to, lawful, letter_load, letter_mail, own_history, sends}
use Rattle.cam_storm.proofs.Idle.{histories_lawful}
use Rattle.cam_storm.proofs.Letters.{copied_at}
use Rattle.cam_storm.proofs.SoundLetters.{letters_may_come}
use Rattle.cam_storm_node.specs.Playing.{StormNodeFields, IsPlaying, is_idle_by}
use Rattle.cam_storm_node.specs.Taking.{CanTake, MayReceive}
use Rattle.cam_storm_node.proofs.Played.{busy_runs, may_take}
use Rattle.cam_storm_node.proofs.Steps.{own_length}

may_receive : (words : Words) (s : ℕ) (received : Option (Taken Copied))
    → IfSome received
    (λ sent. (goes_to sent.letter ≡ s) × IsFromLawful sends (lawful words) sent)
    → MayReceive words s received
may_receive words s None from = tt
may_receive words s (Some sent) from =
    let was = from.1 in
    let step = was.allowed.1 in
    let low = step.here.0 in
    let high = step.here.1 in
    let is = copied_at words was.node _ _ was.event.event.sent was.event.letters sent.place
    sent.letter step.letters was.letter in
    let sender : sent.letter.letter.from ≡ was.node = is.2.from in
    let may = letters_may_come words was.node was.history was.received was.event sent.place
    sent.letter was.allowed was.letter in (
      (omega (arith, sender, low), omega (arith, sender, high)),
      subst (λ (n : ℕ). IsLetter (objects_of words) n (letter_mail sent.letter.letter)
          (letter_load sent.letter.letter)) from.0 may.0,
    )

pub can_take : (words : Words) (storm_node : StormNodeFields) (s : ℕ) (history : SeatHistory)
    (item : CoreInput Copied) → IsPlaying words storm_node s history
    → is_idle_by storm_node item ≡ false → length history < 500000000
    → IfSome (letter_in item)
    (λ sent. (goes_to sent.letter ≡ s) × IsFromLawful sends (lawful words) sent)
    → CanTake words item storm_node
can_take words storm_node s history item plays busy room letter =
    let whole = own_length history in
    record {
      node = s;
      own = own_history history;
      may = may_take words storm_node s history plays (busy_runs storm_node item busy);
      few = plays.few;
      lawful = histories_lawful words s history plays.replay.lawful;
      room = omega (arith, whole, room);
      letter = may_receive words s (letter_in item) letter;
    }
