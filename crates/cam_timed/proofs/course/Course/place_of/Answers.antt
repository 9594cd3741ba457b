use Rattle.std.proofs.Common.{◌≡◌, ◌<◌, ◌≤◌, ◌+◌, true, false, length, sym, ◌∙◌, arith, rules}
use Rattle.cam_timed.specs.TimedRunning.{letters}
use Rattle.cam_timed.proofs.CoursePlaces.{none_lost, none_past, place_at}
use Rattle.cam_timed.proofs.course.Course.place_of.Goals as goal
use Rattle.cam_timed.proofs.course.Course.place_of.Goals.{else-place-letter_count-via-then-place-letter_count+else-not-contains, else-place-letter_count-via-else-place-letter_count}

pub returns-then-not-contains-clause-place : goal.returns-then-not-contains-clause-place
returns-then-not-contains-clause-place c = λ objects r keeps.
    let count = c.letter_count.ensures objects r.trace keeps.machine in
    let same : c.in_ok-place.place + 1 ≡ c.args.number = search rules in
    let there : c.in_ok-place.place < length (letters r.trace) =
    omega (arith, count, c.if-place-letter_count.true) in
    let stays : c.contains.result ≡ false = search rules in
    place_at r c.args.number c.in_ok-place.place same there
    (sym (keeps.lost (c.in_ok-place.place + 1)) ∙ sym c.contains.ensures ∙ stays)

pub returns-else-place-letter_count-clause-place : goal.returns-else-place-letter_count-clause-place
returns-else-place-letter_count-clause-place c = λ objects r keeps.
    let count = c.letter_count.ensures objects r.trace keeps.machine in
    let same : c.in_ok-place.place + 1 ≡ c.args.number = search rules in
    elim c.else-place-letter_count.branch [
      | else-place-letter_count-via-then-place-letter_count+else-not-contains w ↦
          let gone : w.contains.result ≡ true = search rules in
          none_lost r c.args.number c.in_ok-place.place same
          (sym (keeps.lost (c.in_ok-place.place + 1)) ∙ sym w.contains.ensures ∙ gone)
      | else-place-letter_count-via-else-place-letter_count w ↦
          let past : length (letters r.trace) ≤ c.in_ok-place.place =
          omega (arith, count, w.if-place-letter_count.false) in
          none_past r c.args.number c.in_ok-place.place same past
    ]
