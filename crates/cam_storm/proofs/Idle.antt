-- What a core that has nothing to do says of its history, and that a busy one has an answer.
use Rattle.std.proofs.Common.{◌≡◌, ◌⊎◌, inl, inr, ℕ, suc, ◌≤◌, Bool, true, false, ◌&&◌, ◌||◌, List, [], ◌∷◌, map, length, reverse, Option, Some, None, refl, sym, ap, ◌∙◌, subst, arith}
use Rattle.std.specs.Prelude.{nat_le, nat_lt, is_none}
use Rattle.std.proofs.lemmas.Bool.{true≢false, and_parts}
use Rattle.std.proofs.lemmas.Bool.Decides.{leb_tells}
use Rattle.std.proofs.lemmas.List.{length-reverse, length-map}
use Rattle.cam_names.specs.declared.name.Name.{Name}
use Rattle.cam_event.specs.declared.Want.{Want}
use Rattle.cam_event.specs.declared.LetterId.{LetterId}
use Rattle.cam_event.specs.Inputs.{Input, Begins, Requests, Restarts}
use Rattle.cam_event.specs.ByDeltas.{Received}
use Rattle.cam_node.specs.Lawful.{IsLawful}
use Rattle.cam_journal.specs.declared.entry.NumberedEvent.{NumberedEvent}
use Rattle.cam_journal.specs.declared.input.CoreInput.TheVariants.{Letter, Drive}
use Rattle.cam_gen.specs.Storms.{Words, objects_of, tops_of, restarts_at}
use Rattle.cam_storm.specs.Events.{Copied}
use Rattle.cam_storm.specs.Events.{Stepped}
use Rattle.cam_storm.specs.Own.{OwnRequest}
use Rattle.cam_storm.specs.Lawful.{carried_in, own_history, IsStormHistory}
use Rattle.cam_storm.specs.Core.{Cell, Keeps, IsReplay, IsLeastDrive, MakesRequest, IsDriven}
use Rattle.cam_storm.specs.Laws.{HistoriesAreLawful, IdleIsQuiet, IdleHasReceived, BusyHasAnswer}

pub lawful_own : (words : Words) (s : ℕ) (h : List (NumberedEvent Stepped Copied)) → IsStormHistory words s h → IsLawful (objects_of words) s (map carried_in h)
lawful_own words s [] all = all
lawful_own words s (entry ∷ before) all =
    (record { input = all.0.input; may = all.0.may; is_next = all.0.is_next }, lawful_own words s before all.1)

pub histories_lawful : HistoriesAreLawful
histories_lawful words s history all = lawful_own words s (reverse history) all

-- it keeps its history, where it is not halted
pub keeps_of : (words : Words) (cell : Cell) (s : ℕ) (history : List (NumberedEvent Stepped Copied)) → IsReplay words cell s history → cell.is_halted ≡ false → Keeps words s (own_history history) cell
keeps_of words cell s history replay runs = by replay.keeps
  where
    by : (cell.is_halted ≡ true) ⊎ Keeps words s (own_history history) cell → Keeps words s (own_history history) cell
    by (inl halted) = absurd (true≢false (sym halted ∙ runs))
    by (inr keeps) = keeps

le_of : (a b : ℕ) → nat_le a b ≡ true → a ≤ b
le_of a b h = elim (leb_tells a b) [ inl l ↦ l.1 | inr r ↦ absurd (true≢false (sym h ∙ r.0)) ]

le_tells : (a b : ℕ) → a ≤ b → nat_le a b ≡ true
le_tells a b h = elim (leb_tells a b) [ inl l ↦ l.0 | inr r ↦ let more = r.1 in absurd (omega (arith, more, h)) ]

none_drives : (words : Words) (s : ℕ) (own : List Received) (o : Option Name) → IsLeastDrive words s own o → is_none o ≡ true → (a : Name) (want : Want) → OwnRequest words s own a want → ⊥
none_drives words s own None least h = least
none_drives words s own (Some a) least h = absurd (true≢false (sym h))

pub idle_is_quiet : IdleIsQuiet
idle_is_quiet words cell s history replay runs idle =
    let keeps = keeps_of words cell s history replay runs in
    let both : (nat_le (tops_of words cell.node.number) cell.events && is_none cell.next_drive) ≡ true =
    sym (ap (λ (b : Bool). b || (nat_le (tops_of words cell.node.number) cell.events && is_none cell.next_drive)) runs) ∙ idle in
    let parts = and_parts (nat_le (tops_of words cell.node.number) cell.events) (is_none cell.next_drive) both in
    let tops : tops_of words cell.node.number ≤ cell.events = le_of (tops_of words cell.node.number) cell.events parts.0 in
    let number = ap (tops_of words) replay.number in
    let events : cell.events ≡ length (own_history history) = keeps.events in
    let whole : length (own_history history) ≡ length history = length-map (reverse history) carried_in ∙ length-reverse history in
    (omega (arith, tops, number, events, whole), none_drives words s (own_history history) cell.next_drive keeps.drive parts.1)

pub idle_has_received : IdleHasReceived
idle_has_received words cell s history number place c replay runs idle =
    let keeps = keeps_of words cell s history replay runs in
    let letter : LetterId = record { event = number; place = place } in
    let enough : nat_le c.copies (cell.received letter) ≡ true = sym (ap (λ (b : Bool). b || nat_le c.copies (cell.received letter)) runs) ∙ idle in
    subst (λ (n : ℕ). c.copies ≤ n) (keeps.received letter) (le_of c.copies (cell.received letter) enough)

-- where its top actions were created, a core that is busy with `Drive` has an action with a request
drives_next : (words : Words) (s : ℕ) (own : List Received) (o : Option Name) → is_none o ≡ false → IsLeastDrive words s own o → (input : Input) × MakesRequest words s own input
drives_next words s own None h least = absurd (true≢false h)
drives_next words s own (Some a) h least =
    let want : Want = least.0.0 in
    (Requests (record { action = a; want = want }), record { action = a; want = want; least = least; request = least.0.1; is = refl })

pub busy_has_answer : BusyHasAnswer
busy_has_answer words cell s history (Letter number place c) replay runs busy = (_, refl)
busy_has_answer words cell s history Drive replay runs busy = by (nat_lt (length own) (tops_of words s)) (restarts_at words (length own)) refl
  where
    own : List Received
    own = own_history history

    keeps : Keeps words s own cell
    keeps = keeps_of words cell s history replay runs

    enough : nat_lt (length own) (tops_of words s) ≡ false → nat_le (tops_of words cell.node.number) cell.events ≡ true
    enough t = elim (leb_tells (suc (length own)) (tops_of words s)) [
      | inl l ↦ absurd (true≢false (sym l.0 ∙ t))
      | inr r ↦
          let most = r.1 in
          let number = ap (tops_of words) replay.number in
          let events = keeps.events in
          le_tells (tops_of words cell.node.number) cell.events (omega (arith, most, number, events))
    ]

    waits : nat_lt (length own) (tops_of words s) ≡ false → is_none cell.next_drive ≡ false
    waits t =
        sym (ap (λ (b : Bool). b && is_none cell.next_drive) (enough t))
        ∙ sym (ap (λ (b : Bool). b || (nat_le (tops_of words cell.node.number) cell.events && is_none cell.next_drive)) runs)
        ∙ busy

    by : (top due : Bool) → nat_lt (length own) (tops_of words s) ≡ top → (input : Input) × IsDriven top due words s own input
    by true due t = (Begins s, refl)
    by false true t = (Restarts s, refl)
    by false false t = drives_next words s own cell.next_drive (waits t) keeps.drive
