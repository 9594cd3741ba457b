-- The copies that an arrival sends weigh less together than the copy that came.
use Rattle.std.proofs.Common.{map, ◌≡◌, ◌≤◌, ◌<◌, ℕ, ◌+◌, ◌*◌, eqb, Bool, true, false, if◌then◌else◌, List, [], ◌∷◌, length, Option, Some, None, refl, sym, ap, ◌∙◌, subst, arith}
use Rattle.std.specs.Prelude.{◌%◌}
use Rattle.std.proofs.lemmas.Nat.{mul-le}
use Rattle.cam_names.specs.declared.name.Name.{Name}
use Rattle.cam_type.specs.declared.ObjectDecl.{ObjectDecl}
use Rattle.cam_event.specs.declared.LetterId.{LetterId}
use Rattle.cam_event.specs.declared.Event.{Event}
use Rattle.cam_event.specs.declared.Sent.{Sent}
use Rattle.cam_event.specs.Inputs.{Input, Begins, Requests, Receives, Tells, Queries, Restarts, got_of}
use Rattle.cam_event.specs.Sights.{Sight}
use Rattle.cam_event.specs.Rules.{arrives}
use Rattle.cam_know.specs.Order.{told_in_order}
use Rattle.cam_event.specs.ByKnowledge.{held_sight, node_step}
use Rattle.cam_event.specs.ByDeltas.{Received, as_carried}
use Rattle.cam_journal.specs.Trace.{Receives as Named}
use Rattle.cam_gen.specs.Draws.{draw_at}
use Rattle.cam_gen.specs.Storms.{Words, objects_of, copies_of, copies_by}
use Rattle.cam_storm.specs.Events.{Copied}
use Rattle.cam_storm.specs.Own.{own_sent}
use Rattle.cam_storm.specs.Lawful.{named, letter_mail, load_in, carried, own_history, AreCopied, IsStormStep}
use Rattle.cam_storm.specs.Weights.{copy_weight, copies_weight, ArrivalsWeighLess}
use Rattle.cam_storm.proofs.Lightness.{arrives_lighter}
use Rattle.cam_storm.proofs.LightParts.{sent_weight, IsEight}

-- a letter has two copies at most
by_draw : (a b : Bool) → (if a then 0 else if b then 2 else 1) ≤ 2
by_draw true b = omega arith
by_draw false true = omega arith
by_draw false false = omega arith

pub copies_few : (words : Words) (s n : ℕ) → copies_of words s n ≤ 2
copies_few words s n =
    by words.calm (by_draw (eqb (draw_at ((words.seed + s) % 18446744073709551616) n % 16) 0) (eqb (draw_at ((words.seed + s) % 18446744073709551616) n % 16) 1))
  where
    by : (calm : Bool) → copies_by (draw_at ((words.seed + s) % 18446744073709551616) n % 16) ≤ 2 → (if calm then 1 else copies_by (draw_at ((words.seed + s) % 18446744073709551616) n % 16)) ≤ 2
    by true h = omega arith
    by false h = h

copied_weight : (words : Words) (s : ℕ) (h : List Received) (n : ℕ) (sent : List Sent) (letters : List Copied) → AreCopied words s h n sent letters → copies_weight letters ≤ 2 * sent_weight sent
copied_weight words s h n [] [] all = omega arith
copied_weight words s h n (m ∷ sent) (c ∷ letters) all =
    let rest = copied_weight words s h (n + 1) sent letters all.1 in
    let few : c.copies ≤ 2 = subst (λ (k : ℕ). k ≤ 2) (sym all.0.copies) (copies_few words s n) in
    let same : copy_weight c.letter.body ≡ copy_weight m.body = ap copy_weight all.0.body in
    let here : copy_weight c.letter.body * c.copies ≤ copy_weight m.body * 2 = mul-le (copy_weight c.letter.body) c.copies (copy_weight m.body) 2 (omega (arith, same)) few in
    omega (arith, rest, here)
copied_weight words s h n [] (c ∷ letters) all = absurd all
copied_weight words s h n (m ∷ sent) [] all = absurd all

eight : (objects : List ObjectDecl) (s : ℕ) (g : Sight) → g.node ≡ s → ((a : Name) → length (g.deps a) ≡ 8) → 1 ≤ s → s ≤ 8 → IsEight g
eight objects s g same counts low high = record { low = omega (arith, same, low); high = omega (arith, same, high); eight = counts }

pub arrivals_weigh_less : ArrivalsWeighLess
arrivals_weigh_less words s history sent e allowed is = by step.input refl
  where
    own : List Received
    own = own_history history

    step : IsStormStep words s own (Some sent) e
    step = allowed.1

    high : s ≤ 8
    high = let four = step.here.1 in omega (arith, four)

    got : e.event.got ≡ got_of step.input
    got = ap (λ (x : Event). x.got) step.is_next

    all : copies_weight e.letters ≤ 2 * sent_weight e.event.sent
    all = copied_weight words s (carried e (Some sent) ∷ own) (own_sent own) e.event.sent e.letters step.letters

    none : got_of step.input ≡ None → ⊥
    none n = subst (λ (g : Option LetterId). Named (named g) (Some sent)) (got ∙ n) is

    by : (input : Input) → step.input ≡ input → copies_weight e.letters < copy_weight sent.letter.letter.body
    by (Receives letter) at =
        let g : Sight = held_sight (objects_of words) s (map as_carried own) (told_in_order (load_in (Some sent)).know) in
        let sent_is : e.event.sent ≡ (arrives (objects_of words) g sent.letter.letter.from sent.letter.letter.body).sent =
        ap (λ (x : Event). x.sent) step.is_next ∙ ap (λ (i : Input). (node_step (objects_of words) s (map as_carried own) i (Some (letter_mail sent.letter.letter)) (told_in_order (load_in (Some sent)).know)).sent) at in
        let light = arrives_lighter (objects_of words) g sent.letter.letter.from sent.letter.letter.body (eight (objects_of words) s g refl (λ a. refl) step.here.0 high) in
        let same : sent_weight e.event.sent ≡ sent_weight (arrives (objects_of words) g sent.letter.letter.from sent.letter.letter.body).sent = ap sent_weight sent_is in
        let most = all in
        omega (arith, light, same, most)
    by (Begins m) at = absurd (none (ap got_of at))
    by (Requests r) at = absurd (none (ap got_of at))
    by (Tells m to) at = absurd (none (ap got_of at))
    by (Queries m f) at = absurd (none (ap got_of at))
    by (Restarts m) at = absurd (none (ap got_of at))
