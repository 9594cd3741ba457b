-- At what moment an arrival's deeds are done: no step at or after a quiesce moment, no abort before.
use Rattle.std.proofs.Common.{◌≡◌, inl, ℕ, Bool, true, List, Option, Some, None, refl, sym, ap, ◌∙◌}
use Rattle.std.specs.List.{list_any}
use Rattle.cam_names.specs.declared.name.Name.{Name}
use Rattle.cam_names.proofs.Names.{name_eq_refl}
use Rattle.cam_type.specs.declared.ObjectDecl.{ObjectDecl}
use Rattle.cam_event.specs.declared.LetterId.{LetterId}
use Rattle.cam_event.specs.declared.Event.{Event}
use Rattle.cam_event.specs.declared.Body.TheVariants as bodies
use Rattle.cam_event.specs.declared.Deed.{Deed}
use Rattle.cam_event.specs.declared.Deed.TheVariants.{Ask}
use Rattle.cam_event.specs.History.{is_create, is_ask, is_abort}
use Rattle.cam_event.specs.Pasts.{plain_all, every}
use Rattle.cam_event.specs.Inputs.{Receives, letter_at, node_of}
use Rattle.cam_event.specs.Rules.{Did}
use Rattle.cam_event.proofs.Members.{any_in, in_any}
use Rattle.cam_cut.proofs.Good.{is_step}
use Rattle.cam_cut.proofs.Holds.{every_part, every_closed}
use Rattle.cam_timed.specs.declared.TimedEvent.{TimedEvent}
use Rattle.cam_timed.specs.declared.Pause.{Pause}
use Rattle.cam_timed.specs.Moments.{events, names_first, until_of}
use Rattle.cam_timed.specs.TimedRules.{TimedInput, WithoutTime, steps_for, aborts_of, paused, timed_did}
use Rattle.cam_timed.specs.TimedRuns.{TimedMayCome}
use Rattle.cam_timed.proofs.Paths.{paths_part}
use Rattle.cam_timed.proofs.Asking.{Came, is_arrival}
use Rattle.cam_timed.proofs.Arriving.{came_mail}
use Rattle.cam_timed.proofs.Holding.{TimedHolds}
use Rattle.cam_timed.proofs.Naming.{named}
use Rattle.cam_timed.proofs.TimedSees.{put_early, sight_next}
use Rattle.cam_timed.proofs.RuleHolds.{preparing_top, pause_next, did_next}
use Rattle.cam_timed.proofs.LettersSay.{mail_says}
use Rattle.cam_timed.proofs.AtMoments.{now_at, AtMoment, still, not_quiet, not_early, unpaused, arrival_step, abort_step, not_ask, in_every}

-- a letter
pub arrive_at : (objects : List ObjectDecl) (T : List TimedEvent) (letter : LetterId) (until : ℕ) → TimedHolds objects (events T) → TimedMayCome objects T (WithoutTime (Receives letter) until) → AtMoment objects T (WithoutTime (Receives letter) until)
arrive_at objects T letter until run may = by (pause_next objects T input) refl
  where
    input : TimedInput
    input = WithoutTime (Receives letter) until

    t : List Event
    t = events T

    s : ℕ
    s = node_of t (Receives letter)

    d : Did
    d = timed_did objects T input s (Some letter)

    Known : Name → Type 0
    Known b = named (plain_all t) b ≡ true

    starts : (from to : ℕ) (b : Name) (counts : List ℕ) → letter_at t letter ≡ Some (record { from = from; to = to; body = bodies.Start b counts }) → Known b
    starts from to b counts e =
        let ok = run.sets.letters letter (record { from = from; to = to; body = bodies.Start b counts }) e every (every_closed t) refl in
        in_any (names_first b) (plain_all t) (Ask ok.0 b) ok.1 (name_eq_refl b)

    came : Came Known (plain_all t) d
    came = came_mail Known objects (plain_all t) (sight_next objects t s (Some letter)) (letter_at t letter) (preparing_top objects t s (Some letter) run (put_early objects t letter may))
        (mail_says objects t s (Some letter) every run (paths_part t s (Some letter) every (every_part t s (Some letter)))) starts

    by : (o : Option Pause) → pause_next objects T input ≡ o → AtMoment objects T input
    by (Some p) e = still objects T input (ap (λ x. (paused x d).deeds) e)
    by None e = record {
      late = λ u h.
          let found = any_in (is_abort u) d.deeds (same (is_abort u) h) in
          not_early (until_of T) (now_at T input) (aborts_of found.0) u (unpaused (until_of T) (now_at T input) d.deeds found.0 e found.1).1 (abort_step found.0 u found.2);
      before = λ a has h.
          let found = any_in (is_step a) d.deeds (same (is_step a) h) in
          inl (not_quiet (until_of T) (now_at T input) (steps_for found.0) a (unpaused (until_of T) (now_at T input) d.deeds found.0 e found.1).0
          (arrival_step found.0 a has (in_every is_arrival d.deeds found.0 came.1 found.1) found.2));
      shrinks = λ p b h.
          let found = any_in (is_ask p b) d.deeds (same (is_ask p b) h) in
          absurd (not_ask found.0 p b (in_every is_arrival d.deeds found.0 came.1 found.1) found.2);
      creates = λ b h. inl (came.2 b (same (is_create b) h));
    }
      where
        same : (q : Deed → Bool) → list_any q (did_next objects T input).deeds ≡ true → list_any q d.deeds ≡ true
        same q h = sym (ap (λ x. list_any q (paused x d).deeds) e) ∙ h
