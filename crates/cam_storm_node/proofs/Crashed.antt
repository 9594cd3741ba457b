-- After a restart no action that was created may run: all are of an earlier count of their node.
use Rattle.std.proofs.Common.{◌≡◌, ◌⊎◌, inl, inr, ℕ, ◌+◌, Bool, true, if◌then◌else◌}
use Rattle.std.proofs.Common.{List, [], ◌∷◌, ◌++◌, map, Option, refl, sym, ap, ◌∙◌, arith}
use Rattle.std.proofs.lemmas.Bool.{eq-eqb, ltb-false, true≢false}
use Rattle.cam_names.specs.declared.name.Name.{Name}
use Rattle.cam_names.specs.Names.{home_count}
use Rattle.cam_type.specs.declared.ObjectDecl.{ObjectDecl}
use Rattle.cam_know.specs.Known.{new_aborts, new_commits}
use Rattle.cam_know.specs.Knowledge.{Knowledge}
use Rattle.cam_know.specs.Order.{told_in_order}
use Rattle.cam_event.specs.declared.Event.{Event}
use Rattle.cam_event.specs.declared.Deed.{Deed}
use Rattle.cam_event.specs.declared.Deed.TheVariants.{Create, Ask, Call, Perform, Bounce, Got, AskCommit, AskAbort, Commit, Abort, Secure, Inform, Crash}
use Rattle.cam_event.specs.History.{after, count, created}
use Rattle.cam_event.specs.Inputs.{Input, Begins, Requests, Receives, Tells, Queries, Restarts}
use Rattle.cam_event.specs.Sights.{Sight}
use Rattle.cam_event.specs.Rules.{rule}
use Rattle.cam_event.specs.ByKnowledge.{held, held_informs, held_sight}
use Rattle.cam_event.specs.Carried.{Carried, deeds_of}
use Rattle.cam_event.specs.ByDeltas.{Received, as_carried}
use Rattle.cam_event.proofs.Members.{any_in}
use Rattle.cam_node.specs.Halting.{IsThrough}
use Rattle.cam_node.proofs.Orderly.{through_orderly}
use Rattle.cam_cut.proofs.Informs.{IsInformAt, after_append, keep_informs}
use Rattle.cam_journal.specs.declared.entry.SentLetter.{SentLetter as Taken}
use Rattle.cam_gen.specs.Storms.{Words, objects_of}
use Rattle.cam_storm.specs.Events.{Copied}
use Rattle.cam_storm.specs.Runs.{is_restart}
use Rattle.cam_storm.specs.Lawful.{load_in, mail_in}
use Rattle.cam_storm.proofs.Rules.{DeedFine}
use Rattle.cam_storm.proofs.SoundSteps.{IsPutStep, Next, deed_of, next_of}
use Rattle.cam_storm_node.specs.Asking.{EndsActions, is_any_crash}
use Rattle.cam_storm_node.proofs.Running.{created_early}

module _ (words : Words) (s : ℕ) (own : List Received) (from : Option (Taken Copied))
    (event : Event) (put : IsPutStep words s own from event)
    (through : IsThrough (objects_of words) s own) where
  abbrev objects : List ObjectDecl
  objects = objects_of words

  abbrev past : List Carried
  past = map as_carried own

  abbrev brought : Knowledge
  brought = told_in_order (load_in from).know

  abbrev g : Sight
  g = held_sight objects s past brought

  abbrev L : List Deed
  L = deeds_of past

  abbrev first : List Deed
  first = held_informs objects s past brought

  step : Next words s past (mail_in from) (load_in from) put.input event.deeds
      (rule objects g (mail_in from) put.input)
  step = next_of words s own from event put.here.0 put

  -- a crash is a restart's
  restart_of : (d : Deed) → IsInformAt s d ⊎ DeedFine objects g (mail_in from) put.input d
      → is_any_crash d ≡ true → is_restart put.input ≡ true
  restart_of (Crash m) (inr fine) is = fine
  restart_of (Crash m) (inl inform) is = let x = inform.is in absurd (cc)
  restart_of (Create b) fine is = cc
  restart_of (Ask q b) fine is = cc
  restart_of (Call b k x op c) fine is = cc
  restart_of (Perform b k answer) fine is = cc
  restart_of (Bounce b k u) fine is = cc
  restart_of (Got b k seen) fine is = cc
  restart_of (AskCommit b v) fine is = cc
  restart_of (AskAbort b) fine is = cc
  restart_of (Commit b) fine is = cc
  restart_of (Abort b) fine is = cc
  restart_of (Secure f m c) fine is = cc
  restart_of (Inform m b o) fine is = cc

  keeps : {X : Type 0} (F : List Deed → X)
      → ((r : ℕ) (b : Name) (o : Bool) (M : List Deed) → F (Inform r b o ∷ M) ≡ F M)
      → F (after L first) ≡ F L
  keeps F same =
      keep_informs F same s (new_aborts brought (held objects past))
      (new_commits brought (held objects past)) L

  module _ (m : ℕ) (is : put.input ≡ Restarts m) where
    whole : after L event.deeds ≡ Crash s ∷ after L first
    whole =
        ap (after L) (step.deeds
        ∙ ap (λ (i : Input). first ++ (rule objects g (mail_in from) i).deeds) is)
        ∙ after_append L first (Crash s ∷ [])

    counted : count (after L event.deeds) s ≡ count L s + 1
    counted =
        ap (λ (M : List Deed). count M s) whole
        ∙ ap (λ (b : Bool). if b then count (after L first) s + 1 else count (after L first) s)
        (eq-eqb s s refl)
        ∙ ap (λ (k : ℕ). k + 1) (keeps (λ M. count M s) (λ r b o M. refl))

    made_before : (a : Name) → created (after L event.deeds) a ≡ created L a
    made_before a =
        ap (λ (M : List Deed). created M a) whole ∙ keeps (λ M. created M a) (λ r b o M. refl)

  -- THE LAW
  pub crash_ends : EndsActions s own
      (record { event = event; mail = mail_in from; load = load_in from })
  crash_ends any a may made = by put.input refl restarts
    where
      restarts : is_restart put.input ≡ true
      restarts =
          let found = any_in is_any_crash event.deeds any in
          restart_of found.0
          (deed_of words s past (mail_in from) (load_in from) put.input event.deeds
          (rule objects g (mail_in from) put.input) step found.0 found.1) found.2

      by : (input : Input) → put.input ≡ input → is_restart input ≡ true → ⊥
      by (Restarts m) is restart =
          let count_is = counted m is in
          let now = may.1 in
          let early = ltb-false (count L s) (home_count a)
          (created_early s (count L s) a L (through_orderly objects s own through).reached
          (sym (made_before m is a) ∙ made) may.0) in
          absurd (omega (arith, count_is, now, early))
      by (Begins m) is restart = true≢false (sym restart)
      by (Requests r) is restart = true≢false (sym restart)
      by (Receives letter) is restart = true≢false (sym restart)
      by (Tells m to) is restart = true≢false (sym restart)
      by (Queries m f) is restart = true≢false (sym restart)
