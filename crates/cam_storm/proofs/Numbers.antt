-- A node has counted no more top actions, children and calls than it has events: an event has one
-- deed at most that neither decides nor informs.
use Rattle.std.proofs.Common.{◌≡◌, ℕ, ◌+◌, ◌≤◌, Bool, true, false, if◌then◌else◌, List, [], ◌∷◌}
use Rattle.std.proofs.Common.{map, length, refl, ap, ◌∙◌, arith}
use Rattle.cam_names.specs.declared.name.Name.{Name}
use Rattle.cam_type.specs.declared.ObjectDecl.{ObjectDecl}
use Rattle.cam_know.specs.Known.{new_aborts, new_commits}
use Rattle.cam_know.specs.Knowledge.{Knowledge}
use Rattle.cam_know.specs.Order.{told_in_order}
use Rattle.cam_event.specs.declared.Deed.{Deed}
use Rattle.cam_event.specs.declared.Deed.TheVariants.{Commit, Abort, Inform}
use Rattle.cam_event.specs.declared.Event.{Event}
use Rattle.cam_event.specs.History.{after, number_of}
use Rattle.cam_event.specs.Rules.{rule}
use Rattle.cam_event.specs.ByKnowledge.{held, held_informs, held_sight}
use Rattle.cam_event.specs.Carried.{deeds_of}
use Rattle.cam_event.specs.ByDeltas.{Received, as_carried}
use Rattle.cam_cut.proofs.Informs.{after_append, keep_informs}
use Rattle.cam_node.specs.Lawful.{IsLawful, IsStepOf}
use Rattle.cam_node.specs.Shapes.{IsShaped}
use Rattle.cam_node.specs.Shapes.IsShaped.{Quiet, Single, Commits, Aborts}
use Rattle.cam_node.proofs.Shapes.{rules_are_shaped}

-- a test that no decision and no Inform meets
pub record IsQuietTest (test : Deed → Bool) : Type 0 where
  pub commit : (a : Name) → test (Commit a) ≡ false
  pub abort : (a : Name) → test (Abort a) ≡ false
  pub inform : (s : ℕ) (a : Name) (o : Bool) → test (Inform s a o) ≡ false

module _ (test : Deed → Bool) (quiet : IsQuietTest test) where
  number_after : (ds L : List Deed)
      → number_of test (after L ds) ≡ number_of test L + number_of test ds
  number_after [] L = omega arith
  number_after (d ∷ ds) L = by (test d) refl (number_after ds (d ∷ L))
    where
      by : (b : Bool) → test d ≡ b
          → number_of test (after (d ∷ L) ds) ≡ number_of test (d ∷ L) + number_of test ds
          → number_of test (after (d ∷ L) ds)
          ≡ number_of test L + (if b then number_of test ds + 1 else number_of test ds)
      by true e h =
          let one : number_of test (d ∷ L) ≡ number_of test L + 1 = rw e refl in
          omega (arith, h, one)
      by false e h =
          let none : number_of test (d ∷ L) ≡ number_of test L = rw e refl in
          omega (arith, h, none)

  shaped_number : (s : ℕ) (ds : List Deed) → IsShaped s ds → number_of test ds ≤ 1
  shaped_number s _ Quiet = omega arith
  shaped_number s _ (Single d mute) =
      elim (test d) as (λ b. (if b then 1 else 0) ≤ 1) [
        | true ↦ omega arith
        | false ↦ omega arith
      ]
  shaped_number s _ (Commits a) =
      rw (quiet.commit a) (rw (quiet.inform s a true) (omega arith))
  shaped_number s _ (Aborts a) =
      rw (quiet.abort a) (rw (quiet.inform s a false) (omega arith))

  module _ (objects : List ObjectDecl) (s : ℕ) where
    abbrev number_in : List Received → ℕ
    number_in own = number_of test (deeds_of (map as_carried own))

    -- one more event adds one at most
    step_number : (own : List Received) (c : Received) → IsStepOf objects s own c
        → number_in (c ∷ own) ≤ number_in own + 1
    step_number own c step =
        let brought : Knowledge = told_in_order c.load.know in
        let L : List Deed = deeds_of (map as_carried own) in
        let first : List Deed = held_informs objects s (map as_carried own) brought in
        let g = held_sight objects s (map as_carried own) brought in
        let ds : List Deed = (rule objects g c.mail step.input).deeds in
        let whole : number_in (c ∷ own) ≡ number_of test L + number_of test ds =
        ap (λ (e : Event). number_of test (after L e.deeds)) step.is_next
        ∙ ap (number_of test) (after_append L first ds)
        ∙ number_after ds (after L first)
        ∙ ap (λ (n : ℕ). n + number_of test ds)
        (keep_informs (number_of test) (λ r a o M. rw (quiet.inform r a o) refl) s
        (new_aborts brought (held objects (map as_carried own)))
        (new_commits brought (held objects (map as_carried own))) L) in
        let few = shaped_number s ds (rules_are_shaped objects g c.mail step.input) in
        omega (arith, whole, few)

    -- so there are no more of them than events
    pub own_number : (own : List Received) → IsLawful objects s own → number_in own ≤ length own
    own_number [] lawful = omega arith
    own_number (c ∷ own) lawful =
        let one = step_number own c lawful.0 in
        let rest = own_number own lawful.1 in
        omega (arith, one, rest)
