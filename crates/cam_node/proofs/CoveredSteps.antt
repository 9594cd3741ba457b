-- What a step of a node does, and what its letter brings: its deeds go by what is known.
use Rattle.std.proofs.Common.{◌≡◌, inl, inr, ℕ, ◌+◌, ◌-◌, ◌≤◌, Bool, false, if◌then◌else◌, List, [], ◌∷◌, ◌++◌, map, length, Option, Some, None, refl, sym, ap, ◌∙◌, subst, arith, max}
use Rattle.std.specs.Prelude.{slice_index}
use Rattle.std.specs.List.{list_any}
use Rattle.std.proofs.lemmas.List.{get_or-set_same}
use Rattle.std.proofs.lemmas.Bool.{eq-eqb}
use Rattle.cam_names.specs.declared.name.Name.{Name}
use Rattle.cam_type.specs.declared.ObjectDecl.{ObjectDecl}
use Rattle.cam_know.specs.Knowledge.{Knowledge}
use Rattle.cam_know.specs.Known.{nothing, known_count, new_aborts, new_commits, with_count}
use Rattle.cam_know.specs.Order.{told_in_order}
use Rattle.cam_event.specs.declared.Event.{Event}
use Rattle.cam_event.specs.declared.Deed.{Deed}
use Rattle.cam_event.specs.declared.Deed.TheVariants.{Crash}
use Rattle.cam_event.specs.History.{after, count, is_crash}
use Rattle.cam_event.specs.Inputs.{Input, Begins, Requests, Receives, Tells, Queries, Restarts, Mail}
use Rattle.cam_event.specs.Sights.{Sight, present}
use Rattle.cam_event.specs.Rules.{informs, rule}
use Rattle.cam_event.specs.ByKnowledge.{held, held_sight, learned_by}
use Rattle.cam_event.specs.Carried.{Carried, deeds_of}
use Rattle.cam_event.specs.Loads.{Load}
use Rattle.cam_event.specs.ByDeltas.{Received, as_carried}
use Rattle.cam_event.proofs.Agree.{count_after_other}
use Rattle.cam_event.proofs.Members.{In, in_append}
use Rattle.cam_cut.proofs.Informs.{IsInformAt, after_append, in_informs, keep_informs}
use Rattle.cam_commit.specs.Steps.{is_restarting}
use Rattle.cam_commit.proofs.StepKinds.{steps_are_of_kind}
use Rattle.cam_node.specs.Lawful.{HasNone, MayBePut, IsStepOf}
use Rattle.cam_node.proofs.SoundHistories.{step_for_it}
use Rattle.cam_node.proofs.KnownDeeds.{IsKnownDeed, AreKnownDeeds, rule_is_known}
use Rattle.cam_node.proofs.Covered.{Brings, learned_grow}

-- what is put to a node, and what its letter brings
none_brought : (objects : List ObjectDecl) (s : ℕ) (mail : Option Mail) (load : Load)
    → HasNone mail load → Brings objects s mail load
none_brought objects s None load has = has.1
none_brought objects s (Some m) load has = absurd (not_none has.0)
  where
    not_none : Some m ≡ None → ⊥
    not_none e = cc

brings : (objects : List ObjectDecl) (s : ℕ) (g : Sight) (input : Input) (mail : Option Mail)
    (load : Load) → MayBePut objects s g input mail load → Brings objects s mail load
brings objects s g (Begins m) mail load may = none_brought objects s mail load may.1
brings objects s g (Requests r) mail load may = none_brought objects s mail load may.3
brings objects s g (Receives letter) None load may = absurd may
brings objects s g (Receives letter) (Some m) load may = may
brings objects s g (Tells m to) mail load may = none_brought objects s mail load may.3
brings objects s g (Queries m f) mail load may = none_brought objects s mail load may.2
brings objects s g (Restarts m) mail load may = none_brought objects s mail load may.1

-- The count of the node goes by what it holds: without a crash,
pub none_counted : (objects : List ObjectDecl) (s : ℕ) (own : List Carried) (mail : Option Mail)
    (k : Knowledge) (ds : List Deed) → list_any (is_crash s) ds ≡ false
    → count (deeds_of own) s ≤ known_count k s
    → count (after (deeds_of own) ds) s ≤ known_count (learned_by objects own mail k ds) s
none_counted objects s own mail k ds none was =
    let same = count_after_other ds (deeds_of own) s none in
    let more = learned_grow objects own mail k ds s in omega (arith, was, same, more)

-- and with one.
learned_informs : (objects : List ObjectDecl) (own : List Carried) (mail : Option Mail)
    (k : Knowledge) (s : ℕ) (xs ds : List Deed) → ((d : Deed) → In d xs → IsInformAt s d)
    → learned_by objects own mail k (xs ++ ds) ≡ learned_by objects own mail k ds
learned_informs objects own mail k s [] ds is = refl
learned_informs objects own mail k s (x ∷ xs) ds is =
    ap (λ (d : Deed). learned_by objects own mail k (d ∷ (xs ++ ds))) (is x (inl refl)).is
    ∙ learned_informs objects own mail k s xs ds (λ d i. is d (inr i))

pub crash_counted : (objects : List ObjectDecl) (s : ℕ) (own : List Carried) (mail : Option Mail)
    (k : Knowledge) (xs ys : List Name) (ds : List Deed) → 1 ≤ s → s ≤ 8 → 8 ≤ length k.counts
    → ds ≡ informs s xs ys ++ Crash s ∷ []
    → count (after (deeds_of own) ds) s ≤ known_count (learned_by objects own mail k ds) s
crash_counted objects s own mail k xs ys ds low high long whole =
    omega (arith, counted, raised)
  where
    first : List Deed
    first = informs s xs ys

    counted : count (after (deeds_of own) ds) s ≡ count (deeds_of own) s + 1
    counted =
        ap (λ (l : List Deed). count (after (deeds_of own) l) s) whole
        ∙ ap (λ (L : List Deed). count L s) (after_append (deeds_of own) first (Crash s ∷ []))
        ∙ ap
        (λ (b : Bool). if b then count (after (deeds_of own) first) s + 1
        else count (after (deeds_of own) first) s) (eq-eqb s s refl)
        ∙ ap (λ (n : ℕ). n + 1)
        (keep_informs (λ L. count L s) (λ r a o L. refl) s xs ys (deeds_of own))

    learned_it : learned_by objects own mail k ds ≡ with_count s (count (deeds_of own) s + 1) k
    learned_it =
        ap (λ (l : List Deed). learned_by objects own mail k l) whole
        ∙ learned_informs objects own mail k s first (Crash s ∷ []) (λ d i. in_informs s xs ys d i)

    raised : known_count (learned_by objects own mail k ds) s ≡ max (slice_index k.counts (s - 1))
        (count (deeds_of own) s + 1)
    raised =
        ap (λ (l : Knowledge). known_count l s) learned_it
        ∙ get_or-set_same k.counts (s - 1)
        (max (slice_index k.counts (s - 1)) (count (deeds_of own) s + 1)) 0
        (omega (arith, low, high, long))

-- The deeds of a step,
deed_in : (objects : List ObjectDecl) (g : Sight) (d : Deed) (ds : List Deed)
    → AreKnownDeeds objects g ds → In d ds → IsKnownDeed objects g d
deed_in objects g d [] are i = absurd i
deed_in objects g d (e ∷ ds) are (inl same) =
    subst (IsKnownDeed objects g) (sym same) are.0
deed_in objects g d (e ∷ ds) are (inr i) = deed_in objects g d ds are.1 i

inform_is_known : (objects : List ObjectDecl) (g : Sight) (s : ℕ) (d : Deed) → IsInformAt s d
    → IsKnownDeed objects g d
inform_is_known objects g s d is = subst (IsKnownDeed objects g) (sym is.is) tt

module _ (objects : List ObjectDecl) (s : ℕ) (history : List Received) (c : Received)
    (step : IsStepOf objects s history c) where
  abbrev pub H : List Carried
  H = map as_carried history

  abbrev pub brought : Knowledge
  brought = told_in_order c.load.know

  abbrev pub g : Sight
  g = held_sight objects s H brought

  abbrev pub xs : List Name
  xs = new_aborts brought (held objects H)

  abbrev pub ys : List Name
  ys = new_commits brought (held objects H)

  deeds_are : c.event.deeds ≡ informs s xs ys ++ (rule objects g c.mail step.input).deeds
  deeds_are = ap (λ (e : Event). e.deeds) step.is_next

  pub step_deed : (d : Deed) → In d c.event.deeds → IsKnownDeed objects g d
  step_deed d i =
      elim (in_append (informs s xs ys) (rule objects g c.mail step.input).deeds d
      (subst (λ (l : List Deed). In d l) deeds_are i)) [
        | inl first ↦ inform_is_known objects g s d (in_informs s xs ys d first)
        | inr more ↦
            deed_in objects g d (rule objects g c.mail step.input).deeds
            (rule_is_known objects g c.mail step.input (step_for_it objects s history c step)) more
      ]

  pub present_is : present g ≡ count (deeds_of H) s
  present_is = keep_informs (λ L. count L s) (λ r a o L. refl) s xs ys (deeds_of H)

  pub step_brings : Brings objects s c.mail c.load
  step_brings = brings objects s (held_sight objects s H nothing) step.input c.mail c.load step.may

  pub no_crash : is_restarting step.input ≡ false → list_any (is_crash s) c.event.deeds ≡ false
  no_crash other =
      ap (λ (e : Event). list_any (is_crash s) e.deeds) step.is_next
      ∙ (steps_are_of_kind objects s H step.input c.mail brought).restarts ∙ other

  pub crash_is : (m : ℕ) → step.input ≡ Restarts m
      → c.event.deeds ≡ informs s xs ys ++ Crash s ∷ []
  crash_is m is =
      deeds_are
      ∙ ap (λ (i : Input). informs s xs ys ++ (rule objects g c.mail i).deeds) is
