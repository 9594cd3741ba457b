-- The actions that ask for something are kept, deed by deed.
use Rattle.std.proofs.Common.{◌≡◌, inl, inr, ℕ, ℤ, ◌+◌, ◌≤◌, Bool, true, false, ◌||◌, if◌then◌else◌}
use Rattle.std.proofs.Common.{List, [], ◌∷◌, Option, Some, None, refl, sym, ap, ◌∙◌, arith, cond}
use Rattle.std.specs.Prelude.{OnOk, Result, Ok, Err, is_some}
use Rattle.std.specs.Ordering.{is_eq}
use Rattle.std.specs.BTreeMap.{BTreeMap, get}
use Rattle.std.specs.BTreeSet.{BTreeSet, contains}
use Rattle.std.proofs.lemmas.Bool.{cases_Bool}
use Rattle.cam_names.specs.declared.name.Name.{Name}
use Rattle.cam_names.specs.Names.{name_cmp, name_eq}
use Rattle.cam_names.proofs.Names.{name_ties_back}
use Rattle.cam_event.specs.declared.Body.TheVariants as bodies
use Rattle.cam_event.specs.declared.Deed.{Deed}
use Rattle.cam_event.specs.declared.ViewStep.{ViewStep}
use Rattle.cam_event.specs.declared.Want.{Want}
use Rattle.cam_event.specs.History.{count, created, is_crash, is_create}
use Rattle.cam_event.specs.Inputs.{Mail}
use Rattle.cam_body.specs.declared.Next.{Next}
use Rattle.cam_body.specs.declared.Next.TheVariants as nexts
use Rattle.cam_tranman.specs.Actions.{MayRunHere}
use Rattle.cam_storm.specs.Own.{finish_value, own_step}
use Rattle.cam_storm_node.specs.declared.works.Work.{Work}
use Rattle.cam_storm_node.specs.Asking.{IsKept, IsNoted, asks, is_request}
use Rattle.cam_storm_node.specs.Works.{IsWanted, steps_for}
use Rattle.cam_storm_node.proofs.Requests.{gives}

pub on_ok : {T E : Type 0} (result : Result T E) (P Q : Type 0) → (P → Q) → OnOk result P
    → OnOk result Q
on_ok (Ok x) P Q f holds = f holds
on_ok (Err e) P Q f holds = tt

-- what is wanted is a request
pub wanted_some : (n : Next) (o : Option Want) → IsWanted n o → is_some o ≡ is_request n
wanted_some (nexts.Request want) o is = ap is_some is
wanted_some nexts.Wait o is = ap is_some is
wanted_some nexts.Over o is = ap is_some is

-- some letter has the value on a finish
pub some_mail : (finish : Option ℤ) → (mail : Option Mail) × (finish_value mail ≡ finish)
some_mail None = (None, refl)
some_mail (Some value) =
    (Some (record { from = 0; to = 0; body = bodies.Finish [] value [] }), refl)

module _ (s : ℕ) (L : List Deed) (d : Deed) (a : Name) where
  count_grows : count L s ≤ count (d ∷ L) s
  count_grows = elim (is_crash s d) as (λ b. count L s ≤ (if b then count L s + 1 else count L s)) [
    | true ↦ omega arith
    | false ↦ omega arith
  ]

  may_before : MayRunHere (d ∷ L) s a → MayRunHere L s a
  may_before may =
      let more = count_grows in
      let now = may.1 in
      (may.0, omega (arith, more, now))

  created_before : is_create a d ≡ false → created (d ∷ L) a ≡ true → created L a ≡ true
  created_before other made = sym (ap (λ (b : Bool). b || created L a) other) ∙ made

  -- a deed that gives no step of its view creates no action
  none_creates : (mail : Option Mail) → [] ≡ own_step mail a d → is_create a d ≡ false
  none_creates mail none =
      elim (cases_Bool (is_create a d)) [
        | inl is ↦ absurd (gives mail a d is (sym none))
        | inr other ↦ other
      ]

  pub kept_same : (mail : Option Mail) → [] ≡ own_step mail a d
      → (old new : BTreeMap Name Work) (before after : BTreeSet Name)
      → contains name_cmp after a ≡ contains name_cmp before a
      → get name_cmp new a ≡ get name_cmp old a → IsKept s L old before a
      → IsKept s (d ∷ L) new after a
  kept_same mail none old new before after same_asking same_work kept may made ask =
      same_asking
      ∙ kept (may_before may) (created_before (none_creates mail none) made)
      (sym (ap asks same_work) ∙ ask)

  -- a deed that gives a step to some action's view
  pub kept_noted : (mail : Option Mail) (b : Name) (step : ViewStep)
      → steps_for a (Some (b, step)) ≡ own_step mail a d
      → (old new : BTreeMap Name Work) (before after : BTreeSet Name)
      → IsNoted b old before new after → IsKept s L old before a
      → IsKept s (d ∷ L) new after a
  kept_noted mail b step given old new before after noted kept =
      elim (cases_Bool (name_eq a b)) [
        | inl same ↦ λ may made ask. (noted a).0 same ∙ ask
        | inr other ↦
            let none : [] ≡ own_step mail a d =
            sym (ap (λ (t : Bool). if t then step ∷ [] else []) other) ∙ given in
            let stays = (noted a).1 other in
            kept_same mail none old new before after stays.0 stays.1 kept
      ]

-- the table and the kept actions after a step was added to one action's view
pub is_noted : (old gone new : BTreeMap Name Work) (before after : BTreeSet Name) (b : Name)
    (work : Work) (asked : Bool)
    → ((q : Name) → get name_cmp gone q ≡ cond (is_eq (name_cmp b q)) None (get name_cmp old q))
    → ((q : Name)
    → get name_cmp new q ≡ cond (is_eq (name_cmp b q)) (Some work) (get name_cmp gone q))
    → ((q : Name) → contains name_cmp after q
    ≡ cond (is_eq (name_cmp b q)) asked (contains name_cmp before q))
    → asked ≡ asks (Some work) → IsNoted b old before new after
is_noted old gone new before after b work asked out put kept is a = (
  λ same.
      let here : is_eq (name_cmp b a) ≡ true = name_ties_back a b ∙ same in
      kept a ∙ ap (λ t. cond t asked (contains name_cmp before a)) here ∙ is
      ∙ sym (ap asks (put a ∙ ap (λ t. cond t (Some work) (get name_cmp gone a)) here)),
  λ other.
      let apart : is_eq (name_cmp b a) ≡ false = name_ties_back a b ∙ other in (
        kept a ∙ ap (λ t. cond t asked (contains name_cmp before a)) apart,
        put a ∙ ap (λ t. cond t (Some work) (get name_cmp gone a)) apart
            ∙ out a ∙ ap (λ t. cond t None (get name_cmp old a)) apart,
      ),
)
