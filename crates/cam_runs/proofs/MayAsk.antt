-- A request by the body of an action that is idle at its home is not refused.
use Rattle.std.proofs.Common.{◌≡◌, ℕ, Bool, true, false, not, ◌||◌, List, length, Option, Some, None, is_some, refl, sym, ap, ◌∙◌, arith}
use Rattle.std.specs.Prelude.{nat_le, nat_lt}
use Rattle.std.proofs.lemmas.Bool.{eqb-true, le-ltb}
use Rattle.cam_names.specs.declared.name.Name.{Name}
use Rattle.cam_names.specs.Names.{is_ancestor, home_node, home_count}
use Rattle.cam_type.specs.declared.ObjectDecl.{ObjectDecl}
use Rattle.cam_event.specs.declared.Event.{Event}
use Rattle.cam_event.specs.declared.LineRefusal.{LineRefusal}
use Rattle.cam_event.specs.declared.LineRefusal.TheVariants as refusals
use Rattle.cam_event.specs.declared.Want.{Want}
use Rattle.cam_event.specs.declared.Want.TheVariants as wants
use Rattle.cam_event.specs.declared.Deed.{Deed}
use Rattle.cam_event.specs.History.{created, ended, is_empty}
use Rattle.cam_event.specs.Pasts.{plain_all, every}
use Rattle.cam_event.specs.Sights.{Sight, present, is_present}
use Rattle.cam_event.specs.ByPast.{first_informs, sight}
use Rattle.cam_event.specs.Refusals.{first_of_two, where_so, has_ended, has_call, has_child, is_not_open, refusal}
use Rattle.cam_cut.proofs.LegalFacts.{asks_children}
use Rattle.cam_cut.proofs.OpenChildren.{all_children}
use Rattle.cam_cut.proofs.Sees.{Sees}
use Rattle.cam_cut.proofs.Holds.{RunHolds, every_part}
use Rattle.cam_cut.proofs.Parts.{base_of, with_first, first_is}
use Rattle.cam_cut.proofs.SeesRun.{sees_so}
use Rattle.cam_runs.proofs.OneEvent.{informs_idle}
use Rattle.cam_runs.specs.UnderWay.{Idle}

-- two tests of which neither stands against a request
pub first_two : (one other : Option LineRefusal) → first_of_two one other ≡ None → (one ≡ None) × (other ≡ None)
first_two None other h = (refl, h)
first_two (Some r) other h = cc

-- An idle action has no call and no child open at its home.
pub idle_here : (objects : List ObjectDecl) (t : List Event) (a : Name) → RunHolds objects t → is_ancestor a a ≡ true → Idle (plain_all t) a → (has_call (sight objects t (home_node a) None) a ≡ None) × (has_child (sight objects t (home_node a) None) a ≡ None)
idle_here objects t a run named idle = (
  ap (λ o. where_so (is_some o) refusals.OpenCall) (sees.same_call a refl ∙ there.no_call),
  ap (λ xs. where_so (not (is_empty xs)) refusals.OpenChild) (sym (all_children g.deeds a (λ p b i. asks_children objects W sees.legal p b (sees.own_fewer _ i))) ∙ sees.same_children a refl named ∙ all_children W a (asks_children objects W sees.legal) ∙ there.no_child),
)
  where
    s : ℕ
    s = home_node a

    g : Sight
    g = sight objects t s None

    W : List Deed
    W = with_first t s None (plain_all t)

    sees : Sees objects (sight objects t s None) (with_first t s None (base_of t s None)) W
    sees = sees_so objects t s None every run tt (every_part t s None)

    there : Idle W a
    there = informs_idle s a (first_informs t s None) (plain_all t) (first_is t s None) idle

-- So a request is not refused that is no giving up, and no Ask too deep.
abbrev pub MayAskFor : Name → Want → Type 0
MayAskFor a (wants.Ask m) = nat_le 8 (length a) ≡ false
MayAskFor a (wants.Call x op) = Unit {0}
MayAskFor a (wants.Commit v) = Unit {0}
MayAskFor a wants.Abort = Unit {0}
MayAskFor a (wants.GiveUp b) = ⊥

pub idle_may : (g : Sight) (a : Name) (want : Want) → MayAskFor a want → has_ended g a ≡ None → is_not_open g a ≡ None → has_call g a ≡ None → has_child g a ≡ None → refusal g a want ≡ None
idle_may g a (wants.Ask m) may e o c k = ap (λ x. first_of_two x (first_of_two (has_call g a) (first_of_two (is_not_open g a) (deep (nat_le 8 (length a)))))) e
    ∙ ap (λ x. first_of_two x (first_of_two (is_not_open g a) (deep (nat_le 8 (length a))))) c
    ∙ ap (λ x. first_of_two x (deep (nat_le 8 (length a)))) o
    ∙ ap deep may
  where
    deep : Bool → Option LineRefusal
    deep b = where_so b refusals.TooDeep
idle_may g a (wants.Call x op) may e o c k =
    ap (λ r. first_of_two r (first_of_two (has_call g a) (first_of_two (has_child g a) (is_not_open g a)))) e
    ∙ ap (λ r. first_of_two r (first_of_two (has_child g a) (is_not_open g a))) c
    ∙ ap (λ r. first_of_two r (is_not_open g a)) k ∙ o
idle_may g a (wants.Commit v) may e o c k =
    ap (λ r. first_of_two r (first_of_two (has_call g a) (first_of_two (has_child g a) (is_not_open g a)))) e
    ∙ ap (λ r. first_of_two r (first_of_two (has_child g a) (is_not_open g a))) c
    ∙ ap (λ r. first_of_two r (is_not_open g a)) k ∙ o
idle_may g a wants.Abort may e o c k = ap (λ r. first_of_two r (is_not_open g a)) e ∙ o
idle_may g a (wants.GiveUp b) may e o c k = absurd may

-- what may go has not ended and is there
pub going : (g : Sight) (a : Name) → created g.deeds a ≡ true → ended g.deeds a ≡ false → is_present g a ≡ true → (has_ended g a ≡ None) × (is_not_open g a ≡ None)
going g a made running here = (
  ap (λ b. where_so (b || nat_lt (home_count a) (present g)) refusals.Ended) running
      ∙ ap (λ b. where_so b refusals.Ended) (le-ltb (home_count a) (present g) (omega (arith, eqb-true (home_count a) (present g) here))),
  ap (λ b. where_so (not b) refusals.NotOpen) made,
)
