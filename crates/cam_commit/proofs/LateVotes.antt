-- A vote that comes late counts for no family: what is preparing is of the present count, and what is undecided after it no letter told.
use Rattle.std.proofs.Common.{inl, inr, ◌≡◌, ℕ, Bool, true, false, not, ◌&&◌, List, ◌∷◌, sym, ap, subst, ◌∙◌, refl}
use Rattle.std.proofs.lemmas.Bool.{true≢false, or_cases, eq-eqb}
use Rattle.cam_names.specs.declared.name.Name.{Name}
use Rattle.cam_names.specs.Names.{name_eq, home_count}
use Rattle.cam_names.specs.Dependencies.{has_pair}
use Rattle.cam_names.proofs.Names.{name_eq_same}
use Rattle.cam_type.specs.declared.ObjectDecl.{ObjectDecl}
use Rattle.cam_know.specs.Knowledge.{Knowledge}
use Rattle.cam_know.specs.Known.{new_aborts, new_commits}
use Rattle.cam_event.specs.declared.Body.{Body}
use Rattle.cam_event.specs.declared.Body.TheVariants as bodies
use Rattle.cam_event.specs.declared.LetterId.{LetterId}
use Rattle.cam_event.specs.Inputs.{Mail}
use Rattle.cam_event.specs.Sights.{Sight, present, is_present, knows_outcome, yes_in}
use Rattle.cam_event.specs.ByKnowledge.{held, held_sight, held_informs}
use Rattle.cam_event.specs.Carried.{Carried, deeds_of}
use Rattle.cam_event.proofs.Agree.{count_after_other}
use Rattle.cam_commit.specs.Families.{Families, IsUndecided, CommitsFamilies}
use Rattle.cam_commit.specs.Events.{CountsNone}
use Rattle.cam_commit.specs.Steps.{is_late}
use Rattle.cam_commit.specs.Stepping.{ArePresent, received}
use Rattle.cam_commit.proofs.Knowing.{was_undecided, untold}
use Rattle.cam_commit.proofs.Calling.{vote_pair}
use Rattle.cam_commit.proofs.StepKinds.{informs_crash_none}

and_none : (a : Bool) → (a && false) ≡ false
and_none true = refl
and_none false = refl

pub late_counts_none : (objects : List ObjectDecl) (s : ℕ) (before : List Carried) (letter : LetterId) (mail : Mail) (brought : Knowledge)
    (f : Name) (n : ℕ) (agrees : Bool) (old : Families) → mail.body ≡ bodies.Vote f n agrees → ArePresent s before → CommitsFamilies objects s before old
    → is_late (held_sight objects s before brought) f ≡ true → CountsNone objects before (received objects s before letter mail brought) old
late_counts_none objects s before letter mail brought f n agrees old at here commits late h m k undecided preparing = by (name_eq f h) refl
  where
    c : Carried
    c = received objects s before letter mail brought

    g : Sight
    g = held_sight objects s before brought

    present_is : IsUndecided objects (c ∷ before) f → old.is_preparing f ≡ true → is_present g f ≡ true
    present_is u p =
        eq-eqb (home_count f) (present g)
        (here f (sym (commits.preparing f (was_undecided objects before c f u)) ∙ p)
        ∙ sym (count_after_other (held_informs objects s before brought) (deeds_of before) s
        (informs_crash_none s (new_aborts brought (held objects before)) (new_commits brought (held objects before)))))

    in_time : IsUndecided objects (c ∷ before) f → old.is_preparing f ≡ true → ⊥
    in_time u p =
        elim (or_cases (not (is_present g f)) (knows_outcome g f) late) [
          | inl past ↦ true≢false (sym past ∙ ap not (present_is u p))
          | inr known ↦ true≢false (sym known ∙ untold objects before c f u)
        ]

    by : (same : Bool) → name_eq f h ≡ same → has_pair (yes_in h mail.from mail.body) m k ≡ false
    by false other = ap (λ (b : Body). has_pair (yes_in h mail.from b) m k) at ∙ vote_pair f h mail.from n m k agrees false other ∙ and_none agrees
    by true same =
        let e = name_eq_same f h same in
        absurd (in_time (subst (λ (a : Name). IsUndecided objects (c ∷ before) a) (sym e) undecided) (subst (λ (a : Name). old.is_preparing a ≡ true) (sym e) preparing))
