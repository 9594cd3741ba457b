-- What the deeds of a rule add to what a node knows: an outcome, a secured family, or nothing.
use Rattle.std.proofs.Common.{◌≡◌, ◌⊎◌, inl, inr, ℕ, eqb, Bool, true, false, ◌||◌, List, [], ◌∷◌}
use Rattle.std.proofs.Common.{◌++◌, length, Option, refl, sym, ap, ◌∙◌, arith}
use Rattle.std.specs.List.{list_any}
use Rattle.std.proofs.lemmas.Bool.{eq-eqb, or_left, or_right, true≢false}
use Rattle.std.proofs.Math.ListN.{length-append}
use Rattle.cam_names.specs.declared.name.Name.{Name}
use Rattle.cam_names.specs.Names.{name_eq}
use Rattle.cam_names.proofs.Names.{name_eq_refl}
use Rattle.cam_type.specs.declared.ObjectDecl.{ObjectDecl}
use Rattle.cam_know.specs.declared.Outcome.{Outcome}
use Rattle.cam_know.specs.declared.Outcome.TheVariants.{Aborted, Committed}
use Rattle.cam_know.specs.Knowledge.{Knowledge}
use Rattle.cam_know.specs.Known.{knows_abort, knows_commit, is_abort_of, is_commit_of, both}
use Rattle.cam_know.proofs.Union.{any_both}
use Rattle.cam_event.specs.declared.Deed.{Deed}
use Rattle.cam_event.specs.declared.Deed.TheVariants.{Create, Ask, Call, Perform, Bounce, Got}
use Rattle.cam_event.specs.declared.Deed.TheVariants.{AskCommit, AskAbort, Commit, Abort, Secure}
use Rattle.cam_event.specs.declared.Deed.TheVariants.{Inform, Crash}
use Rattle.cam_event.specs.History.{is_crash, is_empty}
use Rattle.cam_event.specs.Inputs.{Mail}
use Rattle.cam_event.specs.Taken.{is_entered}
use Rattle.cam_event.specs.ByKnowledge.{learned_by, commit_counts}
use Rattle.cam_event.specs.Carried.{Carried}
use Rattle.cam_event.proofs.Members.{In}
use Rattle.cam_node.specs.LogOrder.{is_any_secure}
use Rattle.cam_node.specs.Shapes.{is_mute, IsShaped, Quiet, Single, Commits, Aborts}

-- a list with more after it is another
pub longer : {X : Type 0} (xs ys : List X) → is_empty ys ≡ false → xs ++ ys ≡ xs → ⊥
longer xs [] some same = true≢false some
longer xs (y ∷ ys) some same =
    let long = ap length same in
    let sum = length-append xs (y ∷ ys) in
    omega (arith, long, sum)

-- what some outcome passes after an event and none before
other_outcomes : (p : Outcome → Bool) (now then : List Outcome) → list_any p now ≡ true
    → list_any p then ≡ false → now ≡ then → ⊥
other_outcomes p now then some none same = true≢false (sym some ∙ ap (list_any p) same ∙ none)

-- What a rule's deeds add: an outcome, a secured family, or nothing, and then none is entered.
abbrev Added : List ObjectDecl → List Carried → Option Mail → Knowledge → Knowledge → List Deed
    → Type 0
Added objects h mail old k own =
    ((learned_by objects h mail k own).outcomes ≡ old.outcomes → ⊥)
    ⊎ ((list_any is_any_secure own ≡ true)
    ⊎ ((learned_by objects h mail k own ≡ k) × (list_any is_entered own ≡ false)))

module _ (objects : List ObjectDecl) (h : List Carried) (mail : Option Mail) (old told : Knowledge)
  where
    abbrev now : Knowledge
    now = both old told

    single_added : (d : Deed) → is_mute d ≡ true
        → ((m : ℕ) → list_any (is_crash m) (d ∷ []) ≡ false)
        → Added objects h mail old now (d ∷ [])
    single_added (Create a) mute stays = inr (inr (refl, refl))
    single_added (Ask a b) mute stays = inr (inr (refl, refl))
    single_added (Call a n x op c) mute stays = inr (inr (refl, refl))
    single_added (Perform a n r) mute stays = inr (inr (refl, refl))
    single_added (Bounce a n u) mute stays = inr (inr (refl, refl))
    single_added (Got a n seen) mute stays = inr (inr (refl, refl))
    single_added (AskCommit a v) mute stays = inr (inr (refl, refl))
    single_added (AskAbort a) mute stays = inr (inr (refl, refl))
    single_added (Secure f s c) mute stays = inr (inl refl)
    single_added (Crash s) mute stays =
        absurd (true≢false (sym (or_left (eqb s s) false (eq-eqb s s refl)) ∙ stays s))
    single_added (Commit a) mute stays = cc
    single_added (Abort a) mute stays = cc
    single_added (Inform s a o) mute stays = cc

    pub shaped_added : (s : ℕ) (own : List Deed) → IsShaped s own
        → ((m : ℕ) → list_any (is_crash m) own ≡ false)
        → ((a : Name) → In (Commit a) own → knows_commit old a ≡ false)
        → ((a : Name) → In (Abort a) own → knows_abort old a ≡ false)
        → Added objects h mail old now own
    shaped_added s own Quiet stays commits aborts = inr (inr (refl, refl))
    shaped_added s own (Single d mute) stays commits aborts = single_added d mute stays
    shaped_added s own (Commits a) stays commits aborts =
        let one : Knowledge = record {
          outcomes = Committed a (commit_counts objects h mail a) ∷ [];
          counts = now.counts;
        } in
        inl (other_outcomes (is_commit_of a) (both now one).outcomes old.outcomes
        (any_both (is_commit_of a) now one
        ∙ or_right (knows_commit now a) (name_eq a a || false)
        (or_left (name_eq a a) false (name_eq_refl a)))
        (commits a (inl refl)))
    shaped_added s own (Aborts a) stays commits aborts =
        let one : Knowledge = record { outcomes = Aborted a ∷ []; counts = now.counts } in
        inl (other_outcomes (is_abort_of a) (both now one).outcomes old.outcomes
        (any_both (is_abort_of a) now one
        ∙ or_right (knows_abort now a) (name_eq a a || false)
        (or_left (name_eq a a) false (name_eq_refl a)))
        (aborts a (inl refl)))
