-- Plays of two runs whose halts differ at one input.
use Rattle.std.proofs.Common.{◌≡◌, ℕ, zero, suc, Bool, true, false}
use Rattle.std.proofs.Common.{not, if◌then◌else◌, List, [], ◌∷◌}
use Rattle.std.proofs.Common.{refl, sym, ap, subst}
use Rattle.std.specs.Prelude.{nat_lt}
use Rattle.std.proofs.lemmas.Bool.{and_parts}
use Rattle.cam_names.specs.declared.name.Name.{Name}
use Rattle.cam_names.specs.Names.{home_node}
use Rattle.cam_type.specs.declared.ObjectDecl.{ObjectDecl}
use Rattle.cam_event.specs.declared.Deed.{Deed}
use Rattle.cam_event.specs.declared.Event.{Event}
use Rattle.cam_event.specs.Readings.{by_knowledge}
use Rattle.cam_script.specs.declared.Statement.{Statement}
use Rattle.cam_cut.proofs.Places.{AllPlaced}
use Rattle.cam_runs.specs.Running.{has_number}
use Rattle.cam_runs.specs.Requests.{home_sight}
use Rattle.cam_runs.specs.Playing.{may_go, in_order}
use Rattle.cam_runs.specs.Halts.{accepted, Halting}
use Rattle.cam_runs.specs.Standing.{Standing, Setting}
use Rattle.cam_runs.specs.Standing.{drain}
use Rattle.cam_runs.specs.HaltedPlaying.{go, may_go_on}
use Rattle.cam_runs.specs.HaltedPlaying.{go_in_round, round, rounds}
use Rattle.cam_histories.specs.InputLaws.{held_setting}
use Rattle.cam_histories.specs.Found.{DifferAt}
use Rattle.cam_histories.proofs.Trails.{Trail, names_trail}
use Rattle.cam_histories.proofs.Trails.{drain_trail, rounds_trail, if_trail}
use Rattle.cam_histories.proofs.Beside.{Goes, Leads, leads_back}
use Rattle.cam_histories.proofs.FoundEdits.{shared}
use Rattle.cam_histories.proofs.FoundDrains.{drain_goes}
use Rattle.cam_histories.proofs.FoundViews.{may_named}
use Rattle.cam_histories.proofs.FoundGoing.{go_goes, may_goes}

module _ (objects : List ObjectDecl) (losing taking : Halting) (k : ℕ)
    (P : ℕ → List Event → Event → Type 0) (differ : DifferAt k losing taking) (line : ℕ)
    (restarted : ℕ → Bool)
    (F : List Event) (H : List Deed) (placed : AllPlaced objects H F)
    (bodies : List (List Statement))
  where
    abbrev first : Setting
    first = held_setting objects losing line restarted

    abbrev second : Setting
    second = held_setting objects taking line restarted

    not_so : (b : Bool) → not b ≡ true → b ≡ false
    not_so true h = cc
    not_so false h = refl

    names_go : (names : List Name) (st there : Standing) → Goes objects k P st there
        → Leads F (go_in_round second bodies names there)
        → Goes objects k P (go_in_round first bodies names st)
        (go_in_round second bodies names there)
    names_go [] st there goes leads = goes
    names_go (a ∷ more) st there goes leads =
        names_go more (if may_go_on first st a then go first bodies st a else st)
        (if may_go_on second there a then go second bodies there a else there)
        (subst (λ b. Leads F (if b then go second bodies there a else there)
        → Goes objects k P (if may_go_on first st a then go first bodies st a else st)
        (if b then go second bodies there a else there))
        (sym (may_goes objects losing taking k P differ line restarted F H placed bodies st there a
        goes)) (by (may_go_on first st a) refl)
        (leads_back F (if may_go_on second there a then go second bodies there a else there)
        (go_in_round second bodies (a ∷ more) there)
        (names_trail second bodies more
        (if may_go_on second there a then go second bodies there a else there)) leads))
        leads
      where
        by : (b : Bool) → may_go_on first st a ≡ b
            → Leads F (if b then go second bodies there a else there)
            → Goes objects k P (if b then go first bodies st a else st)
            (if b then go second bodies there a else there)
        by true may leads =
            let parts = and_parts (may_go (home_sight (by_knowledge objects) st.running a)
            st.running a)
            (not (has_number st.halted (home_node a))) may in
            go_goes objects losing taking k P differ line restarted F H placed bodies st there a
            (may_named (home_sight (by_knowledge objects) st.running a) st.running a parts.0)
            (not_so (has_number st.halted (home_node a)) parts.1) goes leads
        by false may leads = goes

    round_goes : (st there : Standing) → Goes objects k P st there
        → Leads F (round second bodies there)
        → Goes objects k P (round first bodies st) (round second bodies there)
    round_goes st there goes =
        subst (λ ns. Leads F (drain second (go_in_round second bodies ns there))
        → Goes objects k P (round first bodies st)
        (drain second (go_in_round second bodies ns there)))
        (ap in_order (sym (shared objects k P st there goes).bodies))
        (λ leads. drain_goes objects losing taking k P differ line restarted F H placed
        (go_in_round first bodies names st) (go_in_round second bodies names there)
        (names_go names st there goes
        (leads_back F (go_in_round second bodies names there)
        (drain second (go_in_round second bodies names there))
        (drain_trail second (go_in_round second bodies names there)) leads))
        leads)
      where
        names : List Name
        names = in_order st.running.bodies

    pub rounds_go : (n : ℕ) (st there : Standing) → Goes objects k P st there
        → Leads F (rounds second bodies n there)
        → Goes objects k P (rounds first bodies n st) (rounds second bodies n there)
    rounds_go zero st there goes leads = goes
    rounds_go (suc n) st there goes leads =
        subst (λ c. Leads F (if c then rounds second bodies n found else found)
        → Goes objects k P (rounds first bodies (suc n) st)
        (if c then rounds second bodies n found else found))
        (sym counts) (by (nat_lt (accepted st.turns) (accepted lost.turns))
        (rounds_go n lost found next)) leads
      where
        lost : Standing
        lost = round first bodies st

        found : Standing
        found = round second bodies there

        last : Trail found (rounds second bodies (suc n) there)
        last = if_trail second (nat_lt (accepted there.turns) (accepted found.turns)) found
            (rounds second bodies n found) (rounds_trail second bodies n found)

        next : Goes objects k P lost found
        next = round_goes st there goes
            (leads_back F found (rounds second bodies (suc n) there) last leads)

        counts : nat_lt (accepted there.turns) (accepted found.turns)
            ≡ nat_lt (accepted st.turns) (accepted lost.turns)
        counts = λ i. nat_lt (accepted ((shared objects k P st there goes).turns i))
            (accepted ((shared objects k P lost found next).turns i))

        by : (c : Bool)
            → (Leads F (rounds second bodies n found)
            → Goes objects k P (rounds first bodies n lost) (rounds second bodies n found))
            → Leads F (if c then rounds second bodies n found else found)
            → Goes objects k P (if c then rounds first bodies n lost else lost)
            (if c then rounds second bodies n found else found)
        by true rest leads = rest leads
        by false rest leads = next
