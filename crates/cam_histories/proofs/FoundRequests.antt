-- Lines that put an input to a node in two runs whose halts differ at one input.
use Rattle.std.proofs.Common.{◌≡◌, ℕ, Bool, true, false, ◌||◌}
use Rattle.std.proofs.Common.{List, [], ◌∷◌, Option, None}
use Rattle.std.proofs.Common.{refl, sym, ap, ◌∙◌, subst, lt-ltb}
use Rattle.std.specs.Prelude.{nat_lt, slice_get, unwrap_or}
use Rattle.std.proofs.lemmas.Bool.{true≢false, or_parts}
use Rattle.cam_names.specs.declared.name.Name.{Name}
use Rattle.cam_names.specs.Names.{is_ancestor, home_node}
use Rattle.cam_names.proofs.Ancestry.{is_prefix_refl}
use Rattle.cam_type.specs.declared.ObjectDecl.{ObjectDecl}
use Rattle.cam_event.specs.declared.Deed.{Deed}
use Rattle.cam_event.specs.declared.Event.{Event}
use Rattle.cam_event.specs.declared.LineRefusal.{LineRefusal}
use Rattle.cam_event.specs.declared.LineRefusal.TheVariants as refusals
use Rattle.cam_event.specs.declared.Want.{Want}
use Rattle.cam_event.specs.History.{ended}
use Rattle.cam_event.specs.Inputs.{node_of}
use Rattle.cam_event.specs.Inputs.{Input, Begins, Requests}
use Rattle.cam_event.specs.Readings.{Reading, by_knowledge}
use Rattle.cam_event.specs.Refusals.{refusal, first_of_two, where_so}
use Rattle.cam_event.specs.Refusals.{has_ended, has_call, has_child, is_not_open}
use Rattle.cam_event.specs.Sights.{Sight, present}
use Rattle.cam_cut.proofs.BeginGood.{count_one}
use Rattle.cam_cut.proofs.Places.{AllPlaced}
use Rattle.cam_script.specs.declared.Statement.{Statement}
use Rattle.cam_runs.specs.Running.{has_number}
use Rattle.cam_runs.specs.Requests.{home_sight, created_in, variable}
use Rattle.cam_runs.specs.Playing.{go_refusal}
use Rattle.cam_runs.specs.Halts.{Halting}
use Rattle.cam_runs.specs.Standing.{Standing, Setting, put, made}
use Rattle.cam_runs.specs.HaltedLines.{Led, unless, of_variable, is_halted}
use Rattle.cam_runs.specs.HaltedLines.{halted_or, led_creating, led_asking, take_request}
use Rattle.cam_runs.specs.HaltedPlaying.{given_body, requested, go}
use Rattle.cam_runs.proofs.HaltedParts.{awake_by}
use Rattle.cam_runs.proofs.MayAsk.{first_two}
use Rattle.cam_histories.specs.InputLaws.{held_setting}
use Rattle.cam_histories.specs.PutIn.{moved_input}
use Rattle.cam_histories.specs.Found.{DifferAt}
use Rattle.cam_histories.proofs.PutIn.{refusal_alone}
use Rattle.cam_histories.proofs.Trails.{given_trail}
use Rattle.cam_histories.proofs.Beside.{Goes, leads_back}
use Rattle.cam_histories.proofs.FoundEdits.{shared, goes_edit, given_edits}
use Rattle.cam_histories.proofs.FoundDrains.{PutOn, put_goes}
use Rattle.cam_histories.proofs.FoundViews.{home_same}
use Rattle.cam_histories.proofs.FoundGoing.{go_goes}
use Rattle.cam_histories.proofs.FoundPassed.{PassLeads, PassGoes}
use Rattle.cam_histories.proofs.FoundTests.{unless_goes, variable_goes, test_same}

-- a name that may go is one
where_none : (b : Bool) (r : LineRefusal) → where_so b r ≡ None → b ≡ false
where_none true r h = cc
where_none false r h = refl

go_named : (g : Sight) (a : Name) → go_refusal g a ≡ None → is_ancestor a a ≡ true
go_named g (p ∷ a) none = is_prefix_refl (p ∷ a)
go_named g [] none =
    let running = where_none (ended g.deeds [] || nat_lt 0 (present g)) refusals.Ended
    (first_two (has_ended g []) (first_of_two (has_call g []) (first_of_two (has_child g [])
    (is_not_open g []))) none).0 in
    absurd (true≢false (sym (lt-ltb 0 (present g) (count_one g.deeds g.node))
    ∙ (or_parts (ended g.deeds []) (nat_lt 0 (present g)) running).1))

module _ (objects : List ObjectDecl) (losing taking : Halting) (k : ℕ)
    (P : ℕ → List Event → Event → Type 0) (differ : DifferAt k losing taking) (line : ℕ)
    (restarted : ℕ → Bool)
    (F : List Event) (H : List Deed) (placed : AllPlaced objects H F)
    (bodies : List (List Statement)) (st there : Standing) (goes : Goes objects k P st there)
  where
    abbrev one : Setting
    one = held_setting objects losing line restarted

    abbrev other : Setting
    other = held_setting objects taking line restarted

    pub creating_goes : (body : Option ℕ) (s : ℕ) → is_halted st s ≡ None
        → PassLeads F (led_creating body there (put other there (Begins s)))
        → PassGoes objects k P (led_creating body st (put one st (Begins s)))
        (led_creating body there (put other there (Begins s)))
    creating_goes body s awake leads = (
      subst (λ x. Goes objects k P (given_body body (created_in (made st lost)) lost)
          (given_body body x found)) (sym next.created)
          (goes_edit objects k P (given_body body (created_in (made st lost)))
          (given_edits body (created_in (made st lost))) lost found next.goes),
      next.created,
    )
      where
        lost : Standing
        lost = put one st (Begins s)

        found : Standing
        found = put other there (Begins s)

        next : PutOn objects losing taking k P differ line restarted F H placed st there lost found
        next = put_goes objects losing taking k P differ line restarted F H placed st there
            (Begins s)
            (λ p. refl) (awake_by st s awake) goes
            (leads_back F found (given_body body (created_in (made there found)) found)
            (given_trail other body (created_in (made there found)) found) leads)

    -- an input that no letter brings, of a node that is awake
    pub plain_goes : (input : Input) → ((p : ℕ) → moved_input p input ≡ input)
        → has_number st.halted (node_of st.running.trace input) ≡ false
        → PassLeads F (Led (put other there input) None)
        → PassGoes objects k P (Led (put one st input) None) (Led (put other there input) None)
    plain_goes input stays awake leads = (
      (put_goes objects losing taking k P differ line restarted F H placed st there input stays
          awake
          goes leads).goes,
      refl,
    )

    pub request_goes : (a : Name) (want : Want) → PassLeads F (take_request other there a want)
        → PassGoes objects k P (take_request one st a want) (take_request other there a want)
    request_goes a want leads =
        unless_goes objects k P F
        (halted_or st (home_node a) (refusal (home_sight reading st.running a) a want))
        (halted_or there (home_node a) (refusal (home_sight reading there.running a) a want))
        (test_same objects k P F st there (home_node a)
        (λ x. refusal (home_sight reading x.running a) a want) goes
        (λ b off. refusal_alone (home_sight reading there.running a) a want
        ∙ ap (λ g. refusal g a want)
        (home_same objects k st there a b.node b.before b.event b.beyond off)
        ∙ sym (refusal_alone (home_sight reading st.running a) a want)))
        (led_asking st (requested one st a want)) (led_asking there (requested other there a want))
        leads
        (λ none more.
        let tests = first_two (is_halted st (home_node a))
        (refusal (home_sight reading st.running a) a want) none in
        let next = put_goes objects losing taking k P differ line restarted F H placed st there
        (Requests (record { action = a; want = want })) (λ p. refl)
        (awake_by st (home_node a) tests.0) goes more in
        (next.goes, next.asked))
      where
        reading : Reading
        reading = by_knowledge objects

    pub bound_same : (v : ℕ) → variable there.running v ≡ variable st.running v
    bound_same v =
        ap (λ bs. unwrap_or (slice_get bs v) None) (shared objects k P st there goes).bound

    pub asking_goes : (v : ℕ) (want : Want)
        → PassLeads F (of_variable (variable there.running v)
        (λ a. take_request other there a want))
        → PassGoes objects k P (of_variable (variable st.running v)
        (λ a. take_request one st a want))
        (of_variable (variable there.running v) (λ a. take_request other there a want))
    asking_goes v want leads =
        variable_goes objects k P F (variable st.running v) (variable there.running v)
        (bound_same v)
        (λ a. take_request one st a want) (λ a. take_request other there a want) leads
        (λ a. request_goes a want)

    pub going_goes : (a : Name)
        → PassLeads F (unless (halted_or there (home_node a)
        (go_refusal (home_sight (by_knowledge objects) there.running a) a))
        (Led (go other bodies there a) None))
        → PassGoes objects k P (unless (halted_or st (home_node a)
        (go_refusal (home_sight (by_knowledge objects) st.running a) a))
        (Led (go one bodies st a) None))
        (unless (halted_or there (home_node a)
        (go_refusal (home_sight (by_knowledge objects) there.running a) a))
        (Led (go other bodies there a) None))
    going_goes a leads =
        unless_goes objects k P F
        (halted_or st (home_node a) (go_refusal (home_sight reading st.running a) a))
        (halted_or there (home_node a) (go_refusal (home_sight reading there.running a) a))
        (test_same objects k P F st there (home_node a)
        (λ x. go_refusal (home_sight reading x.running a) a) goes
        (λ b off. ap (λ g. go_refusal g a)
        (home_same objects k st there a b.node b.before b.event b.beyond off)))
        (Led (go one bodies st a) None) (Led (go other bodies there a) None) leads
        (λ none more.
        let tests = first_two (is_halted st (home_node a))
        (go_refusal (home_sight reading st.running a) a) none in (
          go_goes objects losing taking k P differ line restarted F H placed bodies st there a
              (go_named (home_sight reading st.running a) a tests.1)
              (awake_by st (home_node a) tests.0) goes more,
          refl,
        ))
      where
        reading : Reading
        reading = by_knowledge objects
