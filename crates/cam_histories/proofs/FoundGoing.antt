-- Requests by bodies of two runs whose halts differ at one input.
use Rattle.std.proofs.Common.{◌≡◌, inl, inr, ℕ, Bool, true, false}
use Rattle.std.proofs.Common.{not, ◌&&◌, List, Option}
use Rattle.std.proofs.Common.{refl, sym, ap, ◌∙◌, subst}
use Rattle.cam_names.specs.declared.name.Name.{Name}
use Rattle.cam_names.specs.Names.{is_ancestor, home_node}
use Rattle.cam_type.specs.declared.ObjectDecl.{ObjectDecl}
use Rattle.cam_event.specs.declared.Deed.{Deed}
use Rattle.cam_event.specs.declared.Event.{Event}
use Rattle.cam_event.specs.declared.ViewStep.{ViewStep}
use Rattle.cam_event.specs.Inputs.{Requests}
use Rattle.cam_event.specs.Pasts.{plain_all}
use Rattle.cam_event.specs.Readings.{by_knowledge}
use Rattle.cam_event.specs.Views.{view}
use Rattle.cam_script.specs.declared.Statement.{Statement}
use Rattle.cam_body.specs.declared.Next.{Next}
use Rattle.cam_body.specs.declared.Next.TheVariants as nexts
use Rattle.cam_body.specs.Work.{next, child_body}
use Rattle.cam_cut.proofs.Places.{AllPlaced}
use Rattle.cam_runs.specs.Running.{has_number}
use Rattle.cam_runs.specs.Requests.{home_sight, asked_in}
use Rattle.cam_runs.specs.Playing.{body_of, may_go}
use Rattle.cam_runs.specs.Halts.{Halting}
use Rattle.cam_runs.specs.Standing.{Standing, Setting, made}
use Rattle.cam_runs.specs.HaltedPlaying.{given_body, requested, make_request, go, may_go_on}
use Rattle.cam_histories.specs.InputLaws.{held_setting}
use Rattle.cam_histories.specs.Found.{DifferAt}
use Rattle.cam_histories.proofs.Trails.{given_trail}
use Rattle.cam_histories.proofs.Beside.{Goes, Leads, leads_back}
use Rattle.cam_histories.proofs.FoundEdits.{shared, goes_edit, given_edits, other_awake}
use Rattle.cam_histories.proofs.FoundDrains.{PutOn, put_goes}
use Rattle.cam_histories.proofs.FoundViews.{view_same, may_same}

and_false : (b : Bool) → (b && false) ≡ false
and_false true = refl
and_false false = refl

module _ (objects : List ObjectDecl) (losing taking : Halting) (k : ℕ)
    (P : ℕ → List Event → Event → Type 0) (differ : DifferAt k losing taking) (line : ℕ)
    (restarted : ℕ → Bool)
    (F : List Event) (H : List Deed) (placed : AllPlaced objects H F)
    (bodies : List (List Statement))
  where
    abbrev first : Setting
    first = held_setting objects losing line restarted

    abbrev second : Setting
    second = held_setting objects taking line restarted

    make_goes : (st there : Standing) (a : Name) (child : Option ℕ) (n : Next)
        → has_number st.halted (home_node a) ≡ false → Goes objects k P st there
        → Leads F (make_request second there a child n)
        → Goes objects k P (make_request first st a child n) (make_request second there a child n)
    make_goes st there a child (nexts.Request want) awake goes leads =
        subst (λ x. Goes objects k P (given_body child (asked_in (made st lost)) lost)
        (given_body child x found)) (sym next.asked)
        (goes_edit objects k P (given_body child (asked_in (made st lost)))
        (given_edits child (asked_in (made st lost))) lost found next.goes)
      where
        lost : Standing
        lost = requested first st a want

        found : Standing
        found = requested second there a want

        next : PutOn objects losing taking k P differ line restarted F H placed st there lost found
        next = put_goes objects losing taking k P differ line restarted F H placed st there
            (Requests (record { action = a; want = want })) (λ p. refl) awake goes
            (leads_back F found (given_body child (asked_in (made there found)) found)
            (given_trail second child (asked_in (made there found)) found) leads)
    make_goes st there a child nexts.Wait awake goes leads = goes
    make_goes st there a child nexts.Over awake goes leads = goes

    abbrev seen : Standing → Name → List ViewStep
    seen st a = view (plain_all st.running.trace) a

    pub go_goes : (st there : Standing) (a : Name) → is_ancestor a a ≡ true
        → has_number st.halted (home_node a) ≡ false → Goes objects k P st there
        → Leads F (go second bodies there a)
        → Goes objects k P (go first bodies st a) (go second bodies there a)
    go_goes st there a named awake goes leads =
        subst (Goes objects k P (go first bodies st a)) (sym same)
        (make_goes st there a (child_body body (seen st a)) (next body (seen st a)) awake goes
        (subst (Leads F) same leads))
      where
        body : List Statement
        body = body_of bodies st.running a

        views : seen there a ≡ seen st a
        views = elim goes [
          | inl before ↦ ap (λ (x : Standing). seen x a) before.is_before.same
          | inr b ↦ view_same objects k st there a b.node b.before b.event b.beyond
              (other_awake objects k b.node b.before b.event st there (home_node a) b.beyond awake)
              named
        ]

        body_same : body_of bodies there.running a ≡ body
        body_same =
            ap (λ (ns : List (Name × ℕ)). body_of bodies (record st.running { bodies = ns }) a)
            (shared objects k P st there goes).bodies

        same : go second bodies there a
            ≡ make_request second there a (child_body body (seen st a)) (next body (seen st a))
        same = λ i. make_request second there a (child_body (body_same i) (views i))
            (next (body_same i) (views i))

    pub may_goes : (st there : Standing) (a : Name) → Goes objects k P st there
        → may_go_on second there a ≡ may_go_on first st a
    may_goes st there a (inl before) = ap (λ x. may_go_on second x a) before.is_before.same
    may_goes st there a (inr b) =
        ap (λ hs. may_go (home_sight (by_knowledge objects) there.running a) there.running a
        && not (has_number hs (home_node a))) (shared objects k P st there (inr b)).halted
        ∙ by (has_number st.halted (home_node a)) refl
      where
        by : (h : Bool) → has_number st.halted (home_node a) ≡ h
            → (may_go (home_sight (by_knowledge objects) there.running a) there.running a && not h)
            ≡ (may_go (home_sight (by_knowledge objects) st.running a) st.running a && not h)
        by true halted =
            and_false (may_go (home_sight (by_knowledge objects) there.running a) there.running a)
            ∙ sym (and_false (may_go (home_sight (by_knowledge objects) st.running a) st.running a))
        by false awake =
            ap (λ x. x && true)
            (may_same objects k st there a b.node b.before b.event b.beyond
            (other_awake objects k b.node b.before b.event st there (home_node a) b.beyond awake))
