-- On runs each test for orphans that a rule makes answers the same by either reading.
use Rattle.std.proofs.Common.{◌≡◌, inl, inr, ℕ, ℤ, true, false, not, ◌&&◌, List, Option, Some, None, refl, sym, ap, ◌∙◌, subst, arith}
use Rattle.std.specs.List.{list_any}
use Rattle.std.specs.Option.{option_map_or}
use Rattle.std.proofs.lemmas.Bool.{and_parts, or_parts, true≢false, false_from_ne_true, not-true}
use Rattle.cam_names.specs.declared.name.Name.{Name}
use Rattle.cam_names.specs.Names.{ancestors, is_ancestor, parent, home_node}
use Rattle.cam_names.specs.Dependencies.{pairs_of}
use Rattle.cam_type.specs.declared.ObjectDecl.{ObjectDecl}
use Rattle.cam_type.specs.declared.Op.{Op}
use Rattle.cam_event.specs.declared.Event.{Event}
use Rattle.cam_event.specs.declared.Body.{Body}
use Rattle.cam_event.specs.declared.Body.TheVariants as bodies
use Rattle.cam_event.specs.declared.Deed.{Deed}
use Rattle.cam_event.specs.History.{count, is_open_child, created, committed, aborted, ended, open_call, call_of, Addressed}
use Rattle.cam_event.specs.Live.{site_of}
use Rattle.cam_event.specs.Gained.{deps}
use Rattle.cam_event.specs.Pasts.{in_base}
use Rattle.cam_event.specs.Inputs.{Input, Begins, Requests, Receives, Tells, Queries, Restarts, Mail, letter_at, node_of, got_of, decider, decider_of}
use Rattle.cam_event.specs.Sights.{Sight, present, is_present, knows_outcome, kept_reply}
use Rattle.cam_event.specs.Rules.{with_home, is_number, decides_child}
use Rattle.cam_event.proofs.Members.{in_any}
use Rattle.cam_plain.specs.Lines.{replied}
use Rattle.cam_plain.proofs.Called.{call_stands}
use Rattle.cam_plain.proofs.Deciding.{committed_asked}
use Rattle.cam_plain.proofs.Performed.{created_named, called_created}
use Rattle.cam_cut.proofs.LegalFacts.{in_call, asked_commit_created}
use Rattle.cam_cut.proofs.DepsAgree.{created_known}
use Rattle.cam_cut.proofs.Sees.{BodyOk}
use Rattle.cam_cut.proofs.Tested.{sight_so}
use Rattle.cam_cut.proofs.DecideLines.{OpenHere, open_here}
use Rattle.cam_cut.proofs.Clear.{ancestors_in}
use Rattle.cam_cut.proofs.Parts.{keep_first}
use Rattle.cam_agree.specs.Orphan.{goes_by, AnswersSame, OwnSame, BodyTests, MailTests, OrphansAgree, RuleTests}
use Rattle.cam_agree.proofs.DepsPairs.{SamePairs}
use Rattle.cam_agree.proofs.DepsSays.{BodySays}
use Rattle.cam_agree.proofs.DepsSaid.{letters_say}
use Rattle.cam_agree.proofs.OrphanFacts.{base_at, told_at, Facts, facts, told_created, own_tested, own_same}
use Rattle.cam_agree.proofs.OrphanRequests.{requested_runs}
use Rattle.cam_agree.proofs.Ran.{Ran, plain_ran}
use Rattle.cam_event.specs.Runs.{MayCome}

-- a child's start
start_same : (objects : List ObjectDecl) (t : List Event) (input : Input) (from : ℕ) (b : Name) (counts : List ℕ) → Facts objects t input → BodyOk objects (base_at t input) from (node_of t input) (bodies.Start b counts) → BodySays objects (base_at t input) (bodies.Start b counts) → created (goes_by objects t input).deeds b ≡ false → AnswersSame objects t input b (with_home counts b)
start_same objects t input from b counts f ok says new =
    let fresh : created (base_at t input) b ≡ false = sym (told_created t input b) ∙ sym (f.sees.same_created b (sym ok.2)) ∙ new in
    f.same b (with_home counts b) (record {
      named = says.named;
      known = inl says.asked;
      uncommitted = false_from_ne_true (committed (base_at t input) b) (λ h. true≢false (sym (asked_commit_created objects (base_at t input) b f.legal (committed_asked objects (base_at t input) b f.legal h)) ∙ fresh));
      pairs = record { there = says.within; back = says.fresh fresh };
    })

-- a call that is no repeat
call_same : (objects : List ObjectDecl) (t : List Event) (input : Input) (from : ℕ) (a : Name) (n x : ℕ) (op : Op) (c : ℕ) (counts : List ℕ) → Facts objects t input → BodyOk objects (base_at t input) from (node_of t input) (bodies.Call a n x op c counts) → BodySays objects (base_at t input) (bodies.Call a n x op c counts)
    → c ≡ present (goes_by objects t input) → list_any (goes_by objects t input).knows_commit (ancestors a) ≡ false → kept_reply (goes_by objects t input).deeds a n ≡ None → AnswersSame objects t input a (pairs_of counts)
call_same objects t input from a n x op c counts f ok says now unheard none =
    f.same a (pairs_of counts) (record {
      named = named;
      known = created_known objects B a f.legal there;
      uncommitted = false_from_ne_true (committed B a) (λ h. true≢false (sym (in_any (goes_by objects t input).knows_commit (ancestors a) a (ancestors_in a a named) h) ∙ unheard));
      pairs = record { there = says.within; back = says.opened opened };
    })
  where
    B : List Deed
    B = base_at t input

    call : Addressed
    call = record { object = x; op = op; count = c }

    called : call_of B a n ≡ Some call
    called = in_call objects B a n x op c f.legal ok.0

    there : created B a ≡ true
    there = called_created objects B a n call f.legal called

    named : is_ancestor a a ≡ true
    named = created_named objects B a f.legal there

    keep_call : call_of (told_at t input) a n ≡ call_of B a n
    keep_call = keep_first (λ L. call_of L a n) (λ r b o L. refl) t (node_of t input) (got_of input) B

    keep_reply : replied (told_at t input) a n ≡ replied B a n
    keep_reply = keep_first (λ L. replied L a n) (λ r b o L. refl) t (node_of t input) (got_of input) B

    keep_count : count (told_at t input) (node_of t input) ≡ count B (node_of t input)
    keep_count = keep_first (λ L. count L (node_of t input)) (λ r b o L. refl) t (node_of t input) (got_of input) B

    at : c ≡ count (told_at t input) (node_of t input)
    at = now ∙ f.sees.same_count

    opened : open_call B a ≡ Some n
    opened = elim (call_stands objects B a n call f.legal called) [
      | inl o ↦ o
      | inr done ↦ elim done [
        | inl r ↦ absurd (true≢false (sym r ∙ sym keep_reply ∙ f.sees.fresh a n call none (keep_call ∙ called) (sym ok.1) at))
        | inr less ↦
            let same : count B (site_of objects x) ≡ c = ap (count B) (sym ok.1) ∙ sym keep_count ∙ sym at in
            absurd (omega (arith, less, same))
      ]
    ]

-- the parent of an open child, and the child with what its finish says
pub child_same : (objects : List ObjectDecl) (t : List Event) (input : Input) (p b : Name) → Facts objects t input → decides_child (goes_by objects t input) p b ≡ true → OwnSame objects t input p × OpenHere (goes_by objects t input) (told_at t input) p b
child_same objects t input p b f h =
    let g : Sight = goes_by objects t input in
    let one = and_parts (is_present g p && not (ended g.deeds p)) (is_open_child g.deeds p b) h in
    let two = and_parts (is_present g p) (not (ended g.deeds p)) one.0 in
    let here : OpenHere g (told_at t input) p b = open_here objects g (told_at t input) (told_at t input) p b (sight_so objects g (told_at t input) (told_at t input) f.sees) one.1 in
    (own_same objects t input p f here.home (f.sees.same_created p here.home ∙ here.there) (not-true (ended g.deeds p) two.1), here)

finish_same : (objects : List ObjectDecl) (t : List Event) (input : Input) (p b : Name) (v : ℤ) (counts : List ℕ) → Facts objects t input → BodySays objects (base_at t input) (bodies.Finish b v counts) → decides_child (goes_by objects t input) p b ≡ true → OwnSame objects t input p × AnswersSame objects t input b (pairs_of counts)
finish_same objects t input p b v counts f says h =
    let both = child_same objects t input p b f h in
    let there : created (base_at t input) b ≡ true = asked_commit_created objects (base_at t input) b f.legal says.asked in (
      both.0,
      f.same b (pairs_of counts) (record {
        named = created_named objects (base_at t input) b f.legal there;
        known = created_known objects (base_at t input) b f.legal there;
        uncommitted = sym (keep_first (λ L. committed L b) (λ r c o L. refl) t (node_of t input) (got_of input) (base_at t input)) ∙ (or_parts (committed (told_at t input) b) (aborted (told_at t input) b) both.1.undecided).0;
        pairs = subst (λ cs. SamePairs (pairs_of cs) (deps objects (base_at t input) b)) (sym says.final) (f.single b there);
      }),
    )

-- a top action that has finished
top_same : (objects : List ObjectDecl) (t : List Event) (input : Input) (b : Name) (v : ℤ) (counts : List ℕ) → Facts objects t input → node_of t input ≡ decider b → BodySays objects (base_at t input) (bodies.Finish b v counts) → parent b ≡ None → knows_outcome (goes_by objects t input) b ≡ false → OwnSame objects t input b
top_same objects t input b v counts f at says top unheard =
    let there : created (base_at t input) b ≡ true = asked_commit_created objects (base_at t input) b f.legal says.asked in
    let home : home_node b ≡ node_of t input = sym (at ∙ ap (decider_of b) top) in
    own_tested objects t input b f home (f.sees.same_created b home ∙ told_created t input b ∙ there)
    (or_parts (committed (base_at t input) b) (aborted (base_at t input) b) unheard).0

-- the tests of a letter's rule
body_tests : (objects : List ObjectDecl) (t : List Event) (input : Input) (from : ℕ) (body : Body) → Facts objects t input → BodyOk objects (base_at t input) from (node_of t input) body → BodySays objects (base_at t input) body → BodyTests objects t input body
body_tests objects t input from (bodies.Start b counts) f ok says = start_same objects t input from b counts f ok says
body_tests objects t input from (bodies.Call a n x op c counts) f ok says = call_same objects t input from a n x op c counts f ok says
body_tests objects t input from (bodies.Answer a n reply) f ok says = λ h.
    let g : Sight = goes_by objects t input in
    let one = and_parts (is_present g a && created g.deeds a && not (ended g.deeds a)) (is_number n (open_call g.deeds a)) h in
    let two = and_parts (is_present g a && created g.deeds a) (not (ended g.deeds a)) one.0 in
    let there : created g.deeds a ≡ true = (and_parts (is_present g a) (created g.deeds a) two.0).1 in
    own_same objects t input a f (f.sees.own_home a there) there (not-true (ended g.deeds a) two.1)
body_tests objects t input from (bodies.Finish b v counts) f ok says = (
  (λ p is h. finish_same objects t input p b v counts f says h),
  (λ top unheard. top_same objects t input b v counts f ok.1 says top unheard),
)
body_tests objects t input from (bodies.Quit b) f ok says = λ p is h. (child_same objects t input p b f h).0
body_tests objects t input from (bodies.Prepare g c) f ok says = tt
body_tests objects t input from (bodies.Vote g c agrees) f ok says = tt
body_tests objects t input from (bodies.Query g) f ok says = tt
body_tests objects t input from bodies.News f ok says = tt

pub ran_orphans : (objects : List ObjectDecl) (t : List Event) (input : Input) → Ran objects t → MayCome objects t input → RuleTests objects t input
ran_orphans objects t (Requests r) run may =
    let runs = requested_runs (goes_by objects t (Requests r)) r.action r.want may.0 in
    own_same objects t (Requests r) r.action (facts objects t (Requests r) run may) refl runs.0 runs.1
ran_orphans objects t (Receives letter) run may = by (letter_at t letter) refl
  where
    f : Facts objects t (Receives letter)
    f = facts objects t (Receives letter) run may

    by : (o : Option Mail) → letter_at t letter ≡ o → MailTests objects t (Receives letter) o
    by None e = tt
    by (Some mail) e =
        let at : mail.to ≡ node_of t (Receives letter) = sym (ap (λ o. option_map_or (λ (m : Mail). m.to) o 0) e) in
        body_tests objects t (Receives letter) mail.from mail.body f
        (subst (λ s. BodyOk objects (base_at t (Receives letter)) mail.from s mail.body) at (f.holds.letters letter mail e (in_base t (node_of t (Receives letter)) (Some letter)) f.base.closed f.base.sender))
        (letters_say objects t run letter mail e (in_base t (node_of t (Receives letter)) (Some letter)) f.base.closed f.base.sender)
ran_orphans objects t (Begins s) run may = tt
ran_orphans objects t (Tells s to) run may = tt
ran_orphans objects t (Queries s f) run may = tt
ran_orphans objects t (Restarts s) run may = tt

-- of runs without a halt
pub orphans_agree : OrphansAgree
orphans_agree objects t input run = ran_orphans objects t input (plain_ran objects t run)
