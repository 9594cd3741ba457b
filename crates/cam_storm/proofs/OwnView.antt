-- On runs the view of an action is what its home says by its own events.
use Rattle.std.proofs.Common.{◌≡◌, inl, inr, ℕ, ℤ, Bool, true, false, not, ◌||◌, if◌then◌else◌, List, [], ◌∷◌, ◌++◌, Option, Some, None, refl, sym, ap, ◌∙◌, subst, append_assoc}
use Rattle.std.specs.Prelude.{flat_map}
use Rattle.std.proofs.lemmas.Bool.{true≢false, false_from_ne_true}
use Rattle.std.proofs.lemmas.Bool.Decides.{eqb_tells}
use Rattle.std.proofs.lemmas.List.{append-nil}
use Rattle.cam_names.specs.declared.name.Name.{Name}
use Rattle.cam_names.specs.Names.{is_ancestor, is_child, is_top, parent, home_node}
use Rattle.cam_names.specs.Dependencies.{pairs_of}
use Rattle.cam_type.specs.declared.ObjectDecl.{ObjectDecl}
use Rattle.cam_know.specs.declared.Reason.{Reason}
use Rattle.cam_event.specs.declared.Note.TheVariants as notes
use Rattle.cam_event.specs.declared.LetterId.{LetterId}
use Rattle.cam_event.specs.declared.Event.{Event}
use Rattle.cam_event.specs.declared.Body.{Body}
use Rattle.cam_event.specs.declared.Body.TheVariants as bodies
use Rattle.cam_event.specs.declared.Deed.{Deed}
use Rattle.cam_event.specs.declared.Deed.TheVariants.{Create, Ask, Call, Perform, Bounce, Got, AskCommit, AskAbort, Commit, Abort, Secure, Inform, Crash}
use Rattle.cam_event.specs.History.{after, commit_value}
use Rattle.cam_event.specs.Views.{committed_child, step_of, view}
use Rattle.cam_event.specs.Pasts.{plain_all, every}
use Rattle.cam_event.specs.Inputs.{Input, Begins, Requests, Receives, Tells, Queries, Restarts, Mail, letter_at, mail_got, node_of, got_of}
use Rattle.cam_event.specs.Sights.{Sight, is_present, knows_outcome, is_preparing}
use Rattle.cam_event.specs.Rules.{Did, nothing_but, commits, aborts, stopped_by, decides_child, commits_or_aborts, prepares, finish_comes, arrives_mail}
use Rattle.cam_event.specs.ByPast.{first_informs, next}
use Rattle.cam_event.specs.ByKnowledge.{finish_counts}
use Rattle.cam_event.specs.ByDeltas.{Received}
use Rattle.cam_event.specs.Runs.{MayCome, IsRun}
use Rattle.cam_event.proofs.Members.{In, in_append}
use Rattle.cam_plain.specs.Legal.{Legal}
use Rattle.cam_plain.proofs.Histories.{legal_before}
use Rattle.cam_plain.proofs.Decided.{not_top}
use Rattle.cam_cut.specs.Witness.{gives_step}
use Rattle.cam_cut.proofs.HomeFacts.{child_parent}
use Rattle.cam_cut.proofs.Holds.{RunHolds, every_closed, every_part}
use Rattle.cam_cut.proofs.Informs.{IsInformAt}
use Rattle.cam_cut.proofs.Parts.{first_is}
use Rattle.cam_cut.proofs.NextEvent.{did_of, sight_of}
use Rattle.cam_cut.proofs.Step.{run_holds}
use Rattle.cam_cut.proofs.SameViews.{commit_value_in, gives_none, steps_home}
use Rattle.cam_agree.proofs.DepsGains.{GainSays}
use Rattle.cam_agree.proofs.DepsSaid.{beside, letters_say, next_gains}
use Rattle.cam_agree.proofs.Ran.{plain_ran}
use Rattle.cam_delta.proofs.Growing.{history, newest_received}
use Rattle.cam_storm.specs.Own.{finish_value, own_step, own_view}

-- deeds among which a child's commit has the value on the finish that came
abbrev SaysValues : Option Mail → Name → List Deed → List Deed → Type 0
SaysValues mail a L ds = (b : Name) → In (Commit b) ds → is_child a b ≡ true → (v : ℤ) × (finish_value mail ≡ Some v) × In (AskCommit b v) L

child_same : (x y : Option ℤ) (b : Name) (t : Bool) → (t ≡ true → x ≡ y) → (if t then committed_child b x else []) ≡ (if t then committed_child b y else [])
child_same x y b true h = ap (committed_child b) (h refl)
child_same x y b false h = refl

step_same : (objects : List ObjectDecl) (mail : Option Mail) (a : Name) (L : List Deed) (d : Deed) → Legal objects L → SaysValues mail a L (d ∷ []) → step_of L d a ≡ own_step mail a d
step_same objects mail a L (Commit b) legal says =
    child_same (commit_value L b) (finish_value mail) b (is_child a b) (λ child. let said = says b (inl refl) child in commit_value_in objects L b said.0 legal said.2 ∙ sym said.1)
step_same objects mail a L (Create b) legal says = refl
step_same objects mail a L (Ask p b) legal says = refl
step_same objects mail a L (Call b n x op c) legal says = refl
step_same objects mail a L (Perform b n answer) legal says = refl
step_same objects mail a L (Bounce b n u) legal says = refl
step_same objects mail a L (Got b n seen) legal says = refl
step_same objects mail a L (AskCommit b v) legal says = refl
step_same objects mail a L (AskAbort b) legal says = refl
step_same objects mail a L (Abort b) legal says = refl
step_same objects mail a L (Secure f s c) legal says = refl
step_same objects mail a L (Inform s b o) legal says = refl
step_same objects mail a L (Crash s) legal says = refl

deeds_give : (objects : List ObjectDecl) (mail : Option Mail) (a : Name) (ds L : List Deed) → Legal objects (after L ds) → SaysValues mail a L ds → view (after L ds) a ≡ view L a ++ flat_map (own_step mail a) ds
deeds_give objects mail a [] L legal says = sym (append-nil (view L a))
deeds_give objects mail a (d ∷ ds) L legal says =
    let one : step_of L d a ≡ own_step mail a d = step_same objects mail a L d (legal_before objects ds (d ∷ L) legal).1 (λ b i child. says b (elim i [ inl e ↦ inl e | inr r ↦ absurd r ]) child) in
    deeds_give objects mail a ds (d ∷ L) legal (λ b i child. let said = says b (inr i) child in (said.0, said.1, inr said.2))
    ∙ append_assoc (view L a) (step_of L d a) (flat_map (own_step mail a) ds)
    ∙ ap (λ x. view L a ++ (x ++ flat_map (own_step mail a) ds)) one

-- of a finish that came only the child on it is committed
only_commit : (b c : Name) (g : Sight) → In (Commit b) (commits g c) → b ≡ c
only_commit b c g (inl e) = cc
only_commit b c g (inr (inl e)) = cc
only_commit b c g (inr (inr r)) = absurd r

no_commit : (b c : Name) (g : Sight) → In (Commit b) (aborts g c) → ⊥
no_commit b c g (inl e) = cc
no_commit b c g (inr (inl e)) = cc
no_commit b c g (inr (inr r)) = r

in_either : (x : Deed) (t : Bool) (d e : Did) (P : Type 0) → In x (if t then d else e).deeds → (In x d.deeds → P) → (In x e.deeds → P) → P
in_either x true d e P i f g = f i
in_either x false d e P i f g = g i

finish_commits : (g : Sight) (b c : Name) (o : Option Name) (counts : List ℕ) → In (Commit b) (finish_comes g c o counts).deeds → b ≡ c
finish_commits g b c (Some p) counts i =
    in_either (Commit b) (not (decides_child g p c)) (nothing_but notes.Late) (stopped_by p (g.orphan p (pairs_of (g.deps p))) (commits_or_aborts g c (g.orphan c (pairs_of counts)))) (b ≡ c) i (λ r. absurd r) (λ r. by (g.orphan p (pairs_of (g.deps p))) r)
  where
    decided : (r : Option Reason) → In (Commit b) (commits_or_aborts g c r).deeds → b ≡ c
    decided None i = only_commit b c g i
    decided (Some reason) i = absurd (no_commit b c g i)

    by : (r : Option Reason) → In (Commit b) (stopped_by p r (commits_or_aborts g c (g.orphan c (pairs_of counts)))).deeds → b ≡ c
    by None i = decided (g.orphan c (pairs_of counts)) i
    by (Some reason) i = absurd i
finish_commits g b c None counts i =
    in_either (Commit b) (not (is_present g c) || knows_outcome g c || is_preparing g c) (nothing_but notes.Late) (prepares g c (g.orphan c (pairs_of (g.deps c)))) (b ≡ c) i (λ r. absurd r) (λ r. by (g.orphan c (pairs_of (g.deps c))) r)
  where
    by : (r : Option Reason) → In (Commit b) (prepares g c r).deeds → b ≡ c
    by None i = absurd i
    by (Some reason) i = absurd (no_commit b c g i)

-- a child is committed by its finish, with the value on it
pub finished : (objects : List ObjectDecl) (t : List Event) (input : Input) (a b : Name) → IsRun objects t → MayCome objects t input → is_ancestor a a ≡ true → is_child a b ≡ true → In (Commit b) (next objects t input).deeds
    → (v : ℤ) × (finish_value (mail_got t (got_of input)) ≡ Some v) × In (AskCommit b v) (plain_all t)
finished objects t input a b run may named child i =
    elim (in_append (first_informs t (node_of t input) (got_of input)) (did_of objects t input).deeds (Commit b) i) [
      | inl first ↦ absurd (not_inform (first_is t (node_of t input) (got_of input) (Commit b) first))
      | inr done ↦ by_input input may (beside t input every) done (next_gains objects t input every (run_holds objects t run) (letters_say objects t (plain_ran objects t run)) may (every_part t (node_of t input) (got_of input)) (Commit b) done)
    ]
  where
    not_inform : {s : ℕ} → IsInformAt s (Commit b) → ⊥
    not_inform h = let e = h.is in cc

    lower : is_top b ≡ false
    lower = not_top b a (child_parent a b named child)

    by_counts : (L : List Deed) (mail : Option Mail) → GainSays objects L mail (Commit b) → (mail ≡ None → ⊥) × (finish_counts mail ≡ [] → ⊥)
    by_counts L mail (inl top) = absurd (true≢false (sym top ∙ lower))
    by_counts L mail (inr gain) = ((λ e. let f = sym (ap finish_counts e) ∙ gain.1 in cc), λ e. let f = sym e ∙ gain.1 in cc)

    by_body : (L : List Deed) (letter : LetterId) (from to : ℕ) (body : Body) → letter_at t letter ≡ Some (record { from = from; to = to; body = body }) → In (Commit b) (arrives_mail objects (sight_of objects t (Receives letter)) (Some (record { from = from; to = to; body = body }))).deeds
        → (finish_counts (Some (record { from = from; to = to; body = body })) ≡ [] → ⊥) → (v : ℤ) × (finish_value (Some (record { from = from; to = to; body = body })) ≡ Some v) × In (AskCommit b v) (plain_all t)
    by_body L letter from to (bodies.Finish c v counts) at done full =
        let ok = (run_holds objects t run).letters letter (record { from = from; to = to; body = bodies.Finish c v counts }) at every (every_closed t) refl in
        let same : b ≡ c = finish_commits (sight_of objects t (Receives letter)) b c (parent c) counts done in
        (v, refl, subst (λ x. In (AskCommit x v) (plain_all t)) (sym same) ok.0)
    by_body L letter from to (bodies.Start c counts) at done full = absurd (full refl)
    by_body L letter from to (bodies.Call c n x op k counts) at done full = absurd (full refl)
    by_body L letter from to (bodies.Answer c n reply) at done full = absurd (full refl)
    by_body L letter from to (bodies.Quit c) at done full = absurd (full refl)
    by_body L letter from to (bodies.Prepare f c) at done full = absurd (full refl)
    by_body L letter from to (bodies.Vote f c agrees) at done full = absurd (full refl)
    by_body L letter from to (bodies.Query f) at done full = absurd (full refl)
    by_body L letter from to bodies.News at done full = absurd (full refl)

    by_mail : (L : List Deed) (letter : LetterId) (o : Option Mail) → letter_at t letter ≡ o → In (Commit b) (arrives_mail objects (sight_of objects t (Receives letter)) o).deeds → GainSays objects L o (Commit b)
        → (v : ℤ) × (finish_value o ≡ Some v) × In (AskCommit b v) (plain_all t)
    by_mail L letter None at done gain = absurd ((by_counts L None gain).0 refl)
    by_mail L letter (Some mail) at done gain = by_body L letter mail.from mail.to mail.body at done (by_counts L (Some mail) gain).1

    by_input : (input : Input) → MayCome objects t input → (L : List Deed) → In (Commit b) (did_of objects t input).deeds → GainSays objects L (mail_got t (got_of input)) (Commit b)
        → (v : ℤ) × (finish_value (mail_got t (got_of input)) ≡ Some v) × In (AskCommit b v) (plain_all t)
    by_input (Receives letter) may L done gain = by_mail L letter (letter_at t letter) refl done gain
    by_input (Begins s) may L done gain = absurd ((by_counts L None gain).0 refl)
    by_input (Requests r) may L done gain = absurd ((by_counts L None gain).0 refl)
    by_input (Tells s to) may L done gain = absurd ((by_counts L None gain).0 refl)
    by_input (Queries s f) may L done gain = absurd ((by_counts L None gain).0 refl)
    by_input (Restarts s) may L done gain = absurd ((by_counts L None gain).0 refl)

-- So on runs the home's own view of an action is its view.
pub own_view_same : (objects : List ObjectDecl) (t : List Event) (a : Name) → IsRun objects t → is_ancestor a a ≡ true → own_view (history objects t (home_node a)) a ≡ view (plain_all t) a
own_view_same objects [] a run named = refl
own_view_same objects (e ∷ t) a run named = elim (eqb_tells e.node (home_node a)) [
  | inl y ↦
      ap (λ b. own_view (if b then c ∷ history objects t (home_node a) else history objects t (home_node a)) a) y.0
      ∙ ap (λ v. v ++ flat_map (own_step (mail_got t e.got) a) e.deeds) (own_view_same objects t a run.1 named)
      ∙ sym (deeds_give objects (mail_got t e.got) a e.deeds (plain_all t) (holds.legal every (every_closed (e ∷ t))) says)
  | inr n ↦
      ap (λ b. own_view (if b then c ∷ history objects t (home_node a) else history objects t (home_node a)) a) n.0
      ∙ own_view_same objects t a run.1 named
      ∙ sym (gives_none e.deeds (plain_all t) a (false_from_ne_true (gives_step (plain_all t) e.deeds a) (λ h. n.1 (sym (steps_home objects (plain_all (e ∷ t)) (plain_all t) e a named holds.placed.0 h)))))
]
  where
    c : Received
    c = newest_received objects e t

    holds : RunHolds objects (e ∷ t)
    holds = run_holds objects (e ∷ t) run

    says : SaysValues (mail_got t e.got) a (plain_all t) e.deeds
    says b i child =
        let h = run.0 in
        let got : e.got ≡ got_of h.input = ap (λ (x : Event). x.got) h.is_next in
        subst (λ (g : Option LetterId). (v : ℤ) × (finish_value (mail_got t g) ≡ Some v) × In (AskCommit b v) (plain_all t)) (sym got)
        (finished objects t h.input a b run.1 h.may named child (subst (λ (x : Event). In (Commit b) x.deeds) h.is_next i))
