-- The view of an action in a closed set that has the events with its steps is that in the whole trace.
use Rattle.std.proofs.Common.{◌≡◌, inl, inr, if◌then◌else◌, ℕ, ℤ, Bool, true, false, ◌||◌, List, [], ◌∷◌, ◌++◌, length, Some, None, refl, sym, ap, ◌∙◌, subst}
use Rattle.std.specs.List.{list_any}
use Rattle.std.proofs.lemmas.Bool.{or_cases, or_left, or_right, true≢false, false_from_ne_true}
use Rattle.cam_names.specs.declared.name.Name.{Name}
use Rattle.cam_names.specs.Names.{name_eq, is_ancestor, is_child, home_node}
use Rattle.cam_names.proofs.Names.{name_eq_same, name_eq_refl}
use Rattle.cam_event.proofs.Members.{In, any_in, in_any, plain_more}
use Rattle.cam_plain.proofs.Histories.{legal_before}
use Rattle.cam_plain.proofs.Deciding.{runs_not_asked}
use Rattle.cam_type.specs.declared.ObjectDecl.{ObjectDecl}
use Rattle.cam_event.specs.declared.Event.{Event}
use Rattle.cam_event.specs.declared.ViewStep.{ViewStep}
use Rattle.cam_event.specs.declared.ViewStep.TheVariants as steps
use Rattle.cam_event.specs.declared.Deed.{Deed}
use Rattle.cam_event.specs.declared.Deed.TheVariants.{Create, Ask, Call, Perform, Bounce, Got, AskCommit, AskAbort, Commit, Abort, Secure, Inform, Crash}
use Rattle.cam_event.specs.History.{after, asked_commit, is_ask_commit, commit_value}
use Rattle.cam_event.specs.Views.{committed_child, step_of, view}
use Rattle.cam_event.specs.Pasts.{plain, plain_all, every, HasNode}
use Rattle.cam_plain.specs.Legal.{Legal}
use Rattle.cam_cut.specs.Witness.{is_some_step, gives_step}
use Rattle.cam_cut.proofs.Places.{PlacedAt, PlacedDeeds, AllPlaced}
use Rattle.cam_cut.proofs.HomeFacts.{child_decider}
use Rattle.cam_cut.proofs.DepsAgree.{HasDeeds}
use Rattle.cam_cut.proofs.Good.{is_step}
use Rattle.std.proofs.lemmas.List.{append-nil}

-- a step that is given under a test passes it
step_if : (t : Bool) (xs : List ViewStep) → is_some_step (if t then xs else []) ≡ true → t ≡ true
step_if true xs h = refl
step_if false xs h = h

-- a deed that gives a step is one that may
pub step_some : (L : List Deed) (d : Deed) (a : Name) → is_some_step (step_of L d a) ≡ true → is_step a d ≡ true
step_some L (Create b) a h = step_if (name_eq a b) (steps.Created ∷ []) h
step_some L (Ask p b) a h = step_if (name_eq a p) (steps.Asked b ∷ []) h
step_some L (Call b n x op c) a h = step_if (name_eq a b) (steps.Called n x op ∷ []) h
step_some L (Got b n seen) a h = step_if (name_eq a b) (steps.Got n seen ∷ []) h
step_some L (AskCommit b v) a h = step_if (name_eq a b) (steps.CommitAsked v ∷ []) h
step_some L (AskAbort b) a h = step_if (name_eq a b) (steps.AbortAsked ∷ []) h
step_some L (Commit b) a h = step_if (is_child a b) (committed_child b (commit_value L b)) h
step_some L (Abort b) a h = step_if (is_child a b) (steps.Child b None ∷ []) h
step_some L (Perform b n answer) a h = h
step_some L (Bounce b n u) a h = h
step_some L (Secure f s c) a h = h
step_some L (Inform s b o) a h = h
step_some L (Crash s) a h = h

-- deeds one of which gives a step have one that may
pub gives_any : (ds L : List Deed) (a : Name) → gives_step L ds a ≡ true → list_any (is_step a) ds ≡ true
gives_any [] L a h = cc
gives_any (d ∷ ds) L a h = by (is_some_step (step_of L d a)) refl h (gives_any ds (d ∷ L) a)
  where
    by : (t : Bool) → is_some_step (step_of L d a) ≡ t → (if t then true else gives_step (d ∷ L) ds a) ≡ true → (gives_step (d ∷ L) ds a ≡ true → list_any (is_step a) ds ≡ true) → (is_step a d || list_any (is_step a) ds) ≡ true
    by true e g rest = or_left (is_step a d) (list_any (is_step a) ds) (step_some L d a e)
    by false e g rest = or_right (is_step a d) (list_any (is_step a) ds) (rest g)

-- no steps
no_step : (xs : List ViewStep) → is_some_step xs ≡ false → xs ≡ []
no_step [] h = refl
no_step (x ∷ xs) h = cc

-- deeds none of which gives a step leave the view
pub gives_none : (ds L : List Deed) (a : Name) → gives_step L ds a ≡ false → view (after L ds) a ≡ view L a
gives_none [] L a h = refl
gives_none (d ∷ ds) L a h = by (is_some_step (step_of L d a)) refl h (gives_none ds (d ∷ L) a)
  where
    by : (t : Bool) → is_some_step (step_of L d a) ≡ t → (if t then true else gives_step (d ∷ L) ds a) ≡ false → (gives_step (d ∷ L) ds a ≡ false → view (after (d ∷ L) ds) a ≡ view (d ∷ L) a) → view (after (d ∷ L) ds) a ≡ view L a
    by true e g rest = absurd (true≢false g)
    by false e g rest = rest g ∙ ap (λ xs. view L a ++ xs) (no_step (step_of L d a) e) ∙ append-nil (view L a)

-- an action asks to commit once
pub commit_value_in : (objects : List ObjectDecl) (L : List Deed) (b : Name) (v : ℤ) → Legal objects L → In (AskCommit b v) L → commit_value L b ≡ Some v
commit_value_in objects [] b v legal h = absurd h
commit_value_in objects (d ∷ L) b v legal (inl e) = subst (λ (x : Deed). commit_value (x ∷ L) b ≡ Some v) e (rw (name_eq_refl b) refl)
commit_value_in objects (AskCommit c w ∷ L) b v legal (inr r) =
    rw (false_from_ne_true (name_eq b c) (λ e. true≢false (sym (in_any (is_ask_commit c) L (AskCommit b v) r (subst (λ x. name_eq x b ≡ true) (name_eq_same b c e) (name_eq_refl b))) ∙ runs_not_asked L c legal.0.running)))
    (commit_value_in objects L b v legal.1 r)
commit_value_in objects (_ ∷ L) b v legal (inr r) = commit_value_in objects L b v legal.1 r

-- who asked to commit did so with a value
asked_value : (L : List Deed) (b : Name) → asked_commit L b ≡ true → (v : ℤ) × In (AskCommit b v) L
asked_value [] b h = cc
asked_value (AskCommit c v ∷ L) b h = elim (or_cases (name_eq b c) (asked_commit L b) h) [
  | inl e ↦ (v, inl (ap (λ x. AskCommit x v) (name_eq_same b c e)))
  | inr r ↦ let rest = asked_value L b r in (rest.0, inr rest.1)
]
asked_value (_ ∷ L) b h = let rest = asked_value L b h in (rest.0, inr rest.1)

-- a deed gives the same step in a legal part and in the legal whole
step_same : (objects : List ObjectDecl) (L W : List Deed) (d : Deed) (a : Name) → Legal objects (d ∷ L) → Legal objects (d ∷ W) → HasDeeds L W → step_of L d a ≡ step_of W d a
step_same objects L W (Commit b) a part whole fewer =
    let value = asked_value L b part.0.asked in
    let one : commit_value L b ≡ Some value.0 = commit_value_in objects L b value.0 part.1 value.1 in
    let other : commit_value W b ≡ Some value.0 = commit_value_in objects W b value.0 whole.1 (fewer (AskCommit b value.0) value.1) in
    ap (λ o. if is_child a b then committed_child b o else []) (one ∙ sym other)
step_same objects L W _ a part whole fewer = refl

-- so deeds that both have go on with the same view
view_both : (objects : List ObjectDecl) (ds L W : List Deed) (a : Name) → Legal objects (after L ds) → Legal objects (after W ds) → HasDeeds L W → view L a ≡ view W a → view (after L ds) a ≡ view (after W ds) a
view_both objects [] L W a part whole fewer same = same
view_both objects (d ∷ ds) L W a part whole fewer same =
    view_both objects ds (d ∷ L) (d ∷ W) a part whole (λ x i. elim i [ inl e ↦ inl e | inr r ↦ inr (fewer x r) ])
    (λ i. same i ++ step_same objects L W d a (legal_before objects ds (d ∷ L) part) (legal_before objects ds (d ∷ W) whole) fewer i)

-- the set has each event that gives a step of the action's view
abbrev pub HasSteps : List Event → (ℕ → Bool) → Name → Type 0
HasSteps [] S a = Unit {0}
HasSteps (e ∷ t) S a = (gives_step (plain_all t) e.deeds a ≡ true → S (length t) ≡ true) × HasSteps t S a

-- so the action has the same view in it
pub view_same : (objects : List ObjectDecl) (t : List Event) (S : ℕ → Bool) (a : Name) → Legal objects (plain t S) → Legal objects (plain_all t) → HasSteps t S a → view (plain t S) a ≡ view (plain_all t) a
view_same objects [] S a part whole has = refl
view_same objects (e ∷ t) S a part whole has = by (S (length t)) refl part (λ l. view_same objects t S a l (legal_before objects e.deeds (plain_all t) whole) has.1)
  where
    by : (b : Bool) → S (length t) ≡ b → Legal objects (if b then after (plain t S) e.deeds else plain t S) → (Legal objects (plain t S) → view (plain t S) a ≡ view (plain_all t) a) → view (if b then after (plain t S) e.deeds else plain t S) a ≡ view (after (plain_all t) e.deeds) a
    by true x l rest = view_both objects e.deeds (plain t S) (plain_all t) a l whole (plain_more t S every (λ k i. refl)) (rest (legal_before objects e.deeds (plain t S) l))
    by false x l rest = rest l ∙ sym (gives_none e.deeds (plain_all t) a (false_from_ne_true (gives_step (plain_all t) e.deeds a) (λ h. true≢false (sym (has.0 h) ∙ x))))

-- a deed of an action's view is done at the action's home
pub step_home : (objects : List ObjectDecl) (H : List Deed) (r : ℕ) (a : Name) (d : Deed) → is_ancestor a a ≡ true → PlacedAt objects H r d → is_step a d ≡ true → home_node a ≡ r
step_home objects H r a (Create b) named placed h = ap home_node (name_eq_same a b h) ∙ placed
step_home objects H r a (Ask p b) named placed h = ap home_node (name_eq_same a p h) ∙ placed
step_home objects H r a (Call b n x op c) named placed h = ap home_node (name_eq_same a b h) ∙ placed
step_home objects H r a (Got b n seen) named placed h = ap home_node (name_eq_same a b h) ∙ placed
step_home objects H r a (AskCommit b v) named placed h = ap home_node (name_eq_same a b h) ∙ placed
step_home objects H r a (AskAbort b) named placed h = ap home_node (name_eq_same a b h) ∙ placed
step_home objects H r a (Commit b) named placed h = sym (child_decider a b named h) ∙ placed
step_home objects H r a (Abort b) named placed h = sym (child_decider a b named h) ∙ placed
step_home objects H r a _ named placed h = cc

-- so an event with a step of the action's view is one of its home
pub steps_home : (objects : List ObjectDecl) (H L : List Deed) (e : Event) (a : Name) → is_ancestor a a ≡ true → PlacedDeeds objects H e.node e.deeds → gives_step L e.deeds a ≡ true → home_node a ≡ e.node
steps_home objects H L e a named placed h =
    let found = any_in (is_step a) e.deeds (gives_any e.deeds L a h) in
    step_home objects H e.node a found.0 named (placed found.0 found.1) found.2

-- a set that has the home's events has the steps
pub node_steps : (objects : List ObjectDecl) (H : List Deed) (t : List Event) (S : ℕ → Bool) (a : Name) → is_ancestor a a ≡ true → AllPlaced objects H t → HasNode t S (home_node a) → HasSteps t S a
node_steps objects H [] S a named placed has = tt
node_steps objects H (e ∷ t) S a named placed has = ((λ h. has.0 (sym (steps_home objects H (plain_all t) e a named placed.0 h))), node_steps objects H t S a named placed.1 has.1)
