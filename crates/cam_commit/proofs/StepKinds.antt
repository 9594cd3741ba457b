-- Of which kind an event of a node is.
use Rattle.std.proofs.Common.{◌≡◌, ℕ, eqb, Bool, true, false, not, ◌&&◌, ◌||◌, if◌then◌else◌, List, [], ◌∷◌, ◌++◌, map, Option, Some, None, sym, ap, ◌∙◌, refl}
use Rattle.std.specs.List.{list_any}
use Rattle.std.proofs.lemmas.Bool.{true≢false, eq-eqb}
use Rattle.std.proofs.lemmas.List.Folds.{list_any-append}
use Rattle.cam_names.specs.declared.name.Name.{Name}
use Rattle.cam_names.specs.Names.{name_eq, parent}
use Rattle.cam_names.specs.Dependencies.{pairs_of}
use Rattle.cam_type.specs.declared.ObjectDecl.{ObjectDecl}
use Rattle.cam_know.specs.declared.Reason.{Reason}
use Rattle.cam_know.specs.Known.{new_aborts, new_commits}
use Rattle.cam_event.specs.declared.Body.{Body}
use Rattle.cam_event.specs.declared.Body.TheVariants as bodies
use Rattle.cam_event.specs.declared.Note.{Note}
use Rattle.cam_event.specs.declared.Note.TheVariants as notes
use Rattle.cam_event.specs.declared.Deed.{Deed}
use Rattle.cam_event.specs.declared.Deed.TheVariants.{Create, Ask, Call, Perform, Bounce, Got, AskCommit, AskAbort, Commit, Abort, Secure, Inform, Crash}
use Rattle.cam_event.specs.History.{is_crash, is_secure_at, secured_at}
use Rattle.cam_event.specs.Inputs.{Input, Begins, Requests, Receives, Tells, Queries, Restarts, Mail}
use Rattle.cam_event.specs.Sights.{Sight, present, is_present, knows_outcome, is_preparing, is_preparing_note}
use Rattle.cam_event.specs.Rules.{Did, prepares, finish_comes, prepare_comes, arrives, sorted_names, informs, rule}
use Rattle.cam_event.specs.ByKnowledge.{held, held_sight, held_informs}
use Rattle.cam_commit.specs.Events.{is_elsewhere}
use Rattle.cam_commit.specs.Steps.{is_restarting, is_finish_of, is_prepare_of, brings, StepsAreOfKind}
use Rattle.cam_commit.proofs.RuleKinds.{is_marking, is_beginning, Plain, request_plain, start_plain, call_plain, answer_plain, child_plain, quit_plain, vote_plain, query_plain}

-- what the deeds and the note of a rule may be
record Kind (s : ℕ) (crashes : Bool) (finishes prepares : Name → Bool) (d : Did) : Type 0 where
  restarts : list_any (is_crash s) d.deeds ≡ crashes
  begins : (f : Name) → is_preparing_note f d.note ≡ true → finishes f ≡ true
  secures : (f : Name) → list_any (is_secure_at f s) d.deeds ≡ true → prepares f ≡ true
  own : list_any (is_elsewhere s) d.deeds ≡ false

-- no other deed is any of these
unmarked : (f : Name) (s : ℕ) (d : Deed) → is_marking d ≡ false → (is_crash s d ≡ false) × (is_secure_at f s d ≡ false) × (is_elsewhere s d ≡ false)
unmarked f s (Create a) h = (refl, refl, refl)
unmarked f s (Ask a b) h = (refl, refl, refl)
unmarked f s (Call a n x op c) h = (refl, refl, refl)
unmarked f s (Perform a n answer) h = (refl, refl, refl)
unmarked f s (Bounce a n u) h = (refl, refl, refl)
unmarked f s (Got a n seen) h = (refl, refl, refl)
unmarked f s (AskCommit a v) h = (refl, refl, refl)
unmarked f s (AskAbort a) h = (refl, refl, refl)
unmarked f s (Commit a) h = (refl, refl, refl)
unmarked f s (Abort a) h = (refl, refl, refl)
unmarked f s (Inform site a committed) h = (refl, refl, refl)
unmarked f s (Secure g site c) h = cc
unmarked f s (Crash site) h = cc

first_false : (a b : Bool) → (a || b) ≡ false → a ≡ false
first_false true b h = cc
first_false false b h = refl

second_false : (a b : Bool) → (a || b) ≡ false → b ≡ false
second_false true b h = cc
second_false false b h = h

none_marked : (q : Deed → Bool) → ((d : Deed) → is_marking d ≡ false → q d ≡ false) → (ds : List Deed) → list_any is_marking ds ≡ false → list_any q ds ≡ false
none_marked q less [] h = refl
none_marked q less (d ∷ ds) h =
    ap (λ b. b || list_any q ds) (less d (first_false (is_marking d) (list_any is_marking ds) h))
    ∙ none_marked q less ds (second_false (is_marking d) (list_any is_marking ds) h)

pub begins_none : (f : Name) (note : Note) → is_beginning note ≡ false → is_preparing_note f note ≡ false
begins_none f notes.Plain h = refl
begins_none f (notes.Stopped a reason) h = refl
begins_none f notes.Missed h = refl
begins_none f notes.Again h = refl
begins_none f notes.Ended h = refl
begins_none f notes.Late h = refl
begins_none f (notes.Preparing g) h = cc
begins_none f notes.Voted h = refl

never : (b c : Bool) → b ≡ false → b ≡ true → c ≡ true
never b c not_so is = absurd (true≢false (sym is ∙ not_so))

plain_kind : (s : ℕ) (finishes prepares : Name → Bool) (d : Did) → Plain d → Kind s false finishes prepares d
plain_kind s finishes prepares d plain =
    record {
      restarts = none_marked (is_crash s) (λ x h. (unmarked [] s x h).0) d.deeds plain.0;
      begins = λ f. never (is_preparing_note f d.note) (finishes f) (begins_none f d.note plain.1);
      secures = λ f. never (list_any (is_secure_at f s) d.deeds) (prepares f) (none_marked (is_secure_at f s) (λ x h. (unmarked f s x h).1) d.deeds plain.0);
      own = none_marked (is_elsewhere s) (λ x h. (unmarked [] s x h).2) d.deeds plain.0;
    }

kind_if : (s : ℕ) (finishes prepares : Name → Bool) (b : Bool) (x y : Did) → Kind s false finishes prepares x → Kind s false finishes prepares y
    → Kind s false finishes prepares (if b then x else y)
kind_if s finishes prepares true x y h g = h
kind_if s finishes prepares false x y h g = g

-- a finish may begin its family
begins_kind : (g : Sight) (b : Name) (ps : Name → Bool) (reason : Option Reason) → Kind g.node false (λ f. name_eq f b) ps (prepares g b reason)
begins_kind g b ps None = record { restarts = refl; begins = λ f h. h; secures = λ f h. cc; own = refl }
begins_kind g b ps (Some reason) = plain_kind g.node (λ f. name_eq f b) ps (prepares g b (Some reason)) (refl, refl)

finish_kind : (g : Sight) (b : Name) (ps : Name → Bool) (p : Option Name) (counts : List ℕ) → Kind g.node false (λ f. name_eq f b) ps (finish_comes g b p counts)
finish_kind g b ps (Some p) counts = plain_kind g.node (λ f. name_eq f b) ps (finish_comes g b (Some p) counts) (child_plain g p b counts)
finish_kind g b ps None counts =
    kind_if g.node (λ f. name_eq f b) ps (not (is_present g b) || knows_outcome g b || is_preparing g b) _ _
    (plain_kind g.node (λ f. name_eq f b) ps _ (refl, refl)) (begins_kind g b ps (g.orphan b (pairs_of (g.deps b))))

itself : (s : ℕ) → eqb s s ≡ true
itself s = eq-eqb s s refl

-- a prepare may secure its family
prepare_kind : (g : Sight) (b : Name) (fs : Name → Bool) (c : ℕ) → Kind g.node false fs (λ f. name_eq f b) (prepare_comes g b c)
prepare_kind g b fs c =
    kind_if g.node fs (λ f. name_eq f b) (knows_outcome g b) _ _ (plain_kind g.node fs (λ f. name_eq f b) _ (refl, refl))
    (kind_if g.node fs (λ f. name_eq f b) (secured_at g.deeds b g.node) _ _ (plain_kind g.node fs (λ f. name_eq f b) _ (refl, refl))
    (kind_if g.node fs (λ f. name_eq f b) (not (eqb c (present g))) _ _ (plain_kind g.node fs (λ f. name_eq f b) _ (refl, refl))
    (record { restarts = refl; begins = λ f h. cc; secures = λ f h. named (name_eq f b) (eqb g.node g.node) h; own = ap (λ t. not t || false) (itself g.node) })))
  where
    named : (n e : Bool) → ((n && e) || false) ≡ true → n ≡ true
    named true e h = refl
    named false e h = cc

arrives_kind : (objects : List ObjectDecl) (g : Sight) (from : ℕ) (body : Body)
    → Kind g.node false (λ f. is_finish_of f body) (λ f. is_prepare_of f body) (arrives objects g from body)
arrives_kind objects g from (bodies.Start b counts) = plain_kind g.node _ _ _ (start_plain g from b counts)
arrives_kind objects g from (bodies.Call a n x op c counts) = plain_kind g.node _ _ _ (call_plain objects g a n x op c counts)
arrives_kind objects g from (bodies.Answer a n reply) = plain_kind g.node _ _ _ (answer_plain objects g a n reply)
arrives_kind objects g from (bodies.Finish b v counts) = finish_kind g b (λ f. false) (parent b) counts
arrives_kind objects g from (bodies.Quit b) = plain_kind g.node _ _ _ (quit_plain g b (parent b))
arrives_kind objects g from (bodies.Prepare f c) = prepare_kind g f (λ f. false) c
arrives_kind objects g from (bodies.Vote f c agrees) = plain_kind g.node _ _ _ (vote_plain g from f c agrees)
arrives_kind objects g from (bodies.Query f) = plain_kind g.node _ _ _ (query_plain g from f)
arrives_kind objects g from bodies.News = plain_kind g.node _ _ _ (refl, refl)

rule_kind : (objects : List ObjectDecl) (g : Sight) (mail : Option Mail) (input : Input)
    → Kind g.node (is_restarting input) (λ f. brings (is_finish_of f) input mail) (λ f. brings (is_prepare_of f) input mail) (rule objects g mail input)
rule_kind objects g mail (Begins m) = plain_kind g.node _ _ _ (refl, refl)
rule_kind objects g mail (Requests r) = plain_kind g.node _ _ _ (request_plain objects g r.action r.want)
rule_kind objects g None (Receives letter) = plain_kind g.node _ _ _ (refl, refl)
rule_kind objects g (Some mail) (Receives letter) = arrives_kind objects g mail.from mail.body
rule_kind objects g mail (Tells m to) = plain_kind g.node _ _ _ (refl, refl)
rule_kind objects g mail (Queries m f) = plain_kind g.node _ _ _ (refl, refl)
rule_kind objects g mail (Restarts m) = record { restarts = ap (λ t. t || false) (itself g.node); begins = λ f h. cc; secures = λ f h. cc; own = refl }

-- the first Informs mark nothing
map_plain : (s : ℕ) (committed : Bool) (names : List Name) → list_any is_marking (map (λ a. Inform s a committed) names) ≡ false
map_plain s committed [] = refl
map_plain s committed (a ∷ names) = map_plain s committed names

informs_plain : (s : ℕ) (aborts commits : List Name) → list_any is_marking (informs s aborts commits) ≡ false
informs_plain s aborts commits =
    list_any-append is_marking (map (λ a. Inform s a false) (sorted_names aborts)) (map (λ a. Inform s a true) (sorted_names commits))
    ∙ ap (λ b. b || list_any is_marking (map (λ a. Inform s a true) (sorted_names commits))) (map_plain s false (sorted_names aborts))
    ∙ map_plain s true (sorted_names commits)

pub informs_secure_none : (f : Name) (s : ℕ) (aborts commits : List Name) → list_any (is_secure_at f s) (informs s aborts commits) ≡ false
informs_secure_none f s aborts commits =
    none_marked (is_secure_at f s) (λ x h. (unmarked f s x h).1) (informs s aborts commits) (informs_plain s aborts commits)

pub informs_crash_none : (s : ℕ) (aborts commits : List Name) → list_any (is_crash s) (informs s aborts commits) ≡ false
informs_crash_none s aborts commits =
    none_marked (is_crash s) (λ x h. (unmarked [] s x h).0) (informs s aborts commits) (informs_plain s aborts commits)

-- behind deeds that mark nothing the same is asked
behind : (q : Deed → Bool) (first ds : List Deed) → list_any q first ≡ false → list_any q (first ++ ds) ≡ list_any q ds
behind q first ds none = list_any-append q first ds ∙ ap (λ b. b || list_any q ds) none

pub steps_are_of_kind : StepsAreOfKind
steps_are_of_kind objects s before input mail brought =
    let g = held_sight objects s before brought in
    let first = held_informs objects s before brought in
    let d = rule objects g mail input in
    let is = rule_kind objects g mail input in
    let plain = informs_plain s (new_aborts brought (held objects before)) (new_commits brought (held objects before)) in
    record {
      restarts = behind (is_crash s) first d.deeds (none_marked (is_crash s) (λ x h. (unmarked [] s x h).0) first plain) ∙ is.restarts;
      begins = is.begins;
      secures = λ f h. is.secures f (sym (behind (is_secure_at f s) first d.deeds (none_marked (is_secure_at f s) (λ x k. (unmarked f s x k).1) first plain)) ∙ h);
      own = behind (is_elsewhere s) first d.deeds (none_marked (is_elsewhere s) (λ x h. (unmarked [] s x h).2) first plain) ∙ is.own;
    }
