-- The letters of a rule say what stands of dependencies.
use Rattle.std.proofs.Common.{◌≡◌, inl, inr, if◌then◌else◌, ℕ, ◌+◌, Bool, true, List, [], ◌∷◌, ◌++◌, Option, Some, None, refl, sym, ap, ◌∙◌, subst, arith}
use Rattle.std.proofs.lemmas.Bool.{or_left, true≢false, false_from_ne_true}
use Rattle.cam_names.specs.declared.name.Name.{Name}
use Rattle.cam_names.specs.Names.{name_eq, is_ancestor, parent, home_node}
use Rattle.cam_names.specs.Dependencies.{as_counts, pairs_of}
use Rattle.cam_names.proofs.Names.{name_eq_refl}
use Rattle.cam_type.specs.declared.ObjectDecl.{ObjectDecl}
use Rattle.cam_know.specs.declared.Reason.{Reason}
use Rattle.cam_event.specs.declared.Want.{Want}
use Rattle.cam_event.specs.declared.Want.TheVariants as wants
use Rattle.cam_event.specs.declared.Sent.{Sent}
use Rattle.cam_event.specs.declared.Body.{Body}
use Rattle.cam_event.specs.declared.Body.TheVariants as bodies
use Rattle.cam_event.specs.declared.Deed.{Deed}
use Rattle.cam_event.specs.declared.Deed.TheVariants.{Ask, Call, AskCommit}
use Rattle.cam_event.specs.History.{after, count, created, asked_commit, calls}
use Rattle.cam_event.specs.Live.{site_of}
use Rattle.cam_event.specs.Gained.{deps, home}
use Rattle.cam_event.specs.Inputs.{Input, Begins, Requests, Receives, Tells, Queries, Restarts, Mail, decider}
use Rattle.cam_event.specs.Sights.{Sight}
use Rattle.cam_event.specs.Rules.{Did, send, one, stopped_by, child_name, wanted, rule}
use Rattle.cam_event.proofs.Members.{In}
use Rattle.cam_plain.specs.Lines.{asked_for}
use Rattle.cam_plain.specs.Legal.{Legal}
use Rattle.cam_names.proofs.Ancestry.{parent_is}
use Rattle.cam_plain.proofs.Performed.{runs_created, created_named}
use Rattle.cam_plain.proofs.Decided.{not_top, for_asked}
use Rattle.cam_cut.proofs.HomeFacts.{child_parent}
use Rattle.cam_cut.proofs.LegalFacts.{ask_fresh}
use Rattle.cam_cut.proofs.DepsFacts.{deps_none, pair_count, pair_range}
use Rattle.cam_cut.proofs.Sees.{Sees}
use Rattle.cam_cut.proofs.Pairs.{OneCount}
use Rattle.cam_cut.proofs.Clear.{NoOrphan, no_orphan}
use Rattle.cam_cut.proofs.RuleGood.{InputOk}
use Rattle.cam_agree.proofs.DepsPairs.{Within, SamePairs, same_trans, counts_same, counts_pairs}
use Rattle.cam_agree.proofs.DepsSays.{BodySays, created_asked}
use Rattle.cam_agree.proofs.DepsSilent.{is_silent, AreSilent, silent_none, silent_one, arrives_silent}
use Rattle.cam_agree.proofs.OrphanCover.{below_named}

-- each letter says what stands
abbrev pub AllSay : List ObjectDecl → List Deed → List Sent → Type 0
AllSay objects L sent = (k : Sent) → In k sent → BodySays objects L k.body

silent_says : (objects : List ObjectDecl) (L : List Deed) (body : Body) → is_silent body ≡ true → BodySays objects L body
silent_says objects L (bodies.Start b counts) h = cc
silent_says objects L (bodies.Call a n x op c counts) h = cc
silent_says objects L (bodies.Finish b v counts) h = cc
silent_says objects L (bodies.Answer a n reply) h = tt
silent_says objects L (bodies.Quit b) h = tt
silent_says objects L (bodies.Prepare f c) h = tt
silent_says objects L (bodies.Vote f c agrees) h = tt
silent_says objects L (bodies.Query f) h = tt
silent_says objects L bodies.News h = tt

all_silent : (objects : List ObjectDecl) (L : List Deed) (d : Did) → AreSilent d.sent → AllSay objects (after L d.deeds) d.sent
all_silent objects L d h k i = silent_says objects (after L d.deeds) k.body (h k i)

one_says : (objects : List ObjectDecl) (L : List Deed) (to : ℕ) (body : Body) → BodySays objects L body → AllSay objects L (one (send to body))
one_says objects L to body h k (inl e) = subst (λ (z : Sent). BodySays objects L z.body) (sym e) h
one_says objects L to body h k (inr r) = absurd r

-- The base has all on which the node's own actions depend.
abbrev pub IsWhole : List ObjectDecl → Sight → List Deed → List Deed → Type 0
IsWhole objects g B L = (a : Name) → home_node a ≡ g.node → created L a ≡ true → Within (deps objects L a) (deps objects B a)

-- pairs that stand at the counts of their nodes have one count for each node
pub current_single : (objects : List ObjectDecl) (B : List Deed) (a : Name) → Legal objects B → is_ancestor a a ≡ true → NoOrphan objects B a → OneCount (deps objects B a)
current_single objects B a legal named clear p q i j same =
    let one = clear.current a named p i in
    let two = clear.current a named q j in
    let most = pair_count objects B a p legal i in
    let more = pair_count objects B a q legal j in
    let at : count B p.0 ≡ count B q.0 = ap (count B) same in
    omega (arith, one, two, most, more, at)

-- What a node writes of an own action that is no orphan.
pub written_same : (objects : List ObjectDecl) (g : Sight) (B L : List Deed) (a : Name) → Sees objects g B L → IsWhole objects g B L → home_node a ≡ g.node → created L a ≡ true → is_ancestor a a ≡ true → NoOrphan objects B a → SamePairs (deps objects B a) (deps objects L a) × SamePairs (pairs_of (g.deps a)) (deps objects L a)
written_same objects g B L a sees whole at there named clear = (
  same,
  subst (λ cs. SamePairs (pairs_of cs) (deps objects L a)) (sym (sees.deps_so a))
      (same_trans (pairs_of (as_counts (deps objects B a))) (deps objects B a) (deps objects L a)
      (counts_pairs (deps objects B a) (current_single objects B a sees.base_legal named clear) (λ p i. pair_range objects B a p (λ d j. sees.ranged d (sees.fewer d j)) i)) same),
)
  where
    same : SamePairs (deps objects B a) (deps objects L a)
    same = record { there = sees.more a; back = whole a at there }

-- the letter of a request of an action that is no orphan
wanted_says : (objects : List ObjectDecl) (g : Sight) (B L : List Deed) (a : Name) (want : Want) → Sees objects g B L → IsWhole objects g B L → home_node a ≡ g.node → NoOrphan objects B a → Legal objects (after L (wanted objects g a want).deeds) → AllSay objects (after L (wanted objects g a want).deeds) (wanted objects g a want).sent
wanted_says objects g B L a (wants.Ask m) sees whole at clear legal =
    one_says objects (Ask a b ∷ L) m (bodies.Start b (g.deps a)) (record {
      named = below_named a b (parent_is a b father).above;
      child = not_top b a father;
      asked = or_left (name_eq b b) (asked_for L b) (name_eq_refl b);
      within = λ p i. elim i [ inl e ↦ subst (In p) (sym is) (inl e) | inr r ↦ subst (In p) (sym is) (inr (same.there p r)) ];
      fresh = λ new p i. elim (subst (In p) is i) [ inl e ↦ inl e | inr r ↦ inr (same.back p r) ];
    })
  where
    b : Name
    b = child_name g a m

    there : created L a ≡ true
    there = runs_created L a legal.0.running

    father : parent b ≡ Some a
    father = child_parent a b (created_named objects L a legal.1 there) legal.0.child

    same : SamePairs (pairs_of (g.deps a)) (deps objects L a)
    same = (written_same objects g B L a sees whole at there (created_named objects L a legal.1 there) clear).1

    none : deps objects L b ≡ []
    none = deps_none objects L b legal.1 (below_named a b (parent_is a b father).above)
        (false_from_ne_true (created L b) (λ c. created_asked objects L a b legal c))
        (false_from_ne_true (asked_for L b) (λ c. true≢false (sym (for_asked objects L a b legal.1 legal.0.child c).0 ∙ ask_fresh objects L a b legal)))

    nothing : (xs : List (ℕ × ℕ)) → xs ++ [] ≡ xs
    nothing [] = refl
    nothing (x ∷ xs) = ap (λ ys. x ∷ ys) (nothing xs)

    is : deps objects (Ask a b ∷ L) b ≡ home b ∷ deps objects L a
    is =
        ap (λ (t : Bool). if t then home b ∷ deps objects L a ++ deps objects L b else deps objects L b) (name_eq_refl b)
        ∙ ap (λ xs. home b ∷ xs) (ap (λ xs. deps objects L a ++ xs) none ∙ nothing (deps objects L a))
wanted_says objects g B L a (wants.Call x op) sees whole at clear legal =
    let there : created L a ≡ true = runs_created L a legal.0.running in
    let same = (written_same objects g B L a sees whole at there (created_named objects L a legal.1 there) clear).1 in
    let n : ℕ = calls g.deeds a + 1 in
    let s : ℕ = site_of objects x in
    let more : calls (Call a n x op (g.known_count s) ∷ L) a ≡ calls L a + 1 = ap (λ (t : Bool). if t then calls L a + 1 else calls L a) (name_eq_refl a) in
    one_says objects (Call a n x op (g.known_count s) ∷ L) s (bodies.Call a n x op (g.known_count s) (g.deps a)) (record {
      made = omega (arith, more, legal.0.number);
      within = same.there;
      opened = λ o. same.back;
    })
wanted_says objects g B L a (wants.Commit v) sees whole at clear legal =
    let there : created L a ≡ true = runs_created L a legal.0.running in
    let same = (written_same objects g B L a sees whole at there (created_named objects L a legal.1 there) clear).0 in
    one_says objects (AskCommit a v ∷ L) (decider a) (bodies.Finish a v (g.deps a)) (record {
      asked = or_left (name_eq a a) (asked_commit L a) (name_eq_refl a);
      final = sees.deps_so a ∙ counts_same (deps objects B a) (deps objects L a) same;
    })
wanted_says objects g B L a wants.Abort sees whole at clear legal = all_silent objects L (wanted objects g a wants.Abort) (silent_one (decider a) (bodies.Quit a) refl)
wanted_says objects g B L a (wants.GiveUp b) sees whole at clear legal = all_silent objects L (wanted objects g a (wants.GiveUp b)) silent_none

-- The letters of each rule say what stands.
pub rule_says : (objects : List ObjectDecl) (g : Sight) (B L : List Deed) (mail : Option Mail) (input : Input) → Sees objects g B L → IsWhole objects g B L → InputOk objects g B L mail input → Legal objects (after L (rule objects g mail input).deeds) → AllSay objects (after L (rule objects g mail input).deeds) (rule objects g mail input).sent
rule_says objects g B L mail (Begins s) sees whole ok legal = all_silent objects L (rule objects g mail (Begins s)) silent_none
rule_says objects g B L mail (Requests r) sees whole ok legal = by (g.orphan r.action (pairs_of (g.deps r.action))) refl legal
  where
    by : (o : Option Reason) → g.orphan r.action (pairs_of (g.deps r.action)) ≡ o → Legal objects (after L (stopped_by r.action o (wanted objects g r.action r.want)).deeds) → AllSay objects (after L (stopped_by r.action o (wanted objects g r.action r.want)).deeds) (stopped_by r.action o (wanted objects g r.action r.want)).sent
    by None e l = wanted_says objects g B L r.action r.want sees whole ok.0 (no_orphan objects B r.action (sym (sees.orphan_so r.action (pairs_of (g.deps r.action))) ∙ e)) l
    by (Some reason) e l = all_silent objects L (stopped_by r.action (Some reason) (wanted objects g r.action r.want)) silent_none
rule_says objects g B L None (Receives letter) sees whole ok legal = all_silent objects L (rule objects g None (Receives letter)) silent_none
rule_says objects g B L (Some mail) (Receives letter) sees whole ok legal = all_silent objects L (rule objects g (Some mail) (Receives letter)) (arrives_silent objects g mail.from mail.body)
rule_says objects g B L mail (Tells s to) sees whole ok legal = all_silent objects L (rule objects g mail (Tells s to)) (silent_one to bodies.News refl)
rule_says objects g B L mail (Queries s f) sees whole ok legal = all_silent objects L (rule objects g mail (Queries s f)) (silent_one (home_node f) (bodies.Query f) refl)
rule_says objects g B L mail (Restarts s) sees whole ok legal = all_silent objects L (rule objects g mail (Restarts s)) silent_none
