-- What each rule makes of the actions at home: one deed at most, with what it has in front of it; and what is prepared is a top action.
use Rattle.std.proofs.Common.{◌≡◌, ℕ, ℤ, ◌≤◌, eqb, Bool, true, false, not, ◌&&◌, ◌||◌, if◌then◌else◌, List, [], ◌∷◌, filter, length, Option, Some, None, refl, sym, ap, subst, ◌∙◌, arith}
use Rattle.std.specs.Prelude.{nat_lt, unwrap_or}
use Rattle.std.specs.List.{list_any}
use Rattle.std.proofs.lemmas.Bool.{true≢false, and_parts, or_parts, not-false, true_from_ne_false}
use borrow.Author.Tests.{eqb-true}
use Rattle.cam_names.specs.declared.name.Name.{Name}
use Rattle.cam_names.specs.Names.{name_eq, is_top, parent, home_node, home_count}
use Rattle.cam_names.specs.Dependencies.{pairs_of}
use Rattle.cam_type.specs.declared.ObjectDecl.{ObjectDecl}
use Rattle.cam_know.specs.declared.Reason.{Reason}
use Rattle.cam_event.specs.declared.Body.{Body}
use Rattle.cam_event.specs.declared.Body.TheVariants as bodies
use Rattle.cam_event.specs.declared.Deed.{Deed}
use Rattle.cam_event.specs.declared.Deed.TheVariants.{Create, Ask, Call, Perform, Bounce, Got, AskCommit, AskAbort, Commit, Abort, Secure, Inform, Crash}
use Rattle.cam_event.specs.History.{ended, open_children, is_open_child, is_ask_of, secured_at}
use Rattle.cam_event.specs.Inputs.{Mail, decider_of}
use Rattle.cam_event.specs.Sights.{Sight, present, is_present, knows_outcome, is_preparing, votes}
use Rattle.cam_event.specs.Rules.{did, aborts, decides_child, commits_or_aborts, child_finishes, prepares, top_finishes, finish_comes, quit_comes, prepare_comes, all_yes, vote_comes, query_comes, arrives}
use Rattle.cam_event.specs.ByKnowledge.{started as started_counts, finished as finished_counts, start_counts, finish_counts}
use Rattle.cam_tranman.specs.Orderly.{IsForHome}
use Rattle.cam_tranman.specs.Keeping.{HasCounts, MailHasCounts}
use Rattle.cam_tranman.proofs.RuleCalls.{child_is_no_top}
use Rattle.cam_tranman.proofs.Ordering.{IsDecided, CameCommit}
use Rattle.cam_tranman.proofs.Running.{counted}
use Rattle.cam_tranman.proofs.AnswerDeeds.{Fine, if_fine, stopped_fine, start_fine, call_fine, answer_fine}

-- An open child was asked for.
pub none_asked : (L : List Deed) (p : Name) → list_any (is_ask_of p) L ≡ false → open_children L p ≡ []
none_asked [] p none = refl
none_asked (Ask q b ∷ L) p none =
    let parts = or_parts (name_eq p q) (list_any (is_ask_of p) L) none in
    ap (λ (t : Bool). if t then b ∷ open_children L p else open_children L p) parts.0 ∙ none_asked L p parts.1
none_asked (Commit b ∷ L) p none = ap (filter (λ c. not (name_eq b c))) (none_asked L p none)
none_asked (Abort b ∷ L) p none = ap (filter (λ c. not (name_eq b c))) (none_asked L p none)
none_asked (Create a ∷ L) p none = none_asked L p none
none_asked (Call a n x op c ∷ L) p none = none_asked L p none
none_asked (Perform a n answer ∷ L) p none = none_asked L p none
none_asked (Bounce a n u ∷ L) p none = none_asked L p none
none_asked (Got a n seen ∷ L) p none = none_asked L p none
none_asked (AskCommit a v ∷ L) p none = none_asked L p none
none_asked (AskAbort a ∷ L) p none = none_asked L p none
none_asked (Secure f site c ∷ L) p none = none_asked L p none
none_asked (Inform site a committed ∷ L) p none = none_asked L p none
none_asked (Crash site ∷ L) p none = none_asked L p none

asked_for : (L : List Deed) (p b : Name) → is_open_child L p b ≡ true → list_any (is_ask_of p) L ≡ true
asked_for L p b opened =
    true_from_ne_false (list_any (is_ask_of p) L) (λ none. true≢false (sym opened ∙ ap (list_any (name_eq b)) (none_asked L p none)))

decided_fine : (g : Sight) (mail : Option Mail) (b : Name) (reason : Option Reason) → CameCommit (is_top b) g.node g.deeds mail b → Fine g mail (commits_or_aborts g b reason)
decided_fine g mail b None came = (came, tt)
decided_fine g mail b (Some reason) came = (tt, tt)

child_fine : (g : Sight) (mail : Option Mail) (p b : Name) (counts : List ℕ) → parent b ≡ Some p → home_node p ≡ g.node
    → (MailHasCounts mail → length (finish_counts mail) ≡ 8) → Fine g mail (child_finishes g p b counts)
child_fine g mail p b counts of home whole =
    if_fine g mail (not (decides_child g p b)) _ _ (λ e. (tt, tt))
    (λ e. stopped_fine g mail p (g.orphan p (pairs_of (g.deps p))) (commits_or_aborts g b (g.orphan b (pairs_of counts)))
    (decided_fine g mail b (g.orphan b (pairs_of counts)) (came (not-false (decides_child g p b) e))))
  where
    came : decides_child g p b ≡ true → CameCommit (is_top b) g.node g.deeds mail b
    came decides =
        let last = and_parts (is_present g p && not (ended g.deeds p)) (is_open_child g.deeds p b) decides in
        let first = and_parts (is_present g p) (not (ended g.deeds p)) last.0 in
        let is : IsDecided g.node g.deeds mail b =
        record {
          above = p;
          of = of;
          home = home;
          now = eqb-true (home_count p) (present g) first.0;
          asked = asked_for g.deeds p b last.1;
          whole = whole;
        }
        in
        subst (λ (t : Bool). CameCommit t g.node g.deeds mail b) (sym (child_is_no_top p b of)) is

quit_fine : (g : Sight) (mail : Option Mail) (b : Name) (o : Option Name) → Fine g mail (quit_comes g b o)
quit_fine g mail b (Some p) =
    if_fine g mail (not (decides_child g p b)) _ _ (λ e. (tt, tt))
    (λ e. stopped_fine g mail p (g.orphan p (pairs_of (g.deps p))) (did (aborts g b) []) (tt, tt))
quit_fine g mail b None = if_fine g mail (not (is_present g b) || knows_outcome g b) _ _ (λ e. (tt, tt)) (λ e. (tt, tt))

-- A top action is prepared.
named_top : (a : Name) → 1 ≤ length a → parent a ≡ None → is_top a ≡ true
named_top [] named none = absurd (omega (arith, named))
named_top (p ∷ []) named none = refl
named_top (p ∷ q ∷ a) named none = cc

present_named : (g : Sight) (a : Name) → is_present g a ≡ true → 1 ≤ length a
present_named g [] now = let e = eqb-true 0 (present g) now in let f = counted g.deeds g.node in absurd (omega (arith, e, f))
present_named g (p ∷ a) now = omega arith

prepares_fine : (g : Sight) (mail : Option Mail) (a : Name) (reason : Option Reason) → is_top a ≡ true → is_present g a ≡ true → Fine g mail (prepares g a reason)
prepares_fine g mail a None top here = (tt, (top, here))
prepares_fine g mail a (Some reason) top here = (tt, tt)

top_fine : (g : Sight) (mail : Option Mail) (a : Name) → parent a ≡ None → Fine g mail (top_finishes g a)
top_fine g mail a none =
    if_fine g mail (not (is_present g a) || knows_outcome g a || is_preparing g a) _ _ (λ e. (tt, tt))
    (λ e. let one_part = or_parts (not (is_present g a) || knows_outcome g a) (is_preparing g a) e in
    let two = or_parts (not (is_present g a)) (knows_outcome g a) one_part.0 in
    let here = not-false (is_present g a) two.0 in
    prepares_fine g mail a (g.orphan a (pairs_of (g.deps a))) (named_top a (present_named g a here) none) here)

finish_fine : (g : Sight) (mail : Option Mail) (b : Name) (o : Option Name) (counts : List ℕ) → parent b ≡ o → decider_of b o ≡ g.node
    → (MailHasCounts mail → length (finish_counts mail) ≡ 8) → Fine g mail (finish_comes g b o counts)
finish_fine g mail b (Some p) counts of home whole = child_fine g mail p b counts of home whole
finish_fine g mail b None counts of home whole = top_fine g mail b of

-- A site secures, a vote decides a family that is prepared, a query aborts one.
prepare_fine : (g : Sight) (mail : Option Mail) (f : Name) (c : ℕ) → Fine g mail (prepare_comes g f c)
prepare_fine g mail f c =
    if_fine g mail (knows_outcome g f) _ _ (λ e. (tt, tt))
    (λ e. if_fine g mail (secured_at g.deeds f g.node) _ _ (λ k. (tt, tt)) (λ k. if_fine g mail (not (eqb c (present g))) _ _ (λ m. (tt, tt)) (λ m. (tt, tt))))

vote_fine : (g : Sight) (mail : Option Mail) (from : ℕ) (f : Name) (c : ℕ) (agrees : Bool) → (is_preparing g f ≡ true → is_top f ≡ true)
    → Fine g mail (vote_comes g from f c agrees)
vote_fine g mail from f c agrees top =
    if_fine g mail (not (is_present g f) || not (is_preparing g f) || knows_outcome g f) _ _ (λ e. (tt, tt))
    (λ e. let one_part = or_parts (not (is_present g f) || not (is_preparing g f)) (knows_outcome g f) e in
    let two = or_parts (not (is_present g f)) (not (is_preparing g f)) one_part.0 in
    let is = top (not-false (is_preparing g f) two.1) in
    if_fine g mail (not agrees) _ _ (λ k. (tt, tt))
    (λ k. if_fine g mail (all_yes ((from, c) ∷ unwrap_or (votes g.events f) []) (g.deps f)) _ _
    (λ m. (subst (λ (t : Bool). CameCommit t g.node g.deeds mail f) (sym is) tt, tt)) (λ m. (tt, tt))))

query_fine : (g : Sight) (mail : Option Mail) (from : ℕ) (f : Name) → Fine g mail (query_comes g from f)
query_fine g mail from f =
    if_fine g mail (knows_outcome g f) _ _ (λ e. (tt, tt)) (λ e. if_fine g mail (nat_lt (home_count f) (present g)) _ _ (λ k. (tt, tt)) (λ k. (tt, tt)))

-- A letter, and any input.
pub arrives_fine : (objects : List ObjectDecl) (g : Sight) (mail : Mail) → ((f : Name) → is_preparing g f ≡ true → is_top f ≡ true) → IsForHome g.node mail.body
    → Fine g (Some mail) (arrives objects g mail.from mail.body)
arrives_fine objects g mail tops = by mail.body refl
  where
    started : (b : Name) (counts : List ℕ) → mail.body ≡ bodies.Start b counts → MailHasCounts (Some mail) → length (start_counts (Some mail)) ≡ 8
    started b counts at whole =
        ap (λ (body : Body). length (started_counts body)) at ∙ subst HasCounts at whole

    finished : (b : Name) (v : ℤ) (counts : List ℕ) → mail.body ≡ bodies.Finish b v counts → MailHasCounts (Some mail) → length (finish_counts (Some mail)) ≡ 8
    finished b v counts at whole =
        ap (λ (body : Body). length (finished_counts body)) at ∙ subst HasCounts at whole

    by : (body : Body) → mail.body ≡ body → IsForHome g.node body → Fine g (Some mail) (arrives objects g mail.from body)
    by (bodies.Start b counts) at is = start_fine g (Some mail) mail.from b counts is.0 is.1 (started b counts at)
    by (bodies.Call a n x op c counts) at is = call_fine objects g (Some mail) a n x op c counts
    by (bodies.Answer a n reply) at is = answer_fine objects g (Some mail) a n reply is
    by (bodies.Finish b v counts) at is = finish_fine g (Some mail) b (parent b) counts refl is (finished b v counts at)
    by (bodies.Quit b) at is = quit_fine g (Some mail) b (parent b)
    by (bodies.Prepare f c) at is = prepare_fine g (Some mail) f c
    by (bodies.Vote f c agrees) at is = vote_fine g (Some mail) mail.from f c agrees (tops f)
    by (bodies.Query f) at is = query_fine g (Some mail) mail.from f
    by bodies.News at is = (tt, tt)
