-- What a rule creates and commits, with what the letter says of it.
use Rattle.std.proofs.Common.{◌≡◌, ◌⊎◌, inl, inr, if◌then◌else◌, ℕ, eqb, ltb, Bool, true, false, not, ◌||◌, List, [], ◌∷◌, find, Option, Some, None, refl, sym, ap, ◌∙◌, subst}
use Rattle.std.specs.List.{list_any}
use Rattle.std.specs.Prelude.{unwrap_or}
use Rattle.std.proofs.lemmas.Bool.{or_parts, not-false}
use Rattle.cam_names.specs.declared.name.Name.{Name}
use Rattle.cam_names.specs.Names.{ancestors, is_top, parent, home_node, home_count}
use Rattle.cam_names.specs.Dependencies.{as_counts, pairs_of}
use Rattle.cam_type.specs.declared.ObjectDecl.{ObjectDecl}
use Rattle.cam_type.specs.declared.Op.{Op}
use Rattle.cam_know.specs.declared.Reason.{Reason}
use Rattle.cam_event.specs.declared.Want.{Want}
use Rattle.cam_event.specs.declared.Want.TheVariants as wants
use Rattle.cam_event.specs.declared.Reply.{Reply}
use Rattle.cam_event.specs.declared.Reply.TheVariants as replies
use Rattle.cam_event.specs.declared.Operation.{Operation}
use Rattle.cam_event.specs.declared.Body.{Body}
use Rattle.cam_event.specs.declared.Body.TheVariants as bodies
use Rattle.cam_event.specs.declared.Deed.{Deed}
use Rattle.cam_event.specs.declared.Deed.TheVariants.{Create, Ask, Call, Perform, Bounce, Got, AskCommit, AskAbort, Commit, Secure, Crash}
use Rattle.cam_event.specs.History.{Addressed, created, secured_at, call_of}
use Rattle.cam_event.specs.Live.{site_of}
use Rattle.cam_event.specs.Gained.{deps}
use Rattle.cam_event.specs.Inputs.{Input, Begins, Requests, Receives, Tells, Queries, Restarts, Mail}
use Rattle.cam_event.specs.ByKnowledge.{start_counts, finish_counts}
use Rattle.cam_event.specs.Sights.{Sight, present, is_present, knows_outcome, is_preparing, kept_reply, votes}
use Rattle.cam_event.specs.Rules.{Did, did, one, stopped_by, commits, aborts, wanted, with_home, start_comes, lift_here, is_conflict_here, on_object, bounced, served, refused_or_served, again_or, call_comes, awaits, got_reply, gone_or, answer_comes, decides_child, commits_or_aborts, prepares, finish_comes, quit_comes, all_yes, arrives, rule}
use Rattle.cam_event.proofs.Members.{In}
use Rattle.cam_plain.proofs.Decided.{not_top}
use Rattle.cam_cut.proofs.Sees.{Sees, BodyOk}
use Rattle.cam_cut.proofs.RuleGood.{InputOk}
use Rattle.cam_agree.proofs.DepsPairs.{SamePairs}
use Rattle.cam_agree.proofs.DepsSays.{StartSays, FinishSays, BodySays}

-- A top action is created without a letter, a child by its start; a child is committed by its finish.
abbrev pub GainSays : List ObjectDecl → List Deed → Option Mail → Deed → Type 0
GainSays objects L mail (Create b) = ((is_top b ≡ true) × (start_counts mail ≡ [])) ⊎ ((is_top b ≡ false) × SamePairs (with_home (start_counts mail) b) (deps objects L b))
GainSays objects L mail (Commit b) = (is_top b ≡ true) ⊎ ((is_top b ≡ false) × (finish_counts mail ≡ as_counts (deps objects L b)))
GainSays objects L mail _ = Unit {0}

-- so of each deed
abbrev pub AllGain : List ObjectDecl → List Deed → Option Mail → List Deed → Type 0
AllGain objects L mail ds = (x : Deed) → In x ds → GainSays objects L mail x

-- what the letter of an input says
abbrev pub MailSays : List ObjectDecl → List Deed → Option Mail → Type 0
MailSays objects L None = Unit {0}
MailSays objects L (Some mail) = BodySays objects L mail.body

abbrev pub InputSays : List ObjectDecl → List Deed → Option Mail → Input → Type 0
InputSays objects L mail (Begins s) = start_counts mail ≡ []
InputSays objects L mail (Receives letter) = MailSays objects L mail
InputSays objects L mail _ = Unit {0}

gain_none : (objects : List ObjectDecl) (L : List Deed) (mail : Option Mail) → AllGain objects L mail []
gain_none objects L mail x i = absurd i

gain_one : (objects : List ObjectDecl) (L : List Deed) (mail : Option Mail) (d : Deed) → GainSays objects L mail d → AllGain objects L mail (one d)
gain_one objects L mail d h x (inl e) = subst (GainSays objects L mail) (sym e) h
gain_one objects L mail d h x (inr r) = absurd r

gain_commits : (objects : List ObjectDecl) (L : List Deed) (mail : Option Mail) (g : Sight) (b : Name) → GainSays objects L mail (Commit b) → AllGain objects L mail (commits g b)
gain_commits objects L mail g b h x (inl e) = subst (GainSays objects L mail) (sym e) h
gain_commits objects L mail g b h x (inr (inl e)) = subst (GainSays objects L mail) (sym e) tt
gain_commits objects L mail g b h x (inr (inr r)) = absurd r

gain_aborts : (objects : List ObjectDecl) (L : List Deed) (mail : Option Mail) (g : Sight) (b : Name) → AllGain objects L mail (aborts g b)
gain_aborts objects L mail g b x (inl e) = subst (GainSays objects L mail) (sym e) tt
gain_aborts objects L mail g b x (inr (inl e)) = subst (GainSays objects L mail) (sym e) tt
gain_aborts objects L mail g b x (inr (inr r)) = absurd r

gain_if : (objects : List ObjectDecl) (L : List Deed) (mail : Option Mail) (b : Bool) (x y : Did) → (b ≡ true → AllGain objects L mail x.deeds) → (b ≡ false → AllGain objects L mail y.deeds) → AllGain objects L mail (if b then x else y).deeds
gain_if objects L mail true x y h g = h refl
gain_if objects L mail false x y h g = g refl

gain_unless : (objects : List ObjectDecl) (L : List Deed) (mail : Option Mail) (a : Name) (o : Option Reason) (other : Did) → AllGain objects L mail other.deeds → AllGain objects L mail (stopped_by a o other).deeds
gain_unless objects L mail a None other h = h
gain_unless objects L mail a (Some reason) other h = gain_none objects L mail

served_gains : (objects : List ObjectDecl) (L : List Deed) (mail : Option Mail) (g : Sight) (a : Name) (n x : ℕ) (op : Op) (o : Option Operation) → AllGain objects L mail (served objects g a n x op o).deeds
served_gains objects L mail g a n x op (Some o) = by (lift_here g o.action)
  where
    by : (u : Option Name) → AllGain objects L mail (bounced a n u).deeds
    by None = gain_none objects L mail
    by (Some u) = gain_one objects L mail (Bounce a n u) tt
served_gains objects L mail g a n x op None = gain_one objects L mail (Perform a n _) tt

call_gains : (objects : List ObjectDecl) (L : List Deed) (mail : Option Mail) (g : Sight) (a : Name) (n x : ℕ) (op : Op) (c : ℕ) (counts : List ℕ) → AllGain objects L mail (call_comes objects g a n x op c counts).deeds
call_gains objects L mail g a n x op c counts =
    gain_if objects L mail (not (eqb c (present g))) _ _ (λ e. gain_none objects L mail)
    (λ e. gain_if objects L mail (list_any g.knows_commit (ancestors a)) _ _ (λ f. gain_none objects L mail) (λ f. by (kept_reply g.deeds a n)))
  where
    serve : (r : Option Reason) → AllGain objects L mail (refused_or_served objects g a n x op r).deeds
    serve (Some reason) = gain_none objects L mail
    serve None = served_gains objects L mail g a n x op (find (is_conflict_here g a op) (on_object x g.live))

    by : (k : Option Reply) → AllGain objects L mail (again_or a n k (refused_or_served objects g a n x op (g.orphan a (pairs_of counts)))).deeds
    by (Some reply) = gain_none objects L mail
    by None = serve (g.orphan a (pairs_of counts))

answer_gains : (objects : List ObjectDecl) (L : List Deed) (mail : Option Mail) (g : Sight) (a : Name) (n : ℕ) (reply : Reply) → AllGain objects L mail (answer_comes objects g a n reply).deeds
answer_gains objects L mail g a n reply =
    gain_if objects L mail (not (awaits g a n)) _ _ (λ e. gain_none objects L mail)
    (λ e. gain_unless objects L mail a (g.orphan a (pairs_of (g.deps a))) (gone_or objects g a n (call_of g.deeds a n) (got_reply a n reply)) (by (call_of g.deeds a n)))
  where
    got : (r : Reply) → AllGain objects L mail (got_reply a n r).deeds
    got (replies.Done answer) = gain_one objects L mail (Got a n _) tt
    got (replies.Busy u) = gain_one objects L mail (Got a n _) tt
    got replies.Missed = gain_none objects L mail
    got replies.Refused = gain_none objects L mail

    by : (o : Option Addressed) → AllGain objects L mail (gone_or objects g a n o (got_reply a n reply)).deeds
    by None = gain_none objects L mail
    by (Some call) = gain_if objects L mail (ltb call.count (g.known_count (site_of objects call.object))) _ _ (λ e. gain_one objects L mail (Got a n _) tt) (λ e. got reply)

-- a child is committed by its finish
finish_gains : (objects : List ObjectDecl) (L : List Deed) (mail : Option Mail) (g : Sight) (b : Name) (p : Option Name) (counts : List ℕ) → parent b ≡ p → finish_counts mail ≡ counts → FinishSays objects L b counts → AllGain objects L mail (finish_comes g b p counts).deeds
finish_gains objects L mail g b (Some p) counts is same says =
    gain_if objects L mail (not (decides_child g p b)) _ _ (λ e. gain_none objects L mail)
    (λ e. gain_unless objects L mail p (g.orphan p (pairs_of (g.deps p))) (commits_or_aborts g b (g.orphan b (pairs_of counts))) (by (g.orphan b (pairs_of counts))))
  where
    by : (r : Option Reason) → AllGain objects L mail (commits_or_aborts g b r).deeds
    by None = gain_commits objects L mail g b (inr (not_top b p is, same ∙ says.final))
    by (Some reason) = gain_aborts objects L mail g b
finish_gains objects L mail g b None counts is same says =
    gain_if objects L mail (not (is_present g b) || knows_outcome g b || is_preparing g b) _ _ (λ e. gain_none objects L mail) (λ e. by (g.orphan b (pairs_of (g.deps b))))
  where
    by : (r : Option Reason) → AllGain objects L mail (prepares g b r).deeds
    by None = gain_none objects L mail
    by (Some reason) = gain_aborts objects L mail g b

quit_gains : (objects : List ObjectDecl) (L : List Deed) (mail : Option Mail) (g : Sight) (b : Name) (p : Option Name) → AllGain objects L mail (quit_comes g b p).deeds
quit_gains objects L mail g b (Some p) =
    gain_if objects L mail (not (decides_child g p b)) _ _ (λ e. gain_none objects L mail)
    (λ e. gain_unless objects L mail p (g.orphan p (pairs_of (g.deps p))) (did (aborts g b) []) (gain_aborts objects L mail g b))
quit_gains objects L mail g b None = gain_if objects L mail (not (is_present g b) || knows_outcome g b) _ _ (λ e. gain_none objects L mail) (λ e. gain_aborts objects L mail g b)

-- a child is created by its start
start_gains : (objects : List ObjectDecl) (L : List Deed) (mail : Option Mail) (g : Sight) (B : List Deed) (from : ℕ) (b : Name) (counts : List ℕ) → Sees objects g B L → home_node b ≡ g.node → start_counts mail ≡ counts → StartSays objects L b counts → AllGain objects L mail (start_comes g from b counts).deeds
start_gains objects L mail g B from b counts sees at same says =
    gain_if objects L mail (not (is_present g b)) _ _ (λ e. gain_none objects L mail)
    (λ e. gain_if objects L mail (created g.deeds b) _ _ (λ f. gain_none objects L mail)
    (λ f. gain_unless objects L mail b (g.orphan b (with_home counts b)) (did (one (Create b)) []) (gain_one objects L mail (Create b)
    (inr (says.child, subst (λ cs. SamePairs (with_home cs b) (deps objects L b)) (sym same) (record { there = says.within; back = says.fresh (sym (sees.same_created b at) ∙ f) }))))))

arrives_gains : (objects : List ObjectDecl) (g : Sight) (B L : List Deed) (mail : Mail) → Sees objects g B L → BodyOk objects L mail.from g.node mail.body → BodySays objects L mail.body → AllGain objects L (Some mail) (arrives objects g mail.from mail.body).deeds
arrives_gains objects g B L mail sees = by mail.body refl
  where
    by : (body : Body) → mail.body ≡ body → BodyOk objects L mail.from g.node body → BodySays objects L body → AllGain objects L (Some mail) (arrives objects g mail.from body).deeds
    by (bodies.Start b counts) e ok says = start_gains objects L (Some mail) g B mail.from b counts sees (sym ok.2) (ap (λ y. start_counts (Some (record { from = mail.from; to = mail.to; body = y }))) e) says
    by (bodies.Call a n x op c counts) e ok says = call_gains objects L (Some mail) g a n x op c counts
    by (bodies.Answer a n reply) e ok says = answer_gains objects L (Some mail) g a n reply
    by (bodies.Finish b v counts) e ok says = finish_gains objects L (Some mail) g b (parent b) counts refl (ap (λ y. finish_counts (Some (record { from = mail.from; to = mail.to; body = y }))) e) says
    by (bodies.Quit b) e ok says = quit_gains objects L (Some mail) g b (parent b)
    by (bodies.Prepare f c) e ok says =
        gain_if objects L (Some mail) (knows_outcome g f) _ _ (λ x. gain_none objects L (Some mail))
        (λ x. gain_if objects L (Some mail) (secured_at g.deeds f g.node) _ _ (λ y. gain_none objects L (Some mail))
        (λ y. gain_if objects L (Some mail) (not (eqb c (present g))) _ _ (λ z. gain_none objects L (Some mail)) (λ z. gain_one objects L (Some mail) (Secure f g.node c) tt)))
    by (bodies.Vote f c agrees) e ok says =
        gain_if objects L (Some mail) (not (is_present g f) || not (is_preparing g f) || knows_outcome g f) _ _ (λ x. gain_none objects L (Some mail))
        (λ x. gain_if objects L (Some mail) (not agrees) _ _ (λ y. gain_aborts objects L (Some mail) g f)
        (λ y. gain_if objects L (Some mail) (all_yes ((mail.from, c) ∷ unwrap_or (votes g.events f) []) (g.deps f)) _ _
        (λ z. gain_commits objects L (Some mail) g f (inl (sees.prepared f (ready x)).top)) (λ z. gain_none objects L (Some mail))))
      where
        ready : (not (is_present g f) || not (is_preparing g f) || knows_outcome g f) ≡ false → is_preparing g f ≡ true
        ready x = not-false (is_preparing g f) (or_parts (not (is_present g f)) (not (is_preparing g f)) (or_parts (not (is_present g f) || not (is_preparing g f)) (knows_outcome g f) x).0).1
    by (bodies.Query f) e ok says =
        gain_if objects L (Some mail) (knows_outcome g f) _ _ (λ x. gain_none objects L (Some mail))
        (λ x. gain_if objects L (Some mail) (ltb (home_count f) (present g)) _ _ (λ y. gain_aborts objects L (Some mail) g f) (λ y. gain_none objects L (Some mail)))
    by bodies.News e ok says = gain_none objects L (Some mail)

wanted_gains : (objects : List ObjectDecl) (L : List Deed) (mail : Option Mail) (g : Sight) (a : Name) (want : Want) → AllGain objects L mail (wanted objects g a want).deeds
wanted_gains objects L mail g a (wants.Ask m) = gain_one objects L mail (Ask a _) tt
wanted_gains objects L mail g a (wants.Call x op) = gain_one objects L mail (Call a _ x op _) tt
wanted_gains objects L mail g a (wants.Commit v) = gain_one objects L mail (AskCommit a v) tt
wanted_gains objects L mail g a wants.Abort = gain_one objects L mail (AskAbort a) tt
wanted_gains objects L mail g a (wants.GiveUp b) = gain_aborts objects L mail g b

-- So of what each rule does.
pub rule_gains : (objects : List ObjectDecl) (g : Sight) (B L : List Deed) (mail : Option Mail) (input : Input) → Sees objects g B L → InputOk objects g B L mail input → InputSays objects L mail input → AllGain objects L mail (rule objects g mail input).deeds
rule_gains objects g B L mail (Begins s) sees ok says = gain_one objects L mail (Create _) (inl (refl, says))
rule_gains objects g B L mail (Requests r) sees ok says = gain_unless objects L mail r.action (g.orphan r.action (pairs_of (g.deps r.action))) (wanted objects g r.action r.want) (wanted_gains objects L mail g r.action r.want)
rule_gains objects g B L None (Receives letter) sees ok says = gain_none objects L None
rule_gains objects g B L (Some mail) (Receives letter) sees ok says = arrives_gains objects g B L mail sees (subst (λ s. BodyOk objects L mail.from s mail.body) ok.0 ok.1) says
rule_gains objects g B L mail (Tells s to) sees ok says = gain_none objects L mail
rule_gains objects g B L mail (Queries s f) sees ok says = gain_none objects L mail
rule_gains objects g B L mail (Restarts s) sees ok says = gain_one objects L mail (Crash g.node) tt
