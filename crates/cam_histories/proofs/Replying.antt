-- What rules send and do: an answer goes to the home of the action that called, and a vote to the family's home, each to the letter that came;
-- and no rule but that of a restart has a crash.
use Rattle.std.proofs.Common.{◌≡◌, inl, inr, ℕ, ◌+◌, eqb, Bool, true, false, not, ◌||◌, if◌then◌else◌, List, [], ◌∷◌, map, filter, Option, Some, None, refl, sym, ◌∙◌, subst}
use Rattle.std.specs.Prelude.{nat_lt, find, unwrap_or}
use Rattle.std.specs.List.{list_any}
use Rattle.std.proofs.lemmas.Bool.{true≢false}
use Rattle.cam_names.specs.declared.name.Name.{Name}
use Rattle.cam_names.specs.Names.{ancestors, parent, home_node, home_count}
use Rattle.cam_names.specs.Dependencies.{pairs_of}
use Rattle.cam_type.specs.declared.ObjectDecl.{ObjectDecl}
use Rattle.cam_type.specs.declared.Op.{Op}
use Rattle.cam_type.specs.Table.{answer_of}
use Rattle.cam_know.specs.declared.Reason.{Reason}
use Rattle.cam_event.specs.declared.Operation.{Operation}
use Rattle.cam_event.specs.declared.Reply.{Reply}
use Rattle.cam_event.specs.declared.Reply.TheVariants as replies
use Rattle.cam_event.specs.declared.Body.{Body}
use Rattle.cam_event.specs.declared.Body.TheVariants as bodies
use Rattle.cam_event.specs.declared.Want.{Want}
use Rattle.cam_event.specs.declared.Want.TheVariants as wants
use Rattle.cam_event.specs.declared.Sent.{Sent}
use Rattle.cam_event.specs.declared.Deed.{Deed}
use Rattle.cam_event.specs.declared.Deed.TheVariants.{Ask, Call, Perform, Bounce, AskCommit, AskAbort, Secure}
use Rattle.cam_event.specs.History.{is_crash, Addressed, created, calls, secured_at, call_of}
use Rattle.cam_event.specs.Live.{site_of, start_of, replay}
use Rattle.cam_event.specs.Inputs.{Input, Begins, Requests, Receives, Tells, Queries, Restarts, Mail, decider}
use Rattle.cam_event.specs.Sights.{Sight, present, is_present, knows_outcome, is_preparing, kept_reply, votes}
use Rattle.cam_event.specs.Rules.{Did, did, send, one, stopped_by, child_name, commits, aborts, news, wanted, with_home, start_comes, lift_here, is_conflict_here, on_object, bounced, served, refused_or_served, again_or, call_comes, awaits, got_reply, gone_or, answer_comes, decides_child, commits_or_aborts, prepares, finish_comes, quit_comes, prepare_comes, all_yes, vote_comes, query_comes, arrives, rule}
use Rattle.cam_event.proofs.Members.{In}
use Rattle.cam_cut.proofs.Lists.{in_image, in_filter}
use Rattle.cam_histories.proofs.Replies.{BodyCalls, BodyPrepares, Calls, Prepares, IsSender, Replies, AllReply, Does}

module _ (g : Sight) (mail : Option Mail) (input : Input) where
  if_replies : (b : Bool) (d e : Did) → Does g mail input d → Does g mail input e → Does g mail input (if b then d else e)
  if_replies true d e h k = h
  if_replies false d e h k = k

  stopped_replies : (a : Name) (o : Option Reason) (d : Did) → Does g mail input d → Does g mail input (stopped_by a o d)
  stopped_replies a None d h = h
  stopped_replies a (Some reason) d h = (λ m i. absurd i, λ s. refl)

  one_replies : (ds : List Deed) (to : ℕ) (body : Body) → Replies g mail input ds to body → (m : Sent) → In m (one (send to body)) → Replies g mail input ds m.to m.body
  one_replies ds to body h m (inl e) = subst (λ (k : Sent). Replies g mail input ds k.to k.body) (sym e) h
  one_replies ds to body h m (inr r) = absurd r

  image_replies : (ds : List Deed) (f : ℕ × ℕ → Sent) (ps : List (ℕ × ℕ)) → ((p : ℕ × ℕ) → In p ps → Replies g mail input ds (f p).to (f p).body) → (m : Sent) → In m (map f ps) → Replies g mail input ds m.to m.body
  image_replies ds f ps h m i = let found = in_image f ps m i in subst (λ (k : Sent). Replies g mail input ds k.to k.body) (sym found.2) (h found.0 found.1)

  news_reply : (ds : List Deed) (f : Name) (m : Sent) → In m (news g f) → Replies g mail input ds m.to m.body
  news_reply ds f = image_replies ds (λ p. send p.0 bodies.News) (filter (λ p. not (eqb p.0 g.node)) (pairs_of (g.deps f)))
      (λ p i. inr (inl (p, f, (in_filter (λ (q : ℕ × ℕ). not (eqb q.0 g.node)) (pairs_of (g.deps f)) p i).0, refl)))

  module _ (objects : List ObjectDecl) where
    wanted_replies : (a : Name) (want : Want) → Does g mail input (wanted objects g a want)
    wanted_replies a (wants.Ask m) = (one_replies (one (Ask a (child_name g a m))) _ _ tt, λ s. refl)
    wanted_replies a (wants.Call x op) = (one_replies (one (Call a (calls g.deeds a + 1) x op (g.known_count (site_of objects x)))) _ _ tt, λ s. refl)
    wanted_replies a (wants.Commit v) = (one_replies (one (AskCommit a v)) _ _ tt, λ s. refl)
    wanted_replies a wants.Abort = (one_replies (one (AskAbort a)) (decider a) (bodies.Quit a) (inr (inl refl)), λ s. refl)
    wanted_replies a (wants.GiveUp b) = (λ m i. absurd i, λ s. refl)

    start_replies : (from : ℕ) (b : Name) (counts : List ℕ) → IsSender mail from → Does g mail input (start_comes g from b counts)
    start_replies from b counts is =
        if_replies (not (is_present g b)) _ _ (one_replies [] from (bodies.Quit b) (inl is), λ s. refl)
        (if_replies (created g.deeds b) _ _ (λ m i. absurd i, λ s. refl) (stopped_replies b (g.orphan b (with_home counts b)) _ (λ m i. absurd i, λ s. refl)))

    -- a call
    answer_one : (ds : List Deed) (a : Name) (n : ℕ) (reply : Reply) → Calls mail a n → (m : Sent) → In m (one (send (home_node a) (bodies.Answer a n reply))) → Replies g mail input ds m.to m.body
    answer_one ds a n reply h = one_replies ds (home_node a) (bodies.Answer a n reply) (refl, h)

    bounced_replies : (a : Name) (n : ℕ) (o : Option Name) → Calls mail a n → Does g mail input (bounced a n o)
    bounced_replies a n None h = (λ m i. absurd i, λ s. refl)
    bounced_replies a n (Some u) h = (answer_one (one (Bounce a n u)) a n (replies.Busy u) h, λ s. refl)

    served_replies : (a : Name) (n x : ℕ) (op : Op) (o : Option Operation) → Calls mail a n → Does g mail input (served objects g a n x op o)
    served_replies a n x op (Some o) h = bounced_replies a n (lift_here g o.action) h
    served_replies a n x op None h = (answer_one (one (Perform a n (answer_of (replay (start_of objects x) (on_object x g.live)) op))) a n (replies.Done (answer_of (replay (start_of objects x) (on_object x g.live)) op)) h, λ s. refl)

    refused_replies : (a : Name) (n x : ℕ) (op : Op) (o : Option Reason) → Calls mail a n → Does g mail input (refused_or_served objects g a n x op o)
    refused_replies a n x op (Some reason) h = (answer_one [] a n replies.Refused h, λ s. refl)
    refused_replies a n x op None h = served_replies a n x op (find (is_conflict_here g a op) (on_object x g.live)) h

    again_replies : (a : Name) (n : ℕ) (o : Option Reply) (d : Did) → Calls mail a n → Does g mail input d → Does g mail input (again_or a n o d)
    again_replies a n (Some reply) d h k = (answer_one [] a n reply h, λ s. refl)
    again_replies a n None d h k = k

    call_replies : (a : Name) (n x : ℕ) (op : Op) (c : ℕ) (counts : List ℕ) → Calls mail a n → Does g mail input (call_comes objects g a n x op c counts)
    call_replies a n x op c counts h =
        if_replies (not (eqb c (present g))) _ _ (answer_one [] a n replies.Missed h, λ s. refl)
        (if_replies (list_any g.knows_commit (ancestors a)) _ _ (λ m i. absurd i, λ s. refl)
        (again_replies a n (kept_reply g.deeds a n) (refused_or_served objects g a n x op (g.orphan a (pairs_of counts))) h (refused_replies a n x op (g.orphan a (pairs_of counts)) h)))

    -- an answer
    got_replies : (a : Name) (n : ℕ) (reply : Reply) → Does g mail input (got_reply a n reply)
    got_replies a n (replies.Done answer) = (λ m i. absurd i, λ s. refl)
    got_replies a n (replies.Busy u) = (λ m i. absurd i, λ s. refl)
    got_replies a n replies.Missed = (λ m i. absurd i, λ s. refl)
    got_replies a n replies.Refused = (λ m i. absurd i, λ s. refl)

    gone_replies : (a : Name) (n : ℕ) (o : Option Addressed) (d : Did) → Does g mail input d → Does g mail input (gone_or objects g a n o d)
    gone_replies a n None d h = (λ m i. absurd i, λ s. refl)
    gone_replies a n (Some call) d h = if_replies (nat_lt call.count (g.known_count (site_of objects call.object))) _ d (λ m i. absurd i, λ s. refl) h

    answer_replies : (a : Name) (n : ℕ) (reply : Reply) → Does g mail input (answer_comes objects g a n reply)
    answer_replies a n reply =
        if_replies (not (awaits g a n)) _ _ (λ m i. absurd i, λ s. refl)
        (stopped_replies a (g.orphan a (pairs_of (g.deps a))) (gone_or objects g a n (call_of g.deeds a n) (got_reply a n reply)) (gone_replies a n (call_of g.deeds a n) (got_reply a n reply) (got_replies a n reply)))

    -- a finish or a quit
    decided_replies : (b : Name) (o : Option Reason) → Does g mail input (commits_or_aborts g b o)
    decided_replies b None = (λ m i. absurd i, λ s. refl)
    decided_replies b (Some reason) = (λ m i. absurd i, λ s. refl)

    prepares_replies : (a : Name) (o : Option Reason) → Does g mail input (prepares g a o)
    prepares_replies a None = (image_replies [] (λ p. send p.0 (bodies.Prepare a p.1)) (pairs_of (g.deps a)) (λ p i. tt), λ s. refl)
    prepares_replies a (Some reason) = (news_reply (aborts g a) a, λ s. refl)

    finish_replies : (b : Name) (p : Option Name) (counts : List ℕ) → Does g mail input (finish_comes g b p counts)
    finish_replies b (Some p) counts =
        if_replies (not (decides_child g p b)) _ _ (λ m i. absurd i, λ s. refl)
        (stopped_replies p (g.orphan p (pairs_of (g.deps p))) (commits_or_aborts g b (g.orphan b (pairs_of counts))) (decided_replies b (g.orphan b (pairs_of counts))))
    finish_replies b None counts =
        if_replies (not (is_present g b) || knows_outcome g b || is_preparing g b) _ _ (λ m i. absurd i, λ s. refl) (prepares_replies b (g.orphan b (pairs_of (g.deps b))))

    quit_replies : (b : Name) (p : Option Name) → Does g mail input (quit_comes g b p)
    quit_replies b (Some p) =
        if_replies (not (decides_child g p b)) _ _ (λ m i. absurd i, λ s. refl) (stopped_replies p (g.orphan p (pairs_of (g.deps p))) (did (aborts g b) []) (λ m i. absurd i, λ s. refl))
    quit_replies b None = if_replies (not (is_present g b) || knows_outcome g b) _ _ (λ m i. absurd i, λ s. refl) (news_reply (aborts g b) b, λ s. refl)

    -- a prepare, a vote, a query
    vote_one : (ds : List Deed) (f : Name) (c : ℕ) (agrees : Bool) → Prepares mail f c → (m : Sent) → In m (one (send (home_node f) (bodies.Vote f c agrees))) → Replies g mail input ds m.to m.body
    vote_one ds f c agrees h = one_replies ds (home_node f) (bodies.Vote f c agrees) (refl, h)

    prepare_replies : (f : Name) (c : ℕ) → Prepares mail f c → Does g mail input (prepare_comes g f c)
    prepare_replies f c h =
        if_replies (knows_outcome g f) _ _ (λ m i. absurd i, λ s. refl)
        (if_replies (secured_at g.deeds f g.node) _ _ (vote_one [] f c true h, λ s. refl) (if_replies (not (eqb c (present g))) _ _ (vote_one [] f c false h, λ s. refl) (vote_one (one (Secure f g.node c)) f c true h, λ s. refl)))

    vote_replies : (from : ℕ) (f : Name) (c : ℕ) (agrees : Bool) → Does g mail input (vote_comes g from f c agrees)
    vote_replies from f c agrees =
        if_replies (not (is_present g f) || not (is_preparing g f) || knows_outcome g f) _ _ (λ m i. absurd i, λ s. refl)
        (if_replies (not agrees) _ _ (news_reply (aborts g f) f, λ s. refl) (if_replies (all_yes ((from, c) ∷ unwrap_or (votes g.events f) []) (g.deps f)) _ _ (news_reply (commits g f) f, λ s. refl) (λ m i. absurd i, λ s. refl)))

    query_replies : (from : ℕ) (f : Name) → IsSender mail from → Does g mail input (query_comes g from f)
    query_replies from f is =
        if_replies (knows_outcome g f) _ _ (one_replies [] from bodies.News (inl is), λ s. refl) (if_replies (nat_lt (home_count f) (present g)) _ _ (one_replies (aborts g f) from bodies.News (inl is), λ s. refl) (λ m i. absurd i, λ s. refl))

arrives_replies : (objects : List ObjectDecl) (g : Sight) (m : Mail) (input : Input) → Does g (Some m) input (arrives objects g m.from m.body)
arrives_replies objects g m input = by m.body refl
  where
    by : (body : Body) → m.body ≡ body → Does g (Some m) input (arrives objects g m.from body)
    by (bodies.Start b counts) at = start_replies g (Some m) input objects m.from b counts refl
    by (bodies.Call a n x op c counts) at = call_replies g (Some m) input objects a n x op c counts (subst (λ (b : Body). BodyCalls b a n) (sym at) (refl, refl))
    by (bodies.Answer a n reply) at = answer_replies g (Some m) input objects a n reply
    by (bodies.Finish b v counts) at = finish_replies g (Some m) input objects b (parent b) counts
    by (bodies.Quit b) at = quit_replies g (Some m) input objects b (parent b)
    by (bodies.Prepare f c) at = prepare_replies g (Some m) input objects f c (subst (λ (b : Body). BodyPrepares b f c) (sym at) (refl, refl))
    by (bodies.Vote f c agrees) at = vote_replies g (Some m) input objects m.from f c agrees
    by (bodies.Query f) at = query_replies g (Some m) input objects m.from f refl
    by bodies.News at = (λ k i. absurd i, λ s. refl)

-- each rule but that of a restart
abbrev IsNoRestart : Input → Type 0
IsNoRestart (Restarts m) = ⊥
IsNoRestart _ = Unit {0}

rule_does : (objects : List ObjectDecl) (g : Sight) (mail : Option Mail) (input : Input) → IsNoRestart input → Does g mail input (rule objects g mail input)
rule_does objects g mail (Begins m) is = (λ k i. absurd i, λ s. refl)
rule_does objects g mail (Requests r) is = stopped_replies g mail (Requests r) r.action (g.orphan r.action (pairs_of (g.deps r.action))) (wanted objects g r.action r.want) (wanted_replies g mail (Requests r) objects r.action r.want)
rule_does objects g None (Receives letter) is = (λ k i. absurd i, λ s. refl)
rule_does objects g (Some m) (Receives letter) is = arrives_replies objects g m (Receives letter)
rule_does objects g mail (Tells m to) is = (one_replies g mail (Tells m to) [] to bodies.News (inr (inr refl)), λ s. refl)
rule_does objects g mail (Queries m f) is = (one_replies g mail (Queries m f) [] (home_node f) (bodies.Query f) tt, λ s. refl)
rule_does objects g mail (Restarts m) is = absurd is

-- the letters of each rule
pub rule_replies : (objects : List ObjectDecl) (g : Sight) (mail : Option Mail) (input : Input) → AllReply g mail input (rule objects g mail input)
rule_replies objects g mail (Restarts m) = λ k i. absurd i
rule_replies objects g mail (Begins m) = (rule_does objects g mail (Begins m) tt).0
rule_replies objects g mail (Requests r) = (rule_does objects g mail (Requests r) tt).0
rule_replies objects g mail (Receives letter) = (rule_does objects g mail (Receives letter) tt).0
rule_replies objects g mail (Tells m to) = (rule_does objects g mail (Tells m to) tt).0
rule_replies objects g mail (Queries m f) = (rule_does objects g mail (Queries m f) tt).0

-- where there is a crash, the rule is that of a restart
pub rule_restarts : (objects : List ObjectDecl) (g : Sight) (mail : Option Mail) (input : Input) (s : ℕ) → list_any (is_crash s) (rule objects g mail input).deeds ≡ true → (m : ℕ) × (input ≡ Restarts m)
rule_restarts objects g mail (Restarts m) s h = (m, refl)
rule_restarts objects g mail (Begins m) s h = absurd (true≢false (sym h ∙ (rule_does objects g mail (Begins m) tt).1 s))
rule_restarts objects g mail (Requests r) s h = absurd (true≢false (sym h ∙ (rule_does objects g mail (Requests r) tt).1 s))
rule_restarts objects g mail (Receives letter) s h = absurd (true≢false (sym h ∙ (rule_does objects g mail (Receives letter) tt).1 s))
rule_restarts objects g mail (Tells m to) s h = absurd (true≢false (sym h ∙ (rule_does objects g mail (Tells m to) tt).1 s))
rule_restarts objects g mail (Queries m f) s h = absurd (true≢false (sym h ∙ (rule_does objects g mail (Queries m f) tt).1 s))
