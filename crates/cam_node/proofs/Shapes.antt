-- The deeds of each rule are none, one that neither decides nor informs, or a decision and the Inform of it.
use Rattle.std.proofs.Common.{ℕ, eqb, Bool, true, false, not, ◌||◌, if◌then◌else◌, List, [], ◌∷◌, find, Option, Some, None, refl}
use Rattle.std.specs.Prelude.{nat_lt, unwrap_or}
use Rattle.std.specs.List.{list_any}
use Rattle.cam_names.specs.declared.name.Name.{Name}
use Rattle.cam_names.specs.Names.{ancestors, home_count, parent}
use Rattle.cam_names.specs.Dependencies.{pairs_of}
use Rattle.cam_type.specs.declared.ObjectDecl.{ObjectDecl}
use Rattle.cam_type.specs.declared.Op.{Op}
use Rattle.cam_know.specs.declared.Reason.{Reason}
use Rattle.cam_event.specs.declared.Body.{Body}
use Rattle.cam_event.specs.declared.Body.TheVariants as bodies
use Rattle.cam_event.specs.declared.Reply.{Reply}
use Rattle.cam_event.specs.declared.Reply.TheVariants as replies
use Rattle.cam_event.specs.declared.Want.{Want}
use Rattle.cam_event.specs.declared.Want.TheVariants as wants
use Rattle.cam_event.specs.declared.Operation.{Operation}
use Rattle.cam_event.specs.declared.Deed.TheVariants.{Create, Ask, Call, Perform, Bounce, Got, AskCommit, AskAbort, Secure, Crash}
use Rattle.cam_event.specs.declared.Seen.TheVariants as seens
use Rattle.cam_event.specs.History.{Addressed, created, call_of, secured_at}
use Rattle.cam_event.specs.Live.{site_of}
use Rattle.cam_event.specs.Inputs.{Begins, Requests, Receives, Tells, Queries, Restarts}
use Rattle.cam_event.specs.Sights.{Sight, present, is_present, knows_outcome, is_preparing, votes, kept_reply}
use Rattle.cam_event.specs.Rules.{Did, did, aborts, stopped_by, top_name, child_name, wanted, with_home, start_comes, lift_here, bounced, served, refused_or_served, again_or, is_conflict_here, on_object, call_comes, awaits, got_reply, gone_or, answer_comes, decides_child, commits_or_aborts, prepares, finish_comes, quit_comes, prepare_comes, all_yes, vote_comes, query_comes, arrives}
use Rattle.cam_node.specs.Shapes.{IsShaped, Quiet, Single, Commits, Aborts, RulesAreShaped}

abbrev Shaped : ℕ → Did → Type 0
Shaped s d = IsShaped s d.deeds

if_shaped : (s : ℕ) (b : Bool) (x y : Did) → Shaped s x → Shaped s y → Shaped s (if b then x else y)
if_shaped s true x y h g = h
if_shaped s false x y h g = g

stopped_shaped : (s : ℕ) (a : Name) (reason : Option Reason) (other : Did) → Shaped s other → Shaped s (stopped_by a reason other)
stopped_shaped s a None other h = h
stopped_shaped s a (Some reason) other h = Quiet

wanted_shaped : (objects : List ObjectDecl) (g : Sight) (a : Name) (want : Want) → Shaped g.node (wanted objects g a want)
wanted_shaped objects g a (wants.Ask m) = Single (Ask a (child_name g a m)) refl
wanted_shaped objects g a (wants.Call x op) = Single (Call a _ x op _) refl
wanted_shaped objects g a (wants.Commit v) = Single (AskCommit a v) refl
wanted_shaped objects g a wants.Abort = Single (AskAbort a) refl
wanted_shaped objects g a (wants.GiveUp b) = Aborts b

start_shaped : (g : Sight) (from : ℕ) (b : Name) (counts : List ℕ) → Shaped g.node (start_comes g from b counts)
start_shaped g from b counts =
    if_shaped g.node (not (is_present g b)) _ _ Quiet
    (if_shaped g.node (created g.deeds b) _ _ Quiet
    (stopped_shaped g.node b (g.orphan b (with_home counts b)) (did (Create b ∷ []) []) (Single (Create b) refl)))

bounced_shaped : (s : ℕ) (a : Name) (n : ℕ) (u : Option Name) → Shaped s (bounced a n u)
bounced_shaped s a n None = Quiet
bounced_shaped s a n (Some u) = Single (Bounce a n u) refl

served_shaped : (objects : List ObjectDecl) (g : Sight) (a : Name) (n x : ℕ) (op : Op) (o : Option Operation) → Shaped g.node (served objects g a n x op o)
served_shaped objects g a n x op None = Single (Perform a n _) refl
served_shaped objects g a n x op (Some o) = bounced_shaped g.node a n (lift_here g o.action)

refused_shaped : (objects : List ObjectDecl) (g : Sight) (a : Name) (n x : ℕ) (op : Op) (reason : Option Reason) → Shaped g.node (refused_or_served objects g a n x op reason)
refused_shaped objects g a n x op (Some reason) = Quiet
refused_shaped objects g a n x op None = served_shaped objects g a n x op (find (is_conflict_here g a op) (on_object x g.live))

again_shaped : (s : ℕ) (a : Name) (n : ℕ) (kept : Option Reply) (other : Did) → Shaped s other → Shaped s (again_or a n kept other)
again_shaped s a n None other h = h
again_shaped s a n (Some reply) other h = Quiet

call_shaped : (objects : List ObjectDecl) (g : Sight) (a : Name) (n x : ℕ) (op : Op) (c : ℕ) (counts : List ℕ) → Shaped g.node (call_comes objects g a n x op c counts)
call_shaped objects g a n x op c counts =
    if_shaped g.node (not (eqb c (present g))) _ _ Quiet
    (if_shaped g.node (list_any g.knows_commit (ancestors a)) _ _ Quiet
    (again_shaped g.node a n (kept_reply g.deeds a n) (refused_or_served objects g a n x op (g.orphan a (pairs_of counts)))
    (refused_shaped objects g a n x op (g.orphan a (pairs_of counts)))))

reply_shaped : (s : ℕ) (a : Name) (n : ℕ) (reply : Reply) → Shaped s (got_reply a n reply)
reply_shaped s a n (replies.Done answer) = Single (Got a n (seens.Done answer)) refl
reply_shaped s a n (replies.Busy u) = Single (Got a n (seens.Busy u)) refl
reply_shaped s a n replies.Missed = Quiet
reply_shaped s a n replies.Refused = Quiet

gone_shaped : (objects : List ObjectDecl) (g : Sight) (a : Name) (n : ℕ) (call : Option Addressed) (other : Did) → Shaped g.node other → Shaped g.node (gone_or objects g a n call other)
gone_shaped objects g a n None other h = Quiet
gone_shaped objects g a n (Some call) other h =
    if_shaped g.node (nat_lt call.count (g.known_count (site_of objects call.object))) _ other (Single (Got a n seens.Gone) refl) h

answer_shaped : (objects : List ObjectDecl) (g : Sight) (a : Name) (n : ℕ) (reply : Reply) → Shaped g.node (answer_comes objects g a n reply)
answer_shaped objects g a n reply =
    if_shaped g.node (not (awaits g a n)) _ _ Quiet
    (stopped_shaped g.node a (g.orphan a (pairs_of (g.deps a))) (gone_or objects g a n (call_of g.deeds a n) (got_reply a n reply))
    (gone_shaped objects g a n (call_of g.deeds a n) (got_reply a n reply) (reply_shaped g.node a n reply)))

decided_shaped : (g : Sight) (b : Name) (reason : Option Reason) → Shaped g.node (commits_or_aborts g b reason)
decided_shaped g b None = Commits b
decided_shaped g b (Some reason) = Aborts b

prepares_shaped : (g : Sight) (b : Name) (reason : Option Reason) → Shaped g.node (prepares g b reason)
prepares_shaped g b None = Quiet
prepares_shaped g b (Some reason) = Aborts b

finish_shaped : (g : Sight) (b : Name) (p : Option Name) (counts : List ℕ) → Shaped g.node (finish_comes g b p counts)
finish_shaped g b (Some p) counts =
    if_shaped g.node (not (decides_child g p b)) _ _ Quiet
    (stopped_shaped g.node p (g.orphan p (pairs_of (g.deps p))) (commits_or_aborts g b (g.orphan b (pairs_of counts))) (decided_shaped g b (g.orphan b (pairs_of counts))))
finish_shaped g b None counts =
    if_shaped g.node (not (is_present g b) || knows_outcome g b || is_preparing g b) _ _ Quiet (prepares_shaped g b (g.orphan b (pairs_of (g.deps b))))

quit_shaped : (g : Sight) (b : Name) (p : Option Name) → Shaped g.node (quit_comes g b p)
quit_shaped g b (Some p) =
    if_shaped g.node (not (decides_child g p b)) _ _ Quiet (stopped_shaped g.node p (g.orphan p (pairs_of (g.deps p))) (did (aborts g b) []) (Aborts b))
quit_shaped g b None = if_shaped g.node (not (is_present g b) || knows_outcome g b) _ _ Quiet (Aborts b)

prepare_shaped : (g : Sight) (f : Name) (c : ℕ) → Shaped g.node (prepare_comes g f c)
prepare_shaped g f c =
    if_shaped g.node (knows_outcome g f) _ _ Quiet
    (if_shaped g.node (secured_at g.deeds f g.node) _ _ Quiet (if_shaped g.node (not (eqb c (present g))) _ _ Quiet (Single (Secure f g.node c) refl)))

vote_shaped : (g : Sight) (from : ℕ) (f : Name) (c : ℕ) (agrees : Bool) → Shaped g.node (vote_comes g from f c agrees)
vote_shaped g from f c agrees =
    if_shaped g.node (not (is_present g f) || not (is_preparing g f) || knows_outcome g f) _ _ Quiet
    (if_shaped g.node (not agrees) _ _ (Aborts f) (if_shaped g.node (all_yes ((from, c) ∷ unwrap_or (votes g.events f) []) (g.deps f)) _ _ (Commits f) Quiet))

query_shaped : (g : Sight) (from : ℕ) (f : Name) → Shaped g.node (query_comes g from f)
query_shaped g from f =
    if_shaped g.node (knows_outcome g f) _ _ Quiet (if_shaped g.node (nat_lt (home_count f) (present g)) _ _ (Aborts f) Quiet)

arrives_shaped : (objects : List ObjectDecl) (g : Sight) (from : ℕ) (body : Body) → Shaped g.node (arrives objects g from body)
arrives_shaped objects g from (bodies.Start b counts) = start_shaped g from b counts
arrives_shaped objects g from (bodies.Call a n x op c counts) = call_shaped objects g a n x op c counts
arrives_shaped objects g from (bodies.Answer a n reply) = answer_shaped objects g a n reply
arrives_shaped objects g from (bodies.Finish b v counts) = finish_shaped g b (parent b) counts
arrives_shaped objects g from (bodies.Quit b) = quit_shaped g b (parent b)
arrives_shaped objects g from (bodies.Prepare f c) = prepare_shaped g f c
arrives_shaped objects g from (bodies.Vote f c agrees) = vote_shaped g from f c agrees
arrives_shaped objects g from (bodies.Query f) = query_shaped g from f
arrives_shaped objects g from bodies.News = Quiet

pub rules_are_shaped : RulesAreShaped
rules_are_shaped objects g mail (Begins m) = Single (Create (top_name g)) refl
rules_are_shaped objects g mail (Requests r) =
    stopped_shaped g.node r.action (g.orphan r.action (pairs_of (g.deps r.action))) (wanted objects g r.action r.want) (wanted_shaped objects g r.action r.want)
rules_are_shaped objects g None (Receives letter) = Quiet
rules_are_shaped objects g (Some mail) (Receives letter) = arrives_shaped objects g mail.from mail.body
rules_are_shaped objects g mail (Tells m to) = Quiet
rules_are_shaped objects g mail (Queries m f) = Quiet
rules_are_shaped objects g mail (Restarts m) = Single (Crash g.node) refl
