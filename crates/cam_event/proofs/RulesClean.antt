-- No rule but a restart's crashes a node.
use Rattle.std.proofs.Common.{◌≡◌, ℕ, eqb, Bool, true, false, not, ◌||◌, if◌then◌else◌, List, [], ◌∷◌, Option, Some, None, refl}
use Rattle.std.specs.Prelude.{nat_lt, find, unwrap_or}
use Rattle.std.specs.List.{list_any}
use Rattle.cam_names.specs.declared.name.Name.{Name}
use Rattle.cam_names.specs.Names.{parent, ancestors, home_count}
use Rattle.cam_names.specs.Dependencies.{pairs_of}
use Rattle.cam_type.specs.declared.ObjectDecl.{ObjectDecl}
use Rattle.cam_type.specs.declared.Op.{Op}
use Rattle.cam_know.specs.declared.Reason.{Reason}
use Rattle.cam_event.specs.declared.Operation.{Operation}
use Rattle.cam_event.specs.declared.Reply.{Reply}
use Rattle.cam_event.specs.declared.Reply.TheVariants as replies
use Rattle.cam_event.specs.declared.Body.{Body}
use Rattle.cam_event.specs.declared.Body.TheVariants as bodies
use Rattle.cam_event.specs.declared.Want.{Want}
use Rattle.cam_event.specs.declared.Want.TheVariants as wants
use Rattle.cam_event.specs.declared.Deed.{Deed}
use Rattle.cam_event.specs.declared.Deed.TheVariants.{Create}
use Rattle.cam_event.specs.History.{Addressed, is_crash, created, call_of, secured_at}
use Rattle.cam_event.specs.Inputs.{Mail}
use Rattle.cam_event.specs.Sights.{Sight, present, is_present, knows_outcome, is_preparing, votes, kept_reply}
use Rattle.cam_event.specs.Rules.{Did, did, stopped_by, aborts, wanted, request, with_home, start_comes, lift_here, is_conflict_here, on_object, bounced, served, refused_or_served, again_or, call_comes, awaits, got_reply, gone_or, answer_comes, decides_child, commits_or_aborts, child_finishes, child_quits, prepares, finish_comes, quit_comes, prepare_comes, all_yes, vote_comes, query_comes, arrives, arrives_mail}
use Rattle.cam_event.specs.Live.{site_of}

-- deeds without a crash
abbrev pub NoCrash : List Deed → Type 0
NoCrash ds = (m : ℕ) → list_any (is_crash m) ds ≡ false

abbrev pub Clean : Did → Type 0
Clean d = NoCrash d.deeds

if_clean : (b : Bool) (x y : Did) → Clean x → Clean y → Clean (if b then x else y)
if_clean true x y cx cy = cx
if_clean false x y cx cy = cy

stopped_clean : (a : Name) (reason : Option Reason) (other : Did) → Clean other → Clean (stopped_by a reason other)
stopped_clean a None other c = c
stopped_clean a (Some reason) other c = λ m. refl

wanted_clean : (objects : List ObjectDecl) (g : Sight) (a : Name) (want : Want) → Clean (wanted objects g a want)
wanted_clean objects g a (wants.Ask n) = λ m. refl
wanted_clean objects g a (wants.Call x op) = λ m. refl
wanted_clean objects g a (wants.Commit v) = λ m. refl
wanted_clean objects g a wants.Abort = λ m. refl
wanted_clean objects g a (wants.GiveUp b) = λ m. refl

pub request_clean : (objects : List ObjectDecl) (g : Sight) (a : Name) (want : Want) → Clean (request objects g a want)
request_clean objects g a want = stopped_clean a (g.orphan a (pairs_of (g.deps a))) (wanted objects g a want) (wanted_clean objects g a want)

start_clean : (g : Sight) (from : ℕ) (b : Name) (counts : List ℕ) → Clean (start_comes g from b counts)
start_clean g from b counts =
    if_clean (not (is_present g b)) _ _ (λ m. refl)
    (if_clean (created g.deeds b) _ _ (λ m. refl) (stopped_clean b (g.orphan b (with_home counts b)) (did (Create b ∷ []) []) (λ m. refl)))

bounced_clean : (a : Name) (n : ℕ) (u : Option Name) → Clean (bounced a n u)
bounced_clean a n None = λ m. refl
bounced_clean a n (Some u) = λ m. refl

served_clean : (objects : List ObjectDecl) (g : Sight) (a : Name) (n x : ℕ) (op : Op) (o : Option Operation) → Clean (served objects g a n x op o)
served_clean objects g a n x op (Some o) = bounced_clean a n (lift_here g o.action)
served_clean objects g a n x op None = λ m. refl

refused_clean : (objects : List ObjectDecl) (g : Sight) (a : Name) (n x : ℕ) (op : Op) (reason : Option Reason) → Clean (refused_or_served objects g a n x op reason)
refused_clean objects g a n x op (Some reason) = λ m. refl
refused_clean objects g a n x op None = served_clean objects g a n x op (find (is_conflict_here g a op) (on_object x g.live))

again_clean : (a : Name) (n : ℕ) (reply : Option Reply) (other : Did) → Clean other → Clean (again_or a n reply other)
again_clean a n (Some reply) other c = λ m. refl
again_clean a n None other c = c

call_clean : (objects : List ObjectDecl) (g : Sight) (a : Name) (n x : ℕ) (op : Op) (c : ℕ) (visited : List ℕ) → Clean (call_comes objects g a n x op c visited)
call_clean objects g a n x op c visited =
    if_clean (not (eqb c (present g))) _ _ (λ m. refl)
    (if_clean (list_any g.knows_commit (ancestors a)) _ _ (λ m. refl)
    (again_clean a n (kept_reply g.deeds a n) (refused_or_served objects g a n x op (g.orphan a (pairs_of visited))) (refused_clean objects g a n x op (g.orphan a (pairs_of visited)))))

reply_clean : (a : Name) (n : ℕ) (reply : Reply) → Clean (got_reply a n reply)
reply_clean a n (replies.Done answer) = λ m. refl
reply_clean a n (replies.Busy u) = λ m. refl
reply_clean a n replies.Missed = λ m. refl
reply_clean a n replies.Refused = λ m. refl

gone_clean : (objects : List ObjectDecl) (g : Sight) (a : Name) (n : ℕ) (call : Option Addressed) (other : Did) → Clean other → Clean (gone_or objects g a n call other)
gone_clean objects g a n None other c = λ m. refl
gone_clean objects g a n (Some call) other c = if_clean (nat_lt call.count (g.known_count (site_of objects call.object))) _ other (λ m. refl) c

answer_clean : (objects : List ObjectDecl) (g : Sight) (a : Name) (n : ℕ) (reply : Reply) → Clean (answer_comes objects g a n reply)
answer_clean objects g a n reply =
    if_clean (not (awaits g a n)) _ _ (λ m. refl)
    (stopped_clean a (g.orphan a (pairs_of (g.deps a))) (gone_or objects g a n (call_of g.deeds a n) (got_reply a n reply))
    (gone_clean objects g a n (call_of g.deeds a n) (got_reply a n reply) (reply_clean a n reply)))

decided_clean : (g : Sight) (b : Name) (reason : Option Reason) → Clean (commits_or_aborts g b reason)
decided_clean g b None = λ m. refl
decided_clean g b (Some reason) = λ m. refl

child_finishes_clean : (g : Sight) (p b : Name) (counts : List ℕ) → Clean (child_finishes g p b counts)
child_finishes_clean g p b counts =
    if_clean (not (decides_child g p b)) _ _ (λ m. refl)
    (stopped_clean p (g.orphan p (pairs_of (g.deps p))) (commits_or_aborts g b (g.orphan b (pairs_of counts))) (decided_clean g b (g.orphan b (pairs_of counts))))

child_quits_clean : (g : Sight) (p b : Name) → Clean (child_quits g p b)
child_quits_clean g p b =
    if_clean (not (decides_child g p b)) _ _ (λ m. refl) (stopped_clean p (g.orphan p (pairs_of (g.deps p))) (did (aborts g b) []) (λ m. refl))

prepares_clean : (g : Sight) (a : Name) (reason : Option Reason) → Clean (prepares g a reason)
prepares_clean g a None = λ m. refl
prepares_clean g a (Some reason) = λ m. refl

finish_clean : (g : Sight) (b : Name) (p : Option Name) (counts : List ℕ) → Clean (finish_comes g b p counts)
finish_clean g b (Some p) counts = child_finishes_clean g p b counts
finish_clean g b None counts =
    if_clean (not (is_present g b) || knows_outcome g b || is_preparing g b) _ _ (λ m. refl) (prepares_clean g b (g.orphan b (pairs_of (g.deps b))))

quit_clean : (g : Sight) (b : Name) (p : Option Name) → Clean (quit_comes g b p)
quit_clean g b (Some p) = child_quits_clean g p b
quit_clean g b None = if_clean (not (is_present g b) || knows_outcome g b) _ _ (λ m. refl) (λ m. refl)

prepare_clean : (g : Sight) (f : Name) (c : ℕ) → Clean (prepare_comes g f c)
prepare_clean g f c =
    if_clean (knows_outcome g f) _ _ (λ m. refl)
    (if_clean (secured_at g.deeds f g.node) _ _ (λ m. refl) (if_clean (not (eqb c (present g))) _ _ (λ m. refl) (λ m. refl)))

vote_clean : (g : Sight) (from : ℕ) (f : Name) (c : ℕ) (agrees : Bool) → Clean (vote_comes g from f c agrees)
vote_clean g from f c agrees =
    if_clean (not (is_present g f) || not (is_preparing g f) || knows_outcome g f) _ _ (λ m. refl)
    (if_clean (not agrees) _ _ (λ m. refl)
    (if_clean (all_yes ((from, c) ∷ unwrap_or (votes g.events f) []) (g.deps f)) _ _ (λ m. refl) (λ m. refl)))

query_clean : (g : Sight) (from : ℕ) (f : Name) → Clean (query_comes g from f)
query_clean g from f =
    if_clean (knows_outcome g f) _ _ (λ m. refl) (if_clean (nat_lt (home_count f) (present g)) _ _ (λ m. refl) (λ m. refl))

arrives_clean : (objects : List ObjectDecl) (g : Sight) (from : ℕ) (b : Body) → Clean (arrives objects g from b)
arrives_clean objects g from (bodies.Start b counts) = start_clean g from b counts
arrives_clean objects g from (bodies.Call a n x op c counts) = call_clean objects g a n x op c counts
arrives_clean objects g from (bodies.Answer a n reply) = answer_clean objects g a n reply
arrives_clean objects g from (bodies.Finish b v counts) = finish_clean g b (parent b) counts
arrives_clean objects g from (bodies.Quit b) = quit_clean g b (parent b)
arrives_clean objects g from (bodies.Prepare f c) = prepare_clean g f c
arrives_clean objects g from (bodies.Vote f c agrees) = vote_clean g from f c agrees
arrives_clean objects g from (bodies.Query f) = query_clean g from f
arrives_clean objects g from bodies.News = λ m. refl

pub mail_clean : (objects : List ObjectDecl) (g : Sight) (mail : Option Mail) → Clean (arrives_mail objects g mail)
mail_clean objects g None = λ m. refl
mail_clean objects g (Some mail) = arrives_clean objects g mail.from mail.body
