-- What the step rules make secures at its own node alone, and is no crash.
use Rattle.std.proofs.Common.{◌≡◌, inl, inr, ◌⊎◌, ℕ, eqb, Bool, true, false, not, ◌||◌, if◌then◌else◌, List, [], ◌∷◌, Option, Some, None, refl}
use Rattle.std.specs.Prelude.{nat_lt, find, unwrap_or}
use Rattle.std.specs.List.{list_any, list_all}
use Rattle.cam_names.specs.declared.name.Name.{Name}
use Rattle.cam_names.specs.Names.{parent, ancestors, home_count}
use Rattle.cam_names.specs.Dependencies.{pairs_of}
use Rattle.cam_type.specs.declared.ObjectDecl.{ObjectDecl}
use Rattle.cam_type.specs.declared.Op.{Op}
use Rattle.cam_know.specs.declared.Reason.{Reason}
use Rattle.cam_event.specs.declared.Operation.{Operation}
use Rattle.cam_event.specs.declared.Reply.{Reply}
use Rattle.cam_event.specs.declared.Reply.TheVariants as replies
use Rattle.cam_event.specs.declared.Body.{Body}
use Rattle.cam_event.specs.declared.Body.TheVariants as bodies
use Rattle.cam_event.specs.declared.Want.{Want}
use Rattle.cam_event.specs.declared.Want.TheVariants as wants
use Rattle.cam_event.specs.declared.Deed.{Deed}
use Rattle.cam_event.specs.declared.Deed.TheVariants.{Create, Secure, Crash}
use Rattle.cam_event.specs.History.{Addressed, created, call_of, secured_at}
use Rattle.cam_event.specs.Inputs.{Mail}
use Rattle.cam_event.specs.Live.{site_of}
use Rattle.cam_event.specs.Sights.{Sight, present, is_present, knows_outcome, is_preparing, votes, kept_reply}
use Rattle.cam_event.specs.Rules.{Did, did, stopped_by, aborts, wanted, request, with_home, start_comes, lift_here, is_conflict_here, on_object, bounced, served, refused_or_served, again_or, call_comes, awaits, got_reply, gone_or, answer_comes, decides_child, commits_or_aborts, child_finishes, child_quits, prepares, finish_comes, quit_comes, prepare_comes, all_yes, vote_comes, query_comes, arrives, arrives_mail}

-- deeds without a Secure and a crash
abbrev pub is_quiet : Deed → Bool
is_quiet (Secure f m c) = false
is_quiet (Crash m) = false
is_quiet _ = true

abbrev pub AreQuiet : List Deed → Type 0
AreQuiet ds = list_all is_quiet ds ≡ true

abbrev pub Quiet : Did → Type 0
Quiet d = AreQuiet d.deeds

-- or a Secure at the node alone
abbrev pub SecuresOnly : ℕ → List Deed → Type 0
SecuresOnly s ds = (f : Name) × (c : ℕ) × (ds ≡ Secure f s c ∷ [])

abbrev pub Own : ℕ → Did → Type 0
Own s d = Quiet d ⊎ SecuresOnly s d.deeds

if_quiet : (b : Bool) (x y : Did) → Quiet x → Quiet y → Quiet (if b then x else y)
if_quiet true x y cx cy = cx
if_quiet false x y cx cy = cy

stopped_quiet : (a : Name) (reason : Option Reason) (other : Did) → Quiet other → Quiet (stopped_by a reason other)
stopped_quiet a None other c = c
stopped_quiet a (Some reason) other c = refl

wanted_quiet : (objects : List ObjectDecl) (g : Sight) (a : Name) (want : Want) → Quiet (wanted objects g a want)
wanted_quiet objects g a (wants.Ask n) = refl
wanted_quiet objects g a (wants.Call x op) = refl
wanted_quiet objects g a (wants.Commit v) = refl
wanted_quiet objects g a wants.Abort = refl
wanted_quiet objects g a (wants.GiveUp b) = refl

pub request_quiet : (objects : List ObjectDecl) (g : Sight) (a : Name) (want : Want) → Quiet (request objects g a want)
request_quiet objects g a want = stopped_quiet a (g.orphan a (pairs_of (g.deps a))) (wanted objects g a want) (wanted_quiet objects g a want)

start_quiet : (g : Sight) (from : ℕ) (b : Name) (counts : List ℕ) → Quiet (start_comes g from b counts)
start_quiet g from b counts =
    if_quiet (not (is_present g b)) _ _ refl
    (if_quiet (created g.deeds b) _ _ refl (stopped_quiet b (g.orphan b (with_home counts b)) (did (Create b ∷ []) []) refl))

bounced_quiet : (a : Name) (n : ℕ) (u : Option Name) → Quiet (bounced a n u)
bounced_quiet a n None = refl
bounced_quiet a n (Some u) = refl

served_quiet : (objects : List ObjectDecl) (g : Sight) (a : Name) (n x : ℕ) (op : Op) (o : Option Operation) → Quiet (served objects g a n x op o)
served_quiet objects g a n x op (Some o) = bounced_quiet a n (lift_here g o.action)
served_quiet objects g a n x op None = refl

refused_quiet : (objects : List ObjectDecl) (g : Sight) (a : Name) (n x : ℕ) (op : Op) (reason : Option Reason) → Quiet (refused_or_served objects g a n x op reason)
refused_quiet objects g a n x op (Some reason) = refl
refused_quiet objects g a n x op None = served_quiet objects g a n x op (find (is_conflict_here g a op) (on_object x g.live))

again_quiet : (a : Name) (n : ℕ) (reply : Option Reply) (other : Did) → Quiet other → Quiet (again_or a n reply other)
again_quiet a n (Some reply) other c = refl
again_quiet a n None other c = c

call_quiet : (objects : List ObjectDecl) (g : Sight) (a : Name) (n x : ℕ) (op : Op) (c : ℕ) (visited : List ℕ) → Quiet (call_comes objects g a n x op c visited)
call_quiet objects g a n x op c visited =
    if_quiet (not (eqb c (present g))) _ _ refl
    (if_quiet (list_any g.knows_commit (ancestors a)) _ _ refl
    (again_quiet a n (kept_reply g.deeds a n) (refused_or_served objects g a n x op (g.orphan a (pairs_of visited))) (refused_quiet objects g a n x op (g.orphan a (pairs_of visited)))))

reply_quiet : (a : Name) (n : ℕ) (reply : Reply) → Quiet (got_reply a n reply)
reply_quiet a n (replies.Done answer) = refl
reply_quiet a n (replies.Busy u) = refl
reply_quiet a n replies.Missed = refl
reply_quiet a n replies.Refused = refl

gone_quiet : (objects : List ObjectDecl) (g : Sight) (a : Name) (n : ℕ) (call : Option Addressed) (other : Did) → Quiet other → Quiet (gone_or objects g a n call other)
gone_quiet objects g a n None other c = refl
gone_quiet objects g a n (Some call) other c = if_quiet (nat_lt call.count (g.known_count (site_of objects call.object))) _ other refl c

answer_quiet : (objects : List ObjectDecl) (g : Sight) (a : Name) (n : ℕ) (reply : Reply) → Quiet (answer_comes objects g a n reply)
answer_quiet objects g a n reply =
    if_quiet (not (awaits g a n)) _ _ refl
    (stopped_quiet a (g.orphan a (pairs_of (g.deps a))) (gone_or objects g a n (call_of g.deeds a n) (got_reply a n reply))
    (gone_quiet objects g a n (call_of g.deeds a n) (got_reply a n reply) (reply_quiet a n reply)))

decided_quiet : (g : Sight) (b : Name) (reason : Option Reason) → Quiet (commits_or_aborts g b reason)
decided_quiet g b None = refl
decided_quiet g b (Some reason) = refl

child_finishes_quiet : (g : Sight) (p b : Name) (counts : List ℕ) → Quiet (child_finishes g p b counts)
child_finishes_quiet g p b counts =
    if_quiet (not (decides_child g p b)) _ _ refl
    (stopped_quiet p (g.orphan p (pairs_of (g.deps p))) (commits_or_aborts g b (g.orphan b (pairs_of counts))) (decided_quiet g b (g.orphan b (pairs_of counts))))

child_quits_quiet : (g : Sight) (p b : Name) → Quiet (child_quits g p b)
child_quits_quiet g p b =
    if_quiet (not (decides_child g p b)) _ _ refl (stopped_quiet p (g.orphan p (pairs_of (g.deps p))) (did (aborts g b) []) refl)

prepares_quiet : (g : Sight) (a : Name) (reason : Option Reason) → Quiet (prepares g a reason)
prepares_quiet g a None = refl
prepares_quiet g a (Some reason) = refl

finish_quiet : (g : Sight) (b : Name) (p : Option Name) (counts : List ℕ) → Quiet (finish_comes g b p counts)
finish_quiet g b (Some p) counts = child_finishes_quiet g p b counts
finish_quiet g b None counts =
    if_quiet (not (is_present g b) || knows_outcome g b || is_preparing g b) _ _ refl (prepares_quiet g b (g.orphan b (pairs_of (g.deps b))))

quit_quiet : (g : Sight) (b : Name) (p : Option Name) → Quiet (quit_comes g b p)
quit_quiet g b (Some p) = child_quits_quiet g p b
quit_quiet g b None = if_quiet (not (is_present g b) || knows_outcome g b) _ _ refl refl

vote_quiet : (g : Sight) (from : ℕ) (f : Name) (c : ℕ) (agrees : Bool) → Quiet (vote_comes g from f c agrees)
vote_quiet g from f c agrees =
    if_quiet (not (is_present g f) || not (is_preparing g f) || knows_outcome g f) _ _ refl
    (if_quiet (not agrees) _ _ refl
    (if_quiet (all_yes ((from, c) ∷ unwrap_or (votes g.events f) []) (g.deps f)) _ _ refl refl))

query_quiet : (g : Sight) (from : ℕ) (f : Name) → Quiet (query_comes g from f)
query_quiet g from f =
    if_quiet (knows_outcome g f) _ _ refl (if_quiet (nat_lt (home_count f) (present g)) _ _ refl refl)

if_one : (s : ℕ) (b : Bool) (x y : Did) → Own s x → Own s y → Own s (if b then x else y)
if_one s true x y one other = one
if_one s false x y one other = other

prepare_own : (g : Sight) (f : Name) (c : ℕ) → Own g.node (prepare_comes g f c)
prepare_own g f c =
    if_one g.node (knows_outcome g f) _ _ (inl refl)
    (if_one g.node (secured_at g.deeds f g.node) _ _ (inl refl) (if_one g.node (not (eqb c (present g))) _ _ (inl refl) (inr (f, c, refl))))

arrives_own : (objects : List ObjectDecl) (g : Sight) (from : ℕ) (b : Body) → Own g.node (arrives objects g from b)
arrives_own objects g from (bodies.Start b counts) = inl (start_quiet g from b counts)
arrives_own objects g from (bodies.Call a n x op c counts) = inl (call_quiet objects g a n x op c counts)
arrives_own objects g from (bodies.Answer a n reply) = inl (answer_quiet objects g a n reply)
arrives_own objects g from (bodies.Finish b v counts) = inl (finish_quiet g b (parent b) counts)
arrives_own objects g from (bodies.Quit b) = inl (quit_quiet g b (parent b))
arrives_own objects g from (bodies.Prepare f c) = prepare_own g f c
arrives_own objects g from (bodies.Vote f c agrees) = inl (vote_quiet g from f c agrees)
arrives_own objects g from (bodies.Query f) = inl (query_quiet g from f)
arrives_own objects g from bodies.News = inl refl

pub mail_own : (objects : List ObjectDecl) (g : Sight) (mail : Option Mail) → Own g.node (arrives_mail objects g mail)
mail_own objects g None = inl refl
mail_own objects g (Some mail) = arrives_own objects g mail.from mail.body
