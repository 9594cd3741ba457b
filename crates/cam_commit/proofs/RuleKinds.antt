-- Which rules begin, secure or crash: those of a finish, of a prepare and of a restart.
use Rattle.std.proofs.Common.{◌≡◌, ℕ, eqb, Bool, true, false, not, ◌||◌, if◌then◌else◌, List, [], ◌∷◌, find, Option, Some, None, refl}
use Rattle.std.specs.Prelude.{nat_lt, unwrap_or}
use Rattle.std.specs.List.{list_any}
use Rattle.cam_names.specs.declared.name.Name.{Name}
use Rattle.cam_names.specs.Names.{ancestors, home_count}
use Rattle.cam_names.specs.Dependencies.{pairs_of}
use Rattle.cam_type.specs.declared.ObjectDecl.{ObjectDecl}
use Rattle.cam_type.specs.declared.Op.{Op}
use Rattle.cam_know.specs.declared.Reason.{Reason}
use Rattle.cam_event.specs.declared.Reply.{Reply}
use Rattle.cam_event.specs.declared.Reply.TheVariants as replies
use Rattle.cam_event.specs.declared.Want.{Want}
use Rattle.cam_event.specs.declared.Want.TheVariants as wants
use Rattle.cam_event.specs.declared.Note.{Note}
use Rattle.cam_event.specs.declared.Note.TheVariants as notes
use Rattle.cam_event.specs.declared.Operation.{Operation}
use Rattle.cam_event.specs.declared.Deed.{Deed}
use Rattle.cam_event.specs.declared.Deed.TheVariants.{Create, Secure, Crash}
use Rattle.cam_event.specs.History.{Addressed, created, call_of}
use Rattle.cam_event.specs.Live.{site_of}
use Rattle.cam_event.specs.Sights.{Sight, present, is_present, knows_outcome, is_preparing, votes, kept_reply}
use Rattle.cam_event.specs.Rules.{Did, did, aborts, stopped_by, wanted, request, with_home, start_comes, lift_here, bounced, served, refused_or_served, again_or, is_conflict_here, on_object, call_comes, awaits, got_reply, gone_or, answer_comes, decides_child, commits_or_aborts, child_finishes, quit_comes, all_yes, vote_comes, query_comes}

-- the deed is a Secure or a Crash; the note begins a family
abbrev pub is_marking : Deed → Bool
is_marking (Secure f site c) = true
is_marking (Crash site) = true
is_marking _ = false

abbrev pub is_beginning : Note → Bool
is_beginning (notes.Preparing f) = true
is_beginning _ = false

-- neither is there
abbrev pub Plain : Did → Type 0
Plain d = (list_any is_marking d.deeds ≡ false) × (is_beginning d.note ≡ false)

if_plain : (b : Bool) (x y : Did) → Plain x → Plain y → Plain (if b then x else y)
if_plain true x y h g = h
if_plain false x y h g = g

stopped_plain : (a : Name) (reason : Option Reason) (other : Did) → Plain other → Plain (stopped_by a reason other)
stopped_plain a None other h = h
stopped_plain a (Some reason) other h = (refl, refl)

wanted_plain : (objects : List ObjectDecl) (g : Sight) (a : Name) (want : Want) → Plain (wanted objects g a want)
wanted_plain objects g a (wants.Ask m) = (refl, refl)
wanted_plain objects g a (wants.Call x op) = (refl, refl)
wanted_plain objects g a (wants.Commit v) = (refl, refl)
wanted_plain objects g a wants.Abort = (refl, refl)
wanted_plain objects g a (wants.GiveUp b) = (refl, refl)

pub request_plain : (objects : List ObjectDecl) (g : Sight) (a : Name) (want : Want) → Plain (request objects g a want)
request_plain objects g a want = stopped_plain a (g.orphan a (pairs_of (g.deps a))) (wanted objects g a want) (wanted_plain objects g a want)

pub start_plain : (g : Sight) (from : ℕ) (b : Name) (counts : List ℕ) → Plain (start_comes g from b counts)
start_plain g from b counts =
    if_plain (not (is_present g b)) _ _ (refl, refl)
    (if_plain (created g.deeds b) _ _ (refl, refl) (stopped_plain b (g.orphan b (with_home counts b)) (did (Create b ∷ []) []) (refl, refl)))

bounced_plain : (a : Name) (n : ℕ) (u : Option Name) → Plain (bounced a n u)
bounced_plain a n None = (refl, refl)
bounced_plain a n (Some u) = (refl, refl)

served_plain : (objects : List ObjectDecl) (g : Sight) (a : Name) (n x : ℕ) (op : Op) (o : Option Operation) → Plain (served objects g a n x op o)
served_plain objects g a n x op None = (refl, refl)
served_plain objects g a n x op (Some o) = bounced_plain a n (lift_here g o.action)

refused_plain : (objects : List ObjectDecl) (g : Sight) (a : Name) (n x : ℕ) (op : Op) (reason : Option Reason) → Plain (refused_or_served objects g a n x op reason)
refused_plain objects g a n x op (Some reason) = (refl, refl)
refused_plain objects g a n x op None = served_plain objects g a n x op (find (is_conflict_here g a op) (on_object x g.live))

again_plain : (a : Name) (n : ℕ) (kept : Option Reply) (other : Did) → Plain other → Plain (again_or a n kept other)
again_plain a n None other h = h
again_plain a n (Some reply) other h = (refl, refl)

pub call_plain : (objects : List ObjectDecl) (g : Sight) (a : Name) (n x : ℕ) (op : Op) (c : ℕ) (counts : List ℕ) → Plain (call_comes objects g a n x op c counts)
call_plain objects g a n x op c counts =
    if_plain (not (eqb c (present g))) _ _ (refl, refl)
    (if_plain (list_any g.knows_commit (ancestors a)) _ _ (refl, refl)
    (again_plain a n (kept_reply g.deeds a n) (refused_or_served objects g a n x op (g.orphan a (pairs_of counts))) (refused_plain objects g a n x op (g.orphan a (pairs_of counts)))))

reply_plain : (a : Name) (n : ℕ) (reply : Reply) → Plain (got_reply a n reply)
reply_plain a n (replies.Done answer) = (refl, refl)
reply_plain a n (replies.Busy u) = (refl, refl)
reply_plain a n replies.Missed = (refl, refl)
reply_plain a n replies.Refused = (refl, refl)

gone_plain : (objects : List ObjectDecl) (g : Sight) (a : Name) (n : ℕ) (call : Option Addressed) (other : Did) → Plain other → Plain (gone_or objects g a n call other)
gone_plain objects g a n None other h = (refl, refl)
gone_plain objects g a n (Some call) other h = if_plain (nat_lt call.count (g.known_count (site_of objects call.object))) _ other (refl, refl) h

pub answer_plain : (objects : List ObjectDecl) (g : Sight) (a : Name) (n : ℕ) (reply : Reply) → Plain (answer_comes objects g a n reply)
answer_plain objects g a n reply =
    if_plain (not (awaits g a n)) _ _ (refl, refl)
    (stopped_plain a (g.orphan a (pairs_of (g.deps a))) (gone_or objects g a n (call_of g.deeds a n) (got_reply a n reply))
    (gone_plain objects g a n (call_of g.deeds a n) (got_reply a n reply) (reply_plain a n reply)))

decided_plain : (g : Sight) (b : Name) (reason : Option Reason) → Plain (commits_or_aborts g b reason)
decided_plain g b None = (refl, refl)
decided_plain g b (Some reason) = (refl, refl)

pub child_plain : (g : Sight) (p b : Name) (counts : List ℕ) → Plain (child_finishes g p b counts)
child_plain g p b counts =
    if_plain (not (decides_child g p b)) _ _ (refl, refl)
    (stopped_plain p (g.orphan p (pairs_of (g.deps p))) (commits_or_aborts g b (g.orphan b (pairs_of counts))) (decided_plain g b (g.orphan b (pairs_of counts))))

pub quit_plain : (g : Sight) (b : Name) (p : Option Name) → Plain (quit_comes g b p)
quit_plain g b (Some p) =
    if_plain (not (decides_child g p b)) _ _ (refl, refl) (stopped_plain p (g.orphan p (pairs_of (g.deps p))) (did (aborts g b) []) (refl, refl))
quit_plain g b None = if_plain (not (is_present g b) || knows_outcome g b) _ _ (refl, refl) (refl, refl)

pub vote_plain : (g : Sight) (from : ℕ) (f : Name) (c : ℕ) (agrees : Bool) → Plain (vote_comes g from f c agrees)
vote_plain g from f c agrees =
    if_plain (not (is_present g f) || not (is_preparing g f) || knows_outcome g f) _ _ (refl, refl)
    (if_plain (not agrees) _ _ (refl, refl) (if_plain (all_yes ((from, c) ∷ unwrap_or (votes g.events f) []) (g.deps f)) _ _ (refl, refl) (refl, refl)))

pub query_plain : (g : Sight) (from : ℕ) (f : Name) → Plain (query_comes g from f)
query_plain g from f = if_plain (knows_outcome g f) _ _ (refl, refl) (if_plain (nat_lt (home_count f) (present g)) _ _ (refl, refl) (refl, refl))
