-- Of the deeds of the rules none but those of a begin and of a start create an action.
use Rattle.std.proofs.Common.{◌≡◌, inl, inr, ℕ, eqb, Bool, true, false, not, ◌||◌, if◌then◌else◌, List, [], ◌∷◌, Option, Some, None, refl, sym, ◌∙◌}
use Rattle.std.specs.Prelude.{nat_lt, find, unwrap_or}
use Rattle.std.specs.List.{list_any}
use Rattle.std.proofs.lemmas.Bool.{true≢false}
use Rattle.cam_names.specs.declared.name.Name.{Name}
use Rattle.cam_names.specs.Names.{ancestors, home_count}
use Rattle.cam_names.specs.Dependencies.{pairs_of}
use Rattle.cam_type.specs.declared.ObjectDecl.{ObjectDecl}
use Rattle.cam_type.specs.declared.Op.{Op}
use Rattle.cam_know.specs.declared.Reason.{Reason}
use Rattle.cam_event.specs.declared.Operation.{Operation}
use Rattle.cam_event.specs.declared.Reply.{Reply}
use Rattle.cam_event.specs.declared.Reply.TheVariants as replies
use Rattle.cam_event.specs.declared.Body.TheVariants as bodies
use Rattle.cam_event.specs.declared.Want.{Want}
use Rattle.cam_event.specs.declared.Want.TheVariants as wants
use Rattle.cam_event.specs.declared.Note.TheVariants as notes
use Rattle.cam_event.specs.declared.Deed.{Deed}
use Rattle.cam_event.specs.declared.Deed.TheVariants.{Create}
use Rattle.cam_event.specs.History.{Addressed, created, secured_at, call_of}
use Rattle.cam_event.specs.Live.{site_of}
use Rattle.cam_event.specs.Sights.{Sight, present, is_present, knows_outcome, is_preparing, kept_reply, votes}
use Rattle.cam_event.specs.Rules.{Did, did, nothing_but, answers, send, one, stopped_by, aborts, wanted, with_home, start_comes, lift_here, is_conflict_here, on_object, bounced, served, refused_or_served, again_or, call_comes, awaits, got_reply, gone_or, answer_comes, decides_child, commits_or_aborts, prepares, finish_comes, quit_comes, prepare_comes, all_yes, vote_comes, query_comes}
use Rattle.cam_event.proofs.Members.{In, in_any}

-- whether a deed creates an action
abbrev makes : Deed → Bool
makes (Create a) = true
makes _ = false

abbrev Bare : Did → Type 0
Bare d = list_any makes d.deeds ≡ false

if_bare : (b : Bool) (x y : Did) → Bare x → Bare y → Bare (if b then x else y)
if_bare true x y h g = h
if_bare false x y h g = g

pub stopped_bare : (a : Name) (reason : Option Reason) (other : Did) → Bare other → Bare (stopped_by a reason other)
stopped_bare a None other h = h
stopped_bare a (Some reason) other h = refl

pub wanted_bare : (objects : List ObjectDecl) (g : Sight) (a : Name) (want : Want) → Bare (wanted objects g a want)
wanted_bare objects g a (wants.Ask m) = refl
wanted_bare objects g a (wants.Call x op) = refl
wanted_bare objects g a (wants.Commit v) = refl
wanted_bare objects g a wants.Abort = refl
wanted_bare objects g a (wants.GiveUp b) = refl

bounced_bare : (a : Name) (n : ℕ) (o : Option Name) → Bare (bounced a n o)
bounced_bare a n None = refl
bounced_bare a n (Some u) = refl

served_bare : (objects : List ObjectDecl) (g : Sight) (a : Name) (n x : ℕ) (op : Op) (o : Option Operation) → Bare (served objects g a n x op o)
served_bare objects g a n x op (Some o) = bounced_bare a n (lift_here g o.action)
served_bare objects g a n x op None = refl

refused_bare : (objects : List ObjectDecl) (g : Sight) (a : Name) (n x : ℕ) (op : Op) (o : Option Reason) → Bare (refused_or_served objects g a n x op o)
refused_bare objects g a n x op (Some reason) = refl
refused_bare objects g a n x op None = served_bare objects g a n x op (find (is_conflict_here g a op) (on_object x g.live))

again_bare : (a : Name) (n : ℕ) (o : Option Reply) (d : Did) → Bare d → Bare (again_or a n o d)
again_bare a n (Some reply) d h = refl
again_bare a n None d h = h

pub call_bare : (objects : List ObjectDecl) (g : Sight) (a : Name) (n x : ℕ) (op : Op) (c : ℕ) (counts : List ℕ) → Bare (call_comes objects g a n x op c counts)
call_bare objects g a n x op c counts =
    if_bare (not (eqb c (present g))) _ _ refl
    (if_bare (list_any g.knows_commit (ancestors a)) _ _ refl
    (again_bare a n (kept_reply g.deeds a n) (refused_or_served objects g a n x op (g.orphan a (pairs_of counts))) (refused_bare objects g a n x op (g.orphan a (pairs_of counts)))))

reply_bare : (a : Name) (n : ℕ) (reply : Reply) → Bare (got_reply a n reply)
reply_bare a n (replies.Done answer) = refl
reply_bare a n (replies.Busy u) = refl
reply_bare a n replies.Missed = refl
reply_bare a n replies.Refused = refl

gone_bare : (objects : List ObjectDecl) (g : Sight) (a : Name) (n : ℕ) (call : Option Addressed) (other : Did) → Bare other → Bare (gone_or objects g a n call other)
gone_bare objects g a n None other h = refl
gone_bare objects g a n (Some call) other h = if_bare (nat_lt call.count (g.known_count (site_of objects call.object))) _ other refl h

pub answer_bare : (objects : List ObjectDecl) (g : Sight) (a : Name) (n : ℕ) (reply : Reply) → Bare (answer_comes objects g a n reply)
answer_bare objects g a n reply =
    if_bare (not (awaits g a n)) _ _ refl
    (stopped_bare a (g.orphan a (pairs_of (g.deps a))) (gone_or objects g a n (call_of g.deeds a n) (got_reply a n reply))
    (gone_bare objects g a n (call_of g.deeds a n) (got_reply a n reply) (reply_bare a n reply)))

decided_bare : (g : Sight) (b : Name) (reason : Option Reason) → Bare (commits_or_aborts g b reason)
decided_bare g b None = refl
decided_bare g b (Some reason) = refl

prepares_bare : (g : Sight) (a : Name) (reason : Option Reason) → Bare (prepares g a reason)
prepares_bare g a None = refl
prepares_bare g a (Some reason) = refl

pub finish_bare : (g : Sight) (b : Name) (p : Option Name) (counts : List ℕ) → Bare (finish_comes g b p counts)
finish_bare g b (Some p) counts =
    if_bare (not (decides_child g p b)) _ _ refl
    (stopped_bare p (g.orphan p (pairs_of (g.deps p))) (commits_or_aborts g b (g.orphan b (pairs_of counts))) (decided_bare g b (g.orphan b (pairs_of counts))))
finish_bare g b None counts =
    if_bare (not (is_present g b) || knows_outcome g b || is_preparing g b) _ _ refl (prepares_bare g b (g.orphan b (pairs_of (g.deps b))))

pub quit_bare : (g : Sight) (b : Name) (p : Option Name) → Bare (quit_comes g b p)
quit_bare g b (Some p) = if_bare (not (decides_child g p b)) _ _ refl (stopped_bare p (g.orphan p (pairs_of (g.deps p))) (did (aborts g b) []) refl)
quit_bare g b None = if_bare (not (is_present g b) || knows_outcome g b) _ _ refl refl

pub prepare_bare : (g : Sight) (f : Name) (c : ℕ) → Bare (prepare_comes g f c)
prepare_bare g f c =
    if_bare (knows_outcome g f) _ _ refl
    (if_bare (secured_at g.deeds f g.node) _ _ refl (if_bare (not (eqb c (present g))) _ _ refl refl))

pub vote_bare : (g : Sight) (from : ℕ) (f : Name) (c : ℕ) (agrees : Bool) → Bare (vote_comes g from f c agrees)
vote_bare g from f c agrees =
    if_bare (not (is_present g f) || not (is_preparing g f) || knows_outcome g f) _ _ refl
    (if_bare (not agrees) _ _ refl (if_bare (all_yes ((from, c) ∷ unwrap_or (votes g.events f) []) (g.deps f)) _ _ refl refl))

pub query_bare : (g : Sight) (from : ℕ) (f : Name) → Bare (query_comes g from f)
query_bare g from f = if_bare (knows_outcome g f) _ _ refl (if_bare (nat_lt (home_count f) (present g)) _ _ refl refl)

pub never : (d : Did) (a : Name) → Bare d → In (Create a) d.deeds → ⊥
never d a bare h = true≢false (sym (in_any makes d.deeds (Create a) h refl) ∙ bare)

-- a start creates its child
pub start_creates : (g : Sight) (from : ℕ) (a b : Name) (counts : List ℕ) → In (Create a) (start_comes g from b counts).deeds → a ≡ b
start_creates g from a b counts h = by_present (not (is_present g b)) (created g.deeds b) (g.orphan b (with_home counts b)) h
  where
    by_present : (x y : Bool) (o : Option Reason) → In (Create a) (if x then answers notes.Missed (one (send from (bodies.Quit b))) else (if y then nothing_but notes.Again else stopped_by b o (did (Create b ∷ []) []))).deeds → a ≡ b
    by_present true y o i = absurd i
    by_present false true o i = absurd i
    by_present false false (Some reason) i = absurd i
    by_present false false None (inl e) = cc
    by_present false false None (inr r) = absurd r
