-- What the arrival of a start, a call or an answer sends weighs less than the letter.
use Rattle.std.proofs.Common.{◌≤◌, ℕ, suc, ◌+◌, ◌*◌, eqb, Bool, true, false, not, if◌then◌else◌, List, [], ◌∷◌, filter, map, length, Option, Some, None, cond, arith}
use Rattle.std.specs.Prelude.{nat_lt, find}
use Rattle.std.specs.List.{list_any}
use Rattle.cam_names.specs.declared.name.Name.{Name}
use Rattle.cam_names.specs.Names.{ancestors}
use Rattle.cam_names.specs.Dependencies.{pairs_from, pairs_of}
use Rattle.cam_type.specs.declared.ObjectDecl.{ObjectDecl}
use Rattle.cam_type.specs.declared.Op.{Op}
use Rattle.cam_know.specs.declared.Reason.{Reason}
use Rattle.cam_event.specs.declared.Operation.{Operation}
use Rattle.cam_event.specs.declared.Reply.{Reply}
use Rattle.cam_event.specs.declared.Reply.TheVariants as replies
use Rattle.cam_event.specs.declared.Seen.TheVariants as seens
use Rattle.cam_event.specs.declared.Note.TheVariants as notes
use Rattle.cam_event.specs.declared.Sent.{Sent}
use Rattle.cam_event.specs.declared.Body.TheVariants as bodies
use Rattle.cam_event.specs.declared.Deed.TheVariants.{Create, Got}
use Rattle.cam_event.specs.History.{Addressed, created, call_of}
use Rattle.cam_event.specs.Live.{site_of}
use Rattle.cam_event.specs.Sights.{Sight, present, is_present, kept_reply}
use Rattle.cam_event.specs.Rules.{Did, nothing_but, did, answers, send, one, stopped_by, news, with_home, start_comes, lift_here, is_conflict_here, on_object, reply_to, bounced, served, refused_or_served, again_or, call_comes, awaits, got_reply, gone_or, answer_comes}
use Rattle.cam_runs.specs.Running.{weight}

-- what the letters of an event weigh together
abbrev pub sent_weight : List Sent → ℕ
sent_weight [] = 0
sent_weight (m ∷ ms) = weight m.body + sent_weight ms

abbrev pub Light : ℕ → Did → Type 0
Light n d = sent_weight d.sent ≤ n

-- one of two
pub either : (b : Bool) (n : ℕ) (d e : Did) → Light n d → Light n e → Light n (if b then d else e)
either true n d e h k = h
either false n d e h k = k

pub unless_stopped : (a : Name) (o : Option Reason) (n : ℕ) (d : Did) → Light n d → Light n (stopped_by a o d)
unless_stopped a None n d h = h
unless_stopped a (Some reason) n d h = omega arith

-- eight counts are at most eight pairs
pub pairs_few : (node : ℕ) (counts : List ℕ) → length (pairs_from node counts) ≤ length counts
pairs_few node [] = omega arith
pairs_few node (c ∷ counts) = by (eqb c 0) (pairs_few (node + 1) counts)
  where
    by : (b : Bool) → length (pairs_from (node + 1) counts) ≤ length counts → length (if b then pairs_from (node + 1) counts else ((node, c) ∷ pairs_from (node + 1) counts)) ≤ suc (length counts)
    by true h = omega (arith, h)
    by false h = omega (arith, h)

kept_few : {X : Type 0} (p : X → Bool) (xs : List X) → length (filter p xs) ≤ length xs
kept_few p [] = omega arith
kept_few {X} p (x ∷ xs) = by (p x) (kept_few p xs)
  where
    by : (b : Bool) → length (filter p xs) ≤ length xs → length (cond b (x ∷ filter p xs) (filter p xs)) ≤ suc (length xs)
    by true h = omega (arith, h)
    by false h = omega (arith, h)

news_weight : (ps : List (ℕ × ℕ)) → sent_weight (map (λ p. send p.0 bodies.News) ps) ≤ length ps
news_weight [] = omega arith
news_weight (p ∷ ps) = let rest = news_weight ps in omega (arith, rest)

pub prepares_weight : (a : Name) (ps : List (ℕ × ℕ)) → sent_weight (map (λ p. send p.0 (bodies.Prepare a p.1)) ps) ≤ 10 * length ps
prepares_weight a [] = omega arith
prepares_weight a (p ∷ ps) = let rest = prepares_weight a ps in omega (arith, rest)

-- a node depends on eight nodes at most
abbrev pub FewDeps : Sight → Type 0
FewDeps g = (a : Name) → length (g.deps a) ≤ 8

pub news_light : (g : Sight) (f : Name) → FewDeps g → sent_weight (news g f) ≤ 8
news_light g f few =
    let sum = news_weight (filter (λ p. not (eqb p.0 g.node)) (pairs_of (g.deps f))) in
    let kept = kept_few (λ (p : ℕ × ℕ). not (eqb p.0 g.node)) (pairs_of (g.deps f)) in
    let pairs = pairs_few 1 (g.deps f) in
    omega (arith, sum, kept, pairs, few f)

-- a start: a quit at most
pub start_light : (g : Sight) (from : ℕ) (b : Name) (counts : List ℕ) → Light 9 (start_comes g from b counts)
start_light g from b counts =
    either (not (is_present g b)) 9 (answers notes.Missed (one (send from (bodies.Quit b)))) (if created g.deeds b then nothing_but notes.Again else stopped_by b (g.orphan b (with_home counts b)) (did (one (Create b)) [])) (omega arith)
    (either (created g.deeds b) 9 (nothing_but notes.Again) (stopped_by b (g.orphan b (with_home counts b)) (did (one (Create b)) [])) (omega arith)
    (unless_stopped b (g.orphan b (with_home counts b)) 9 (did (one (Create b)) []) (omega arith)))

-- a call: an answer at most
bounced_light : (a : Name) (n : ℕ) (o : Option Name) → Light 1 (bounced a n o)
bounced_light a n None = omega arith
bounced_light a n (Some u) = omega arith

served_light : (objects : List ObjectDecl) (g : Sight) (a : Name) (n x : ℕ) (op : Op) (o : Option Operation) → Light 1 (served objects g a n x op o)
served_light objects g a n x op (Some o) = bounced_light a n (lift_here g o.action)
served_light objects g a n x op None = omega arith

refused_light : (objects : List ObjectDecl) (g : Sight) (a : Name) (n x : ℕ) (op : Op) (o : Option Reason) → Light 1 (refused_or_served objects g a n x op o)
refused_light objects g a n x op (Some reason) = omega arith
refused_light objects g a n x op None = served_light objects g a n x op (find (is_conflict_here g a op) (on_object x g.live))

again_light : (a : Name) (n : ℕ) (o : Option Reply) (d : Did) → Light 1 d → Light 1 (again_or a n o d)
again_light a n (Some reply) d h = omega arith
again_light a n None d h = h

pub call_light : (objects : List ObjectDecl) (g : Sight) (a : Name) (n x : ℕ) (op : Op) (c : ℕ) (counts : List ℕ) → Light 1 (call_comes objects g a n x op c counts)
call_light objects g a n x op c counts =
    let rest : Did = again_or a n (kept_reply g.deeds a n) (refused_or_served objects g a n x op (g.orphan a (pairs_of counts))) in
    either (not (eqb c (present g))) 1 (answers notes.Missed (reply_to a n replies.Missed)) (if list_any g.knows_commit (ancestors a) then nothing_but notes.Ended else rest) (omega arith)
    (either (list_any g.knows_commit (ancestors a)) 1 (nothing_but notes.Ended) rest (omega arith)
    (again_light a n (kept_reply g.deeds a n) (refused_or_served objects g a n x op (g.orphan a (pairs_of counts))) (refused_light objects g a n x op (g.orphan a (pairs_of counts)))))

-- an answer: nothing
got_light : (a : Name) (n : ℕ) (reply : Reply) → Light 0 (got_reply a n reply)
got_light a n (replies.Done answer) = omega arith
got_light a n (replies.Busy u) = omega arith
got_light a n replies.Missed = omega arith
got_light a n replies.Refused = omega arith

gone_light : (objects : List ObjectDecl) (g : Sight) (a : Name) (n : ℕ) (o : Option Addressed) (d : Did) → Light 0 d → Light 0 (gone_or objects g a n o d)
gone_light objects g a n None d h = omega arith
gone_light objects g a n (Some call) d h = either (nat_lt call.count (g.known_count (site_of objects call.object))) 0 (did (one (Got a n seens.Gone)) []) d (omega arith) h

pub answer_light : (objects : List ObjectDecl) (g : Sight) (a : Name) (n : ℕ) (reply : Reply) → Light 0 (answer_comes objects g a n reply)
answer_light objects g a n reply =
    let rest : Did = gone_or objects g a n (call_of g.deeds a n) (got_reply a n reply) in
    either (not (awaits g a n)) 0 (nothing_but notes.Late) (stopped_by a (g.orphan a (pairs_of (g.deps a))) rest) (omega arith)
    (unless_stopped a (g.orphan a (pairs_of (g.deps a))) 0 rest (gone_light objects g a n (call_of g.deeds a n) (got_reply a n reply) (got_light a n reply)))
