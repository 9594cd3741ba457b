-- Which rules perform and bounce nothing: all but that of a call that comes, and a restart. And what that of a call does.
use Rattle.std.proofs.Common.{◌≡◌, ℕ, eqb, Bool, true, false, not, ◌&&◌, ◌||◌, if◌then◌else◌, List, [], ◌∷◌, ◌++◌, Option, Some, None, ap, ◌∙◌, refl, eq-eqb}
use Rattle.std.specs.Prelude.{nat_lt, unwrap_or}
use Rattle.std.specs.List.{list_all}
use Rattle.std.proofs.lemmas.Bool.{and_parts}
use Rattle.cam_names.specs.declared.name.Name.{Name}
use Rattle.cam_names.specs.Names.{parent, home_count}
use Rattle.cam_names.specs.Dependencies.{pairs_of}
use Rattle.cam_type.specs.declared.ObjectDecl.{ObjectDecl}
use Rattle.cam_know.specs.declared.Reason.{Reason}
use Rattle.cam_know.specs.Known.{new_aborts, new_commits}
use Rattle.cam_event.specs.declared.Body.{Body}
use Rattle.cam_event.specs.declared.Body.TheVariants as bodies
use Rattle.cam_event.specs.declared.Deed.{Deed}
use Rattle.cam_event.specs.declared.Deed.TheVariants.{Create, Inform}
use Rattle.cam_event.specs.declared.Reply.{Reply}
use Rattle.cam_event.specs.declared.Reply.TheVariants as replies
use Rattle.cam_event.specs.declared.Want.{Want}
use Rattle.cam_event.specs.declared.Want.TheVariants as wants
use Rattle.cam_event.specs.History.{Addressed, created, secured_at, call_of}
use Rattle.cam_event.specs.Live.{site_of}
use Rattle.cam_event.specs.Inputs.{Input, Begins, Requests, Receives, Tells, Queries, Restarts, Mail}
use Rattle.cam_event.specs.Sights.{Sight, present, is_present, knows_outcome, is_preparing, votes}
use Rattle.cam_event.specs.Rules.{Did, did, aborts, stopped_by, wanted, request, with_home, start_comes, awaits, got_reply, gone_or, answer_comes, decides_child, commits_or_aborts, prepares, finish_comes, quit_comes, prepare_comes, all_yes, vote_comes, query_comes, arrives, rule}
use Rattle.cam_event.specs.ByKnowledge.{held, held_sight, held_informs}
use Rattle.cam_server.specs.declared.Performed.{Performed}
use Rattle.cam_server.specs.declared.Performed.TheVariants as performed
use Rattle.cam_server.specs.Calls.{Asked, performed_by}
use Rattle.cam_server.specs.Events.{is_quiet, AreQuiet, served_deed}
use Rattle.cam_server.specs.Steps.{did_performed, is_call, calls_or_restarts, OthersAreQuiet, CallsAreServed}
use Rattle.cam_server.proofs.QuietDeeds.{informs_quiet}
use Rattle.cam_server.proofs.RuleCalls.{performed_is_rule}

abbrev Quiet : Sight → Did → Type 0
Quiet g d = AreQuiet g.node d.deeds

if_quiet : (g : Sight) (b : Bool) (x y : Did) → Quiet g x → Quiet g y → Quiet g (if b then x else y)
if_quiet g true x y h k = h
if_quiet g false x y h k = k

stopped_quiet : (g : Sight) (a : Name) (reason : Option Reason) (other : Did) → Quiet g other
    → Quiet g (stopped_by a reason other)
stopped_quiet g a None other h = h
stopped_quiet g a (Some reason) other h = refl

-- a decision informs the own site
own_inform : (g : Sight) (b : Name) (committed : Bool) → AreQuiet g.node (Inform g.node b committed ∷ [])
own_inform g b committed = ap (λ t. t && true) (eq-eqb g.node g.node refl)

wanted_quiet : (objects : List ObjectDecl) (g : Sight) (a : Name) (want : Want)
    → Quiet g (wanted objects g a want)
wanted_quiet objects g a (wants.Ask m) = refl
wanted_quiet objects g a (wants.Call x op) = refl
wanted_quiet objects g a (wants.Commit v) = refl
wanted_quiet objects g a wants.Abort = refl
wanted_quiet objects g a (wants.GiveUp b) = own_inform g b false

request_quiet : (objects : List ObjectDecl) (g : Sight) (a : Name) (want : Want)
    → Quiet g (request objects g a want)
request_quiet objects g a want = stopped_quiet g a (g.orphan a (pairs_of (g.deps a))) (wanted objects g a want) (wanted_quiet objects g a want)

start_quiet : (g : Sight) (from : ℕ) (b : Name) (counts : List ℕ) → Quiet g (start_comes g from b counts)
start_quiet g from b counts =
    if_quiet g (not (is_present g b)) _ _ refl
    (if_quiet g (created g.deeds b) _ _ refl (stopped_quiet g b (g.orphan b (with_home counts b)) (did (Create b ∷ []) []) refl))

reply_quiet : (g : Sight) (a : Name) (n : ℕ) (reply : Reply) → Quiet g (got_reply a n reply)
reply_quiet g a n (replies.Done answer) = refl
reply_quiet g a n (replies.Busy u) = refl
reply_quiet g a n replies.Missed = refl
reply_quiet g a n replies.Refused = refl

gone_quiet : (objects : List ObjectDecl) (g : Sight) (a : Name) (n : ℕ) (call : Option Addressed) (other : Did)
    → Quiet g other → Quiet g (gone_or objects g a n call other)
gone_quiet objects g a n None other h = refl
gone_quiet objects g a n (Some call) other h = if_quiet g (nat_lt call.count (g.known_count (site_of objects call.object))) _ other refl h

answer_quiet : (objects : List ObjectDecl) (g : Sight) (a : Name) (n : ℕ) (reply : Reply)
    → Quiet g (answer_comes objects g a n reply)
answer_quiet objects g a n reply =
    if_quiet g (not (awaits g a n)) _ _ refl
    (stopped_quiet g a (g.orphan a (pairs_of (g.deps a))) (gone_or objects g a n (call_of g.deeds a n) (got_reply a n reply))
    (gone_quiet objects g a n (call_of g.deeds a n) (got_reply a n reply) (reply_quiet g a n reply)))

decided_quiet : (g : Sight) (b : Name) (reason : Option Reason) → Quiet g (commits_or_aborts g b reason)
decided_quiet g b None = own_inform g b true
decided_quiet g b (Some reason) = own_inform g b false

prepares_quiet : (g : Sight) (a : Name) (reason : Option Reason) → Quiet g (prepares g a reason)
prepares_quiet g a None = refl
prepares_quiet g a (Some reason) = own_inform g a false

finish_quiet : (g : Sight) (b : Name) (p : Option Name) (counts : List ℕ) → Quiet g (finish_comes g b p counts)
finish_quiet g b (Some p) counts =
    if_quiet g (not (decides_child g p b)) _ _ refl
    (stopped_quiet g p (g.orphan p (pairs_of (g.deps p))) (commits_or_aborts g b (g.orphan b (pairs_of counts))) (decided_quiet g b (g.orphan b (pairs_of counts))))
finish_quiet g b None counts =
    if_quiet g (not (is_present g b) || knows_outcome g b || is_preparing g b) _ _ refl (prepares_quiet g b (g.orphan b (pairs_of (g.deps b))))

quit_quiet : (g : Sight) (b : Name) (p : Option Name) → Quiet g (quit_comes g b p)
quit_quiet g b (Some p) =
    if_quiet g (not (decides_child g p b)) _ _ refl (stopped_quiet g p (g.orphan p (pairs_of (g.deps p))) (did (aborts g b) []) (own_inform g b false))
quit_quiet g b None = if_quiet g (not (is_present g b) || knows_outcome g b) _ _ refl (own_inform g b false)

prepare_quiet : (g : Sight) (f : Name) (c : ℕ) → Quiet g (prepare_comes g f c)
prepare_quiet g f c =
    if_quiet g (knows_outcome g f) _ _ refl (if_quiet g (secured_at g.deeds f g.node) _ _ refl (if_quiet g (not (eqb c (present g))) _ _ refl refl))

vote_quiet : (g : Sight) (from : ℕ) (f : Name) (c : ℕ) (agrees : Bool) → Quiet g (vote_comes g from f c agrees)
vote_quiet g from f c agrees =
    if_quiet g (not (is_present g f) || not (is_preparing g f) || knows_outcome g f) _ _ refl
    (if_quiet g (not agrees) _ _ (own_inform g f false)
    (if_quiet g (all_yes ((from, c) ∷ unwrap_or (votes g.events f) []) (g.deps f)) _ _ (own_inform g f true) refl))

query_quiet : (g : Sight) (from : ℕ) (f : Name) → Quiet g (query_comes g from f)
query_quiet g from f = if_quiet g (knows_outcome g f) _ _ refl (if_quiet g (nat_lt (home_count f) (present g)) _ _ (own_inform g f false) refl)

arrives_quiet : (objects : List ObjectDecl) (g : Sight) (from : ℕ) (body : Body) → is_call body ≡ false
    → Quiet g (arrives objects g from body)
arrives_quiet objects g from (bodies.Start b counts) other = start_quiet g from b counts
arrives_quiet objects g from (bodies.Call a n x op c counts) other = cc
arrives_quiet objects g from (bodies.Answer a n reply) other = answer_quiet objects g a n reply
arrives_quiet objects g from (bodies.Finish b v counts) other = finish_quiet g b (parent b) counts
arrives_quiet objects g from (bodies.Quit b) other = quit_quiet g b (parent b)
arrives_quiet objects g from (bodies.Prepare f c) other = prepare_quiet g f c
arrives_quiet objects g from (bodies.Vote f c agrees) other = vote_quiet g from f c agrees
arrives_quiet objects g from (bodies.Query f) other = query_quiet g from f
arrives_quiet objects g from bodies.News other = refl

rule_quiet : (objects : List ObjectDecl) (g : Sight) (mail : Option Mail) (input : Input)
    → calls_or_restarts input mail ≡ false → Quiet g (rule objects g mail input)
rule_quiet objects g mail (Begins m) other = refl
rule_quiet objects g mail (Requests r) other = request_quiet objects g r.action r.want
rule_quiet objects g None (Receives letter) other = refl
rule_quiet objects g (Some mail) (Receives letter) other = arrives_quiet objects g mail.from mail.body other
rule_quiet objects g mail (Tells m to) other = refl
rule_quiet objects g mail (Queries m f) other = refl
rule_quiet objects g mail (Restarts m) other = cc

both_quiet : (s : ℕ) (ds es : List Deed) → AreQuiet s ds → AreQuiet s es → AreQuiet s (ds ++ es)
both_quiet s [] es h k = k
both_quiet s (d ∷ ds) es h k =
    let parts = and_parts (is_quiet s d) (list_all (is_quiet s) ds) h in
    ap (λ b. b && list_all (is_quiet s) (ds ++ es)) parts.0 ∙ both_quiet s ds es parts.1 k

pub others_are_quiet : OthersAreQuiet
others_are_quiet objects s before input mail brought other =
    both_quiet s (held_informs objects s before brought) (rule objects (held_sight objects s before brought) mail input).deeds
    (informs_quiet s (new_aborts brought (held objects before)) (new_commits brought (held objects before)))
    (rule_quiet objects (held_sight objects s before brought) mail input other)

-- the deeds of a call's rule are those of what is served
same_deeds : (asked : Asked) (r : Performed) → (did_performed asked r).deeds ≡ served_deed asked r
same_deeds asked performed.Missed = refl
same_deeds asked performed.Ended = refl
same_deeds asked (performed.Again reply) = refl
same_deeds asked (performed.Orphan reason) = refl
same_deeds asked (performed.Busy u) = refl
same_deeds asked (performed.Done answer) = refl

pub calls_are_served : CallsAreServed
calls_are_served objects s before letter mail brought k server asked is answers =
    let g = held_sight objects s before brought in
    let first = held_informs objects s before brought in
    record {
      quiet = informs_quiet s (new_aborts brought (held objects before)) (new_commits brought (held objects before));
      deeds =
          ap (λ (body : Body). first ++ (arrives objects g mail.from body).deeds) is
          ∙ ap (λ (d : Did). first ++ d.deeds) (performed_is_rule objects g k server asked answers)
          ∙ ap (λ (ds : List Deed). first ++ ds) (same_deeds asked (performed_by k server asked));
      mail = (mail, refl, is);
    }
