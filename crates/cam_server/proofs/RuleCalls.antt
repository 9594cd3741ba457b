-- What a site does with a call by the rules is what the server answers.
use Rattle.std.proofs.Common.{◌≡◌, ℕ, eqb, Bool, true, false, not, if◌then◌else◌, cond, List, [], ◌∷◌, filter, find, Option, Some, None, option_and_then, sym, ap, ap₂, subst, ◌∙◌, refl, true≢false}
use Rattle.std.specs.List.{list_any}
use Rattle.cam_names.specs.declared.name.Name.{Name}
use Rattle.cam_names.specs.Names.{ancestors}
use Rattle.cam_names.specs.Dependencies.{pairs_of}
use Rattle.cam_type.specs.declared.ObjectDecl.{ObjectDecl}
use Rattle.cam_type.specs.declared.Op.{Op}
use Rattle.cam_type.specs.declared.Answer.{Answer}
use Rattle.cam_type.specs.declared.State.{State}
use Rattle.cam_type.specs.Table.{answer_of, state_after}
use Rattle.cam_type.specs.Objects.{start_of}
use Rattle.cam_type.specs.Moss.{conflicts}
use Rattle.cam_know.specs.declared.Reason.{Reason}
use Rattle.cam_know.specs.Knowledge.{Knowledge}
use Rattle.cam_know.specs.Known.{lift_by, knows_commit, new_aborts, new_commits}
use Rattle.cam_know.specs.Orphans.{known_orphan}
use Rattle.cam_event.specs.declared.Operation.{Operation}
use Rattle.cam_event.specs.declared.Reply.{Reply}
use Rattle.cam_event.specs.Live as live
use Rattle.cam_event.specs.Sights.{Sight}
use Rattle.cam_event.specs.Rules as rules
use Rattle.cam_event.specs.Rules.{Did, lift_here, is_conflict_here, on_object, refused_or_served}
use Rattle.cam_event.specs.ByKnowledge.{held, held_informs}
use Rattle.cam_event.specs.HeldSites.{Placed, site}
use Rattle.cam_event.specs.Carried.{deeds_of}
use Rattle.cam_locks.specs.declared.LiveOp.{LiveOp}
use Rattle.cam_locks.specs.Moss.{is_on, replay, value, lift_in, lift_of}
use Rattle.cam_locks.specs.Calls.{grant_by, grant}
use Rattle.cam_server.specs.declared.Performed.TheVariants as performed
use Rattle.cam_server.specs.Server.{Server, AreLive, AreLiveOps}
use Rattle.cam_server.specs.Calls.{Asked, again_or, orphan_or, granted}
use Rattle.cam_server.specs.Steps.{AnswersSight, did_performed, PerformedIsRule, SightIsAnswered}
use Rattle.cam_server.proofs.QuietDeeds.{quiet_live, informs_quiet}
use Rattle.cam_server.proofs.Serving.{serves, informed_serves}

-- both lists lead to the same state of an object
same_replay : (x : ℕ) (ks : List LiveOp) (os : List Operation) (state : State) → AreLive ks os
    → replay state (filter (is_on x) ks) ≡ live.replay state (on_object x os)
same_replay x [] [] state are = refl
same_replay x [] (o ∷ os) state are = absurd are
same_replay x (k ∷ ks) [] state are = absurd are
same_replay x (k ∷ ks) (o ∷ os) state are =
    ap (λ (y : ℕ). replay state (cond (eqb y x) (k ∷ filter (is_on x) ks) (filter (is_on x) ks))) are.0.object
    ∙ by (eqb o.object x) (λ s. same_replay x ks os s are.1)
  where
    by : (b : Bool) → ((s : State) → replay s (filter (is_on x) ks) ≡ live.replay s (on_object x os))
        → replay state (cond b (k ∷ filter (is_on x) ks) (filter (is_on x) ks)) ≡ live.replay state (cond b (o ∷ on_object x os) (on_object x os))
    by true rest = rest (state_after state k.op) ∙ ap (λ (p : Op). live.replay (state_after state p) (on_object x os)) are.0.op
    by false rest = rest state

-- what is found in both is one operation, and it passes the test
abbrev AreFound : (LiveOp → Bool) → Option LiveOp → Option Operation → Type 0
AreFound test None None = Unit {0}
AreFound test (Some k) (Some o) = (k.action ≡ o.action) × (test k ≡ true)
AreFound test None (Some o) = ⊥
AreFound test (Some k) None = ⊥

same_found : (test : LiveOp → Bool) (other : Operation → Bool) (x : ℕ) (ks : List LiveOp) (os : List Operation)
    → ((k : LiveOp) (o : Operation) → k.action ≡ o.action → k.op ≡ o.op → test k ≡ other o) → AreLive ks os
    → AreFound test (find test (filter (is_on x) ks)) (find other (on_object x os))
same_found test other x [] [] same are = tt
same_found test other x [] (o ∷ os) same are = absurd are
same_found test other x (k ∷ ks) [] same are = absurd are
same_found test other x (k ∷ ks) (o ∷ os) same are =
    by (eqb k.object x) (eqb o.object x) (ap (λ (y : ℕ). eqb y x) are.0.object) (same_found test other x ks os same are.1)
  where
    found : (c d : Bool) → test k ≡ c → c ≡ d
        → AreFound test (find test (filter (is_on x) ks)) (find other (on_object x os))
        → AreFound test (cond c (Some k) (find test (filter (is_on x) ks))) (cond d (Some o) (find other (on_object x os)))
    found true true is e rest = (are.0.action, is)
    found false false is e rest = rest
    found true false is e rest = absurd (true≢false e)
    found false true is e rest = absurd (true≢false (sym e))

    by : (b c : Bool) → b ≡ c → AreFound test (find test (filter (is_on x) ks)) (find other (on_object x os))
        → AreFound test (find test (cond b (k ∷ filter (is_on x) ks) (filter (is_on x) ks))) (find other (cond c (o ∷ on_object x os) (on_object x os)))
    by true true e rest = found (test k) (other o) refl (same k o are.0.action are.0.op) rest
    by false false e rest = rest
    by true false e rest = absurd (true≢false e)
    by false true e rest = absurd (true≢false (sym e))

-- the grant is what the rule serves
same_served : (objects : List ObjectDecl) (g : Sight) (k : Knowledge) (server : Server) (asked : Asked)
    → AnswersSight objects g k server
    → rules.served objects g asked.action asked.number asked.object asked.op (find (is_conflict_here g asked.action asked.op) (on_object asked.object g.live))
    ≡ did_performed asked (granted (grant server.table.site asked.action asked.object asked.op))
same_served objects g k server asked is =
    by (find test (filter (is_on asked.object) server.table.site.live)) (find (is_conflict_here g asked.action asked.op) (on_object asked.object g.live))
    (same_found test (is_conflict_here g asked.action asked.op) asked.object server.table.site.live g.live same_test is.live)
  where
    lift : Name → Option Name
    lift a = lift_in server.table.site.committed a

    same_lift : (a : Name) → lift a ≡ lift_here g a
    same_lift a = ap (λ (t : Name → Bool). lift_by t a) (λ i u. is.commits u i)

    test : LiveOp → Bool
    test o = conflicts asked.action asked.op (lift o.action) o.op

    same_test : (o : LiveOp) (p : Operation) → o.action ≡ p.action → o.op ≡ p.op
        → test o ≡ is_conflict_here g asked.action asked.op p
    same_test o p action op = ap₂ (λ (l : Option Name) (done : Op). conflicts asked.action asked.op l done) (ap lift action ∙ same_lift p.action) op

    same_value : answer_of (live.replay (start_of objects asked.object) (on_object asked.object g.live)) asked.op ≡ answer_of (value server.table.site asked.object) asked.op
    same_value =
        ap (λ (s : State). answer_of s asked.op)
        (sym (same_replay asked.object server.table.site.live g.live (start_of objects asked.object) is.live)
        ∙ ap (λ (os : List ObjectDecl). replay (start_of os asked.object) (filter (is_on asked.object) server.table.site.live)) (sym is.objects_are))

    in_the_way : (l : Option Name) (o : LiveOp) → conflicts asked.action asked.op l o.op ≡ true
        → rules.bounced asked.action asked.number l ≡ did_performed asked (granted (grant_by l (answer_of (value server.table.site asked.object) asked.op)))
    in_the_way None o h = absurd (true≢false (sym h))
    in_the_way (Some u) o h = refl

    by : (f : Option LiveOp) (h : Option Operation) → AreFound test f h
        → rules.served objects g asked.action asked.number asked.object asked.op h
        ≡ did_performed asked (granted (grant_by (option_and_then (lift_of server.table.site.committed) f) (answer_of (value server.table.site asked.object) asked.op)))
    by None None are = ap (λ (answer : Answer). rules.performed asked.action asked.number answer) same_value
    by None (Some o) are = absurd are
    by (Some o) None are = absurd are
    by (Some o) (Some p) are =
        ap (rules.bounced asked.action asked.number) (sym (ap lift are.0 ∙ same_lift p.action)) ∙ in_the_way (lift o.action) o are.1

pub performed_is_rule : PerformedIsRule
performed_is_rule objects g k server asked is =
    (λ i. if not (eqb asked.count (sym is.count i)) then missed else if list_any (λ u. sym (is.knows u) i) (ancestors asked.action) then ended
    else rules.again_or asked.action asked.number (sym (is.replies asked.action asked.number) i)
    (refused_or_served objects g asked.action asked.number asked.object asked.op (sym (is.orphans asked.action (pairs_of asked.visited)) i)))
    ∙ by (not (eqb asked.count server.count)) (list_any (knows_commit k) (ancestors asked.action)) (server.kept_reply asked.action asked.number)
    (known_orphan k asked.action (pairs_of asked.visited))
  where
    missed : Did
    missed = did_performed asked performed.Missed

    ended : Did
    ended = did_performed asked performed.Ended

    by : (m e : Bool) (kept : Option Reply) (why : Option Reason)
        → (if m then missed else if e then ended else rules.again_or asked.action asked.number kept
        (refused_or_served objects g asked.action asked.number asked.object asked.op why))
        ≡ did_performed asked (if m then performed.Missed else if e then performed.Ended
        else again_or kept (orphan_or why (granted (grant server.table.site asked.action asked.object asked.op))))
    by true e kept why = refl
    by false true kept why = refl
    by false false (Some reply) why = refl
    by false false None (Some reason) = refl
    by false false None None = same_served objects g k server asked is

pub sight_is_answered : SightIsAnswered
sight_is_answered objects s before brought old mid is are =
    let first = held_informs objects s before brought in
    let quiet = informs_quiet s (new_aborts brought (held objects before)) (new_commits brought (held objects before)) in
    let goes = informed_serves objects s (deeds_of before) first (site before).live old mid quiet are (serves objects s before old is) in
    record {
      count = goes.count_is;
      objects_are = goes.site.objects_are;
      live =
          subst (λ (ps : List Placed). AreLiveOps mid.table.site.live ps)
          (sym (quiet_live s (deeds_of before) None (site before) first quiet)) goes.site.operations;
      commits = goes.commits;
      replies = goes.replies;
      knows = λ u. refl;
      orphans = λ a visited. refl;
    }
