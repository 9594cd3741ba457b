-- What a rule creates stands at its node and present count, and what it calls is addressed to the known count.
use Rattle.std.proofs.Common.{◌≡◌, ℕ, eqb, Bool, true, false, not, ◌||◌, if◌then◌else◌, List, [], ◌∷◌, find, Option, Some, None, refl}
use Rattle.std.specs.Prelude.{nat_lt, unwrap_or}
use Rattle.std.specs.List.{list_any}
use Rattle.std.proofs.lemmas.Bool.{eqb-true, not-false}
use Rattle.cam_names.specs.declared.name.Name.{Name}
use Rattle.cam_names.specs.Names.{ancestors, parent, home_node, home_count}
use Rattle.cam_names.specs.Dependencies.{pairs_of}
use Rattle.cam_type.specs.declared.ObjectDecl.{ObjectDecl}
use Rattle.cam_type.specs.declared.Op.{Op}
use Rattle.cam_know.specs.declared.Reason.{Reason}
use Rattle.cam_event.specs.declared.Body.{Body}
use Rattle.cam_event.specs.declared.Body.TheVariants as bodies
use Rattle.cam_event.specs.declared.Reply.{Reply}
use Rattle.cam_event.specs.declared.Reply.TheVariants as replies
use Rattle.cam_event.specs.declared.Want.{Want}
use Rattle.cam_event.specs.declared.Want.TheVariants as wants
use Rattle.cam_event.specs.declared.Operation.{Operation}
use Rattle.cam_event.specs.declared.Deed.{Deed}
use Rattle.cam_event.specs.declared.Deed.TheVariants.{Create, Call}
use Rattle.cam_event.specs.History.{Addressed, created, call_of, secured_at}
use Rattle.cam_event.specs.Live.{site_of}
use Rattle.cam_event.specs.Inputs.{Input, Begins, Requests, Receives, Tells, Queries, Restarts, Mail}
use Rattle.cam_event.specs.Sights.{Sight, present, is_present, knows_outcome, is_preparing, votes, kept_reply}
use Rattle.cam_event.specs.Rules.{Did, did, one, aborts, stopped_by, wanted, with_home, start_comes, lift_here, bounced, served, refused_or_served, again_or, is_conflict_here, on_object, call_comes, awaits, got_reply, gone_or, answer_comes, decides_child, commits_or_aborts, prepares, finish_comes, quit_comes, prepare_comes, all_yes, vote_comes, query_comes, arrives, rule}
use Rattle.cam_node.specs.Lawful.{IsForNode}
use Rattle.cam_node.proofs.SoundSites.{IsForIt}

abbrev pub IsKnownDeed : List ObjectDecl → Sight → Deed → Type 0
IsKnownDeed objects g (Create b) = (home_node b ≡ g.node) × (home_count b ≡ present g)
IsKnownDeed objects g (Call a n x op c) = c ≡ g.known_count (site_of objects x)
IsKnownDeed objects g _ = Unit {0}

abbrev pub AreKnownDeeds : List ObjectDecl → Sight → List Deed → Type 0
AreKnownDeeds objects g [] = Unit {0}
AreKnownDeeds objects g (d ∷ ds) = IsKnownDeed objects g d × AreKnownDeeds objects g ds

module _ (objects : List ObjectDecl) (g : Sight) where
  abbrev Fine : Did → Type 0
  Fine d = AreKnownDeeds objects g d.deeds

  if_fine : (b : Bool) (d e : Did) → (b ≡ true → Fine d) → (b ≡ false → Fine e)
      → Fine (if b then d else e)
  if_fine true d e h k = h refl
  if_fine false d e h k = k refl

  stopped_fine : (a : Name) (reason : Option Reason) (d : Did) → Fine d
      → Fine (stopped_by a reason d)
  stopped_fine a None d h = h
  stopped_fine a (Some reason) d h = tt

  wanted_fine : (a : Name) (want : Want) → Fine (wanted objects g a want)
  wanted_fine a (wants.Ask m) = (tt, tt)
  wanted_fine a (wants.Call x op) = (refl, tt)
  wanted_fine a (wants.Commit v) = (tt, tt)
  wanted_fine a wants.Abort = (tt, tt)
  wanted_fine a (wants.GiveUp b) = (tt, (tt, tt))

  start_fine : (from : ℕ) (b : Name) (counts : List ℕ) → home_node b ≡ g.node
      → Fine (start_comes g from b counts)
  start_fine from b counts at =
      if_fine (not (is_present g b)) _ _ (λ e. tt)
      (λ e. if_fine (created g.deeds b) _ _ (λ k. tt)
      (λ k. stopped_fine b (g.orphan b (with_home counts b)) (did (one (Create b)) [])
      ((at, eqb-true (home_count b) (present g) (not-false (is_present g b) e)), tt)))

  bounced_fine : (a : Name) (n : ℕ) (u : Option Name) → Fine (bounced a n u)
  bounced_fine a n None = tt
  bounced_fine a n (Some u) = (tt, tt)

  served_fine : (a : Name) (n x : ℕ) (op : Op) (o : Option Operation)
      → Fine (served objects g a n x op o)
  served_fine a n x op None = (tt, tt)
  served_fine a n x op (Some o) = bounced_fine a n (lift_here g o.action)

  refused_fine : (a : Name) (n x : ℕ) (op : Op) (reason : Option Reason)
      → Fine (refused_or_served objects g a n x op reason)
  refused_fine a n x op (Some reason) = tt
  refused_fine a n x op None =
      served_fine a n x op (find (is_conflict_here g a op) (on_object x g.live))

  again_fine : (a : Name) (n : ℕ) (kept : Option Reply) (d : Did) → Fine d
      → Fine (again_or a n kept d)
  again_fine a n None d h = h
  again_fine a n (Some reply) d h = tt

  call_fine : (a : Name) (n x : ℕ) (op : Op) (c : ℕ) (counts : List ℕ)
      → Fine (call_comes objects g a n x op c counts)
  call_fine a n x op c counts =
      if_fine (not (eqb c (present g))) _ _ (λ e. tt)
      (λ e. if_fine (list_any g.knows_commit (ancestors a)) _ _ (λ k. tt)
      (λ k. again_fine a n (kept_reply g.deeds a n)
      (refused_or_served objects g a n x op (g.orphan a (pairs_of counts)))
      (refused_fine a n x op (g.orphan a (pairs_of counts)))))

  reply_fine : (a : Name) (n : ℕ) (reply : Reply) → Fine (got_reply a n reply)
  reply_fine a n (replies.Done answer) = (tt, tt)
  reply_fine a n (replies.Busy u) = (tt, tt)
  reply_fine a n replies.Missed = tt
  reply_fine a n replies.Refused = tt

  gone_fine : (a : Name) (n : ℕ) (call : Option Addressed) (d : Did) → Fine d
      → Fine (gone_or objects g a n call d)
  gone_fine a n None d h = tt
  gone_fine a n (Some call) d h =
      if_fine (nat_lt call.count (g.known_count (site_of objects call.object))) _ d
      (λ e. (tt, tt)) (λ e. h)

  answer_fine : (a : Name) (n : ℕ) (reply : Reply) → Fine (answer_comes objects g a n reply)
  answer_fine a n reply =
      if_fine (not (awaits g a n)) _ _ (λ e. tt)
      (λ e. stopped_fine a (g.orphan a (pairs_of (g.deps a)))
      (gone_or objects g a n (call_of g.deeds a n) (got_reply a n reply))
      (gone_fine a n (call_of g.deeds a n) (got_reply a n reply) (reply_fine a n reply)))

  decided_fine : (b : Name) (reason : Option Reason) → Fine (commits_or_aborts g b reason)
  decided_fine b None = (tt, (tt, tt))
  decided_fine b (Some reason) = (tt, (tt, tt))

  prepares_fine : (b : Name) (reason : Option Reason) → Fine (prepares g b reason)
  prepares_fine b None = tt
  prepares_fine b (Some reason) = (tt, (tt, tt))

  finish_fine : (b : Name) (p : Option Name) (counts : List ℕ) → Fine (finish_comes g b p counts)
  finish_fine b (Some p) counts =
      if_fine (not (decides_child g p b)) _ _ (λ e. tt)
      (λ e. stopped_fine p (g.orphan p (pairs_of (g.deps p)))
      (commits_or_aborts g b (g.orphan b (pairs_of counts)))
      (decided_fine b (g.orphan b (pairs_of counts))))
  finish_fine b None counts =
      if_fine (not (is_present g b) || knows_outcome g b || is_preparing g b) _ _ (λ e. tt)
      (λ e. prepares_fine b (g.orphan b (pairs_of (g.deps b))))

  quit_fine : (b : Name) (p : Option Name) → Fine (quit_comes g b p)
  quit_fine b (Some p) =
      if_fine (not (decides_child g p b)) _ _ (λ e. tt)
      (λ e. stopped_fine p (g.orphan p (pairs_of (g.deps p))) (did (aborts g b) [])
      (tt, (tt, tt)))
  quit_fine b None =
      if_fine (not (is_present g b) || knows_outcome g b) _ _ (λ e. tt) (λ e. (tt, (tt, tt)))

  prepare_fine : (f : Name) (c : ℕ) → Fine (prepare_comes g f c)
  prepare_fine f c =
      if_fine (knows_outcome g f) _ _ (λ e. tt)
      (λ e. if_fine (secured_at g.deeds f g.node) _ _ (λ k. tt)
      (λ k. if_fine (not (eqb c (present g))) _ _ (λ m. tt) (λ m. (tt, tt))))

  vote_fine : (from : ℕ) (f : Name) (c : ℕ) (agrees : Bool) → Fine (vote_comes g from f c agrees)
  vote_fine from f c agrees =
      if_fine (not (is_present g f) || not (is_preparing g f) || knows_outcome g f) _ _ (λ e. tt)
      (λ e. if_fine (not agrees) _ _ (λ k. (tt, (tt, tt)))
      (λ k. if_fine (all_yes ((from, c) ∷ unwrap_or (votes g.events f) []) (g.deps f)) _ _
      (λ m. (tt, (tt, tt))) (λ m. tt)))

  query_fine : (from : ℕ) (f : Name) → Fine (query_comes g from f)
  query_fine from f =
      if_fine (knows_outcome g f) _ _ (λ e. tt)
      (λ e. if_fine (nat_lt (home_count f) (present g)) _ _ (λ k. (tt, (tt, tt))) (λ k. tt))

  arrives_fine : (from : ℕ) (body : Body) → IsForNode objects g.node body
      → Fine (arrives objects g from body)
  arrives_fine from (bodies.Start b counts) is = start_fine from b counts is.0
  arrives_fine from (bodies.Call a n x op c counts) is = call_fine a n x op c counts
  arrives_fine from (bodies.Answer a n reply) is = answer_fine a n reply
  arrives_fine from (bodies.Finish b v counts) is = finish_fine b (parent b) counts
  arrives_fine from (bodies.Quit b) is = quit_fine b (parent b)
  arrives_fine from (bodies.Prepare f c) is = prepare_fine f c
  arrives_fine from (bodies.Vote f c agrees) is = vote_fine from f c agrees
  arrives_fine from (bodies.Query f) is = query_fine from f
  arrives_fine from bodies.News is = tt

-- So it is of each rule.
pub rule_is_known : (objects : List ObjectDecl) (g : Sight) (mail : Option Mail) (input : Input)
    → IsForIt objects g.node mail → AreKnownDeeds objects g (rule objects g mail input).deeds
rule_is_known objects g mail (Begins m) is = ((refl, refl), tt)
rule_is_known objects g mail (Requests r) is =
    stopped_fine objects g r.action (g.orphan r.action (pairs_of (g.deps r.action)))
    (wanted objects g r.action r.want) (wanted_fine objects g r.action r.want)
rule_is_known objects g None (Receives letter) is = tt
rule_is_known objects g (Some mail) (Receives letter) is =
    arrives_fine objects g mail.from mail.body is
rule_is_known objects g mail (Tells m to) is = tt
rule_is_known objects g mail (Queries m f) is = tt
rule_is_known objects g mail (Restarts m) is = (tt, tt)
