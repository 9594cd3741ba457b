-- What a rule makes of a letter or request that may be put to a node: of its deeds what is created, called and crashed, and of its letters where
-- they go and what they depend on.
use Rattle.std.proofs.Common.{◌≡◌, inl, inr, ℕ, ℤ, ◌≤◌, eqb, Bool, true, false, not, ◌||◌, if◌then◌else◌, List, [], ◌∷◌, Option, Some, None, refl, sym, ap, ◌∙◌, subst, arith}
use Rattle.std.specs.Prelude.{nat_lt, find, unwrap_or}
use Rattle.std.specs.List.{list_any}
use Rattle.cam_names.specs.declared.name.Name.{Name}
use Rattle.cam_names.specs.Names.{ancestors, is_top, parent, home_node, home_count}
use Rattle.cam_names.specs.Dependencies.{pairs_of}
use Rattle.cam_type.specs.declared.ObjectDecl.{ObjectDecl}
use Rattle.cam_type.specs.declared.Op.{Op}
use Rattle.cam_know.specs.declared.Reason.{Reason}
use Rattle.cam_event.specs.declared.Operation.{Operation}
use Rattle.cam_event.specs.declared.Reply.{Reply}
use Rattle.cam_event.specs.declared.Reply.TheVariants as replies
use Rattle.cam_event.specs.declared.Body.{Body}
use Rattle.cam_event.specs.declared.Body.TheVariants as bodies
use Rattle.cam_event.specs.declared.Note.TheVariants as notes
use Rattle.cam_event.specs.declared.Deed.TheVariants.{Create, Perform, Bounce, Got, Secure, Crash}
use Rattle.cam_event.specs.History.{Addressed, created, secured_at, call_of}
use Rattle.cam_event.specs.Live.{site_of}
use Rattle.cam_event.specs.Inputs.{Input, Begins, Requests, Receives, Tells, Queries, Restarts, Mail, decider, decider_of}
use Rattle.cam_event.specs.Sights.{Sight, present, is_present, knows_outcome, is_preparing, kept_reply, votes}
use Rattle.cam_event.specs.Rules.{Did, did, nothing_but, answers, send, one, stopped_by, commits, aborts, news, wanted, top_name, with_home, start_comes, lift_here, is_conflict_here, on_object, bounced, served, refused_or_served, again_or, call_comes, awaits, got_reply, gone_or, answer_comes, decides_child, commits_or_aborts, prepares, finish_comes, quit_comes, vote, prepare_comes, all_yes, vote_comes, query_comes, arrives, rule}
use Rattle.cam_event.specs.Loads.{Load}
use Rattle.cam_node.specs.Lawful.{IsForNode, IsLetter, MayBePut}
use Rattle.cam_cut.proofs.TopGood.{parent_top}
use Rattle.cam_storm.specs.Names.{IsFrom}
use Rattle.cam_storm.proofs.Driving.{named_at}
use Rattle.cam_storm.proofs.Rules.{StartOf, LetterFine, Fine, if_fine, none_fine, stopped_fine, one_sent, answers_fine, deed_fine, both_fine, aborts_deeds, commits_deeds, news_one, news_fine, prepares_sent, wanted_fine}

module _ (objects : List ObjectDecl) (g : Sight) (mail : Option Mail) (input : Input) where
  -- a call
  reply_fine : (a : Name) (n : ℕ) (reply : Reply) → LetterFine objects g input (send (home_node a) (bodies.Answer a n reply))
  reply_fine a n reply = record { for_node = refl; counts = inl refl; from = tt; names = tt }

  bounced_fine : (a : Name) (n : ℕ) (o : Option Name) → Fine objects g mail input (bounced a n o)
  bounced_fine a n None = none_fine objects g mail input notes.Plain
  bounced_fine a n (Some u) = both_fine objects g mail input (Bounce a n u) _ tt (reply_fine a n (replies.Busy u))

  served_fine : (a : Name) (n x : ℕ) (op : Op) (o : Option Operation) → Fine objects g mail input (served objects g a n x op o)
  served_fine a n x op (Some o) = bounced_fine a n (lift_here g o.action)
  served_fine a n x op None = both_fine objects g mail input (Perform a n _) _ tt (reply_fine a n (replies.Done _))

  refused_fine : (a : Name) (n x : ℕ) (op : Op) (o : Option Reason) → Fine objects g mail input (refused_or_served objects g a n x op o)
  refused_fine a n x op (Some reason) = answers_fine objects g mail input (notes.Stopped a reason) _ (reply_fine a n replies.Refused)
  refused_fine a n x op None = served_fine a n x op (find (is_conflict_here g a op) (on_object x g.live))

  again_fine : (a : Name) (n : ℕ) (o : Option Reply) (d : Did) → Fine objects g mail input d → Fine objects g mail input (again_or a n o d)
  again_fine a n (Some reply) d h = answers_fine objects g mail input notes.Again _ (reply_fine a n reply)
  again_fine a n None d h = h

  call_fine : (a : Name) (n x : ℕ) (op : Op) (c : ℕ) (counts : List ℕ) → Fine objects g mail input (call_comes objects g a n x op c counts)
  call_fine a n x op c counts =
      let rest : Did = again_or a n (kept_reply g.deeds a n) (refused_or_served objects g a n x op (g.orphan a (pairs_of counts))) in
      if_fine objects g mail input (not (eqb c (present g))) (answers notes.Missed (one (send (home_node a) (bodies.Answer a n replies.Missed)))) (if list_any g.knows_commit (ancestors a) then nothing_but notes.Ended else rest) (λ e. answers_fine objects g mail input notes.Missed _ (reply_fine a n replies.Missed))
      (λ e. if_fine objects g mail input (list_any g.knows_commit (ancestors a)) (nothing_but notes.Ended) rest (λ f. none_fine objects g mail input notes.Ended)
      (λ f. again_fine a n (kept_reply g.deeds a n) (refused_or_served objects g a n x op (g.orphan a (pairs_of counts))) (refused_fine a n x op (g.orphan a (pairs_of counts)))))

  -- an answer
  got_fine : (a : Name) (n : ℕ) (reply : Reply) → Fine objects g mail input (got_reply a n reply)
  got_fine a n (replies.Done answer) = deed_fine objects g mail input (Got a n _) tt
  got_fine a n (replies.Busy u) = deed_fine objects g mail input (Got a n _) tt
  got_fine a n replies.Missed = none_fine objects g mail input notes.Late
  got_fine a n replies.Refused = none_fine objects g mail input notes.Late

  gone_fine : (a : Name) (n : ℕ) (o : Option Addressed) (d : Did) → Fine objects g mail input d → Fine objects g mail input (gone_or objects g a n o d)
  gone_fine a n None d h = none_fine objects g mail input notes.Late
  gone_fine a n (Some call) d h = if_fine objects g mail input (nat_lt call.count (g.known_count (site_of objects call.object))) (did (one (Got a n _)) []) d (λ e. deed_fine objects g mail input (Got a n _) tt) (λ e. h)

  answer_fine : (a : Name) (n : ℕ) (reply : Reply) → Fine objects g mail input (answer_comes objects g a n reply)
  answer_fine a n reply =
      let rest : Did = gone_or objects g a n (call_of g.deeds a n) (got_reply a n reply) in
      if_fine objects g mail input (not (awaits g a n)) (nothing_but notes.Late) (stopped_by a (g.orphan a (pairs_of (g.deps a))) rest) (λ e. none_fine objects g mail input notes.Late)
      (λ e. stopped_fine objects g mail input a (g.orphan a (pairs_of (g.deps a))) rest (gone_fine a n (call_of g.deeds a n) (got_reply a n reply) (got_fine a n reply)))

  -- a finish or a quit
  decided_fine : (b : Name) (o : Option Reason) → Fine objects g mail input (commits_or_aborts g b o)
  decided_fine b None = record { deeds = commits_deeds objects g mail input b; sent = λ m i. absurd i }
  decided_fine b (Some reason) = record { deeds = aborts_deeds objects g mail input b; sent = λ m i. absurd i }

  prepares_fine : (a : Name) (o : Option Reason) → is_top a ≡ true → home_node a ≡ g.node → Fine objects g mail input (prepares g a o)
  prepares_fine a None top home = record { deeds = λ x i. absurd i; sent = λ m i. prepares_sent objects g mail input a (pairs_of (g.deps a)) m top home i }
  prepares_fine a (Some reason) top home = record { deeds = aborts_deeds objects g mail input a; sent = news_fine objects g mail input a }

  finish_fine : (b : Name) (p : Option Name) (counts : List ℕ) → (p ≡ None → (is_top b ≡ true) × (home_node b ≡ g.node)) → Fine objects g mail input (finish_comes g b p counts)
  finish_fine b (Some p) counts top =
      let rest : Did = commits_or_aborts g b (g.orphan b (pairs_of counts)) in
      if_fine objects g mail input (not (decides_child g p b)) (nothing_but notes.Late) (stopped_by p (g.orphan p (pairs_of (g.deps p))) rest) (λ e. none_fine objects g mail input notes.Late)
      (λ e. stopped_fine objects g mail input p (g.orphan p (pairs_of (g.deps p))) rest (decided_fine b (g.orphan b (pairs_of counts))))
  finish_fine b None counts top =
      if_fine objects g mail input (not (is_present g b) || knows_outcome g b || is_preparing g b) (nothing_but notes.Late) (prepares g b (g.orphan b (pairs_of (g.deps b)))) (λ e. none_fine objects g mail input notes.Late) (λ e. prepares_fine b (g.orphan b (pairs_of (g.deps b))) (top refl).0 (top refl).1)

  quit_fine : (b : Name) (p : Option Name) → Fine objects g mail input (quit_comes g b p)
  quit_fine b (Some p) =
      if_fine objects g mail input (not (decides_child g p b)) (nothing_but notes.Late) (stopped_by p (g.orphan p (pairs_of (g.deps p))) (did (aborts g b) [])) (λ e. none_fine objects g mail input notes.Late)
      (λ e. stopped_fine objects g mail input p (g.orphan p (pairs_of (g.deps p))) (did (aborts g b) []) (record { deeds = aborts_deeds objects g mail input b; sent = λ m i. absurd i }))
  quit_fine b None =
      if_fine objects g mail input (not (is_present g b) || knows_outcome g b) (nothing_but notes.Late) (did (aborts g b) (news g b)) (λ e. none_fine objects g mail input notes.Late) (λ e. record { deeds = aborts_deeds objects g mail input b; sent = news_fine objects g mail input b })

  -- a prepare, a vote, a query
  vote_one : (f : Name) (c : ℕ) (agrees : Bool) → LetterFine objects g input (send (home_node f) (bodies.Vote f c agrees))
  vote_one f c agrees = record { for_node = refl; counts = inl refl; from = tt; names = tt }

  prepare_fine : (f : Name) (c : ℕ) → Fine objects g mail input (prepare_comes g f c)
  prepare_fine f c =
      let last : Did = did (one (Secure f g.node c)) (vote f c true) in
      let third : Did = if not (eqb c (present g)) then answers notes.Missed (vote f c false) else last in
      let second : Did = if secured_at g.deeds f g.node then answers notes.Again (vote f c true) else third in
      if_fine objects g mail input (knows_outcome g f) (nothing_but notes.Late) second (λ e. none_fine objects g mail input notes.Late)
      (λ e. if_fine objects g mail input (secured_at g.deeds f g.node) (answers notes.Again (vote f c true)) third (λ x. answers_fine objects g mail input notes.Again _ (vote_one f c true))
      (λ x. if_fine objects g mail input (not (eqb c (present g))) (answers notes.Missed (vote f c false)) last (λ y. answers_fine objects g mail input notes.Missed _ (vote_one f c false)) (λ y. both_fine objects g mail input (Secure f g.node c) _ tt (vote_one f c true))))

  vote_fine : (from : ℕ) (f : Name) (c : ℕ) (agrees : Bool) → Fine objects g mail input (vote_comes g from f c agrees)
  vote_fine from f c agrees =
      let all : Bool = all_yes ((from, c) ∷ unwrap_or (votes g.events f) []) (g.deps f) in
      let third : Did = if all then did (commits g f) (news g f) else nothing_but notes.Voted in
      let second : Did = if not agrees then did (aborts g f) (news g f) else third in
      if_fine objects g mail input (not (is_present g f) || not (is_preparing g f) || knows_outcome g f) (nothing_but notes.Late) second (λ e. none_fine objects g mail input notes.Late)
      (λ e. if_fine objects g mail input (not agrees) (did (aborts g f) (news g f)) third (λ x. record { deeds = aborts_deeds objects g mail input f; sent = news_fine objects g mail input f })
      (λ x. if_fine objects g mail input all (did (commits g f) (news g f)) (nothing_but notes.Voted) (λ y. record { deeds = commits_deeds objects g mail input f; sent = news_fine objects g mail input f }) (λ y. none_fine objects g mail input notes.Voted)))

  query_fine : (from : ℕ) (f : Name) → Fine objects g mail input (query_comes g from f)
  query_fine from f =
      let second : Did = if nat_lt (home_count f) (present g) then did (aborts g f) (one (send from bodies.News)) else nothing_but notes.Late in
      if_fine objects g mail input (knows_outcome g f) (did [] (one (send from bodies.News))) second (λ e. record { deeds = λ x i. absurd i; sent = one_sent objects g mail input _ (news_one objects g mail input from) })
      (λ e. if_fine objects g mail input (nat_lt (home_count f) (present g)) (did (aborts g f) (one (send from bodies.News))) (nothing_but notes.Late) (λ x. record { deeds = aborts_deeds objects g mail input f; sent = one_sent objects g mail input _ (news_one objects g mail input from) }) (λ x. none_fine objects g mail input notes.Late))

  -- a start, whose letter comes from the node that decides the child
  start_fine : (from : ℕ) (b : Name) (counts : List ℕ) → decider b ≡ from → (is_present g b ≡ true → StartOf g mail b) → Fine objects g mail input (start_comes g from b counts)
  start_fine from b counts decides starts =
      let last : Did = stopped_by b (g.orphan b (with_home counts b)) (did (one (Create b)) []) in
      let second : Did = if created g.deeds b then nothing_but notes.Again else last in
      if_fine objects g mail input (not (is_present g b)) (answers notes.Missed (one (send from (bodies.Quit b)))) second (λ e. answers_fine objects g mail input notes.Missed _ (record { for_node = decides; counts = inl refl; from = tt; names = tt }))
      (λ e. if_fine objects g mail input (created g.deeds b) (nothing_but notes.Again) last (λ x. none_fine objects g mail input notes.Again)
      (λ x. stopped_fine objects g mail input b (g.orphan b (with_home counts b)) (did (one (Create b)) []) (deed_fine objects g mail input (Create b) (inr (starts (not_not (is_present g b) e))))))
    where
      not_not : (x : Bool) → not x ≡ false → x ≡ true
      not_not true h = refl
      not_not false h = cc

-- a letter that may be handed to the node
arrives_fine : (objects : List ObjectDecl) (g : Sight) (m : Mail) (input : Input) (s : ℕ) (load : Load) → 1 ≤ s → g.node ≡ s → IsLetter objects s m load → IsFrom m.from m.body → Fine objects g (Some m) input (arrives objects g m.from m.body)
arrives_fine objects g m input s load low node is from = by m.body refl from
  where
    -- a finish of an action without a parent is of a top action that is at home here
    top_of : (b : Name) (v : ℤ) (counts : List ℕ) → m.body ≡ bodies.Finish b v counts → parent b ≡ None → (is_top b ≡ true) × (home_node b ≡ g.node)
    top_of b v counts at alone =
        let home : home_node b ≡ s = ap (decider_of b) (sym alone) ∙ subst (IsForNode objects s) at is.for_node in
        (parent_top b (named_at b (subst (λ (n : ℕ). 1 ≤ n) (sym home) low)) alone, home ∙ sym node)

    by : (body : Body) → m.body ≡ body → IsFrom m.from body → Fine objects g (Some m) input (arrives objects g m.from body)
    by (bodies.Start b counts) at decides = start_fine objects g (Some m) input m.from b counts decides (λ here. (counts, at, here))
    by (bodies.Call a n x op c counts) at f = call_fine objects g (Some m) input a n x op c counts
    by (bodies.Answer a n reply) at f = answer_fine objects g (Some m) input a n reply
    by (bodies.Finish b v counts) at f = finish_fine objects g (Some m) input b (parent b) counts (top_of b v counts at)
    by (bodies.Quit b) at f = quit_fine objects g (Some m) input b (parent b)
    by (bodies.Prepare f c) at h = prepare_fine objects g (Some m) input f c
    by (bodies.Vote f c agrees) at h = vote_fine objects g (Some m) input m.from f c agrees
    by (bodies.Query f) at h = query_fine objects g (Some m) input m.from f
    by bodies.News at h = none_fine objects g (Some m) input notes.Plain

-- the start of a child comes from the node that decides it
abbrev pub StartComes : Option Mail → Type 0
StartComes None = Unit {0}
StartComes (Some mail) = IsFrom mail.from mail.body

-- Each rule of an input that may be put to a node of a storm.
pub rule_fine : (objects : List ObjectDecl) (s : ℕ) (g h : Sight) (mail : Option Mail) (load : Load) (input : Input) → 1 ≤ s → g.node ≡ s → MayBePut objects s h input mail load → StartComes mail
    → ((m to : ℕ) → input ≡ Tells m to → ⊥) → ((m : ℕ) (f : Name) → input ≡ Queries m f → ⊥) → Fine objects g mail input (rule objects g mail input)
rule_fine objects s g h mail load (Begins m) low node may from no_tell no_query = deed_fine objects g mail (Begins m) (Create (top_name g)) (inl (refl, refl))
rule_fine objects s g h mail load (Requests r) low node may from no_tell no_query =
    stopped_fine objects g mail (Requests r) r.action (g.orphan r.action (pairs_of (g.deps r.action))) (wanted objects g r.action r.want)
    (wanted_fine objects g mail (Requests r) r.action r.want (omega (arith, low, node)) (may.0 ∙ sym node) may.2 (λ m e. (m, e, refl)))
rule_fine objects s g h None load (Receives letter) low node may from no_tell no_query = absurd may
rule_fine objects s g h (Some m) load (Receives letter) low node may from no_tell no_query = arrives_fine objects g m (Receives letter) s load low node may from
rule_fine objects s g h mail load (Tells m to) low node may from no_tell no_query = absurd (no_tell m to refl)
rule_fine objects s g h mail load (Queries m f) low node may from no_tell no_query = absurd (no_query m f refl)
rule_fine objects s g h mail load (Restarts m) low node may from no_tell no_query = deed_fine objects g mail (Restarts m) (Crash g.node) refl
