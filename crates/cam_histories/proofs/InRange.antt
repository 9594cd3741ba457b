-- Each letter of a run goes from a node to a node.
use Rattle.std.proofs.Common.{◌≡◌, inl, inr, ℕ, Bool, true, false, not, ◌||◌, List, length, Option, Some, None, is_some, refl, sym, subst}
use Rattle.std.specs.Prelude.{nat_le}
use Rattle.std.specs.Option.{option_map_or}
use Rattle.cam_names.specs.declared.name.Name.{Name}
use Rattle.cam_names.specs.Names.{home_node}
use Rattle.cam_names.specs.Dependencies.{pairs_of}
use Rattle.cam_names.proofs.Names.{name_eq_refl}
use Rattle.cam_type.specs.declared.ObjectDecl.{ObjectDecl}
use Rattle.cam_event.specs.declared.LetterId.{LetterId}
use Rattle.cam_event.specs.declared.Event.{Event}
use Rattle.cam_event.specs.declared.LineRefusal.{LineRefusal}
use Rattle.cam_event.specs.declared.LineRefusal.TheVariants as refusals
use Rattle.cam_event.specs.declared.Sent.{Sent}
use Rattle.cam_event.specs.declared.Body.{Body}
use Rattle.cam_event.specs.declared.Body.TheVariants as bodies
use Rattle.cam_event.specs.declared.Want.{Want}
use Rattle.cam_event.specs.declared.Want.TheVariants as wants
use Rattle.cam_event.specs.declared.Deed.{Deed}
use Rattle.cam_event.specs.declared.Deed.TheVariants.{Call, AskCommit, AskAbort}
use Rattle.cam_event.specs.History.{after, is_open_child, created, is_create, is_ask_commit, is_ask_abort}
use Rattle.cam_event.specs.Gained.{deps}
use Rattle.cam_event.specs.Inputs.{Input, Begins, Requests, Receives, Tells, Queries, Restarts, Mail, letter_at, mail_got, decider, node_of, got_of}
use Rattle.cam_event.specs.Pasts.{in_base, plain, every}
use Rattle.cam_event.specs.Refusals.{first_of_two, where_so, refusal, has_ended, has_call, has_child, is_not_open}
use Rattle.cam_event.specs.Runs.{IsNode, MayCome}
use Rattle.cam_event.specs.Sights.{Sight}
use Rattle.cam_event.proofs.Members.{In, in_any, any_more, in_new, in_after, plain_more}
use Rattle.cam_plain.specs.Legal.{Legal}
use Rattle.cam_cut.proofs.DepsFacts.{pair_range}
use Rattle.cam_cut.proofs.Good.{Good}
use Rattle.cam_cut.proofs.HomeLines.{first_none, where_none}
use Rattle.cam_cut.proofs.Holds.{RunHolds, every_part, every_closed}
use Rattle.cam_cut.proofs.LegalFacts.{asked_commit_created, asked_abort_created}
use Rattle.cam_cut.proofs.NextEvent.{sight_of, did_of, earlier, next_good}
use Rattle.cam_cut.proofs.Pairs.{pairs_in}
use Rattle.cam_cut.proofs.Parts.{base_of, with_first}
use Rattle.cam_cut.proofs.Sees.{BodyOk, Sees}
use Rattle.cam_cut.proofs.SeesRun.{sees_so}
use Rattle.cam_agree.proofs.Ran.{Ran, ran_holds}
use Rattle.cam_histories.proofs.Replies.{IsSender, TellsTo, Replies}
use Rattle.cam_histories.proofs.Replying.{rule_replies}
use Rattle.cam_histories.proofs.Sent.{all_letters}
use Rattle.cam_histories.proofs.Ranging.{AllRanged, created_range, decider_range}
use Rattle.cam_histories.proofs.Echoing.{Echoes, Travels, goes_on, came_call, came_prepare, SaidCall, said_call, SaidPrepare, said_prepare, call_created}

-- an action whose request is not refused was created
not_open : (g : Sight) (a : Name) → is_not_open g a ≡ None → created g.deeds a ≡ true
not_open g a h = by (created g.deeds a) (where_none (not (created g.deeds a)) refusals.NotOpen h)
  where
    by : (b : Bool) → not b ≡ false → b ≡ true
    by true e = refl
    by false e = cc

last_two : (x y z w : Option LineRefusal) → first_of_two x (first_of_two y (first_of_two z w)) ≡ None → (z ≡ None) × (w ≡ None)
last_two x y z w h = first_none z w (first_none y (first_of_two z w) (first_none x (first_of_two y (first_of_two z w)) h).1).1

pub asks_created : (g : Sight) (a : Name) (want : Want) → refusal g a want ≡ None → created g.deeds a ≡ true
asks_created g a (wants.Ask m) h = not_open g a (last_two (has_ended g a) (has_call g a) (is_not_open g a) (where_so (nat_le 8 (length a)) refusals.TooDeep) h).0
asks_created g a (wants.Call x op) h = not_open g a (last_two (has_ended g a) (has_call g a) (has_child g a) (is_not_open g a) h).1
asks_created g a (wants.Commit v) h = not_open g a (last_two (has_ended g a) (has_call g a) (has_child g a) (is_not_open g a) h).1
asks_created g a wants.Abort h = not_open g a (first_none (has_ended g a) (is_not_open g a) h).1
asks_created g a (wants.GiveUp b) h = by (created g.deeds a) (not (is_open_child g.deeds a b)) (where_none (not (created g.deeds a) || not (is_open_child g.deeds a b)) refusals.NotOpen (first_none (has_ended g a) (where_so (not (created g.deeds a) || not (is_open_child g.deeds a b)) refusals.NotOpen) h).1)
  where
    by : (x c : Bool) → (not x || c) ≡ false → x ≡ true
    by true c e = refl
    by false c e = cc

-- the node of an input
pub input_node : (objects : List ObjectDecl) (t : List Event) (input : Input) → Ran objects t → MayCome objects t input → ((letter : LetterId) (mail : Mail) → letter_at t letter ≡ Some mail → Travels t mail) → IsNode (node_of t input)
input_node objects t (Begins s) run may before = may
input_node objects t (Requests r) run may before =
    let holds : RunHolds objects t = ran_holds objects t run in
    let s : ℕ = home_node r.action in
    let sees : Sees objects (sight_of objects t (Requests r)) (with_first t s None (base_of t s None)) (with_first t s None (plain t every)) = sees_so objects t s None every holds tt (every_part t s None) in
    let there : created (with_first t s None (plain t every)) r.action ≡ true =
    any_more (is_create r.action) (sight_of objects t (Requests r)).deeds (with_first t s None (plain t every)) sees.own_fewer (asks_created (sight_of objects t (Requests r)) r.action r.want may.0) in
    (created_range objects (with_first t s None (plain t every)) r.action sees.legal sees.ranged there).0
input_node objects t (Receives letter) run may before = by (letter_at t letter) refl may
  where
    by : (o : Option Mail) → letter_at t letter ≡ o → is_some o ≡ true → IsNode (option_map_or (λ (m : Mail). m.to) o 0)
    by None at h = cc
    by (Some mail) at h = (before letter mail at).to
input_node objects t (Tells s to) run may before = may.0
input_node objects t (Queries s f) run may before = may.0
input_node objects t (Restarts s) run may before = may

-- the letters of a rule
travels_rule : (objects : List ObjectDecl) (t : List Event) (input : Input) (m : Sent) → Ran objects t → MayCome objects t input → ((letter : LetterId) (mail : Mail) → letter_at t letter ≡ Some mail → Travels t mail)
    → In m (did_of objects t input).sent → Travels t (record { from = node_of t input; to = m.to; body = m.body })
travels_rule objects t input m run may before i = record {
  from = input_node objects t input run may before;
  to = goes m.to m.body (good.sent m i) replies;
  echoes = echoes m.to m.body replies;
}
  where
    holds : RunHolds objects t
    holds = ran_holds objects t run

    s : ℕ
    s = node_of t input

    got : Option LetterId
    got = got_of input

    g : Sight
    g = sight_of objects t input

    ds : List Deed
    ds = (did_of objects t input).deeds

    M : List Deed
    M = with_first t s got (plain t every)

    good : Good objects g (with_first t s got (base_of t s got)) M (did_of objects t input)
    good = next_good objects t input every holds may (every_part t s got)

    sees : Sees objects g (with_first t s got (base_of t s got)) M
    sees = sees_so objects t s got every holds (earlier objects t input may) (every_part t s got)

    L : List Deed
    L = after M ds

    ranged : AllRanged objects L
    ranged d h = elim (in_after ds M d h) [ inl new ↦ good.ranged d new | inr old ↦ sees.ranged d old ]

    all_legal : Legal objects (plain t every)
    all_legal = holds.legal every (every_closed t)

    replies : Replies g (mail_got t got) input ds m.to m.body
    replies = rule_replies objects g (mail_got t got) input m i

    echoes : (to : ℕ) (body : Body) → Replies g (mail_got t got) input ds to body → Echoes t body
    echoes to (bodies.Answer a n reply) h = came_call t got a n h.1
    echoes to (bodies.Vote f c agrees) h = came_prepare t got f c h.1
    echoes to (bodies.Start b counts) h = tt
    echoes to (bodies.Call a n x op c counts) h = tt
    echoes to (bodies.Finish b v counts) h = tt
    echoes to (bodies.Quit b) h = tt
    echoes to (bodies.Prepare f c) h = tt
    echoes to (bodies.Query f) h = tt
    echoes to bodies.News h = tt

    -- the sender of the letter that came
    sender : (to : ℕ) → IsSender (mail_got t got) to → IsNode to
    sender to = by got
      where
        by : (o : Option LetterId) → IsSender (mail_got t o) to → IsNode to
        by None h = absurd h
        by (Some letter) h = inner (letter_at t letter) refl h
          where
            inner : (o : Option Mail) → letter_at t letter ≡ o → IsSender o to → IsNode to
            inner None at k = absurd k
            inner (Some mail) at k = subst IsNode k (before letter mail at).from

    told : (i : Input) → MayCome objects t i → (to : ℕ) → TellsTo i to → IsNode to
    told (Tells r x) ok to h = subst IsNode h ok.1
    told (Begins r) ok to h = absurd h
    told (Requests r) ok to h = absurd h
    told (Receives letter) ok to h = absurd h
    told (Queries r f) ok to h = absurd h
    told (Restarts r) ok to h = absurd h

    pair_node : (a : Name) (p : ℕ × ℕ) → In p (pairs_of (g.deps a)) → IsNode p.0
    pair_node a p j =
        (pair_range objects (base_of t s got) a p (λ d h. holds.ranged d (plain_more t (in_base t s got) every (λ k x. refl) d h)) (pairs_in (deps objects (base_of t s got) a) p j)).0

    asked_node : (b : Name) → created L b ≡ true → IsNode (decider b)
    asked_node b h = decider_range objects L b good.legal ranged h

    goes : (to : ℕ) (body : Body) → BodyOk objects L s to body → Replies g (mail_got t got) input ds to body → IsNode to
    goes to (bodies.Start b counts) ok h = subst IsNode (sym ok.2) (ranged _ ok.1).0
    goes to (bodies.Call a n x op c counts) ok h = subst IsNode (sym ok.1) (ranged (Call a n x op c) ok.0).0
    goes to (bodies.Answer a n reply) ok h =
        let came = came_call t got a n h.1 in
        let said : SaidCall objects (plain t every) a n = said_call objects (plain t every) came.1.from came.1.to came.1.body a n (holds.letters came.0 came.1 came.2 every (every_closed t) refl) came.3 in
        subst IsNode h.0 (created_range objects (plain t every) a all_legal holds.ranged (call_created objects (plain t every) a n all_legal said)).0
    goes to (bodies.Finish b v counts) ok h =
        subst IsNode (sym ok.1) (asked_node b (asked_commit_created objects L b good.legal (in_any (is_ask_commit b) L (AskCommit b v) ok.0 (name_eq_refl b))))
    goes to (bodies.Quit b) ok (inl h) = sender to h
    goes to (bodies.Quit b) ok (inr h) =
        subst IsNode (sym ok.0) (asked_node b (asked_abort_created objects L b good.legal (in_any (is_ask_abort b) L (AskAbort b) (in_new ds M (AskAbort b) h) (name_eq_refl b))))
    goes to (bodies.Prepare f c) ok h = (pair_range objects L f (to, c) ranged ok.2).0
    goes to (bodies.Vote f c agrees) ok h =
        let came = came_prepare t got f c h.1 in
        let said : SaidPrepare objects (plain t every) f c = said_prepare objects (plain t every) came.1.from came.1.to came.1.body f c (holds.letters came.0 came.1 came.2 every (every_closed t) refl) came.3 in
        subst IsNode h.0 (created_range objects (plain t every) f all_legal holds.ranged (asked_commit_created objects (plain t every) f all_legal said.asked)).0
    goes to (bodies.Query f) ok h = subst IsNode (sym ok.2) (created_range objects L f good.legal ranged ok.1).0
    goes to bodies.News ok (inl h) = sender to h
    goes to bodies.News ok (inr (inl h)) = subst IsNode h.3 (pair_node h.1 h.0 h.2)
    goes to bodies.News ok (inr (inr h)) = told input may to h

pub travels : (objects : List ObjectDecl) (t : List Event) → Ran objects t → (letter : LetterId) (mail : Mail) → letter_at t letter ≡ Some mail → Travels t mail
travels objects = all_letters objects Travels goes_on (travels_rule objects)
