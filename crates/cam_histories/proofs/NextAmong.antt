-- The next event of a run whose inputs name none but these nodes, over objects at them: the nodes that its deeds name, and between which its
-- letters go.
use Rattle.std.proofs.Common.{◌≡◌, inl, inr, ℕ, Bool, true, false, List, ◌∷◌, Option, Some, None, is_some, refl, sym, subst}
use Rattle.std.specs.Option.{option_map_or}
use Rattle.cam_names.specs.declared.name.Name.{Name}
use Rattle.cam_names.specs.Names.{home_node}
use Rattle.cam_names.specs.Dependencies.{pairs_of}
use Rattle.cam_names.proofs.Names.{name_eq_refl}
use Rattle.cam_type.specs.declared.ObjectDecl.{ObjectDecl}
use Rattle.cam_event.specs.declared.LetterId.{LetterId}
use Rattle.cam_event.specs.declared.Event.{Event}
use Rattle.cam_event.specs.declared.Sent.{Sent}
use Rattle.cam_event.specs.declared.Body.{Body}
use Rattle.cam_event.specs.declared.Body.TheVariants as bodies
use Rattle.cam_event.specs.declared.Deed.{Deed}
use Rattle.cam_event.specs.declared.Deed.TheVariants.{Create, Ask, Call, AskCommit, AskAbort}
use Rattle.cam_event.specs.ByPast.{first_informs}
use Rattle.cam_event.specs.Gained.{deps}
use Rattle.cam_event.specs.History.{after, created, is_create, is_ask_commit, is_ask_abort}
use Rattle.cam_event.specs.Inputs.{Input, Begins, Requests, Receives, Tells, Queries, Restarts}
use Rattle.cam_event.specs.Inputs.{Mail, decider, got_of, letter_at, mail_got, mail_of, node_of}
use Rattle.cam_event.specs.Pasts.{every, in_base, plain}
use Rattle.cam_event.specs.Runs.{MayCome}
use Rattle.cam_event.specs.Sights.{Sight}
use Rattle.cam_event.proofs.Members.{In, in_any, any_more, in_new, in_after, in_append, plain_more}
use Rattle.cam_plain.specs.Legal.{Legal}
use Rattle.cam_plain.proofs.Called.{call_fits}
use Rattle.cam_cut.proofs.Good.{Good}
use Rattle.cam_cut.proofs.Holds.{RunHolds, every_part, every_closed}
use Rattle.cam_cut.proofs.LegalFacts.{in_call, asked_commit_created, asked_abort_created}
use Rattle.cam_cut.proofs.NextEvent.{sight_of, did_of, earlier, next_good}
use Rattle.cam_cut.proofs.Pairs.{pairs_in}
use Rattle.cam_cut.proofs.Parts.{base_of, with_first, before_first}
use Rattle.cam_cut.proofs.Sees.{BodyOk, Sees}
use Rattle.cam_cut.proofs.SeesRun.{sees_so}
use Rattle.cam_agree.proofs.Ran.{Ran, did_as, event_as, in_whole, ran_holds}
use Rattle.cam_histories.specs.Addressees.{IsAmong, NamesAmong, SitesAmong}
use Rattle.cam_histories.proofs.AmongNodes.{DeedAmong, AllAmong, created_among, decider_among}
use Rattle.cam_histories.proofs.AmongNodes.{pair_among, ask_among}
use Rattle.cam_histories.proofs.Echoing.{SaidCall, SaidPrepare, call_created, came_call}
use Rattle.cam_histories.proofs.Echoing.{came_prepare, said_call, said_prepare}
use Rattle.cam_histories.proofs.InRange.{asks_created}
use Rattle.cam_histories.proofs.StandsAmong.{GoesAmong, Stands, letters_with, sender, told}
use Rattle.cam_histories.proofs.Ranging.{fit_declared}
use Rattle.cam_histories.proofs.Replies.{Replies}
use Rattle.cam_histories.proofs.Replying.{rule_replies}

-- the next event
module _ (objects : List ObjectDecl) (nodes : ℕ) (sites : SitesAmong objects nodes)
    (t : List Event) (input : Input) (run : Ran objects t) (may : MayCome objects t input)
    (names : NamesAmong nodes input) (stands : Stands objects nodes t) where
  abbrev s : ℕ
  s = node_of t input

  abbrev got : Option LetterId
  got = got_of input

  abbrev g : Sight
  g = sight_of objects t input

  abbrev ds : List Deed
  ds = (did_of objects t input).deeds

  abbrev M : List Deed
  M = with_first t s got (plain t every)

  holds : RunHolds objects t
  holds = ran_holds objects t run

  all_legal : Legal objects (plain t every)
  all_legal = holds.legal every (every_closed t)

  good : Good objects g (with_first t s got (base_of t s got)) M (did_of objects t input)
  good = next_good objects t input every holds may (every_part t s got)

  first_among : AllAmong objects nodes M
  first_among d h = elim (before_first t s got (plain t every) d h) [
    | inl new ↦ subst (DeedAmong objects nodes) (sym new.is) tt
    | inr old ↦ stands.deeds d old
  ]

  -- the node of the input
  requested : (a : Name) → created g.deeds a ≡ true → IsAmong nodes (home_node a)
  requested a there =
      let sees : Sees objects g (with_first t s got (base_of t s got)) M =
      sees_so objects t s got every holds (earlier objects t input may) (every_part t s got) in
      created_among objects nodes M a sees.legal first_among
      (any_more (is_create a) g.deeds M sees.own_fewer there)

  node_among : IsAmong nodes s
  node_among = by input refl may names
    where
      received : (letter : LetterId) (o : Option Mail) → letter_at t letter ≡ o → is_some o ≡ true
          → IsAmong nodes (option_map_or (λ (m : Mail). m.to) o 0)
      received letter None at h = cc
      received letter (Some mail) at h = (stands.letters letter mail at).1

      by : (i : Input) → input ≡ i → MayCome objects t i → NamesAmong nodes i
          → IsAmong nodes (node_of t i)
      by (Begins r) is ok named = named
      by (Requests r) is ok named =
          requested r.action
          (subst (λ (i : Input). created (sight_of objects t i).deeds r.action ≡ true) (sym is)
          (asks_created (sight_of objects t (Requests r)) r.action r.want ok.0))
      by (Receives letter) is ok named = received letter (letter_at t letter) refl ok
      by (Tells r to) is ok named = named.0
      by (Queries r f) is ok named = named
      by (Restarts r) is ok named = named

  -- its deeds
  new_among : (d : Deed) → In d ds → DeedAmong objects nodes d
  new_among (Create a) i = λ top. subst (IsAmong nodes) (sym (good.placed (Create a) i)) node_among
  new_among (Ask a b) i = ask_among objects nodes g (mail_got t got) input a b names i
  new_among (Call a n x op c) i =
      sites x (fit_declared objects x op
      (call_fits objects (after M ds) a n (record { object = x; op = op; count = c }) good.legal
      (in_call objects (after M ds) a n x op c good.legal (in_new ds M (Call a n x op c) i))))
  new_among _ i = tt

  all_among : AllAmong objects nodes (after M ds)
  all_among d h =
      elim (in_after ds M d h) [ inl new ↦ new_among d new | inr old ↦ first_among d old ]

  pair_node : (a : Name) (p : ℕ × ℕ) → In p (pairs_of (g.deps a)) → IsAmong nodes p.0
  pair_node a p j =
      pair_among objects nodes (base_of t s got) a p
      (λ d h. stands.deeds d (plain_more t (in_base t s got) every (λ k x. refl) d h))
      (pairs_in (deps objects (base_of t s got) a) p j)

  decided : (b : Name) → created (after M ds) b ≡ true → IsAmong nodes (decider b)
  decided b h = decider_among objects nodes (after M ds) b good.legal all_among h

  -- where its letters go
  goes : (to : ℕ) (body : Body) → BodyOk objects (after M ds) s to body
      → Replies g (mail_got t got) input ds to body → IsAmong nodes to
  goes to (bodies.Start b counts) ok h = subst (IsAmong nodes) (sym ok.2) (all_among _ ok.1)
  goes to (bodies.Call a n x op c counts) ok h =
      subst (IsAmong nodes) (sym ok.1) (all_among (Call a n x op c) ok.0)
  goes to (bodies.Answer a n reply) ok h =
      let came = came_call t got a n h.1 in
      let said : SaidCall objects (plain t every) a n =
      said_call objects (plain t every) came.1.from came.1.to came.1.body a n
      (holds.letters came.0 came.1 came.2 every (every_closed t) refl) came.3 in
      subst (IsAmong nodes) h.0
      (created_among objects nodes (plain t every) a all_legal stands.deeds
      (call_created objects (plain t every) a n all_legal said))
  goes to (bodies.Finish b v counts) ok h =
      subst (IsAmong nodes) (sym ok.1)
      (decided b (asked_commit_created objects (after M ds) b good.legal
      (in_any (is_ask_commit b) (after M ds) (AskCommit b v) ok.0 (name_eq_refl b))))
  goes to (bodies.Quit b) ok (inl h) = sender nodes t stands.letters got to h
  goes to (bodies.Quit b) ok (inr h) =
      subst (IsAmong nodes) (sym ok.0)
      (decided b (asked_abort_created objects (after M ds) b good.legal
      (in_any (is_ask_abort b) (after M ds) (AskAbort b) (in_new ds M (AskAbort b) h)
      (name_eq_refl b))))
  goes to (bodies.Prepare f c) ok h =
      pair_among objects nodes (after M ds) f (to, c) all_among ok.2
  goes to (bodies.Vote f c agrees) ok h =
      let came = came_prepare t got f c h.1 in
      let said : SaidPrepare objects (plain t every) f c =
      said_prepare objects (plain t every) came.1.from came.1.to came.1.body f c
      (holds.letters came.0 came.1 came.2 every (every_closed t) refl) came.3 in
      subst (IsAmong nodes) h.0
      (created_among objects nodes (plain t every) f all_legal stands.deeds
      (asked_commit_created objects (plain t every) f all_legal said.asked))
  goes to (bodies.Query f) ok h =
      subst (IsAmong nodes) (sym ok.2)
      (created_among objects nodes (after M ds) f good.legal all_among ok.1)
  goes to bodies.News ok (inl h) = sender nodes t stands.letters got to h
  goes to bodies.News ok (inr (inl h)) = subst (IsAmong nodes) h.3 (pair_node h.1 h.0 h.2)
  goes to bodies.News ok (inr (inr h)) = told nodes input names to h

  sent_among : (took : Bool) (m : Sent) → In m (event_as objects t input took).sent
      → GoesAmong nodes (mail_of (event_as objects t input took) m)
  sent_among true m i = absurd i
  sent_among false m i =
      (node_among, goes m.to m.body (good.sent m i) (rule_replies objects g (mail_got t got) input m i))

  pub next_stands : (took : Bool) → Stands objects nodes (event_as objects t input took ∷ t)
  next_stands took = record {
    deeds = deeds_on;
    letters = letters_with nodes e t (sent_among took) stands.letters;
  }
    where
      e : Event
      e = event_as objects t input took

      deeds_on : AllAmong objects nodes (plain (e ∷ t) every)
      deeds_on d h = elim (in_after e.deeds (plain t every) d h) [
        | inr old ↦ stands.deeds d old
        | inl new ↦ elim (in_append (first_informs t s got) (did_as objects t input took).deeds d new) [
          | inl early ↦ first_among d (in_new (first_informs t s got) (plain t every) d early)
          | inr own ↦ new_among d (in_whole objects t input took d own)
        ]
      ]
