-- So each letter that a node of a storm sends goes to one of the four nodes, and speaks of the storm's actions and nodes alone.
use Rattle.std.proofs.Common.{◌≡◌, ◌⊎◌, inl, inr, ℕ, ◌≤◌, true, not, ◌&&◌, List, [], ◌∷◌, map, Option, Some, None, refl, sym, ◌∙◌, subst}
use Rattle.std.specs.List.{list_any}
use Rattle.std.proofs.lemmas.Bool.{and_parts}
use Rattle.cam_names.specs.declared.name.Name.{Name}
use Rattle.cam_names.specs.Names.{parent}
use Rattle.cam_names.specs.Dependencies.{pairs_of}
use Rattle.cam_names.proofs.Names.{name_eq_same}
use Rattle.cam_type.specs.declared.ObjectDecl.{ObjectDecl}
use Rattle.cam_know.specs.Known.{nothing, new_aborts, new_commits}
use Rattle.cam_know.specs.Order.{told_in_order}
use Rattle.cam_event.specs.declared.Event.{Event}
use Rattle.cam_event.specs.declared.Body.{Body}
use Rattle.cam_event.specs.declared.Body.TheVariants as bodies
use Rattle.cam_event.specs.declared.Note.TheVariants as notes
use Rattle.cam_event.specs.declared.LetterId.{LetterId}
use Rattle.cam_event.specs.declared.Sent.{Sent}
use Rattle.cam_event.specs.declared.Deed.{Deed}
use Rattle.cam_event.specs.declared.Deed.TheVariants.{Create, Ask, Call, Perform, Bounce, Got, AskCommit, AskAbort, Commit, Abort, Secure, Inform, Crash}
use Rattle.cam_event.specs.History.{created, ended, is_create}
use Rattle.cam_event.specs.Inputs.{Input, Begins, Requests, Receives, Tells, Queries, Restarts, Mail, decider}
use Rattle.cam_event.specs.Sights.{Sight, is_present}
use Rattle.cam_event.specs.Rules.{rule, wanted, arrives}
use Rattle.cam_event.specs.Runs.{IsWant}
use Rattle.cam_event.specs.ByKnowledge.{own_pairs, held, held_sight}
use Rattle.cam_event.specs.Carried.{Carried, deeds_of}
use Rattle.cam_event.specs.ByDeltas.{Received, as_carried}
use Rattle.cam_event.proofs.Members.{In, any_in}
use Rattle.cam_node.specs.Lawful.{MayBePut, body_counts}
use Rattle.cam_cut.proofs.Informs.{keep_informs}
use Rattle.cam_cut.proofs.Pairs.{pairs_in}
use Rattle.cam_journal.specs.declared.entry.SentLetter.{SentLetter as Taken}
use Rattle.cam_runs.specs.Running.{start}
use Rattle.cam_runs.specs.Playing.{may_go, is_stop_of}
use Rattle.cam_gen.specs.Storms.{Words, objects_of}
use Rattle.cam_storm.specs.Events.{Copied}
use Rattle.cam_storm.specs.Names.{AreNear, IsNamed, IsOfStorm, Near, SpeaksOf}
use Rattle.cam_storm.specs.Own.{event_in, own_view, sight_at}
use Rattle.cam_storm.specs.Lawful.{mail_in, load_in, ComesFrom, IsPut}
use Rattle.cam_storm.proofs.Rules.{IsAskedFor, LetterFine, NamesFine}
use Rattle.cam_storm.proofs.Covered.{comes_from}
use Rattle.cam_storm.proofs.Named.{NearWant, near_want}
use Rattle.cam_storm.proofs.Naming.{child_named}
use Rattle.cam_storm.proofs.Near.{AllNear, none_near, stopped_near, DepsNear, start_near, call_near, answer_near, finish_near, quit_near, prepare_near, vote_near, query_near, wanted_near}
use Rattle.cam_storm.proofs.NearDeeds.{site_most}
use Rattle.cam_storm.proofs.OwnNear.{OwnNear}
use Rattle.cam_storm.proofs.SoundSteps.{IsPutStep, next_of}

-- an action that was created is found among the deeds
pub create_found : (L : List Deed) (a : Name) → created L a ≡ true → In (Create a) L
create_found L a made = let found = any_in (is_create a) L made in by found.0 found.1 found.2
  where
    by : (d : Deed) → In d L → is_create a d ≡ true → In (Create a) L
    by (Create b) i e = subst (λ (x : Name). In (Create x) L) (sym (name_eq_same a b e)) i
    by (Ask p b) i e = cc
    by (Call b n x op c) i e = cc
    by (Perform b n answer) i e = cc
    by (Bounce b n u) i e = cc
    by (Got b n seen) i e = cc
    by (AskCommit b v) i e = cc
    by (AskAbort b) i e = cc
    by (Commit b) i e = cc
    by (Abort b) i e = cc
    by (Secure f s c) i e = cc
    by (Inform s b o) i e = cc
    by (Crash s) i e = cc

-- one that has a request was created at its node
pub going_own : (words : Words) (s : ℕ) (own : List Received) (a : Name) → may_go (sight_at words s own) (record start { trace = map event_in own }) a ≡ true → In (Create a) (deeds_of (map as_carried own))
going_own words s own a may =
    let g : Sight = sight_at words s own in
    let past : List Carried = map as_carried own in
    let objects : List ObjectDecl = objects_of words in
    let first = and_parts (created g.deeds a && not (ended g.deeds a) && is_present g a) (not (list_any (is_stop_of a) (map event_in own))) may in
    let second = and_parts (created g.deeds a && not (ended g.deeds a)) (is_present g a) first.0 in
    let third = and_parts (created g.deeds a) (not (ended g.deeds a)) second.0 in
    let same : created g.deeds a ≡ created (deeds_of past) a = keep_informs (λ (L : List Deed). created L a) (λ r b o L. refl) s (new_aborts nothing (held objects past)) (new_commits nothing (held objects past)) (deeds_of past) in
    create_found (deeds_of past) a (sym same ∙ third.0)

all_pairs : (ps : List (ℕ × ℕ)) → ((p : ℕ × ℕ) → In p ps → Near p.0) → AreNear ps
all_pairs [] all = tt
all_pairs (p ∷ ps) all = (all p (inl refl), all_pairs ps (λ q i. all q (inr i)))

module _ (words : Words) (s : ℕ) (own : List Received) (taken : Option (Taken Copied)) (event : Event)
    (step : IsPutStep words s own taken event) (kept : OwnNear words s own) where
  abbrev pub objects : List ObjectDecl
  objects = objects_of words

  abbrev pub past : List Carried
  past = map as_carried own

  abbrev pub g : Sight
  g = held_sight objects s past (told_in_order (load_in taken).know)

  deps_are : DepsNear g
  deps_are a p i = kept.pairs a p (pairs_in (own_pairs objects past a) p i)

  drives_named : (a : Name) → may_go (sight_at words s own) (record start { trace = map event_in own }) a ≡ true → IsNamed words a × Near (decider a)
  drives_named a may = kept.created a (going_own words s own a may)

  arrives_near : (from : ℕ) (body : Body) → Near from → SpeaksOf words body → AllNear (arrives objects g from body)
  arrives_near from (bodies.Start b counts) near names = start_near objects g deps_are from b counts near
  arrives_near from (bodies.Call a n x op c counts) near names = call_near objects g deps_are a n x op c counts names
  arrives_near from (bodies.Answer a n reply) near names = answer_near objects g deps_are a n reply
  arrives_near from (bodies.Finish b v counts) near names = finish_near objects g deps_are b (parent b) counts
  arrives_near from (bodies.Quit b) near names = quit_near objects g deps_are b (parent b)
  arrives_near from (bodies.Prepare f c) near names = prepare_near objects g deps_are f c names
  arrives_near from (bodies.Vote f c agrees) near names = vote_near objects g deps_are from f c agrees
  arrives_near from (bodies.Query f) near names = query_near objects g deps_are from f near
  arrives_near from bodies.News near names = none_near [] notes.Plain

  letter_near : (letter : LetterId) (mail : Option Mail) → ComesFrom words mail → AllNear (rule objects g mail (Receives letter))
  letter_near letter None comes = none_near [] notes.Plain
  letter_near letter (Some m) comes = arrives_near m.from m.body comes.sender comes.names

  -- where the letters of an input go
  rule_near : (input : Input) → MayBePut objects s (sight_at words s own) input (mail_in taken) (load_in taken) → IsPut words s own taken input → AllNear (rule objects g (mail_in taken) input)
  rule_near (Begins m) may so = λ k i. absurd i
  rule_near (Requests r) may so =
      stopped_near r.action (g.orphan r.action (pairs_of (g.deps r.action))) (wanted objects g r.action r.want)
      (wanted_near objects g deps_are r.action r.want (near_want words r.action (own_view own r.action) r.want so.next)
      (λ x op e. let is = subst (IsWant objects) e may.2 in (is.1.0, site_most words x)) (drives_named r.action so.may).1)
  rule_near (Receives letter) may so = letter_near letter (mail_in taken) (comes_from words s own taken (Receives letter) (sight_at words s own) so may)
  rule_near (Tells m to) may so = absurd so
  rule_near (Queries m f) may so = absurd so
  rule_near (Restarts m) may so = λ k i. absurd i

  pub sent_near : (m : Sent) → In m (rule objects g (mail_in taken) step.input).sent → Near m.to
  sent_near = rule_near step.input step.may step.so

  -- what they say
  asked_named : (input : Input) → IsPut words s own taken input → (b : Name) → IsAskedFor g input b → IsNamed words b
  asked_named (Requests r) so b asked =
      let near : (1 ≤ asked.0) × (asked.0 ≤ 4) = subst NearWant asked.1 (near_want words r.action (own_view own r.action) r.want so.next) in
      subst (IsNamed words) (sym asked.2) (child_named words g r.action asked.0 (drives_named r.action so.may).0 near)
  asked_named (Begins m) so b asked = absurd asked
  asked_named (Receives letter) so b asked = absurd asked
  asked_named (Tells m to) so b asked = absurd asked
  asked_named (Queries m f) so b asked = absurd asked
  asked_named (Restarts m) so b asked = absurd asked

  names_near : (body : Body) → NamesFine g step.input body → SpeaksOf words body
  names_near (bodies.Start b counts) fine = asked_named step.input step.so b fine
  names_near (bodies.Call a n x op c counts) fine = subst Near (sym fine) step.here
  names_near (bodies.Answer a n reply) fine = tt
  names_near (bodies.Finish a v counts) fine = tt
  names_near (bodies.Quit a) fine = tt
  names_near (bodies.Prepare f c) fine = subst Near (sym fine) step.here
  names_near (bodies.Vote f c agrees) fine = tt
  names_near (bodies.Query f) fine = tt
  names_near bodies.News fine = tt

  counts_near : (counts : List ℕ) → (counts ≡ []) ⊎ ((a : Name) × (counts ≡ g.deps a)) → AreNear (pairs_of counts)
  counts_near counts (inl none) = subst (λ (cs : List ℕ). AreNear (pairs_of cs)) (sym none) tt
  counts_near counts (inr of) = subst (λ (cs : List ℕ). AreNear (pairs_of cs)) (sym of.1) (all_pairs (pairs_of (g.deps of.0)) (deps_are of.0))

  pub sent_of_storm : (m : Sent) → In m (rule objects g (mail_in taken) step.input).sent → IsOfStorm words s m.body
  sent_of_storm m i =
      let fine : LetterFine objects g step.input m = (next_of words s own taken event step.here.0 step).fine.sent m i in record {
        sender = step.here;
        starts = fine.from;
        names = names_near m.body fine.names;
        counts = counts_near (body_counts m.body) fine.counts;
      }
