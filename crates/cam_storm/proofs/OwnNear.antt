-- By its own history a node of a storm has created the storm's actions alone, and what it goes by has to do with the four nodes alone.
use Rattle.std.proofs.Common.{◌≡◌, ◌⊎◌, inl, inr, ℕ, ◌+◌, ◌<◌, ◌≤◌, Bool, true, false, if◌then◌else◌, List, [], ◌∷◌, ◌++◌, map, length, Option, Some, None, refl, sym, ◌∙◌, subst, arith}
use Rattle.std.specs.Prelude.{flat_map}
use Rattle.std.proofs.lemmas.Bool.{ltb-true}
use Rattle.cam_names.specs.declared.name.Name.{Name}
use Rattle.cam_names.specs.Names.{name_eq, is_child}
use Rattle.cam_names.specs.Dependencies.{pairs_of}
use Rattle.cam_type.specs.declared.ObjectDecl.{ObjectDecl}
use Rattle.cam_type.specs.declared.Op.{Op}
use Rattle.cam_know.specs.Knowledge.{Knowledge}
use Rattle.cam_know.specs.Known.{nothing, new_aborts, new_commits}
use Rattle.cam_know.specs.Order.{told_in_order}
use Rattle.cam_event.specs.declared.Event.{Event}
use Rattle.cam_event.specs.declared.Seen.TheVariants as seens
use Rattle.cam_event.specs.declared.Deed.{Deed}
use Rattle.cam_event.specs.declared.Deed.TheVariants.{Create, Ask, Call, Perform, Bounce, Got, AskCommit, AskAbort, Commit, Abort, Secure, Inform, Crash}
use Rattle.cam_event.specs.History.{after, call_of, is_top_create, tops}
use Rattle.cam_event.specs.Gained.{home, visited}
use Rattle.cam_event.specs.Live.{site_of}
use Rattle.cam_event.specs.Inputs.{Mail, decider}
use Rattle.cam_event.specs.Sights.{Sight, present}
use Rattle.cam_event.specs.Rules.{rule, top_name}
use Rattle.cam_event.specs.ByKnowledge.{start_counts, finish_counts, gained_by, own_pairs, held, held_sight}
use Rattle.cam_event.specs.Carried.{Carried, deeds_of}
use Rattle.cam_event.specs.Loads.{Load}
use Rattle.cam_event.specs.ByDeltas.{Received, as_carried}
use Rattle.cam_event.proofs.Members.{In, in_append, in_after}
use Rattle.cam_node.specs.Lawful.{IsLawful}
use Rattle.cam_cut.proofs.DepsFacts.{in_visited}
use Rattle.cam_cut.proofs.Informs.{IsInformAt, keep_informs}
use Rattle.cam_cut.proofs.LegalFacts.{call_in}
use Rattle.cam_cut.proofs.Lists.{flat_in}
use Rattle.cam_journal.specs.declared.entry.NumberedEvent.{NumberedEvent}
use Rattle.cam_journal.specs.declared.entry.SentLetter.{SentLetter as Taken}
use Rattle.cam_gen.specs.Storms.{Words, objects_of, tops_of}
use Rattle.cam_storm.specs.Events.{Copied, Stepped}
use Rattle.cam_storm.specs.Names.{IsFrom, IsNamed, Near, SpeaksOf}
use Rattle.cam_storm.specs.Runs.{is_begin}
use Rattle.cam_storm.specs.Lawful.{mail_in, load_in, carried_in, ComesFrom, IsStormHistory}
use Rattle.cam_storm.proofs.Rules.{StartOf, DeedFine}
use Rattle.cam_storm.proofs.Covered.{comes_from}
use Rattle.cam_storm.proofs.Idle.{lawful_own}
use Rattle.cam_storm.proofs.NearDeeds.{site_most}
use Rattle.cam_storm.proofs.NearPairs.{finish_pairs, start_pairs}
use Rattle.cam_storm.proofs.Numbers.{own_number}
use Rattle.cam_storm.proofs.SoundSteps.{IsPutStep, Next, next_of, deed_of, put_of}

pub record OwnNear (words : Words) (s : ℕ) (own : List Received) : Type 0 where
  pub created : (a : Name) → In (Create a) (deeds_of (map as_carried own)) → IsNamed words a × Near (decider a)
  pub calls : (a : Name) (n x : ℕ) (op : Op) (c : ℕ) → In (Call a n x op c) (deeds_of (map as_carried own)) → Near (site_of (objects_of words) x)
  pub pairs : (a : Name) (p : ℕ × ℕ) → In p (own_pairs (objects_of words) (map as_carried own) a) → Near p.0

-- one more event that a storm puts
pub own_near_more : (words : Words) (s : ℕ) (own : List Received) (taken : Option (Taken Copied)) (event : Event) → IsPutStep words s own taken event → IsLawful (objects_of words) s own → OwnNear words s own
    → OwnNear words s (record { event = event; mail = mail_in taken; load = load_in taken } ∷ own)
own_near_more words s own taken event step lawful was = record { created = created; calls = calls; pairs = pairs }
  where
    objects : List ObjectDecl
    objects = objects_of words

    mail : Option Mail
    mail = mail_in taken

    load : Load
    load = load_in taken

    brought : Knowledge
    brought = told_in_order load.know

    past : List Carried
    past = map as_carried own

    g : Sight
    g = held_sight objects s past brought

    ds : List Deed
    ds = event.deeds

    n : Next words s past mail load step.input ds (rule objects g mail step.input)
    n = next_of words s own taken event step.here.0 step

    comes : ComesFrom words mail
    comes = comes_from words s own taken step.input (held_sight objects s past nothing) step.so step.may

    fine_of : (d : Deed) → In d ds → IsInformAt s d ⊎ DeedFine objects g mail step.input d
    fine_of = deed_of words s past mail load step.input ds (rule objects g mail step.input) n

    begun : (b : Name) → b ≡ top_name g → is_begin step.input ≡ true → IsNamed words b × Near (decider b)
    begun b top begin =
        let c : ℕ = present g in
        let same : tops g.deeds s c ≡ tops (deeds_of past) s c = keep_informs (λ (L : List Deed). tops L s c) (λ r a o L. refl) s (new_aborts brought (held objects past)) (new_commits brought (held objects past)) (deeds_of past) in
        let few = own_number (is_top_create s c) (record { commit = λ a. refl; abort = λ a. refl; inform = λ r a o. refl }) objects s own lawful in
        let less : length own < tops_of words s = ltb-true (length own) (tops_of words s) (sym step.tops_first ∙ begin) in
        let most : tops g.deeds s c + 1 ≤ tops_of words s = omega (arith, same, few, less) in
        let named : IsNamed words (top_name g) = record {
          low = step.here.0;
          high = step.here.1;
          first = omega arith;
          most = most;
          near = step.here.0;
          far = step.here.1;
        } in
        subst (λ (x : Name). IsNamed words x × Near (decider x)) (sym top) (named, step.here)

    named_new : (b : Name) → IsInformAt s (Create b) ⊎ DeedFine objects g mail step.input (Create b) → IsNamed words b × Near (decider b)
    named_new b (inl h) = let x = h.is in absurd (cc)
    named_new b (inr (inl top)) = begun b top.0 top.1
    named_new b (inr (inr start)) = by mail comes start
      where
        by : (o : Option Mail) → ComesFrom words o → StartOf g o b → IsNamed words b × Near (decider b)
        by None is st = absurd st
        by (Some m) is st = (subst (SpeaksOf words) st.1 is.names, subst Near (sym (subst (IsFrom m.from) st.1 is.starts)) is.sender)

    created : (a : Name) → In (Create a) (after (deeds_of past) ds) → IsNamed words a × Near (decider a)
    created a i = elim (in_after ds (deeds_of past) (Create a) i) [
      | inl new ↦ named_new a (fine_of (Create a) new)
      | inr old ↦ was.created a old
    ]

    calls : (a : Name) (k x : ℕ) (op : Op) (c : ℕ) → In (Call a k x op c) (after (deeds_of past) ds) → Near (site_of objects x)
    calls a k x op c i = elim (in_after ds (deeds_of past) (Call a k x op c) i) [
      | inl new ↦ by (fine_of (Call a k x op c) new)
      | inr old ↦ was.calls a k x op c old
    ]
      where
        by : IsInformAt s (Call a k x op c) ⊎ DeedFine objects g mail step.input (Call a k x op c) → Near (site_of objects x)
        by (inl h) = let y = h.is in absurd (cc)
        by (inr h) = (h.1, site_most words x)

    gained : (a : Name) (p : ℕ × ℕ) (d : Deed) → IsInformAt s d ⊎ DeedFine objects g mail step.input d → In p (gained_by objects (deeds_of past) mail a d) → Near p.0
    gained a p (Create b) fine i = by (name_eq a b) i
      where
        by : (t : Bool) → In p (if t then home b ∷ pairs_of (start_counts mail) else []) → Near p.0
        by true (inl same) = let named = (named_new b fine).0 in subst (λ (q : ℕ × ℕ). Near q.0) (sym same) (named.near, named.far)
        by true (inr j) = start_pairs words mail p comes j
        by false j = absurd j
    gained a p (Got b k (seens.Done answer)) fine i = by (name_eq a b) i
      where
        by : (t : Bool) → In p (if t then visited objects (call_of (deeds_of past) b k) else []) → Near p.0
        by true j =
            let seen = in_visited objects (call_of (deeds_of past) b k) p j in
            let call = call_in (deeds_of past) b k seen.0 seen.1 in
            subst (λ (q : ℕ × ℕ). Near q.0) (sym seen.2) (was.calls b k seen.0.object seen.0.op seen.0.count call)
        by false j = absurd j
    gained a p (Commit b) fine i = by (is_child a b) i
      where
        by : (t : Bool) → In p (if t then pairs_of (finish_counts mail) else []) → Near p.0
        by true j = finish_pairs words mail p comes j
        by false j = absurd j
    gained a p (Got b k (seens.Busy u)) fine i = absurd i
    gained a p (Got b k seens.Gone) fine i = absurd i
    gained a p (Ask q b) fine i = absurd i
    gained a p (Call b k x op c) fine i = absurd i
    gained a p (Perform b k answer) fine i = absurd i
    gained a p (Bounce b k u) fine i = absurd i
    gained a p (AskCommit b v) fine i = absurd i
    gained a p (AskAbort b) fine i = absurd i
    gained a p (Abort b) fine i = absurd i
    gained a p (Secure f m c) fine i = absurd i
    gained a p (Inform m b o) fine i = absurd i
    gained a p (Crash m) fine i = absurd i

    pairs : (a : Name) (p : ℕ × ℕ) → In p (flat_map (gained_by objects (deeds_of past) mail a) ds ++ own_pairs objects past a) → Near p.0
    pairs a p i = elim (in_append (flat_map (gained_by objects (deeds_of past) mail a) ds) (own_pairs objects past a) p i) [
      | inl new ↦ let found = flat_in (gained_by objects (deeds_of past) mail a) ds p new in gained a p found.0 (fine_of found.0 found.1) found.2
      | inr old ↦ was.pairs a p old
    ]

-- so of a whole history
pub own_near : (words : Words) (s : ℕ) (h : List (NumberedEvent Stepped Copied)) → IsStormHistory words s h → OwnNear words s (map carried_in h)
own_near words s [] all = record { created = λ a i. absurd i; calls = λ a n x op c i. absurd i; pairs = λ a p i. absurd i }
own_near words s (entry ∷ before) all =
    own_near_more words s (map carried_in before) entry.received entry.event.event (put_of words s (map carried_in before) entry.received entry.event all.0) (lawful_own words s before all.1) (own_near words s before all.1)
