-- What a node of a storm holds covers what its actions depend on and what its commits depend on; so each letter that it sends may be handed over.
use Rattle.std.proofs.Common.{◌≡◌, ◌⊎◌, inl, inr, ℕ, ◌+◌, ◌-◌, ◌≤◌, Bool, true, false, if◌then◌else◌, List, [], ◌∷◌, ◌++◌, map, length, Option, Some, None, refl, sym, ap, ◌∙◌, subst, arith, max}
use Rattle.std.specs.Prelude.{flat_map, slice_index}
use Rattle.std.proofs.lemmas.List.{get_or-set_same}
use Rattle.std.proofs.lemmas.Bool.{eqb-true, eq-eqb}
use Rattle.cam_names.specs.declared.name.Name.{Name}
use Rattle.cam_names.specs.Names.{name_eq, is_top, is_child, home_node, home_count}
use Rattle.cam_names.specs.Dependencies.{as_counts, pairs_of}
use Rattle.cam_type.specs.declared.ObjectDecl.{ObjectDecl}
use Rattle.cam_type.specs.declared.Op.{Op}
use Rattle.cam_know.specs.declared.Outcome.TheVariants.{Committed}
use Rattle.cam_know.specs.Knowledge.{Knowledge}
use Rattle.cam_know.specs.Known.{known_count, both, with_count}
use Rattle.cam_know.proofs.JoinLaws.{join_knows_at_least}
use Rattle.cam_event.specs.declared.Body.{Body}
use Rattle.cam_event.specs.declared.Seen.TheVariants as seens
use Rattle.cam_event.specs.declared.Deed.{Deed}
use Rattle.cam_event.specs.declared.Deed.TheVariants.{Create, Ask, Call, Perform, Bounce, Got, AskCommit, AskAbort, Commit, Abort, Secure, Inform, Crash}
use Rattle.cam_event.specs.History.{after, count, call_of}
use Rattle.cam_event.specs.Gained.{home, visited}
use Rattle.cam_event.specs.Live.{site_of}
use Rattle.cam_event.specs.Inputs.{Input, Begins, Requests, Receives, Tells, Queries, Restarts, Mail}
use Rattle.cam_event.specs.Sights.{Sight, present}
use Rattle.cam_event.specs.Rules.{rule, top_name}
use Rattle.cam_event.specs.ByKnowledge.{start_counts, finish_counts, gained_by, own_pairs, commit_counts, learned_by, held, held_informs, held_sight}
use Rattle.cam_event.specs.Carried.{Carried, deeds_of}
use Rattle.cam_event.proofs.Agree.{count_after_other}
use Rattle.cam_event.proofs.Members.{In, in_append, in_after}
use Rattle.cam_node.specs.Lawful.{IsForNode}
use Rattle.cam_cut.proofs.DepsFacts.{in_visited}
use Rattle.cam_cut.proofs.Informs.{IsInformAt, after_append}
use Rattle.cam_cut.proofs.LegalFacts.{call_in}
use Rattle.cam_cut.proofs.Lists.{flat_in}
use Rattle.cam_cut.proofs.Pairs.{pairs_in}
use Rattle.cam_agree.proofs.DepsLearned.{in_both_known, learned}
use Rattle.cam_journal.specs.declared.entry.SentLetter.{SentLetter as Taken}
use Rattle.cam_gen.specs.Storms.{Words, objects_of}
use Rattle.cam_know.specs.Order.{told_in_order}
use Rattle.cam_event.specs.Loads.{Load}
use Rattle.cam_event.specs.ByDeltas.{Received, as_carried}
use Rattle.cam_storm.specs.Events.{Copied}
use Rattle.cam_storm.specs.Events.{Stepped}
use Rattle.cam_storm.specs.Runs.{is_begin, is_restart}
use Rattle.cam_storm.specs.Lawful.{mail_in, load_in, carried, IsStormStep}
use Rattle.cam_storm.proofs.Rules.{StartOf, DeedFine}
use Rattle.cam_storm.proofs.Covered.{Covers, Sound, learned_grow, learned_long, greater_long, learned_informs, Brings, start_known, finish_known, outcome_known}
use Rattle.cam_storm.proofs.SoundSteps.{Next, next_of, put_of, first_inform, deed_of, present_is, no_crash}

pub sound_more : (words : Words) (s : ℕ) (own : List Received) (taken : Option (Taken Copied)) (e : Stepped) → 1 ≤ s → s ≤ 8 → IsStormStep words s own taken e → Sound (objects_of words) s (map as_carried own) → Sound (objects_of words) s (map as_carried (carried e taken ∷ own))
sound_more words s own taken e low high step was = record { long = long; present = now; calls = calls; pairs = pairs; outcomes = outcomes }
  where
    objects : List ObjectDecl
    objects = objects_of words

    mail : Option Mail
    mail = mail_in taken

    load : Load
    load = load_in taken

    brought : Knowledge
    brought = told_in_order load.know

    past : List Carried
    past = map as_carried own

    g : Sight
    g = held_sight objects s past brought

    held_before : Knowledge
    held_before = held objects past

    with_brought : Knowledge
    with_brought = both held_before brought

    ds : List Deed
    ds = e.event.deeds

    held_after : Knowledge
    held_after = learned_by objects past mail with_brought ds

    n : Next words s past mail load step.input ds (rule objects g mail step.input)
    n = next_of words s own taken e.event low (put_of words s own taken e step)

    from_old : (p : ℕ × ℕ) → Covers held_before p → Covers held_after p
    from_old p h = let one = (join_knows_at_least held_before brought).0.counts p.0 in let more = learned_grow objects past mail with_brought ds p.0 in omega (arith, h, one, more)

    from_brought : (p : ℕ × ℕ) → Covers brought p → Covers held_after p
    from_brought p h = let one = (join_knows_at_least held_before brought).1.counts p.0 in let more = learned_grow objects past mail with_brought ds p.0 in omega (arith, h, one, more)

    long : 8 ≤ length held_after.counts
    long = learned_long objects past mail with_brought ds (greater_long held_before.counts brought.counts was.long)

    own_home : (b : Name) → home_node b ≡ s → home_count b ≡ present g → Covers held_after (home b)
    own_home b node number =
        let is : home_count b ≡ count (deeds_of past) s = number ∙ present_is objects s past load in
        let known = was.present in
        subst (λ (m : ℕ). home_count b ≤ known_count held_after m) (sym node) (from_old (s, home_count b) (omega (arith, is, known)))

    created_home : (b : Name) → ((b ≡ top_name g) × (is_begin step.input ≡ true)) ⊎ StartOf g mail b → Covers held_after (home b)
    created_home b (inl top) = own_home b (ap home_node top.0) (ap home_count top.0)
    created_home b (inr start) = by mail n.comes start
      where
        by : (o : Option Mail) → Brings objects s o load → StartOf g o b → Covers held_after (home b)
        by None is st = absurd st
        by (Some m) is st =
            let here : home_node b ≡ s = (subst (λ (body : Body). IsForNode objects s body) st.1 is.for_node).0 in
            own_home b here (eqb-true (home_count b) (present g) st.2)

    gained : (a : Name) (p : ℕ × ℕ) (d : Deed) → IsInformAt s d ⊎ DeedFine objects g mail step.input d → In p (gained_by objects (deeds_of past) mail a d) → Covers held_after p
    gained a p (Create b) fine i = by_name (name_eq a b) i fine
      where
        by_name : (t : Bool) → In p (if t then home b ∷ pairs_of (start_counts mail) else []) → IsInformAt s (Create b) ⊎ DeedFine objects g mail step.input (Create b) → Covers held_after p
        by_name true (inl same) (inr h) = subst (Covers held_after) (sym same) (created_home b h)
        by_name true (inl same) (inl h) = let x = h.is in absurd (cc)
        by_name true (inr j) h = from_brought p (start_known objects s mail load p n.comes j)
        by_name false j h = absurd j
    gained a p (Got b k (seens.Done answer)) fine i = by_name (name_eq a b) i
      where
        by_name : (t : Bool) → In p (if t then visited objects (call_of (deeds_of past) b k) else []) → Covers held_after p
        by_name true j =
            let seen = in_visited objects (call_of (deeds_of past) b k) p j in
            let call = call_in (deeds_of past) b k seen.0 seen.1 in
            subst (Covers held_after) (sym seen.2) (from_old (site_of objects seen.0.object, seen.0.count) (was.calls b k seen.0.object seen.0.op seen.0.count call))
        by_name false j = absurd j
    gained a p (Commit b) fine i = by_child (is_child a b) i
      where
        by_child : (t : Bool) → In p (if t then pairs_of (finish_counts mail) else []) → Covers held_after p
        by_child true j = from_brought p (finish_known objects s mail load p n.comes j)
        by_child false j = absurd j
    gained a p (Got b k (seens.Busy u)) fine i = absurd i
    gained a p (Got b k seens.Gone) fine i = absurd i
    gained a p (Ask q b) fine i = absurd i
    gained a p (Call b k x op c) fine i = absurd i
    gained a p (Perform b k answer) fine i = absurd i
    gained a p (Bounce b k u) fine i = absurd i
    gained a p (AskCommit b v) fine i = absurd i
    gained a p (AskAbort b) fine i = absurd i
    gained a p (Abort b) fine i = absurd i
    gained a p (Secure f m c) fine i = absurd i
    gained a p (Inform m b o) fine i = absurd i
    gained a p (Crash m) fine i = absurd i

    pairs : (a : Name) (p : ℕ × ℕ) → In p (own_pairs objects (map as_carried (carried e taken ∷ own)) a) → Covers held_after p
    pairs a p i = elim (in_append (flat_map (gained_by objects (deeds_of past) mail a) ds) (own_pairs objects past a) p i) [
      | inl new ↦
          let found = flat_in (gained_by objects (deeds_of past) mail a) ds p new in
          gained a p found.0 (deed_of words s past mail load step.input ds (rule objects g mail step.input) n found.0 found.1) found.2
      | inr old ↦ from_old p (was.pairs a p old)
    ]

    committed_pairs : (a : Name) (p : ℕ × ℕ) → In p (pairs_of (commit_counts objects past mail a)) → Covers held_after p
    committed_pairs a p i = by (is_top a) i
      where
        by : (t : Bool) → In p (pairs_of (if t then as_counts (own_pairs objects past a) else finish_counts mail)) → Covers held_after p
        by true j = from_old p (was.pairs a p (pairs_in (own_pairs objects past a) p j))
        by false j = from_brought p (finish_known objects s mail load p n.comes j)

    outcomes : (a : Name) (counts : List ℕ) (p : ℕ × ℕ) → In (Committed a counts) held_after.outcomes → In p (pairs_of counts) → Covers held_after p
    outcomes a counts p there i = elim (learned objects past mail with_brought ds a counts there) [
      | inl before ↦ elim (in_both_known held_before brought (Committed a counts) before) [
        | inl old ↦ from_old p (was.outcomes a counts p old i)
        | inr new ↦ from_brought p (outcome_known objects s mail load a counts p n.comes new i)
      ]
      | inr own_one ↦ committed_pairs a p (subst (λ (cs : List ℕ). In p (pairs_of cs)) own_one.1 i)
    ]

    calls : (a : Name) (k x : ℕ) (op : Op) (c : ℕ) → In (Call a k x op c) (after (deeds_of past) ds) → c ≤ known_count held_after (site_of objects x)
    calls a k x op c i = elim (in_after ds (deeds_of past) (Call a k x op c) i) [
      | inl new ↦ by (deed_of words s past mail load step.input ds (rule objects g mail step.input) n (Call a k x op c) new)
      | inr old ↦ from_old (site_of objects x, c) (was.calls a k x op c old)
    ]
      where
        by : IsInformAt s (Call a k x op c) ⊎ DeedFine objects g mail step.input (Call a k x op c) → c ≤ known_count held_after (site_of objects x)
        by (inl h) = let y = h.is in absurd (cc)
        by (inr h) = let known = h.0 in let more = learned_grow objects past mail with_brought ds (site_of objects x) in omega (arith, known, more)

    stays : is_restart step.input ≡ false → count (after (deeds_of past) ds) s ≤ known_count held_after s
    stays no_restart =
        let same : count (after (deeds_of past) ds) s ≡ count (deeds_of past) s = count_after_other ds (deeds_of past) s (no_crash words s past mail load step.input ds (rule objects g mail step.input) n no_restart) in
        let known = from_old (s, count (deeds_of past) s) was.present in
        omega (arith, same, known)

    restarted : (m : ℕ) → step.input ≡ Restarts m → count (after (deeds_of past) ds) s ≤ known_count held_after s
    restarted m is =
        let first : List Deed = held_informs objects s past brought in
        let whole : ds ≡ first ++ Crash s ∷ [] = n.deeds ∙ ap (λ (i : Input). first ++ (rule objects g mail i).deeds) is in
        let counted : count (after (deeds_of past) ds) s ≡ count (deeds_of past) s + 1 =
        ap (λ (l : List Deed). count (after (deeds_of past) l) s) whole
        ∙ ap (λ (L : List Deed). count L s) (after_append (deeds_of past) first (Crash s ∷ []))
        ∙ ap (λ (b : Bool). if b then count (after (deeds_of past) first) s + 1 else count (after (deeds_of past) first) s) (eq-eqb s s refl)
        ∙ ap (λ (k : ℕ). k + 1) (present_is objects s past load) in
        let learned_it : held_after ≡ with_count s (count (deeds_of past) s + 1) with_brought =
        ap (λ (l : List Deed). learned_by objects past mail with_brought l) whole ∙ learned_informs objects past mail with_brought s first (Crash s ∷ []) (first_inform objects s past load) in
        let room = greater_long held_before.counts brought.counts was.long in
        let raised : known_count held_after s ≡ max (slice_index with_brought.counts (s - 1)) (count (deeds_of past) s + 1) =
        ap (λ (k : Knowledge). known_count k s) learned_it
        ∙ get_or-set_same with_brought.counts (s - 1) (max (slice_index with_brought.counts (s - 1)) (count (deeds_of past) s + 1)) 0 (omega (arith, low, high, room)) in
        omega (arith, counted, raised)

    now : count (after (deeds_of past) ds) s ≤ known_count held_after s
    now = by step.input refl
      where
        by : (i : Input) → step.input ≡ i → count (after (deeds_of past) ds) s ≤ known_count held_after s
        by (Restarts m) is = restarted m is
        by (Begins m) is = stays (ap is_restart is)
        by (Requests r) is = stays (ap is_restart is)
        by (Receives letter) is = stays (ap is_restart is)
        by (Tells m to) is = stays (ap is_restart is)
        by (Queries m f) is = stays (ap is_restart is)
