-- What a node of a storm holds covers what its actions depend on, so each letter of a lawful event may
-- be handed to the node to which it goes.
use Rattle.std.proofs.Common.{eqb, ◌≡◌, ◌⊎◌, inl, inr, ℕ, ◌+◌, ◌-◌, ◌≤◌, true, false, List, [], ◌∷◌, map, reverse, Some, refl, sym, ap, ◌∙◌, subst, arith}
use Rattle.std.specs.Prelude.{slice_get, slice_index}
use Rattle.std.specs.List.{list_all}
use Rattle.std.proofs.lemmas.List.{get_or-replicate}
use Rattle.std.proofs.lemmas.Bool.Decides.{eqb_tells}
use Rattle.cam_names.specs.declared.name.Name.{Name}
use Rattle.cam_type.specs.declared.ObjectDecl.{ObjectDecl}
use Rattle.cam_know.specs.declared.Outcome.{Outcome}
use Rattle.cam_know.specs.declared.Outcome.TheVariants.{Aborted, Committed}
use Rattle.cam_know.specs.Knowledge.{Knowledge}
use Rattle.cam_know.specs.Known.{nothing, known_count, both}
use Rattle.cam_know.proofs.JoinLaws.{join_knows_at_least}
use Rattle.cam_event.specs.declared.Event.{Event}
use Rattle.cam_event.specs.declared.Sent.{Sent}
use Rattle.cam_event.specs.declared.Body.{Body}
use Rattle.cam_event.specs.Sights.{Sight}
use Rattle.cam_event.specs.Rules.{rule}
use Rattle.cam_event.specs.ByKnowledge.{own_pairs, held_sight}
use Rattle.cam_event.proofs.Members.{In}
use Rattle.cam_node.specs.Lawful.{IsForNode, body_counts, are_known, is_known_outcome}
use Rattle.cam_cut.proofs.Lists.{slice_in, all_in}
use Rattle.cam_cut.proofs.Pairs.{pairs_in}
use Rattle.cam_journal.specs.declared.entry.NumberedEvent.{NumberedEvent}
use Rattle.cam_gen.specs.Storms.{Words, objects_of}
use Rattle.cam_know.specs.Order.{told_in_order}
use Rattle.cam_event.specs.Loads.{Load}
use Rattle.cam_event.specs.ByDeltas.{Received, as_carried, known, acked_of, load_for}
use Rattle.cam_delta.proofs.DeltaLists.{in_drop}
use Rattle.cam_storm.specs.Events.{Copied}
use Rattle.cam_storm.specs.Events.{Stepped}
use Rattle.cam_storm.specs.Names.{IsOfStorm, Near}
use Rattle.cam_storm.specs.Own.{own_sent}
use Rattle.cam_storm.specs.Lawful.{mail_in, load_in, carried, carried_in, own_history, IsCopied, IsStormStep, IsStormHistory}
use Rattle.cam_storm.specs.Laws.{LettersMayCome}
use Rattle.cam_storm.proofs.Letters.{copied_at}
use Rattle.cam_storm.proofs.Rules.{LetterFine}
use Rattle.cam_storm.proofs.Covered.{Covers, Sound, learned_grow, covers_all}
use Rattle.cam_storm.proofs.SoundSteps.{IsPutStep, next_of, put_of}
use Rattle.cam_storm.proofs.OwnNear.{OwnNear, own_near}
use Rattle.cam_storm.proofs.OwnSends.{sent_near, sent_of_storm}
use Rattle.cam_storm.proofs.Sound.{sound_more}

one_known : (s : ℕ) → 1 ≤ s → s ≤ 8 → 1 ≤ known_count nothing s
one_known s low high = let e = get_or-replicate {A = ℕ} 8 (s - 1) 1 0 (omega (arith, low, high)) in omega (arith, e)

sound_history : (words : Words) (s : ℕ) (h : List (NumberedEvent Stepped Copied)) → 1 ≤ s → s ≤ 8 → IsStormHistory words s h → Sound (objects_of words) s (map as_carried (map carried_in h))
sound_history words s [] low high all = record {
  long = omega arith;
  present = one_known s low high;
  calls = λ a n x op c i. absurd i;
  pairs = λ a p i. absurd i;
  outcomes = λ a counts p there i. absurd there;
}
sound_history words s (entry ∷ h) low high all = sound_more words s (map carried_in h) entry.received entry.event low high all.0 (sound_history words s h low high all.1)

-- the counts of a load are all that its sender knows, and its outcomes are among those
load_counts : (objects : List ObjectDecl) (s : ℕ) (h : List Received) (r : ℕ) → (load_for objects s h r).know.counts ≡ (known objects h).counts
load_counts objects s h r = by (eqb_tells s r)
  where
    by : ((eqb s r ≡ true) × (s ≡ r)) ⊎ ((eqb s r ≡ false) × (s ≡ r → ⊥)) → (load_for objects s h r).know.counts ≡ (known objects h).counts
    by (inl y) = rw y.0 refl
    by (inr n) = rw n.0 refl

load_within : (objects : List ObjectDecl) (s : ℕ) (h : List Received) (r : ℕ) (o : Outcome) → In o (load_for objects s h r).know.outcomes → In o (known objects h).outcomes
load_within objects s h r o = by (eqb_tells s r)
  where
    by : ((eqb s r ≡ true) × (s ≡ r)) ⊎ ((eqb s r ≡ false) × (s ≡ r → ⊥)) → In o (load_for objects s h r).know.outcomes → In o (known objects h).outcomes
    by (inl y) = rw y.0 (λ i. absurd i)
    by (inr n) = rw n.0 (λ i. in_drop (acked_of objects h r) (known objects h).outcomes o i)

-- So each letter of a lawful event may be handed to the node to which it goes.
pub letters_may_come : LettersMayCome
letters_may_come words s history taken e place c allowed at =
    (record { addressed = refl; for_node = for_node; body_known = body_known; outcomes_known = outcomes_known }, near, of_storm)
  where
    objects : List ObjectDecl
    objects = objects_of words

    own : List Received
    own = own_history history

    step : IsStormStep words s own taken e
    step = allowed.1

    high : s ≤ 8
    high = let four = step.here.1 in omega (arith, four)

    g : Sight
    g = held_sight objects s (map as_carried own) (told_in_order (load_in taken).know)

    before : Sound objects s (map as_carried own)
    before = sound_history words s (reverse history) step.here.0 high allowed.0

    now : Sound objects s (map as_carried (carried e taken ∷ own))
    now = sound_more words s own taken e step.here.0 high step before

    found : (m : Sent) × (slice_get e.event.sent place ≡ Some m) × IsCopied words s (carried e taken ∷ own) (own_sent own + place) m c
    found = copied_at words s (carried e taken ∷ own) (own_sent own) e.event.sent e.letters place c step.letters at

    is : IsCopied words s (carried e taken ∷ own) (own_sent own + place) found.0 c
    is = found.2

    put : IsPutStep words s own taken e.event
    put = put_of words s own taken e step

    there : In found.0 (rule objects g (mail_in taken) step.input).sent
    there = subst (λ (l : List Sent). In found.0 l) (ap (λ (x : Event). x.sent) step.is_next) (slice_in e.event.sent place found.0 found.1)

    fine : LetterFine objects g step.input found.0
    fine = (next_of words s own taken e.event step.here.0 put).fine.sent found.0 there

    K : Knowledge
    K = known objects (carried e taken ∷ own)

    counts_are : c.letter.know.counts ≡ K.counts
    counts_are = ap (λ (l : Load). l.know.counts) is.load ∙ load_counts objects s (carried e taken ∷ own) found.0.to

    -- the counts that the node knows then, the letter has
    with_letter : (p : ℕ × ℕ) → Covers K p → Covers c.letter.know p
    with_letter p h = subst (λ (cs : List ℕ). p.1 ≤ slice_index cs (p.0 - 1)) (sym counts_are) h

    old_covers : (p : ℕ × ℕ) → Covers (known objects own) p → Covers K p
    old_covers p h =
        let one = (join_knows_at_least (known objects own) (told_in_order (load_in taken).know)).0.counts p.0 in
        let more = learned_grow objects (map as_carried own) (mail_in taken) (both (known objects own) (told_in_order (load_in taken).know)) e.event.deeds p.0 in
        omega (arith, h, one, more)

    for_node : IsForNode objects c.letter.to c.letter.body
    for_node = subst (λ (b : Body). IsForNode objects c.letter.to b) (sym is.body) (subst (λ (r : ℕ). IsForNode objects r found.0.body) (sym is.to) fine.for_node)

    by_counts : (body_counts found.0.body ≡ []) ⊎ ((a : Name) × (body_counts found.0.body ≡ g.deps a)) → are_known c.letter.know (body_counts found.0.body) ≡ true
    by_counts (inl none) = ap (λ (cs : List ℕ). are_known c.letter.know cs) none
    by_counts (inr deps) =
        ap (λ (cs : List ℕ). are_known c.letter.know cs) deps.1
        ∙ covers_all c.letter.know (g.deps deps.0) (λ p i. with_letter p (old_covers p (before.pairs deps.0 p (pairs_in (own_pairs objects (map as_carried own) deps.0) p i))))

    body_known : are_known c.letter.know (body_counts c.letter.body) ≡ true
    body_known = ap (λ (b : Body). are_known c.letter.know (body_counts b)) is.body ∙ by_counts fine.counts

    outcomes_known : list_all (is_known_outcome c.letter.know) c.letter.know.outcomes ≡ true
    outcomes_known = all_in (is_known_outcome c.letter.know) c.letter.know.outcomes by
      where
        by : (o : Outcome) → In o c.letter.know.outcomes → is_known_outcome c.letter.know o ≡ true
        by (Aborted a) i = refl
        by (Committed a counts) i =
            let there : In (Committed a counts) K.outcomes = load_within objects s (carried e taken ∷ own) found.0.to (Committed a counts) (subst (λ (l : Load). In (Committed a counts) l.know.outcomes) is.load i) in
            covers_all c.letter.know counts (λ p j. with_letter p (now.outcomes a counts p there j))

    kept : OwnNear words s own
    kept = own_near words s (reverse history) allowed.0

    near : Near c.letter.to
    near = subst Near (sym is.to) (sent_near words s own taken e.event put kept found.0 there)

    of_storm : IsOfStorm words c.letter.from c.letter.body
    of_storm = subst (λ (b : Body). IsOfStorm words c.letter.from b) (sym is.body) (subst (λ (r : ℕ). IsOfStorm words r found.0.body) (sym is.from) (sent_of_storm words s own taken e.event put kept found.0 there))
