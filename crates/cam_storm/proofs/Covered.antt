-- What a node's knowledge covers: what it holds and what a letter brings.
use Rattle.std.proofs.Common.{◌≡◌, inl, inr, ℕ, ◌+◌, ◌-◌, ◌≤◌, true, List, [], ◌∷◌, ◌++◌, length, Option, Some, None, refl, ap, ◌∙◌, subst, arith, max}
use Rattle.std.specs.Prelude.{nat_le, slice_index}
use Rattle.std.proofs.Math.ListN.{length-set}
use Rattle.std.proofs.lemmas.Bool.{leb-true, le-leb}
use Rattle.cam_names.specs.declared.name.Name.{Name}
use Rattle.cam_names.specs.Dependencies.{pairs_of, greater_counts}
use Rattle.cam_type.specs.declared.ObjectDecl.{ObjectDecl}
use Rattle.cam_type.specs.declared.Op.{Op}
use Rattle.cam_know.specs.declared.Outcome.TheVariants.{Aborted, Committed}
use Rattle.cam_know.specs.Knowledge.{Knowledge}
use Rattle.cam_know.specs.Known.{known_count, with_outcome, with_count}
use Rattle.cam_know.specs.Order.{in_order}
use Rattle.cam_know.proofs.JoinLaws.{raise_knows_at_least}
use Rattle.cam_event.specs.declared.Body.{Body}
use Rattle.cam_event.specs.declared.Body.TheVariants as bodies
use Rattle.cam_event.specs.declared.Deed.{Deed}
use Rattle.cam_event.specs.declared.Deed.TheVariants.{Call, Commit, Abort, Crash}
use Rattle.cam_event.specs.History.{count}
use Rattle.cam_event.specs.Live.{site_of}
use Rattle.cam_event.specs.Inputs.{Input, Begins, Requests, Receives, Tells, Queries, Restarts, Mail}
use Rattle.cam_event.specs.Sights.{Sight}
use Rattle.cam_event.specs.ByKnowledge.{start_counts, finish_counts, own_pairs, commit_counts, learned_by, held}
use Rattle.cam_event.specs.Carried.{Carried, deeds_of}
use Rattle.cam_event.specs.Loads.{Load, no_load}
use Rattle.cam_event.specs.ByDeltas.{Received}
use Rattle.cam_delta.proofs.DeltaLists.{ordered_in}
use Rattle.cam_event.proofs.Members.{In}
use Rattle.cam_node.specs.Lawful.{body_counts, are_known, is_known_outcome, IsLetter, HasNone, MayBePut}
use Rattle.cam_cut.proofs.Informs.{IsInformAt}
use Rattle.cam_cut.proofs.Lists.{in_all, all_in}
use Rattle.cam_journal.specs.declared.entry.SentLetter.{SentLetter as Taken}
use Rattle.cam_gen.specs.Storms.{Words, objects_of}
use Rattle.cam_storm.specs.Events.{Copied}
use Rattle.cam_storm.specs.Lawful.{letter_mail, mail_in, load_in, ComesFrom, IsPut}

-- no count of the pair is above the known one
abbrev pub Covers : Knowledge → ℕ × ℕ → Type 0
Covers k p = p.1 ≤ known_count k p.0

-- what the node holds covers all that it goes by
pub record Sound (objects : List ObjectDecl) (s : ℕ) (own : List Carried) : Type 0 where
  pub long : 8 ≤ length (held objects own).counts
  pub present : count (deeds_of own) s ≤ known_count (held objects own) s
  pub calls : (a : Name) (n x : ℕ) (op : Op) (c : ℕ) → In (Call a n x op c) (deeds_of own) → c ≤ known_count (held objects own) (site_of objects x)
  pub pairs : (a : Name) (p : ℕ × ℕ) → In p (own_pairs objects own a) → Covers (held objects own) p
  pub outcomes : (a : Name) (counts : List ℕ) (p : ℕ × ℕ) → In (Committed a counts) (held objects own).outcomes → In p (pairs_of counts) → Covers (held objects own) p

-- counts grow by what is learned
pub learned_grow : (objects : List ObjectDecl) (own : List Carried) (mail : Option Mail) (k : Knowledge) (ds : List Deed) (n : ℕ) → known_count k n ≤ known_count (learned_by objects own mail k ds) n
learned_grow objects own mail k [] n = omega arith
learned_grow objects own mail k (Commit a ∷ ds) n = learned_grow objects own mail (with_outcome (Committed a (commit_counts objects own mail a)) k) ds n
learned_grow objects own mail k (Abort a ∷ ds) n = learned_grow objects own mail (with_outcome (Aborted a) k) ds n
learned_grow objects own mail k (Crash m ∷ ds) n =
    let c : ℕ = count (deeds_of own) m + 1 in
    let one = (raise_knows_at_least m c k).counts n in
    let rest = learned_grow objects own mail (with_count m c k) ds n in
    omega (arith, one, rest)
learned_grow objects own mail k (_ ∷ ds) n = learned_grow objects own mail k ds n

pub learned_long : (objects : List ObjectDecl) (own : List Carried) (mail : Option Mail) (k : Knowledge) (ds : List Deed) → 8 ≤ length k.counts → 8 ≤ length (learned_by objects own mail k ds).counts
learned_long objects own mail k [] long = long
learned_long objects own mail k (Commit a ∷ ds) long = learned_long objects own mail (with_outcome (Committed a (commit_counts objects own mail a)) k) ds long
learned_long objects own mail k (Abort a ∷ ds) long = learned_long objects own mail (with_outcome (Aborted a) k) ds long
learned_long objects own mail k (Crash m ∷ ds) long =
    let c : ℕ = count (deeds_of own) m + 1 in
    let same = length-set k.counts (m - 1) (max (slice_index k.counts (m - 1)) c) in
    learned_long objects own mail (with_count m c k) ds (omega (arith, long, same))
learned_long objects own mail k (_ ∷ ds) long = learned_long objects own mail k ds long

pub greater_long : (cs ds : List ℕ) → 8 ≤ length cs → 8 ≤ length (greater_counts cs ds)
greater_long cs ds long = let more = at_least cs ds in omega (arith, long, more)
  where
    at_least : (cs ds : List ℕ) → length cs ≤ length (greater_counts cs ds)
    at_least [] ds = omega arith
    at_least (c ∷ cs) [] = omega arith
    at_least (c ∷ cs) (d ∷ ds) = let rest = at_least cs ds in omega (arith, rest)

-- Informs teach nothing
pub learned_informs : (objects : List ObjectDecl) (own : List Carried) (mail : Option Mail) (k : Knowledge) (s : ℕ) (xs ds : List Deed) → ((d : Deed) → In d xs → IsInformAt s d) → learned_by objects own mail k (xs ++ ds) ≡ learned_by objects own mail k ds
learned_informs objects own mail k s [] ds is = refl
learned_informs objects own mail k s (x ∷ xs) ds is =
    ap (λ (d : Deed). learned_by objects own mail k (d ∷ (xs ++ ds))) (is x (inl refl)).is ∙ learned_informs objects own mail k s xs ds (λ d i. is d (inr i))

-- what the letter of an input brings
abbrev pub Brings : List ObjectDecl → ℕ → Option Mail → Load → Type 0
Brings objects s None load = load ≡ no_load
Brings objects s (Some m) load = IsLetter objects s m load

pub brings_none : (objects : List ObjectDecl) (s : ℕ) (mail : Option Mail) (load : Load) → HasNone mail load → Brings objects s mail load
brings_none objects s None load has = has.1
brings_none objects s (Some m) load has = absurd (not_none has.0)
  where
    not_none : Some m ≡ None → ⊥
    not_none e = cc

pub brings : (objects : List ObjectDecl) (s : ℕ) (g : Sight) (input : Input) (mail : Option Mail) (load : Load) → MayBePut objects s g input mail load → Brings objects s mail load
brings objects s g (Begins m) mail load may = brings_none objects s mail load may.1
brings objects s g (Requests r) mail load may = brings_none objects s mail load may.3
brings objects s g (Receives letter) None load may = absurd may
brings objects s g (Receives letter) (Some m) load may = may
brings objects s g (Tells m to) mail load may = brings_none objects s mail load may.3
brings objects s g (Queries m f) mail load may = brings_none objects s mail load may.2
brings objects s g (Restarts m) mail load may = brings_none objects s mail load may.1

pub covered : (k : Knowledge) (counts : List ℕ) (p : ℕ × ℕ) → are_known k counts ≡ true → In p (pairs_of counts) → Covers k p
covered k counts p known i = leb-true p.1 (known_count k p.0) (in_all (λ q. nat_le q.1 (known_count k q.0)) (pairs_of counts) p known i)

pub covers_all : (k : Knowledge) (counts : List ℕ) → ((p : ℕ × ℕ) → In p (pairs_of counts) → Covers k p) → are_known k counts ≡ true
covers_all k counts all = all_in (λ q. nat_le q.1 (known_count k q.0)) (pairs_of counts) (λ p i. le-leb p.1 (known_count k p.0) (all p i))

pub start_known : (objects : List ObjectDecl) (s : ℕ) (mail : Option Mail) (load : Load) (p : ℕ × ℕ) → Brings objects s mail load → In p (pairs_of (start_counts mail)) → Covers load.know p
start_known objects s None load p is i = absurd i
start_known objects s (Some m) load p is i = by m.body is.body_known i
  where
    by : (body : Body) → are_known load.know (body_counts body) ≡ true → In p (pairs_of (start_counts (Some (record { from = m.from; to = m.to; body = body })))) → Covers load.know p
    by (bodies.Start b counts) known j = covered load.know counts p known j
    by (bodies.Call a n x op c counts) known j = absurd j
    by (bodies.Answer a n reply) known j = absurd j
    by (bodies.Finish b v counts) known j = absurd j
    by (bodies.Quit b) known j = absurd j
    by (bodies.Prepare f c) known j = absurd j
    by (bodies.Vote f c agrees) known j = absurd j
    by (bodies.Query f) known j = absurd j
    by bodies.News known j = absurd j

pub finish_known : (objects : List ObjectDecl) (s : ℕ) (mail : Option Mail) (load : Load) (p : ℕ × ℕ) → Brings objects s mail load → In p (pairs_of (finish_counts mail)) → Covers load.know p
finish_known objects s None load p is i = absurd i
finish_known objects s (Some m) load p is i = by m.body is.body_known i
  where
    by : (body : Body) → are_known load.know (body_counts body) ≡ true → In p (pairs_of (finish_counts (Some (record { from = m.from; to = m.to; body = body })))) → Covers load.know p
    by (bodies.Finish b v counts) known j = covered load.know counts p known j
    by (bodies.Start b counts) known j = absurd j
    by (bodies.Call a n x op c counts) known j = absurd j
    by (bodies.Answer a n reply) known j = absurd j
    by (bodies.Quit b) known j = absurd j
    by (bodies.Prepare f c) known j = absurd j
    by (bodies.Vote f c agrees) known j = absurd j
    by (bodies.Query f) known j = absurd j
    by bodies.News known j = absurd j

pub outcome_known : (objects : List ObjectDecl) (s : ℕ) (mail : Option Mail) (load : Load) (a : Name) (counts : List ℕ) (p : ℕ × ℕ) → Brings objects s mail load → In (Committed a counts) (in_order load.know.outcomes) → In p (pairs_of counts) → Covers load.know p
outcome_known objects s None load a counts p is there i = absurd (subst (λ (l : Load). In (Committed a counts) (in_order l.know.outcomes)) is there)
outcome_known objects s (Some m) load a counts p is there i = covered load.know counts p (in_all (is_known_outcome load.know) load.know.outcomes (Committed a counts) is.outcomes_known (ordered_in (Committed a counts) load.know.outcomes there)) i

-- no rule of a storm but a restart crashes
pub comes_from : (words : Words) (s : ℕ) (own : List Received) (taken : Option (Taken Copied)) (input : Input) (g : Sight) → IsPut words s own taken input → MayBePut (objects_of words) s g input (mail_in taken) (load_in taken) → ComesFrom words (mail_in taken)
comes_from words s own None input g so may = tt
comes_from words s own (Some k) (Receives letter) g so may = so.1
comes_from words s own (Some k) (Begins m) g so may = absurd (no_mail may.1.0)
  where
    no_mail : Some (letter_mail k.letter.letter) ≡ None → ⊥
    no_mail e = cc
comes_from words s own (Some k) (Requests r) g so may = absurd (no_mail may.3.0)
  where
    no_mail : Some (letter_mail k.letter.letter) ≡ None → ⊥
    no_mail e = cc
comes_from words s own (Some k) (Tells m to) g so may = absurd so
comes_from words s own (Some k) (Queries m f) g so may = absurd so
comes_from words s own (Some k) (Restarts m) g so may = absurd (no_mail may.1.0)
  where
    no_mail : Some (letter_mail k.letter.letter) ≡ None → ⊥
    no_mail e = cc

pub no_tell : (words : Words) (s : ℕ) (own : List Received) (taken : Option (Taken Copied)) (input : Input) → IsPut words s own taken input → (m to : ℕ) → input ≡ Tells m to → ⊥
no_tell words s own taken input so m to e = subst (IsPut words s own taken) e so

pub no_query : (words : Words) (s : ℕ) (own : List Received) (taken : Option (Taken Copied)) (input : Input) → IsPut words s own taken input → (m : ℕ) (f : Name) → input ≡ Queries m f → ⊥
no_query words s own taken input so m f e = subst (IsPut words s own taken) e so
