-- With an event's records a log keeps the longer history.
use Rattle.std.proofs.Common.{◌≡◌, ◌≢◌, inl, inr, ℕ, ◌+◌, ◌-◌, ◌≤◌, max, nat_lt, Bool, true, if◌then◌else◌, List, [], ◌∷◌, map, length, refl, sym, ap, ◌∙◌, subst, arith, get_or-set_same, get_or-set_other, eq-eqb}
use Rattle.std.specs.Prelude.{slice_index, reverse, eqb, Option}
use Rattle.std.specs.List.{list_all}
use Rattle.std.proofs.lemmas.Bool.{cases_lt, lt-ltb, le-ltb}
use Rattle.cam_node.proofs.Bools.{second_of}
use Rattle.cam_type.specs.declared.ObjectDecl.{ObjectDecl}
use Rattle.cam_type.specs.declared.Held.{Held}
use Rattle.cam_know.specs.Knowledge.{Knowledge}
use Rattle.cam_know.specs.Known.{both, known_count, with_count}
use Rattle.cam_know.specs.Order.{told_in_order}
use Rattle.cam_event.specs.declared.Deed.{Deed}
use Rattle.cam_event.specs.declared.Deed.TheVariants.{Create, Ask, Call, Perform, Bounce, Got, AskCommit, AskAbort, Commit, Abort, Secure, Inform, Crash}
use Rattle.cam_event.specs.Inputs.{Mail}
use Rattle.cam_event.specs.History.{after, count}
use Rattle.cam_event.specs.ByKnowledge.{learned_by}
use Rattle.cam_event.specs.HeldSites.{site, site_after_all}
use Rattle.cam_event.specs.Carried.{Carried, deeds_of}
use Rattle.cam_event.specs.ByDeltas.{as_carried, known}
use Rattle.cam_recman.specs.declared.Record.{Record}
use Rattle.cam_recman.specs.declared.Recovered.{Recovered}
use Rattle.cam_recman.specs.Recovery.{with_records}
use Rattle.cam_recman.proofs.Folding.{with_more}
use Rattle.cam_node.specs.Log.{KeepsLog}
use Rattle.cam_server.specs.Recovered.{AreHeld, beside, OrderIsKept}
use Rattle.cam_node.specs.Entries.{Holding, learnt_records, deed_records, AreHoldings, AreOwn, is_own}
use Rattle.cam_node.specs.Opened.{logged_of}
use Rattle.cam_node.specs.LogLaws.{EntryKeeps, NoEntryKeeps}
use Rattle.cam_node.proofs.DeedRecords.{Keeps, own_deeds_keep, own_deeds_counts}
use Rattle.cam_node.proofs.NewsRecords.{LearntKeeps, learnt_keeps, no_less}

-- a count that was raised, and the others
raised_same : (counts : List ℕ) (s c : ℕ) → length counts ≡ 8 → 1 ≤ s → s ≤ 8
    → known_count (with_count s c (record { outcomes = []; counts = counts })) s ≡ max (slice_index counts (s - 1)) c
raised_same counts s c eight low high = get_or-set_same counts (s - 1) (max (slice_index counts (s - 1)) c) 0 (omega (arith, eight, low, high))

raised_other : (counts : List ℕ) (s m c : ℕ) → 1 ≤ s → 1 ≤ m → m ≢ s
    → known_count (with_count s c (record { outcomes = []; counts = counts })) m ≡ slice_index counts (m - 1)
raised_other counts s m c low place off = get_or-set_other counts (s - 1) (m - 1) (max (slice_index counts (s - 1)) c) 0 (λ (h : m - 1 ≡ s - 1). off (omega (arith, h, low, place)))

-- deeds without a crash leave the count
no_crash_in : (s : ℕ) (ds deeds : List Deed) → list_all (is_own s) ds ≡ true → count (after deeds ds) s ≡ count deeds s
no_crash_in s [] deeds own = refl
no_crash_in s (Create a ∷ ds) deeds own = no_crash_in s ds (Create a ∷ deeds) own
no_crash_in s (Ask a b ∷ ds) deeds own = no_crash_in s ds (Ask a b ∷ deeds) own
no_crash_in s (Call a n x op c ∷ ds) deeds own = no_crash_in s ds (Call a n x op c ∷ deeds) own
no_crash_in s (Perform a n answer ∷ ds) deeds own = no_crash_in s ds (Perform a n answer ∷ deeds) own
no_crash_in s (Bounce a n u ∷ ds) deeds own = no_crash_in s ds (Bounce a n u ∷ deeds) own
no_crash_in s (Got a n seen ∷ ds) deeds own = no_crash_in s ds (Got a n seen ∷ deeds) own
no_crash_in s (AskCommit a v ∷ ds) deeds own = no_crash_in s ds (AskCommit a v ∷ deeds) own
no_crash_in s (AskAbort a ∷ ds) deeds own = no_crash_in s ds (AskAbort a ∷ deeds) own
no_crash_in s (Commit a ∷ ds) deeds own = no_crash_in s ds (Commit a ∷ deeds) own
no_crash_in s (Abort a ∷ ds) deeds own = no_crash_in s ds (Abort a ∷ deeds) own
no_crash_in s (Secure f m c ∷ ds) deeds own = no_crash_in s ds (Secure f m c ∷ deeds) (second_of (eqb m s) (list_all (is_own s) ds) own)
no_crash_in s (Inform m u b ∷ ds) deeds own = no_crash_in s ds (Inform m u b ∷ deeds) own
no_crash_in s (Crash m ∷ ds) deeds own = absurd (cc)

-- of what was known and what is known now the log has the greater, whether it was recorded or not
greater_of : (l k now : ℕ) → k ≤ now → l ≡ k → max l (if nat_lt k now then now else 0) ≡ now
greater_of l k now le same = elim (cases_lt k now) [
  | inl above ↦ ap (λ (b : Bool). max l (if b then now else 0)) (lt-ltb k now above) ∙ omega (arith, same, above)
  | inr first ↦ ap (λ (b : Bool). max l (if b then now else 0)) (le-ltb k now first) ∙ omega (arith, same, first, le)
]

own_greater : (l c k now : ℕ) → k ≤ now → max l c ≡ k → max (max l (if nat_lt k now then now else 0)) c ≡ now
own_greater l c k now le same = elim (cases_lt k now) [
  | inl above ↦ ap (λ (b : Bool). max (max l (if b then now else 0)) c) (lt-ltb k now above) ∙ omega (arith, same, above)
  | inr first ↦ ap (λ (b : Bool). max (max l (if b then now else 0)) c) (le-ltb k now first) ∙ omega (arith, same, first, le)
]

own_raised : (l c k now d : ℕ) → k ≤ now → max l c ≡ k → c ≤ d → max (max l (if nat_lt k now then now else 0)) d ≡ max now d
own_raised l c k now d le same more = elim (cases_lt k now) [
  | inl above ↦ ap (λ (b : Bool). max (max l (if b then now else 0)) d) (lt-ltb k now above) ∙ omega (arith, same, above, more)
  | inr first ↦ ap (λ (b : Bool). max (max l (if b then now else 0)) d) (le-ltb k now first) ∙ omega (arith, same, first, le, more)
]

-- The log keeps what is known and live after the deeds, with their records behind what it recovers.
record KeepsDeeds (holds : Holding) (objects : List ObjectDecl) (s : ℕ) (h : List Carried) (mail : Option Mail) (now : Knowledge) (r : Recovered) (ds : List Deed) : Type 0 where
  keeps : Keeps s (after (deeds_of h) ds) (site_after_all (deeds_of h) mail (site h) ds) (learned_by objects h mail now ds) (with_records r (deed_records holds objects h mail ds))
  other_counts :
      (m : ℕ) → 1 ≤ m → m ≤ 8 → m ≢ s
      → known_count (with_records r (deed_records holds objects h mail ds)).know m ≡ known_count (learned_by objects h mail now ds) m
  own_known :
      max (known_count (with_records r (deed_records holds objects h mail ds)).know s) (with_records r (deed_records holds objects h mail ds)).count
      ≡ known_count (learned_by objects h mail now ds) s

-- What was known before, what is known now, and what the log recovers of counts.
record Counted (s : ℕ) (k now : Knowledge) (old : Recovered) (r : Recovered) : Type 0 where
  eight : length now.counts ≡ 8
  least : (m : ℕ) → known_count k m ≤ known_count now m
  seen :
      (m : ℕ) → 1 ≤ m → m ≤ 8
      → known_count r.know m ≡ max (known_count old.know m) (if nat_lt (known_count k m) (known_count now m) then known_count now m else 0)
  others : (m : ℕ) → 1 ≤ m → m ≤ 8 → m ≢ s → known_count old.know m ≡ known_count k m
  own : max (known_count old.know s) old.count ≡ known_count k s
  same : r.count ≡ old.count

others_are : (s : ℕ) (k now : Knowledge) (old r : Recovered) (m : ℕ) → Counted s k now old r → 1 ≤ m → m ≤ 8 → m ≢ s → known_count r.know m ≡ known_count now m
others_are s k now old r m counted low high off =
    counted.seen m low high ∙ greater_of (known_count old.know m) (known_count k m) (known_count now m) (counted.least m) (counted.others m low high off)

-- deeds without a crash
own_case : (holds : Holding) (objects : List ObjectDecl) (s : ℕ) (h : List Carried) (mail : Option Mail) (k now : Knowledge) (old r : Recovered) (ds : List Deed)
    → 1 ≤ s → s ≤ 8 → Counted s k now old r → AreHoldings holds (deeds_of h) mail (site h) r.held ds → Keeps s (deeds_of h) (site h) now r
    → list_all (is_own s) ds ≡ true → KeepsDeeds holds objects s h mail now r ds
own_case holds objects s h mail k now old r ds low high counted hold base own =
    let all = own_deeds_keep holds objects s h mail ds (deeds_of h) (site h) now r own hold base in
    let same = own_deeds_counts holds objects s h mail ds now r own in
    let new : Recovered = with_records r (deed_records holds objects h mail ds) in
    record {
      keeps = all;
      other_counts = λ m first last off.
          ap (λ (cs : List ℕ). slice_index cs (m - 1)) same.0 ∙ others_are s k now old r m counted first last off
          ∙ sym (ap (λ (cs : List ℕ). slice_index cs (m - 1)) same.1);
      own_known =
          (λ i. max (slice_index (same.0 i) (s - 1)) (all.count i))
          ∙ (λ i. max (counted.seen s low high i) (no_crash i))
          ∙ own_greater (known_count old.know s) old.count (known_count k s) (known_count now s) (counted.least s) counted.own
          ∙ sym (ap (λ (cs : List ℕ). slice_index cs (s - 1)) same.1);
    }
  where
    no_crash : count (after (deeds_of h) ds) s ≡ old.count
    no_crash = no_crash_in s ds (deeds_of h) own ∙ sym base.count ∙ counted.same

-- a crash alone
crash_case : (holds : Holding) (objects : List ObjectDecl) (s : ℕ) (h : List Carried) (mail : Option Mail) (k now : Knowledge) (old r : Recovered)
    → 1 ≤ s → s ≤ 8 → Counted s k now old r → Keeps s (deeds_of h) (site h) now r → KeepsDeeds holds objects s h mail now r (Crash s ∷ [])
crash_case holds objects s h mail k now old r low high counted base =
    let next : ℕ = count (deeds_of h) s + 1 in
    let here : count (Crash s ∷ deeds_of h) s ≡ next = ap (λ (b : Bool). if b then next else count (deeds_of h) s) (eq-eqb s s refl) in
    record {
      keeps = record { count = sym here; outcomes = base.outcomes; secured = base.secured; counts = base.counts; order = base.order };
      other_counts = λ m first last off. others_are s k now old r m counted first last off ∙ sym (raised_other now.counts s m next low first off);
      own_known =
          ap (λ (c : ℕ). max c next) (counted.seen s low high)
          ∙ own_raised (known_count old.know s) old.count (known_count k s) (known_count now s) next (counted.least s) counted.own (omega (arith, base.count, counted.same))
          ∙ sym (raised_same now.counts s next counted.eight low high);
    }

deeds_case : (holds : Holding) (objects : List ObjectDecl) (s : ℕ) (h : List Carried) (mail : Option Mail) (k now : Knowledge) (old r : Recovered) (ds : List Deed)
    → 1 ≤ s → s ≤ 8 → Counted s k now old r → AreHoldings holds (deeds_of h) mail (site h) r.held ds → Keeps s (deeds_of h) (site h) now r
    → AreOwn s ds → KeepsDeeds holds objects s h mail now r ds
deeds_case holds objects s h mail k now old r ds low high counted hold base (inl crash) =
    subst (λ (es : List Deed). KeepsDeeds holds objects s h mail now r es) (sym crash) (crash_case holds objects s h mail k now old r low high counted base)
deeds_case holds objects s h mail k now old r ds low high counted hold base (inr own) =
    own_case holds objects s h mail k now old r ds low high counted hold base own

pub entry_keeps : EntryKeeps
entry_keeps holds objects s history c r may log =
    subst (λ (q : Recovered). KeepsLog objects s (c ∷ history) (logged_of q)) (sym (with_more r (learnt_records k b) (deed_records holds objects h c.mail ds)))
    (record {
      count = all.keeps.count;
      outcomes = all.keeps.outcomes;
      other_counts = all.other_counts;
      own_known = λ low high. all.own_known;
      secured = all.keeps.secured;
      counts = all.keeps.counts;
      order = all.keeps.order;
    })
  where
    h : List Carried
    h = map as_carried history

    ds : List Deed
    ds = c.event.deeds

    k : Knowledge
    k = known objects history

    b : Knowledge
    b = told_in_order c.load.know

    now : Knowledge
    now = both k b

    r1 : Recovered
    r1 = with_records r (learnt_records k b)

    first : LearntKeeps k now r r1
    first = learnt_keeps k b r may.before may.learnt may.recovered.counts.eight log.outcomes

    base : Keeps s (deeds_of h) (site h) now r1
    base = record {
      count = first.count ∙ log.count;
      outcomes = first.outcomes;
      secured = subst (λ (hs : List Held). AreHeld hs (reverse (site h).secured)) (sym first.held) log.secured;
      counts = ap (map (λ (g : Held). g.count)) first.held ∙ log.counts;
      order = subst (λ (hs : List Held). OrderIsKept (beside hs (reverse (site h).secured))) (sym first.held) log.order;
    }

    counted : Counted s k now r r1
    counted = record {
      eight = may.learnt.counts.eight;
      least = no_less k b;
      seen = first.known_counts;
      others = log.other_counts;
      own = log.own_known may.node.0 may.node.1;
      same = first.count;
    }

    all : KeepsDeeds holds objects s h c.mail now r1 ds
    all = deeds_case holds objects s h c.mail k now r r1 ds may.node.0 may.node.1 counted
        (subst (λ (hs : List Held). AreHoldings holds (deeds_of h) c.mail (site h) hs ds) (sym first.held) may.holdings) base may.own

pub no_entry_keeps : NoEntryKeeps
no_entry_keeps holds objects s history c r may none log =
    subst (λ (rs : List Record). KeepsLog objects s (c ∷ history) (logged_of (with_records r rs))) none (entry_keeps holds objects s history c r may log)
