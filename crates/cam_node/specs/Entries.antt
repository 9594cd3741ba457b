-- The entry that a node's log has of an event.
--
-- An event that learns or decides an outcome, learns a greater count, secures a family or raises its own count has one, with a record for
-- each of these, in the order of the event's Informs. No other event has a record, so none appends.
use Rattle.std.specs.Prelude.{◌≡◌, ◌⊎◌, ℕ, ◌+◌, eqb, nat_lt, Bool, true, false, if◌then◌else◌, List, [], ◌∷◌, ◌++◌, map, filter, reverse, Option}
use Rattle.std.specs.List.{list_all}
use Rattle.cam_names.specs.declared.name.Name.{Name}
use Rattle.cam_names.specs.Names.{name_eq, family}
use Rattle.cam_type.specs.declared.ObjectDecl.{ObjectDecl}
use Rattle.cam_type.specs.declared.Held.{Held}
use Rattle.cam_know.specs.Knowledge.{Knowledge}
use Rattle.cam_know.specs.Known.{both, news}
use Rattle.cam_know.specs.Order.{told_in_order}
use Rattle.cam_event.specs.declared.Deed.{Deed}
use Rattle.cam_event.specs.declared.Deed.TheVariants.{Commit, Abort, Secure, Crash}
use Rattle.cam_event.specs.History.{count}
use Rattle.cam_event.specs.Inputs.{Mail}
use Rattle.cam_event.specs.ByKnowledge.{commit_counts}
use Rattle.cam_event.specs.HeldSites.{Placed, Site, site_after}
use Rattle.cam_event.specs.Carried.{Carried, deeds_of}
use Rattle.cam_event.specs.ByDeltas.{Received, as_carried, known}
use Rattle.cam_recman.specs.declared.Record.{Record}
use Rattle.cam_recman.specs.declared.Record.TheVariants as records
use Rattle.cam_recman.specs.Snapshot.{outcome_record}
use Rattle.cam_server.specs.Recovered.{AreHeldOps, beside, OrderIsKept}

-- the counts of the nodes from this number on that are greater than they were
abbrev pub greater_records : ℕ → List ℕ → List ℕ → List Record
greater_records node [] now = []
greater_records node (k ∷ ks) [] = []
greater_records node (k ∷ ks) (c ∷ cs) =
    if nat_lt k c then records.Seen node c ∷ greater_records (node + 1) ks cs else greater_records (node + 1) ks cs

-- What is new to one who knew these counts: each outcome, in the order in which it was learnt, and each greater count, in order of nodes.
abbrev pub news_records : List ℕ → Knowledge → List Record
news_records before fresh = map outcome_record fresh.outcomes ++ greater_records 1 before fresh.counts

abbrev pub learnt_records : Knowledge → Knowledge → List Record
learnt_records known brought = news_records known.counts (news (both known brought) known)

-- what a site has of a family that it secures under a count
abbrev pub Holding : Type 0
Holding = Name → ℕ → Held

-- What an event's deeds add: its decisions, each commit with what its action depends on; what is held of each family that is secured; and
-- the raised count.
abbrev pub deed_records : Holding → List ObjectDecl → List Carried → Option Mail → List Deed → List Record
deed_records holds objects before mail [] = []
deed_records holds objects before mail (Commit a ∷ ds) =
    records.Commit a (commit_counts objects before mail a) ∷ deed_records holds objects before mail ds
deed_records holds objects before mail (Abort a ∷ ds) = records.Abort a ∷ deed_records holds objects before mail ds
deed_records holds objects before mail (Secure f s c ∷ ds) = records.Secure (holds f c) ∷ deed_records holds objects before mail ds
deed_records holds objects before mail (Crash s ∷ ds) = records.Count (count (deeds_of before) s + 1) ∷ deed_records holds objects before mail ds
deed_records holds objects before mail (_ ∷ ds) = deed_records holds objects before mail ds

-- the records of an event after a history: what its letter brought, and what its deeds add
abbrev pub entry_records : Holding → List ObjectDecl → List Received → Received → List Record
entry_records holds objects history c =
    learnt_records (known objects history) (told_in_order c.load.know)
    ++ deed_records holds objects (map as_carried history) c.mail c.event.deeds

-- the live operations of a family at a site
abbrev pub of_family : Name → Site → List Placed
of_family f site = filter (λ p. name_eq f (family p.operation.action)) site.live

-- What is held of a family stands for its live operations, under this count; and of these and all that the log holds already, the one that
-- was performed first has the lesser index.
pub record IsHolding (f : Name) (c : ℕ) (held : Held) (site : Site) (logged : List Held) : Type 0 where
  pub family : held.family ≡ f
  pub count : held.count ≡ c
  pub operations : AreHeldOps held.ops (of_family f site)
  pub order : OrderIsKept (beside (logged ++ held ∷ []) (reverse ((f, of_family f site) ∷ site.secured)))

-- So it is of each Secure among these deeds, at the site as it is just before it.
abbrev pub AreHoldings : Holding → List Deed → Option Mail → Site → List Held → List Deed → Type 0
AreHoldings holds before mail site logged [] = Unit {0}
AreHoldings holds before mail site logged (Secure f s c ∷ ds) =
    IsHolding f c (holds f c) site logged
    × AreHoldings holds (Secure f s c ∷ before) mail (site_after before mail site (Secure f s c)) (logged ++ holds f c ∷ []) ds
AreHoldings holds before mail site logged (d ∷ ds) = AreHoldings holds (d ∷ before) mail (site_after before mail site d) logged ds

-- A node's own event is a crash of it and nothing else, or has no crash, and secures at the node alone.
abbrev pub is_own : ℕ → Deed → Bool
is_own s (Secure f site c) = eqb site s
is_own s (Crash site) = false
is_own s _ = true

abbrev pub AreOwn : ℕ → List Deed → Type 0
AreOwn s ds = (ds ≡ Crash s ∷ []) ⊎ (list_all (is_own s) ds ≡ true)
