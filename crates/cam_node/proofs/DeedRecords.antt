-- What the records of an event's deeds add to a log that keeps the deeds before them.
use Rattle.std.proofs.Common.{◌≡◌, ℕ, eqb, Bool, true, false, if◌then◌else◌, List, [], ◌∷◌, ◌++◌, map, refl, sym, ap, ◌∙◌, subst}
use Rattle.std.specs.Prelude.{reverse, Option}
use Rattle.std.specs.List.{list_all}
use Rattle.cam_node.proofs.Bools.{first_of, second_of}
use Rattle.std.proofs.lemmas.List.{map-append, reverse-append}
use Rattle.cam_names.specs.declared.name.Name.{Name}
use Rattle.cam_type.specs.declared.ObjectDecl.{ObjectDecl}
use Rattle.cam_type.specs.declared.Held.{Held}
use Rattle.cam_know.specs.declared.Outcome.{Outcome}
use Rattle.cam_know.specs.declared.Outcome.TheVariants.{Aborted, Committed}
use Rattle.cam_know.specs.Knowledge.{Knowledge}
use Rattle.cam_know.specs.Known.{unknown, with_outcome}
use Rattle.cam_event.specs.declared.Deed.{Deed}
use Rattle.cam_event.specs.declared.Deed.TheVariants.{Create, Ask, Call, Perform, Bounce, Got, AskCommit, AskAbort, Commit, Abort, Secure, Inform, Crash}
use Rattle.cam_event.specs.History.{after, count}
use Rattle.cam_event.specs.Inputs.{Mail}
use Rattle.cam_event.specs.ByKnowledge.{learned_by, commit_counts}
use Rattle.cam_event.specs.HeldSites.{Placed, Site, site_after, site_after_all}
use Rattle.cam_event.specs.Carried.{Carried}
use Rattle.cam_recman.specs.declared.Record.TheVariants as records
use Rattle.cam_recman.specs.declared.Recovered.{Recovered}
use Rattle.cam_recman.specs.Recovery.{with_record, with_records}
use Rattle.cam_server.specs.Recovered.{AreHeldOps, AreHeld, beside, OrderIsKept}
use Rattle.cam_node.specs.Log.{secure_counts}
use Rattle.cam_node.specs.Entries.{Holding, deed_records, of_family, AreHoldings, is_own}

-- What is recovered keeps these deeds and this site, and the outcomes that are known.
pub record Keeps (s : ℕ) (deeds : List Deed) (site : Site) (know : Knowledge) (r : Recovered) : Type 0 where
  pub count : r.count ≡ count deeds s
  pub outcomes : r.know.outcomes ≡ know.outcomes
  pub secured : AreHeld r.held (reverse site.secured)
  pub counts : map (λ (h : Held). h.count) r.held ≡ secure_counts s deeds
  pub order : OrderIsKept (beside r.held (reverse site.secured))

-- one more family
held_more : (hs : List Held) (ps : List (Name × List Placed)) (h : Held) (f : Name) (ops : List Placed)
    → AreHeld hs ps → h.family ≡ f → AreHeldOps h.ops ops → AreHeld (hs ++ h ∷ []) (ps ++ (f, ops) ∷ [])
held_more [] [] h f ops are named stands = (named, stands, tt)
held_more (g ∷ hs) (p ∷ ps) h f ops are named stands = (are.0, are.1, held_more hs ps h f ops are.2 named stands)
held_more [] (p ∷ ps) h f ops are named stands = absurd are
held_more (g ∷ hs) [] h f ops are named stands = absurd are

-- one more outcome
outcome_more : (know : Knowledge) (r : Recovered) (o : Outcome) → r.know.outcomes ≡ know.outcomes
    → (with_outcome o r.know).outcomes ≡ (with_outcome o know).outcomes
outcome_more know r o same = ap (λ (os : List Outcome). os ++ unknown (record { outcomes = os; counts = r.know.counts }) (o ∷ [])) same

-- where nothing of it changes but the deeds and the live operations
same_site : (s : ℕ) (deeds more : List Deed) (one other : Site) (know : Knowledge) (r : Recovered)
    → other.secured ≡ one.secured → count more s ≡ count deeds s → secure_counts s more ≡ secure_counts s deeds
    → Keeps s deeds one know r → Keeps s more other know r
same_site s deeds more one other know r there count_is counts_are keeps = record {
  count = keeps.count ∙ sym count_is;
  outcomes = keeps.outcomes;
  secured = subst (λ (ps : List (Name × List Placed)). AreHeld r.held (reverse ps)) (sym there) keeps.secured;
  counts = keeps.counts ∙ sym counts_are;
  order = subst (λ (ps : List (Name × List Placed)). OrderIsKept (beside r.held (reverse ps))) (sym there) keeps.order;
}

pub own_deeds_keep : (holds : Holding) (objects : List ObjectDecl) (s : ℕ) (before : List Carried) (mail : Option Mail) (ds deeds : List Deed) (site : Site) (know : Knowledge) (r : Recovered)
    → list_all (is_own s) ds ≡ true → AreHoldings holds deeds mail site r.held ds → Keeps s deeds site know r
    → Keeps s (after deeds ds) (site_after_all deeds mail site ds) (learned_by objects before mail know ds) (with_records r (deed_records holds objects before mail ds))
own_deeds_keep holds objects s before mail [] deeds site know r own hold keeps = keeps
own_deeds_keep holds objects s before mail (Create a ∷ ds) deeds site know r own hold keeps =
    own_deeds_keep holds objects s before mail ds (Create a ∷ deeds) site know r own hold (same_site s deeds (Create a ∷ deeds) site site know r refl refl refl keeps)
own_deeds_keep holds objects s before mail (Ask a b ∷ ds) deeds site know r own hold keeps =
    own_deeds_keep holds objects s before mail ds (Ask a b ∷ deeds) site know r own hold (same_site s deeds (Ask a b ∷ deeds) site site know r refl refl refl keeps)
own_deeds_keep holds objects s before mail (Call a n x op c ∷ ds) deeds site know r own hold keeps =
    own_deeds_keep holds objects s before mail ds (Call a n x op c ∷ deeds) site know r own hold (same_site s deeds (Call a n x op c ∷ deeds) site site know r refl refl refl keeps)
own_deeds_keep holds objects s before mail (Perform a n answer ∷ ds) deeds site know r own hold keeps =
    let next : Site = site_after deeds mail site (Perform a n answer) in
    own_deeds_keep holds objects s before mail ds (Perform a n answer ∷ deeds) next know r own hold (same_site s deeds (Perform a n answer ∷ deeds) site next know r refl refl refl keeps)
own_deeds_keep holds objects s before mail (Bounce a n u ∷ ds) deeds site know r own hold keeps =
    own_deeds_keep holds objects s before mail ds (Bounce a n u ∷ deeds) site know r own hold (same_site s deeds (Bounce a n u ∷ deeds) site site know r refl refl refl keeps)
own_deeds_keep holds objects s before mail (Got a n seen ∷ ds) deeds site know r own hold keeps =
    own_deeds_keep holds objects s before mail ds (Got a n seen ∷ deeds) site know r own hold (same_site s deeds (Got a n seen ∷ deeds) site site know r refl refl refl keeps)
own_deeds_keep holds objects s before mail (AskCommit a v ∷ ds) deeds site know r own hold keeps =
    own_deeds_keep holds objects s before mail ds (AskCommit a v ∷ deeds) site know r own hold (same_site s deeds (AskCommit a v ∷ deeds) site site know r refl refl refl keeps)
own_deeds_keep holds objects s before mail (AskAbort a ∷ ds) deeds site know r own hold keeps =
    own_deeds_keep holds objects s before mail ds (AskAbort a ∷ deeds) site know r own hold (same_site s deeds (AskAbort a ∷ deeds) site site know r refl refl refl keeps)
own_deeds_keep holds objects s before mail (Commit a ∷ ds) deeds site know r own hold keeps =
    let counts : List ℕ = commit_counts objects before mail a in
    let next : Recovered = with_record r (records.Commit a counts) in
    let more : Knowledge = with_outcome (Committed a counts) know in
    own_deeds_keep holds objects s before mail ds (Commit a ∷ deeds) site more next own hold
    (record { count = keeps.count; outcomes = outcome_more know r (Committed a counts) keeps.outcomes; secured = keeps.secured; counts = keeps.counts; order = keeps.order })
own_deeds_keep holds objects s before mail (Abort a ∷ ds) deeds site know r own hold keeps =
    let next : Recovered = with_record r (records.Abort a) in
    let more : Knowledge = with_outcome (Aborted a) know in
    own_deeds_keep holds objects s before mail ds (Abort a ∷ deeds) site more next own hold
    (record { count = keeps.count; outcomes = outcome_more know r (Aborted a) keeps.outcomes; secured = keeps.secured; counts = keeps.counts; order = keeps.order })
own_deeds_keep holds objects s before mail (Inform m u true ∷ ds) deeds site know r own hold keeps =
    own_deeds_keep holds objects s before mail ds (Inform m u true ∷ deeds) site know r own hold (same_site s deeds (Inform m u true ∷ deeds) site site know r refl refl refl keeps)
own_deeds_keep holds objects s before mail (Inform m u false ∷ ds) deeds site know r own hold keeps =
    let next : Site = site_after deeds mail site (Inform m u false) in
    own_deeds_keep holds objects s before mail ds (Inform m u false ∷ deeds) next know r own hold (same_site s deeds (Inform m u false ∷ deeds) site next know r refl refl refl keeps)
own_deeds_keep holds objects s before mail (Secure f m c ∷ ds) deeds site know r own hold keeps =
    let h : Held = holds f c in
    let ops : List Placed = of_family f site in
    let next : Site = site_after deeds mail site (Secure f m c) in
    let here : eqb m s ≡ true = first_of (eqb m s) (list_all (is_own s) ds) own in
    let list : reverse ((f, ops) ∷ site.secured) ≡ reverse site.secured ++ (f, ops) ∷ [] = reverse-append ((f, ops) ∷ []) site.secured in
    own_deeds_keep holds objects s before mail ds (Secure f m c ∷ deeds) next know (with_record r (records.Secure h)) (second_of (eqb m s) (list_all (is_own s) ds) own) hold.1
    (record {
      count = keeps.count;
      outcomes = keeps.outcomes;
      secured = subst (λ (ps : List (Name × List Placed)). AreHeld (r.held ++ h ∷ []) ps) (sym list)
          (held_more r.held (reverse site.secured) h f ops keeps.secured hold.0.family hold.0.operations);
      counts = map-append (λ (g : Held). g.count) r.held (h ∷ []) ∙ (λ i. keeps.counts i ++ hold.0.count i ∷ [])
          ∙ sym (ap (λ (b : Bool). if b then secure_counts s deeds ++ c ∷ [] else secure_counts s deeds) here);
      order = hold.0.order;
    })
own_deeds_keep holds objects s before mail (Crash m ∷ ds) deeds site know r own hold keeps = absurd (cc)

-- the counts that are known stay as they are, on both sides
pub own_deeds_counts : (holds : Holding) (objects : List ObjectDecl) (s : ℕ) (before : List Carried) (mail : Option Mail) (ds : List Deed) (know : Knowledge) (r : Recovered)
    → list_all (is_own s) ds ≡ true
    → ((with_records r (deed_records holds objects before mail ds)).know.counts ≡ r.know.counts) × ((learned_by objects before mail know ds).counts ≡ know.counts)
own_deeds_counts holds objects s before mail [] know r own = (refl, refl)
own_deeds_counts holds objects s before mail (Create a ∷ ds) know r own = own_deeds_counts holds objects s before mail ds know r own
own_deeds_counts holds objects s before mail (Ask a b ∷ ds) know r own = own_deeds_counts holds objects s before mail ds know r own
own_deeds_counts holds objects s before mail (Call a n x op c ∷ ds) know r own = own_deeds_counts holds objects s before mail ds know r own
own_deeds_counts holds objects s before mail (Perform a n answer ∷ ds) know r own = own_deeds_counts holds objects s before mail ds know r own
own_deeds_counts holds objects s before mail (Bounce a n u ∷ ds) know r own = own_deeds_counts holds objects s before mail ds know r own
own_deeds_counts holds objects s before mail (Got a n seen ∷ ds) know r own = own_deeds_counts holds objects s before mail ds know r own
own_deeds_counts holds objects s before mail (AskCommit a v ∷ ds) know r own = own_deeds_counts holds objects s before mail ds know r own
own_deeds_counts holds objects s before mail (AskAbort a ∷ ds) know r own = own_deeds_counts holds objects s before mail ds know r own
own_deeds_counts holds objects s before mail (Commit a ∷ ds) know r own =
    let counts : List ℕ = commit_counts objects before mail a in
    own_deeds_counts holds objects s before mail ds (with_outcome (Committed a counts) know) (with_record r (records.Commit a counts)) own
own_deeds_counts holds objects s before mail (Abort a ∷ ds) know r own =
    own_deeds_counts holds objects s before mail ds (with_outcome (Aborted a) know) (with_record r (records.Abort a)) own
own_deeds_counts holds objects s before mail (Inform m u b ∷ ds) know r own = own_deeds_counts holds objects s before mail ds know r own
own_deeds_counts holds objects s before mail (Secure f m c ∷ ds) know r own =
    own_deeds_counts holds objects s before mail ds know (with_record r (records.Secure (holds f c))) (second_of (eqb m s) (list_all (is_own s) ds) own)
own_deeds_counts holds objects s before mail (Crash m ∷ ds) know r own = absurd (cc)
