-- What is made of a letter by whose rule a node decides is its plan.
use Rattle.std.proofs.Common.{◌≡◌, ℕ, ◌≤◌, List, [], ◌∷◌, ◌++◌, length, map, Option, Some, refl, sym, ap, ◌∙◌, subst, arith}
use Rattle.std.specs.List.{AllByRecursion}
use Rattle.std.proofs.lemmas.List.{length-append}
use Rattle.cam_type.specs.declared.ObjectDecl.{ObjectDecl}
use Rattle.cam_type.specs.declared.Held.{Held}
use Rattle.cam_know.specs.Knowledge.{Knowledge}
use Rattle.cam_know.specs.Known.{knows_abort, knows_commit, news, unknown, with_outcome}
use Rattle.cam_know.specs.Order.{told_in_order}
use Rattle.cam_know.specs.declared.Outcome.{Outcome}
use Rattle.cam_know.specs.declared.Outcome.TheVariants.{Aborted, Committed}
use Rattle.cam_event.specs.declared.Deed.{Deed}
use Rattle.cam_event.specs.declared.Event.{Event}
use Rattle.cam_event.specs.declared.Letter.{Letter}
use Rattle.cam_event.specs.declared.LetterId.{LetterId}
use Rattle.cam_event.specs.declared.Note.{Note}
use Rattle.cam_event.specs.declared.Sent.{Sent}
use Rattle.cam_event.specs.History.{after}
use Rattle.cam_event.specs.Inputs.{Receives, Mail}
use Rattle.cam_event.specs.ByPast.{event_of}
use Rattle.cam_event.specs.ByKnowledge.{new_informs}
use Rattle.cam_event.specs.HeldSites.{Site, site, site_after_all}
use Rattle.cam_event.specs.Carried.{Carried, deeds_of}
use Rattle.cam_event.specs.Loads.{Load, noted_at, PlacesFields}
use Rattle.cam_event.specs.ByDeltas.{Received, as_carried}
use Rattle.cam_comman.specs.Letters.{load_on, IsWithin}
use Rattle.cam_recman.specs.declared.Record.TheVariants as records
use Rattle.cam_recman.specs.Snapshot.{outcome_record}
use Rattle.cam_tranman.specs.Actions.{Actions}
use Rattle.cam_tranman.specs.Calls as tranman
use Rattle.cam_tranman.specs.Keeping.{HasCounts}
use Rattle.cam_commit.specs.Families.{Families, CommitsFamilies}
use Rattle.cam_commit.specs.Calls as commit
use Rattle.cam_server.specs.Calls as server
use Rattle.cam_server.specs.Events.{decision}
use Rattle.cam_node.specs.declared.knowing.Heard.{Heard}
use Rattle.cam_node.specs.declared.learning.Learnt.{Learnt}
use Rattle.cam_node.specs.declared.plan.Change.{Change}
use Rattle.cam_node.specs.declared.plan.Plan.{Plan}
use Rattle.cam_node.specs.declared.state.Core.{Core}
use Rattle.cam_node.specs.Represents.{Node}
use Rattle.cam_node.specs.Calls.{answers, mail_on, letter_as, letters_of, AreSame}
use Rattle.cam_node.specs.Entries.{Holding, AreHoldings, deed_records}
use Rattle.cam_node.specs.Log.{Logged}
use Rattle.cam_node.specs.Opened.{IsKnowledge}
use Rattle.cam_node.specs.Stepping.{longer}
use Rattle.cam_node.specs.Decides.{IsOutcomeOf, HasDecided, IsDecided, decided_at_home}
use Rattle.cam_node.specs.Plans.{IsHeard, IsRecorded, IsPlanFor, as_list, held_in}
use Rattle.cam_node.specs.Standing.{HasLearnt, Stands, deciding}
use Rattle.cam_node.specs.PlanOrder.{is_served}
use Rattle.cam_node.specs.Planning.{HasReceived, IsMade}
use Rattle.cam_node.proofs.NothingAdded.{informs_add, records_behind, holdings_behind}
use Rattle.cam_node.proofs.HomePlans.{ForEach, IsRuled, informed_before}
use Rattle.cam_node.proofs.Decides.{decision_quiet, letter_decides}
use Rattle.cam_node.proofs.PlanOrder.{dropping_plan, quiet_behind}

-- A decision adds its outcome to the entry, and holds nothing.
decision_records : (objects : List ObjectDecl) (history : List Received) (mail : Option Mail) (holds : Holding) (s : ℕ) (o : Outcome)
    → IsOutcomeOf objects history mail o
    → deed_records holds objects (map as_carried history) mail (decision s o) ≡ outcome_record o ∷ []
decision_records objects history mail holds s (Aborted a) of = refl
decision_records objects history mail holds s (Committed a counts) of = ap (λ (cs : List ℕ). records.Commit a cs ∷ []) (sym of)

decision_holds : (holds : Holding) (before : List Deed) (mail : Option Mail) (x : Site) (logged : List Held) (s : ℕ) (o : Outcome)
    → AreHoldings holds before mail x logged (decision s o)
decision_holds holds before mail x logged s (Aborted a) = tt
decision_holds holds before mail x logged s (Committed a counts) = tt

pub none_held_of : (o : Outcome) → held_in (Some (outcome_record o)) ≡ []
none_held_of (Aborted a) = refl
none_held_of (Committed a counts) = refl

pub decision_recorded : (objects : List ObjectDecl) (history : List Received) (mail : Option Mail) (logged : Logged) (holds : Holding) (plan : Plan)
    (s : ℕ) (brought known : Knowledge) (o : Outcome)
    → plan.stepped.event.deeds ≡ new_informs s brought known ++ decision s o
    → plan.adds ≡ Some (outcome_record o)
    → IsOutcomeOf objects history mail o → IsRecorded objects history mail logged holds plan
decision_recorded objects history mail logged holds plan s brought known o deeds adds of = record {
  records =
      ap (deed_records holds objects H mail) deeds
      ∙ records_behind holds objects H mail (new_informs s brought known) (decision s o) (informs_add s brought known)
      ∙ decision_records objects history mail holds s o of ∙ sym (ap as_list adds);
  holdings =
      subst (λ (ds : List Deed). AreHoldings holds (deeds_of H) mail (site H) logged.held ds) (sym deeds)
      (holdings_behind holds (deeds_of H) mail (site H) logged.held (new_informs s brought known) (decision s o)
      (informs_add s brought known)
      (decision_holds holds (after (deeds_of H) (new_informs s brought known)) mail
      (site_after_all (deeds_of H) mail (site H) (new_informs s brought known)) logged.held s o));
}
  where
    H : List Carried
    H = map as_carried history

-- A letter was received, and then the node learnt its decision.
pub record HasLearntOf (letter : Letter) (o : Outcome) (first core now : Core) (learnt : Learnt) : Type 0 where
  pub received : HasReceived letter first core learnt
  pub knows : now.knowing.known ≡ with_outcome o core.knowing.known
  pub same : AreSame (answers first) (answers now)
  pub acts : (answers now).actions ≡ (answers core).actions

-- What a node is when the decision stands.
decided_node : (letter : Letter) (o : Outcome) (first core now : Core) (learnt : Learnt) (mid new : Node)
    → HasLearntOf letter o first core now learnt → letter.to ≡ first.number
    → HasLearnt (Some learnt.heard) now.knowing.known (answers now) mid
    → IsDecided o (decided_at_home o mid.actions) mid new
    → HasDecided o (Some (mail_on letter)) (load_on letter) (answers first) new
decided_node letter o first core now learnt mid new is addressed has done = record {
  number = done.number ∙ has.number ∙ is.same.number;
  count = done.count ∙ has.count ∙ is.same.count;
  know = done.know ∙ has.know ∙ is.knows ∙ ap (with_outcome o) is.received.known;
  noted =
      done.places ∙ has.places_are ∙ is.received.places
      ∙ (λ i. noted_at (addressed i) (length (is.received.known i).outcomes) old.places letter.from (load_on letter));
  actions =
      subst (λ (actions : Actions). tranman.AreSame (decided_at_home o actions) new.actions) (has.actions ∙ is.acts ∙ is.received.actions) done.acted;
  server = record {
    mid = mid.server;
    first =
        subst (λ (k : Knowledge). server.AreInformed (knows_abort k) (knows_commit k) old.server mid.server)
        (is.received.news ∙ ap (λ (k : Knowledge). news k old.know) is.received.known)
        (informed_before (knows_abort learnt.heard.news) (knows_commit learnt.heard.news) old.server (answers now).server mid.server
        is.same.server has.server);
    then_of = done.server;
  };
}
  where
    old : Node
    old = answers first

-- The families stay as they are, and go on answering as the history does.
abbrev pub FamiliesGoOn : List ObjectDecl → Node → LetterId → Mail → Load → Type 0
FamiliesGoOn objects old id mail load =
    (new : Node) → commit.AreSame old.families new.families
    → ForEach objects old id mail load
    (λ history. CommitsFamilies objects old.number (longer objects old.number history (Receives id) (Some mail) load) new.families)

pub decision_plan : (objects : List ObjectDecl) (id : LetterId) (letter : Letter) (first core now : Core) (learnt : Learnt) (o : Outcome)
    (sent : List Sent) (note : Note) (plan : Plan)
    → (1 ≤ letter.from) × (letter.from ≤ 8) → HasCounts letter.body
    → HasLearntOf letter o first core now learnt
    → IsMade now id learnt (deciding first.number o sent note) plan
    → IsRuled objects (answers first) id (mail_on letter) (load_on letter) (record { deeds = decision first.number o; sent = sent; note = note })
    → ForEach objects (answers first) id (mail_on letter) (load_on letter) (λ history. IsOutcomeOf objects history (Some (mail_on letter)) o)
    → FamiliesGoOn objects (answers first) id (mail_on letter) (load_on letter)
    → IsPlanFor objects id letter first now plan
decision_plan objects id letter first core now learnt o sent note plan from counts is made ruled of
    families =
    dropping_plan objects (Receives id) (Some mail) load plan now.knowing.known old (answers now)
    (ap is_served made.change) (ap held_in made.adds ∙ none_held_of o) is.same
    (quiet_behind old.number (told_in_order load.know) old.know (decision first.number o)
    plan.stepped.event.deeds (ap (λ (e : Event). e.deeds) event_is)
    (decision_quiet first.number o))
    (record {
      before = is.received.before;
      learnt = subst IsKnowledge is.received.known is.received.after;
      heard =
          subst (IsHeard (Some mail) load old.know) (sym made.heard)
          (is.received.news ∙ ap (λ (k : Knowledge). news k old.know) is.received.known);
      step = λ new stands.
          let at = as_made new stands in
          letter_decides objects old new id mail load o (deciding first.number o sent note).did plan.stepped.event ruled refl of counts from
          (at.2.number ∙ at.1.number ∙ is.same.number)
          (λ history through rep may. decided_node letter o first core now learnt at.0 new is may.addressed at.1 at.2)
          (families new (same_families at.0 new at.1 at.2)) event_is;
      letters = λ new stands.
          let at = as_made new stands in
          made.letters
          ∙ (λ i. map (letter_as (sym (at.2.know ∙ at.1.know) i) (sym (at.2.places ∙ at.1.places_are) i) (sym (at.2.number ∙ at.1.number) i)
          (sym (at.2.count ∙ at.1.count) i)) sent)
          ∙ ap (λ (e : Event). letters_of new e.sent) (sym event_is);
      recorded = λ history logged holds through rep may keeps order held.
          decision_recorded objects history (Some mail) logged holds plan first.number (told_in_order load.know) old.know o
          (ap (λ (e : Event). e.deeds) event_is) made.adds (of history through rep may);
    })
  where
    old : Node
    old = answers first

    mail : Mail
    mail = mail_on letter

    load : Load
    load = load_on letter

    event_is : plan.stepped.event
        ≡ event_of old.number (Some id) (new_informs old.number (told_in_order load.know) old.know) (deciding first.number o sent note).did
    event_is = made.event ∙ (λ i. event_of (is.same.number i) (Some id) (is.received.informs i) (deciding first.number o sent note).did)

    as_made : (new : Node) → Stands plan.change plan.heard now.knowing.known (answers now) new
        →
        (mid : Node) × HasLearnt (Some learnt.heard) now.knowing.known (answers now) mid × IsDecided o (decided_at_home o mid.actions) mid new
    as_made new stands =
        subst (λ (c : Change). Stands c (Some learnt.heard) now.knowing.known (answers now) new) made.change
        (subst (λ (h : Option Heard). Stands plan.change h now.knowing.known (answers now) new) made.heard stands)

    same_families : (mid new : Node) → HasLearnt (Some learnt.heard) now.knowing.known (answers now) mid
        → IsDecided o (decided_at_home o mid.actions) mid new
        → commit.AreSame old.families new.families
    same_families mid new has done =
        subst (λ (families : Families). commit.AreSame old.families families) (sym (done.families ∙ has.families)) is.same.families

-- No more is noted than the list has, where one outcome more is learnt.
within_more : (n m : ℕ) (ps : List ℕ) → n ≤ m → AllByRecursion (λ k. k ≤ n) ps → AllByRecursion (λ k. k ≤ m) ps
within_more n m [] less all = tt
within_more n m (p ∷ ps) less all = (let first = all.0 in omega (arith, less, first), within_more n m ps less all.1)

pub within_longer : (o : Outcome) (k : Knowledge) (places : PlacesFields) → IsWithin k places → IsWithin (with_outcome o k) places
within_longer o k places within =
    let more = length-append k.outcomes (unknown k (o ∷ [])) in
    within_more (length k.outcomes) (length (with_outcome o k).outcomes) places.acked (omega (arith, more)) within
