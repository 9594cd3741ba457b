-- After a decision a node stands for the longer history.
use Rattle.std.proofs.Common.{◌≡◌, ℕ, Bool, true, false, ◌&&◌, if◌then◌else◌, ◌≤◌, List, ◌∷◌, ◌++◌, map, Option, Some, refl, sym, ap, ◌∙◌, subst, eq-eqb, arith}
use Rattle.std.specs.Prelude.{filter}
use Rattle.std.specs.List.{list_all}
use Rattle.cam_names.specs.declared.name.Name.{Name}
use Rattle.cam_names.specs.Names.{is_top, home_node, home_count}
use Rattle.cam_names.specs.Dependencies.{as_counts}
use Rattle.cam_type.specs.declared.ObjectDecl.{ObjectDecl}
use Rattle.cam_know.specs.Knowledge.{Knowledge}
use Rattle.cam_know.specs.Known.{new_aborts, new_commits, with_outcome}
use Rattle.cam_know.specs.Order.{told_in_order}
use Rattle.cam_know.specs.declared.Outcome.{Outcome}
use Rattle.cam_know.specs.declared.Outcome.TheVariants.{Aborted, Committed}
use Rattle.cam_event.specs.declared.Deed.{Deed}
use Rattle.cam_event.specs.declared.Event.{Event}
use Rattle.cam_event.specs.declared.LetterId.{LetterId}
use Rattle.cam_event.specs.Inputs.{Receives, Mail}
use Rattle.cam_event.specs.Sights.{Sight}
use Rattle.cam_event.specs.Rules.{Did, arrives}
use Rattle.cam_event.specs.ByPast.{event_of}
use Rattle.cam_event.specs.ByKnowledge.{learned_by, new_informs, finish_counts, own_pairs, held_sight, node_step}
use Rattle.cam_event.specs.Carried.{Carried}
use Rattle.cam_event.specs.Loads.{Load}
use Rattle.cam_event.specs.ByDeltas.{Received, as_carried, known}
use Rattle.cam_tranman.specs.Actions.{Actions, deps}
use Rattle.cam_tranman.specs.Calls as tranman
use Rattle.cam_tranman.specs.Events.{is_at_home, decides}
use Rattle.cam_tranman.specs.Keeping.{HasCounts, after_deeds}
use Rattle.cam_commit.specs.Families.{CommitsFamilies}
use Rattle.cam_server.specs.Calls.{AreInformed}
use Rattle.cam_server.specs.Events.{is_quiet, informs_abort, informs_commit, decision}
use Rattle.cam_server.proofs.QuietDeeds.{informs_quiet}
use Rattle.cam_server.proofs.NewsInforms.{decision_informs, informs_join}
use Rattle.cam_server.proofs.Serving.{informs_keep}
use Rattle.cam_node.specs.Represents.{Node, Represents}
use Rattle.cam_node.specs.Halting.{IsThrough, IsStepThrough}
use Rattle.cam_node.specs.Lawful.{MayBePut}
use Rattle.cam_node.specs.Learning.{stepped}
use Rattle.cam_node.specs.Stepping.{known_with, longer, sight_before}
use Rattle.cam_node.specs.Decides.{IsOutcomeOf, decided_at_home, HasDecided, DecidesKeep}
use Rattle.cam_node.proofs.Orderly.{put_is_asked, through_orderly}
use Rattle.cam_node.proofs.Stepping.{all_both, first_informed, step_stands}

-- what the deeds of a decision teach, and do to the actions
taught : (objects : List ObjectDecl) (history : List Received) (mail : Option Mail) (k : Knowledge) (s : ℕ) (o : Outcome)
    → IsOutcomeOf objects history mail o
    → with_outcome o k ≡ learned_by objects (map as_carried history) mail k (decision s o)
taught objects history mail k s (Aborted a) is = refl
taught objects history mail k s (Committed a counts) is = ap (λ (cs : List ℕ). with_outcome (Committed a cs) k) is

decided_by : (objects : List ObjectDecl) (history : List Received) (mail : Option Mail) (s : ℕ) (o : Outcome) (actions : Actions)
    → IsOutcomeOf objects history mail o
    → decided_at_home o actions ≡ after_deeds objects mail (filter is_at_home (decision s o)) actions
decided_by objects history mail s (Aborted a) actions is = refl
decided_by objects history mail s (Committed a counts) actions is = by (is_top a) _ (finish_counts mail) is
  where
    by : (b : Bool) (own cs : List ℕ) → counts ≡ (if b then own else cs) → decides b a (Some counts) actions ≡ decides b a (Some cs) actions
    by true own cs h = refl
    by false own cs h = ap (λ (ds : List ℕ). decides false a (Some ds) actions) h

-- its deeds do nothing to the site but inform it
pub decision_quiet : (s : ℕ) (o : Outcome) → list_all (is_quiet s) (decision s o) ≡ true
decision_quiet s (Aborted a) = ap (λ b. b && true) (eq-eqb s s refl)
decision_quiet s (Committed a counts) = ap (λ b. b && true) (eq-eqb s s refl)

pub decides_keep : DecidesKeep
decides_keep objects history input mail load o old new going told counts from through may is of done families rep =
    step_stands objects history input mail load old new going told counts from (through_orderly objects old.number history through)
    (put_is_asked objects old.number (sight_before objects old.number history) input mail load may)
    (record {
      number = done.number;
      count = done.count;
      know =
          done.know ∙ taught objects history mail (known_with mail load old.know) s o of
          ∙ ap (λ (ds : List Deed). learned_by objects H mail (known_with mail load old.know) ds) (sym is);
      noted = done.noted;
      actions =
          subst (λ (actions : Actions). tranman.AreSame actions new.actions)
          (decided_by objects history mail s o old.actions of
          ∙ ap (λ (ds : List Deed). after_deeds objects mail (filter is_at_home ds) old.actions) (sym is))
          done.actions;
      families = families;
      server =
          informs_keep objects s H (as_carried (stepped objects s history input mail load)) old.server new.server
          (subst (λ (ds : List Deed). list_all (is_quiet s) (first ++ ds) ≡ true) (sym is)
          (all_both (is_quiet s) first (decision s o) (informs_quiet s (new_aborts brought K) (new_commits brought K)) (decision_quiet s o)))
          (subst (λ (ds : List Deed). AreInformed (informs_abort s (first ++ ds)) (informs_commit s (first ++ ds)) old.server new.server) (sym is)
          (informs_join s first (decision s o) old.server done.server.mid new.server
          (first_informed objects history mail load old done.server.mid through told rep done.server.first)
          (decision_informs s o done.server.mid new.server done.server.then_of)))
          rep.serves;
    })
    rep
  where
    s : ℕ
    s = old.number

    H : List Carried
    H = map as_carried history

    K : Knowledge
    K = known objects history

    brought : Knowledge
    brought = told_in_order load.know

    first : List Deed
    first = new_informs s brought K

-- A top action of the present count commits with what the actions say that it depends on.
pub top_is_learnt : (objects : List ObjectDecl) (history : List Received) (mail : Option Mail) (node : Node) (f : Name)
    → Represents objects history node
    → is_top f ≡ true → home_node f ≡ node.number → home_count f ≡ node.count
    → IsOutcomeOf objects history mail (Committed f (deps node.actions f))
top_is_learnt objects history mail node f rep top home present =
    let own = rep.own_count in
    rep.runs.deps f (home, omega (arith, own, present))
    ∙ ap (λ b. if b then as_counts (own_pairs objects (map as_carried history) f) else finish_counts mail) (sym top)

-- What holds of each history that the node stands for, where the letter may be handed over.
abbrev pub AtLetter : List ObjectDecl → Node → LetterId → Mail → Load → (List Received → Type 0)
    → Type 0
AtLetter objects node id mail load P =
    (history : List Received) → IsThrough objects node.number history → Represents objects history node
    → MayBePut objects node.number (sight_before objects node.number history) (Receives id) (Some mail) load
    → P history

-- what a node goes by at a letter
abbrev pub sight_at : List ObjectDecl → ℕ → Load → List Received → Sight
sight_at objects s load history = held_sight objects s (map as_carried history) (told_in_order load.know)

-- A letter makes a node decide: the event is the definition's, and the node stands for the longer
-- history.
pub letter_decides : (objects : List ObjectDecl) (old new : Node) (id : LetterId) (mail : Mail) (load : Load) (o : Outcome) (d : Did) (event : Event)
    → AtLetter objects old id mail load (λ history. arrives objects (sight_at objects old.number load history) mail.from mail.body ≡ d)
    → d.deeds ≡ decision old.number o
    → AtLetter objects old id mail load (λ history. IsOutcomeOf objects history (Some mail) o)
    → HasCounts mail.body → (1 ≤ mail.from) × (mail.from ≤ 8)
    → new.number ≡ old.number
    → AtLetter objects old id mail load (λ history. HasDecided o (Some mail) load old new)
    → AtLetter objects old id mail load (λ history. CommitsFamilies objects old.number (longer objects old.number history (Receives id) (Some mail) load) new.families)
    → event ≡ event_of old.number (Some id) (new_informs old.number (told_in_order load.know) old.know) d
    → IsStepThrough objects old new (Receives id) (Some mail) load event
letter_decides objects old new id mail load o d event rule_is deeds of counts from number done families event_is = record {
  number = number;
  next = λ history through rep may. is_next history through rep may;
  represents = λ history through rep may.
      subst (λ (e : Event). Represents objects (record { event = e; mail = Some mail; load = load } ∷ history) new) (sym (is_next history through rep may))
      (decides_keep objects history (Receives id) (Some mail) load o old new refl tt counts from through may
      (ap (λ (e : Did). e.deeds) (rule_is history through rep may) ∙ deeds) (of history through rep may) (done history through rep may)
      (families history through rep may) rep);
}
  where
    is_next : AtLetter objects old id mail load
        (λ history. event ≡ node_step objects old.number (map as_carried history) (Receives id) (Some mail) (told_in_order load.know))
    is_next history through rep may =
        event_is ∙ (λ i. event_of old.number (Some id) (new_informs old.number (told_in_order load.know) (rep.knowledge i)) (sym (rule_is history through rep may) i))
