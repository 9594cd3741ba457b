-- A top action finishes and is prepared: the event is the definition's, and the node that it makes
-- stands for the longer history.
use Rattle.std.proofs.Common.{◌≡◌, ℕ, ℤ, ◌≤◌, Bool, true, false, not, ◌&&◌, ◌||◌, List, [], ◌∷◌, ◌++◌, length, map, Option, Some, None, refl, sym, ap, ◌∙◌, subst, true≢false, is_some}
use Rattle.std.specs.Prelude.{filter}
use Rattle.std.specs.List.{list_all}
use Rattle.std.proofs.lemmas.List.{append-nil}
use Rattle.cam_names.specs.declared.name.Name.{Name}
use Rattle.cam_names.specs.Names.{is_top, parent}
use Rattle.cam_names.specs.Dependencies.{pairs_of}
use Rattle.cam_type.specs.declared.ObjectDecl.{ObjectDecl}
use Rattle.cam_know.specs.Knowledge.{Knowledge}
use Rattle.cam_know.specs.Known.{new_aborts, new_commits}
use Rattle.cam_know.specs.Orphans.{known_orphan}
use Rattle.cam_know.specs.Order.{told_in_order}
use Rattle.cam_know.specs.declared.Reason.{Reason}
use Rattle.cam_event.specs.declared.LetterId.{LetterId}
use Rattle.cam_event.specs.declared.Deed.{Deed}
use Rattle.cam_event.specs.declared.Event.{Event}
use Rattle.cam_event.specs.declared.Body.TheVariants as bodies
use Rattle.cam_event.specs.Inputs.{Receives, Mail}
use Rattle.cam_event.specs.Rules.{Did, arrives}
use Rattle.cam_event.specs.ByPast.{event_of}
use Rattle.cam_event.specs.ByKnowledge.{learned_by, new_informs, node_step}
use Rattle.cam_event.specs.Loads.{Load, with_load}
use Rattle.cam_event.specs.ByDeltas.{as_carried, known}
use Rattle.cam_tranman.specs.Actions.{deps}
use Rattle.cam_tranman.specs.Calls as tranman
use Rattle.cam_tranman.specs.Events.{is_at_home}
use Rattle.cam_tranman.specs.Keeping.{HasCounts, after_deeds}
use Rattle.cam_commit.specs.Families.{CommitsFamilies}
use Rattle.cam_commit.specs.Calls as commit
use Rattle.cam_commit.specs.Steps.{is_late}
use Rattle.cam_commit.specs.Stepping.{is_begun}
use Rattle.cam_commit.proofs.PrepareSteps.{finish_step_keeps}
use Rattle.cam_server.specs.Calls.{AreInformed}
use Rattle.cam_server.specs.Events.{is_quiet, informs_abort, informs_commit}
use Rattle.cam_server.proofs.QuietDeeds.{informs_quiet}
use Rattle.cam_server.proofs.Serving.{informs_keep}
use Rattle.cam_node.specs.Represents.{Node, Represents}
use Rattle.cam_node.specs.Halting.{IsStepThrough}
use Rattle.cam_node.specs.Lawful.{IsForNode}
use Rattle.cam_node.specs.Learning.{stepped}
use Rattle.cam_node.specs.Stepping.{longer, sight_before}
use Rattle.cam_node.specs.Preparing.{HasPrepared}
use Rattle.cam_node.specs.DecideRules.{is_closed, prepared_by, finished_at}
use Rattle.cam_node.proofs.Orderly.{put_is_asked, through_orderly}
use Rattle.cam_node.proofs.Stepping.{first_informed, step_stands}
use Rattle.cam_node.proofs.Decides.{AtLetter, sight_at}
use Rattle.cam_node.proofs.DecideRules.{top_finish_is, top_home}
use Rattle.cam_node.proofs.TopEnds.{late_at, orphan_at}

-- It is begun.
begun_at : (l p : Bool) (r : Option Reason) → l || p ≡ false → r ≡ None
    → not (l || p) && not (is_some r) ≡ true
begun_at l p r in_time none = λ i. not (in_time i) && not (is_some (none i))

families_begin : (objects : List ObjectDecl) (old new : Node) (id : LetterId) (mail : Mail) (load : Load) (f : Name) (v : ℤ) (counts : List ℕ)
    → mail.body ≡ bodies.Finish f v counts → parent f ≡ None → is_top f ≡ true
    → is_closed old.count (with_load old.know load) f || old.families.is_preparing f ≡ false
    → None ≡ known_orphan (with_load old.know load) f (pairs_of (deps old.actions f))
    → commit.IsPrepared f old.families new.families
    → AtLetter objects old id mail load (λ history. CommitsFamilies objects old.number (longer objects old.number history (Receives id) (Some mail) load) new.families)
families_begin objects old new id mail load f v counts body named top in_time alive begins = λ history through rep may.
    let s = old.number in
    let g = sight_at objects s load history in
    let home = top_home objects s f named (subst (IsForNode objects s) body may.for_node) in
    let begun : is_begun g old.families f ≡ true =
    begun_at (is_late g f) (old.families.is_preparing f) (g.orphan f (pairs_of (g.deps f))) (late_at objects history load old f rep in_time)
    (orphan_at objects history load old f rep home in_time ∙ sym alive) in
    finish_step_keeps objects s (map as_carried history) id mail (told_in_order load.know) f v counts old.families new.families body top
    (record { begun = λ is. begins; other = λ is. absurd (true≢false (sym begun ∙ is)) }) rep.commits

pub top_is_prepared : (objects : List ObjectDecl) (old new : Node) (id : LetterId) (mail : Mail) (load : Load) (f : Name) (v : ℤ) (counts : List ℕ) (event : Event)
    → mail.body ≡ bodies.Finish f v counts → parent f ≡ None → is_top f ≡ true → length counts ≡ 8
    → (1 ≤ mail.from) × (mail.from ≤ 8)
    → is_closed old.count (with_load old.know load) f || old.families.is_preparing f ≡ false
    → None ≡ known_orphan (with_load old.know load) f (pairs_of (deps old.actions f))
    → new.number ≡ old.number
    → AtLetter objects old id mail load (λ history. HasPrepared f mail load old new)
    → event ≡ event_of old.number (Some id) (new_informs old.number (told_in_order load.know) old.know) (prepared_by old.number (deps old.actions f) f None)
    → IsStepThrough objects old new (Receives id) (Some mail) load event
top_is_prepared objects old new id mail load f v counts event body named top eight from in_time alive number done event_is = record {
  number = number;
  next = λ history through rep may. is_next history through rep may;
  represents = λ history through rep may.
      subst (λ (e : Event). Represents objects (record { event = e; mail = Some mail; load = load } ∷ history) new) (sym (is_next history through rep may))
      (step_stands objects history (Receives id) (Some mail) load old new refl tt (subst HasCounts (sym body) eight) from (through_orderly objects s history through)
      (put_is_asked objects s (sight_before objects s history) (Receives id) (Some mail) load may)
      (record {
        number = number;
        count = (done history through rep may).count;
        know =
            (done history through rep may).know ∙ ap (λ (ds : List Deed). learned_by objects (map as_carried history) (Some mail) (with_load old.know load) ds) (sym (none history through rep may));
        noted = (done history through rep may).noted;
        actions =
            subst (λ (ds : List Deed). tranman.AreSame (after_deeds objects (Some mail) (filter is_at_home ds) old.actions) new.actions)
            (sym (none history through rep may)) (done history through rep may).actions;
        families = families_begin objects old new id mail load f v counts body named top in_time alive (done history through rep may).families history through rep may;
        server =
            informs_keep objects s (map as_carried history) (as_carried (stepped objects s history (Receives id) (Some mail) load)) old.server new.server
            (subst (λ (ds : List Deed). list_all (is_quiet s) ds ≡ true) (sym (only_first history through rep may))
            (informs_quiet s (new_aborts brought (known objects history)) (new_commits brought (known objects history))))
            (subst (λ (ds : List Deed). AreInformed (informs_abort s ds) (informs_commit s ds) old.server new.server) (sym (only_first history through rep may))
            (first_informed objects history (Some mail) load old new.server through tt rep (done history through rep may).server))
            rep.serves;
      })
      rep);
}
  where
    s : ℕ
    s = old.number

    brought : Knowledge
    brought = told_in_order load.know

    d : Did
    d = prepared_by s (deps old.actions f) f None

    rule_is : AtLetter objects old id mail load (λ history. arrives objects (sight_at objects s load history) mail.from mail.body ≡ d)
    rule_is history through rep may =
        top_finish_is objects old id mail load f v counts body named top history through rep may
        ∙ (λ i. finished_at s (in_time i) (with_load old.know load) (deps old.actions f) f) ∙ ap (prepared_by s (deps old.actions f) f) (sym alive)

    none : AtLetter objects old id mail load (λ history. (arrives objects (sight_at objects s load history) mail.from mail.body).deeds ≡ [])
    none history through rep may = ap (λ (e : Did). e.deeds) (rule_is history through rep may)

    only_first : AtLetter objects old id mail load
        (λ history. (stepped objects s history (Receives id) (Some mail) load).event.deeds ≡ new_informs s brought (known objects history))
    only_first history through rep may =
        ap (λ (ds : List Deed). new_informs s brought (known objects history) ++ ds) (none history through rep may) ∙ append-nil (new_informs s brought (known objects history))

    is_next : AtLetter objects old id mail load (λ history. event ≡ node_step objects s (map as_carried history) (Receives id) (Some mail) brought)
    is_next history through rep may =
        event_is ∙ (λ i. event_of s (Some id) (new_informs s brought (rep.knowledge i)) (sym (rule_is history through rep may) i))
