-- After a step, which is no restart, a node stands for the longer history, where each part did what
-- the step does.
use Rattle.std.proofs.Common.{◌≡◌, ℕ, Bool, true, false, ◌&&◌, List, [], ◌∷◌, ◌++◌, length, map, Option, Some, None, sym, ap, ◌∙◌, subst}
use Rattle.std.specs.List.{list_any, list_all}
use Rattle.cam_names.specs.Dependencies.{AreCounts}
use Rattle.cam_type.specs.declared.ObjectDecl.{ObjectDecl}
use Rattle.cam_know.specs.Knowledge.{Knowledge}
use Rattle.cam_know.specs.Known.{knows_abort, knows_commit, news}
use Rattle.cam_know.specs.Order.{told_in_order}
use Rattle.cam_event.specs.declared.Deed.{Deed}
use Rattle.cam_event.specs.History.{after, count, is_crash}
use Rattle.cam_event.specs.Inputs.{Mail}
use Rattle.cam_event.specs.ByKnowledge.{learned_by, new_informs}
use Rattle.cam_event.specs.Carried.{Carried, deeds_of}
use Rattle.cam_event.specs.Loads.{Load, noted_at, with_load}
use Rattle.cam_event.specs.ByDeltas.{Received, as_carried, known}
use Rattle.cam_event.proofs.Agree.{count_after_other}
use Rattle.cam_tranman.specs.Actions.{RunsActions}
use Rattle.cam_tranman.proofs.StepKeeping.{step_keeps}
use Rattle.cam_commit.specs.Families.{CommitsFamilies}
use Rattle.cam_commit.proofs.StepKinds.{steps_are_of_kind}
use Rattle.cam_server.specs.Server.{Server, ServesSite}
use Rattle.cam_server.specs.Calls.{AreInformed}
use Rattle.cam_server.specs.Events.{informs_abort, informs_commit}
use Rattle.cam_server.proofs.NewsInforms.{news_inform}
use Rattle.cam_node.specs.Represents.{Node, Represents}
use Rattle.cam_node.specs.Halting.{IsThrough}
use Rattle.cam_node.specs.Learning.{stepped, ruled, noted_of}
use Rattle.cam_node.specs.Stepping.{known_with, noted_with, news_with, IsCarried, StepStands}
use Rattle.cam_node.proofs.Learnt.{knowledge_grows, places_grow}
use Rattle.cam_node.proofs.Informed.{known_is_informed}
use Rattle.cam_node.proofs.Nothing.{both_nothing}

-- what is known with the letter is what the history knows with it
known_is : (objects : List ObjectDecl) (history : List Received) (mail : Option Mail) (load : Load) (old : Node)
    → IsCarried mail load old.know
    → Represents objects history old
    → known_with mail load old.know ≡ with_load (known objects history) load
known_is objects history None load old told rep =
    rep.knowledge ∙ sym (both_nothing (known objects history) (subst (λ (k : Knowledge). AreCounts 1 k.counts) rep.knowledge told.1))
    ∙ ap (with_load (known objects history)) (sym told.0)
known_is objects history (Some mail) load old told rep = ap (λ (k : Knowledge). with_load k load) rep.knowledge

noted_is : (objects : List ObjectDecl) (history : List Received) (mail : Option Mail) (load : Load) (old : Node)
    → Represents objects history old
    → noted_with mail load old ≡ noted_of objects old.number history mail load
noted_is objects history None load old rep = rep.places
noted_is objects history (Some mail) load old rep =
    λ i. noted_at old.number (length (with_load (rep.knowledge i) load).outcomes) (rep.places i) mail.from load

pub all_both : (p : Deed → Bool) (xs ys : List Deed) → list_all p xs ≡ true → list_all p ys ≡ true
    → list_all p (xs ++ ys) ≡ true
all_both p [] ys one other = other
all_both p (x ∷ xs) ys one other = by (p x) (list_all p xs) (list_all p (xs ++ ys)) one (λ rest. all_both p xs ys rest other)
  where
    by : (a b c : Bool) → (a && b) ≡ true → (b ≡ true → c ≡ true) → (a && c) ≡ true
    by true b c h then = then h
    by false b c h then = h

pub step_stands : StepStands
step_stands objects history input mail load old new going told counts from orderly may done rep = record {
  own_count =
      done.count ∙ rep.own_count ∙ sym (count_after_other c.event.deeds (deeds_of H) s not_crash)
      ∙ (λ i. count (after (deeds_of H) c.event.deeds) (sym done.number i));
  knowledge =
      done.know
      ∙ ap (λ (k : Knowledge). learned_by objects H mail k (ruled objects s history input mail load)) (known_is objects history mail load old told rep)
      ∙ sym (knowledge_grows objects s history input mail load);
  places = done.noted ∙ noted_is objects history mail load old rep ∙ sym (places_grow objects s history input mail load going from);
  runs =
      subst (λ (n : ℕ). RunsActions objects n (as_carried c ∷ H) new.actions) (sym done.number)
      (step_keeps objects s H input mail (told_in_order load.know) old.actions new.actions rep.runs orderly may counts done.actions);
  commits = subst (λ (n : ℕ). CommitsFamilies objects n (as_carried c ∷ H) new.families) (sym done.number) done.families;
  serves = subst (λ (n : ℕ). ServesSite objects n (as_carried c ∷ H) new.server) (sym done.number) done.server;
}
  where
    s : ℕ
    s = old.number

    H : List Carried
    H = map as_carried history

    c : Received
    c = stepped objects s history input mail load

    not_crash : list_any (is_crash s) c.event.deeds ≡ false
    not_crash = (steps_are_of_kind objects s H input mail (told_in_order load.know)).restarts ∙ going

-- What a letter brought informs the site by the first Informs; without a letter there are none.
pub first_informed : (objects : List ObjectDecl) (history : List Received) (mail : Option Mail) (load : Load) (old : Node) (mid : Server)
    → IsThrough objects old.number history → IsCarried mail load old.know
    → Represents objects history old
    → AreInformed (knows_abort (news_with mail load old.know)) (knows_commit (news_with mail load old.know)) old.server mid
    → AreInformed (informs_abort old.number (new_informs old.number (told_in_order load.know) (known objects history)))
    (informs_commit old.number (new_informs old.number (told_in_order load.know) (known objects history))) old.server mid
first_informed objects history None load old mid through told rep are =
    subst (λ (l : Load). AreInformed (informs_abort old.number (new_informs old.number (told_in_order l.know) (known objects history)))
    (informs_commit old.number (new_informs old.number (told_in_order l.know) (known objects history))) old.server mid) (sym told.0) are
first_informed objects history (Some mail) load old mid through told rep are =
    news_inform old.number (known objects history) (told_in_order load.know) old.server mid
    (λ u is_known. rep.serves.commits u ∙ sym (known_is_informed objects old.number history through u).1 ∙ is_known)
    (subst (λ (k : Knowledge). AreInformed (knows_abort (news (with_load k load) k)) (knows_commit (news (with_load k load) k)) old.server mid) rep.knowledge are)
