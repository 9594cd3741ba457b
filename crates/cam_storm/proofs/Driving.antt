-- An action has a request by its home's own events just where it has one in the run.
use Rattle.std.proofs.Common.{◌≡◌, ℕ, ◌≤◌, eqb, Bool, true, false, not, ◌&&◌, List, [], ◌∷◌, map, None, refl, sym, ap, ◌∙◌, subst, arith}
use Rattle.std.specs.List.{list_any}
use Rattle.cam_names.specs.declared.name.Name.{Name}
use Rattle.cam_names.specs.Part.{PartFields, part_eq}
use Rattle.cam_names.specs.Names.{is_ancestor, is_prefix, home_node, home_count}
use Rattle.cam_names.proofs.Names.{name_eq_refl}
use Rattle.cam_type.specs.declared.ObjectDecl.{ObjectDecl}
use Rattle.cam_know.specs.Known.{nothing}
use Rattle.cam_event.specs.declared.Event.{Event}
use Rattle.cam_event.specs.declared.Want.{Want}
use Rattle.cam_event.specs.declared.Deed.{Deed}
use Rattle.cam_event.specs.History.{after, count, created, ended}
use Rattle.cam_event.specs.Sights.{Sight, own_deeds}
use Rattle.cam_event.specs.Pasts.{plain_all}
use Rattle.cam_event.specs.Views.{view}
use Rattle.cam_event.specs.ByPast.{sight}
use Rattle.cam_event.specs.ByKnowledge.{held_sight}
use Rattle.cam_event.specs.ByDeltas.{Received, as_carried}
use Rattle.cam_event.specs.Runs.{IsRun}
use Rattle.cam_event.proofs.OwnSteps.{entries_same}
use Rattle.cam_event.proofs.SameInforms.{informs_agree}
use Rattle.cam_body.specs.Work.{next as next_of_body}
use Rattle.cam_runs.specs.Running.{start}
use Rattle.cam_runs.specs.Playing.{may_go, is_stop_of}
use Rattle.cam_gen.specs.Storms.{Words, objects_of, body_of}
use Rattle.cam_storm.specs.Runs.{Drives}
use Rattle.cam_storm.specs.Own.{event_in, own_view, OwnDrives}
use Rattle.cam_delta.proofs.Addressed.{runs_are_addressed}
use Rattle.cam_delta.proofs.Growing.{history}
use Rattle.cam_delta.proofs.SameSteps.{nodes_go_by_the_same}
use Rattle.cam_storm.proofs.Counted.{events_own, stops_own}
use Rattle.cam_storm.proofs.OwnView.{own_view_same}

-- a name is its own ancestor
prefix_self : (a : Name) → is_prefix a a ≡ true
prefix_self [] = refl
prefix_self (p ∷ a) = ap (λ b. b && is_prefix a a) (part_self p) ∙ prefix_self a
  where
    first : (b : Bool) → (b && true) ≡ true → b ≡ true
    first true e = refl
    first false e = e

    part_self : (p : PartFields) → part_eq p p ≡ true
    part_self p = first (part_eq p p) (name_eq_refl (p ∷ []))

pub named_at : (a : Name) → 1 ≤ home_node a → is_ancestor a a ≡ true
named_at [] h = absurd (omega arith)
named_at (p ∷ a) h = prefix_self (p ∷ a)

-- by the own deeds, and whether it was stopped there
abbrev pub goes : List Deed → ℕ → Bool → Name → Bool
goes own s stopped a = created own a && not (ended own a) && eqb (home_count a) (count own s) && not stopped

pub goes_same : (one other : List Deed) (s : ℕ) (b c : Bool) (a : Name) → one ≡ other → b ≡ c → goes one s b a ≡ goes other s c a
goes_same one other s b c a h k = λ i. goes (h i) s (k i) a

-- the own deeds by either reading
pub own_deeds_same : (objects : List ObjectDecl) (t : List Event) (s : ℕ) → IsRun objects t → (held_sight objects s (map as_carried (history objects t s)) nothing).deeds ≡ (sight objects t s None).deeds
own_deeds_same objects t s run =
    ap (λ (g : Sight). g.deeds) (nodes_go_by_the_same objects t s (runs_are_addressed objects t run))
    ∙ λ i. after (own_deeds (entries_same objects t s i)) (informs_agree objects t s None run tt i)

-- A node's own history that is that of the run: it may go on just where the run says so.
pub may_same : (objects : List ObjectDecl) (t : List Event) (h : List Received) (a : Name) → IsRun objects t → h ≡ history objects t (home_node a)
    → may_go (held_sight objects (home_node a) (map as_carried h) nothing) (record start { trace = map event_in h }) a ≡ may_go (sight objects t (home_node a) None) (record start { trace = t }) a
may_same objects t h a run same =
    let s : ℕ = home_node a in
    goes_same (held_sight objects s (map as_carried h) nothing).deeds (sight objects t s None).deeds s (list_any (is_stop_of a) (map event_in h)) (list_any (is_stop_of a) t) a
    (ap (λ (x : List Received). (held_sight objects s (map as_carried x) nothing).deeds) same ∙ own_deeds_same objects t s run)
    (ap (list_any (is_stop_of a)) (ap (map event_in) same ∙ events_own objects t s) ∙ stops_own t a)

view_same : (objects : List ObjectDecl) (t : List Event) (h : List Received) (a : Name) → IsRun objects t → 1 ≤ home_node a → h ≡ history objects t (home_node a) → own_view h a ≡ view (plain_all t) a
view_same objects t h a run low same = ap (λ (x : List Received). own_view x a) same ∙ own_view_same objects t a run (named_at a low)

-- so it has the same request
pub drives_run : (words : Words) (t : List Event) (h : List Received) (s : ℕ) (a : Name) (want : Want) → IsRun (objects_of words) t → 1 ≤ s → h ≡ history (objects_of words) t s → OwnDrives words s h a want → Drives words t a want
drives_run words t h s a want run low same d =
    let here : h ≡ history (objects_of words) t (home_node a) = subst (λ (n : ℕ). h ≡ history (objects_of words) t n) (sym d.here) same in
    let above : 1 ≤ home_node a = subst (λ (n : ℕ). 1 ≤ n) (sym d.here) low in
    record {
      may = sym (may_same (objects_of words) t h a run here) ∙ subst (λ (n : ℕ). may_go (held_sight (objects_of words) n (map as_carried h) nothing) (record start { trace = map event_in h }) a ≡ true) (sym d.here) d.may;
      next = ap (next_of_body (body_of words a)) (sym (view_same (objects_of words) t h a run above here)) ∙ d.next;
    }

pub drives_own : (words : Words) (t : List Event) (h : List Received) (s : ℕ) (a : Name) (want : Want) → IsRun (objects_of words) t → 1 ≤ s → h ≡ history (objects_of words) t s → home_node a ≡ s → Drives words t a want → OwnDrives words s h a want
drives_own words t h s a want run low same at d =
    let here : h ≡ history (objects_of words) t (home_node a) = subst (λ (n : ℕ). h ≡ history (objects_of words) t n) (sym at) same in
    let above : 1 ≤ home_node a = subst (λ (n : ℕ). 1 ≤ n) (sym at) low in
    record {
      here = at;
      may = subst (λ (n : ℕ). may_go (held_sight (objects_of words) n (map as_carried h) nothing) (record start { trace = map event_in h }) a ≡ true) at (may_same (objects_of words) t h a run here ∙ d.may);
      next = ap (next_of_body (body_of words a)) (view_same (objects_of words) t h a run above here) ∙ d.next;
    }
