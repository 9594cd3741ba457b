-- The events of the step rules secure at their own node alone, and crash it alone.
use Rattle.std.proofs.Common.{◌≡◌, inl, inr, ◌⊎◌, ℕ, eq-eqb, Bool, true, false, ◌&&◌, List, [], ◌∷◌, ◌++◌, map, Option, refl, sym, ap, ◌∙◌, subst}
use Rattle.std.specs.List.{list_all}
use Rattle.cam_node.proofs.Bools.{first_of, second_of}
use Rattle.cam_names.specs.declared.name.Name.{Name}
use Rattle.cam_type.specs.declared.ObjectDecl.{ObjectDecl}
use Rattle.cam_know.specs.Knowledge.{Knowledge}
use Rattle.cam_know.specs.Known.{nothing, both, new_aborts, new_commits}
use Rattle.cam_know.specs.Order.{told_in_order}
use Rattle.cam_event.specs.declared.Event.{Event}
use Rattle.cam_event.specs.declared.Deed.{Deed}
use Rattle.cam_event.specs.declared.Deed.TheVariants.{Create, Ask, Call, Perform, Bounce, Got, AskCommit, AskAbort, Commit, Abort, Secure, Inform, Crash}
use Rattle.cam_event.specs.Inputs.{Input, Begins, Requests, Receives, Tells, Queries, Restarts, Mail}
use Rattle.cam_event.specs.Loads.{Load}
use Rattle.cam_event.specs.Sights.{Sight}
use Rattle.cam_event.specs.Rules.{Did, rule, sorted_names, informs}
use Rattle.cam_event.specs.ByKnowledge.{held, held_informs, held_sight, sight_with, node_step}
use Rattle.cam_event.specs.Carried.{Carried}
use Rattle.cam_event.specs.ByDeltas.{Received, as_carried}
use Rattle.cam_event.specs.Taken.{is_entered}
use Rattle.cam_node.specs.Lawful.{MayBePut, IsStepOf}
use Rattle.cam_node.specs.Entries.{AreOwn, is_own}
use Rattle.cam_node.specs.LogLaws.{StepsAreOwn}
use Rattle.cam_node.proofs.RuleDeeds.{is_quiet, AreQuiet, Own, request_quiet, mail_own}

-- lists
both_quiet : (one other : List Deed) → AreQuiet one → AreQuiet other → AreQuiet (one ++ other)
both_quiet [] other a b = b
both_quiet (d ∷ one) other a b =
    (λ i. first_of (is_quiet d) (list_all is_quiet one) a i && both_quiet one other (second_of (is_quiet d) (list_all is_quiet one) a) b i)

informs_of : (s : ℕ) (outcome : Bool) (names : List Name) → AreQuiet (map (λ a. Inform s a outcome) names)
informs_of s outcome [] = refl
informs_of s outcome (a ∷ names) = informs_of s outcome names

informs_quiet : (s : ℕ) (one other : List Name) → AreQuiet (informs s one other)
informs_quiet s one other =
    both_quiet (map (λ a. Inform s a false) (sorted_names one)) (map (λ a. Inform s a true) (sorted_names other)) (informs_of s false (sorted_names one)) (informs_of s true (sorted_names other))

quiet_is_own : (s : ℕ) (d : Deed) → is_quiet d ≡ true → is_own s d ≡ true
quiet_is_own s (Create a) q = refl
quiet_is_own s (Ask a b) q = refl
quiet_is_own s (Call a n x op c) q = refl
quiet_is_own s (Perform a n answer) q = refl
quiet_is_own s (Bounce a n u) q = refl
quiet_is_own s (Got a n seen) q = refl
quiet_is_own s (AskCommit a v) q = refl
quiet_is_own s (AskAbort a) q = refl
quiet_is_own s (Commit a) q = refl
quiet_is_own s (Abort a) q = refl
quiet_is_own s (Secure f m c) q = absurd (cc)
quiet_is_own s (Inform m u b) q = refl
quiet_is_own s (Crash m) q = absurd (cc)

-- quiet deeds, and behind them what is the node's own
own_behind : (s : ℕ) (one other : List Deed) → AreQuiet one → list_all (is_own s) other ≡ true → list_all (is_own s) (one ++ other) ≡ true
own_behind s [] other a b = b
own_behind s (d ∷ one) other a b =
    (λ i. quiet_is_own s d (first_of (is_quiet d) (list_all is_quiet one) a) i && own_behind s one other (second_of (is_quiet d) (list_all is_quiet one) a) b i)

quiet_own : (s : ℕ) (ds : List Deed) → AreQuiet ds → list_all (is_own s) ds ≡ true
quiet_own s [] q = refl
quiet_own s (d ∷ ds) q =
    (λ i. quiet_is_own s d (first_of (is_quiet d) (list_all is_quiet ds) q) i && quiet_own s ds (second_of (is_quiet d) (list_all is_quiet ds) q) i)

-- How the deeds of an event are made: quiet ones; quiet ones that are all entered, and behind them a Secure at the node; or a crash of the node.
pub record Secures (s : ℕ) (ds : List Deed) : Type 0 where
  pub first : List Deed
  pub family : Name
  pub count : ℕ
  pub quiet : AreQuiet first
  pub entered : list_all is_entered first ≡ true
  pub is : ds ≡ first ++ Secure family s count ∷ []

abbrev pub Made : ℕ → List Deed → Type 0
Made s ds = AreQuiet ds ⊎ (Secures s ds ⊎ (ds ≡ Crash s ∷ []))

entered_of : (s : ℕ) (outcome : Bool) (names : List Name) → list_all is_entered (map (λ a. Inform s a outcome) names) ≡ true
entered_of s outcome [] = refl
entered_of s outcome (a ∷ names) = entered_of s outcome names

pub both_entered : (one other : List Deed) → list_all is_entered one ≡ true → list_all is_entered other ≡ true → list_all is_entered (one ++ other) ≡ true
both_entered [] other a b = b
both_entered (d ∷ one) other a b =
    (λ i. first_of (is_entered d) (list_all is_entered one) a i && both_entered one other (second_of (is_entered d) (list_all is_entered one) a) b i)

informs_entered : (s : ℕ) (one other : List Name) → list_all is_entered (informs s one other) ≡ true
informs_entered s one other =
    both_entered (map (λ a. Inform s a false) (sorted_names one)) (map (λ a. Inform s a true) (sorted_names other)) (entered_of s false (sorted_names one)) (entered_of s true (sorted_names other))

made_by : (s : ℕ) (one other : List Name) (d : Did) → Own s d → Made s (informs s one other ++ d.deeds)
made_by s one other d (inl q) = inl (both_quiet (informs s one other) d.deeds (informs_quiet s one other) q)
made_by s one other d (inr only) = inr (inl (record {
  first = informs s one other;
  family = only.0;
  count = only.1;
  quiet = informs_quiet s one other;
  entered = informs_entered s one other;
  is = ap (λ (ds : List Deed). informs s one other ++ ds) only.2;
}))

-- what a node goes by at an event
abbrev sight_at : List ObjectDecl → ℕ → List Carried → Knowledge → Sight
sight_at objects s h b = sight_with objects s h (held_informs objects s h b) (both (held objects h) b)

made_step : (objects : List ObjectDecl) (s : ℕ) (h : List Carried) (g : Sight) (input : Input) (mail : Option Mail) (load : Load)
    → MayBePut objects s g input mail load → Made s (node_step objects s h input mail (told_in_order load.know)).deeds
made_step objects s h g (Begins m) mail load may =
    let b : Knowledge = told_in_order load.know in
    made_by s (new_aborts b (held objects h)) (new_commits b (held objects h)) (rule objects (sight_at objects s h b) mail (Begins m)) (inl refl)
made_step objects s h g (Requests r) mail load may =
    let b : Knowledge = told_in_order load.know in
    made_by s (new_aborts b (held objects h)) (new_commits b (held objects h)) (rule objects (sight_at objects s h b) mail (Requests r)) (inl (request_quiet objects (sight_at objects s h b) r.action r.want))
made_step objects s h g (Receives letter) mail load may =
    let b : Knowledge = told_in_order load.know in
    made_by s (new_aborts b (held objects h)) (new_commits b (held objects h)) (rule objects (sight_at objects s h b) mail (Receives letter)) (mail_own objects (sight_at objects s h b) mail)
made_step objects s h g (Tells m to) mail load may =
    let b : Knowledge = told_in_order load.know in
    made_by s (new_aborts b (held objects h)) (new_commits b (held objects h)) (rule objects (sight_at objects s h b) mail (Tells m to)) (inl refl)
made_step objects s h g (Queries m f) mail load may =
    let b : Knowledge = told_in_order load.know in
    made_by s (new_aborts b (held objects h)) (new_commits b (held objects h)) (rule objects (sight_at objects s h b) mail (Queries m f)) (inl refl)
made_step objects s h g (Restarts m) mail load may =
    inr (inr (ap (λ (l : Load). (node_step objects s h (Restarts m) mail (told_in_order l.know)).deeds) may.1.1))

pub made_is : (objects : List ObjectDecl) (s : ℕ) (history : List Received) (c : Received) → IsStepOf objects s history c → Made s c.event.deeds
made_is objects s history c step =
    subst (λ (e : Event). Made s e.deeds) (sym step.is_next) (made_step objects s (map as_carried history) (held_sight objects s (map as_carried history) nothing) step.input c.mail c.load step.may)

pub made_own : (s : ℕ) (ds : List Deed) → Made s ds → AreOwn s ds
made_own s ds (inl q) = inr (quiet_own s ds q)
made_own s ds (inr (inl m)) =
    inr (ap (list_all (is_own s)) m.is ∙ own_behind s m.first (Secure m.family s m.count ∷ []) m.quiet (ap (λ (b : Bool). b && true) (eq-eqb s s refl)))
made_own s ds (inr (inr is)) = inl is

pub steps_are_own : StepsAreOwn
steps_are_own objects s history c step = made_own s c.event.deeds (made_is objects s history c step)
