-- Each step of the rules: its deeds at home may come, and the history stays in order.
use Rattle.std.proofs.Common.{◌≡◌, ℕ, Bool, true, false, ◌&&◌, if◌then◌else◌, List, [], ◌∷◌, ◌++◌, map, filter, Option, Some, None, refl, sym, ap, subst, ◌∙◌}
use Rattle.std.specs.Prelude.{option_map, is_some}
use Rattle.std.specs.List.{list_any}
use Rattle.std.proofs.lemmas.Bool.{true≢false}
use Rattle.std.proofs.lemmas.List.Elements.{filter-append}
use borrow.Author.Tests.{eqb-true}
use Rattle.cam_names.specs.declared.name.Name.{Name}
use Rattle.cam_names.specs.Names.{is_top, home_count}
use Rattle.cam_names.proofs.Names.{name_eq_same}
use Rattle.cam_type.specs.declared.ObjectDecl.{ObjectDecl}
use Rattle.cam_know.specs.Knowledge.{Knowledge}
use Rattle.cam_know.specs.Known.{nothing}
use Rattle.cam_event.specs.declared.Note.{Note}
use Rattle.cam_event.specs.declared.Note.TheVariants as notes
use Rattle.cam_event.specs.declared.Deed.{Deed}
use Rattle.cam_event.specs.History.{after, is_crash}
use Rattle.cam_event.specs.Inputs.{Input, Begins, Requests, Receives, Tells, Queries, Restarts, Mail}
use Rattle.cam_event.specs.Sights.{Sight, present, votes, yes_for, is_preparing, is_preparing_note}
use Rattle.cam_event.specs.Rules.{rule}
use Rattle.cam_event.specs.Taken.{is_entered}
use Rattle.cam_event.specs.ByKnowledge.{start_counts, held_sight, held_informs}
use Rattle.cam_event.specs.Carried.{Carried, entry_of, deeds_of}
use Rattle.cam_tranman.specs.Events.{is_at_home}
use Rattle.cam_event.proofs.Agree.{count_after_other}
use Rattle.cam_event.specs.NextStep.{stepped}
use Rattle.cam_tranman.specs.Orderly.{present_count, IsTopOf, IsOrderly, MailIsForHome, MayBeAsked, taken, NoneIsOrderly, StepsStayOrderly, TakenStaysOrderly}
use Rattle.cam_tranman.specs.Keeping.{home_deeds, RulesMakeThem}
use Rattle.cam_tranman.proofs.Asks.{asks_run}
use Rattle.cam_tranman.proofs.Sights.{held_away, same_sight}
use Rattle.cam_tranman.proofs.Ordering.{InOrder, in_order_home, HasRun, has_run_too, had_run, Came, came_before}
use Rattle.cam_tranman.proofs.StaysInOrder.{comes_in_order}
use Rattle.cam_tranman.proofs.AnswerDeeds.{One, PreparesTop, Fine, request_fine}
use Rattle.cam_tranman.proofs.RuleDeeds.{arrives_fine}

-- what an input has for the rule of it
abbrev InputFine : Sight → Input → Option Mail → Type 0
InputFine g (Begins m) mail = mail ≡ None
InputFine g (Requests r) mail = HasRun g.node g.deeds r.action
InputFine g (Receives letter) mail = MailIsForHome g.node mail
InputFine g (Tells m to) mail = Unit {0}
InputFine g (Queries m f) mail = Unit {0}
InputFine g (Restarts m) mail = Unit {0}

rule_fine : (objects : List ObjectDecl) (g : Sight) (mail : Option Mail) (input : Input) → ((f : Name) → is_preparing g f ≡ true → is_top f ≡ true) → InputFine g input mail
    → Fine g mail (rule objects g mail input)
rule_fine objects g mail (Begins m) tops is = (record { named = refl; none = ap start_counts is }, tt)
rule_fine objects g mail (Requests r) tops is = request_fine objects g mail r.action r.want is
rule_fine objects g None (Receives letter) tops is = (tt, tt)
rule_fine objects g (Some mail) (Receives letter) tops is = arrives_fine objects g mail tops is
rule_fine objects g mail (Tells m to) tops is = (tt, tt)
rule_fine objects g mail (Queries m f) tops is = (tt, tt)
rule_fine objects g mail (Restarts m) tops is = (refl, tt)

-- an input that may be put is so, whatever its letter brings
input_fine : (objects : List ObjectDecl) (s : ℕ) (before : List Carried) (input : Input) (mail : Option Mail) (brought : Knowledge)
    → MayBeAsked s (held_sight objects s before nothing) input mail → InputFine (held_sight objects s before brought) input mail
input_fine objects s before (Begins m) mail brought may = may
input_fine objects s before (Requests r) mail brought may =
    let L = deeds_of before in
    has_run_too s L (after L (held_informs objects s before brought)) r.action (same_sight objects s before brought)
    (had_run s L (after L (held_informs objects s before nothing)) r.action (same_sight objects s before nothing)
    (asks_run (held_sight objects s before nothing) r.action r.want may.0 may.1))
input_fine objects s before (Receives letter) mail brought may = may
input_fine objects s before (Tells m to) mail brought may = tt
input_fine objects s before (Queries m f) mail brought may = tt
input_fine objects s before (Restarts m) mail brought may = tt

-- The deeds at home of an event are those of its rule.
pub rules_make_them : RulesMakeThem
rules_make_them objects s before input mail brought =
    let ds = (rule objects (held_sight objects s before brought) mail input).deeds in
    filter-append is_at_home (held_informs objects s before brought) ds
    ∙ ap (λ (hs : List Deed). hs ++ filter is_at_home ds) (held_away objects s before brought)

-- They have in front of them what the node's history has.
one_before : (s : ℕ) (L ds : List Deed) (mail : Option Mail) (hs : List Deed) → filter is_at_home ds ≡ [] → One (Came s (after L ds) mail) hs → One (Came s L mail) hs
one_before s L ds mail [] away came = tt
one_before s L ds mail (d ∷ []) away came = came_before s L ds mail d away came
one_before s L ds mail (d ∷ e ∷ hs) away came = absurd came

pub home_came : (objects : List ObjectDecl) (s : ℕ) (before : List Carried) (input : Input) (mail : Option Mail) (brought : Knowledge) → IsOrderly s before
    → MayBeAsked s (held_sight objects s before nothing) input mail
    → One (Came s (deeds_of before) mail) (home_deeds objects s before input mail brought) × PreparesTop (held_sight objects s before brought) (rule objects (held_sight objects s before brought) mail input).note
home_came objects s before input mail brought ord may =
    let fine = rule_fine objects (held_sight objects s before brought) mail input (λ f some. (ord.prepared f some).0) (input_fine objects s before input mail brought may) in (
      one_before s (deeds_of before) (held_informs objects s before brought) mail (home_deeds objects s before input mail brought)
          (held_away objects s before brought) fine.0,
      fine.1,
    )

-- So the deeds stay in order,
ordered_after : (s : ℕ) (L : List Deed) (mail : Option Mail) (hs : List Deed) → One (Came s L mail) hs → InOrder s L → InOrder s (after L hs)
ordered_after s L mail [] came ord = ord
ordered_after s L mail (d ∷ []) came ord = comes_in_order s L mail d came ord
ordered_after s L mail (d ∷ e ∷ hs) came ord = absurd came

in_order : (s : ℕ) (before : List Carried) → IsOrderly s before → InOrder s (deeds_of before)
in_order s before ord = record { reached = ord.reached; numbered = ord.numbered; asked = ord.asked }

-- and what is prepared stays a top action of the present count.
note_top : (g : Sight) (f : Name) (note : Note) → PreparesTop g note → is_preparing_note f note ≡ true → IsTopOf (present g) f
note_top g f (notes.Preparing h) top is =
    subst (λ (a : Name). IsTopOf (present g) a) (sym (name_eq_same f h is)) (top.0, eqb-true (home_count h) (present g) top.1)
note_top g f _ top is = absurd (true≢false (sym is))

prepared_then : (f : Name) (crash note : Bool) (v : Option (List (ℕ × ℕ))) (more : List (ℕ × ℕ)) (old new : ℕ) → (crash ≡ false → old ≡ new)
    → (note ≡ true → IsTopOf old f) → (is_some v ≡ true → IsTopOf old f)
    → is_some (if crash then None else if note then Some [] else option_map (λ earlier. more ++ earlier) v) ≡ true → IsTopOf new f
prepared_then f true note v more old new same begun before is = absurd (true≢false (sym is))
prepared_then f false true v more old new same begun before is = subst (λ (c : ℕ). IsTopOf c f) (same refl) (begun refl)
prepared_then f false false None more old new same begun before is = absurd (true≢false (sym is))
prepared_then f false false (Some vs) more old new same begun before is = subst (λ (c : ℕ). IsTopOf c f) (same refl) (before refl)

orderly_after : (s : ℕ) (before : List Carried) (c : Carried) → IsOrderly s before → c.event.node ≡ s
    → ((f : Name) → is_preparing_note f c.event.note ≡ true → IsTopOf (present_count s before) f)
    → InOrder s (after (deeds_of before) (filter is_at_home c.event.deeds)) → IsOrderly s (c ∷ before)
orderly_after s before c ord at top deeds =
    let is = in_order_home s (deeds_of before) c.event.deeds deeds in
    record {
      reached = is.reached;
      numbered = is.numbered;
      asked = is.asked;
      prepared = λ f.
          prepared_then f (list_any (is_crash c.event.node) c.event.deeds) (is_preparing_note f c.event.note) (votes (map entry_of before) f) (yes_for f c.mail)
          (present_count s before) (present_count s (c ∷ before)) same (top f) (ord.prepared f);
    }
  where
    same : list_any (is_crash c.event.node) c.event.deeds ≡ false → present_count s before ≡ present_count s (c ∷ before)
    same none = sym (count_after_other c.event.deeds (deeds_of before) s (ap (λ (n : ℕ). list_any (is_crash n) c.event.deeds) (sym at) ∙ none))

pub none_is_orderly : NoneIsOrderly
none_is_orderly s =
    record { reached = refl; numbered = refl; asked = λ a some. absurd (true≢false (sym some)); prepared = λ f some. absurd (true≢false (sym some)) }

pub steps_stay_orderly : StepsStayOrderly
steps_stay_orderly objects s before input mail brought ord may =
    let came = home_came objects s before input mail brought ord may in
    let g = held_sight objects s before brought in
    let now : present g ≡ present_count s before = (same_sight objects s before brought).count_is s in
    orderly_after s before (stepped objects s before input mail brought) ord refl
    (λ f is. subst (λ (c : ℕ). IsTopOf c f) now (note_top g f (rule objects g mail input).note came.1 is))
    (subst (λ (hs : List Deed). InOrder s (after (deeds_of before) hs)) (sym (rules_make_them objects s before input mail brought))
    (ordered_after s (deeds_of before) mail (home_deeds objects s before input mail brought) came.0 (in_order s before ord)))

-- Of an event of which the log entry was taken there are no more deeds at home.
filter_swap : (p q : Deed → Bool) (ds : List Deed) → filter p (filter q ds) ≡ filter q (filter p ds)
filter_swap p q [] = refl
filter_swap p q (d ∷ ds) = by (filter_swap p q ds) (p d) refl (q d) refl
  where
    one_by : (t u : Bool) → p d ≡ t → q d ≡ u → filter p (if q d then d ∷ filter q ds else filter q ds) ≡ (if u && t then d ∷ filter p (filter q ds) else filter p (filter q ds))
    one_by true true h k = ap (λ (b : Bool). filter p (if b then d ∷ filter q ds else filter q ds)) k ∙ ap (λ (b : Bool). if b then d ∷ filter p (filter q ds) else filter p (filter q ds)) h
    one_by false true h k = ap (λ (b : Bool). filter p (if b then d ∷ filter q ds else filter q ds)) k ∙ ap (λ (b : Bool). if b then d ∷ filter p (filter q ds) else filter p (filter q ds)) h
    one_by t false h k = ap (λ (b : Bool). filter p (if b then d ∷ filter q ds else filter q ds)) k

    other_by : (t u : Bool) → p d ≡ t → q d ≡ u → filter q (if p d then d ∷ filter p ds else filter p ds) ≡ (if u && t then d ∷ filter q (filter p ds) else filter q (filter p ds))
    other_by true true h k = ap (λ (b : Bool). filter q (if b then d ∷ filter p ds else filter p ds)) h ∙ ap (λ (b : Bool). if b then d ∷ filter q (filter p ds) else filter q (filter p ds)) k
    other_by true false h k = ap (λ (b : Bool). filter q (if b then d ∷ filter p ds else filter p ds)) h ∙ ap (λ (b : Bool). if b then d ∷ filter q (filter p ds) else filter q (filter p ds)) k
    other_by false true h k = ap (λ (b : Bool). filter q (if b then d ∷ filter p ds else filter p ds)) h
    other_by false false h k = ap (λ (b : Bool). filter q (if b then d ∷ filter p ds else filter p ds)) h

    by : filter p (filter q ds) ≡ filter q (filter p ds) → (t : Bool) → p d ≡ t → (u : Bool) → q d ≡ u → filter p (filter q (d ∷ ds)) ≡ filter q (filter p (d ∷ ds))
    by rest t h u k = one_by t u h k ∙ ap (λ (xs : List Deed). if u && t then d ∷ xs else xs) rest ∙ sym (other_by t u h k)

fewer : (P : Deed → Type 0) (hs : List Deed) → One P hs → One P (filter is_entered hs)
fewer P [] one = tt
fewer P (d ∷ []) one = by (is_entered d)
  where
    by : (t : Bool) → One P (if t then d ∷ [] else [])
    by true = one
    by false = tt
fewer P (d ∷ e ∷ hs) one = absurd one

pub taken_stays_orderly : TakenStaysOrderly
taken_stays_orderly objects s before input mail brought ord may =
    let came = home_came objects s before input mail brought ord may in
    let c = stepped objects s before input mail brought in
    let is = filter_swap is_at_home is_entered c.event.deeds ∙ ap (filter is_entered) (rules_make_them objects s before input mail brought) in
    orderly_after s before (taken c) ord refl (λ f is. absurd (true≢false (sym is)))
    (subst (λ (hs : List Deed). InOrder s (after (deeds_of before) hs)) (sym is)
    (ordered_after s (deeds_of before) mail (filter is_entered (home_deeds objects s before input mail brought))
    (fewer (Came s (deeds_of before) mail) (home_deeds objects s before input mail brought) came.0) (in_order s before ord)))
