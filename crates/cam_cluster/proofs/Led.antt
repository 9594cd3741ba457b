-- Lines that put an input, are refused, or find no memory.
use Rattle.std.proofs.Common.{◌≡◌, ℕ, suc, ◌+◌, Bool, false, if◌then◌else◌, List, [], ◌∷◌}
use Rattle.std.proofs.Common.{◌++◌, length, Option, Some, None, refl, sym, ap, ◌∙◌, subst, arith}
use Rattle.std.specs.Prelude.{map, reverse, nat_lt}
use Rattle.std.specs.List.{AllByRecursion}
use Rattle.std.proofs.lemmas.Bool.{lt-ltb, le-ltb}
use Rattle.std.proofs.lemmas.List.{reverse-reverse}
use Rattle.cam_names.specs.declared.name.Name.{Name}
use Rattle.cam_event.specs.declared.Deed.{Deed}
use Rattle.cam_event.specs.declared.Event.{Event}
use Rattle.cam_event.specs.declared.Mark.{Mark}
use Rattle.cam_event.specs.declared.Mark.TheVariants as marks
use Rattle.cam_event.specs.declared.LineRefusal.{LineRefusal}
use Rattle.cam_event.specs.Inputs.{Input, node_of}
use Rattle.cam_node.specs.Log.{Logged}
use Rattle.cam_node.specs.declared.Input.{Input as NodeInput}
use Rattle.cam_node.specs.declared.Input.TheVariants as inputs
use Rattle.cam_node.specs.Calls.{input_of}
use Rattle.cam_runs.specs.Halts.{Turn, appends}
use Rattle.cam_runs.specs.HaltedLines.{Refused, after_line}
use Rattle.cam_runs.specs.Requests.{newest_deeds}
use Rattle.cam_runs.specs.Running.{has_number}
use Rattle.cam_runs.specs.Standing.{Standing, Setting, Undecided, after_input, made, put}
use Rattle.cam_runs.specs.UnderHalts.{IsUnderHalts}
use Rattle.cam_script.specs.declared.Script.{Script}
use Rattle.cam_histories.specs.FlightLaws.{IsSameFlight}
use Rattle.cam_histories.specs.InputLaws.{held_setting, halt_of}
use Rattle.cam_histories.proofs.ManyLines.{others_stand}
use Rattle.cam_cluster.specs.declared.works.Put.{Put}
use Rattle.cam_cluster.specs.declared.works.Put.TheVariants as puts
use Rattle.cam_cluster.specs.Puts.{HasPut, KeepsAsBefore, as_halt}
use Rattle.cam_cluster.specs.SoFar.{HasLed, HasRefused, KeepsLinesAsBefore, after_put}
use Rattle.cam_cluster.specs.SoFar.{IsBinding, bound_by}
use Rattle.cam_cluster.specs.Works.{WorksFields, IsHaltOf, IsSentBefore, KeepsRun, open_halt}
use Rattle.cam_cluster.specs.Works.{AreStoppedIf, IsUnfailing, sites_of}

-- Where neither events nor letters nor halted nodes change, works that have the marks keep the run.
pub keeps_others : (script : Script) (old new : Standing) (works : WorksFields) (ms : List Mark)
    (may : ℕ → Logged → Type 0)
    → IsSameFlight old new → new.halted ≡ old.halted → new.undecided ≡ old.undecided
    → new.turns ≡ old.turns → ms ≡ new.running.marks → IsUnderHalts script new
    → KeepsRun script old works may
    → KeepsRun script new (record works { marks = ms }) may
keeps_others script old new works ms may same halted undecided turns marked under keeps = record {
  under = under;
  one_each = keeps.one_each;
  eight = keeps.eight;
  nodes = keeps.nodes;
  whole =
      others_stand script.objects old new (sites_of works.nodes) works.outbox.net
      works.outbox.unput works.halted same halted keeps.whole;
  halts = λ place node at said.
      subst (λ (z : List Event × List Undecided). IsHaltOf script.objects z.0 z.1 (place + 1) node
      (may (place + 1))) (λ i. (sym same.trace i, sym undecided i))
      (keeps.halts place node at
      (ap (λ (hs : List ℕ). has_number hs (place + 1)) (sym halted) ∙ said));
  undecided = keeps.undecided ∙ ap (λ (us : List Undecided). map open_halt us) (sym undecided);
  sent =
      subst (λ (z : List Event × List Undecided).
      AllByRecursion (λ (u : Undecided). IsSentBefore (length z.0) u.event.got) z.1)
      (λ i. (sym same.trace i, sym undecided i)) keeps.sent;
  events = keeps.events ∙ ap (λ (t : List Event). reverse t) (sym same.trace);
  all_marks = marked;
  few = keeps.few;
  stops =
      subst (λ (z : List Event × List ℕ × List Turn). AreStoppedIf
      (IsUnfailing works.failed works.nodes) script.objects z.0 z.1 z.2 works.nodes)
      (λ i. (sym same.trace i, sym halted i, sym turns i)) keeps.stops;
}

-- what an input made, by whether it is a halt
pub longer : (n : ℕ) (x y : List Deed) → (if nat_lt n (suc n) then x else y) ≡ x
longer n x y = ap (λ (b : Bool). if b then x else y) (lt-ltb n (suc n) (omega arith))

pub as_long : (n : ℕ) (x y : List Deed) → (if nat_lt n n then x else y) ≡ y
as_long n x y = ap (λ (b : Bool). if b then x else y) (le-ltb n n (omega arith))

module _ (c : Setting) (st : Standing) (input : Input) where
  abbrev behind : Option Bool → Standing
  behind o =
      let s = node_of st.running.trace input in
      after_input c.line (c.restarted s) st s (c.reading.next st.running.trace input)
      (appends c.reading st.running.trace input) o

  is_behind : (o : Option Bool) → halt_of c st input ≡ o → put c st input ≡ behind o
  is_behind o is =
      let s = node_of st.running.trace input in
      ap (after_input c.line (c.restarted s) st s (c.reading.next st.running.trace input)
      (appends c.reading st.running.trace input)) is

  pub made_stood : halt_of c st input ≡ None
      → made st (put c st input) ≡ newest_deeds (put c st input).running.trace
  made_stood none =
      rw (is_behind None none) (longer (length st.running.trace) (c.reading.next st.running.trace input).deeds [])

  pub made_halted : halt_of c st input ≡ Some false → made st (put c st input) ≡ []
  made_halted lost =
      rw (is_behind (Some false) lost) (as_long (length st.running.trace) (newest_deeds st.running.trace) [])

  pub bound_stays : (done : Put) → halt_of c st input ≡ as_halt done
      → (put c st input).running.bound ≡ st.running.bound
  bound_stays puts.Stood none = ap (λ (z : Standing). z.running.bound) (is_behind None none)
  bound_stays puts.Halted lost =
      ap (λ (z : Standing). z.running.bound) (is_behind (Some false) lost)

nothing_bound : (input : NodeInput) → bound_by input [] ≡ None
nothing_bound inputs.Begin = refl
nothing_bound (inputs.Request request) = refl
nothing_bound (inputs.Letter id letter) = refl
nothing_bound (inputs.Tell to) = refl
nothing_bound (inputs.Query family) = refl

pub binding_is : (input : NodeInput) (c : Setting) (st : Standing) (put_as : Input)
    (events : List Event)
    (done : Put) (binds : Option Name) → halt_of c st put_as ≡ as_halt done
    → events ≡ reverse (put c st put_as).running.trace → IsBinding input events done binds
    → binds ≡ bound_by input (made st (put c st put_as))
binding_is input c st put_as events puts.Stood binds none is binding =
    binding
    ∙ ap (λ (t : List Event). bound_by input (newest_deeds t))
    (ap (λ (es : List Event). reverse es) is ∙ reverse-reverse (put c st put_as).running.trace)
    ∙ ap (bound_by input) (sym (made_stood c st put_as none))
binding_is input c st put_as events puts.Halted binds lost is binding =
    binding ∙ sym (nothing_bound input) ∙ ap (bound_by input) (sym (made_halted c st put_as lost))

-- an input was put, and the variable bound
pub led_by : (line place : ℕ) (input : NodeInput) (old new : WorksFields)
    (might may : ℕ → Logged → Type 0) (bound now : List (Option Name)) (binds : Option Name)
    (done : Put)
    → HasPut line place input old might done new may → IsBinding input new.events done binds
    → now ≡ bound ++ binds ∷ []
    → HasLed line place input (record { works = old; bound = bound }) might done
    (record { works = new; bound = now }) may
led_by line place input old new might may bound now binds done has binding is_now script st halts
    restarted is keeps put_so halts_so under = record {
      runs =
          keeps_others _ _ _ _ _ _ (record { trace = refl; lost = refl; delivered = refl })
          refl refl refl runs.all_marks under runs;
      variables =
          is_now ∙ ap (λ (bs : List (Option Name)). bs ++ binds ∷ []) (keeps.variables ∙ sym
          (bound_stays c st put_as done halts_so)) ∙ ap (λ (b : Option Name). after.running.bound ++
          b ∷ []) (binding_is _ c st put_as _ _ _ halts_so runs.events binding);
    }
  where
    c : Setting
    c = held_setting script.objects halts line restarted

    put_as : Input
    put_as = input_of (place + 1) input

    after : Standing
    after = put c st put_as

    runs : KeepsRun script after new may
    runs = has script st halts restarted is keeps.runs put_so halts_so

-- a line was refused
pub refused_by : (line : ℕ) (refusal : LineRefusal) (works : WorksFields) (ms : List Mark)
    (may : ℕ → Logged → Type 0) (bound now : List (Option Name))
    → ms ≡ works.marks ++ marks.Refused line refusal ∷ [] → now ≡ bound ++ None ∷ []
    → HasRefused line refusal (record { works = works; bound = bound }) may
    (record { works = record works { marks = ms }; bound = now }) may
refused_by line refusal works ms may bound now is_marks is_now script st keeps under = record {
  runs =
      keeps_others _ _ _ _ _ _ (record { trace = refl; lost = refl; delivered = refl }) refl
      refl refl (is_marks ∙ ap (λ (x : List Mark). x ++ marks.Refused line refusal ∷ [])
      keeps.runs.all_marks) under keeps.runs;
  variables = is_now ∙ ap (λ (bs : List (Option Name)). bs ++ None ∷ []) keeps.variables;
}

-- memory ran out
pub unchanged_lines : (old new : WorksFields) (might may : ℕ → Logged → Type 0)
    (bound now : List (Option Name))
    → KeepsAsBefore old might new may → now ≡ bound
    → KeepsLinesAsBefore (record { works = old; bound = bound }) might
    (record { works = new; bound = now }) may
unchanged_lines old new might may bound now before is_now script st is keeps = record {
  runs = before script st is keeps.runs;
  variables = is_now ∙ keeps.variables;
}

pub same_works : (works : WorksFields) (ms : List Mark) (may : ℕ → Logged → Type 0)
    → ms ≡ works.marks → KeepsAsBefore works may (record works { marks = ms }) may
same_works works ms may same script st is keeps = rw same keeps
