-- What a picture lights up. A trace has the newest event first.
use Rattle.std.specs.Prelude.{◌≡◌, ℕ, ◌<◌, eqb, Bool, true, false, ◌||◌, if◌then◌else◌, List, [], ◌∷◌, length, Option, Some, None, slice_get, unwrap_or}
use Rattle.std.specs.List.{list_any}
use Rattle.cam_names.specs.declared.name.Name.{Name}
use Rattle.cam_names.specs.Names.{is_child, name_eq}
use Rattle.cam_event.specs.declared.Event.{Event}
use Rattle.cam_event.specs.declared.Deed.{Deed}
use Rattle.cam_event.specs.declared.Deed.TheVariants.{Create, Ask, Call, Perform, Bounce, Got, AskCommit, AskAbort, Commit, Abort, Secure, Inform, Crash}
use Rattle.cam_event.specs.Pasts.{holds, in_past}
use Rattle.cam_event.specs.Views.{step_of}
use Rattle.cam_cut.specs.Witness.{is_some_step}
use Rattle.cam_why.specs.declared.link.Link.{Link}
use Rattle.cam_why.specs.declared.link.Why.{Why}
use Rattle.cam_why.specs.Causes.{IsWhole}
use Rattle.cam_why.specs.declared.fault.WhyFault.{WhyFault}
use Rattle.cam_why.specs.declared.fault.WhyFault.TheVariants.{NoMemory}
use Rattle.cam_why.specs.Passes.{IsWhy, Refuses}
use Rattle.cam_draw.specs.declared.light.Highlight.{Highlight}
use Rattle.cam_draw.specs.declared.light.Highlight.TheVariants as highlights
use Rattle.cam_draw.specs.declared.light.Light.{Light}
use Rattle.cam_draw.specs.declared.light.Light.TheVariants.{All, Past, Way}

-- whether an action sees a deed: it is the action's own request, or what came of one, or the decision on a child
abbrev pub is_seen : Name → Deed → Bool
is_seen a (Create b) = name_eq a b
is_seen a (Ask b child) = name_eq a b
is_seen a (Call b n object op count) = name_eq a b
is_seen a (Got b n seen) = name_eq a b
is_seen a (AskCommit b v) = name_eq a b
is_seen a (AskAbort b) = name_eq a b
is_seen a (Commit b) = is_child a b
is_seen a (Abort b) = is_child a b
is_seen a (Perform b n answer) = false
is_seen a (Bounce b n holder) = false
is_seen a (Secure f s c) = false
is_seen a (Inform s b committed) = false
is_seen a (Crash s) = false

-- the last event of which an action sees a deed
abbrev pub last_seen : List Event → Name → Option ℕ
last_seen [] a = None
last_seen (e ∷ before) a = if list_any (is_seen a) e.deeds then Some (length before) else last_seen before a

-- whether the flag at a position is set; after the last flag none is
abbrev pub is_set : List Bool → ℕ → Bool
is_set flags i = unwrap_or (slice_get flags i) false

-- an event at an end of a letter, and an event that received it
abbrev pub is_end : ℕ → Link → Bool
is_end i link = eqb link.from i || eqb link.to i

abbrev pub is_receipt : ℕ → Link → Bool
is_receipt i link = eqb link.to i

-- The events of the way to a stop: the cause, the stop, and where each letter of the chain was sent and received.
abbrev pub is_on_way : Why → ℕ → ℕ → Bool
is_on_way why stop i = eqb why.cause i || eqb stop i || list_any (is_end i) why.links

-- whether an event is lit, whether the letter is that it received, and whether those are that it sent and nobody received
abbrev pub is_lit : Light → ℕ → Bool
is_lit All i = true
is_lit (Past flags) i = is_set flags.items i
is_lit (Way stop why) i = is_on_way why stop i

abbrev pub is_letter_lit : Light → ℕ → Bool
is_letter_lit All i = true
is_letter_lit (Past flags) i = is_set flags.items i
is_letter_lit (Way stop why) i = list_any (is_receipt i) why.links

abbrev pub are_stubs_lit : Light → ℕ → Bool
are_stubs_lit All i = true
are_stubs_lit (Past flags) i = is_set flags.items i
are_stubs_lit (Way stop why) i = false

-- Lit are the events in the past of the last one of which the action sees a deed.
abbrev pub IsPastOf : List Event → Name → Light → Type 0
IsPastOf t a (Past flags) = (i : ℕ) → i < length t → is_set flags.items i ≡ holds (in_past t i) (last_seen t a)
IsPastOf t a All = ⊥
IsPastOf t a (Way stop why) = ⊥

-- Lit is the way to this stop: its cause, and a chain of letters from there of which none has fewer letters.
abbrev pub IsWayTo : List Event → ℕ → Light → Type 0
IsWayTo t j (Way stop why) = (stop ≡ j) × (IsWhole t → IsWhy t j why)
IsWayTo t j All = ⊥
IsWayTo t j (Past flags) = ⊥

-- What is lit is what was asked for.
abbrev pub IsLight : List Event → Highlight → Light → Type 0
IsLight t highlights.Nothing light = light ≡ All
IsLight t (highlights.Action a) light = IsPastOf t a light
IsLight t (highlights.Stop j) light = IsWayTo t j light

-- Why nothing is drawn: memory ran out; or a stop is to be lit, and the event of this number stops nothing.
abbrev pub IsRefusal : List Event → Highlight → WhyFault → Type 0
IsRefusal t highlights.Nothing fault = fault ≡ NoMemory
IsRefusal t (highlights.Action a) fault = fault ≡ NoMemory
IsRefusal t (highlights.Stop j) fault = IsWhole t → Refuses t j fault

-- What gives a step of the action's view is among what it sees.
abbrev pub StepsAreSeen : Type 0
StepsAreSeen = (before : List Deed) (d : Deed) (a : Name) → is_some_step (step_of before d a) ≡ true → is_seen a d ≡ true
