-- The steps of a gathered run, the newest first, and what each node's history is in them.
use Rattle.std.proofs.Common.{◌≡◌, inl, inr, ℕ, ◌+◌, ◌<◌, ◌≤◌, eqb, Bool, if◌then◌else◌, List, [], ◌∷◌, ◌++◌, length, map, reverse, take, Some, refl, sym, ap, ◌∙◌, subst, arith}
use Rattle.std.specs.Prelude.{All, slice_get, slice_index_or}
use Rattle.std.proofs.Math.Seq.{take-append_seam}
use Rattle.std.proofs.lemmas.List.{reverse-append, take-append-le}
use Rattle.std.proofs.lemmas.Option.{slice_get_within, get_or_from_slice_get}
use Rattle.std.proofs.lemmas.Bool.Decides.{eqb_tells}
use Rattle.cam_event.specs.declared.Event.{Event}
use Rattle.cam_event.specs.ByDeltas.{Received}
use Rattle.cam_journal.specs.declared.entry.NumberedEvent.{NumberedEvent}
use Rattle.cam_journal.specs.declared.entry.RunStep.{RunStep}
use Rattle.cam_journal.specs.Trace.{entry_of, history_of, numbered_from, IsLawful, IsRun}
use Rattle.cam_journal.specs.Rule.{IsNode}
use Rattle.cam_journal.proofs.Lists.{slice_get-longer, slice_get-end}
use Rattle.cam_journal.proofs.Histories.{history_of-same, history_of-other}
use Rattle.cam_gen.specs.Storms.{Words}
use Rattle.cam_storm.specs.Events.{Copied}
use Rattle.cam_storm.specs.Events.{Stepped}
use Rattle.cam_storm.specs.Lawful.{names, sends, carried, carried_in, own_history, lawful}

pub reverse_more : {X : Type 0} (x : X) (xs : List X) → reverse (x ∷ xs) ≡ reverse xs ++ x ∷ []
reverse_more x xs = reverse-append (x ∷ []) xs

pub reverse_last : {X : Type 0} (x : X) (xs : List X) → reverse (xs ++ x ∷ []) ≡ x ∷ reverse xs
reverse_last x xs = reverse-append xs (x ∷ [])

-- a step that is lawful after those before it, of one of the four nodes
pub record IsTurned (words : Words) (before : List (RunStep Stepped Copied)) (x : RunStep Stepped Copied) : Type 0 where
  pub lawful : IsLawful names sends (lawful words) (reverse before) x
  pub node : (1 ≤ x.node) × (x.node ≤ 4)

-- each of them is, the newest first
abbrev pub AreTurned : Words → List (RunStep Stepped Copied) → Type 0
AreTurned words [] = Unit {0}
AreTurned words (x ∷ before) = IsTurned words before x × AreTurned words before

-- the steps are of these nodes
abbrev pub OnlyNodes : List (RunStep Stepped Copied) → Type 0
OnlyNodes trace = (n : ℕ) (x : RunStep Stepped Copied) → slice_get trace n ≡ Some x → (1 ≤ x.node) × (x.node ≤ 4)

pub only_nodes : (trace : List (RunStep Stepped Copied)) → All (λ step. IsNode 4 step.node) trace → OnlyNodes trace
only_nodes trace all n x at =
    let here : slice_index_or trace n x ≡ x = get_or_from_slice_get trace n x x at in
    let is : IsNode 4 x.node = subst (λ (y : RunStep Stepped Copied). IsNode 4 y.node) here (all n x (slice_get_within trace n x at)) in
    (let low = is.0 in omega arith, is.1)

pub turned : (words : Words) (xs : List (RunStep Stepped Copied)) → IsRun names sends (lawful words) (reverse xs) → OnlyNodes (reverse xs) → AreTurned words xs
turned words [] run only = tt
turned words (x ∷ before) run only =
    let is : reverse (x ∷ before) ≡ reverse before ++ x ∷ [] = reverse_more x before in
    let whole : IsRun names sends (lawful words) (reverse before ++ x ∷ []) = subst (λ (trace : List (RunStep Stepped Copied)). IsRun names sends (lawful words) trace) is run in
    let nodes : OnlyNodes (reverse before ++ x ∷ []) = subst OnlyNodes is only in
    let front : take (length (reverse before)) (reverse before ++ x ∷ []) ≡ reverse before = take-append_seam (reverse before) (x ∷ []) in (
      record {
        lawful = subst (λ (b : List (RunStep Stepped Copied)). IsLawful names sends (lawful words) b x) front (whole (length (reverse before)) x (slice_get-end (reverse before) x));
        node = nodes (length (reverse before)) x (slice_get-end (reverse before) x);
      },
      turned words before
          (λ n y at.
          let below : n < length (reverse before) = slice_get_within (reverse before) n y at in
          subst (λ (b : List (RunStep Stepped Copied)). IsLawful names sends (lawful words) b y) (take-append-le n (reverse before) (x ∷ []) (omega arith)) (whole n y (slice_get-longer (reverse before) (x ∷ []) n y at)))
          (λ n y at. nodes n y (slice_get-longer (reverse before) (x ∷ []) n y at)),
    )

-- the events, and a node's own history
abbrev pub ev : RunStep Stepped Copied → Event
ev x = x.event.event

abbrev pub trace_of : List (RunStep Stepped Copied) → List Event
trace_of xs = map ev xs

abbrev pub own_of : ℕ → List (RunStep Stepped Copied) → List Received
own_of s [] = []
own_of s (x ∷ before) = if eqb x.node s then carried x.event x.received ∷ own_of s before else own_of s before

-- it is that of the seat
pub own_turned : (s : ℕ) (xs : List (RunStep Stepped Copied)) → own_history (history_of s (reverse xs)) ≡ own_of s xs
own_turned s [] = refl
own_turned s (x ∷ before) = elim (eqb_tells x.node s) [
  | inl y ↦
      ap (λ (trace : List (RunStep Stepped Copied)). own_history (history_of s trace)) (reverse_more x before)
      ∙ ap own_history (history_of-same s (reverse before) x y.1)
      ∙ ap (λ (h : List (NumberedEvent Stepped Copied)). map carried_in h) (reverse_last (entry_of (length (reverse before)) x) (history_of s (reverse before)))
      ∙ ap (λ (h : List Received). carried x.event x.received ∷ h) (own_turned s before)
      ∙ ap (λ (b : Bool). if b then carried x.event x.received ∷ own_of s before else own_of s before) (sym y.0)
  | inr n ↦
      ap (λ (trace : List (RunStep Stepped Copied)). own_history (history_of s trace)) (reverse_more x before)
      ∙ ap own_history (history_of-other s (reverse before) x n.1)
      ∙ own_turned s before
      ∙ ap (λ (b : Bool). if b then carried x.event x.received ∷ own_of s before else own_of s before) (sym n.0)
]

-- the numbers fall away
pub numbered_events : (n : ℕ) (trace : List (RunStep Stepped Copied)) → map (λ (p : ℕ × Stepped). p.1.event) (numbered_from n trace) ≡ trace_of trace
numbered_events n [] = refl
numbered_events n (x ∷ trace) = ap (λ (es : List Event). ev x ∷ es) (numbered_events (n + 1) trace)

pub map_last : {X Y : Type 0} (f : X → Y) (xs : List X) (x : X) → map f (xs ++ x ∷ []) ≡ map f xs ++ f x ∷ []
map_last f [] x = refl
map_last f (y ∷ xs) x = ap (λ (ys : List _). f y ∷ ys) (map_last f xs x)

pub map_reverse : {X Y : Type 0} (f : X → Y) (xs : List X) → map f (reverse xs) ≡ reverse (map f xs)
map_reverse f [] = refl
map_reverse f (x ∷ xs) = ap (map f) (reverse_more x xs) ∙ map_last f (reverse xs) x ∙ ap (λ (ys : List _). ys ++ f x ∷ []) (map_reverse f xs) ∙ sym (reverse_more (f x) (map f xs))
