-- The machine keeps the run by time after a turn.
use Rattle.std.proofs.Common.{◌≡◌, ◌⊎◌, ◌<◌, ◌≤◌, ◌+◌, ◌-◌, get_or, inl, inr, ℕ, zero, suc, eqb, true, false, is_some, List, [], ◌∷◌, length, set, Option, Some, refl, sym, ap, ◌∙◌, subst, arith}
use Rattle.std.specs.Prelude.{slice_get, option_map}
use Rattle.std.specs.List.{AllByRecursion}
use Rattle.std.specs.Option.{option_map_or}
use Rattle.std.proofs.lemmas.Bool.Decides.{eqb_tells, leb_tells}
use Rattle.std.proofs.lemmas.List.{get_or-set_same, get_or-set_other, length-set}
use Rattle.std.proofs.lemmas.Option.{same_Some, slice_get-map, slice_get-get_or, slice_get_past, slice_get_read}
use Rattle.cam_type.specs.declared.ObjectDecl.{ObjectDecl}
use Rattle.cam_event.specs.declared.LetterId.{LetterId}
use Rattle.cam_event.specs.Inputs.{Mail}
use Rattle.cam_event.specs.Runs.{IsNode}
use Rattle.cam_timed.specs.declared.TimedEvent.{TimedEvent}
use Rattle.cam_timed.specs.declared.machine.Letter.{Letter}
use Rattle.cam_timed.specs.declared.machine.Node.{Node}
use Rattle.cam_timed.specs.declared.ruled.NodeInput.{NodeInput}
use Rattle.cam_timed.specs.declared.ruled.NodeInput.TheVariants as inputs
use Rattle.cam_timed.specs.Here.{input_of}
use Rattle.cam_timed.specs.Machine.{KeepsLetter, KeepsLetters, KeepsNode}
use Rattle.cam_timed.specs.TimedRules.{timed_next}
use Rattle.cam_timed.specs.TimedRunning.{letters}
use Rattle.cam_timed.specs.TimedRuns.{IsTimedRun, TimedMayCome}
use Rattle.cam_timed.specs.Turns.{IsTurn}
use Rattle.cam_timed.proofs.TakenOver.{node_other}

at_set : {X : Type 0} (xs : List X) (i : ℕ) (v : X) → i < length xs → slice_get (set xs i v) i ≡ Some v
at_set xs i v less = slice_get-get_or (set xs i v) i v (omega (arith, less, length-set xs i v)) ∙ ap Some (get_or-set_same xs i v v less)

off_set : {X : Type 0} (xs : List X) (i k : ℕ) (v : X) → (k ≡ i → ⊥) → slice_get (set xs i v) k ≡ slice_get xs k
off_set xs i k v other = elim (leb_tells (length xs) k) [
  | inl past ↦
      slice_get_past (set xs i v) k (omega (arith, past.1, length-set xs i v))
      ∙ sym (slice_get_past xs k (omega (arith, past.1)))
  | inr within ↦
      slice_get-get_or (set xs i v) k v (omega (arith, within.1, length-set xs i v))
      ∙ ap Some (get_or-set_other xs i k v v other)
      ∙ sym (slice_get-get_or xs k v (omega (arith, within.1)))
]

-- each node keeps its own
abbrev pub KeepsEach : List ObjectDecl → List TimedEvent → List Node → Type 0
KeepsEach objects T nodes = (place : ℕ) (node : Node) → slice_get nodes place ≡ Some node → KeepsNode objects T (place + 1) node

-- so after an event of one of them
pub nodes_after : (objects : List ObjectDecl) (T : List TimedEvent) (e : TimedEvent) (place : ℕ) (nodes : List Node) (new : Node) → place < length nodes → e.event.node ≡ place + 1
    → KeepsNode objects (e ∷ T) (place + 1) new → KeepsEach objects T nodes → KeepsEach objects (e ∷ T) (set nodes place new)
nodes_after objects T e place nodes new less mine keeps each k node at = by (eqb_tells k place)
  where
    by : ((eqb k place ≡ true) × (k ≡ place)) ⊎ ((eqb k place ≡ false) × (k ≡ place → ⊥)) → KeepsNode objects (e ∷ T) (k + 1) node
    by (inl y) =
        subst (λ (n : Node). KeepsNode objects (e ∷ T) (k + 1) n) (same_Some new node (sym (at_set nodes place new less) ∙ ap (slice_get (set nodes place new)) (sym y.1) ∙ at))
        (subst (λ (p : ℕ). KeepsNode objects (e ∷ T) (p + 1) new) (sym y.1) keeps)
    by (inr n) =
        node_other objects T e (k + 1) node (λ same. n.1 (omega (arith, same, mine))) (each k node (sym (off_set nodes place k new n.1) ∙ at))

-- The run goes on.
pub run_after : (objects : List ObjectDecl) (T : List TimedEvent) (input : NodeInput) → IsTimedRun objects T → TimedMayCome objects T (input_of input) → IsTimedRun objects (timed_next objects T (input_of input) ∷ T)
run_after objects T input run may = (record { input = input_of input; may = may; is_next = refl }, run)

-- what is kept of the letter at a place
each_at : {X : Type 0} (P : X → Type 0) (xs : List X) (i : ℕ) (x : X) → AllByRecursion P xs → slice_get xs i ≡ Some x → P x
each_at P [] i x all at = cc
each_at P (y ∷ xs) zero x all at = subst P (same_Some y x at) all.0
each_at P (y ∷ xs) (suc i) x all at = each_at P xs i x all.1 at

pub kept_letter : (T : List TimedEvent) (kept : List Letter) (place : ℕ) (letter : Letter) → KeepsLetters T kept → slice_get kept place ≡ Some letter → KeepsLetter T letter
kept_letter T kept place letter keeps at = each_at (KeepsLetter T) kept place letter keeps.each at

-- and that letter is handed to its node
pub letter_turn : (objects : List ObjectDecl) (T : List TimedEvent) (kept : List Letter) (place : ℕ) (letter : Letter) → IsTimedRun objects T → KeepsLetters T kept → slice_get kept place ≡ Some letter
    → IsTurn objects T letter.mail.to (inputs.Letter letter.id) (Some letter)
letter_turn objects T kept place letter run keeps at =
    let one : KeepsLetter T letter = kept_letter T kept place letter keeps at in
    record {
      run = run;
      may = ap is_some one.mail;
      node = ap (λ (o : Option Mail). option_map_or (λ (m : Mail). m.to) o 0) one.mail;
      range = one.to;
      comes = (refl, one);
    }

pub letter_named : (T : List TimedEvent) (kept : List Letter) (place : ℕ) (letter : Letter) (id : LetterId) → KeepsLetters T kept → slice_get kept place ≡ Some letter → slice_get (letters T) place ≡ Some id → letter.id ≡ id
letter_named T kept place letter id keeps at is =
    same_Some letter.id id (sym (ap (option_map (λ (l : Letter). l.id)) at) ∙ sym (slice_get-map (λ (l : Letter). l.id) kept place) ∙ ap (λ (ids : List LetterId). slice_get ids place) keeps.ids ∙ is)

-- what is kept of the sender of a letter, and of any node
pub node_there : (objects : List ObjectDecl) (T : List TimedEvent) (nodes : List Node) (s : ℕ) (node : Node) → length nodes ≡ 8 → KeepsEach objects T nodes → IsNode s → node ≡ get_or nodes (s - 1) node → KeepsNode objects T s node
node_there objects T nodes s node eight each range at =
    let from = range.0 in
    let to = range.1 in
    subst (λ (n : ℕ). KeepsNode objects T n node) (back from)
    (each (s - 1) node (slice_get_read nodes 8 (s - 1) node (sym eight) (omega (arith, from, to)) at))
  where
    back : 1 ≤ s → s - 1 + 1 ≡ s
    back some = omega (arith, some)
