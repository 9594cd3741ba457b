-- What is around the events of a run: the heads of lanes, and the halts of nodes.
use Rattle.std.specs.Prelude.{ℕ, zero, suc, ◌+◌, ◌&&◌, eqb, nat_le, Bool, true, false, if◌then◌else◌, List, [], ◌∷◌, ◌++◌, length, reverse, Option, Some, None, slice_get, unwrap_or, codes, decimal, string_bytes}
use Rattle.std.specs.Option.{option_map_or}
use Rattle.cam_type.specs.declared.ObjectDecl.{ObjectDecl}
use Rattle.cam_event.specs.declared.Mark.{Mark}
use Rattle.cam_event.specs.declared.Mark.TheVariants as marks
use Rattle.cam_scope.specs.declared.events.NamedEvent.{NamedEvent}
use Rattle.cam_script.specs.declared.Script.{Script}
use Rattle.cam_diagram.specs.declared.Halt.{Halt}

-- a name behind others
abbrev pub with_name : List ℕ → List ℕ → List ℕ
with_name [] name = name
with_name (c ∷ cs) name = c ∷ cs ++ codes " " ++ name

-- the objects of a node by name, of a list that has the newest first
abbrev pub objects : List (List ℕ) → ℕ → List ObjectDecl → List ℕ
objects labels node [] = []
objects labels node (o ∷ before) =
    if eqb o.node node
    then option_map_or (with_name (objects labels node before)) (slice_get labels (length before)) (objects labels node before)
    else objects labels node before

-- of the first so many nodes, the objects that each keeps
abbrev pub heads : Script → ℕ → List (List ℕ)
heads script zero = []
heads script (suc n) = heads script n ++ objects script.labels (n + 1) (reverse script.objects) ∷ []

-- how many events are up to the last one of a node that is of this line or one before; the newest event first
abbrev pub above : ℕ → ℕ → List NamedEvent → ℕ
above node line [] = 0
above node line (e ∷ before) =
    if eqb e.node node && nat_le (unwrap_or e.line 0) line then length before + 1 else above node line before

-- the number of a node's first event behind so many; that of all events if none follows
abbrev pub next_from : ℕ → ℕ → ℕ → List NamedEvent → ℕ
next_from node behind number [] = number
next_from node behind number (e ∷ es) =
    if eqb e.node node && nat_le behind number then number else next_from node behind (number + 1) es

abbrev pub taken_word : Bool → List ℕ
taken_word true = codes ": logged"
taken_word false = codes ": not logged"

unfoldable pub halts_word : List ℕ
halts_word = codes "halts in line "

-- what is said of a halt, as bytes
pub record HaltSaying : Type 0 where
  pub node : ℕ
  pub above : ℕ
  pub until : ℕ
  pub words : List ℕ

abbrev pub halt_saying : Halt → HaltSaying
halt_saying h = record { node = h.node; above = h.above; until = h.until; words = string_bytes h.words }

abbrev pub halt : List NamedEvent → ℕ → ℕ → Bool → HaltSaying
halt events line node taken =
    record {
      node = node;
      above = above node line (reverse events);
      until = next_from node (above node line (reverse events)) 0 events;
      words = halts_word ++ decimal line ++ taken_word taken;
    }

-- a mark that tells of a halt is one
abbrev pub halt_of : List NamedEvent → Mark → List HaltSaying
halt_of events (marks.Halted line node taken) = halt events line node taken ∷ []
halt_of events _ = []
