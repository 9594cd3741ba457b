-- How an action stands behind what happened to it.
use Rattle.std.specs.Prelude.{ℕ, nat_lt, eqb, Bool, false, ◌&&◌, not, if◌then◌else◌, List, [], ◌∷◌, ◌++◌, Option, Some, None, slice_get}
use Rattle.std.specs.List.{list_any}
use Rattle.std.specs.Option.{option_map_or}
use Rattle.cam_names.specs.declared.name.Name.{Name}
use Rattle.cam_names.specs.Names.{home_node, name_eq}
use Rattle.cam_type.specs.declared.ObjectDecl.{ObjectDecl}
use Rattle.cam_explain.specs.declared.moments.What.{What}
use Rattle.cam_explain.specs.declared.moments.What.TheVariants as whats
use Rattle.cam_explain.specs.declared.moments.Moment.{Moment}
use Rattle.cam_explain.specs.declared.standing.Standing.{Standing}
use Rattle.cam_explain.specs.declared.standing.Asked.TheVariants.{ToCommit, ToAbort}

-- of an action to which nothing happened
abbrev pub nothing : Standing
nothing = record { created_at = None; asked = None; call = None; value = None; stopped_at = None }

-- how it stands behind one moment more
abbrev pub behind : Standing → ℕ → ℕ → What → Standing
behind s event line whats.Created = record s { created_at = Some event }
behind s event line (whats.Called x op) = record s { call = Some (record { line = line; object = x }) }
behind s event line (whats.Got seen) = record s { call = None }
behind s event line (whats.CommitAsked v) = record s { asked = Some (ToCommit line); value = Some v }
behind s event line whats.AbortAsked = record s { asked = Some (ToAbort line) }
behind s event line whats.Stopped = record s { stopped_at = Some event }
behind s event line _ = s

abbrev pub standing_from : Standing → List Moment → Standing
standing_from s [] = s
standing_from s (m ∷ ms) = standing_from (behind s m.event m.line m.what) ms

abbrev pub standing : List Moment → Standing
standing ms = standing_from nothing ms

-- what happened in lines before this one
abbrev pub before : ℕ → List Moment → List Moment
before line [] = []
before line (m ∷ ms) = if nat_lt m.line line then m ∷ before line ms else []

-- the end of this child
abbrev pub is_end_of : Name → What → Bool
is_end_of b (whats.ChildEnded c outcome) = name_eq b c
is_end_of b _ = false

abbrev pub has_ended : List Moment → Name → Bool
has_ended ms b = list_any (λ m. is_end_of b m.what) ms

abbrev pub or_later : Option (Name × ℕ) → Option (Name × ℕ) → Option (Name × ℕ)
or_later None later = later
or_later (Some found) later = Some found

-- the first child that is asked for and not decided, with the line that asked for it
abbrev pub open_at : List Moment → ℕ → What → Option (Name × ℕ) → Option (Name × ℕ)
open_at all line (whats.Asked b) later = if has_ended all b then later else Some (b, line)
open_at all line _ later = later

abbrev pub open_from : List Moment → List Moment → Option (Name × ℕ)
open_from all [] = None
open_from all (m ∷ ms) = open_at all m.line m.what (open_from all ms)

abbrev pub open_child : List Moment → Option (Name × ℕ)
open_child ms = open_from ms ms

-- the one number is below the other, if both are there
abbrev pub is_before : Option ℕ → Option ℕ → Bool
is_before (Some one) (Some other) = nat_lt one other
is_before _ _ = false

-- the home of an action has restarted since the action was created
abbrev pub has_restarted : (ℕ → Option ℕ) → Name → Standing → Bool
has_restarted restart a s = is_before s.created_at (restart (home_node a))

-- what was performed of an object at an event is gone, since the object's node has restarted
abbrev pub is_gone : List ObjectDecl → (ℕ → Option ℕ) → ℕ → ℕ → Bool
is_gone objects restart x event = option_map_or (λ declared. is_before (Some event) (restart declared.node)) (slice_get objects x) false

-- an object is held that was not held before: what was performed of it is not gone
abbrev pub is_new : List ObjectDecl → (ℕ → Option ℕ) → List ℕ → ℕ → ℕ → Bool
is_new objects restart held event x = not (is_gone objects restart x event) && not (list_any (λ y. eqb y x) held)

abbrev pub held_too : List ObjectDecl → (ℕ → Option ℕ) → List ℕ → ℕ → Option ℕ → List ℕ
held_too objects restart held event None = held
held_too objects restart held event (Some x) =
    if is_new objects restart held event x then held ++ x ∷ [] else held

-- the object of the last call
abbrev pub last_object : Option ℕ → What → Option ℕ
last_object last (whats.Called x op) = Some x
last_object last _ = last

abbrev pub held_behind : List ObjectDecl → (ℕ → Option ℕ) → List ℕ → Option ℕ → ℕ → What → List ℕ
held_behind objects restart held last event whats.Performed = held_too objects restart held event last
held_behind objects restart held last event _ = held

abbrev pub held_from : List ObjectDecl → (ℕ → Option ℕ) → List ℕ → Option ℕ → List Moment → List ℕ
held_from objects restart held last [] = held
held_from objects restart held last (m ∷ ms) =
    held_from objects restart (held_behind objects restart held last m.event m.what) (last_object last m.what) ms

-- The objects that an action holds, in the order in which it came to hold them.
abbrev pub held : List ObjectDecl → (ℕ → Option ℕ) → List Moment → List ℕ
held objects restart ms = held_from objects restart [] None ms
