-- What is told of an action that is open at the end: for what it waits, and which line would free what it holds.
use Rattle.std.specs.Prelude.{ℕ, eqb, if◌then◌else◌, List, [], ◌++◌, length, Option, Some, None, codes, decimal}
use Rattle.std.specs.List.{flat_map}
use Rattle.cam_names.specs.declared.name.Name.{Name}
use Rattle.cam_names.specs.Names.{family, home_node, parent}
use Rattle.cam_scope.specs.declared.scope.Scope.{Scope}
use Rattle.cam_scope.specs.Words.{name_word, object_word}
use Rattle.cam_scope.specs.Made.{is_started}
use Rattle.cam_script.specs.declared.Script.{Script}
use Rattle.cam_explain.specs.declared.standing.Asked.{Asked}
use Rattle.cam_explain.specs.declared.standing.Asked.TheVariants.{ToCommit, ToAbort}
use Rattle.cam_explain.specs.declared.standing.OpenCall.{OpenCall}
use Rattle.cam_explain.specs.declared.standing.Standing.{Standing}
use Rattle.cam_explain.specs.Parts.{line_part}
use Rattle.cam_explain.specs.Moments.{Told}
use Rattle.cam_explain.specs.Standings.{has_restarted, held, open_child, standing}

-- `giveup P C`, between backquotes
abbrev pub giveup_text : Scope → Name → Name → List ℕ
giveup_text scope a b = codes "`giveup " ++ (name_word scope.names a ++ (codes " " ++ (name_word scope.names b ++ codes "`")))

abbrev pub decided_by : Scope → Name → Option Name → List ℕ
decided_by scope b None = []
decided_by scope b (Some a) = codes " " ++ (giveup_text scope a b ++ codes " decides it.")

-- An action whose home restarted does nothing more; a line of its parent decides it, unless they work at bodies.
abbrev pub decision : Scope → Name → List ℕ
decision scope a = if is_started scope (family a) then [] else decided_by scope a (parent a)

abbrev pub restarted_text : Scope → Name → List ℕ
restarted_text scope a =
    (codes "  Its home, node " ++ (decimal (home_node a) ++ codes ", has restarted since, so it does nothing more."))
    ++ (decision scope a ++ codes "\n")

abbrev pub asked_text : Option Asked → List ℕ
asked_text None = codes "  Nothing holds it up: no line asks for its end.\n"
asked_text (Some (ToCommit line)) = codes "  It has asked to commit" ++ (line_part line ++ codes ", and that is not decided.\n")
asked_text (Some (ToAbort line)) = codes "  It has asked to abort" ++ (line_part line ++ codes ", and that is not decided.\n")

abbrev pub child_text : Scope → Option (Name × ℕ) → List ℕ → List ℕ
child_text scope None other = other
child_text scope (Some child) other = codes "  It waits for its child " ++ (name_word scope.names child.0 ++ (line_part child.1 ++ codes ".\n"))

abbrev pub own_call_text : Script → OpenCall → List ℕ
own_call_text script call =
    codes "  It waits for the answer to its call of " ++ (object_word script.labels call.object ++ (line_part call.line ++ codes ".\n"))

abbrev pub call_text : Script → Option OpenCall → List ℕ → List ℕ
call_text script None other = other
call_text script (Some call) other = own_call_text script call

abbrev pub stop_text : Option ℕ → List ℕ → List ℕ
stop_text None other = other
stop_text (Some event) other = codes "  It was stopped at event " ++ (decimal event ++ codes ".\n")

-- For what an open action waits: the first of these that holds.
abbrev pub wait_text : Script → Scope → Told → Name → Standing → List ℕ
wait_text script scope course a s =
    if has_restarted course.restart a s then restarted_text scope a
    else stop_text s.stopped_at (call_text script s.call (child_text scope (open_child (course.moments a)) (asked_text s.asked)))

abbrev pub query_text : Scope → Name → List ℕ
query_text scope top = codes "`query` of " ++ (name_word scope.names top ++ codes " at the node of the object frees it.\n")

abbrev pub started_text : Scope → Name → List ℕ
started_text scope top =
    (codes "No line aborts an action that works at a body. After `restart " ++ (decimal (home_node top) ++ codes "`, ")) ++ query_text scope top

abbrev pub top_text : Scope → Name → Option Asked → List ℕ
top_text scope a None = codes "`abort " ++ (name_word scope.names a ++ codes "` and its letters free it.\n")
top_text scope a (Some asked) = codes "`drain` delivers the letters that decide it, if they are not lost.\n"

abbrev pub own_way_out : Scope → Name → Option Asked → Option Name → List ℕ
own_way_out scope a asked None = top_text scope a asked
own_way_out scope b asked (Some a) = giveup_text scope a b ++ codes " frees it, once letters have told the node of the object.\n"

-- Which line frees what an open action holds.
abbrev pub way_out : Scope → Told → Name → Option Asked → List ℕ
way_out scope course a asked =
    if has_restarted course.restart (family a) (standing (course.moments (family a))) then query_text scope (family a)
    else if is_started scope (family a) then started_text scope (family a)
    else own_way_out scope a asked (parent a)

abbrev pub holding_text : Script → List ℕ → List ℕ → List ℕ
holding_text script xs way = codes "  It holds" ++ (flat_map (λ x. codes " " ++ object_word script.labels x) xs ++ (codes ". " ++ way))

abbrev pub held_text : Script → List ℕ → List ℕ → List ℕ
held_text script xs way = if eqb (length xs) 0 then [] else holding_text script xs way

abbrev pub own_held_text : Script → Scope → Told → Name → List ℕ
own_held_text script scope course a =
    held_text script (held script.objects course.restart (course.moments a)) (way_out scope course a (standing (course.moments a)).asked)

abbrev pub open_text : Script → Scope → Told → Name → List ℕ
open_text script scope course a =
    wait_text script scope course a (standing (course.moments a)) ++ own_held_text script scope course a
