-- Each line that the grammar takes keeps what holds after some lines of a script.
use Rattle.std.proofs.Common.{◌≡◌, ℕ, Bool, true, false, not, ◌||◌, List, [], ◌∷◌, Option, Some, None, length, if◌then◌else◌, refl, arith}
use Rattle.std.specs.Prelude.{◌==◌, nat_le, Result, Ok}
use Rattle.cam_words.specs.declared.fault.ScriptFault.{ScriptFault}
use Rattle.cam_words.specs.declared.cause.Cause.TheVariants as causes
use Rattle.cam_words.specs.declared.word.Word.{Word}
use Rattle.cam_script.specs.declared.Step.{Step}
use Rattle.cam_script.specs.declared.Binding.TheVariants as bindings
use Rattle.cam_script.specs.declared.Form.{Form}
use Rattle.cam_script.specs.declared.Form.TheVariants as forms
use Rattle.cam_words.specs.Lines.{bad_byte}
use Rattle.cam_words.specs.Words.{or_refuse, refuse_if, next_word, text_of, is_missing, end_at, looked_up}
use Rattle.cam_script.specs.Forms.{form_words}
use Rattle.cam_script.specs.SoFar.{SoFar, Writing}
use Rattle.cam_script.specs.Declarations.{nodes_line, object_line, body_line}
use Rattle.cam_script.specs.Statements.{call_statement, child_statement, commit_statement, abort_statement}
use Rattle.cam_script.specs.Steps.{begin_line, start_line, ask_line, call_line, commit_line, abort_line, giveup_line, go_line, deliver_line, cut_line, lose_line, restart_line, drain_line, play_line, tell_line, query_line, stop_line}
use Rattle.cam_script.specs.declared.Section.TheVariants as sections
use Rattle.cam_script.specs.Order.{section_outside, section_by, section_of, is_closed, is_step, is_statement, is_nodes, may_stand, nests_too_deep, cost_ahead, is_full_body, is_full_script, is_too_many_by, is_too_many}
use Rattle.cam_script.specs.Grammar.{in_body, outside, by_place, with_word, begins_with_hash, all_allowed, read_line}
use Rattle.cam_script.proofs.Holds.{Holds, then_holds, then_any, not_refused}
use Rattle.cam_script.proofs.StepLines.{begin_fits, start_fits, ask_fits, call_fits, commit_fits, abort_fits, giveup_fits, go_fits, deliver_fits, cut_fits, lose_fits, restart_fits, drain_fits, play_fits, tell_fits, query_fits, stop_fits}
use Rattle.cam_script.proofs.StatementLines.{nodes_hold, object_holds, call_says, child_says, commit_says, abort_says}
use Rattle.cam_script.proofs.Stands.{IsWriting, IsWritten, Stands, after_nodes, after_object, after_step, after_binding}
use Rattle.cam_script.proofs.StandsInBody.{after_body, after_statement, after_end}

-- What the place of a line says of what stands before it, by whether `nodes` is awaited.
nodes_first : (b : Bool) (steps : List Step) → may_stand (if b then sections.AtNodes else section_outside steps) forms.Nodes ≡ true → b ≡ true
nodes_first true steps h = refl
nodes_first false [] h = absurd (grind (arith, h))
nodes_first false (s ∷ steps) h = absurd (grind (arith, h))

step_behind : (b : Bool) (steps : List Step) (form : Form) → is_nodes form ≡ false → may_stand (if b then sections.AtNodes else section_outside steps) form ≡ true → b ≡ false
step_behind true steps form n h = absurd (grind (arith, n, h))
step_behind false steps form n h = refl

no_step_before : (b : Bool) (steps : List Step) (form : Form) → is_nodes form ≡ false → is_step form ≡ false → may_stand (if b then sections.AtNodes else section_outside steps) form ≡ true → steps ≡ []
no_step_before true steps form n k h = absurd (grind (arith, n, h))
no_step_before false [] form n k h = refl
no_step_before false (s ∷ steps) form n k h = absurd (grind (arith, k, h))

-- Outside bodies.
outside_stands : (d : SoFar) (form : Form) (number at : ℕ) (line : List ℕ) → Stands d → d.writing ≡ None → may_stand (if d.script.nodes == 0 then sections.AtNodes else section_outside d.script.steps) form ≡ true → is_full_script d form at line ≡ false → Holds Stands (outside d form number at line)
outside_stands d forms.Nodes number at line s none stand room =
    then_holds _ Stands (nodes_line number at line) _ (nodes_hold number at line) (λ n h.
    after_nodes d n (s.fresh (nodes_first (d.script.nodes == 0) d.script.steps stand)) h.0 h.1)
outside_stands d forms.Object number at line s none stand room =
    then_holds _ Stands (object_line d.script.labels d.script.nodes number at line) _ (object_holds d.script.labels d.script.nodes number at line) (λ said h.
    after_object d (text_of said.0 line) said.1 s none (no_step_before (d.script.nodes == 0) d.script.steps forms.Object refl refl stand) (step_behind (d.script.nodes == 0) d.script.steps forms.Object refl stand) room h)
outside_stands d forms.Body number at line s none stand room =
    then_any Stands (body_line d.body_names number at line) _ (λ name.
    after_body d (text_of name line) s (no_step_before (d.script.nodes == 0) d.script.steps forms.Body refl refl stand) (step_behind (d.script.nodes == 0) d.script.steps forms.Body refl stand) room)
outside_stands d forms.Begin number at line s none stand room =
    then_holds _ Stands (begin_line d number at line) _ (begin_fits d number at line) (λ said fits.
    after_binding d number (text_of said.0 line) bindings.Begin said.1 1 s none (step_behind (d.script.nodes == 0) d.script.steps forms.Begin refl stand) room fits)
outside_stands d forms.Start number at line s none stand room =
    then_holds _ Stands (start_line d number at line) _ (start_fits d s.names number at line) (λ said fits.
    after_binding d number (text_of said.0 line) bindings.Start said.1 (cost_ahead d forms.Start at line) s none (step_behind (d.script.nodes == 0) d.script.steps forms.Start refl stand) room fits)
outside_stands d forms.Ask number at line s none stand room =
    then_holds _ Stands (ask_line d number at line) _ (ask_fits d s.bound number at line) (λ said fits.
    after_binding d number (text_of said.0 line) bindings.Ask said.1 1 s none (step_behind (d.script.nodes == 0) d.script.steps forms.Ask refl stand) room fits)
outside_stands d forms.Call number at line s none stand room =
    then_holds _ Stands (call_line d number at line) _ (call_fits d s.bound s.labels number at line) (λ act fits.
    after_step d number act 1 s none (step_behind (d.script.nodes == 0) d.script.steps forms.Call refl stand) room fits)
outside_stands d forms.Commit number at line s none stand room =
    then_holds _ Stands (commit_line d number at line) _ (commit_fits d s.bound number at line) (λ act fits.
    after_step d number act 1 s none (step_behind (d.script.nodes == 0) d.script.steps forms.Commit refl stand) room fits)
outside_stands d forms.Abort number at line s none stand room =
    then_holds _ Stands (abort_line d number at line) _ (abort_fits d s.bound number at line) (λ act fits.
    after_step d number act 1 s none (step_behind (d.script.nodes == 0) d.script.steps forms.Abort refl stand) room fits)
outside_stands d forms.GiveUp number at line s none stand room =
    then_holds _ Stands (giveup_line d number at line) _ (giveup_fits d s.bound number at line) (λ act fits.
    after_step d number act 1 s none (step_behind (d.script.nodes == 0) d.script.steps forms.GiveUp refl stand) room fits)
outside_stands d forms.Go number at line s none stand room =
    then_holds _ Stands (go_line d number at line) _ (go_fits d s.bound number at line) (λ act fits.
    after_step d number act 1 s none (step_behind (d.script.nodes == 0) d.script.steps forms.Go refl stand) room fits)
outside_stands d forms.Deliver number at line s none stand room =
    then_holds _ Stands (deliver_line number at line) _ (deliver_fits d number at line) (λ act fits.
    after_step d number act 1 s none (step_behind (d.script.nodes == 0) d.script.steps forms.Deliver refl stand) room fits)
outside_stands d forms.Cut number at line s none stand room =
    then_holds _ Stands (cut_line number at line) _ (cut_fits d number at line) (λ act fits.
    after_step d number act 1 s none (step_behind (d.script.nodes == 0) d.script.steps forms.Cut refl stand) room fits)
outside_stands d forms.Lose number at line s none stand room =
    then_holds _ Stands (lose_line number at line) _ (lose_fits d number at line) (λ act fits.
    after_step d number act 1 s none (step_behind (d.script.nodes == 0) d.script.steps forms.Lose refl stand) room fits)
outside_stands d forms.Restart number at line s none stand room =
    then_holds _ Stands (restart_line d number at line) _ (restart_fits d number at line) (λ act fits.
    after_step d number act 1 s none (step_behind (d.script.nodes == 0) d.script.steps forms.Restart refl stand) room fits)
outside_stands d forms.Drain number at line s none stand room =
    then_holds _ Stands (drain_line number at line) _ (drain_fits d number at line) (λ act fits.
    after_step d number act 1 s none (step_behind (d.script.nodes == 0) d.script.steps forms.Drain refl stand) room fits)
outside_stands d forms.Play number at line s none stand room =
    then_holds _ Stands (play_line number at line) _ (play_fits d number at line) (λ act fits.
    after_step d number act 1 s none (step_behind (d.script.nodes == 0) d.script.steps forms.Play refl stand) room fits)
outside_stands d forms.Tell number at line s none stand room =
    then_holds _ Stands (tell_line d number at line) _ (tell_fits d number at line) (λ act fits.
    after_step d number act 1 s none (step_behind (d.script.nodes == 0) d.script.steps forms.Tell refl stand) room fits)
outside_stands d forms.Query number at line s none stand room =
    then_holds _ Stands (query_line d number at line) _ (query_fits d s.bound number at line) (λ act fits.
    after_step d number act 1 s none (step_behind (d.script.nodes == 0) d.script.steps forms.Query refl stand) room fits)
outside_stands d forms.Stop number at line s none stand room =
    then_holds _ Stands (stop_line d number at line) _ (stop_fits d number at line) (λ act fits.
    after_step d number act 1 s none (step_behind (d.script.nodes == 0) d.script.steps forms.Stop refl stand) room fits)
outside_stands d forms.Child number at line s none stand room = tt
outside_stands d forms.End number at line s none stand room = tt

-- In a body.
still_open : (c : Bool) (form : Form) → is_statement form ≡ true → may_stand (if c then sections.BehindBody else sections.InBody) form ≡ true → c ≡ false
still_open true forms.Call k h = absurd (grind (arith, h))
still_open true forms.Child k h = absurd (grind (arith, h))
still_open true forms.Commit k h = absurd (grind (arith, h))
still_open true forms.Abort k h = absurd (grind (arith, h))
still_open true _ k h = absurd (grind (arith, k))
still_open false form k h = refl

closed_before : (c : Bool) → may_stand (if c then sections.BehindBody else sections.InBody) forms.End ≡ true → c ≡ true
closed_before true h = refl
closed_before false h = absurd (grind (arith, h))

neither : (a b : Bool) → (a || b) ≡ false → (a ≡ false) × (b ≡ false)
neither true b h = absurd (grind (arith, h))
neither false b h = (refl, h)

body_stands : (d : SoFar) (w : Writing) (form : Form) (number at : ℕ) (line : List ℕ) → Stands d → IsWriting d w → may_stand (if is_closed w.statements then sections.BehindBody else sections.InBody) form ≡ true → is_full_body d w form at line ≡ false → Holds Stands (in_body d w form number at line)
body_stands d w forms.Call number at line s writing stand room =
    then_holds _ Stands (call_statement d.script.labels d.script.objects (length w.statements) number at line) _ (call_says d (length w.statements) s.labels number at line) (λ statement says.
    let free = neither (nat_le 32 (length w.statements)) (nests_too_deep d forms.Call at line) room in
    after_statement d w statement forms.Call at line s writing (still_open (is_closed w.statements) forms.Call refl stand) free.0 free.1 says)
body_stands d w forms.Child number at line s writing stand room =
    then_holds _ Stands (child_statement d.body_names d.script.nodes number at line) _ (child_says d (length w.statements) s.names number at line) (λ statement says.
    let free = neither (nat_le 32 (length w.statements)) (nests_too_deep d forms.Child at line) room in
    after_statement d w statement forms.Child at line s writing (still_open (is_closed w.statements) forms.Child refl stand) free.0 free.1 says)
body_stands d w forms.Commit number at line s writing stand room =
    then_holds _ Stands (commit_statement (length w.statements) number at line) _ (commit_says d (length w.statements) number at line) (λ statement says.
    let free = neither (nat_le 32 (length w.statements)) (nests_too_deep d forms.Commit at line) room in
    after_statement d w statement forms.Commit at line s writing (still_open (is_closed w.statements) forms.Commit refl stand) free.0 free.1 says)
body_stands d w forms.Abort number at line s writing stand room =
    then_holds _ Stands (abort_statement number at line) _ (abort_says d (length w.statements) number at line) (λ statement says.
    let free = neither (nat_le 32 (length w.statements)) (nests_too_deep d forms.Abort at line) room in
    after_statement d w statement forms.Abort at line s writing (still_open (is_closed w.statements) forms.Abort refl stand) free.0 free.1 says)
body_stands d w forms.End number at line s writing stand room =
    then_any Stands (end_at number at line) _ (λ _. after_end d w s writing (closed_before (is_closed w.statements) stand))
body_stands d w _ number at line s writing stand room = tt

-- A line by its first word.
truly : (b : Bool) → not b ≡ false → b ≡ true
truly true h = refl
truly false h = absurd (grind (arith, h))

place_stands : (d : SoFar) (w : Option Writing) (form : Form) (number at : ℕ) (line : List ℕ) → Stands d → d.writing ≡ w → IsWritten d w → may_stand (section_by d.script.nodes w d.script.steps) form ≡ true → is_too_many_by w d form at line ≡ false → Holds Stands (by_place w d form number at line)
place_stands d (Some w) form number at line s e writing stand room = body_stands d w form number at line s writing stand room
place_stands d None form number at line s e writing stand room = outside_stands d form number at line s e stand room

word_stands : (d : SoFar) (number : ℕ) (first : Word) (line : List ℕ) → Stands d → Holds Stands (with_word d number first line)
unfolding with_word
word_stands d number first line s =
    then_any Stands (or_refuse (looked_up form_words (text_of first line)) number first.start causes.UnknownWord) _ (λ form.
    then_holds (λ _. not (may_stand (section_of d) form) ≡ false) Stands (refuse_if (not (may_stand (section_of d) form)) number first.start causes.Misplaced) _ (not_refused (not (may_stand (section_of d) form)) number first.start causes.Misplaced) (λ _ stand.
    then_holds (λ _. is_too_many d form first.end line ≡ false) Stands (refuse_if (is_too_many d form first.end line) number first.start causes.TooMany) _ (not_refused (is_too_many d form first.end line) number first.start causes.TooMany) (λ _ room.
    place_stands d d.writing form number first.end line s refl s.written (truly (may_stand (section_of d) form) stand) room)))

either_stands : (b : Bool) (d : SoFar) (x : Result SoFar ScriptFault) → Stands d → Holds Stands x → Holds Stands (if b then Ok d else x)
either_stands true d x s h = s
either_stands false d x s h = h

pub line_stands : (d : SoFar) (number : ℕ) (line : List ℕ) → Stands d → Holds Stands (read_line d number line)
unfolding read_line
line_stands d number line s =
    let first = next_word 0 line in
    then_any Stands (all_allowed (bad_byte 0 line) number) _ (λ _.
    either_stands (is_missing first) d (if begins_with_hash (text_of first line) then Ok d else with_word d number first line) s
    (either_stands (begins_with_hash (text_of first line)) d (with_word d number first line) s (word_stands d number first line s)))
