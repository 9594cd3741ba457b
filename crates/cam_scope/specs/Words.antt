-- The words of a run by the names of its script: actions, objects, operations, answers, reasons, letters.
use Rattle.std.specs.Prelude.{ℕ, zero, suc, List, [], ◌∷◌, ◌++◌, length, drop, Option, Some, None, slice_get, unwrap_or, codes, decimal}
use Rattle.std.specs.List.{flat_map}
use Rattle.std.specs.Option.{option_map, option_map_or}
use Rattle.std.specs.Fmt.{signed_decimal}
use Rattle.std.specs.BTreeMap.{BTreeMap, get}
use Rattle.cam_names.specs.Part.{PartFields}
use Rattle.cam_names.specs.declared.name.Name.{Name}
use Rattle.cam_names.specs.Names.{name_cmp, parent}
use Rattle.cam_names.specs.Text.{name_text}
use Rattle.cam_type.specs.declared.Op.{Op}
use Rattle.cam_type.specs.declared.Op.TheVariants as ops
use Rattle.cam_type.specs.declared.Answer.{Answer}
use Rattle.cam_type.specs.declared.Answer.TheVariants as answers
use Rattle.cam_know.specs.declared.Reason.{Reason}
use Rattle.cam_know.specs.declared.Reason.TheVariants as reasons
use Rattle.cam_event.specs.declared.Seen.{Seen}
use Rattle.cam_event.specs.declared.Seen.TheVariants as seens
use Rattle.cam_scope.specs.declared.names.Names.{Names}
use Rattle.cam_scope.specs.declared.names.Variable.{Variable}
use Rattle.cam_scope.specs.declared.letters.LetterKind.{LetterKind}
use Rattle.cam_scope.specs.declared.letters.LetterKind.TheVariants as kinds

-- `/2`, the place of a child among its parent's children
abbrev pub place_text : PartFields → List ℕ
place_text p = 47 ∷ decimal p.number

-- a variable with the places below it, or else another text
abbrev pub by_variable : Option Variable → List ℕ → List ℕ → List ℕ
by_variable (Some v) places other = v.label ++ places
by_variable None places other = other

-- the word of an action by this ancestor of it or one above, so many levels up at most
abbrev pub word_from : BTreeMap Name Variable → ℕ → Name → Name → List ℕ
word_from vs zero u a = name_text a
word_from vs (suc n) u a =
    by_variable (get name_cmp vs u) (flat_map place_text (drop (length u) a))
    (option_map_or (λ p. word_from vs n p a) (parent u) (name_text a))

-- The word of an action: the variable of its nearest ancestor that has one, and the places of the children on the way from there; the
-- action is its own nearest. If none has one, it is the name as the report writes it.
abbrev pub name_word : Names → Name → List ℕ
name_word names a = word_from names.variables (length a) a a

-- the line that binds the variable of an action, if one does
abbrev pub bound_line : Names → Name → Option ℕ
bound_line names a = option_map (λ v. v.line) (get name_cmp names.variables a)

-- the script's name of an object, which is empty where it has none
abbrev pub object_word : List (List ℕ) → ℕ → List ℕ
object_word labels x = unwrap_or (slice_get labels x) []

abbrev pub op_text : Op → List ℕ
op_text ops.Read = codes "read"
op_text (ops.Write v) = codes "write " ++ signed_decimal v
op_text (ops.Swap v) = codes "swap " ++ signed_decimal v
op_text ops.Size = codes "size"
op_text (ops.Put v) = codes "put " ++ signed_decimal v
op_text ops.Take = codes "take"
op_text (ops.Add v) = codes "add " ++ signed_decimal v

abbrev pub answer_text : Answer → List ℕ
answer_text answers.Ok = codes "ok"
answer_text (answers.Value v) = signed_decimal v
answer_text answers.Empty = codes "empty"

abbrev pub seen_text : Names → Seen → List ℕ
seen_text names (seens.Done answer) = answer_text answer
seen_text names (seens.Busy u) = codes "busy " ++ name_word names u
seen_text names seens.Gone = codes "gone"

abbrev pub reason_text : Names → Reason → List ℕ
reason_text names (reasons.Abort u) = codes "abort " ++ name_word names u
reason_text names (reasons.Crash s old new) = codes "crash " ++ decimal s ++ codes " " ++ decimal old ++ codes " " ++ decimal new

abbrev pub kind_text : LetterKind → List ℕ
kind_text kinds.Start = codes "start"
kind_text kinds.Call = codes "call"
kind_text kinds.Answer = codes "answer"
kind_text kinds.Finish = codes "finish"
kind_text kinds.Quit = codes "quit"
kind_text kinds.Prepare = codes "prepare"
kind_text kinds.VoteYes = codes "vote yes"
kind_text kinds.VoteNo = codes "vote no"
kind_text kinds.Query = codes "query"
kind_text kinds.News = codes "news"
