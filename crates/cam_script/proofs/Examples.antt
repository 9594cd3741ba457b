-- Examples of the grammar, by computation: four scripts and what they spell, and five faults. The tests have many more.
use Rattle.std.proofs.Common.{◌≡◌, ℕ, List, [], ◌∷◌, ◌++◌, refl, pos, negsuc}
use Rattle.std.specs.Prelude.{codes, replicate, Ok, Err}
use Rattle.cam_type.specs.declared.Op.TheVariants as ops
use Rattle.cam_type.specs.declared.State.TheVariants.{Register, Queue}
use Rattle.cam_words.specs.declared.expressions.Expr.TheVariants as exprs
use Rattle.cam_words.specs.declared.fault.ScriptFault.TheVariants.{Bad}
use Rattle.cam_words.specs.declared.cause.Cause.TheVariants as causes
use Rattle.cam_script.specs.declared.Script.{Script}
use Rattle.cam_script.specs.declared.Act.TheVariants as acts
use Rattle.cam_script.specs.declared.Statement.TheVariants as statements
use Rattle.cam_script.specs.declared.OpWith.TheVariants as body_ops
use Rattle.cam_script.proofs.Read.{read, text}

-- Two actions, one register.
abbrev two_actions_text : List ℕ
two_actions_text =
    text (codes "nodes 1" ∷ codes "object x 1 register 0" ∷ codes "begin A 1" ∷ codes "begin B 1"
    ∷ codes "call A x write 5" ∷ codes "deliver 1" ∷ codes "deliver 2" ∷ codes "call B x read"
    ∷ codes "deliver 3" ∷ codes "deliver 4" ∷ codes "call A x read" ∷ [])

abbrev pub two_actions_script : Script
two_actions_script =
    record {
      nodes = 1;
      objects = record { node = 1; start = Register (pos 0) } ∷ [];
      labels = codes "x" ∷ [];
      bodies = [];
      steps =
          record { line = 3; act = acts.Begin 1 }
          ∷ record { line = 4; act = acts.Begin 1 }
          ∷ record { line = 5; act = acts.Call 0 0 (ops.Write (pos 5)) }
          ∷ record { line = 6; act = acts.Deliver 1 }
          ∷ record { line = 7; act = acts.Deliver 2 }
          ∷ record { line = 8; act = acts.Call 1 0 ops.Read }
          ∷ record { line = 9; act = acts.Deliver 3 }
          ∷ record { line = 10; act = acts.Deliver 4 }
          ∷ record { line = 11; act = acts.Call 0 0 ops.Read }
          ∷ [];
    }

pub two_actions : read two_actions_text ≡ Ok two_actions_script
unfolding read
two_actions = refl

-- Bodies: a transfer between two accounts.
abbrev transfer_text : List ℕ
transfer_text =
    text (codes "nodes 2" ∷ codes "object a 1 register 100" ∷ codes "object b 2 register 50"
    ∷ codes "body debit" ∷ codes "call 2 a read" ∷ codes "call 2 a write $1-30" ∷ codes "commit $1"
    ∷ codes "end" ∷ codes "body credit" ∷ codes "call 2 b read" ∷ codes "call 2 b write $1+30"
    ∷ codes "commit 0" ∷ codes "end" ∷ codes "body transfer" ∷ codes "child 2 1 debit"
    ∷ codes "child 2 2 credit" ∷ codes "commit $1" ∷ codes "end" ∷ codes "start T 1 transfer"
    ∷ codes "restart 2" ∷ codes "play" ∷ [])

abbrev pub transfer_script : Script
transfer_script =
    record {
      nodes = 2;
      objects = record { node = 1; start = Register (pos 100) } ∷ record { node = 2; start = Register (pos 50) } ∷ [];
      labels = codes "a" ∷ codes "b" ∷ [];
      bodies =
          (statements.Call 2 0 body_ops.Read
          ∷ statements.Call 2 0 (body_ops.Write (exprs.Kept 1 (negsuc 29)))
          ∷ statements.Commit (exprs.Kept 1 (pos 0)) ∷ [])
          ∷ (statements.Call 2 1 body_ops.Read
          ∷ statements.Call 2 1 (body_ops.Write (exprs.Kept 1 (pos 30)))
          ∷ statements.Commit (exprs.Fixed (pos 0)) ∷ [])
          ∷ (statements.Child 2 1 0 ∷ statements.Child 2 2 1 ∷ statements.Commit (exprs.Kept 1 (pos 0))
          ∷ [])
          ∷ [];
      steps =
          record { line = 19; act = acts.Start 1 2 }
          ∷ record { line = 20; act = acts.Restart 2 }
          ∷ record { line = 21; act = acts.Play }
          ∷ [];
    }

pub transfer : read transfer_text ≡ Ok transfer_script
unfolding read
transfer = refl

-- Each line form, with leading zeros, tabs, blanks, comments and CRs before LFs.
abbrev each_line_text : List ℕ
each_line_text =
    text (codes "# all lines" ∷ [] ∷ codes "nodes 02" ∷ codes "object x 01 register -0"
    ∷ codes "object abcdefghijklmnop 2 queue" ∷ (codes "body b" ++ 13 ∷ []) ∷ codes "call 1 x read"
    ∷ codes "commit 0" ∷ codes "end" ∷ codes "body c"
    ∷ (codes "  call" ++ 9 ∷ [] ++ codes "9 abcdefghijklmnop take ") ∷ codes "call 1 x swap $1-0"
    ∷ codes "child 2 1 b" ∷ codes "abort" ∷ codes "end" ∷ codes "begin A 1" ∷ codes "start S 2 c"
    ∷ codes "ask A B 2" ∷ codes "call A x write -7" ∷ codes "call B abcdefghijklmnop put 8"
    ∷ codes "call B abcdefghijklmnop size" ∷ codes "commit B 4" ∷ codes "abort B" ∷ codes "giveup A B"
    ∷ codes "go S" ∷ codes "deliver 4294967295" ∷ codes "cut 1 0" ∷ codes "lose 007"
    ∷ codes "restart 1" ∷ codes "drain" ∷ codes "play" ∷ codes "tell 1 2" ∷ codes "query 2 S"
    ∷ codes "stop 1 1000" ∷ [])

abbrev pub each_line_script : Script
each_line_script =
    record {
      nodes = 2;
      objects = record { node = 1; start = Register (pos 0) } ∷ record { node = 2; start = Queue [] } ∷ [];
      labels = codes "x" ∷ codes "abcdefghijklmnop" ∷ [];
      bodies =
          (statements.Call 1 0 body_ops.Read ∷ statements.Commit (exprs.Fixed (pos 0)) ∷ [])
          ∷ (statements.Call 9 1 body_ops.Take
          ∷ statements.Call 1 0 (body_ops.Swap (exprs.Kept 1 (pos 0))) ∷ statements.Child 2 1 0
          ∷ statements.Abort ∷ [])
          ∷ [];
      steps =
          record { line = 16; act = acts.Begin 1 }
          ∷ record { line = 17; act = acts.Start 2 1 }
          ∷ record { line = 18; act = acts.Ask 0 2 }
          ∷ record { line = 19; act = acts.Call 0 0 (ops.Write (negsuc 6)) }
          ∷ record { line = 20; act = acts.Call 2 1 (ops.Put (pos 8)) }
          ∷ record { line = 21; act = acts.Call 2 1 ops.Size }
          ∷ record { line = 22; act = acts.Commit 2 (pos 4) }
          ∷ record { line = 23; act = acts.Abort 2 }
          ∷ record { line = 24; act = acts.GiveUp 0 2 }
          ∷ record { line = 25; act = acts.Go 1 }
          ∷ record { line = 26; act = acts.Deliver 4294967295 }
          ∷ record { line = 27; act = acts.Cut 1 0 }
          ∷ record { line = 28; act = acts.Lose 7 }
          ∷ record { line = 29; act = acts.Restart 1 }
          ∷ record { line = 30; act = acts.Drain }
          ∷ record { line = 31; act = acts.Play }
          ∷ record { line = 32; act = acts.Tell 1 2 }
          ∷ record { line = 33; act = acts.Query 2 1 }
          ∷ record { line = 34; act = acts.Stop 1 1000 }
          ∷ [];
    }

pub each_line : read each_line_text ≡ Ok each_line_script
unfolding read
each_line = refl

-- Values in bodies: `$01` is `$1`; the added number has up to 64 bits with sign, and may be 0.
abbrev expressions_text : List ℕ
expressions_text =
    text (codes "nodes 2" ∷ codes "object x 1 register 0" ∷ codes "object q 2 queue" ∷ codes "body b"
    ∷ codes "call 1 x read" ∷ codes "call 2 q take" ∷ codes "call 1 x write $2+9223372036854775807"
    ∷ codes "call 1 q put $01-9223372036854775807" ∷ codes "call 1 x swap $3-0"
    ∷ codes "commit $5+00012" ∷ codes "end" ∷ [])

abbrev pub expressions_script : Script
expressions_script =
    record {
      nodes = 2;
      objects = record { node = 1; start = Register (pos 0) } ∷ record { node = 2; start = Queue [] } ∷ [];
      labels = codes "x" ∷ codes "q" ∷ [];
      bodies =
          (statements.Call 1 0 body_ops.Read ∷ statements.Call 2 1 body_ops.Take
          ∷ statements.Call 1 0 (body_ops.Write (exprs.Kept 2 (pos 9223372036854775807)))
          ∷ statements.Call 1 1 (body_ops.Put (exprs.Kept 1 (negsuc 9223372036854775806)))
          ∷ statements.Call 1 0 (body_ops.Swap (exprs.Kept 3 (pos 0)))
          ∷ statements.Commit (exprs.Kept 5 (pos 12)) ∷ [])
          ∷ [];
      steps = [];
    }

pub expressions : read expressions_text ≡ Ok expressions_script
unfolding read
expressions = refl

-- A byte that is not allowed counts before the words of its line.
pub a_byte_before_words : read (text ((codes "nodes 9 " ++ 0 ∷ []) ∷ [])) ≡ Err (Bad 1 9 causes.ByteNotAllowed)
unfolding read
a_byte_before_words = refl

-- Where a word is missing, the fault stands one past the last word.
pub a_word_is_missing : read (text (codes "nodes 1" ∷ codes "begin A  " ∷ [])) ≡ Err (Bad 2 8 causes.MissingWord)
unfolding read
a_word_is_missing = refl

-- `go` is for variables of `start`.
pub go_on_begin : read (text (codes "nodes 1" ∷ codes "begin A 1" ∷ codes "go A" ∷ [])) ≡ Err (Bad 3 4 causes.Misplaced)
unfolding read
go_on_begin = refl

-- A step too many counts before what its words say.
abbrev a_step_too_many_text : List ℕ
a_step_too_many_text = text (codes "nodes 1" ∷ replicate 512 (codes "drain") ++ codes "begin 1" ∷ [])

pub a_step_too_many : read a_step_too_many_text ≡ Err (Bad 514 1 causes.TooMany)
unfolding read
a_step_too_many = refl

-- No line begins with `stops`.
pub an_unknown_line : read (text (codes "nodes 1" ∷ codes "stops 1 1" ∷ [])) ≡ Err (Bad 2 1 causes.UnknownWord)
unfolding read
an_unknown_line = refl
