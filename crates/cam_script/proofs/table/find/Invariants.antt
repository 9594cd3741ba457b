use Rattle.std.proofs.Common.{◌≡◌, drop}
use Rattle.cam_words.specs.Words.{looked_up}
use Rattle.cam_script.specs.Table.{entries}
use Rattle.cam_script.proofs.table.find.Given as goal

-- the rows before this one have other words
abbrev pub invariant-loop-row : goal.invariant-loop-row
invariant-loop-row g l = looked_up (entries (drop l.row-index l.table)) l.word ≡ looked_up (entries l.table) l.word
