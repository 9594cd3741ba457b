-- What a letter is for, by what it says.
use Rattle.std.specs.Prelude.{true, false}
use Rattle.cam_event.specs.declared.Body.{Body}
use Rattle.cam_event.specs.declared.Body.TheVariants as bodies
use Rattle.cam_scope.specs.declared.letters.LetterKind.{LetterKind}
use Rattle.cam_scope.specs.declared.letters.LetterKind.TheVariants as kinds

-- A vote is of one kind or the other, by what it votes.
abbrev pub kind_of : Body → LetterKind
kind_of (bodies.Start child deps) = kinds.Start
kind_of (bodies.Call action number object op count deps) = kinds.Call
kind_of (bodies.Answer action number reply) = kinds.Answer
kind_of (bodies.Finish action value deps) = kinds.Finish
kind_of (bodies.Quit action) = kinds.Quit
kind_of (bodies.Prepare family count) = kinds.Prepare
kind_of (bodies.Vote family count true) = kinds.VoteYes
kind_of (bodies.Vote family count false) = kinds.VoteNo
kind_of (bodies.Query family) = kinds.Query
kind_of bodies.News = kinds.News
