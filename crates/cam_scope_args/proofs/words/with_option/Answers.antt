-- The option stands before the files or behind them.
use Rattle.cam_scope_args.proofs.Spelling.{words_before, words_behind}
use Rattle.cam_scope_args.proofs.words.with_option.Goals as goal

pub returns-clause-before : goal.returns-clause-before
returns-clause-before c = c.of_files.ensures.read _
    (words_before c.args.word.now c.args.option.now c.args.value.now c.in_ok-question.question _ c.in_ok-question.ensures.option)
    (c.in_ok-question.ensures.option.many _ c.requires.few)

pub returns-clause-behind : goal.returns-clause-behind
returns-clause-behind c = c.of_files.ensures.read _
    (words_behind c.args.word.now c.args.option.now c.args.value.now c.in_ok-question.question _ c.in_ok-question.ensures.option)
    (c.in_ok-question.ensures.option.many _ c.requires.few)
