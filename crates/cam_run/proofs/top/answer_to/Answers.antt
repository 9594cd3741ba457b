-- The answer to the words is that to their command.
use Rattle.std.proofs.Common.{rules, ◌≡◌, ℕ, List, [], IfOk, arith, drop, inl, map, string_bytes, subst, sym}
use Rattle.cam_args.specs.declared.Command.{Command}
use Rattle.std.proofs.lemmas.Result.{IfOk-weaker}
use Rattle.cam_base.specs.Causes.{Rose}
use Rattle.cam_args.specs.declared.Command.TheVariants.{Gen, Storm}
use Rattle.cam_run.specs.Disks.{disks_left}
use Rattle.cam_run.specs.Answer.{nodes_for}
use Rattle.cam_run.proofs.Commanded.{answers_words, completes_words, no_words, of_unread}
use Rattle.cam_run.proofs.Commanded.{of_words, storm_answers, storm_in_range, storm_words}
use Rattle.cam_run.proofs.Written.{not_usage}
use Rattle.cam_run.proofs.top.answer_to.Goals as goal

pub returns-in-None-clause-answer : goal.returns-in-None-clause-answer
returns-in-None-clause-answer g c =
    answers_words _ c.in-Ok.command
    (record {
      source_failed = Rose (g.S.Source.faults c.args.source.now) (g.S.Source.faults c.obey.new.source);
      disks =
          disks_left g.D.Disk.tells g.D.Disk.faults g.D.Disk.moment g.D.Disk.left_since
          c.args.disks.now.items c.obey.new.disks.items;
    })
    (g.S.Source.left c.args.source.now) (g.S.Source.left c.obey.new.source) c.obey.result
    c.in-Ok.ensures.read c.obey.ensures.answer

pub returns-in-None-clause-complete : goal.returns-in-None-clause-complete
returns-in-None-clause-complete g c =
    completes_words _ c.in-Ok.command
    (record {
      source_failed = Rose (g.S.Source.faults c.args.source.now) (g.S.Source.faults c.obey.new.source);
      disks =
          disks_left g.D.Disk.tells g.D.Disk.faults g.D.Disk.moment g.D.Disk.left_since
          c.args.disks.now.items c.obey.new.disks.items;
    })
    (g.S.Source.left c.args.source.now) (g.S.Source.left c.obey.new.source) c.obey.result
    c.in-Ok.ensures.each c.obey.ensures.answer

pub returns-in-None-clause-usage : goal.returns-in-None-clause-usage
returns-in-None-clause-usage g c =
    IfOk-weaker c.obey.result _ _
    (λ a is. (
      λ usage. absurd (not_usage a.status is usage),
      λ none. absurd (none (c.in-Ok.command, c.in-Ok.ensures.read)),
    ))
    c.obey.ensures.statuses

pub returns-in-Err-Usage-clause-generated : goal.returns-in-Err-Usage-clause-generated
returns-in-Err-Usage-clause-generated g c = λ seed size form.
    no_words (map string_bytes c.args.words.now) c.in-Err-Usage.field-0 (search rules)
    c.in-Err-Usage.ensures.usage (Gen seed size) form

pub returns-in-Err-Usage-clause-storm : goal.returns-in-Err-Usage-clause-storm
returns-in-Err-Usage-clause-storm g c = λ seed actions threads calm form.
    no_words (map string_bytes c.args.words.now) c.in-Err-Usage.field-0 (search rules)
    c.in-Err-Usage.ensures.usage (Storm seed actions threads calm) form

pub returns-in-None-clause-others : goal.returns-in-None-clause-others
returns-in-None-clause-others g c =
    of_words _ c.in-Ok.command
    (λ (command : Command) (input : List ℕ).
    drop (nodes_for command input) c.obey.new.disks.items
    ≡ drop (nodes_for command input) c.args.disks.now.items)
    (g.S.Source.left c.args.source.now) (g.S.Source.left c.obey.new.source)
    c.in-Ok.ensures.each c.obey.ensures.others

pub of_storm-requires-clause-actions : goal.of_storm-requires-clause-actions
of_storm-requires-clause-actions g c = λ κs lives.
    (storm_in_range _ c.in-Ok.command c.in-Some.asked.storm c.in-Some.asked.threads
    c.in-Ok.ensures.read c.in-Some.ensures.storm).0

pub of_storm-requires-clause-threads : goal.of_storm-requires-clause-threads
of_storm-requires-clause-threads g c = λ κs lives.
    (storm_in_range _ c.in-Ok.command c.in-Some.asked.storm c.in-Some.asked.threads
    c.in-Ok.ensures.read c.in-Some.ensures.storm).1

pub returns-in-Some-clause-answer : goal.returns-in-Some-clause-answer
returns-in-Some-clause-answer g c =
    answers_words _ c.in-Ok.command
    (record {
      source_failed = Rose (g.S.Source.faults c.args.source.now) (g.S.Source.faults c.args.source.now);
      disks =
          disks_left g.D.Disk.tells g.D.Disk.faults g.D.Disk.moment g.D.Disk.left_since
          c.args.disks.now.items c.of_storm.new.disks.items;
    })
    (g.S.Source.left c.args.source.now) (g.S.Source.left c.args.source.now) c.of_storm.result
    c.in-Ok.ensures.read
    (of_unread (g.S.Source.left c.args.source.now) _
    (storm_answers c.in-Ok.command c.in-Some.asked.storm c.in-Some.asked.threads _
    c.of_storm.result c.in-Some.ensures.storm c.of_storm.ensures.answer))

pub returns-in-Some-clause-complete : goal.returns-in-Some-clause-complete
returns-in-Some-clause-complete g c =
    completes_words _ c.in-Ok.command
    (record {
      source_failed = Rose (g.S.Source.faults c.args.source.now) (g.S.Source.faults c.args.source.now);
      disks =
          disks_left g.D.Disk.tells g.D.Disk.faults g.D.Disk.moment g.D.Disk.left_since
          c.args.disks.now.items c.of_storm.new.disks.items;
    })
    (g.S.Source.left c.args.source.now) (g.S.Source.left c.args.source.now) c.of_storm.result
    c.in-Ok.ensures.each
    (of_unread (g.S.Source.left c.args.source.now) _
    (storm_answers c.in-Ok.command c.in-Some.asked.storm c.in-Some.asked.threads _
    c.of_storm.result c.in-Some.ensures.storm c.of_storm.ensures.answer))

pub returns-in-Some-clause-storm : goal.returns-in-Some-clause-storm
returns-in-Some-clause-storm g c =
    storm_words _ c.in-Ok.command
    (record {
      source_failed = Rose (g.S.Source.faults c.args.source.now) (g.S.Source.faults c.args.source.now);
      disks =
          disks_left g.D.Disk.tells g.D.Disk.faults g.D.Disk.moment g.D.Disk.left_since
          c.args.disks.now.items c.of_storm.new.disks.items;
    })
    c.of_storm.result c.in-Ok.ensures.each
    ((storm_answers c.in-Ok.command c.in-Some.asked.storm c.in-Some.asked.threads _
    c.of_storm.result c.in-Some.ensures.storm c.of_storm.ensures.answer) [])

pub returns-in-Some-clause-usage : goal.returns-in-Some-clause-usage
returns-in-Some-clause-usage g c =
    IfOk-weaker c.of_storm.result _ _
    (λ a is. (
      λ usage. absurd (not_usage a.status (inl is) usage),
      λ none. absurd (none (c.in-Ok.command, c.in-Ok.ensures.read)),
    ))
    c.of_storm.ensures.statuses

pub returns-in-Some-clause-others : goal.returns-in-Some-clause-others
returns-in-Some-clause-others g c =
    of_words _ c.in-Ok.command
    (λ (command : Command) (input : List ℕ).
    drop (nodes_for command input) c.of_storm.new.disks.items
    ≡ drop (nodes_for command input) c.args.disks.now.items)
    (g.S.Source.left c.args.source.now) (g.S.Source.left c.args.source.now)
    c.in-Ok.ensures.each
    (of_unread (g.S.Source.left c.args.source.now) _
    (λ input.
    subst
    (λ (command : Command).
    drop (nodes_for command input) c.of_storm.new.disks.items
    ≡ drop (nodes_for command input) c.args.disks.now.items)
    (sym c.in-Some.ensures.storm) c.of_storm.ensures.others))
