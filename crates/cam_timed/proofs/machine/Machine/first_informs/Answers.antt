use Rattle.std.proofs.Common.{◌≤◌, ◌-◌, ℕ, min, not, true, false, List, length, filter, get_or, Option, sym, ap, ◌∙◌, subst}
use Rattle.std.specs.Prelude.{slice_range}
use Rattle.std.proofs.lemmas.Result.{IfOk-weaker}
use Rattle.cam_names.specs.declared.name.Name.{Name}
use Rattle.cam_event.specs.declared.Deed.{Deed}
use Rattle.cam_event.specs.declared.LetterId.{LetterId}
use Rattle.cam_event.specs.History.{informed}
use Rattle.cam_event.specs.Rules.{informs}
use Rattle.cam_timed.specs.declared.machine.Letter.{Letter}
use Rattle.cam_timed.specs.Here.{input_of}
use Rattle.cam_timed.specs.Machine.{deeds_of, id_of, run_of}
use Rattle.cam_timed.specs.Moments.{events}
use Rattle.cam_timed.specs.Reaches.{IsReach, reach_in}
use Rattle.cam_timed.specs.TimedRules.{timed_got_of}
use Rattle.cam_timed.specs.Travelling.{timed_informs}
use Rattle.cam_timed.proofs.Brought.{firsts_same, none_first}
use Rattle.cam_timed.proofs.Deciding.{turn_id, turn_letter}
use Rattle.cam_timed.specs.Turns.{IsLetterOf}
use Rattle.cam_timed.proofs.Machines.{node_there}
use Rattle.cam_timed.proofs.LeftNew.{left_new}
use Rattle.cam_timed.proofs.WereTold.{were_told}
use Rattle.cam_timed.proofs.machine.Machine.first_informs.Goals as goal

pub returns-in_default : goal.returns-in_default
returns-in_default c =
    let T = run_of c.args.self.now in
    let s = c.args.turn.now.node in
    let got = timed_got_of (input_of c.args.turn.now.input.now) in
    c.new.ensures ∙ sym (none_first (events T) s)
    ∙ ap (λ (g : Option LetterId). timed_informs (events T) s g)
    (sym (ap id_of c.in_default.is)
    ∙ turn_id T got c.args.turn.now.letter.now c.requires.turn.comes)

pub unheard-requires : goal.unheard-requires
unheard-requires c =
    let objects = c.args.turn.now.objects.now in
    let T = run_of c.args.self.now in
    let nodes = c.args.self.now.nodes.items in
    let l = c.in-Some.letter in
    let got = timed_got_of (input_of c.args.turn.now.input.now) in
    let keeps =
    (turn_letter T got l
    (subst (λ (o : Option Letter). IsLetterOf T got o) c.in-Some.is c.requires.turn.comes)).1 in
    let node =
    node_there objects T nodes l.mail.from c.index.result.now c.requires.keeps.eight
    c.requires.keeps.nodes keeps.from
    (c.index.ensures
    ∙ ap (λ (x : Letter). get_or nodes (x.mail.from - 1) c.index.result.now) c.letter.view_is) in
    let kept = c.informed-informed.ensures objects l.mail.from _ _ node.own in
    subst (λ (n : ℕ). n ≤ length c.as_slice.result.now)
    (sym (ap (λ (x : Letter). x.aborts) c.letter.view_is))
    (subst (λ (names : List Name). l.aborts ≤ length names)
    (sym (c.as_slice.ensures ∙ kept.aborts)) (were_told T l keeps).few_aborts)

pub unheard-requires-2 : goal.unheard-requires-2
unheard-requires-2 c =
    let objects = c.args.turn.now.objects.now in
    let T = run_of c.args.self.now in
    let nodes = c.args.self.now.nodes.items in
    let l = c.in-Some.letter in
    let got = timed_got_of (input_of c.args.turn.now.input.now) in
    let keeps =
    (turn_letter T got l
    (subst (λ (o : Option Letter). IsLetterOf T got o) c.in-Some.is c.requires.turn.comes)).1 in
    let node =
    node_there objects T nodes l.mail.from c.index.result.now c.requires.keeps.eight
    c.requires.keeps.nodes keeps.from
    (c.index.ensures
    ∙ ap (λ (x : Letter). get_or nodes (x.mail.from - 1) c.index.result.now) c.letter.view_is) in
    let kept = c.informed-informed.ensures objects l.mail.from _ _ node.own in
    subst (λ (n : ℕ). n ≤ length c.as_slice-2.result.now)
    (sym (ap (λ (x : Letter). x.commits) c.letter.view_is))
    (subst (λ (names : List Name). l.commits ≤ length names)
    (sym (c.as_slice-2.ensures ∙ kept.commits)) (were_told T l keeps).few_commits)

pub returns : goal.returns
returns c =
    let objects = c.args.turn.now.objects.now in
    let T = run_of c.args.self.now in
    let nodes = c.args.self.now.nodes.items in
    let s = c.args.turn.now.node in
    let l = c.in-Some.letter in
    let got = timed_got_of (input_of c.args.turn.now.input.now) in
    let both =
    turn_letter T got l
    (subst (λ (o : Option Letter). IsLetterOf T got o) c.in-Some.is c.requires.turn.comes) in
    let node =
    node_there objects T nodes l.mail.from c.index.result.now c.requires.keeps.eight
    c.requires.keeps.nodes both.1.from
    (c.index.ensures
    ∙ ap (λ (x : Letter). get_or nodes (x.mail.from - 1) c.index.result.now) c.letter.view_is) in
    let kept = c.informed-informed.ensures objects l.mail.from _ _ node.own in
    let mine =
    node_there objects T nodes s c.index-2.result.now c.requires.keeps.eight
    c.requires.keeps.nodes c.requires.turn.range c.index-2.ensures in
    let heard = c.reach_in-heard.result in
    let reach =
    subst (IsReach (events T) l.mail.from s)
    (sym (c.reach_in-heard.ensures
    ∙ ap (λ (x : Letter). reach_in c.args.self.now.heard x.mail.from s) c.letter.view_is))
    (c.requires.keeps.heard l.mail.from s) in
    let own : List Deed = deeds_of (events T) s in
    let new_abort = λ (a : Name). not (informed own s a false) in
    let new_commit = λ (a : Name). not (informed own s a true) in
    let aborts =
    ap (filter new_abort) (c.unheard.ensures
    ∙ ap (λ (x : Letter). slice_range c.as_slice.result.now (min heard.aborts x.aborts) x.aborts)
    c.letter.view_is
    ∙ ap (λ (names : List Name). slice_range names (min heard.aborts l.aborts) l.aborts)
    (c.as_slice.ensures ∙ kept.aborts))
    ∙ left_new (λ a. informed own s a false) _ heard.aborts l.aborts reach.aborts.informed_of in
    let commits =
    ap (filter new_commit) (c.unheard-2.ensures
    ∙ ap (λ (x : Letter). slice_range c.as_slice-2.result.now (min heard.commits x.commits) x.commits)
    c.letter.view_is
    ∙ ap (λ (names : List Name). slice_range names (min heard.commits l.commits) l.commits)
    (c.as_slice-2.ensures ∙ kept.commits))
    ∙ left_new (λ a. informed own s a true) _ heard.commits l.commits reach.commits.informed_of in
    IfOk-weaker c.first_informs.result _ _ (λ deeds made.
    made objects s _ _ mine.own ∙ (λ i. informs s (aborts i) (commits i))
    ∙ firsts_same objects T s l c.requires.keeps.run both.1
    ∙ ap (λ (g : Option LetterId). timed_informs (events T) s g) both.0) c.first_informs.ensures
