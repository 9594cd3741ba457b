-- The letter of a number is found.
use Rattle.std.proofs.Common.{Some, None, sym, ap, ◌∙◌, subst, rules, arith}
use Rattle.std.specs.Prelude.{option_map, reverse}
use Rattle.cam_event.specs.Inputs.{letter_at}
use Rattle.cam_cluster.specs.Coming.{IsFound}
use Rattle.cam_cluster.proofs.AsSeen.{reads_of, works_of}
use Rattle.cam_cluster.proofs.ComingLetters.{found_lost, found_there, has_as, is_numbered}
use Rattle.cam_cluster.proofs.ComingLetters.{no_receiver, receiver_is}
use Rattle.cam_cluster.proofs.works.Works.coming.Goals as goal

pub returns-then-is_none : goal.returns-then-is_none
returns-then-is_none g c = record {
  found = λ script st is keeps. found_lost script _ _ (reads_of g.L.CheckpointLog g.L.EntryLog
      c.args.self.now) keeps c.requires.all _ (has_as _ _ _ _ _ c.whole.ensures c.net.ensures
      ∙ c.if-is_none.ensures);
}

pub returns-in_err-letter : goal.returns-in_err-letter
returns-in_err-letter g c = record {
  found = λ script st is keeps. subst (IsFound c.args.number st) (sym c.from_residual.ensures)
      (is_numbered script st _ (reads_of g.L.CheckpointLog g.L.EntryLog c.args.self.now) keeps
      c.requires.all _ _ (has_as _ _ _ _ _ c.whole.ensures c.net.ensures ∙
      c.if-is_none.ensures) (sym c.in_err-letter.was ∙ c.numbered.ensures));
}

pub returns-in_err-to : goal.returns-in_err-to
returns-in_err-to g c = record {
  found = λ script st is keeps. absurd (no_receiver script _ _ (reads_of g.L.CheckpointLog
      g.L.EntryLog c.args.self.now) keeps c.requires.all _ _ (is_numbered script st _ (reads_of
      g.L.CheckpointLog g.L.EntryLog c.args.self.now) keeps c.requires.all _ _ (has_as _ _ _ _
      _ c.whole.ensures c.net.ensures ∙ c.if-is_none.ensures) (sym c.in_ok-letter.was ∙
      c.numbered.ensures)) (sym c.in_err-to.was ∙ c.receiver.ensures ∙ ap (λ es. option_map (λ m.
      m.to) (letter_at (reverse es) c.in_ok-letter.letter)) c.as_slice.ensures.value));
}

pub overflow_cast-to : goal.overflow_cast-to
overflow_cast-to g c =
    search rules

pub returns-in_err-place : goal.returns-in_err-place
returns-in_err-place g c = record {
  found = λ script st is keeps. absurd (c.in_err-place.ensures (receiver_is script _ _ (reads_of
      g.L.CheckpointLog g.L.EntryLog c.args.self.now) keeps c.requires.all _ _ _ (is_numbered
      script st _ (reads_of g.L.CheckpointLog g.L.EntryLog c.args.self.now) keeps c.requires.all _
      _ (has_as _ _ _ _ _ c.whole.ensures c.net.ensures ∙ c.if-is_none.ensures) (sym
      c.in_ok-letter.was ∙ c.numbered.ensures)) (sym c.in_ok-to.was ∙ c.receiver.ensures ∙ ap (λ es.
      option_map (λ m. m.to) (letter_at (reverse es) c.in_ok-letter.letter))
      c.as_slice.ensures.value)).0);
}

pub returns : goal.returns
returns g c = record {
  found = λ script st is keeps. found_there script _ _ (reads_of g.L.CheckpointLog g.L.EntryLog
      c.args.self.now) keeps c.requires.all _ _ _ _ (has_as _ _ _ _ _ c.whole.ensures
      c.net.ensures ∙ c.if-is_none.ensures) (sym c.in_ok-letter.was ∙ c.numbered.ensures) (sym
      c.in_ok-to.was ∙ c.receiver.ensures ∙ ap (λ es. option_map (λ m. m.to) (letter_at (reverse es)
      c.in_ok-letter.letter)) c.as_slice.ensures.value) (λ low. let is = c.in_ok-place.ensures.1 in
      omega (arith, is, low));
}
