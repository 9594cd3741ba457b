use Rattle.std.proofs.Common.{ℕ, ◌≤◌, length, arith, ap, ◌∙◌, [], ◌∷◌}
use Rattle.std.proofs.lemmas.Result.{on_ok_weaker}
use Rattle.cam_names.specs.Dependencies.{as_counts, greater_counts}
use Rattle.cam_own.proofs.Gaining.{ask_step}
use Rattle.cam_own.proofs.depending.note_ask.Goals as goal

pub returns : goal.returns
returns c =
    let named : 1 ≤ length c.args.action.now = omega (arith, c.depth.ensures.from, c.depth.ensures.value) in
    on_ok_weaker c.depend.result
    (ask_step c.args.depending.now c.depend.new.depending c.args.action.now c.args.child.now c.union-deps.result named
    (c.union-deps.ensures ∙ (λ i. greater_counts (c.nodes_in.ensures i) ((c.at.ensures ∙ ap (λ (p : ℕ × ℕ). as_counts ((p.0, 1) ∷ [])) c.home-node.ensures) i))))
    c.depend.ensures
