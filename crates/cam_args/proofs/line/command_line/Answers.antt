-- One command after the other.
use Rattle.std.proofs.Common.{rules, ◌≡◌, ◌∙◌, ap₂, List, [], ◌∷◌, map, codes}
use Rattle.std.proofs.lemmas.Result.{IfOk-weaker}
use Rattle.clap.specs.Walk.{Text}
use Rattle.clap.specs.Simple.{App}
use Rattle.cam_args.specs.Line.{with_command}
use Rattle.cam_args.proofs.line.command_line.Goals as goal

pub returns : goal.returns
returns c =
    let more : Text → App → List Text → App = λ name line values. with_command line name values in
    let none_1 : map (λ s. s.now) c.as_slice.result.now ≡ [] = search rules in
    let none_2 : map (λ s. s.now) c.as_slice-2.result.now ≡ [] = search rules in
    let values_3 : map (λ s. s.now) c.as_slice-3.result.now ≡ codes "name" ∷ [] = search rules in
    let values_4 : map (λ s. s.now) c.as_slice-4.result.now
    ≡ codes "seed" ∷ codes "size" ∷ [] = search rules in
    let values_5 : map (λ s. s.now) c.as_slice-5.result.now
    ≡ codes "seed" ∷ codes "actions" ∷ codes "threads" ∷ codes "mode" ∷ [] = search rules in
    let none_6 : map (λ s. s.now) c.as_slice-6.result.now ≡ [] = search rules in
    let none_7 : map (λ s. s.now) c.as_slice-7.result.now ≡ [] = search rules in
    let values_8 : map (λ s. s.now) c.as_slice-8.result.now ≡ codes "event" ∷ [] = search rules in
    let none_9 : map (λ s. s.now) c.as_slice-9.result.now ≡ [] = search rules in
    let line_1 = c.in_ok-line.ensures ∙ ap₂ (more (codes "run")) c.empty_line-line.ensures none_1 in
    let line_2 = c.in_ok-line-2.ensures ∙ ap₂ (more (codes "trace")) line_1 none_2 in
    let line_3 = c.in_ok-line-3.ensures ∙ ap₂ (more (codes "witness")) line_2 values_3 in
    let line_4 = c.in_ok-line-4.ensures ∙ ap₂ (more (codes "gen")) line_3 values_4 in
    let line_5 = c.in_ok-line-5.ensures ∙ ap₂ (more (codes "storm")) line_4 values_5 in
    let line_6 = c.in_ok-line-6.ensures ∙ ap₂ (more (codes "inspect")) line_5 none_6 in
    let line_7 = c.in_ok-line-7.ensures ∙ ap₂ (more (codes "upgrade")) line_6 none_7 in
    let line_8 = c.in_ok-line-8.ensures ∙ ap₂ (more (codes "why")) line_7 values_8 in
    IfOk-weaker c.with_command-9.result _ _ (λ r is. is ∙ ap₂ (more (codes "timed")) line_8 none_9)
    c.with_command-9.ensures
