use Rattle.std.proofs.Common.{◌≡◌, ℕ, eqb, ◌&&◌, if◌then◌else◌, Option, sym, ap, ◌∙◌, subst}
use Rattle.cam_timed.specs.declared.machine.Letter.{Letter}
use Rattle.cam_timed.specs.Reaches.{Hears, raised, reach_in}
use Rattle.cam_timed.proofs.Hearing.{road_put}
use Rattle.cam_timed.proofs.machine.hearing.hear.Goals as goal

pub returns : goal.returns
returns c =
    let old = c.args.heard.now in
    let new = c.insert.new.self in
    let l = c.in-Some.letter in
    let from = ap (λ (x : Letter). x.mail.from) c.letter.view_is in
    let r : c.raised-reach.result ≡ raised l (reach_in old l.mail.from c.args.to) =
    c.raised-reach.ensures
    ∙ ap (raised l) (c.reach_in.ensures ∙ ap (λ (m : ℕ). reach_in old m c.args.to) from) in
    subst (λ (o : Option Letter). Hears c.args.to o old new) (sym c.in-Some.is) (λ k n.
    road_put old new _ c.args.to c.raised-reach.result c.in_ok-insert.ensures.updates.0 k n
    ∙ (λ i. if eqb (from i) k && eqb c.args.to n then r i else reach_in old k n))
