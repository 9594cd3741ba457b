use Rattle.std.proofs.Common.{◌≡◌, ◌≤◌, List, [], Option, sym, ap, ◌∙◌, arith}
use Rattle.std.specs.Prelude.{unwrap_or}
use Rattle.cam_event.specs.declared.Operation.{Operation}
use Rattle.cam_event.specs.Live.{site_of}
use Rattle.cam_own.specs.Live.{operations_in}
use Rattle.cam_own.proofs.Sites.{on_here, on_other}
use Rattle.cam_own.proofs.all_nodes.AllNodes.live_on.Goals as goal

pub returns-then-site_of-site : goal.returns-then-site_of-site
returns-then-site_of-site c = λ L keeps.
    keeps.none
    ∙ on_other c.args.objects.now L c.args.site c.args.object
    (λ (at : site_of c.args.objects.now c.args.object ≡ c.args.site).
    omega (arith, at, c.site_of.ensures, c.if-site_of-site.true))

pub returns-in-Some : goal.returns-in-Some
returns-in-Some c = λ L keeps.
    let objects = c.args.objects.now in
    let x = c.args.object in
    let at : site_of objects x ≡ c.args.site = sym c.site_of.ensures ∙ c.if-site_of-site.false in
    let here : 1 ≤ site_of objects x = omega (arith, at, c.requires) in
    let there : c.in-Some.operations.now ≡ operations_in c.args.self.now.live x =
    ap (λ (o : Option (List Operation)). unwrap_or o []) c.in-Some.ensures.value in
    there ∙ keeps.live x here ∙ on_here objects L c.args.site x at

pub returns-in-None : goal.returns-in-None
returns-in-None c = λ L keeps.
    let objects = c.args.objects.now in
    let x = c.args.object in
    let at : site_of objects x ≡ c.args.site = sym c.site_of.ensures ∙ c.if-site_of-site.false in
    let here : 1 ≤ site_of objects x = omega (arith, at, c.requires) in
    let there : [] ≡ operations_in c.args.self.now.live x =
    ap (λ (o : Option (List Operation)). unwrap_or o []) c.in-None.ensures.value in
    keeps.none ∙ there ∙ keeps.live x here ∙ on_here objects L c.args.site x at
