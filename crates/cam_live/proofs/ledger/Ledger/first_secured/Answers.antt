use Rattle.std.proofs.Common.{◌≡◌, rules, ◌∙◌}
use Rattle.std.specs.BTreeMap.{get}
use Rattle.cam_live.specs.Tables.{site_name_cmp}
use Rattle.cam_live.proofs.ledger.Ledger.first_secured.Goals as goal

pub returns : goal.returns
returns c = λ objects L keeps.
    let found : c.copied.result ≡ get site_name_cmp c.args.self.now.tables.secured (c.args.site, c.args.family.now) = search rules in
    found ∙ keeps.tells.secured c.args.site c.args.family.now
