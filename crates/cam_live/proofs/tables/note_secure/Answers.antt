use Rattle.std.proofs.Common.{◌≡◌, true, false, is_some, sym, ◌∙◌}
use Rattle.std.specs.BTreeMap.{get}
use Rattle.cam_live.specs.Tables.{site_name_cmp}
use Rattle.cam_live.proofs.Noting.{secured_put, secured_same}
use Rattle.cam_live.proofs.tables.note_secure.Goals as goal

pub returns-in_ok-insert-clause-noted : goal.returns-in_ok-insert-clause-noted
returns-in_ok-insert-clause-noted c = λ L count counts before.
    let none : is_some (get site_name_cmp c.args.secured.now (c.args.site, c.args.family.now)) ≡ false = sym c.contains_key.ensures ∙ c.if-not-contains_key.true in
    secured_put L c.args.site c.args.family.now count c.count_of.result c.args.secured.now c.insert.new.self before none (c.count_of.ensures ∙ counts c.args.site) c.in_ok-insert.ensures.updates.0

pub returns-else-not-contains_key-clause-noted : goal.returns-else-not-contains_key-clause-noted
returns-else-not-contains_key-clause-noted c = λ L count counts before.
    let there : is_some (get site_name_cmp c.args.secured.now (c.args.site, c.args.family.now)) ≡ true = sym c.contains_key.ensures ∙ c.if-not-contains_key.false in
    secured_same L c.args.site c.args.family.now count c.args.secured.now before there
