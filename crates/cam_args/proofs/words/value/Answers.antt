-- What clap's getter gives, by the rows.
use Rattle.std.proofs.Common.{rules, ◌≡◌, ◌∙◌, ap, sym, [], Some, None, option_map, unwrap_or}
use Rattle.clap.specs.Words.{found_of}
use Rattle.clap.proofs.WalkLemmas.{first_value-rows}
use Rattle.cam_args.proofs.words.value.Goals as goal

pub returns-in-Some : goal.returns-in-Some
returns-in-Some c =
    let is : option_map (λ s. s.now) c.get_str.result ≡ Some c.in-Some.value.now = search rules in
    ap (λ o. unwrap_or o []) (sym is ∙ c.get_str.ensures
    ∙ first_value-rows (found_of c.args.values.now) c.args.id.now)

pub returns-in-None : goal.returns-in-None
returns-in-None c =
    let is : option_map (λ s. s.now) c.get_str.result ≡ None = search rules in
    ap (λ o. unwrap_or o []) (sym is ∙ c.get_str.ensures
    ∙ first_value-rows (found_of c.args.values.now) c.args.id.now)
