use Rattle.std.proofs.Common.{◌≡◌, ◌∙◌, sym, List, ℕ, None, subst}
use Rattle.std.specs.Prelude.{bytes_eq}
use Rattle.cam_script.specs.NameTable.{place_in, or_at}
use Rattle.cam_script.proofs.Tables.{is_none, place_put}
use Rattle.cam_script.proofs.name_table.put.Goals as goal

pub returns-clause-ok : goal.returns-clause-ok
returns-clause-ok c =
    let before = c.args.places.now in
    let after = c.insert.new.self in
    let updates = c.in_ok-insert.ensures.updates in
    subst (λ (name : List ℕ). place_in before name ≡ None → (q : List ℕ) → place_in after q ≡ or_at c.args.place (bytes_eq name q) (place_in before q)) c.in_ok-key.ensures.items
    (λ none. place_put before after c.in_ok-key.key.items c.args.place none updates.1 updates.3)
    (is_none (place_in before c.args.name.now) (sym c.contains_key.ensures ∙ c.if-contains_key.false))
