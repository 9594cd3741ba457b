use Rattle.std.proofs.Common.{◌≡◌, ℤ, ◌++◌, codes, string_bytes, sym, ap, ◌∙◌, subst, rules, w64}
use mir.Val.{to_z, of_z}
use Rattle.std.specs.Fmt.{signed_decimal}
use Rattle.cam_explain.specs.declared.moments.What.{What}
use Rattle.cam_explain.specs.Moments.{told_in}
use Rattle.cam_explain.specs.Stories.{what_text}
use Rattle.cam_explain.proofs.stories.write_what.Goals as goal

pub returns-in_ok-say_value-in-CommitAsked : goal.returns-in_ok-say_value-in-CommitAsked
returns-in_ok-say_value-in-CommitAsked c =
    let whole : to_z w64 (of_z w64 c.in-CommitAsked.value) ≡ c.in-CommitAsked.value = search rules in
    subst (λ (w : What). string_bytes c.say_value.new.out
    ≡ string_bytes c.args.out.now ++ what_text c.args.script.now c.args.scope.now (told_in c.args.course.now) w)
    (sym c.in-CommitAsked.is)
    (c.in_ok-say_value-in-CommitAsked.ensures
    ∙ ap (λ (z : ℤ). string_bytes c.args.out.now ++ (codes "asks to commit with " ++ signed_decimal z)) whole)
