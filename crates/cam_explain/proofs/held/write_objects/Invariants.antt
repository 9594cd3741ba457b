use Rattle.std.proofs.Common.{◌≡◌, ◌++◌, codes, take, string_bytes}
use Rattle.std.specs.List.{flat_map}
use Rattle.cam_scope.specs.Words.{object_word}
use Rattle.cam_explain.proofs.held.write_objects.Given as goal

abbrev pub invariant-loop-object : goal.invariant-loop-object
invariant-loop-object l =
    string_bytes l.out ≡ string_bytes l.fn.out ++ flat_map (λ x. codes " " ++ object_word l.labels x) (take l.object-index l.objects)
