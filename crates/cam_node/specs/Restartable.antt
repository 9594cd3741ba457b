-- What a restart takes of what its log says, beside the operations' objects. A disk that does not tell what it holds may give bytes that the
-- node never wrote.
use Rattle.std.specs.Prelude.{◌≡◌, ℕ, nat_le, Bool, false, List, [], ◌∷◌}
use Rattle.std.specs.List.{list_any, list_all}
use Rattle.cam_names.specs.declared.name.Name.{Name}
use Rattle.cam_names.specs.Names.{name_eq}
use Rattle.cam_type.specs.declared.Held.{Held}
use Rattle.cam_type.specs.declared.HeldOp.{HeldOp}
use Rattle.cam_know.specs.Known.{with_count}
use Rattle.cam_commit.specs.Events.{families_of}
use Rattle.cam_recman.specs.declared.Recovered.{Recovered}
use Rattle.cam_node.specs.Lawful.{is_known_outcome}

-- No index is above 499,999,999: as many numbers again are left for the calls that come.
abbrev pub is_low : HeldOp → Bool
is_low op = nat_le op.index 499999999

abbrev pub are_low : List Held → Bool
are_low held = list_all (λ (h : Held). list_all is_low h.ops) held

-- No name stands twice, and so no family is held twice.
abbrev pub EachOnce : List Name → Type 0
EachOnce [] = Unit {0}
EachOnce (f ∷ fs) = (list_any (name_eq f) fs ≡ false) × EachOnce fs

abbrev pub AreOnce : List Held → Type 0
AreOnce held = EachOnce (families_of held)

-- No commit depends on a count above the known one of its node. Of its own count the node knows the one that its log says.
abbrev pub depend_on_known : ℕ → Recovered → Bool
depend_on_known s r = list_all (is_known_outcome (with_count s r.count r.know)) r.know.outcomes
