-- The kind of what was written on an object.
use Rattle.std.specs.Prelude.{◌≡◌, List}
use Rattle.cam_type.specs.declared.Kind.{Kind}
use Rattle.cam_type.specs.Table.{kind_of}
use Rattle.cam_locks.specs.declared.versions.Version.{Version}
use Rattle.cam_locks.specs.Members.{In}

-- the states after writes are of the kind
abbrev pub AreOfKind : Kind → List Version → Type 0
AreOfKind k versions = (v : Version) → In v versions → kind_of v.state ≡ k

-- they stay of their kind from one list of versions to the other
abbrev pub KindsStay : List Version → List Version → Type 0
KindsStay old new = (k : Kind) → AreOfKind k old → AreOfKind k new
