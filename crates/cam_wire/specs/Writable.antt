-- The numbers of a letter that its types do not keep in their ranges.
use Rattle.std.specs.Prelude.{◌≡◌, length}
use Rattle.cam_event.specs.declared.Letter.{Letter}
use Rattle.cam_event.specs.declared.Body.{Body}
use Rattle.cam_event.specs.declared.Body.TheVariants as bodies
use Rattle.cam_bytes.specs.Ranges.{IsFrom, IsNumber, IsObject}

-- A call's number, object and count, the number of an answer, the count of a Prepare or a Vote; a family has one part.
abbrev pub IsWritableBody : Body → Type 0
IsWritableBody (bodies.Start b d) = Unit {0}
IsWritableBody (bodies.Call a n x o c d) = IsNumber n × IsObject x × IsNumber c
IsWritableBody (bodies.Answer a n r) = IsNumber n
IsWritableBody (bodies.Finish a v d) = Unit {0}
IsWritableBody (bodies.Quit a) = Unit {0}
IsWritableBody (bodies.Prepare f c) = (length f ≡ 1) × IsNumber c
IsWritableBody (bodies.Vote f c agrees) = (length f ≡ 1) × IsNumber c
IsWritableBody (bodies.Query f) = length f ≡ 1
IsWritableBody bodies.News = Unit {0}

-- names, dependencies, counts and values are in their ranges by their types
pub record IsWritable (letter : Letter) : Type 0 where
  pub from : IsFrom 1 8 letter.from
  pub count : IsNumber letter.count
  pub to : IsFrom 1 8 letter.to
  pub body : IsWritableBody letter.body
