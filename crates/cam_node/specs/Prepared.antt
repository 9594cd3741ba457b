-- What a site does by its answer to a prepare.
use Rattle.std.specs.Prelude.{◌≡◌, ◌≤◌, ℕ, true, false, if◌then◌else◌, length, List, Option, Some, IfSome}
use Rattle.cam_names.specs.declared.name.Name.{Name}
use Rattle.cam_names.specs.Names.{is_top}
use Rattle.cam_type.specs.declared.ObjectDecl.{ObjectDecl}
use Rattle.cam_type.specs.declared.Held.{Held}
use Rattle.cam_bytes.specs.Ranges.{IsNumber}
use Rattle.cam_know.specs.Knowledge.{Knowledge}
use Rattle.cam_event.specs.declared.Deed.TheVariants.{Secure}
use Rattle.cam_event.specs.declared.Note.TheVariants as notes
use Rattle.cam_event.specs.Rules.{answers, did, nothing_but, one, vote}
use Rattle.cam_recman.specs.declared.Record.{Record}
use Rattle.cam_recman.specs.declared.Record.TheVariants as records
use Rattle.cam_recman.specs.Versions.{IsOf}
use Rattle.cam_recman.specs.Writable.{IsWritable}
use Rattle.cam_commit.specs.declared.Asked.{Asked}
use Rattle.cam_commit.specs.declared.Asked.TheVariants as asked
use Rattle.cam_commit.specs.Calls.{asked_of}
use Rattle.cam_commit.specs.Families.{Families}
use Rattle.cam_node.specs.declared.did.Doing.{Doing}
use Rattle.cam_node.specs.declared.plan.Change.TheVariants as changes
use Rattle.cam_node.specs.Standing.{just}

-- What its families answer. A family that is no top action is asked for by no letter: that is late.
abbrev pub asked_for : Knowledge → Families → Name → ℕ → ℕ → Asked
asked_for k families f n present =
    if is_top f then asked_of k families f n present else asked.Late

-- It secures the family, with what is held of it, and votes yes.
abbrev pub secures : ℕ → Held → Doing
secures s held =
    record {
      did = did (one (Secure held.family s held.count)) (vote held.family held.count true);
      change = changes.Secured held.family;
      adds = Some (records.Secure held);
    }

abbrev pub asked_does : ℕ → Held → Asked → Doing
asked_does s held asked.Late = just (nothing_but notes.Late)
asked_does s held asked.AlreadyYes = just (answers notes.Again (vote held.family held.count true))
asked_does s held asked.Refuse = just (answers notes.Missed (vote held.family held.count false))
asked_does s held asked.Secure = secures s held

-- The record of a Secure may be written where the format has version 2, if the family is a top action, the count a number, and the node's
-- objects are at most 64.
abbrev pub MayBeWritten : Name → ℕ → List ObjectDecl → Option Record → Type 0
MayBeWritten f n objects adds =
    length f ≡ 1 → IsNumber n → length objects ≤ 64 → IfSome adds
    (λ one. IsWritable one × IsOf 2 one)
