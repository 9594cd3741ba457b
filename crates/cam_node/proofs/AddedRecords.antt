-- One more record behind others that stand where the format has version 2.
use Rattle.std.proofs.Common.{◌≡◌, List, [], ◌∷◌, ◌++◌, sym, subst}
use Rattle.cam_recman.specs.declared.Record.{Record}
use Rattle.cam_recman.specs.declared.Record.TheVariants as records
use Rattle.cam_recman.specs.Versions.{AreOf, IsOf}
use Rattle.cam_recman.specs.Writable.{IsWritable}

of_more : (rs : List Record) (one : Record) → AreOf 2 rs → IsOf 2 one → AreOf 2 (rs ++ one ∷ [])
of_more [] one of more = (more, tt)
of_more (records.Count c ∷ rs) one of more = (of.0, of_more rs one of.1 more)
of_more (records.Abort a ∷ rs) one of more = (of.0, of_more rs one of.1 more)
of_more (records.Commit a d ∷ rs) one of more = (of.0, of_more rs one of.1 more)
of_more (records.Seen s c ∷ rs) one of more = (of.0, of_more rs one of.1 more)
of_more (records.Secure held ∷ rs) one of more = (of.0, of_more rs one of.1 more)
of_more (records.Version ∷ rs) one of more = (of.0, of_more rs one of.1 more)

pub added_version : (rs now : List Record) (one : Record) → now ≡ rs ++ one ∷ [] → AreOf 2 rs →
    IsWritable one × IsOf 2 one → AreOf 2 now
added_version rs now one is of may = subst (λ (es : List Record). AreOf 2 es) (sym is) (of_more rs
    one of may.1)
