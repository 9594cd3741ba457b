-- What entries of version 2 say.
use Rattle.std.proofs.Common.{◌≡◌, ℕ, eqb-true, true, List, [], ◌∷◌, length, Result, Ok, Err, refl, sym, ap, ◌∙◌, subst, arith, append-nil}
use Rattle.cam_bytes.specs.Reading.{◌>>=◌}
use Rattle.cam_recman.specs.declared.Record.{Record}
use Rattle.cam_recman.specs.declared.Record.TheVariants.{Count, Abort, Commit, Seen, Secure, Version}
use Rattle.cam_recman.specs.declared.Recovered.{Recovered}
use Rattle.cam_recman.specs.declared.recovering.SoFar.{SoFar}
use Rattle.cam_recman.specs.declared.RecFault.{RecFault}
use Rattle.cam_recman.specs.Records.{entry_bytes}
use Rattle.cam_recman.specs.Versions.{version_behind, AreOf}
use Rattle.cam_recman.specs.Reading.{read_entry}
use Rattle.cam_recman.specs.Recovery.{with_records, with_entry, at_first, said_by, recovered_of}
use Rattle.cam_recman.specs.Migrating.{with_version, outcome_of, migrated}
use Rattle.cam_recman.specs.Snapshot.{snapshot}
use Rattle.cam_recman.specs.Says.{is_version2, are_version2, FirstSays, EntrySays, SnapshotSays, MigratedSays, Version2IsLeft, Version2IsRecovered, Version2Says, SaidIsRecovered}
use Rattle.cam_recman.proofs.Again.{entries_are_read}
use Rattle.cam_recman.proofs.Folding.{said_by_records, one_more_entry_adds}
use Rattle.cam_recman.proofs.KeptAll.{snapshot_is, snapshot_of}
use Rattle.cam_recman.proofs.Upgrading.{migrated_is_version_2}

-- behind records of version 2 it is version 2
stays_2 : (added : List Record) → AreOf 2 added → version_behind 2 added ≡ 2
stays_2 [] are = refl
stays_2 (Count c ∷ rest) are = stays_2 rest are.1
stays_2 (Abort a ∷ rest) are = stays_2 rest are.1
stays_2 (Commit a d ∷ rest) are = stays_2 rest are.1
stays_2 (Seen m c ∷ rest) are = stays_2 rest are.1
stays_2 (Secure held ∷ rest) are = stays_2 rest are.1
stays_2 (Version ∷ rest) are = absurd (omega (arith, are.0))

pub first_says : FirstSays
first_says = said_by_records ((Version ∷ []) ∷ []) ((tt, tt), tt) (refl, tt)

pub entry_says : EntrySays
entry_says entries r added are of says =
    let behind : SoFar = record { version = 2; recovered = r } in
    one_more_entry_adds entries (entry_bytes added)
    ∙ ap (λ (one : Result SoFar RecFault). one >>= (λ (s : SoFar). read_entry s.version (length entries) (entry_bytes added) >>= (λ (rs : List Record). Ok (with_entry s rs)))) says
    ∙ ap (λ (one : Result (List Record) RecFault). one >>= (λ (rs : List Record). Ok (with_entry behind rs))) (entries_are_read 2 (length entries) added are of)
    ∙ ap (λ (v : ℕ). Ok (record { version = v; recovered = with_records r added })) (stays_2 added of)

pub snapshot_says : SnapshotSays
snapshot_says r can =
    let of : AreOf 1 (snapshot r) = snapshot_of r in
    said_by_records (snapshot r ∷ []) (can.range, tt) (subst (AreOf 1) (sym (append-nil (snapshot r))) of)
    ∙ ap (λ (rs : List Record). Ok (with_entry at_first rs)) (append-nil (snapshot r))
    ∙ (λ i. Ok (record { version = stays_2 _ of.1 i; recovered = snapshot_is r can i }))

-- what is recovered was said, at some version
was_recovered : (said : Result SoFar RecFault) (r : Recovered) → recovered_of said ≡ Ok r → (s : SoFar) × (said ≡ Ok s) × (s.recovered ≡ r)
was_recovered (Ok s) r is = (s, refl, cc)
was_recovered (Err fault) r is = absurd (cc)

pub migrated_says : MigratedSays
migrated_says old new which r migrates is =
    let said = was_recovered (said_by new) r is in
    let left : migrated old ≡ Ok new =
    ap (λ (one : Result SoFar RecFault). one >>= (λ (s : SoFar). Ok (with_version s.version old))) migrates.is ∙ ap (λ (es : List (List ℕ)). Ok es) (sym migrates.left) in
    let two : said.0.version ≡ 2 = migrated_is_version_2 old new said.0 left said.1 in
    said.1 ∙ (λ i. Ok (record { version = two i; recovered = said.2 i }))

pub version2_is_left : Version2IsLeft
version2_is_left old new which two migrates =
    let version : migrates.said.version ≡ 2 = eqb-true migrates.said.version 2 (sym (ap is_version2 migrates.is) ∙ two) in
    migrates.was ∙ ap outcome_of version

no_fault : (said : Result SoFar RecFault) (fault : RecFault) → is_version2 said ≡ true → recovered_of said ≡ Err fault → ⊥
no_fault (Ok s) fault two is = cc
no_fault (Err other) fault two is = cc

pub version2_is_recovered : Version2IsRecovered
version2_is_recovered entries fault two is = no_fault (said_by entries) fault two is

said_as : (said : Result SoFar RecFault) (r : Recovered) → is_version2 said ≡ true → recovered_of said ≡ Ok r → said ≡ Ok (record { version = 2; recovered = r })
said_as (Ok s) r two is =
    let same : s.recovered ≡ r = cc in
    let version : s.version ≡ 2 = eqb-true s.version 2 two in
    (λ i. Ok (record { version = version i; recovered = same i }))
said_as (Err fault) r two is = absurd (cc)

pub version2_says : Version2Says
version2_says entries r two is = said_as (said_by entries) r two is

pub said_is_recovered : SaidIsRecovered
said_is_recovered entries r says = (ap recovered_of says, ap is_version2 says)

-- entries behind which the format has version 1 are not of version 2
pub not_first : (entries : List (List ℕ)) (s : SoFar) → said_by entries ≡ Ok s → s.version ≡ 1 → are_version2 entries ≡ true → ⊥
not_first entries s said one two =
    let version : s.version ≡ 2 = eqb-true s.version 2 (sym (ap is_version2 said) ∙ two) in
    omega (arith, one, version)
