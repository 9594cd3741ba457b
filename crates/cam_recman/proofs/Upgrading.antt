-- A Version at the end says nothing that is recovered, and stands there once.
use Rattle.std.proofs.Common.{◌≡◌, ◌⊎◌, inl, inr, ℕ, ◌+◌, Bool, cond, List, [], ◌∷◌, ◌++◌, length, map, Result, Ok, Err, refl, sym, ap, subst, ◌∙◌, arith}
use Rattle.std.specs.List.{AllByRecursion}
use Rattle.std.proofs.lemmas.Bool.Decides.{eqb_tells}
use Rattle.cam_log.specs.Moments.{Opened, IsBeforeOrAfter}
use Rattle.cam_log.specs.Laws.{AreEntries}
use Rattle.cam_log.specs.Again.{logs_are_read}
use Rattle.cam_bytes.specs.Reading.{◌>>=◌}
use Rattle.cam_recman.specs.declared.Record.{Record}
use Rattle.cam_recman.specs.declared.Record.TheVariants.{Count, Abort, Commit, Seen, Secure, Version}
use Rattle.cam_recman.specs.declared.Recovered.{Recovered}
use Rattle.cam_recman.specs.declared.recovering.SoFar.{SoFar}
use Rattle.cam_recman.specs.declared.RecFault.{RecFault}
use Rattle.cam_recman.specs.Records.{entry_bytes}
use Rattle.cam_recman.specs.Ranges.{AreRecords}
use Rattle.cam_recman.specs.Versions.{version_behind, AreOf}
use Rattle.cam_recman.specs.Reading.{read_entry}
use Rattle.cam_recman.specs.Recovery.{at_first, with_entry, all_records, recover_from, said_by, recovered_of, recover}
use Rattle.cam_recman.specs.Migrating.{version_entry, with_version, migrated, RecoversTheSame, IsUpgraded, ReadsAndRecovers}
use Rattle.cam_recman.proofs.Again.{entries_are_read}
use Rattle.cam_recman.proofs.Folding.{said_by_records, one_more_entry_adds}

-- what is said with a Version behind it
pub said_more : (entries : List (List ℕ)) (s : SoFar) → said_by entries ≡ Ok s → s.version ≡ 1 → said_by (entries ++ version_entry ∷ []) ≡ Ok (record { version = 2; recovered = s.recovered })
said_more entries s said first =
    one_more_entry_adds entries version_entry
    ∙ ap (λ (r : Result SoFar RecFault). r >>= (λ t. read_entry t.version (length entries) version_entry >>= (λ records. Ok (with_entry t records)))) said
    ∙ ap (λ (r : Result (List Record) RecFault). r >>= (λ records. Ok (with_entry s records))) (entries_are_read s.version (length entries) (Version ∷ []) (tt, tt) (first, tt))

abbrev found : {A : Type 0} → A → Result A RecFault
found x = Ok x

abbrev refused : {A : Type 0} → RecFault → Result A RecFault
refused fault = Err fault

found_is : {A : Type 0} (x y : A) → found x ≡ found y → x ≡ y
found_is x y e = cc

-- what migration says, by what was said
by_version : (entries : List (List ℕ)) (s : SoFar) → said_by entries ≡ Ok s → migrated entries ≡ Ok (with_version s.version entries)
by_version entries s said = ap (λ (r : Result SoFar RecFault). r >>= (λ t. Ok (with_version t.version entries))) said

-- where something is left, something was said
pub was_said : (entries left : List (List ℕ)) → migrated entries ≡ Ok left → (s : SoFar) × (said_by entries ≡ Ok s) × (with_version s.version entries ≡ left)
was_said entries left e = by (said_by entries) refl e
  where
    by : (said : Result SoFar RecFault) → said_by entries ≡ said → (said >>= (λ t. Ok (with_version t.version entries))) ≡ Ok left → (s : SoFar) × (said_by entries ≡ Ok s) × (with_version s.version entries ≡ left)
    by (Ok s) is e1 = (s, is, found_is (with_version s.version entries) left e1)
    by (Err fault) is e1 = absurd (let f : refused {A = List (List ℕ)} fault ≡ found left = e1 in cc)

-- what is said of what is left
record Left (s : SoFar) (left : List (List ℕ)) : Type 0 where
  said : SoFar
  is : said_by left ≡ Ok said
  same : said.recovered ≡ s.recovered
  second : said.version ≡ 1 → ⊥

is_left : (entries : List (List ℕ)) (s : SoFar) → said_by entries ≡ Ok s → Left s (with_version s.version entries)
is_left entries s said =
    elim (eqb_tells s.version 1) [
      | inl y ↦ subst (λ (b : Bool). Left s (cond b (entries ++ version_entry ∷ []) entries)) (sym y.0) (record { said = record { version = 2; recovered = s.recovered }; is = said_more entries s said y.1; same = refl; second = λ (e : 2 ≡ 1). absurd (omega (arith, e)) })
      | inr n ↦ subst (λ (b : Bool). Left s (cond b (entries ++ version_entry ∷ []) entries)) (sym n.0) (record { said = s; is = said; same = refl; second = n.1 })
    ]

pub migration_keeps_recovery : (entries left : List (List ℕ)) → migrated entries ≡ Ok left → recover left ≡ recover entries
migration_keeps_recovery entries left e =
    let (s, said, is) = was_said entries left e in
    let l = is_left entries s said in
    ap recover (sym is) ∙ ap recovered_of l.is ∙ ap (λ (r : Recovered). found r) l.same ∙ sym (ap recovered_of said)

pub migration_has_the_fault : (entries : List (List ℕ)) (fault : RecFault) → recover entries ≡ Err fault → migrated entries ≡ Err fault
migration_has_the_fault entries fault e = by (said_by entries) e
  where
    by : (said : Result SoFar RecFault) → recovered_of said ≡ Err fault → (said >>= (λ t. Ok (with_version t.version entries))) ≡ Err fault
    by (Ok s) e1 = absurd (let f : found s.recovered ≡ refused fault = e1 in cc)
    by (Err other) e1 = let same : other ≡ fault = (let f : refused {A = Recovered} other ≡ refused fault = e1 in cc) in ap (λ (x : RecFault). refused x) same

-- what is of version 2 is left as it is
stays : (v : ℕ) (entries : List (List ℕ)) → (v ≡ 1 → ⊥) → with_version v entries ≡ entries
stays v entries second =
    elim (eqb_tells v 1) [
      | inl y ↦ absurd (second y.1)
      | inr n ↦ ap (λ (b : Bool). cond b (entries ++ version_entry ∷ []) entries) n.0
    ]

pub migration_is_once : (entries left : List (List ℕ)) → migrated entries ≡ Ok left → migrated left ≡ Ok left
migration_is_once entries left e =
    let (s, said, is) = was_said entries left e in
    let l = is_left entries s said in
    subst (λ (es : List (List ℕ)). migrated es ≡ Ok es) is
    (by_version (with_version s.version entries) l.said l.is ∙ ap (λ (es : List (List ℕ)). found es) (stays l.said.version (with_version s.version entries) l.second))

abbrev IsVersion : ℕ → Type 0
IsVersion v = (v ≡ 1) ⊎ (v ≡ 2)

version_of : (v : ℕ) (records : List Record) → IsVersion v → IsVersion (version_behind v records)
version_of v [] is = is
version_of v (Count c ∷ records) is = version_of v records is
version_of v (Abort a ∷ records) is = version_of v records is
version_of v (Commit a d ∷ records) is = version_of v records is
version_of v (Seen s c ∷ records) is = version_of v records is
version_of v (Secure held ∷ records) is = version_of v records is
version_of v (Version ∷ records) is = version_of 2 records (inr refl)

versions_from : (entries : List (List ℕ)) (number : ℕ) (s t : SoFar) → IsVersion s.version → recover_from number s entries ≡ Ok t → IsVersion t.version
unfolding recover_from
versions_from [] number s t is e = subst (λ (u : SoFar). IsVersion u.version) (found_is s t e) is
versions_from (one ∷ entries) number s t is e = read (read_entry s.version number one) e (λ records e1. versions_from entries (number + 1) (with_entry s records) t (version_of s.version records is) e1)
  where
    read : (first : Result (List Record) RecFault) → (first >>= (λ records. recover_from (number + 1) (with_entry s records) entries)) ≡ Ok t
        → ((records : List Record) → recover_from (number + 1) (with_entry s records) entries ≡ Ok t → IsVersion t.version) → IsVersion t.version
    read (Ok records) e1 later = later records e1
    read (Err fault) e1 later = absurd (let f : refused {A = SoFar} fault ≡ found t = e1 in cc)

pub migrated_is_version_2 : (entries left : List (List ℕ)) (t : SoFar) → migrated entries ≡ Ok left → said_by left ≡ Ok t → t.version ≡ 2
migrated_is_version_2 entries left t e said =
    let (s, was, is) = was_said entries left e in
    let l = is_left entries s was in
    let same : l.said ≡ t = found_is l.said t (sym l.is ∙ ap said_by is ∙ said) in
    elim (versions_from left 0 at_first t (inl refl) said) [
      | inl one ↦ absurd (l.second (ap (λ (u : SoFar). u.version) same ∙ one))
      | inr two ↦ two
    ]

pub written_is_migrated : (all : List (List Record)) → AllByRecursion AreRecords all → AreOf 1 (all_records all)
    → migrated (map entry_bytes all) ≡ Ok (with_version (version_behind 1 (all_records all)) (map entry_bytes all))
written_is_migrated all are of = by_version (map entry_bytes all) (with_entry at_first (all_records all)) (said_by_records all are of)

pub stopped_migration_recovers : (entries : List (List ℕ)) (s : SoFar) (opened : Opened) → said_by entries ≡ Ok s → s.version ≡ 1
    → IsBeforeOrAfter entries version_entry opened → RecoversTheSame entries opened
stopped_migration_recovers entries s opened said first (inl before) = record { found = entries; opens = before; recovers = refl }
stopped_migration_recovers entries s opened said first (inr after) =
    record { found = entries ++ version_entry ∷ []; opens = after; recovers = ap recovered_of (said_more entries s said first) ∙ sym (ap recovered_of said) }

-- what is left of entries are entries
one_more : (entries : List (List ℕ)) → AreEntries entries → AreEntries (entries ++ version_entry ∷ [])
one_more [] are = (omega (arith), tt)
one_more (entry ∷ entries) are = (are.0, one_more entries are.1)

left_are_entries : (version : ℕ) (entries : List (List ℕ)) → AreEntries entries → AreEntries (with_version version entries)
left_are_entries version entries are =
    elim (eqb_tells version 1) [
      | inl y ↦ subst (λ (b : Bool). AreEntries (cond b (entries ++ version_entry ∷ []) entries)) (sym y.0) (one_more entries are)
      | inr n ↦ subst (λ (b : Bool). AreEntries (cond b (entries ++ version_entry ∷ []) entries)) (sym n.0) are
    ]

pub upgrade_keeps_recovery : (input output : List ℕ) (up : IsUpgraded input output) → AreEntries up.entries → ReadsAndRecovers up.entries up.left output
upgrade_keeps_recovery input output up are =
    let (s, said, is) = was_said up.entries up.left up.migrates in
    record {
      reads =
          logs_are_read up.left output (subst AreEntries is (left_are_entries s.version up.entries are))
          (record { gate = up.gate; is_closed = up.is_closed; rest = []; is = up.is });
      recovers = migration_keeps_recovery up.entries up.left up.migrates;
    }
