-- A fault is that of the first entry that is no list of records.
use Rattle.std.proofs.Common.{◌≡◌, ℕ, ◌+◌, ◌<◌, List, [], ◌∷◌, ◌++◌, length, map, take, drop, get_or, Result, Ok, Err, refl, sym, ap, ◌∙◌, arith, subst, take-append-drop, append-nil}
use Rattle.std.proofs.lemmas.List.{drop_more, length-map, length-take}
use Rattle.std.proofs.lemmas.List.Concat.{flat_map-append}
use Rattle.std.specs.List.{AllByRecursion}
use Rattle.cam_bytes.specs.Ranges.{IsBytes}
use Rattle.cam_bytes.specs.Reading.{◌>>=◌}
use Rattle.cam_bytes.specs.declared.WireFault.{WireFault}
use Rattle.cam_bytes.specs.declared.WireFault.TheVariants.{Short, BadTag, BadNumber, Order, Rest, NoMemory as OutOfMemory}
use Rattle.cam_recman.specs.declared.Record.{Record}
use Rattle.cam_recman.specs.declared.Recovered.{Recovered}
use Rattle.cam_recman.specs.declared.recovering.SoFar.{SoFar}
use Rattle.cam_recman.specs.declared.RecFault.{RecFault}
use Rattle.cam_recman.specs.declared.RecFault.TheVariants.{BadRecord, NoMemory}
use Rattle.cam_recman.specs.Records.{entry_bytes}
use Rattle.cam_recman.specs.Ranges.{AreRecords, IsEntry}
use Rattle.cam_recman.specs.Versions.{version_behind, AreOf}
use Rattle.cam_recman.specs.Reading.{records_from, fault_in, in_entry, read_entry}
use Rattle.cam_recman.specs.Recovery.{fresh, with_records, at_first, with_entry, all_records, recover_from, said_by, recovered_of, recover}
use Rattle.cam_recman.specs.Refuses.{Refuses}
use Rattle.cam_recman.specs.Faults.{IsFirstBad, Tells, IsRecovered, IsSaid, AreSaid}
use Rattle.cam_recman.proofs.Again.{entries_are_read}
use Rattle.cam_recman.proofs.Exactly.{read_is_written}
use Rattle.cam_recman.proofs.Folding.{entry_more, recovery_is_of_the_records}
use Rattle.cam_recman.proofs.Versioning.{behind_more, are_of_both, are_of_first, are_of_rest}

abbrev refused : {A : Type 0} → RecFault → Result A RecFault
refused fault = Err fault

abbrev found : {A : Type 0} → A → Result A RecFault
found x = Ok x

-- an entry's fault names the entry
number_is : (number entry at place : ℕ) → BadRecord number place ≡ BadRecord entry at → entry ≡ number
number_is number entry at place e = cc

names_it : (number : ℕ) (w : WireFault) (entry at : ℕ) → fault_in number w ≡ BadRecord entry at → entry ≡ number
names_it number (Short place) entry at e = number_is number entry at place e
names_it number (BadTag place) entry at e = number_is number entry at place e
names_it number (BadNumber place) entry at e = number_is number entry at place e
names_it number (Order place) entry at e = number_is number entry at place e
names_it number (Rest place) entry at e = number_is number entry at place e
names_it number OutOfMemory entry at e = absurd cc

bad_is : (number : ℕ) (one : Result (List Record) WireFault) (fault : RecFault) (entry at : ℕ) → in_entry number one ≡ Err fault → fault ≡ BadRecord entry at → entry ≡ number
bad_is number (Ok records) fault entry at e is = absurd (let f : found records ≡ refused fault = e in cc)
bad_is number (Err w) fault entry at e is =
    let same : fault_in number w ≡ fault = (let f : refused {A = List Record} (fault_in number w) ≡ refused fault = e in cc) in
    names_it number w entry at (same ∙ is)

-- bytes that are read with a fault are no list of records of the version
pub no_records : (version number : ℕ) (bytes : List ℕ) (fault : RecFault) → read_entry version number bytes ≡ Err fault → IsEntry version bytes → ⊥
no_records version number bytes fault e is =
    let again : read_entry version number bytes ≡ Ok is.records = ap (read_entry version number) is.is ∙ entries_are_read version number is.records is.range is.versions in
    let f : found is.records ≡ refused fault = sym again ∙ e in cc

-- the fault of entries from a number on, behind what is said before
record IsFirstFrom (number : ℕ) (s : SoFar) (entries : List (List ℕ)) (entry at : ℕ) : Type 0 where
  before : List (List Record)
  bad : List ℕ
  behind : List (List ℕ)
  split : entries ≡ map entry_bytes before ++ bad ∷ behind
  place : entry ≡ number + length before
  range : AllByRecursion AreRecords before
  versions : AreOf s.version (all_records before)
  fault : read_entry (version_behind s.version (all_records before)) entry bad ≡ Err (BadRecord entry at)

first_from : (entries : List (List ℕ)) (number : ℕ) (s : SoFar) (entry at : ℕ) → AllByRecursion IsBytes entries → recover_from number s entries ≡ Err (BadRecord entry at) → IsFirstFrom number s entries entry at
unfolding recover_from
first_from [] number s entry at are e = absurd (let f : found s ≡ refused (BadRecord entry at) = e in cc)
first_from (one ∷ entries) number s entry at are e = read (read_entry s.version number one) refl e (λ records e1. first_from entries (number + 1) (with_entry s records) entry at are.1 e1)
  where
    read : (first : Result (List Record) RecFault) → read_entry s.version number one ≡ first → (first >>= (λ records. recover_from (number + 1) (with_entry s records) entries)) ≡ Err (BadRecord entry at) → ((records : List Record) → recover_from (number + 1) (with_entry s records) entries ≡ Err (BadRecord entry at) → IsFirstFrom (number + 1) (with_entry s records) entries entry at) → IsFirstFrom number s (one ∷ entries) entry at
    read (Ok records) is e1 later =
        let written = read_is_written s.version number one records are.0 is in
        let rest = later records e1 in
        record {
          before = records ∷ rest.before;
          bad = rest.bad;
          behind = rest.behind;
          split = λ i. sym written.0 i ∷ rest.split i;
          place = omega (arith, rest.place);
          range = (written.1.0, rest.range);
          versions = are_of_both s.version records (all_records rest.before) written.1.1 rest.versions;
          fault = ap (λ (v : ℕ). read_entry v entry rest.bad) (behind_more s.version records (all_records rest.before)) ∙ rest.fault;
        }
    read (Err fault) is e1 later =
        let same : fault ≡ BadRecord entry at = (let f : refused {A = SoFar} fault ≡ refused (BadRecord entry at) = e1 in cc) in
        let this : entry ≡ number = bad_is number (records_from (length one) s.version [] 0 one) fault entry at is same in
        record {
          before = [];
          bad = one;
          behind = entries;
          split = refl;
          place = omega (arith, this);
          range = tt;
          versions = tt;
          fault = ap (λ (n : ℕ). read_entry s.version n one) this ∙ is ∙ ap (λ (x : RecFault). refused x) same;
        }

-- a fault of what is recovered is one of what is said
said_fault : (said : Result SoFar RecFault) (fault : RecFault) → recovered_of said ≡ Err fault → said ≡ Err fault
said_fault (Ok s) fault e = absurd (let f : found s.recovered ≡ refused fault = e in cc)
said_fault (Err other) fault e = let f : refused {A = Recovered} other ≡ refused fault = e in ap (λ (x : RecFault). refused x) (let same : other ≡ fault = cc in same)

pub fault_is_the_first : (entries : List (List ℕ)) (entry at : ℕ) → AllByRecursion IsBytes entries → recover entries ≡ Err (BadRecord entry at) → IsFirstBad entries entry at
fault_is_the_first entries entry at are e =
    let first = first_from entries 0 at_first entry at are (said_fault (said_by entries) (BadRecord entry at) e) in
    record {
      before = first.before;
      bad = first.bad;
      behind = first.behind;
      split = first.split;
      number = omega (arith, first.place);
      range = first.range;
      versions = first.versions;
      no_entry = no_records (version_behind 1 (all_records first.before)) entry first.bad (BadRecord entry at) first.fault;
      fault = first.fault;
    }

fault_from : (before : List (List Record)) (number : ℕ) (s : SoFar) (bad : List ℕ) (behind : List (List ℕ)) (fault : RecFault) → AllByRecursion AreRecords before → AreOf s.version (all_records before) → read_entry (version_behind s.version (all_records before)) (number + length before) bad ≡ Err fault → recover_from number s (map entry_bytes before ++ bad ∷ behind) ≡ Err fault
unfolding recover_from
fault_from [] number s bad behind fault are of e = rw (ap (λ (n : ℕ). read_entry s.version n bad) (sum_zero number) ∙ e) refl
  where
    sum_zero : (n : ℕ) → n ≡ n + 0
    sum_zero n = omega arith
fault_from (records ∷ before) number s bad behind fault are of e =
    let read : read_entry s.version number (entry_bytes records) ≡ Ok records = entries_are_read s.version number records are.0 (are_of_first s.version records (all_records before) of) in
    rw read (fault_from before (number + 1) (with_entry s records) bad behind fault are.1 (are_of_rest s.version records (all_records before) of)
    (ap (λ (v : ℕ). read_entry v (number + 1 + length before) bad) (sym (behind_more s.version records (all_records before)))
    ∙ ap (λ (n : ℕ). read_entry (version_behind s.version (all_records (records ∷ before))) n bad) (next number records before) ∙ e))
  where
    next : (n : ℕ) (e : List Record) (es : List (List Record)) → n + 1 + length es ≡ n + length (e ∷ es)
    next n e es = omega arith

pub first_is_the_fault : (entries : List (List ℕ)) (entry at : ℕ) → IsFirstBad entries entry at → recover entries ≡ Err (BadRecord entry at)
first_is_the_fault entries entry at first =
    let v = version_behind 1 (all_records first.before) in
    ap recover first.split
    ∙ ap recovered_of (fault_from first.before 0 at_first first.bad first.behind (BadRecord entry at) first.range first.versions (ap (λ (n : ℕ). read_entry v n first.bad) (from_none (length first.before)) ∙ ap (λ (n : ℕ). read_entry v n first.bad) (sym first.number) ∙ first.fault))
  where
    from_none : (n : ℕ) → 0 + n ≡ n
    from_none n = omega arith

-- nothing is said before the first entry
pub none_said : AreSaid [] at_first
none_said = record { records = []; range = tt; versions = tt; is = refl; value = refl }

every_more : (all : List (List Record)) (records : List Record) → AllByRecursion AreRecords all → AreRecords records → AllByRecursion AreRecords (all ++ records ∷ [])
every_more [] records are last = (last, tt)
every_more (r ∷ all) records are last = (are.0, every_more all records are.1 last)

bytes_more : (all : List (List Record)) (records : List Record) → map entry_bytes (all ++ records ∷ []) ≡ map entry_bytes all ++ entry_bytes records ∷ []
bytes_more [] records = refl
bytes_more (r ∷ all) records = ap (λ (es : List (List ℕ)). entry_bytes r ∷ es) (bytes_more all records)

records_more : (all : List (List Record)) (records : List Record) → all_records (all ++ records ∷ []) ≡ all_records all ++ records
records_more all records = flat_map-append (λ rs. rs) all (records ∷ []) ∙ ap (λ (rs : List Record). all_records all ++ rs) (append-nil records)

-- one more entry that is said
pub more_said : (entries : List (List ℕ)) (one : List ℕ) (s t : SoFar) → AreSaid entries s → IsSaid s one t → AreSaid (entries ++ one ∷ []) t
more_said entries one s t all last =
    let version : s.version ≡ version_behind 1 (all_records all.records) = ap (λ (x : SoFar). x.version) all.value in
    let is_all = records_more all.records last.records in
    record {
      records = all.records ++ last.records ∷ [];
      range = every_more all.records last.records all.range last.range;
      versions = subst (λ (rs : List Record). AreOf 1 rs) (sym is_all) (are_of_both 1 (all_records all.records) last.records all.versions (subst (λ (v : ℕ). AreOf v last.records) version last.versions));
      is = (λ i. all.is i ++ last.is i ∷ []) ∙ sym (bytes_more all.records last.records);
      value =
          last.value ∙ ap (λ (x : SoFar). with_entry x last.records) all.value ∙ sym (entry_more at_first (all_records all.records) last.records)
          ∙ ap (λ (rs : List Record). with_entry at_first rs) (sym is_all);
    }

pub what_is_recovered : (entries : List (List ℕ)) (s : SoFar) → AreSaid entries s → IsRecovered entries s.recovered
what_is_recovered entries s all = record { records = all.records; range = all.range; versions = all.versions; is = all.is; value = ap (λ (x : SoFar). x.recovered) all.value }

-- entries that were written are recovered, or memory is wanted
pub written_recovered : (entries : List (List ℕ)) (all : List (List Record)) → AllByRecursion AreRecords all → AreOf 1 (all_records all) → entries ≡ map entry_bytes all → recover entries ≡ Ok (with_records fresh (all_records all))
written_recovered entries all are of is = ap recover is ∙ recovery_is_of_the_records all are of

-- the entry at a place is the first that is no list of records, where those before it are
first_is : (n : ℕ) (entries : List (List ℕ)) (one : List ℕ) (s : SoFar) (entry at : ℕ) → n < length entries → one ≡ get_or entries n one → AreSaid (take n entries) s → entry ≡ n → read_entry s.version n one ≡ Err (BadRecord entry at) → IsFirstBad entries entry at
first_is n entries one s entry at within is all same e =
    let cut : entries ≡ take n entries ++ one ∷ drop (n + 1) entries =
    sym (take-append-drop n entries) ∙ ap (λ (es : List (List ℕ)). take n entries ++ es) (drop_more entries n one within) ∙ ap (λ (x : List ℕ). take n entries ++ x ∷ drop (n + 1) entries) (sym is) in
    let version : s.version ≡ version_behind 1 (all_records all.records) = ap (λ (x : SoFar). x.version) all.value in
    let many : length all.records ≡ n = sym (length-map all.records entry_bytes) ∙ ap (λ (es : List (List ℕ)). length es) (sym all.is) ∙ omega (arith, length-take n entries, within) in
    let bad : read_entry (version_behind 1 (all_records all.records)) n one ≡ Err (BadRecord entry at) = ap (λ (v : ℕ). read_entry v n one) (sym version) ∙ e in
    record {
      before = all.records;
      bad = one;
      behind = drop (n + 1) entries;
      split = cut ∙ ap (λ (es : List (List ℕ)). es ++ one ∷ drop (n + 1) entries) all.is;
      number = omega (arith, same, many);
      range = all.range;
      versions = all.versions;
      no_entry = no_records (version_behind 1 (all_records all.records)) n one (BadRecord entry at) bad;
      fault = ap (λ (m : ℕ). read_entry (version_behind 1 (all_records all.records)) m one) same ∙ bad;
    }

pub told_first : (n : ℕ) (entries : List (List ℕ)) (one : List ℕ) (s : SoFar) (fault : RecFault) → n < length entries → one ≡ get_or entries n one → AreSaid (take n entries) s → Refuses fault (read_entry s.version n one) → Tells fault entries
told_first n entries one s (BadRecord entry at) within is all r =
    first_is n entries one s entry at within is all (bad_is n (records_from (length one) s.version [] 0 one) (BadRecord entry at) entry at r refl) r
told_first n entries one s NoMemory within is all r = tt
