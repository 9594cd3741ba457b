-- One step of each loop over records and entries.
use Rattle.std.proofs.Common.{◌≡◌, ℕ, zero, suc, ◌+◌, ◌-◌, ◌<◌, ◌≤◌, le-ltb, List, [], ◌∷◌, ◌++◌, length, take, drop, get_or, All, Result, Ok, Err, refl, sym, ap, ◌∙◌, arith, subst, flat_map, append_assoc, append-nil}
use Rattle.std.proofs.lemmas.List.{take_all, take_more, drop_all, drop_more, get_or_default}
use Rattle.std.proofs.lemmas.List.Elements.{All-more, recursion_from_All}
use Rattle.std.proofs.lemmas.List.Concat.{flat_map-append}
use Rattle.cam_type.specs.declared.HeldOp.{HeldOp}
use Rattle.cam_bytes.specs.declared.WireFault.{WireFault}
use Rattle.cam_bytes.specs.Refuses.{Refuses}
use Rattle.cam_bytes.specs.Reading.{number_at}
use Rattle.cam_bytes.proofs.Refusing.{refuses_err}
use Rattle.cam_recman.specs.declared.Record.{Record}
use Rattle.cam_recman.specs.declared.recovering.SoFar.{SoFar}
use Rattle.cam_recman.specs.declared.RecFault.{RecFault}
use Rattle.cam_recman.specs.declared.RecFault.TheVariants.{BadRecord, NoMemory}
use Rattle.cam_recman.specs.Records.{entry_bytes}
use Rattle.cam_recman.specs.Ranges.{IsRecord, AreRecords}
use Rattle.cam_recman.specs.Recovery.{with_one, with_entry, recover_from, said_by, recovered_of, recover}
use Rattle.cam_recman.specs.Reading.{held_ops_from, held_ops_at, records_from, read_entry}
use Rattle.cam_recman.specs.Refuses.{Refuses as RefusesEntries}
use Rattle.cam_recman.specs.Faults.{Tells, IsSaid, AreSaid}
use Rattle.cam_recman.proofs.Firsts.{told_first, more_said}

-- operations
pub no_more_ops : (version : ℕ) (ops : List HeldOp) (at : ℕ) (bytes : List ℕ) → held_ops_from zero version ops at bytes ≡ Ok (ops, at)
unfolding held_ops_from
no_more_ops version ops at bytes = refl

pub ops_begin : (version at n behind : ℕ) (ops : List HeldOp) (bytes : List ℕ) → number_at at bytes ≡ Ok (n, behind) → ops ≡ [] → held_ops_from n version ops behind bytes ≡ held_ops_at version at bytes
unfolding held_ops_at
ops_begin version at n behind ops bytes e none = rw (e, none) refl

pub no_ops : (version at : ℕ) (bytes : List ℕ) (fault : WireFault) → number_at at bytes ≡ Err fault → Refuses fault (held_ops_at version at bytes)
unfolding held_ops_at
no_ops version at bytes fault e = refuses_err (held_ops_at version at bytes) fault (rw e refl)

ended : (room version : ℕ) (bytes : List ℕ) (records : List Record) (at : ℕ) → length bytes ≤ at → records_from room version records at bytes ≡ Ok records
unfolding records_from
ended zero version bytes records at past = refl
ended (suc room) version bytes records at past = rw (le-ltb at (length bytes) past) refl

-- records of an entry: `same` says that what is still to be read gives what all gives
module _ (first version : ℕ) (bytes : List ℕ) (records : List Record) (at : ℕ) (many : length records ≤ at) (same : records_from (length bytes - length records) version records at bytes ≡ records_from (length bytes) first [] 0 bytes) where
  here : at < length bytes → records_from (suc (length bytes - length records - 1)) version records at bytes ≡ records_from (length bytes) first [] 0 bytes
  here within =
      let a_round : suc (length bytes - length records - 1) ≡ length bytes - length records = omega (arith, many, within) in
      ap (λ (n : ℕ). records_from n version records at bytes) a_round ∙ same

  pub refused_record : (fault : WireFault) → at < length bytes → ((room : ℕ) → Refuses fault (records_from (suc room) version records at bytes)) → Refuses fault (records_from (length bytes) first [] 0 bytes)
  refused_record fault within step = subst (λ (r : Result (List Record) WireFault). Refuses fault r) (here within) (step (length bytes - length records - 1))

  pub next_record : (next : ℕ) (now : List Record) (end : ℕ) → at < length bytes → length now ≡ length records + 1 → ((room : ℕ) → records_from (suc room) version records at bytes ≡ records_from room next now end bytes) → records_from (length bytes - length now) next now end bytes ≡ records_from (length bytes) first [] 0 bytes
  next_record next now end within one step =
      let rest : length bytes - length records - 1 ≡ length bytes - length now = omega (arith, one) in
      ap (λ (n : ℕ). records_from n next now end bytes) (sym rest) ∙ sym (step (length bytes - length records - 1)) ∙ here within

  pub last_record : length bytes ≤ at → records_from (length bytes) first [] 0 bytes ≡ Ok records
  last_record past = sym same ∙ ended (length bytes - length records) version bytes records at past

-- records that are added one after another
pub next_said : (s t : SoFar) (one : Record) (records rest : List Record) (whole : SoFar) → records ≡ one ∷ rest → t ≡ with_one s one → with_entry s records ≡ whole → AreRecords records → (with_entry t rest ≡ whole) × AreRecords rest
next_said s t one records rest whole is more same are = (
  ap (λ (x : SoFar). with_entry x rest) more ∙ sym (ap (λ (rs : List Record). with_entry s rs) is) ∙ same,
  (subst (λ (rs : List Record). AreRecords rs) is are).1,
)

pub all_said : (s : SoFar) (records : List Record) (whole : SoFar) → length records ≡ 0 → with_entry s records ≡ whole → s ≡ whole
all_said s [] whole none same = same
all_said s (one ∷ records) whole none same = absurd (omega (arith, none))

-- entries that are recovered one after another
pub all_stand : (number : ℕ) (s : SoFar) (entries : List (List ℕ)) → length entries ≤ number → recover_from number s (drop number entries) ≡ said_by entries → said_by entries ≡ Ok s
unfolding recover_from
all_stand number s entries past same = sym same ∙ ap (λ (es : List (List ℕ)). recover_from number s es) (drop_all number entries past)

pub all_entries : (number : ℕ) (s : SoFar) (entries : List (List ℕ)) → length entries ≤ number → AreSaid (take number entries) s → AreSaid entries s
all_entries number s entries past all = subst (λ (es : List (List ℕ)). AreSaid es s) (take_all number entries past) all

refused_said : (fault : RecFault) (said : Result SoFar RecFault) → RefusesEntries fault said → RefusesEntries fault (recovered_of said)
refused_said (BadRecord entry at) said r = ap recovered_of r
refused_said NoMemory said r = tt

-- the entry at a place: the slice that is gone over is that of the entries, and `one` is the item's bytes
module _ (number : ℕ) (s : SoFar) (slice entries : List (List ℕ)) (item one : List ℕ) (all : slice ≡ entries) (within : number < length slice) (at : item ≡ get_or slice number item) (is : one ≡ item) (same : recover_from number s (drop number entries) ≡ said_by entries) where
  small : number < length entries
  small = omega (arith, within, ap (λ (es : List (List ℕ)). length es) all)

  pub placed : one ≡ get_or entries number one
  placed = is ∙ at ∙ ap (λ (es : List (List ℕ)). get_or es number item) all ∙ get_or_default entries number item one small

  dropped : drop number entries ≡ one ∷ drop (number + 1) entries
  dropped = drop_more entries number one small ∙ ap (λ (x : List ℕ). x ∷ drop (number + 1) entries) (sym placed)

  still : recover_from number s (one ∷ drop (number + 1) entries) ≡ said_by entries
  still = ap (λ (es : List (List ℕ)). recover_from number s es) (sym dropped) ∙ same

  pub entry_recovered : (t : SoFar) → ((es : List (List ℕ)) → recover_from number s (one ∷ es) ≡ recover_from (number + 1) t es) → recover_from (number + 1) t (drop (number + 1) entries) ≡ said_by entries
  entry_recovered t step = sym (step (drop (number + 1) entries)) ∙ still

  pub entry_whole : (t : SoFar) → AreSaid (take number entries) s → IsSaid s one t → AreSaid (take (number + 1) entries) t
  entry_whole t before last =
      let longer : take number entries ++ one ∷ [] ≡ take (number + 1) entries = ap (λ (x : List ℕ). take number entries ++ x ∷ []) placed ∙ sym (take_more entries number one small) in
      subst (λ (es : List (List ℕ)). AreSaid es t) longer (more_said (take number entries) one s t before last)

  pub entry_refused : (fault : RecFault) → ((es : List (List ℕ)) → RefusesEntries fault (recover_from number s (one ∷ es))) → RefusesEntries fault (recover entries)
  entry_refused fault refused = refused_said fault (said_by entries) (subst (λ (x : Result SoFar RecFault). RefusesEntries fault x) still (refused (drop (number + 1) entries)))

  pub entry_told : (fault : RecFault) → AreSaid (take number entries) s → RefusesEntries fault (read_entry s.version number one) → Tells fault entries
  entry_told fault before refused = told_first number entries one s fault small placed before refused

-- items that are written one after another
pub written_more : {X : Type 0} (f : X → List ℕ) (start : List ℕ) (xs : List X) (i : ℕ) (one : X) (out new : List ℕ) → i < length xs → one ≡ get_or xs i one → out ≡ start ++ flat_map f (take i xs) → new ≡ out ++ f one → new ≡ start ++ flat_map f (take (i + 1) xs)
written_more f start xs i one out new within is so more =
    let longer : take (i + 1) xs ≡ take i xs ++ one ∷ [] = take_more xs i one within ∙ ap (λ x. take i xs ++ x ∷ []) (sym is) in
    more ∙ ap (λ (t : List ℕ). t ++ f one) so ∙ append_assoc start (flat_map f (take i xs)) (f one)
    ∙ ap (λ (t : List ℕ). start ++ (flat_map f (take i xs) ++ t)) (sym (append-nil (f one)))
    ∙ ap (λ (t : List ℕ). start ++ t) (sym (flat_map-append f (take i xs) (one ∷ [])))
    ∙ ap (λ ys. start ++ flat_map f ys) (sym longer)

pub each_more : {X : Type 0} (P : X → Type 0) (xs : List X) (i : ℕ) (one : X) → i < length xs → one ≡ get_or xs i one → All P (take i xs) → P one → All P (take (i + 1) xs)
each_more P xs i one within is are this = All-more P xs i one within are (subst P is this)

pub all_ranged : (i : ℕ) (slice records : List Record) → slice ≡ records → length slice ≤ i → All IsRecord (take i slice) → AreRecords records
all_ranged i slice records is past are = subst (λ (rs : List Record). AreRecords rs) (take_all i slice past ∙ is) (recursion_from_All IsRecord (take i slice) are)

pub all_written : (i : ℕ) (slice records : List Record) (out : List ℕ) → slice ≡ records → length slice ≤ i → out ≡ entry_bytes (take i slice) → out ≡ entry_bytes records
all_written i slice records out is past so = so ∙ ap entry_bytes (take_all i slice past ∙ is)
