-- Recovering goes entry by entry.
use Rattle.std.proofs.Common.{◌≡◌, inl, inr, ℕ, ◌+◌, List, [], ◌∷◌, ◌++◌, length, map, Result, Ok, Err, refl, sym, ap, ◌∙◌, arith}
use Rattle.std.specs.List.{AllByRecursion}
use Rattle.cam_log.specs.Moments.{Opened, IsBeforeOrAfter}
use Rattle.cam_bytes.specs.Reading.{◌>>=◌}
use Rattle.cam_recman.specs.declared.Record.{Record}
use Rattle.cam_recman.specs.declared.Recovered.{Recovered}
use Rattle.cam_recman.specs.declared.recovering.SoFar.{SoFar}
use Rattle.cam_recman.specs.declared.RecFault.{RecFault}
use Rattle.cam_recman.specs.Records.{entry_bytes}
use Rattle.cam_recman.specs.Ranges.{AreRecords}
use Rattle.cam_recman.specs.Versions.{AreOf}
use Rattle.cam_recman.specs.Reading.{read_entry}
use Rattle.cam_recman.specs.Recovery.{fresh, with_record, with_records, at_first, with_entry, all_records, recover_from, said_by, recovered_of, recover}
use Rattle.cam_recman.specs.Laws.{adding, MayFollow, IsRecoveredBeforeOrAfter}
use Rattle.cam_recman.proofs.Again.{entries_are_read}
use Rattle.cam_recman.proofs.Versioning.{behind_more, are_of_first, are_of_rest}

-- records of more entries come behind
pub with_more : (r : Recovered) (one more : List Record) → with_records r (one ++ more) ≡ with_records (with_records r one) more
with_more r [] more = refl
with_more r (x ∷ one) more = with_more (with_record r x) one more

pub entry_more : (s : SoFar) (one more : List Record) → with_entry s (one ++ more) ≡ with_entry (with_entry s one) more
entry_more s one more = λ i. record { version = behind_more s.version one more i; recovered = with_more s.recovered one more i }

recovers : (entries : List (List Record)) (number : ℕ) (s : SoFar) → AllByRecursion AreRecords entries → AreOf s.version (all_records entries) → recover_from number s (map entry_bytes entries) ≡ Ok (with_entry s (all_records entries))
unfolding recover_from
recovers [] number s are of = refl
recovers (records ∷ entries) number s are of =
    rw (entries_are_read s.version number records are.0 (are_of_first s.version records (all_records entries) of))
    (recovers entries (number + 1) (with_entry s records) are.1 (are_of_rest s.version records (all_records entries) of)
    ∙ ap (λ (x : SoFar). Ok x) (sym (entry_more s records (all_records entries))))

pub said_by_records : (entries : List (List Record)) → AllByRecursion AreRecords entries → AreOf 1 (all_records entries) → said_by (map entry_bytes entries) ≡ Ok (with_entry at_first (all_records entries))
said_by_records entries are of = recovers entries 0 at_first are of

pub recovery_is_of_the_records : (entries : List (List Record)) → AllByRecursion AreRecords entries → AreOf 1 (all_records entries) → recover (map entry_bytes entries) ≡ Ok (with_records fresh (all_records entries))
recovery_is_of_the_records entries are of = ap recovered_of (said_by_records entries are of)

abbrev one_entry : ℕ → SoFar → List ℕ → Result SoFar RecFault
one_entry number s entry = read_entry s.version number entry >>= (λ records. Ok (with_entry s records))

last_entry : (entries : List (List ℕ)) (number : ℕ) (s : SoFar) (entry : List ℕ) → recover_from number s (entries ++ entry ∷ []) ≡ (recover_from number s entries >>= (λ t. one_entry (number + length entries) t entry))
unfolding recover_from
last_entry [] number s entry = ap (λ (n : ℕ). one_entry n s entry) (omega arith)
last_entry (e ∷ entries) number s entry = read (read_entry s.version number e) (λ records. last_entry entries (number + 1) (with_entry s records) entry)
  where
    read : (first : Result (List Record) RecFault) → ((records : List Record) → recover_from (number + 1) (with_entry s records) (entries ++ entry ∷ []) ≡ (recover_from (number + 1) (with_entry s records) entries >>= (λ t. one_entry (number + 1 + length entries) t entry))) → (first >>= (λ records. recover_from (number + 1) (with_entry s records) (entries ++ entry ∷ []))) ≡ ((first >>= (λ records. recover_from (number + 1) (with_entry s records) entries)) >>= (λ t. one_entry (number + length (e ∷ entries)) t entry))
    read (Err fault) later = refl
    read (Ok records) later =
        later records
        ∙ ap (λ (n : ℕ). recover_from (number + 1) (with_entry s records) entries >>= (λ t. one_entry n t entry)) (omega arith)

pub one_more_entry_adds : (entries : List (List ℕ)) (entry : List ℕ) → said_by (entries ++ entry ∷ []) ≡ (said_by entries >>= (λ s. read_entry s.version (length entries) entry >>= (λ records. Ok (with_entry s records))))
one_more_entry_adds entries entry =
    let at_last : 0 + length entries ≡ length entries = omega arith in
    last_entry entries 0 at_first entry ∙ ap (λ (n : ℕ). said_by entries >>= (λ s. one_entry n s entry)) at_last

pub written_entry_adds : (entries : List (List ℕ)) (records : List Record) → AreRecords records → MayFollow entries records → recover (entries ++ entry_bytes records ∷ []) ≡ adding (recover entries) records
written_entry_adds entries records are may =
    ap recovered_of (one_more_entry_adds entries (entry_bytes records)) ∙ by (said_by entries) refl
  where
    by : (said : Result SoFar RecFault) → said_by entries ≡ said → recovered_of (said >>= (λ s. one_entry (length entries) s (entry_bytes records))) ≡ adding (recovered_of said) records
    by (Ok s) e =
        ap (λ (x : Result (List Record) RecFault). recovered_of (x >>= (λ rs. Ok (with_entry s rs)))) (entries_are_read s.version (length entries) records are (may s e))
    by (Err fault) e = refl

pub stopped_append_recovers : (entries : List (List ℕ)) (records : List Record) (opened : Opened) → AreRecords records → MayFollow entries records → IsBeforeOrAfter entries (entry_bytes records) opened → IsRecoveredBeforeOrAfter entries records opened
stopped_append_recovers entries records opened are may (inl before) = record { found = entries; opens = before; recovers = inl refl }
stopped_append_recovers entries records opened are may (inr after) = record { found = entries ++ entry_bytes records ∷ []; opens = after; recovers = inr (written_entry_adds entries records are may) }
