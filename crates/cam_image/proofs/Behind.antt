-- The version after entries is the one that recovery finds there, and entries are shown just where
-- they are recovered.
use Rattle.std.proofs.Common.{◌≡◌, ◌↔◌, ◌≤◌, ℕ, ◌+◌, List, [], ◌∷◌, ◌++◌, length, drop, Result, Ok, Err, refl, ap, sym, ◌∙◌}
use Rattle.std.specs.Bool.{⊤}
use Rattle.std.proofs.lemmas.List.{drop_all}
use Rattle.cam_bytes.specs.Reading.{◌>>=◌}
use Rattle.cam_recman.specs.declared.Record.{Record}
use Rattle.cam_recman.specs.declared.RecFault.{RecFault}
use Rattle.cam_recman.specs.declared.Recovered.{Recovered}
use Rattle.cam_recman.specs.Inspect.{entry_text, inspect_from, inspect_text}
use Rattle.cam_recman.specs.Versions.{version_behind}
use Rattle.cam_recman.specs.Reading.{read_entry}
use Rattle.cam_recman.specs.Recovery.{fresh, recover, recover_from, recovered_of, said_by, with_records}
use Rattle.cam_image.specs.Steps.{version_from}

pub version_is_said : (entries : List (List ℕ)) (number version : ℕ) (r : Recovered)
    → version_from number version entries
    ≡ (recover_from number (record { version = version; recovered = r }) entries >>=
    (λ t. Ok t.version))
unfolding version_from recover_from
version_is_said [] number version r = refl
version_is_said (entry ∷ entries) number version r =
    by (read_entry version number entry)
    (λ records. version_is_said entries (number + 1) (version_behind version records)
    (with_records r records))
  where
    by : (read : Result (List Record) RecFault)
        → ((records : List Record) → version_from (number + 1)
        (version_behind version records) entries ≡ (recover_from (number + 1)
        (record { version = version_behind version records; recovered = with_records r records })
        entries >>= (λ t. Ok t.version)))
        → (read >>= (λ records. version_from (number + 1) (version_behind version records) entries))
        ≡ ((read >>=
        (λ records. recover_from (number + 1)
        (record { version = version_behind version records; recovered = with_records r records })
        entries)) >>= (λ t. Ok t.version))
    by (Ok records) later = later records
    by (Err fault) later = refl

-- what is recovered and what is shown have the same fault
abbrev fault_alone : {A : Type 0} → Result A RecFault → Result ⊤ RecFault
fault_alone (Ok x) = Ok tt
fault_alone (Err fault) = Err fault

same_fault : (entries : List (List ℕ)) (number version : ℕ) (r : Recovered) (text : List ℕ)
    → fault_alone (inspect_from number version text entries)
    ≡ fault_alone (recover_from number (record { version = version; recovered = r }) entries)
unfolding inspect_from recover_from
same_fault [] number version r text = refl
same_fault (entry ∷ entries) number version r text =
    by (read_entry version number entry)
    (λ records. same_fault entries (number + 1) (version_behind version records)
    (with_records r records) (text ++ entry_text number records))
  where
    by : (read : Result (List Record) RecFault)
        → ((records : List Record)
        → fault_alone (inspect_from (number + 1) (version_behind version records)
        (text ++ entry_text number records) entries) ≡ fault_alone
        (recover_from (number + 1)
        (record { version = version_behind version records; recovered = with_records r records })
        entries)) → fault_alone
        (read >>= (λ records. inspect_from (number + 1) (version_behind version records)
        (text ++ entry_text number records) entries)) ≡ fault_alone
        (read >>=
        (λ records. recover_from (number + 1)
        (record { version = version_behind version records; recovered = with_records r records })
        entries))
    by (Ok records) later = later records
    by (Err fault) later = refl

err_alone : {A : Type 0} (r : Result A RecFault) (fault : RecFault) → fault_alone r ≡ Err fault
    → r ≡ Err fault
err_alone (Ok x) fault e = absurd cc
err_alone (Err other) fault e = let same : other ≡ fault = cc in ap (λ (f : RecFault). Err f) same

-- where the state is no list of what is recovered yet
ok_alone : {S : Type 0} (value : S → Recovered) (said : Result S RecFault)
    (of : Result S RecFault → Result Recovered RecFault)
    → ((s : S) → of (Ok s) ≡ Ok (value s)) → ((fault : RecFault) → of (Err fault) ≡ Err fault)
    → fault_alone (of said) ≡ fault_alone said
ok_alone value (Ok s) of good bad = ap fault_alone (good s)
ok_alone value (Err fault) of good bad = ap fault_alone (bad fault)

pub shown_is_recovered : (entries : List (List ℕ)) (fault : RecFault)
    → (inspect_text entries ≡ Err fault) ↔ (recover entries ≡ Err fault)
shown_is_recovered entries fault =
    let alone : fault_alone (recover entries) ≡ fault_alone (said_by entries) = ok_alone
    (λ s. s.recovered) (said_by entries) recovered_of (λ s. refl) (λ f. refl) in
    let same : fault_alone (inspect_text entries)
    ≡ fault_alone (recover entries) = same_fault entries 0 1 fresh [] ∙ sym alone in (
      λ shown. err_alone (recover entries) fault (sym same ∙ ap fault_alone shown),
      λ recovered. err_alone (inspect_text entries) fault (same ∙ ap fault_alone recovered),
    )

-- once all entries are gone over
pub shown_all : (number version : ℕ) (text : List ℕ) (entries : List (List ℕ))
    → length entries ≤ number
    → inspect_from number version text (drop number entries) ≡ inspect_text entries
    → inspect_text entries ≡ Ok text
unfolding inspect_from
shown_all number version text entries past same =
    sym same ∙ ap (λ (es : List (List ℕ)). inspect_from number version text es)
    (drop_all number entries past)

pub version_all : (number version : ℕ) (entries : List (List ℕ)) → length entries ≤ number
    → version_from number version (drop number entries) ≡ version_from 0 1 entries
    → version_from 0 1 entries ≡ Ok version
unfolding version_from
version_all number version entries past same =
    sym same ∙ ap (λ (es : List (List ℕ)). version_from number version es)
    (drop_all number entries past)
