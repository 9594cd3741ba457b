-- What an upgrade writes.
use Rattle.std.proofs.Common.{◌≡◌, ℕ, ◌+◌, ◌==◌, ◌<◌, cond, List, ◌∷◌, ◌++◌, length, take, flat_map, Result, Ok, Err, sym, ap, ◌∙◌, subst, arith, length-append}
use Rattle.std.proofs.lemmas.List.{take_at}
use Rattle.cam_log.specs.Image.{header, gated, appended, gate_place}
use Rattle.cam_log.specs.Reading.{read_log}
use Rattle.cam_log.specs.Laws.{IsBytes}
use Rattle.cam_log.specs.Again.{opened_is_there}
use Rattle.cam_log.proofs.Exactly.{read_is_log}
use Rattle.cam_bytes.specs.Reading.{◌>>=◌}
use Rattle.cam_recman.specs.declared.RecFault.{RecFault}
use Rattle.cam_recman.specs.declared.RecFault.TheVariants as faults
use Rattle.cam_recman.specs.Refuses.{Refuses as RefusesRecords}
use Rattle.cam_recman.specs.Recovery.{fresh, said_by}
use Rattle.cam_recman.specs.Migrating.{version_entry}
use Rattle.cam_image.specs.declared.fault.ImageFault.{ImageFault}
use Rattle.cam_image.specs.Images.{in_records, in_version2, log_entries, record_fault, upgraded}
use Rattle.cam_image.specs.Steps.{Refuses, version_from}
use Rattle.cam_image.proofs.Behind.{version_is_said}

-- the closed gate of an image stands in it, and before it the header and the entries
pub gate_within : (entries : List (List ℕ)) (image : List ℕ) → IsBytes image
    → read_log image ≡ Ok entries → gate_place entries < length image
gate_within entries image bytes read =
    let log = read_is_log entries image bytes read in
    omega (
      arith,
      ap (λ (t : List ℕ). length t) log.is,
      length-append header (flat_map gated entries),
      length-append (header ++ flat_map gated entries) (log.gate ∷ log.rest),
    )

up_to_gate : (entries : List (List ℕ)) (image : List ℕ) → IsBytes image
    → read_log image ≡ Ok entries → take (gate_place entries) image
    ≡ header ++ flat_map gated entries
up_to_gate entries image bytes read =
    let log = read_is_log entries image bytes read in
    ap (λ (t : List ℕ). take (gate_place entries) t) log.is
    ∙ take_at (header ++ flat_map gated entries) (log.gate ∷ log.rest) (gate_place entries)
    (length-append header (flat_map gated entries))

-- what is written by the image's bytes is what is written by its entries
pub written_in_version2 : (version : ℕ) (entries : List (List ℕ)) (image out : List ℕ)
    → IsBytes image → read_log image ≡ Ok entries
    → out ≡ cond (version == 1) (take (gate_place entries) image ++ 1 ∷ appended version_entry)
    (take (gate_place entries + 1) image)
    → out ≡ in_version2 version entries image
written_in_version2 version entries image out bytes read is =
    is ∙ ap (λ (t : List ℕ). cond (version == 1) t (take (gate_place entries + 1) image))
    (ap (λ (t : List ℕ). t ++ 1 ∷ appended version_entry) (up_to_gate entries image bytes read)
    ∙ opened_is_there entries version_entry)

-- the version that was found is the one that recovery finds
abbrev found : {A : Type 0} → A → Result A RecFault
found x = Ok x

abbrev refused : {A : Type 0} → RecFault → Result A RecFault
refused fault = Err fault

ok_is : (x y : ℕ) → found x ≡ found y → x ≡ y
ok_is x y e = cc

by_version : {S : Type 0} (version_of : S → ℕ) (said : Result S RecFault) (version : ℕ)
    (entries : List (List ℕ)) (image : List ℕ)
    → (said >>= (λ t. Ok (version_of t))) ≡ Ok version
    → (in_records said >>= (λ t. Ok (in_version2 (version_of t) entries image)))
    ≡ Ok (in_version2 version entries image)
by_version version_of (Ok s) version entries image e = let same : version_of s
    ≡ version = ok_is (version_of s) version e in
    ap (λ (v : ℕ). Ok (in_version2 v entries image)) same
by_version version_of (Err fault) version entries image e =
    absurd (let f : refused {A = ℕ} fault ≡ found version = e in cc)

pub upgraded_is : (image out : List ℕ) (entries : List (List ℕ)) (version : ℕ)
    → log_entries image ≡ Ok entries → version_from 0 1 entries ≡ Ok version
    → out ≡ in_version2 version entries image → upgraded image ≡ Ok out
unfolding upgraded
upgraded_is image out entries version read found is =
    ap (λ (r : Result (List (List ℕ)) ImageFault).
    r >>= (λ es. in_records (said_by es) >>= (λ t. Ok (in_version2 t.version es image)))) read
    ∙ by_version (λ t. t.version) (said_by entries) version entries image
    (sym (version_is_said entries 0 1 fresh) ∙ found) ∙ ap (λ (t : List ℕ). Ok t) (sym is)

by_fault : {S : Type 0} (version_of : S → ℕ) (said : Result S RecFault) (fault : RecFault)
    (entries : List (List ℕ)) (image : List ℕ)
    → RefusesRecords fault (said >>= (λ t. Ok (version_of t)))
    → Refuses (record_fault fault)
    (in_records said >>= (λ t. Ok (in_version2 (version_of t) entries image)))
by_fault version_of said faults.NoMemory entries image r = tt
by_fault version_of (Ok s) (faults.BadRecord entry at) entries image r =
    absurd (let f : found (version_of s) ≡ refused (faults.BadRecord entry at) = r in cc)
by_fault version_of (Err fault) (faults.BadRecord entry at) entries image r =
    let same : fault ≡ faults.BadRecord entry
    at = (let f : refused {A = ℕ} fault ≡ refused (faults.BadRecord entry at) = r in cc) in
    ap (λ (f : RecFault). Err (record_fault f)) same

pub upgraded_refused : (image : List ℕ) (entries : List (List ℕ)) (fault : RecFault)
    → log_entries image ≡ Ok entries → RefusesRecords fault (version_from 0 1 entries)
    → Refuses (record_fault fault) (upgraded image)
unfolding upgraded
upgraded_refused image entries fault read r =
    let found = subst (λ (v : Result ℕ RecFault). RefusesRecords fault v)
    (version_is_said entries 0 1 fresh) r in
    subst (λ (x : Result (List (List ℕ)) ImageFault). Refuses (record_fault fault)
    (x >>= (λ es. in_records (said_by es) >>= (λ t. Ok (in_version2 t.version es image)))))
    (sym read)
    (by_fault (λ t. t.version) (said_by entries) fault entries image found)
