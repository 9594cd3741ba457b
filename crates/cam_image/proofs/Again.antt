-- What an upgrade wrote is the migrated log, and is left as it is by another one.
use Rattle.std.proofs.Common.{◌≡◌, inl, inr, ℕ, ◌+◌, ◌≤◌, le-ltb, Bool, true, false, cond, nat_lt, List, [], ◌∷◌, ◌++◌, length, take, flat_map, Result, Ok, Err, refl, sym, ap, ◌∙◌, subst, arith, length-append, append_assoc, append-nil}
use Rattle.std.proofs.lemmas.Bool.Decides.{eqb_tells}
use Rattle.std.proofs.lemmas.Bool.{ltb-false}
use Rattle.std.proofs.lemmas.List.{take_at}
use Rattle.cam_log.specs.Image.{header, gated, log_bytes, gate_place, IsLog}
use Rattle.cam_log.specs.Reading.{read_log}
use Rattle.cam_log.specs.Laws.{AreEntries, IsBytes}
use Rattle.cam_log.proofs.Exactly.{read_is_log}
use Rattle.cam_log.specs.declared.fault.LogFault.{LogFault}
use Rattle.cam_bytes.specs.Reading.{◌>>=◌}
use Rattle.cam_recman.specs.declared.RecFault.{RecFault}
use Rattle.cam_recman.specs.Recovery.{said_by}
use Rattle.cam_recman.specs.Migrating.{version_entry, with_version, migrated, IsUpgraded}
use Rattle.cam_recman.proofs.Upgrading.{was_said, migration_is_once, migrated_is_version_2, upgrade_keeps_recovery}
use Rattle.cam_image.specs.declared.fault.ImageFault.{ImageFault}
use Rattle.cam_image.specs.declared.fault.ImageFault.TheVariants.{NotALog}
use Rattle.cam_image.specs.Images.{if_not_too_long, in_log, in_records, in_version2, log_entries, most_bytes, upgraded}
use Rattle.cam_image.specs.Laws.{IsUpgrade}

abbrev given : {A E : Type 0} → A → Result A E
given x = Ok x

given_is : {A E : Type 0} (x y : A) → given {E = E} x ≡ given y → x ≡ y
given_is x y e = cc

-- one step of what is done in steps
step : {A B E P : Type 0} (one : Result A E) (next : A → Result B E) (y : B) → (one >>= next) ≡ Ok y
    → ((x : A) → one ≡ Ok x → next x ≡ Ok y → P) → P
step (Ok x) next y e go = go x refl e
step (Err fault) next y e go = absurd cc

records_ok : {A : Type 0} (r : Result A RecFault) (x : A) → in_records r ≡ Ok x → r ≡ Ok x
records_ok (Ok y) x e = ap (λ z. Ok z) (given_is {E = ImageFault} y x e)
records_ok (Err fault) x e = absurd cc

log_ok : (r : Result (List (List ℕ)) LogFault) (x : List (List ℕ)) → in_log r ≡ Ok x → r ≡ Ok x
log_ok (Ok y) x e = ap (λ z. Ok z) (given_is {E = ImageFault} y x e)
log_ok (Err fault) x e = absurd cc

-- an image of which entries are read is not too long
short_enough : (image : List ℕ) (read : Result (List (List ℕ)) LogFault) (entries : List (List ℕ))
    → if_not_too_long image read ≡ Ok entries
    → (nat_lt most_bytes (length image) ≡ false) × (read ≡ Ok entries)
short_enough image read entries e = by (nat_lt most_bytes (length image)) refl e
  where
    by : (b : Bool) → nat_lt most_bytes (length image) ≡ b
        → cond b (Err (NotALog most_bytes)) (in_log read) ≡ Ok entries
        → (nat_lt most_bytes (length image) ≡ false) × (read ≡ Ok entries)
    by true is e1 = absurd cc
    by false is e1 = (is, log_ok read entries e1)

-- what was written, by the entries that were read and the version after them
apart : {P : Type 0} (image output : List ℕ) → upgraded image ≡ Ok output
    → ((entries : List (List ℕ)) (version : ℕ) → log_entries image ≡ Ok entries
    → migrated entries ≡ Ok (with_version version entries)
    → in_version2 version entries image ≡ output → P) → P
unfolding upgraded
apart image output e go =
    step (log_entries image) _ output e (λ entries read e1.
    step (in_records (said_by entries)) _ output e1 (λ s said e2.
    go entries s.version read (ap (λ r. r >>= (λ t. Ok (with_version t.version entries)))
    (records_ok (said_by entries) s said))
    (given_is {E = ImageFault} (in_version2 s.version entries image) output e2)))

-- the bytes of a log that ends with its closed gate
record Closes (entries : List (List ℕ)) (bytes : List ℕ) : Type 0 where
  gate : ℕ
  is_closed : gate ≡ 1 → ⊥
  is : bytes ≡ header ++ flat_map gated entries ++ gate ∷ []

up_to_gate : (entries : List (List ℕ)) (image : List ℕ) (log : IsLog entries image)
    → Closes entries (take (gate_place entries + 1) image)
up_to_gate entries image log =
    let front = header ++ flat_map gated entries ++ log.gate ∷ [] in
    let split : image ≡ front ++ log.rest = log.is
    ∙ sym (append_assoc (header ++ flat_map gated entries) (log.gate ∷ []) log.rest) in
    let long : length front ≡ gate_place entries + 1 = omega (
      arith,
      length-append (header ++ flat_map gated entries) (log.gate ∷ []),
      length-append header (flat_map gated entries),
    ) in
    record {
      gate = log.gate;
      is_closed = log.is_closed;
      is = ap (λ (t : List ℕ). take (gate_place entries + 1) t) split
          ∙ take_at front log.rest (gate_place entries + 1) long;
    }

closes : (version : ℕ) (entries : List (List ℕ)) (image : List ℕ) → IsLog entries image
    → Closes (with_version version entries) (in_version2 version entries image)
closes version entries image log =
    elim (eqb_tells version 1) [
      | inl y ↦ subst
          (λ (b : Bool). Closes (cond b (entries ++ version_entry ∷ []) entries)
          (cond b (log_bytes (entries ++ version_entry ∷ []))
          (take (gate_place entries + 1) image)))
          (sym y.0)
          (record { gate = 0; is_closed = λ (e : 0 ≡ 1). absurd (omega (arith, e)); is = refl })
      | inr n ↦ subst
          (λ (b : Bool). Closes (cond b (entries ++ version_entry ∷ []) entries)
          (cond b (log_bytes (entries ++ version_entry ∷ []))
          (take (gate_place entries + 1) image)))
          (sym n.0) (up_to_gate entries image log)
    ]

-- the entries of an image are not longer than it
short_entries : (entries : List (List ℕ)) → length (flat_map gated entries) ≤ 262144
    → AreEntries entries
short_entries [] few = tt
short_entries (e ∷ entries) few = (
  omega (arith, few, length-append (gated e) (flat_map gated entries)),
  short_entries entries (omega (arith, few, length-append (gated e) (flat_map gated entries))),
)

are_entries : (entries : List (List ℕ)) (image : List ℕ) → IsLog entries image
    → length image ≤ 262144 → AreEntries entries
are_entries entries image log few =
    short_entries entries
    (omega (
      arith,
      few,
      ap (λ (t : List ℕ). length t) log.is,
      length-append header (flat_map gated entries),
      length-append (header ++ flat_map gated entries) (log.gate ∷ log.rest),
    ))

few_bytes : (image : List ℕ) → nat_lt most_bytes (length image) ≡ false → length image ≤ 262144
few_bytes image e = ltb-false most_bytes (length image) e

pub upgrade_is_migration : (image output : List ℕ) → IsBytes image → upgraded image ≡ Ok output
    → IsUpgrade image output
upgrade_is_migration image output bytes e = apart image output e (λ entries version read moved is.
    let short = short_enough image (read_log image) entries read in
    let log = read_is_log entries image bytes short.1 in
    let closed = closes version entries image log in
    let up : IsUpgraded image output = record {
      entries = entries;
      left = with_version version entries;
      gate = closed.gate;
      read = short.1;
      migrates = moved;
      is_closed = closed.is_closed;
      is = sym is ∙ closed.is;
    } in
    record {
      migrated = up;
      recovers = upgrade_keeps_recovery image output up
          (are_entries entries image log (few_bytes image short.0));
    })

-- an image of version 2 that ends with its closed gate is left as it is
left_as_it_is : (version : ℕ) (entries : List (List ℕ)) (image : List ℕ) (gate : ℕ) → version ≡ 2
    → image ≡ header ++ flat_map gated entries ++ gate ∷ []
    → in_version2 version entries image ≡ image
left_as_it_is version entries image gate second is =
    let long : length image ≡ gate_place entries + 1 = omega (
      arith,
      ap (λ (t : List ℕ). length t) is,
      length-append (header ++ flat_map gated entries)
          (gate ∷ []),
      length-append header (flat_map gated entries),
    ) in
    ap (λ (v : ℕ). in_version2 v entries image) second
    ∙ ap (λ (t : List ℕ). take (gate_place entries + 1) t) (sym (append-nil image))
    ∙ take_at image [] (gate_place entries + 1) long

pub upgrade_is_once : (image output : List ℕ) → IsBytes image → length output ≤ most_bytes
    → upgraded image ≡ Ok output → upgraded output ≡ Ok output
unfolding upgraded
upgrade_is_once image output bytes few e =
    let up = upgrade_is_migration image output bytes e in
    let entries = up.migrated.entries in
    let left = up.migrated.left in
    let (t, said, _) = was_said left left (migration_is_once entries left up.migrated.migrates) in
    let second : t.version ≡ 2 = migrated_is_version_2 entries left t up.migrated.migrates said in
    let read : log_entries output ≡ Ok left =
    ap (λ (b : Bool). cond b (Err (NotALog most_bytes)) (in_log (read_log output)))
    (le-ltb most_bytes (length output) few) ∙ ap in_log up.recovers.reads in
    ap (λ (r : Result (List (List ℕ)) ImageFault).
    r >>= (λ es. in_records (said_by es) >>= (λ s. Ok (in_version2 s.version es output)))) read
    ∙ ap (λ r. in_records r >>= (λ s. Ok (in_version2 s.version left output))) said
    ∙ ap (λ (x : List ℕ). Ok x)
    (left_as_it_is t.version left output up.migrated.gate second up.migrated.is)
