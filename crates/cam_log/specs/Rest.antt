-- What opens a disk whose bytes are a log at rest.
use Rattle.std.proofs.Common.{◌≡◌, ℕ, ◌+◌, ◌<◌, List, [], ◌∷◌, length, get_or, drop, flat_map, Ok, sym, ap, ◌∙◌, arith, length-append}
use Rattle.std.specs.Int.{w64, to_be_bytes}
use Rattle.cam_disk.specs.Disk.{Only}
use Rattle.cam_log.specs.Image.{gated}
use Rattle.cam_log.specs.Reading.{read_log}
use Rattle.cam_log.specs.Laws.{AreEntries}
use Rattle.cam_log.specs.Moments.{IsAtRest, Opened}
use Rattle.cam_log.specs.Again.{logs_are_read}

pub small_entries : (entries : List (List ℕ))
    → length (flat_map gated entries) < 18446744073709551616 → AreEntries entries
small_entries [] small = tt
small_entries (entry ∷ entries) small =
    let long = length-append (gated entry) (flat_map gated entries) in
    (omega (arith, small, long, length-append (to_be_bytes w64 (length entry)) entry), small_entries entries (omega (arith, small, long)))

pub opens : (entries : List (List ℕ)) (gate : ℕ) (bytes : List ℕ) → gate < 18446744073709551616
    → IsAtRest entries gate bytes → read_log bytes ≡ Ok entries
opens entries gate bytes small rests =
    logs_are_read entries bytes (small_entries entries (omega (arith, small, rests.place))) (record { gate = get_or bytes gate 1; is_closed = rests.is_closed; rest = drop (gate + 1) bytes; is = rests.is })

-- every image that a crash may leave opens with the entries, if what is seen is at rest and on the disk
pub opens_alone : (entries : List (List ℕ)) (gate : ℕ) (seen image : List ℕ)
    (may_leave : List ℕ → Type 0) (opened : Opened) → gate < 18446744073709551616
    → IsAtRest entries gate seen → Only seen may_leave → may_leave image → read_log image ≡ opened
    → opened ≡ Ok entries
opens_alone entries gate seen image may_leave opened small rests only left is =
    sym is ∙ ap read_log (only image left) ∙ opens entries gate seen small rests
