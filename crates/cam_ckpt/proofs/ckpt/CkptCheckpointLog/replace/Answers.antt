use Rattle.std.proofs.Common.{rules, ◌≡◌, ◌∙◌, ◌+◌, ◌-◌, List, ℕ, IsTrue, arith, length, sym, ap, nat_le, if◌then◌else◌}
use Rattle.cam_ckpt.specs.Moments.{IsOldOrNew}
use Rattle.cam_ckpt.specs.Opening.{standing_of, start_for, IsMove}
use Rattle.cam_ckpt.proofs.Openings.{openings_grow}
use Rattle.cam_ckpt.proofs.Moved.{can_parts, move_is, moved_is}
use Rattle.std.proofs.Common.{subst}
use Rattle.cam_ckpt.specs.Image.{segment, numbers}
use Rattle.cam_ckpt.specs.Steps.{closing_by}
use Rattle.cam_ckpt.specs.Written.{IsReplaced}
use Rattle.cam_ckpt.proofs.ckpt.CkptCheckpointLog.replace.Goals as goal

pub returns-in-Err-clause-any_moment : goal.returns-in-Err-clause-any_moment
returns-in-Err-clause-any_moment g c = λ h.
    let log = c.args.self.now in
    let o = log.state in
    let entries = c.args.entries.now in
    let parts = can_parts log.broken o.generation c.requires in
    let long : c.len.result ≡ length c.in_ok-text.text.items = search rules in
    let move : IsMove (standing_of o) entries (g.D.Disk.seen log.disk) c.other_slot-other.result o.is_other_open c.new_start-start.result c.deref.result.now c.deref-2.result.now =
    move_is o entries (g.D.Disk.seen log.disk) c.other_slot-other.result c.new_start-start.result c.len.result c.deref.result.now c.deref-2.result.now (log.opened h parts.0) c.other_slot-other.ensures.other
    (long ∙ ap (λ (u : List ℕ). length u) (sym c.deref.ensures.value)) c.new_start-start.ensures (c.deref.ensures.value ∙ c.in_ok-text.ensures) (c.deref-2.ensures.value ∙ c.in_ok-behind.ensures) parts.1 in
    openings_grow (IsOldOrNew o.entries entries) (c.write_list.ensures.any_moment h (standing_of o) entries move)

pub returns-clause-any_moment : goal.returns-clause-any_moment
returns-clause-any_moment g c = λ h.
    let log = c.args.self.now in
    let o = log.state in
    let entries = c.args.entries.now in
    let parts = can_parts log.broken o.generation c.requires in
    let long : c.len.result ≡ length c.in_ok-text.text.items = search rules in
    let move : IsMove (standing_of o) entries (g.D.Disk.seen log.disk) c.other_slot-other.result o.is_other_open c.new_start-start.result c.deref.result.now c.deref-2.result.now =
    move_is o entries (g.D.Disk.seen log.disk) c.other_slot-other.result c.new_start-start.result c.len.result c.deref.result.now c.deref-2.result.now (log.opened h parts.0) c.other_slot-other.ensures.other
    (long ∙ ap (λ (u : List ℕ). length u) (sym c.deref.ensures.value)) c.new_start-start.ensures (c.deref.ensures.value ∙ c.in_ok-text.ensures) (c.deref-2.ensures.value ∙ c.in_ok-behind.ensures) parts.1 in
    openings_grow (IsOldOrNew o.entries entries) (c.write_list.ensures.any_moment h (standing_of o) entries move)

pub invariant_of-self-2-clause-opened : goal.invariant_of-self-2-clause-opened
invariant_of-self-2-clause-opened g c = λ h whole.
    let log = c.args.self.now in
    let o = log.state in
    let entries = c.args.entries.now in
    let was : IsTrue (g.D.Disk.tells log.disk) = sym c.write_list.ensures.tells ∙ h in
    let parts = can_parts log.broken o.generation c.requires in
    let long : c.len.result ≡ length c.in_ok-text.text.items = search rules in
    let again : c.len-2.result ≡ c.len.result = search rules in
    let size : c.len.result ≡ length c.deref.result.now = long ∙ ap (λ (u : List ℕ). length u) (sym c.deref.ensures.value) in
    let move : IsMove (standing_of o) entries (g.D.Disk.seen log.disk) c.other_slot-other.result o.is_other_open c.new_start-start.result c.deref.result.now c.deref-2.result.now =
    move_is o entries (g.D.Disk.seen log.disk) c.other_slot-other.result c.new_start-start.result c.len.result c.deref.result.now c.deref-2.result.now (log.opened was parts.0) c.other_slot-other.ensures.other
    size c.new_start-start.ensures (c.deref.ensures.value ∙ c.in_ok-text.ensures) (c.deref-2.ensures.value ∙ c.in_ok-behind.ensures) parts.1 in
    let did = c.in_default.ensures.at_rest was (standing_of o) entries move in
    moved_is o entries c.in_ok-copy.copy (g.D.Disk.seen log.disk) (g.D.Disk.seen c.write_list.new.disk) c.other_slot-other.result c.new_start-start.result c.len.result (c.new_start-start.result + c.len-2.result - 1) c.deref.result.now c.deref-2.result.now move size c.in_ok-copy.ensures
    (omega (arith, again)) did.0 did.1

pub invariant_of-self-2-clause-within : goal.invariant_of-self-2-clause-within
invariant_of-self-2-clause-within g c =
    let long : c.len-2.result ≡ length c.in_ok-text.text.items = search rules in
    omega (arith, c.in_default.ensures.limit, long, ap (λ (u : List ℕ). length u) c.deref.ensures.value)

pub returns-clause-bytes : goal.returns-clause-bytes
returns-clause-bytes g c = λ h.
    let o = c.args.self.now.state in
    let start = c.new_start-start.result in
    let old = g.D.Disk.seen c.args.self.now.disk in
    let new = g.D.Disk.seen c.write_list.new.disk in
    subst (λ (place : ℕ). IsReplaced place (closing_by o.is_other_open) start (segment c.args.entries.now) (numbers (o.generation + 1) start) old new) c.other_slot-other.ensures.other
    (subst (λ (text : List ℕ). IsReplaced c.other_slot-other.result (closing_by o.is_other_open) start text (numbers (o.generation + 1) start) old new) (c.deref.ensures.value ∙ c.in_ok-text.ensures)
    (subst (λ (nums : List ℕ). IsReplaced c.other_slot-other.result (closing_by o.is_other_open) start c.deref.result.now nums old new) (c.deref-2.ensures.value ∙ c.in_ok-behind.ensures)
    (c.in_default.ensures.bytes h)))

pub returns-clause-room : goal.returns-clause-room
returns-clause-room g c =
    let o = c.args.self.now.state in
    let entries = c.args.entries.now in
    let long : c.len.result ≡ length c.in_ok-text.text.items = search rules in
    let size : c.len.result ≡ length (segment entries) = long ∙ ap (λ (u : List ℕ). length u) c.in_ok-text.ensures in
    let text : length c.deref.result.now ≡ length (segment entries) = ap (λ (u : List ℕ). length u) (c.deref.ensures.value ∙ c.in_ok-text.ensures) in
    let start : c.new_start-start.result ≡ start_for o entries = c.new_start-start.ensures ∙ ap (λ (n : ℕ). if nat_le (42 + n) o.start then 42 else o.gate + 1) size in
    omega (arith, c.in_default.ensures.limit, start, text)
