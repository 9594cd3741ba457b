use Rattle.std.proofs.Common.{◌≡◌, ◌-◌, ◌≤◌, ◌^◌, length, take, vec_len, IsTrue, None}
use Rattle.cam_disk.specs.Disk.{Follows, Same}
use Rattle.cam_log.specs.Moments.{AddsNothing}
use Rattle.cam_log.proofs.device.read_whole.Given as goal

-- what was read is the front of what the disk holds, and nothing has happened to it
abbrev pub invariant-loop-bytes : goal.invariant-loop-bytes
invariant-loop-bytes g l =
    let was = l.initial.disk in
    record {
      tells : g.D.Disk.tells l.disk ≡ g.D.Disk.tells was;
      faults : g.D.Disk.faults was ≤ g.D.Disk.faults l.disk;
      within : g.D.Disk.faults_within was ≤ g.D.Disk.faults_within l.disk;
      front : IsTrue (g.D.Disk.tells was) → l.bytes.items ≡ take (length l.bytes.items) (g.D.Disk.seen was);
      seen : IsTrue (g.D.Disk.tells was) → g.D.Disk.seen l.disk ≡ g.D.Disk.seen was;
      crash : IsTrue (g.D.Disk.tells was) → Follows Same (g.D.Disk.may_leave was) (g.D.Disk.may_leave l.disk);
      unbounded : g.D.Disk.passes was ≡ None → g.D.Disk.passes l.disk ≡ None;
      any_moment : IsTrue (g.D.Disk.tells was) → AddsNothing (g.D.Disk.moment was) (g.D.Disk.moment l.disk) (g.D.Disk.left_since was) (g.D.Disk.left_since l.disk);
    }

abbrev pub decreases-loop-bytes : goal.decreases-loop-bytes
decreases-loop-bytes g l = 2 ^ 63 - vec_len l.bytes
