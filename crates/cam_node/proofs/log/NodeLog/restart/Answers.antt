use Rattle.std.proofs.Common.{◌∙◌, IsTrue, Ok, refl, sym, ap}
use Rattle.cam_ckpt.specs.Opening.{can_follow}
use Rattle.cam_recman.proofs.Said.{said_is_recovered}
use Rattle.cam_node.specs.Opened.{is_readable, kept_by, CanRestart}
use Rattle.cam_node.proofs.Moments.{says_readable}
use Rattle.cam_node.proofs.Reopened.{spoiled_rose, restart_grows_as, not_both, replaced_after}
use Rattle.cam_node.proofs.log.NodeLog.restart.Goals as goal

pub returns-then-not-branch-clause-disk_fault : goal.returns-then-not-branch-clause-disk_fault
returns-then-not-branch-clause-disk_fault g c = λ may is.
    let old = c.args.self.now.log in
    let mid = c.read_again.new.log in
    let read = g.L.EntryLog.listed mid in
    spoiled_rose (g.L.EntryLog.tells mid) (g.L.EntryLog.faults old) (g.L.EntryLog.faults mid) (g.L.EntryLog.faults c.spoiled.new.log)
    (λ tells.
    let was : IsTrue (g.L.EntryLog.tells old) = sym c.read_again.ensures.tells ∙ tells in
    let can : CanRestart c.args.objects.now c.args.node c.in_ok-recovered.recovered =
    may (Ok read) was (c.in_ok-recovered.ensures.was was) read c.in_ok-recovered.recovered refl (said_is_recovered read c.in_ok-recovered.recovered c.in_ok-recovered.ensures.says).0 in
    not_both c.in_ok-can_restart.field-0 c.if-not-branch.true (c.in_ok-can_restart.ensures.1 can))
    c.read_again.ensures.later c.spoiled.ensures.rose

pub returns-in_err-keep-clause-any_moment : goal.returns-in_err-keep-clause-any_moment
returns-in_err-keep-clause-any_moment g c = λ tells.
    let old = c.args.self.now.log in
    let mid = c.read_again.new.log in
    let new = c.keep.new.log in
    let read = g.L.EntryLog.listed mid in
    let there : IsTrue (g.L.EntryLog.tells mid) = c.read_again.ensures.tells ∙ tells in
    restart_grows_as c.args.objects.now c.args.node (g.L.EntryLog.moment old) (g.L.EntryLog.moment mid) (g.L.EntryLog.moment new)
    (g.L.EntryLog.opens_since old) (g.L.EntryLog.opens_since mid) (g.L.EntryLog.opens_since new) read c.in_ok-recovered.recovered c.raise-kept.result
    (g.L.EntryLog.broken mid) (g.L.CheckpointLog.disk_generation old) (g.L.EntryLog.generation mid)
    (c.in_ok-recovered.ensures.disk_generation tells) c.in_ok-recovered.ensures.whole c.raise-kept.ensures c.in_ok-recovered.ensures.says
    (c.in_ok-can_restart.ensures.0 c.if-not-branch.false) (c.in_ok-recovered.ensures.was tells)
    (λ t le is. g.met.L.EntryLog.counts_now old t (Ok read) tells le is) (c.read_again.ensures.any_moment tells)
    (c.keep.ensures.any_moment c.in_ok-recovered.recovered there c.in_ok-recovered.ensures.says)

pub returns-clause-any_moment : goal.returns-clause-any_moment
returns-clause-any_moment g c = λ tells.
    let old = c.args.self.now.log in
    let mid = c.read_again.new.log in
    let new = c.keep.new.log in
    let read = g.L.EntryLog.listed mid in
    let there : IsTrue (g.L.EntryLog.tells mid) = c.read_again.ensures.tells ∙ tells in
    restart_grows_as c.args.objects.now c.args.node (g.L.EntryLog.moment old) (g.L.EntryLog.moment mid) (g.L.EntryLog.moment new)
    (g.L.EntryLog.opens_since old) (g.L.EntryLog.opens_since mid) (g.L.EntryLog.opens_since new) read c.in_ok-recovered.recovered c.raise-kept.result
    (g.L.EntryLog.broken mid) (g.L.CheckpointLog.disk_generation old) (g.L.EntryLog.generation mid)
    (c.in_ok-recovered.ensures.disk_generation tells) c.in_ok-recovered.ensures.whole c.raise-kept.ensures c.in_ok-recovered.ensures.says
    (c.in_ok-can_restart.ensures.0 c.if-not-branch.false) (c.in_ok-recovered.ensures.was tells)
    (λ t le is. g.met.L.EntryLog.counts_now old t (Ok read) tells le is) (c.read_again.ensures.any_moment tells)
    (c.keep.ensures.any_moment c.in_ok-recovered.recovered there c.in_ok-recovered.ensures.says)

pub invariant_of-self-2-clause-stands : goal.invariant_of-self-2-clause-stands
invariant_of-self-2-clause-stands g c = λ runs.
    let mid = c.read_again.new.log in
    says_readable (g.L.EntryLog.listed c.keep.new.log)
    (kept_by (can_follow (g.L.EntryLog.broken mid) (g.L.EntryLog.generation mid)) c.in_ok-recovered.recovered c.raise-kept.result)
    (c.in_ok-keep.ensures.says c.in_ok-recovered.recovered c.in_ok-recovered.ensures.says)

pub invariant_of-self-2-clause-readable : goal.invariant_of-self-2-clause-readable
invariant_of-self-2-clause-readable g c = λ opened tells left.
    let mid = c.read_again.new.log in
    ap is_readable (g.met.L.EntryLog.at_rest c.keep.new.log opened tells c.in_ok-keep.ensures.whole left)
    ∙ says_readable (g.L.EntryLog.listed c.keep.new.log)
    (kept_by (can_follow (g.L.EntryLog.broken mid) (g.L.EntryLog.generation mid)) c.in_ok-recovered.recovered c.raise-kept.result)
    (c.in_ok-keep.ensures.says c.in_ok-recovered.recovered c.in_ok-recovered.ensures.says)

pub returns-clause-restarted : goal.returns-clause-restarted
returns-clause-restarted g c =
    let mid = c.read_again.new.log in
    record {
      restarts = record {
        read = g.L.EntryLog.listed mid;
        was = c.in_ok-recovered.ensures.was;
        restarted = record {
          recovered = c.in_ok-recovered.recovered;
          says = c.in_ok-recovered.ensures.says;
          can = c.in_ok-can_restart.ensures.0 c.if-not-branch.false;
          is = c.raise-kept.ensures;
          replaced = can_follow (g.L.EntryLog.broken mid) (g.L.EntryLog.generation mid);
          left = c.in_ok-keep.ensures.kept;
          says_now =
              c.in_ok-keep.ensures.says c.in_ok-recovered.recovered
              c.in_ok-recovered.ensures.says;
        };
      };
      counts = c.known_counts-counts.ensures;
    }

-- that is what the log reads
pub returns-clause-read_now : goal.returns-clause-read_now
returns-clause-read_now g c =
    let mid = c.read_again.new.log in
    record {
      restarts = record {
        read = g.L.EntryLog.listed mid;
        was = c.in_ok-recovered.ensures.read_now;
        restarted = record {
          recovered = c.in_ok-recovered.recovered;
          says = c.in_ok-recovered.ensures.says;
          can = c.in_ok-can_restart.ensures.0 c.if-not-branch.false;
          is = c.raise-kept.ensures;
          replaced = can_follow (g.L.EntryLog.broken mid) (g.L.EntryLog.generation mid);
          left = c.in_ok-keep.ensures.kept;
          says_now =
              c.in_ok-keep.ensures.says c.in_ok-recovered.recovered
              c.in_ok-recovered.ensures.says;
        };
      };
      counts = c.known_counts-counts.ensures;
    }

-- the list that was read had the number of the disk
pub returns-clause-replaced_after : goal.returns-clause-replaced_after
returns-clause-replaced_after g c = λ tells.
    let mid = c.read_again.new.log in
    replaced_after (g.L.EntryLog.broken mid) (g.L.EntryLog.generation mid)
    (g.L.CheckpointLog.disk_generation c.args.self.now.log) (g.L.EntryLog.listed mid)
    (g.L.EntryLog.listed c.keep.new.log) c.raise-kept.result c.in_ok-recovered.ensures.whole
    (c.in_ok-recovered.ensures.disk_generation tells) c.in_ok-keep.ensures.kept
