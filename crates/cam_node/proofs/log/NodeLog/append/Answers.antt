use Rattle.std.proofs.Common.{◌≡◌, ◌∙◌, IsTrue, sym}
use Rattle.cam_recman.specs.Records.{entry_bytes}
use Rattle.cam_node.proofs.Moments.{grown_readable, grown_says, still_readable}
use Rattle.cam_node.proofs.log.NodeLog.append.Goals as goal

pub invariant_of-self-clause-stands : goal.invariant_of-self-clause-stands
invariant_of-self-clause-stands g c = λ runs.
    let old = c.args.self.now in
    let entry : c.as_slice.result.now ≡ entry_bytes c.args.records.now = c.as_slice.ensures.value ∙ c.in_ok-entry.ensures.value in
    grown_readable c.append-result.result (g.L.EntryLog.listed old.log) (g.L.EntryLog.listed c.append-result.new.self) c.args.records.now c.as_slice.result.now
    c.append-result.ensures.appended c.append-result.ensures.not_listed entry c.in_ok-entry.ensures.range c.requires.version (old.stands c.requires.running)

pub invariant_of-self-clause-readable : goal.invariant_of-self-clause-readable
invariant_of-self-clause-readable g c = λ opened tells left.
    let old = c.args.self.now in
    let new = c.append-result.new.self in
    let entry : c.as_slice.result.now ≡ entry_bytes c.args.records.now = c.as_slice.ensures.value ∙ c.in_ok-entry.ensures.value in
    let was : IsTrue (g.L.EntryLog.tells old.log) = sym c.append-result.ensures.tells ∙ tells in
    let grows = c.append-result.ensures.any_moment was in
    still_readable (g.L.EntryLog.moment old.log) (g.L.EntryLog.moment new) (g.L.EntryLog.opens_since old.log) (g.L.EntryLog.opens_since new)
    (g.L.EntryLog.listed old.log) c.args.records.now c.as_slice.result.now opened entry c.in_ok-entry.ensures.range c.requires.version
    (λ p there. old.readable p was there) (old.stands c.requires.running) grows
    (λ is. g.met.L.EntryLog.counts_now new (g.L.EntryLog.moment old.log) opened tells grows.later is) left

pub returns-clause-says : goal.returns-clause-says
returns-clause-says g c = λ r says.
    let entry : c.as_slice.result.now ≡ entry_bytes c.args.records.now = c.as_slice.ensures.value ∙ c.in_ok-entry.ensures.value in
    grown_says (g.L.EntryLog.listed c.args.self.now.log) (g.L.EntryLog.listed c.append-result.new.self) c.args.records.now c.as_slice.result.now r
    c.in_ok-result.ensures.appended entry c.in_ok-entry.ensures.range c.requires.version says
