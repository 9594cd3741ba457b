use Rattle.std.proofs.Common.{◌≡◌, ◌∙◌, [], ◌∷◌, false, sym}
use Rattle.cam_ckpt.specs.Opening.{can_follow}
use Rattle.cam_recman.specs.declared.Record.TheVariants.{Count}
use Rattle.cam_recman.specs.Records.{entry_bytes}
use Rattle.cam_node.proofs.Reopened.{count_grows, count_says, not_replaced}
use Rattle.cam_node.proofs.restart.keep.Goals as goal

pub returns-in_err-append-clause-any_moment : goal.returns-in_err-append-clause-any_moment
returns-in_err-append-clause-any_moment g c = λ r tells says.
    let log = c.args.log.now in
    let new = c.append.new.self in
    let follows = can_follow (g.L.EntryLog.broken log) (g.L.EntryLog.generation log) in
    let shut : follows ≡ false = sym c.can_replace.ensures ∙ c.if-can_replace.false in
    let entry : c.as_slice.result.now ≡ entry_bytes (Count c.args.kept.now.count ∷ []) = c.as_slice.ensures.value ∙ c.in_ok-entry.ensures in
    count_grows (g.L.EntryLog.moment log) (g.L.EntryLog.moment new) (g.L.EntryLog.opens_since log) (g.L.EntryLog.opens_since new) (g.L.EntryLog.listed log)
    c.as_slice.result.now r c.args.kept.now follows shut entry c.requires.count says (c.append.ensures.any_moment tells)

pub returns-in_ok-append-clause-any_moment : goal.returns-in_ok-append-clause-any_moment
returns-in_ok-append-clause-any_moment g c = λ r tells says.
    let log = c.args.log.now in
    let new = c.append.new.self in
    let follows = can_follow (g.L.EntryLog.broken log) (g.L.EntryLog.generation log) in
    let shut : follows ≡ false = sym c.can_replace.ensures ∙ c.if-can_replace.false in
    let entry : c.as_slice.result.now ≡ entry_bytes (Count c.args.kept.now.count ∷ []) = c.as_slice.ensures.value ∙ c.in_ok-entry.ensures in
    count_grows (g.L.EntryLog.moment log) (g.L.EntryLog.moment new) (g.L.EntryLog.opens_since log) (g.L.EntryLog.opens_since new) (g.L.EntryLog.listed log)
    c.as_slice.result.now r c.args.kept.now follows shut entry c.requires.count says (c.append.ensures.any_moment tells)

pub returns-in_ok-append-clause-says : goal.returns-in_ok-append-clause-says
returns-in_ok-append-clause-says g c = λ r says.
    let log = c.args.log.now in
    let follows = can_follow (g.L.EntryLog.broken log) (g.L.EntryLog.generation log) in
    let shut : follows ≡ false = sym c.can_replace.ensures ∙ c.if-can_replace.false in
    let entry : c.as_slice.result.now ≡ entry_bytes (Count c.args.kept.now.count ∷ []) = c.as_slice.ensures.value ∙ c.in_ok-entry.ensures in
    count_says (g.L.EntryLog.listed log) (g.L.EntryLog.listed c.append.new.self) c.as_slice.result.now r c.args.kept.now follows shut c.in_ok-append.ensures.appended entry c.requires.count says

-- a list that cannot be replaced has the last number, and keeps it
pub returns-in_ok-append-clause-replaced : goal.returns-in_ok-append-clause-replaced
returns-in_ok-append-clause-replaced g c =
    let log = c.args.log.now in
    let new = c.append.new.self in
    not_replaced (g.L.EntryLog.broken log) (g.L.EntryLog.generation log)
    (g.L.EntryLog.generation new) c.args.kept.now (g.L.EntryLog.listed new) c.requires.whole
    (sym c.can_replace.ensures ∙ c.if-can_replace.false) c.append.ensures.generation
