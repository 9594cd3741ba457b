use Rattle.std.proofs.Common.{◌≡◌, ◌+◌, length, get_or, ap, sym, ◌∙◌, arith}
use Rattle.std.proofs.lemmas.Result.{IfOk-equal}
use Rattle.cam_type.specs.Table.{kind_of}
use Rattle.cam_locks.specs.declared.versions.Version.{Version}
use Rattle.cam_locks.specs.Changes.{last_state}
use Rattle.cam_locks.proofs.KindLaws.{kind_at}
use Rattle.cam_locks.proofs.NewestVersions.{state_at}
use Rattle.cam_locks.proofs.versions.load_last.Goals as goal

pub load-requires : goal.load-requires
load-requires g c =
    let v = c.index-versions-last.result in
    ap (λ (u : Version). kind_of u.state) (sym c.index-versions-last.is)
    ∙ kind_at (kind_of c.args.start.now) c.args.versions.now c.in-Some.last v (omega (arith, c.in-Some.ensures)) c.index-versions-last.is c.requires.kinds
    ∙ sym c.requires.kind

pub returns-in-Some-clause-ok : goal.returns-in-Some-clause-ok
returns-in-Some-clause-ok g c =
    let vs = c.args.versions.now in
    let k = c.in-Some.last in
    let v = c.index-versions-last.result in
    let len : length vs ≡ k + 1 = omega (arith, c.in-Some.ensures) in
    IfOk-equal c.load.result (g.T.DataType.held c.load.new.self) (get_or vs k v).state (last_state c.args.start.now vs) c.load.ensures.loaded
    (ap (λ (u : Version). u.state) (sym c.index-versions-last.is) ∙ sym (state_at c.args.start.now vs k v len c.index-versions-last.is))
