-- The line `go`.
use Rattle.std.proofs.Common.{◌≡◌, pos, ◌-◌, ◌++◌, ◌∷◌, [], true, false, None, Err, refl, sym, ap}
use Rattle.std.proofs.Common.{◌∙◌, subst, rules, arith}
use Rattle.std.proofs.lemmas.Grind.{common_steps}
use Rattle.cam_cluster.specs.declared.LineFault.TheVariants as line_faults
use Rattle.cam_cluster.specs.GoLines.{IsLineOfGo}
use Rattle.cam_cluster.specs.SoFar.{LinesFields}
use Rattle.cam_cluster.proofs.AsSeen.{lines_of, reads_of, works_of}
use Rattle.cam_cluster.proofs.DisksGoOn.{goes_on_still}
use Rattle.cam_cluster.proofs.GoLine.{go_wanting, goes_of_some, gone_line}
use Rattle.cam_cluster.proofs.GoTests.{go_halted, go_refused, go_runs, go_unbound}
use Rattle.cam_cluster.proofs.SeenGo.{home_at, home_halted, home_low, home_seen, home_there}
use Rattle.cam_cluster.proofs.lines.Lines.go.Goals as goal

pub returns-in_default : goal.returns-in_default
returns-in_default g c =
    let old = lines_of g.L.CheckpointLog g.L.EntryLog c.args.self.now in
    let might = reads_of g.L.CheckpointLog g.L.EntryLog c.args.self.now.works in
    let new = lines_of g.L.CheckpointLog g.L.EntryLog c.refused.new.self in
    let may = reads_of g.L.CheckpointLog g.L.EntryLog c.refused.new.self.works in
    record {
      line =
          go_unbound c.args.line c.args.action c.args.bodies.now old new might may
          c.args.workers.now c.requires.go (sym c.in_default.ensures) c.refused.result
          c.refused.ensures.refused;
      disks = c.refused.ensures.disks;
    }

pub overflow_cast-place : goal.overflow_cast-place
overflow_cast-place g c = search rules

pub overflow_sub-place : goal.overflow_sub-place
overflow_sub-place g c =
    home_low c.args.line c.args.action c.args.bodies.now c.args.self.now c.args.workers.now
    c.requires.go c.in-Some.name (sym c.in-Some.ensures) c.home.result _ c.home.ensures

pub returns-then-is_halted : goal.returns-then-is_halted
returns-then-is_halted g c =
    let old = lines_of g.L.CheckpointLog g.L.EntryLog c.args.self.now in
    let might = reads_of g.L.CheckpointLog g.L.EntryLog c.args.self.now.works in
    let new = lines_of g.L.CheckpointLog g.L.EntryLog c.refused-then-is_halted.new.self in
    let may = reads_of g.L.CheckpointLog g.L.EntryLog c.refused-then-is_halted.new.self.works in
    let home =
    home_at c.args.line c.args.action c.args.bodies.now c.args.self.now c.args.workers.now
    c.requires.go c.in-Some.name (sym c.in-Some.ensures) c.home.result _ c.home.ensures in
    let runs =
    home_halted c.args.line c.args.action c.args.bodies.now c.args.self.now c.args.workers.now
    c.requires.go c.in-Some.name (sym c.in-Some.ensures) c.home.result _ c.home.ensures
    c.is_halted.result true c.is_halted.ensures c.if-is_halted.true in
    record {
      line =
          go_halted c.args.line c.args.action c.args.bodies.now old new might may
          c.args.workers.now c.requires.go c.in-Some.name (sym c.in-Some.ensures)
          (c.home.result.0 - 1) home runs c.refused-then-is_halted.result
          c.refused-then-is_halted.ensures.refused;
      disks = c.refused-then-is_halted.ensures.disks;
    }

pub index-requires : goal.index-requires
index-requires g c =
    let item =
    home_there c.args.line c.args.action c.args.bodies.now c.args.self.now c.args.workers.now
    c.requires.go c.in-Some.name (sym c.in-Some.ensures) _ _ c.home.ensures in
    first_of (search rules, grind (arith, common_steps, item))

pub returns-in-Some-refusal : goal.returns-in-Some-refusal
returns-in-Some-refusal g c =
    let old = lines_of g.L.CheckpointLog g.L.EntryLog c.args.self.now in
    let might = reads_of g.L.CheckpointLog g.L.EntryLog c.args.self.now.works in
    let new = lines_of g.L.CheckpointLog g.L.EntryLog c.refused-in-Some-refusal.new.self in
    let may = reads_of g.L.CheckpointLog g.L.EntryLog c.refused-in-Some-refusal.new.self.works in
    let home =
    home_at c.args.line c.args.action c.args.bodies.now c.args.self.now c.args.workers.now
    c.requires.go c.in-Some.name (sym c.in-Some.ensures) c.home.result _ c.home.ensures in
    let runs =
    home_halted c.args.line c.args.action c.args.bodies.now c.args.self.now c.args.workers.now
    c.requires.go c.in-Some.name (sym c.in-Some.ensures) c.home.result _ c.home.ensures
    c.is_halted.result false c.is_halted.ensures c.if-is_halted.false in
    let seen =
    home_seen c.args.line c.args.action c.args.bodies.now c.args.self.now c.args.workers.now
    c.requires.go c.in-Some.name (sym c.in-Some.ensures) c.home.result _ c.home.ensures
    c.index.result.now c.index.ensures in
    let free = go_runs c.args.line c.args.action c.args.bodies.now old old might might
    c.args.workers.now c.requires.go c.in-Some.name (sym c.in-Some.ensures)
    (c.home.result.0 - 1) home runs _ seen in
    record {
      line =
          go_refused c.args.line c.args.action c.args.bodies.now old new might may
          c.args.workers.now c.requires.go c.in-Some.name (sym c.in-Some.ensures)
          (c.home.result.0 - 1) home runs _ seen (pos 0) _ (c.in-Some-refusal.ensures.rule free)
          c.in-Some-refusal.refusal refl c.refused-in-Some-refusal.result
          c.refused-in-Some-refusal.ensures.refused;
      disks = c.refused-in-Some-refusal.ensures.disks;
    }

pub returns-in_err-reserve_one : goal.returns-in_err-reserve_one
returns-in_err-reserve_one g c =
    let old = lines_of g.L.CheckpointLog g.L.EntryLog c.args.self.now in
    let might = reads_of g.L.CheckpointLog g.L.EntryLog c.args.self.now.works in
    let new : LinesFields = record { works = old.works; bound = c.reserve_one.new.list.items } in
    let wants : c.from_residual.result ≡ Err line_faults.NoMemory = search rules in
    record {
      line =
          subst (λ r. IsLineOfGo c.args.line c.args.action c.args.bodies.now old might
          c.args.workers.now new might c.args.workers.now r) (sym wants)
          (go_wanting c.args.line c.args.action c.args.bodies.now old new might might
          c.args.workers.now c.requires.go (λ script st is keeps. keeps) c.reserve_one.ensures.same
          c.args.workers.now (λ script st keeps are. are));
      disks = goes_on_still;
    }

pub go-requires : goal.go-requires
go-requires g c =
    let old = lines_of g.L.CheckpointLog g.L.EntryLog c.args.self.now in
    let might = reads_of g.L.CheckpointLog g.L.EntryLog c.args.self.now.works in
    let home =
    home_at c.args.line c.args.action c.args.bodies.now c.args.self.now c.args.workers.now
    c.requires.go c.in-Some.name (sym c.in-Some.ensures) c.home.result _ c.home.ensures in
    let runs =
    home_halted c.args.line c.args.action c.args.bodies.now c.args.self.now c.args.workers.now
    c.requires.go c.in-Some.name (sym c.in-Some.ensures) c.home.result _ c.home.ensures
    c.is_halted.result false c.is_halted.ensures c.if-is_halted.false in
    let seen =
    home_seen c.args.line c.args.action c.args.bodies.now c.args.self.now c.args.workers.now
    c.requires.go c.in-Some.name (sym c.in-Some.ensures) c.home.result _ c.home.ensures
    c.index.result.now c.index.ensures in
    let free = go_runs c.args.line c.args.action c.args.bodies.now old old might might
    c.args.workers.now c.requires.go c.in-Some.name (sym c.in-Some.ensures)
    (c.home.result.0 - 1) home runs _ seen in
    record {
      goes =
          goes_of_some c.args.line c.args.action c.args.bodies.now old old might might
          c.args.workers.now c.requires.go c.in-Some.name (sym c.in-Some.ensures)
          (c.home.result.0 - 1) home runs _ seen (pos 0) None (c.in_default-refusal.ensures.rule free)
          refl;
    }

pub returns-in_err-done : goal.returns-in_err-done
returns-in_err-done g c =
    let old = lines_of g.L.CheckpointLog g.L.EntryLog c.args.self.now in
    let might = reads_of g.L.CheckpointLog g.L.EntryLog c.args.self.now.works in
    let new : LinesFields = record {
      works = works_of g.L.CheckpointLog g.L.EntryLog c.go.new.self;
      bound = c.reserve_one.new.list.items;
    } in
    let may = reads_of g.L.CheckpointLog g.L.EntryLog c.go.new.self in
    let wants : c.from_residual-in_err-done.result ≡ Err line_faults.NoMemory = search rules in
    record {
      line =
          subst (λ r. IsLineOfGo c.args.line c.args.action c.args.bodies.now old might
          c.args.workers.now new may c.go.new.workers r) (sym wants)
          (go_wanting c.args.line c.args.action c.args.bodies.now old new might may
          c.args.workers.now c.requires.go c.in_err-done.ensures.as_before
          c.reserve_one.ensures.same
          c.go.new.workers c.in_err-done.ensures.workers_as_before);
      disks = c.go.ensures.disks;
    }

pub push_reserved-requires : goal.push_reserved-requires
push_reserved-requires g c = c.in_ok-reserve_one.ensures.room

pub returns : goal.returns
returns g c =
    let old = lines_of g.L.CheckpointLog g.L.EntryLog c.args.self.now in
    let might = reads_of g.L.CheckpointLog g.L.EntryLog c.args.self.now.works in
    let new : LinesFields = record {
      works = works_of g.L.CheckpointLog g.L.EntryLog c.go.new.self;
      bound = c.push_reserved.new.list.items;
    } in
    let may = reads_of g.L.CheckpointLog g.L.EntryLog c.go.new.self in
    let home =
    home_at c.args.line c.args.action c.args.bodies.now c.args.self.now c.args.workers.now
    c.requires.go c.in-Some.name (sym c.in-Some.ensures) c.home.result _ c.home.ensures in
    let runs =
    home_halted c.args.line c.args.action c.args.bodies.now c.args.self.now c.args.workers.now
    c.requires.go c.in-Some.name (sym c.in-Some.ensures) c.home.result _ c.home.ensures
    c.is_halted.result false c.is_halted.ensures c.if-is_halted.false in
    let seen =
    home_seen c.args.line c.args.action c.args.bodies.now c.args.self.now c.args.workers.now
    c.requires.go c.in-Some.name (sym c.in-Some.ensures) c.home.result _ c.home.ensures
    c.index.result.now c.index.ensures in
    let free = go_runs c.args.line c.args.action c.args.bodies.now old old might might
    c.args.workers.now c.requires.go c.in-Some.name (sym c.in-Some.ensures)
    (c.home.result.0 - 1) home runs _ seen in
    record {
      line =
          gone_line c.args.line c.args.action c.args.bodies.now old new might may
          c.args.workers.now c.requires.go c.in-Some.name (sym c.in-Some.ensures)
          (c.home.result.0 - 1) home runs _ seen (pos 0) None (c.in_default-refusal.ensures.rule free) refl
          c.go.new.workers c.in_ok-done.done c.in_ok-done.ensures.gone
          (c.push_reserved.ensures ∙ ap (λ bs. bs ++ None ∷ []) c.reserve_one.ensures.same);
      disks = c.go.ensures.disks;
    }
