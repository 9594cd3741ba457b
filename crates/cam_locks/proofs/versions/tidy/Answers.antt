use Rattle.std.proofs.Common.{List, [], ◌∷◌, ◌≡◌, false, subst, sym, ◌∙◌, arith}
use Rattle.cam_locks.specs.declared.versions.Version.{Version}
use Rattle.cam_locks.specs.Holding.{KeepsVersions, has_op}
use Rattle.std.proofs.lemmas.List.{append-nil}
use Rattle.cam_locks.specs.Kinds.{AreOfKind}
use Rattle.cam_locks.proofs.KindLaws.{kinds_left, kinds_fewer}
use Rattle.cam_locks.proofs.TidiedLocks.{versions_drop_last}
use Rattle.cam_locks.proofs.NewestVersions.{last_live, last_live_none}
use Rattle.cam_locks.proofs.versions.tidy.Goals as goal

pub returns-then-has-clause-kept : goal.returns-then-has-clause-kept
returns-then-has-clause-kept c = λ x start next h.
    subst (λ (vs : List Version). KeepsVersions x start c.args.committed.now.names c.args.live.now.ops next vs) (sym c.push_reserved.ensures.items)
    (c.drop_older.ensures.kept x start next
    (subst (λ (vs : List Version). KeepsVersions x start c.args.committed.now.names c.args.live.now.ops next vs) c.in-Some.ensures.items (c.loop-last.invariant.0 x start next h)))

pub loop-last-preserved-else-has : goal.loop-last-preserved-else-has
loop-last-preserved-else-has c = (
  λ x start next h.
      let dead : has_op c.args.live.now.ops c.in-Some.last.last.index ≡ false = sym c.has.ensures ∙ c.if-has.false in
      versions_drop_last x start c.args.committed.now.names c.args.live.now.ops next c.pop.new.self.items c.in-Some.last dead
      (subst (λ (vs : List Version). KeepsVersions x start c.args.committed.now.names c.args.live.now.ops next vs) c.in-Some.ensures.items (c.loop-last.invariant.0 x start next h)),
  λ k h. kinds_left k c.pop.new.self.items (c.in-Some.last ∷ []) (subst (AreOfKind k) c.in-Some.ensures.items (c.loop-last.invariant.1 k h)),
)

pub loop-last-preserved : goal.loop-last-preserved
loop-last-preserved c = (
  λ x start next h.
      let dead : has_op c.args.live.now.ops c.in-Some.last.last.index ≡ false = sym c.has.ensures ∙ c.if-has.false in
      versions_drop_last x start c.args.committed.now.names c.args.live.now.ops next c.pop.new.self.items c.in-Some.last dead
      (subst (λ (vs : List Version). KeepsVersions x start c.args.committed.now.names c.args.live.now.ops next vs) c.in-Some.ensures.items (c.loop-last.invariant.0 x start next h)),
  λ k h. kinds_left k c.pop.new.self.items (c.in-Some.last ∷ []) (subst (AreOfKind k) c.in-Some.ensures.items (c.loop-last.invariant.1 k h)),
)

pub returns-clause-kept : goal.returns-clause-kept
returns-clause-kept c = λ x start next h.
    subst (λ (vs : List Version). KeepsVersions x start c.args.committed.now.names c.args.live.now.ops next vs)
    (c.in_default.ensures.items ∙ append-nil c.pop.new.self.items) (c.loop-last.invariant.0 x start next h)

pub returns-then-has-clause-last : goal.returns-then-has-clause-last
returns-then-has-clause-last c =
    last_live c.args.live.now.ops c.push_reserved.new.self.items c.drop_older.new.versions.items c.in-Some.last c.push_reserved.ensures.items (sym c.has.ensures ∙ c.if-has.true)

pub returns-clause-last : goal.returns-clause-last
returns-clause-last c = last_live_none c.args.live.now.ops c.pop.new.self.items (omega (arith, c.in_default.ensures.cases.1, c.pop.new.self.ok))

pub returns-then-has-clause-kinds : goal.returns-then-has-clause-kinds
returns-then-has-clause-kinds c = λ k h.
    subst (AreOfKind k) (sym c.push_reserved.ensures.items)
    (kinds_fewer k c.pop.new.self.items c.drop_older.new.versions.items c.in-Some.last (c.drop_older.ensures.kinds k)
    (subst (AreOfKind k) c.in-Some.ensures.items (c.loop-last.invariant.1 k h)))

pub returns-clause-kinds : goal.returns-clause-kinds
returns-clause-kinds c = λ k h. subst (AreOfKind k) (c.in_default.ensures.items ∙ append-nil c.pop.new.self.items) (c.loop-last.invariant.1 k h)
