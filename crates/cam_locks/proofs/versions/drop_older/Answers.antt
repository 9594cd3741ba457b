use Rattle.std.proofs.Common.{List, ◌≡◌, ◌++◌, ◌∷◌, [], true, subst, sym, ◌∙◌, arith}
use Rattle.cam_locks.specs.declared.versions.Version.{Version}
use Rattle.cam_locks.specs.Holding.{KeepsVersions}
use Rattle.cam_locks.specs.Changes.{is_outdated}
use Rattle.std.proofs.lemmas.List.{append-nil}
use Rattle.cam_locks.specs.Kinds.{AreOfKind}
use Rattle.cam_locks.proofs.KindLaws.{kinds_left}
use Rattle.cam_locks.proofs.TidiedLocks.{versions_drop_before}
use Rattle.cam_locks.proofs.versions.drop_older.Goals as goal

pub returns-then-not-is_outdated-clause-kept : goal.returns-then-not-is_outdated-clause-kept
returns-then-not-is_outdated-clause-kept c = λ x start next h.
    subst (λ (vs : List Version). KeepsVersions x start c.args.committed.now.names c.args.live.now.ops next (vs ++ c.args.later.now ∷ []))
    (c.in-Some.ensures.items ∙ sym c.push_reserved.ensures.items) (c.loop-version.invariant.0 x start next h)

pub loop-version-preserved-else-not-is_outdated : goal.loop-version-preserved-else-not-is_outdated
loop-version-preserved-else-not-is_outdated c =
    let old : is_outdated c.args.committed.now.names c.args.live.now.ops c.in-Some.version c.args.later.now ≡ true = grind arith in
    let inv = c.loop-version.invariant in (
      λ x start next h.
          versions_drop_before x start c.args.committed.now.names c.args.live.now.ops next c.pop.new.self.items c.in-Some.version c.args.later.now c.requires old
          (subst (λ (vs : List Version). KeepsVersions x start c.args.committed.now.names c.args.live.now.ops next (vs ++ c.args.later.now ∷ [])) c.in-Some.ensures.items (inv.0 x start next h)),
      (let l = inv.1 in let k = c.in-Some.ensures.len in omega arith),
      c.pop.ensures.capacity ∙ inv.2,
      λ k h. kinds_left k c.pop.new.self.items (c.in-Some.version ∷ []) (subst (AreOfKind k) c.in-Some.ensures.items (inv.3 k h)),
    )

pub loop-version-preserved : goal.loop-version-preserved
loop-version-preserved c =
    let old : is_outdated c.args.committed.now.names c.args.live.now.ops c.in-Some.version c.args.later.now ≡ true = grind arith in
    let inv = c.loop-version.invariant in (
      λ x start next h.
          versions_drop_before x start c.args.committed.now.names c.args.live.now.ops next c.pop.new.self.items c.in-Some.version c.args.later.now c.requires old
          (subst (λ (vs : List Version). KeepsVersions x start c.args.committed.now.names c.args.live.now.ops next (vs ++ c.args.later.now ∷ [])) c.in-Some.ensures.items (inv.0 x start next h)),
      (let l = inv.1 in let k = c.in-Some.ensures.len in omega arith),
      c.pop.ensures.capacity ∙ inv.2,
      λ k h. kinds_left k c.pop.new.self.items (c.in-Some.version ∷ []) (subst (AreOfKind k) c.in-Some.ensures.items (inv.3 k h)),
    )

pub returns-clause-kept : goal.returns-clause-kept
returns-clause-kept c = λ x start next h.
    subst (λ (vs : List Version). KeepsVersions x start c.args.committed.now.names c.args.live.now.ops next (vs ++ c.args.later.now ∷ []))
    (c.in_default.ensures.items ∙ append-nil c.pop.new.self.items) (c.loop-version.invariant.0 x start next h)

pub returns-then-not-is_outdated-clause-kinds : goal.returns-then-not-is_outdated-clause-kinds
returns-then-not-is_outdated-clause-kinds c = λ k h.
    subst (AreOfKind k) (c.in-Some.ensures.items ∙ sym c.push_reserved.ensures.items) (c.loop-version.invariant.3 k h)

pub returns-clause-kinds : goal.returns-clause-kinds
returns-clause-kinds c = λ k h. subst (AreOfKind k) (c.in_default.ensures.items ∙ append-nil c.pop.new.self.items) (c.loop-version.invariant.3 k h)
