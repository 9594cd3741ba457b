-- What leads to a later moment of a site's run.
use Rattle.std.proofs.Common.{◌≡◌, ◌⊎◌, ℕ, ◌≤◌, not, [], ◌∷◌, Option, Some, None, refl, ap, ◌∙◌, arith}
use Rattle.std.proofs.Math.Logic.{inl, inr}
use Rattle.cam_names.specs.declared.name.Name.{Name}
use Rattle.cam_type.specs.declared.Op.{Op}
use Rattle.cam_locks.specs.declared.LiveOp.{LiveOp}
use Rattle.cam_locks.specs.Members.{In}
use Rattle.cam_locks.specs.Site.{Site}
use Rattle.cam_locks.specs.Moss.{holder}
use Rattle.cam_locks.specs.Calls.{is_below, site_by, after_grant, with_operation, with_commit, with_abort}
use Rattle.cam_locks.specs.Secured.{IsLater}
use Rattle.cam_locks.proofs.Members.{in_either, in_last, in_filter}
use Rattle.cam_locks.proofs.SecuredRuns.{later_itself}

operation_later : (site : Site) (a : Name) (x : ℕ) (op : Op) → IsLater site (with_operation site a x op)
operation_later site a x op = record { objects = refl; node = refl; next = omega arith; live = λ o h. by_place o (in_either o site.live (new ∷ []) h) }
  where
    new : LiveOp
    new = record { index = site.next; action = a; object = x; op = op }

    by_place : (o : LiveOp) → In o site.live ⊎ In o (new ∷ []) → In o site.live ⊎ (site.next ≤ o.index)
    by_place o (inl k) = inl k
    by_place o (inr k) = let is : o.index ≡ site.next = ap (λ (p : LiveOp). p.index) (in_last o new k) in inr (omega arith)

-- a grant leads to a later moment
pub grant_later : (site : Site) (a : Name) (x : ℕ) (op : Op) → IsLater site (after_grant site a x op)
grant_later site a x op = by_holder (holder site a x op)
  where
    by_holder : (r : Option Name) → IsLater site (site_by r site (with_operation site a x op))
    by_holder (Some u) = later_itself site
    by_holder None = operation_later site a x op

-- so do a commit and an abort
pub outcome_later : (site : Site) (a : Name) → IsLater site (with_commit site a) × IsLater site (with_abort site a)
outcome_later site a = (
  record { objects = refl; node = refl; next = omega arith; live = λ o h. inl h },
  record { objects = refl; node = refl; next = omega arith; live = λ o h. inl (in_filter (λ p. not (is_below a p)) o site.live h).0 },
)

-- what is later than a later moment is later
pub later_on : (site mid end : Site) → IsLater site mid → IsLater mid end → IsLater site end
later_on site mid end one other = record {
  objects = other.objects ∙ one.objects;
  node = other.node ∙ one.node;
  next = let first : site.next ≤ mid.next = one.next in let second : mid.next ≤ end.next = other.next in omega arith;
  live = λ o h. by_moment o (other.live o h);
}
  where
    by_moment : (o : LiveOp) → In o mid.live ⊎ (mid.next ≤ o.index) → In o site.live ⊎ (site.next ≤ o.index)
    by_moment o (inl k) = one.live o k
    by_moment o (inr since) = let first : site.next ≤ mid.next = one.next in inr (omega arith)
