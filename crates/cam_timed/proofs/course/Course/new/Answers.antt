use Rattle.std.proofs.Common.{ℕ, List, ap, arith}
use Rattle.std.specs.List.{list_any}
use Rattle.std.specs.Ordering.{nat_cmp}
use Rattle.std.specs.BTreeMap.{is_at}
use Rattle.cam_timed.proofs.course.Course.new.Goals as goal

pub returns : goal.returns
returns c = λ objects.
    record {
      machine = c.in_ok-new.ensures objects;
      delivered =
          λ k. ap (λ (keys : List ℕ). list_any (is_at (nat_cmp k)) keys) c.new-2.ensures.empty;
      lost =
          λ k. ap (λ (keys : List ℕ). list_any (is_at (nat_cmp k)) keys) c.new-3.ensures.empty;
      first = λ place before. absurd (omega (arith, before));
      marks = c.new-4.ensures;
      bound = c.new-5.ensures;
    }
