-- From one time to the next, and the next: no event is gone, and where none came all is as it was.
use Rattle.std.proofs.Common.{◌≡◌, ◌≤◌, ℕ, ◌+◌, refl, sym, ◌∙◌, subst, arith}
use Rattle.cam_workers.specs.Rest.{HasPassed, Stood, events}

module _ {S E L : Type 0} where
  -- nothing was done, for this holds
  pub stays : (Done : Stood S E L → Type 0) (now : Stood S E L) → Done now → HasPassed Done now now
  stays Done now done = record {
    later = omega arith;
    same = λ none. refl;
    done = λ none. done;
  }

  -- one after another
  pub and_then : (First Second Both : Stood S E L → Type 0) (one two three : Stood S E L)
      → ((now : Stood S E L) → First now → Second now → Both now) → HasPassed First one two
      → HasPassed Second two three → HasPassed Both one three
  and_then First Second Both one two three join first second =
      let early : events one ≤ events two = first.later in
      let late : events two ≤ events three = second.later in
      record {
        later = omega (arith, early, late);
        same = λ none.
            let before : events two ≡ events one = omega (arith, early, late, none) in
            let behind : events three ≡ events two = omega (arith, early, late, none) in
            second.same behind ∙ first.same before;
        done = λ none.
            let before : events two ≡ events one = omega (arith, early, late, none) in
            let behind : events three ≡ events two = omega (arith, early, late, none) in
            join one (first.done before) (subst Second (first.same before) (second.done behind));
      }

  -- an event came
  pub comes : (Done : Stood S E L → Type 0) (old new : Stood S E L) → events new ≡ events old + 1
      → HasPassed Done old new
  comes Done old new more = record {
    later = omega (arith, more);
    same = λ none. absurd (omega (arith, more, none));
    done = λ none. absurd (omega (arith, more, none));
  }

  -- all is as it was, and this holds
  pub stood_still : (Done : Stood S E L → Type 0) (old new : Stood S E L) → new ≡ old → Done old
      → HasPassed Done old new
  stood_still Done old new same done =
      subst (HasPassed Done old) (sym same) (stays Done old done)

  -- what follows, if all is as it was
  pub so : (First Second : Stood S E L → Type 0) (old new : Stood S E L)
      → (First old → Second old) → HasPassed First old new → HasPassed Second old new
  so First Second old new follows passed = record {
    later = passed.later;
    same = passed.same;
    done = λ none. follows (passed.done none);
  }
