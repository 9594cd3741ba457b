-- Which of the actions that work at a body play on: one that comes into the table does, and who
-- does
-- not stays over.
use Rattle.std.proofs.Common.{◌≡◌, inl, inr, ℕ, Bool, true, false, not, ◌||◌, cond, List, ◌++◌}
use Rattle.std.proofs.Common.{Option, Some, None, refl, sym, ap, ◌∙◌, subst}
use Rattle.std.specs.Prelude.{is_some}
use Rattle.std.specs.Ordering.{is_eq}
use Rattle.std.specs.BTreeMap as maps
use Rattle.std.specs.BTreeMap.{BTreeMap, get, is_at}
use Rattle.std.specs.BTreeSet as sets
use Rattle.std.specs.BTreeSet.{BTreeSet, contains}
use Rattle.std.specs.List.{list_any}
use Rattle.std.specs.Map.{lookup}
use Rattle.std.proofs.lemmas.Bool.{cases_Bool, true≢false}
use Rattle.cam_names.specs.declared.name.Name.{Name}
use Rattle.cam_names.specs.Names.{name_cmp}
use Rattle.cam_names.proofs.Names.{name_eq_same, name_ties}
use Rattle.cam_event.specs.declared.Event.{Event}
use Rattle.cam_runs.specs.HaltedPlaying.{given_body}
use Rattle.cam_runs.specs.Playing.{body_number}
use Rattle.cam_runs.specs.Standing.{Standing}
use Rattle.cam_cluster.specs.declared.workers.Workers.{Workers}
use Rattle.cam_cluster.specs.Over.{is_over}
use Rattle.cam_cluster.specs.Workers.{ArePlaying}
use Rattle.cam_cluster.proofs.InOrder.{body_number_more}
use Rattle.cam_cluster.proofs.Over.{over_later}

-- names that are equal in their order are one
pub tied : (a b : Name) → is_eq (name_cmp a b) ≡ true → a ≡ b
tied a b same = name_eq_same _ _ (name_ties a b ∙ same)

-- Further events leave who is over so.
pub playing_stay : (old new : Standing) (workers : Workers) (more : List Event)
    → new.running.bodies ≡ old.running.bodies → new.running.trace ≡ more ++ old.running.trace
    → ArePlaying old workers → ArePlaying new workers
playing_stay old new workers more bodies trace are = record {
  ordered = are.ordered;
  at_body = λ a plays. ap (λ (given : List (Name × ℕ)). is_some (body_number given a)) bodies ∙
      are.at_body a plays;
  others = λ a out. rw trace (over_later more _ a (are.others a out));
}

-- The same of them play on, of the same table.
pub same_playing : (st : Standing) (old new : Workers) → new.bodies ≡ old.bodies
    → new.playing ≡ old.playing → ArePlaying st old → ArePlaying st new
same_playing st old new bodies playing are = record {
  ordered = rw playing are.ordered;
  at_body = λ a plays. are.at_body a (ap (λ (s : BTreeSet Name). contains name_cmp s a) (sym
      playing) ∙ plays);
  others = λ a out. are.others a (ap (λ (s : BTreeSet Name). contains name_cmp s a || not (is_some
      (get name_cmp old.bodies a))) (sym playing) ∙ ap (λ (m : BTreeMap Name ℕ). contains name_cmp
      new.playing a || not (is_some (get name_cmp m a))) (sym bodies) ∙ out);
}

-- An action that has no body is given one.
pub given_playing : (st : Standing) (a : Name) (body : ℕ) (workers : Workers)
    → body_number st.running.bodies a ≡ None → ArePlaying st workers
    → ArePlaying (given_body (Some body) (Some a) st) workers
given_playing st a body workers bare are = record {
  ordered = are.ordered;
  at_body = λ q plays. ap is_some (body_number_more _ _ body q bare) ∙ by (is_eq (name_cmp a q))
      (body_number st.running.bodies q) (are.at_body q plays);
  others = are.others;
}
  where
    by : (t : Bool) (o : Option ℕ) → is_some o ≡ true → is_some (cond t (Some body) o) ≡ true
    by true o there = refl
    by false o there = there

-- Where nothing is in the table none plays on.
pub none_playing : (st : Standing) (workers : Workers) → maps.IsEmpty workers.bodies
    → sets.IsEmpty workers.playing → sets.IsOrdered name_cmp workers.playing
    → ArePlaying st workers
none_playing st workers bare none ordered = record {
  ordered = ordered;
  at_body = λ a plays. absurd (true≢false (sym plays ∙ without a));
  others = λ a out.
      absurd (true≢false
      (sym
      (ap (λ (b : Bool). b || not (is_some (get name_cmp workers.bodies a))) (without a)
      ∙ ap (λ (es : List (Name × ℕ)). not (is_some (lookup (is_at (name_cmp a)) es))) bare)
      ∙ out));
}
  where
    without : (a : Name) → contains name_cmp workers.playing a ≡ false
    without a = ap (λ (ks : List Name). list_any (is_at (name_cmp a)) ks) none

-- what is said of a name that was put in or taken out, and of another
put_in : (t now was n m : Bool) → now ≡ cond t true was → (t ≡ false → n ≡ m)
    → (now || not n) ≡ false → (was || not m) ≡ false
put_in true now was n m is same out =
    absurd (true≢false (sym (ap (λ (b : Bool). b || not n) is) ∙ out))
put_in false now was n m is same out =
    sym (ap (λ (b : Bool). b || not n) is ∙ ap (λ (b : Bool). was || not b) (same refl)) ∙ out

-- An action with a body plays on, whether or not it has come into the table.
pub one_plays : (st : Standing) (a : Name) (old new : Workers)
    → is_some (body_number st.running.bodies a) ≡ true
    → sets.IsOrdered name_cmp new.playing
    → ((q : Name) → contains name_cmp new.playing q
    ≡ cond (is_eq (name_cmp a q)) true (contains name_cmp old.playing q))
    → ((q : Name) → is_eq (name_cmp a q) ≡ false
    → get name_cmp new.bodies q ≡ get name_cmp old.bodies q)
    → ArePlaying st old → ArePlaying st new
one_plays st a old new there ordered put others are = record {
  ordered = ordered;
  at_body = λ q plays. elim (cases_Bool (is_eq (name_cmp a q))) [
    | inl same ↦
        subst (λ (n : Name). is_some (body_number st.running.bodies n) ≡ true) (tied _ _ same) there
    | inr other ↦
        are.at_body q (sym (put q ∙ ap (λ (t : Bool). cond t true (contains name_cmp old.playing q))
        other) ∙ plays)
  ];
  others = λ q out. are.others q (put_in _ _ _ _ _ (put q) (λ other. ap is_some (others q
      other)) out);
}

-- One that is over does not play on.
pub one_passed_over : (st : Standing) (a : Name) (old new : Workers)
    → new.bodies ≡ old.bodies → sets.IsOrdered name_cmp new.playing
    → ((q : Name) → contains name_cmp new.playing q
    ≡ cond (is_eq (name_cmp a q)) false (contains name_cmp old.playing q))
    → is_over st.running.trace a ≡ true → ArePlaying st old → ArePlaying st new
one_passed_over st a old new bodies ordered taken over are = record {
  ordered = ordered;
  at_body = λ q plays. elim (cases_Bool (is_eq (name_cmp a q))) [
    | inl same ↦
        absurd (true≢false (sym plays ∙ taken q ∙ ap (λ (t : Bool). cond t false (contains name_cmp
        old.playing q)) same))
    | inr other ↦
        are.at_body q (sym (stays q other) ∙ plays)
  ];
  others = λ q out. elim (cases_Bool (is_eq (name_cmp a q))) [
    | inl same ↦
        rw (← (tied a q same)) over
    | inr other ↦
        are.others q (sym (ap (λ (b : Bool). b || not (is_some (get name_cmp new.bodies q))) (stays
        q other) ∙ ap (λ (m : BTreeMap Name ℕ). contains name_cmp old.playing q || not (is_some (get
        name_cmp m q))) bodies) ∙ out)
  ];
}
  where
    stays : (q : Name) → is_eq (name_cmp a q) ≡ false
        → contains name_cmp new.playing q ≡ contains name_cmp old.playing q
    stays q other =
        taken q ∙ ap (λ (t : Bool). cond t false (contains name_cmp old.playing q)) other
