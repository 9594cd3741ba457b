-- The run of the lines so far where the last halt of a node that is halted was taken.
use Rattle.std.proofs.Common.{◌≡◌, ℕ, ◌<◌, Bool, true, false, if◌then◌else◌}
use Rattle.std.proofs.Common.{List, [], ◌∷◌, length, sym, ap, ◌∙◌, subst}
use Rattle.std.specs.Prelude.{slice_get}
use Rattle.std.specs.List.{AllByRecursion}
use Rattle.std.proofs.lemmas.Option.{same_Some}
use Rattle.cam_event.specs.Readings.{by_pasts}
use Rattle.cam_node.specs.Log.{Logged}
use Rattle.cam_runs.specs.Halts.{Halt, Turn, accepted}
use Rattle.cam_runs.specs.Running.{has_number}
use Rattle.cam_runs.specs.Standing.{Standing, ended_halt}
use Rattle.cam_runs.proofs.Range.{script_in_range}
use Rattle.cam_script.specs.declared.Step.{Step}
use Rattle.cam_histories.specs.Found.{IsBeyond, IsFound, last_input}
use Rattle.cam_cluster.specs.Between.{KeepsBetween, seen_found}
use Rattle.cam_cluster.specs.FoundHalts.{AreLostSoFar, AreNewestFirst, IsLastHalt, IsLostSoFar}
use Rattle.cam_cluster.specs.FoundHalts.{IsPutIn, input_node, is_at, with_taken}
use Rattle.cam_cluster.specs.Seen.{IsNextStep, Seen, lines_taken, run_of_lines}
use Rattle.cam_cluster.specs.SoFar.{LinesFields}
use Rattle.cam_cluster.proofs.FoundHalts.{found_lines_put_in}
use Rattle.cam_cluster.proofs.GoesOn.{IsRunSoFar}
use Rattle.cam_cluster.proofs.HaltsDiffer.{says_taken}
use Rattle.cam_cluster.proofs.LastInputs.{last_node}
use Rattle.cam_cluster.proofs.LinesUnder.{lines_are_under_halts}
use Rattle.cam_cluster.proofs.LostLines.{ended_lost}

-- To find a halt taken changes no input of the halts.
module _ (turns : List Turn) (s : ℕ) where
  pub all_taken : (P : ℕ → Type 0) (halts : List Halt)
      → AllByRecursion (λ (h : Halt). P h.input) halts
      → AllByRecursion (λ (h : Halt). P h.input) (with_taken turns s halts)
  all_taken P [] all = tt
  all_taken P (h ∷ hs) all = by (is_at (input_node turns h.input) s) (all_taken P hs all.1)
    where
      by : (b : Bool)
          → AllByRecursion (λ (g : Halt). P g.input) (with_taken turns s hs)
          → AllByRecursion (λ (g : Halt). P g.input)
          (if b then record h { took = true } ∷ hs else h ∷ with_taken turns s hs)
      by true rest = (all.0, all.1)
      by false rest = (all.0, rest)

  newest_taken : (halts : List Halt) → AreNewestFirst halts
      → AreNewestFirst (with_taken turns s halts)
  newest_taken [] newest = tt
  newest_taken (h ∷ hs) newest =
      by (is_at (input_node turns h.input) s) (newest_taken hs newest.1)
    where
      by : (b : Bool) → AreNewestFirst (with_taken turns s hs)
          → AreNewestFirst (if b then record h { took = true } ∷ hs else h ∷ with_taken turns s hs)
      by true rest = (newest.0, newest.1)
      by false rest = (all_taken (λ (n : ℕ). n < h.input) hs newest.0, rest)

module _ (seen : Seen) (lines : LinesFields) (may : ℕ → Logged → Type 0)
    (keeps : KeepsBetween seen lines may) (s : ℕ)
    (halted : has_number seen.standing.halted s ≡ true)
  where
    abbrev pub from : Seen
    from = seen_found seen s

    abbrev last : IsLostSoFar seen.standing.turns seen.halts s
    last = keeps.lost s halted

    pub put_in : IsPutIn seen.script.objects last.number s seen.standing from.standing
    put_in =
        subst
        (λ (st : Standing). IsPutIn seen.script.objects last.number s st
        (run_of_lines by_pasts seen.script (with_taken st.turns s seen.halts) (lines_taken seen)))
        (sym keeps.between)
        (found_lines_put_in seen.script seen.halts (lines_taken seen) s last.number
        (script_in_range seen.script keeps.is_script)
        (subst (λ (st : Standing). IsLastHalt st seen.halts s last.number) keeps.between
        (record { newest = keeps.newest; halted = halted; last = last.last; lost = last.lost })))

    -- It is the run so far with the event put in,
    pub beyond : IsBeyond seen.script.objects last.number s put_in.before put_in.event seen.standing
        from.standing
    beyond = put_in.beyond

    abbrev pub stands : IsFound s put_in.before put_in.event seen.standing from.standing
    stands = put_in.beyond.stands

    pub turns_same : from.standing.turns ≡ seen.standing.turns
    turns_same = ap (λ (st : Standing). st.turns) stands.is

    pub bound_same : lines_taken from ≡ lines_taken seen
    bound_same = ap (λ (st : Standing). length st.running.bound) stands.is

    pub bodies_stay_found : from.standing.running.bodies ≡ seen.standing.running.bodies
    bodies_stay_found = ap (λ (st : Standing). st.running.bodies) stands.is

    pub found_so_far : IsRunSoFar from
    found_so_far = record {
      is_script = keeps.is_script;
      under =
          lines_are_under_halts seen.script from.halts (lines_taken seen)
          (script_in_range seen.script keeps.is_script);
      between = ap (run_of_lines by_pasts seen.script from.halts) (sym bound_same);
      newest = newest_taken seen.standing.turns s seen.halts keeps.newest;
      past =
          all_taken seen.standing.turns s (λ (n : ℕ). n < accepted from.standing.turns) seen.halts
          (subst (λ (ts : List Turn). AllByRecursion (λ (h : Halt). h.input < accepted ts)
          seen.halts) (sym turns_same) keeps.past);
    }

    pub found_next : (step : Step) → IsNextStep seen step → IsNextStep from step
    found_next step next = ap (slice_get seen.script.steps) bound_same ∙ next

    -- and the halts of other nodes are those that they were.
    other_lost : (m : ℕ) → (s ≡ m → ⊥) → has_number from.standing.halted m ≡ true
        → IsLostSoFar from.standing.turns from.halts m
    other_lost m away is =
        let was =
        keeps.lost m
        (ap (λ (st : Standing). has_number st.halted m) (sym stands.is) ∙ is) in
        let says =
        says_taken seen.standing.turns s last.number last.last seen.halts keeps.newest last.lost in
        let apart : was.number ≡ last.number → ⊥ =
        λ same. away (same_Some s m
        (sym (last_node seen.standing.turns s last.number last.last)
        ∙ ap (input_node seen.standing.turns) (sym same)
        ∙ last_node seen.standing.turns m was.number was.last)) in
        record {
          number = was.number;
          last = ap (λ (ts : List Turn). last_input ts m) turns_same ∙ was.last;
          lost = says.others was.number apart ∙ was.lost;
        }

    pub found_lost : AreLostSoFar (ended_halt from.standing s) from.halts
    found_lost = ended_lost from.standing from.halts s other_lost
