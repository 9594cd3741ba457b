-- Inputs and deliveries in a run in which nodes halt: what they lead to is under way, and the same by both readings.
use Rattle.std.proofs.Common.{◌≡◌, inl, inr, ℕ, zero, suc, ◌+◌, ◌≤◌, Bool, true, false, ◌||◌, if◌then◌else◌, List, [], ◌∷◌, Option, Some, None, refl, sym, ap, ◌∙◌, arith}
use Rattle.std.specs.Prelude.{nat_lt}
use Rattle.std.specs.List.{list_any}
use Rattle.std.proofs.lemmas.Bool.{true≢false}
use Rattle.std.proofs.lemmas.Option.{same_Some}
use Rattle.cam_names.specs.declared.name.Name.{Name}
use Rattle.cam_know.specs.Known.{known_count}
use Rattle.cam_event.specs.declared.LetterId.{LetterId}
use Rattle.cam_event.specs.declared.Event.{Event}
use Rattle.cam_event.specs.Pasts.{plain_all}
use Rattle.cam_event.specs.Inputs.{Input, Begins, Requests, Receives, Tells, Queries, Restarts, node_of}
use Rattle.cam_event.specs.ByPast.{next as next_past}
use Rattle.cam_event.specs.Runs.{MayCome}
use Rattle.cam_event.specs.Taken.{is_entered}
use Rattle.cam_event.specs.Sights.{Sight}
use Rattle.cam_event.specs.Readings.{by_pasts, by_knowledge}
use Rattle.cam_event.proofs.Members.{In}
use Rattle.cam_delta.proofs.PastLoads.{ran_loads}
use Rattle.cam_agree.proofs.RunAsks.{AsksOf}
use Rattle.cam_agree.proofs.Ran.{Ran, ran_knows}
use Rattle.cam_delta.proofs.Addressed.{ran_addressed}
use Rattle.cam_delta.proofs.SameSteps.{ran_events, nodes_go_by_the_same}
use Rattle.cam_script.specs.declared.Script.{Script}
use Rattle.cam_runs.specs.Running.{letters, has_number, waiting_weight}
use Rattle.cam_runs.specs.Playing.{body_number}
use Rattle.cam_runs.specs.UnderWay.{Idle}
use Rattle.cam_runs.specs.Halts.{brought_by, appends}
use Rattle.cam_runs.specs.Standing.{Standing, Setting, after_input, put_at, put, deliver, addressee, waiting_from, waiting, deliver_waiting, deliveries, drain}
use Rattle.cam_runs.specs.UnderHalts.{IsUnderHalts}
use Rattle.cam_runs.proofs.Delivering.{letters_sent}
use Rattle.cam_runs.proofs.HaltedEvents.{IsReady, ran, input_under}

-- a setting by either reading
abbrev pub pasts : Script → Setting → Setting
pasts script c = record c { reading = by_pasts script.objects }

abbrev pub helds : Script → Setting → Setting
helds script c = record c { reading = by_knowledge script.objects }

-- what both readings lead to from here: the one is under way with the same variables, and the other is the same
pub record Both (script : Script) (st one other : Standing) : Type 0 where
  pub under : IsUnderHalts script one
  pub bound : one.running.bound ≡ st.running.bound
  pub same : other ≡ one

pub both_stay : (script : Script) (st : Standing) → IsUnderHalts script st → Both script st st st
both_stay script st under = record { under = under; bound = refl; same = refl }

pub both_then : (script : Script) (st one other : Standing) (F G : Standing → Standing) → Both script st one other → (IsUnderHalts script one → Both script one (F one) (G one)) → Both script st (F one) (G other)
both_then script st one other F G first rest =
    let second : Both script one (F one) (G one) = rest first.under in
    record { under = second.under; bound = second.bound ∙ first.bound; same = ap G first.same ∙ second.same }

pub if_both : (script : Script) (b : Bool) (st one other : Standing) → IsUnderHalts script st → (b ≡ true → Both script st one other) → Both script st (if b then one else st) (if b then other else st)
if_both script true st one other under h = h refl
if_both script false st one other under h = both_stay script st under

-- whether an entry is appended is the same by both readings
any_same : (f g : ℕ → Bool) (xs : List ℕ) → ((m : ℕ) → In m xs → f m ≡ g m) → list_any f xs ≡ list_any g xs
any_same f g [] h = refl
any_same f g (x ∷ xs) h = λ i. h x (inl refl) i || any_same f g xs (λ m j. h m (inr j)) i

abbrev eight : List ℕ
eight = 1 ∷ 2 ∷ 3 ∷ 4 ∷ 5 ∷ 6 ∷ 7 ∷ 8 ∷ []

in_eight : (m : ℕ) → In m eight → (1 ≤ m) × (m ≤ 8)
in_eight m (inl e) = (omega (arith, e), omega (arith, e))
in_eight m (inr (inl e)) = (omega (arith, e), omega (arith, e))
in_eight m (inr (inr (inl e))) = (omega (arith, e), omega (arith, e))
in_eight m (inr (inr (inr (inl e)))) = (omega (arith, e), omega (arith, e))
in_eight m (inr (inr (inr (inr (inl e))))) = (omega (arith, e), omega (arith, e))
in_eight m (inr (inr (inr (inr (inr (inl e)))))) = (omega (arith, e), omega (arith, e))
in_eight m (inr (inr (inr (inr (inr (inr (inl e))))))) = (omega (arith, e), omega (arith, e))
in_eight m (inr (inr (inr (inr (inr (inr (inr (inl e)))))))) = (omega (arith, e), omega (arith, e))
in_eight m (inr (inr (inr (inr (inr (inr (inr (inr e)))))))) = absurd e

brought_same : (script : Script) (t : List Event) (input : Input) → Ran script.objects t → MayCome script.objects t input → (m : ℕ) → known_count (brought_by (by_knowledge script.objects) t input) m ≡ known_count (brought_by (by_pasts script.objects) t input) m
brought_same script t (Begins s) run may m = refl
brought_same script t (Requests r) run may m = refl
brought_same script t (Receives letter) run may m = ap (λ (cs : List ℕ). known_count (record { outcomes = []; counts = cs }) m) (ran_loads script.objects t letter run may).know.counts
brought_same script t (Tells s to) run may m = refl
brought_same script t (Queries s f) run may m = refl
brought_same script t (Restarts s) run may m = refl

count_same : (script : Script) (t : List Event) (s m : ℕ) → Ran script.objects t → 1 ≤ m → m ≤ 8 → ((by_knowledge script.objects).sight t s).known_count m ≡ ((by_pasts script.objects).sight t s).known_count m
count_same script t s m run low high =
    ap (λ (g : Sight). g.known_count m) (nodes_go_by_the_same script.objects t s (ran_addressed script.objects t run)) ∙ (ran_knows script.objects t s None run tt).counts m low high

pub appends_same : (script : Script) (t : List Event) (input : Input) → Ran script.objects t → MayCome script.objects t input → appends (by_knowledge script.objects) t input ≡ appends (by_pasts script.objects) t input
appends_same script t input run may =
    let s : ℕ = node_of t input in
    λ i. list_any is_entered (ran_events script.objects t input run may i).deeds
    || any_same (λ m. nat_lt (((by_knowledge script.objects).sight t s).known_count m) (known_count (brought_by (by_knowledge script.objects) t input) m))
    (λ m. nat_lt (((by_pasts script.objects).sight t s).known_count m) (known_count (brought_by (by_pasts script.objects) t input) m)) eight
    (λ m h j. nat_lt (count_same script t s m run (in_eight m h).0 (in_eight m h).1 j) (brought_same script t input run may m j)) i

after_bound : (line : ℕ) (again : Bool) (st : Standing) (s : ℕ) (e : Event) (w : Bool) (o : Option Bool) → (after_input line again st s e w o).running.bound ≡ st.running.bound
after_bound line again st s e w None = refl
after_bound line again st s e w (Some true) = refl
after_bound line again st s e w (Some false) = refl

-- an input that is ready
pub put_both : (script : Script) (c : Setting) (st : Standing) (input : Input) → IsReady script st input → Both script st (put (pasts script c) st input) (put (helds script c) st input)
put_both script c st input ready =
    let t : List Event = st.running.trace in
    let s : ℕ = node_of t input in
    let w : Bool = appends (by_pasts script.objects) t input in
    record {
      under = input_under script c.line (c.restarted s) st input w (c.halts st.turns s w (c.restarted s)) ready;
      bound = after_bound c.line (c.restarted s) st s (next_past script.objects t input) w (c.halts st.turns s w (c.restarted s));
      same = λ i. put_at c st s (ran_events script.objects t input (ran script st ready.run) ready.may i) (appends_same script t input (ran script st ready.run) ready.may i);
    }

-- an input of a node that is not halted
pub ready_by : (script : Script) (st : Standing) (input : Input) → IsUnderHalts script st → has_number st.halted (node_of st.running.trace input) ≡ false → MayCome script.objects st.running.trace input
    → ((a : Name) (n : ℕ) → body_number st.running.bodies a ≡ Some n → AsksOf a input → Idle (plain_all st.running.trace) a) → IsReady script st input
ready_by script st input under awake may idle = record {
  run = under.run;
  below = under.below;
  others = λ s off h. under.waits s h;
  own = λ h. absurd (true≢false (sym (under.waits (node_of st.running.trace input) h) ∙ awake));
  may = may;
  works = under.works;
  bound = under.bound;
  placed = under.placed;
  decided = under.decided;
  idle = idle;
}

-- one that is no request
pub input_both : (script : Script) (c : Setting) (st : Standing) (input : Input) → IsUnderHalts script st → has_number st.halted (node_of st.running.trace input) ≡ false → MayCome script.objects st.running.trace input → ((a : Name) → AsksOf a input → ⊥)
    → Both script st (put (pasts script c) st input) (put (helds script c) st input)
input_both script c st input under awake may none = put_both script c st input (ready_by script st input under awake may (λ a n at asks. absurd (none a asks)))

pub deliver_both : (script : Script) (c : Setting) (st : Standing) (k : ℕ) (letter : LetterId) → IsUnderHalts script st → has_number st.halted (addressee st letter) ≡ false → In letter (letters st.running.trace)
    → Both script st (deliver (pasts script c) st k letter) (deliver (helds script c) st k letter)
deliver_both script c st k letter under awake there =
    let one = input_both script c st (Receives letter) under awake (letters_sent st.running.trace letter there) (λ a asks. asks) in
    record {
      under = record { run = one.under.run; below = one.under.below; waits = one.under.waits; works = one.under.works; bound = one.under.bound; placed = one.under.placed; decided = one.under.decided };
      bound = one.bound;
      same = ap (λ (x : Standing). record x { running = record x.running { delivered = k ∷ x.running.delivered } }) one.same;
    }

-- the letter that waits was sent, to a node that is not halted
or_none : (a b : Bool) → (a || b) ≡ false → b ≡ false
or_none true b h = absurd (true≢false h)
or_none false b h = h

waiting_ready : (st : Standing) (k : ℕ) (ls : List LetterId) (w : ℕ × LetterId) → waiting_from st k ls ≡ Some w → In w.1 ls × (has_number st.halted (addressee st w.1) ≡ false)
waiting_ready st k [] w h = cc
waiting_ready st k (l ∷ ls) w h = by (has_number st.running.delivered k || has_number st.running.lost k || has_number st.halted (addressee st l)) refl h (waiting_ready st (k + 1) ls w)
  where
    by : (b : Bool) → (has_number st.running.delivered k || has_number st.running.lost k || has_number st.halted (addressee st l)) ≡ b → (if b then waiting_from st (k + 1) ls else Some (k, l)) ≡ Some w
        → (waiting_from st (k + 1) ls ≡ Some w → In w.1 ls × (has_number st.halted (addressee st w.1) ≡ false)) → In w.1 (l ∷ ls) × (has_number st.halted (addressee st w.1) ≡ false)
    by true e g rest = let r = rest g in (inr r.0, r.1)
    by false e g rest =
        let is : w.1 ≡ l = ap (λ (p : ℕ × LetterId). p.1) (sym (same_Some (k, l) w g)) in (
          inl is,
          ap (λ x. has_number st.halted (addressee st x)) is ∙ awake (has_number st.running.delivered k) (has_number st.running.lost k) (has_number st.halted (addressee st l)) e,
        )
      where
        awake : (a b d : Bool) → (a || b || d) ≡ false → d ≡ false
        awake true b d h = absurd (true≢false h)
        awake false true d h = absurd (true≢false h)
        awake false false d h = h

waiting_both : (script : Script) (c : Setting) (st : Standing) → IsUnderHalts script st → Both script st (deliver_waiting (pasts script c) st (waiting st)) (deliver_waiting (helds script c) st (waiting st))
waiting_both script c st under = by (waiting st) refl
  where
    by : (o : Option (ℕ × LetterId)) → waiting st ≡ o → Both script st (deliver_waiting (pasts script c) st o) (deliver_waiting (helds script c) st o)
    by None e = both_stay script st under
    by (Some w) e = let r = waiting_ready st 1 (letters st.running.trace) w e in deliver_both script c st w.0 w.1 under r.1 r.0

deliveries_both : (script : Script) (c : Setting) (n : ℕ) (st : Standing) → IsUnderHalts script st → Both script st (deliveries (pasts script c) n st) (deliveries (helds script c) n st)
deliveries_both script c zero st under = both_stay script st under
deliveries_both script c (suc n) st under =
    both_then script st (deliver_waiting (pasts script c) st (waiting st)) (deliver_waiting (helds script c) st (waiting st)) (deliveries (pasts script c) n) (deliveries (helds script c) n)
    (waiting_both script c st under) (deliveries_both script c n (deliver_waiting (pasts script c) st (waiting st)))

pub drain_both : (script : Script) (c : Setting) (st : Standing) → IsUnderHalts script st → Both script st (drain (pasts script c) st) (drain (helds script c) st)
drain_both script c st under = deliveries_both script c (waiting_weight st.running) st under
