-- A node of a run halts.
use Rattle.std.proofs.Common.{◌≡◌, ◌⊎◌, inl, inr, ℕ, ◌+◌, ◌-◌, ◌≤◌, eqb, true}
use Rattle.std.proofs.Common.{false, ◌||◌, if◌then◌else◌, List, [], set}
use Rattle.std.proofs.Common.{Some, refl, sym, ap, ◌∙◌, subst, arith}
use Rattle.std.proofs.lemmas.Bool.{true≢false, ne_eqb, eq-eqb}
use Rattle.std.proofs.lemmas.Bool.Decides.{eqb_tells}
use Rattle.cam_event.specs.declared.Event.{Event}
use Rattle.cam_event.specs.Inputs.{node_of}
use Rattle.cam_net.specs.Waiting.{is_halted}
use Rattle.cam_runs.specs.Running.{has_number}
use Rattle.cam_runs.specs.Halts.{appends}
use Rattle.cam_runs.specs.Standing.{Standing, Setting, after_input, put}
use Rattle.cam_histories.specs.Whole.{Site, IsSiteOf, IsWhole}
use Rattle.cam_histories.specs.InputLaws.{held_setting, with_site}
use Rattle.cam_histories.specs.LineLaws.{LostHaltsStand}
use Rattle.cam_histories.proofs.Changing.{halts_stand}
use Rattle.cam_histories.proofs.Sites.{sites_with}
use Rattle.cam_histories.proofs.HaltedLists.{halted_now}

-- a node that halts is no longer asked
pub lost_halts_stand : LostHaltsStand
lost_halts_stand script halts line restarted st input sites net halted new lost node eight number
    whole =
    subst (λ (x : Standing). IsWhole script.objects x (with_site t input sites new) net []
    (set halted (s - 1) true)) (sym is)
    (record {
      nodes =
          sites_with script.objects st behind s new
          (record {
            number = number;
            stands = λ awake. absurd
                (true≢false (sym (now s (eq-eqb s s refl)) ∙ awake));
          })
          others 1 (s - 1) sites back whole.nodes;
      network =
          halts_stand script.objects st behind net [] halted (set halted (s - 1) true)
          (record { trace = refl; lost = refl; delivered = refl })
          (λ m low high. halted_now halted s m true eight node low ∙ told m low high
          (eqb_tells s m)) whole.network;
    })
  where
    c : Setting
    c = held_setting script.objects halts line restarted

    t : List Event
    t = st.running.trace

    s : ℕ
    s = node_of t input

    behind : Standing
    behind = after_input line (restarted s) st s (c.reading.next t input)
        (appends c.reading t input) (Some false)

    is : put c st input ≡ behind
    is = ap (after_input line (restarted s) st s (c.reading.next t input)
        (appends c.reading t input)) lost

    back : 1 + (s - 1) ≡ s
    back = let low = node.0 in omega (arith, low)

    now : (m : ℕ) → eqb s m ≡ true → has_number behind.halted m ≡ true
    now m e = ap (λ b. b || has_number st.halted m) e

    then_as_before : (m : ℕ) → eqb s m ≡ false → has_number behind.halted m ≡ has_number st.halted m
    then_as_before m e = ap (λ b. b || has_number st.halted m) e

    told : (m : ℕ) → 1 ≤ m → m ≤ 8 → ((eqb s m ≡ true) × (s ≡ m))
        ⊎ ((eqb s m ≡ false) × (s ≡ m → ⊥))
        → (if eqb s m then true else is_halted halted m) ≡ has_number behind.halted m
    told m low high (inl y) = ap (λ b. if b then true else is_halted halted m) y.0 ∙ sym (now m y.0)
    told m low high (inr n) =
        ap (λ b. if b then true else is_halted halted m) n.0
        ∙ whole.network.stands.nodes m low high ∙ sym (then_as_before m n.0)

    others : (m : ℕ) (n : Site) → (s ≡ m → ⊥) → IsSiteOf script.objects st m n
        → IsSiteOf script.objects behind m n
    others m n off site = record {
      number = site.number;
      stands = λ awake. site.stands (sym (then_as_before m (ne_eqb s m off)) ∙ awake);
    }
