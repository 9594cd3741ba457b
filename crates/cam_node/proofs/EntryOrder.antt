-- The order of what the log holds and of what is live goes on with the entry of a planned event.
use Rattle.std.proofs.Common.{◌≡◌, ℕ, ◌+◌, nat_lt, Bool, true, false, if◌then◌else◌, List, [], ◌∷◌, ◌++◌, map, Option, Some, None, refl, sym, ap, ◌∙◌, subst}
use Rattle.std.proofs.lemmas.List.{append-nil}
use Rattle.cam_type.specs.declared.ObjectDecl.{ObjectDecl}
use Rattle.cam_type.specs.declared.Held.{Held}
use Rattle.cam_know.specs.Knowledge.{Knowledge}
use Rattle.cam_know.specs.declared.Outcome.{Outcome}
use Rattle.cam_know.specs.declared.Outcome.TheVariants.{Aborted, Committed}
use Rattle.cam_event.specs.Inputs.{Input, Mail}
use Rattle.cam_event.specs.Loads.{Load}
use Rattle.cam_recman.specs.declared.Record.{Record}
use Rattle.cam_recman.specs.declared.Record.TheVariants as records
use Rattle.cam_recman.specs.declared.Recovered.{Recovered}
use Rattle.cam_recman.specs.Recovery.{with_record, with_records}
use Rattle.cam_recman.specs.Snapshot.{outcome_record}
use Rattle.cam_recman.proofs.Folding.{with_more}
use Rattle.cam_node.specs.declared.knowing.Heard.{Heard}
use Rattle.cam_node.specs.declared.plan.Plan.{Plan}
use Rattle.cam_node.specs.Entries.{greater_records}
use Rattle.cam_node.specs.LogOrder.{IsInOrder}
use Rattle.cam_node.specs.Opened.{logged_of}
use Rattle.cam_node.specs.Planned.{heard_records, planned_records}
use Rattle.cam_node.specs.Plans.{IsPlan, as_list, held_in}
use Rattle.cam_node.specs.Standing.{Stands}
use Rattle.cam_node.specs.Represents.{Node}
use Rattle.cam_node.proofs.Entered.{holds_of, holds_record}
use Rattle.cam_node.proofs.KeptSteps.{OrderGoesOn}

-- What a plan's entry adds to what the log holds is what its Secure has:
-- of what its letter brought nothing,
greater_hold : (n : ℕ) (before now : List ℕ) (r : Recovered)
    → (with_records r (greater_records n before now)).held ≡ r.held
greater_hold n [] now r = refl
greater_hold n (k ∷ ks) [] r = refl
greater_hold n (k ∷ ks) (c ∷ cs) r = by (nat_lt k c) (greater_hold (n + 1) ks cs)
  where
    by : (b : Bool)
        → ((q : Recovered) → (with_records q (greater_records (n + 1) ks cs)).held ≡ q.held)
        → (with_records r (if b then records.Seen n c ∷ greater_records (n + 1) ks cs
        else greater_records (n + 1) ks cs)).held ≡ r.held
    by true rest = rest (with_record r (records.Seen n c))
    by false rest = rest r

outcomes_hold : (os : List Outcome) (r : Recovered)
    → (with_records r (map outcome_record os)).held ≡ r.held
outcomes_hold [] r = refl
outcomes_hold (Aborted a ∷ os) r = outcomes_hold os (with_record r (outcome_record (Aborted a)))
outcomes_hold (Committed a counts ∷ os) r =
    outcomes_hold os (with_record r (outcome_record (Committed a counts)))

heard_hold : (counts : List ℕ) (heard : Option Heard) (r : Recovered)
    → (with_records r (heard_records counts heard)).held ≡ r.held
heard_hold counts None r = refl
heard_hold counts (Some heard) r =
    ap (λ (q : Recovered). q.held)
    (with_more r (map outcome_record heard.news.outcomes)
    (greater_records 1 counts heard.news.counts))
    ∙ greater_hold 1 counts heard.news.counts
    (with_records r (map outcome_record heard.news.outcomes))
    ∙ outcomes_hold heard.news.outcomes r

-- and of what its deeds add the Secure.
added_hold : (adds : Option Record) (r : Recovered)
    → (with_records r (as_list adds)).held ≡ r.held ++ held_in adds
added_hold None r = sym (append-nil r.held)
added_hold (Some (records.Count c)) r = sym (append-nil r.held)
added_hold (Some (records.Abort a)) r = sym (append-nil r.held)
added_hold (Some (records.Commit a d)) r = sym (append-nil r.held)
added_hold (Some (records.Seen s c)) r = sym (append-nil r.held)
added_hold (Some (records.Secure held)) r = refl
added_hold (Some records.Version) r = sym (append-nil r.held)

-- So the order of what the log holds and of what is live goes on with the plan's entry.
pub plan_order : (objects : List ObjectDecl) (input : Input) (mail : Option Mail) (load : Load)
    (plan : Plan) (know : Knowledge) (old mid new : Node) (counts : List ℕ)
    → IsPlan objects input mail load plan know old mid
    → Stands plan.change plan.heard know mid new
    → OrderGoesOn objects old new input mail load plan.stepped.event (planned_records counts plan)
plan_order objects input mail load plan know old mid new counts is stands history entries keeps may =
    subst
    (λ (hs : List Held). IsInOrder (record {
      event = plan.stepped.event;
      mail = mail;
      load = load;
    } ∷ history) hs new.server.table.site)
    (sym holds_are)
    (is.order new history (logged_of r) (holds_of plan.adds) stands keeps.through keeps.represents may
    keeps.keeps.is_log.keeps keeps.order (holds_record plan.adds))
  where
    r : Recovered
    r = keeps.keeps.recovered

    heard : Recovered
    heard = with_records r (heard_records counts plan.heard)

    holds_are : (with_records r (planned_records counts plan)).held ≡ r.held ++ held_in plan.adds
    holds_are =
        ap (λ (q : Recovered). q.held)
        (with_more r (heard_records counts plan.heard) (as_list plan.adds))
        ∙ added_hold plan.adds heard
        ∙ ap (λ (hs : List Held). hs ++ held_in plan.adds) (heard_hold counts plan.heard r)
