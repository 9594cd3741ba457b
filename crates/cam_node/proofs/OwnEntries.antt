-- The node's own events that decide nothing have no entry.
use Rattle.std.proofs.Common.{◌≡◌, ℕ, ◌+◌, nat_lt, Bool, true, false, if◌then◌else◌, List, [], ◌∷◌, ◌++◌, map, Option, Some, None, refl, ◌∙◌, arith}
use Rattle.std.proofs.lemmas.Bool.{le-ltb}
use Rattle.cam_names.specs.declared.name.Name.{Name}
use Rattle.cam_names.specs.Dependencies.{AreCounts, pairs_of}
use Rattle.cam_type.specs.declared.ObjectDecl.{ObjectDecl}
use Rattle.cam_know.specs.Knowledge.{Knowledge}
use Rattle.cam_know.specs.Known.{nothing}
use Rattle.cam_know.specs.declared.Reason.{Reason}
use Rattle.cam_event.specs.declared.Want.{Want}
use Rattle.cam_event.specs.declared.Want.TheVariants as wants
use Rattle.cam_event.specs.Inputs.{Input, Begins, Requests, Receives, Tells, Queries, Restarts}
use Rattle.cam_event.specs.Sights.{Sight}
use Rattle.cam_event.specs.Rules.{Did, stopped_by, wanted}
use Rattle.cam_event.specs.ByKnowledge.{held_sight, node_step}
use Rattle.cam_event.specs.Carried.{Carried}
use Rattle.cam_recman.specs.declared.Record.TheVariants as records
use Rattle.cam_recman.specs.Snapshot.{outcome_record}
use Rattle.cam_node.specs.Entries.{greater_records, learnt_records}
use Rattle.cam_node.specs.Unlogged.{gives_up, is_unlogged}
use Rattle.cam_node.proofs.Nothing.{greater_ones}
use Rattle.cam_node.proofs.NewsRecords.{fresh_is}
use Rattle.cam_node.proofs.Recorded.{NoneRecorded}

stopped_records : (a : Name) (reason : Option Reason) (other : Did) → NoneRecorded other.deeds →
    NoneRecorded (stopped_by a reason other).deeds
stopped_records a None other none = none
stopped_records a (Some reason) other none = refl

wanted_records : (objects : List ObjectDecl) (g : Sight) (a : Name) (want : Want) → gives_up want ≡
    false → NoneRecorded (wanted objects g a want).deeds
wanted_records objects g a (wants.Ask m) own = refl
wanted_records objects g a (wants.Call x op) own = refl
wanted_records objects g a (wants.Commit v) own = refl
wanted_records objects g a wants.Abort own = refl
wanted_records objects g a (wants.GiveUp b) own = absurd (cc)

not_given : (b : Bool) → Rattle.std.specs.Prelude.not b ≡ true → b ≡ false
not_given true h = absurd (cc)
not_given false h = refl

pub own_records : (objects : List ObjectDecl) (s : ℕ) (h : List Carried) (input : Input) →
    is_unlogged input ≡ true
    → NoneRecorded (node_step objects s h input None nothing).deeds
own_records objects s h (Begins m) own = refl
own_records objects s h (Requests r) own =
    let g : Sight = held_sight objects s h nothing in
    stopped_records r.action (g.orphan r.action (pairs_of (g.deps r.action))) (wanted objects g
    r.action r.want)
    (wanted_records objects g r.action r.want (not_given (gives_up r.want) own))
own_records objects s h (Receives letter) own = absurd (cc)
own_records objects s h (Tells m to) own = refl
own_records objects s h (Queries m f) own = refl
own_records objects s h (Restarts m) own = absurd (cc)

-- To be told nothing has no record.
none_greater : (n : ℕ) (ks : List ℕ) → greater_records n ks ks ≡ []
none_greater n [] = refl
none_greater n (k ∷ ks) = by (nat_lt k k) (le-ltb k k (omega arith)) (none_greater (n + 1) ks)
  where
    by : (b : Bool) → b ≡ false → greater_records (n + 1) ks ks ≡ []
        → (if b then records.Seen n k ∷ greater_records (n + 1) ks ks else greater_records (n + 1)
        ks ks) ≡ []
    by true is rest = absurd (cc)
    by false is rest = rest

pub nothing_recorded : (k : Knowledge) → AreCounts 1 k.counts → learnt_records k nothing ≡ []
nothing_recorded k counts =
    (λ i. map outcome_record (fresh_is k nothing i) ++ greater_records 1 k.counts (greater_ones 8
    k.counts counts.eight counts.from i))
    ∙ none_greater 1 k.counts
