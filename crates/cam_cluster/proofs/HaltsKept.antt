-- What the works keep of nodes that are halted, where a run goes on.
use Rattle.std.proofs.Common.{◌≡◌, ℕ, zero, ◌≤◌, eqb, Bool, true, false, not}
use Rattle.std.proofs.Common.{if◌then◌else◌, List, [], ◌∷◌, ◌++◌, length, filter, map, Option, Some}
use Rattle.std.proofs.Common.{None, refl, sym, ap, ◌∙◌, arith}
use Rattle.std.specs.List.{AllByRecursion}
use Rattle.cam_type.specs.declared.ObjectDecl.{ObjectDecl}
use Rattle.cam_event.specs.declared.Event.{Event}
use Rattle.cam_event.specs.declared.LetterId.{LetterId}
use Rattle.cam_node.specs.Log.{Logged}
use Rattle.cam_runs.specs.Standing.{Standing, Undecided, undecided_of}
use Rattle.cam_runs.specs.UnderHalts.{ArePlaced}
use Rattle.cam_runs.proofs.Undecided.{without_node}
use Rattle.cam_histories.specs.Alike.{AreAlike}
use Rattle.cam_histories.specs.Laws.{history_of}
use Rattle.cam_histories.specs.PutIn.{nameless}
use Rattle.cam_histories.specs.Undecided.{IsUndecidedAlike, received_at}
use Rattle.cam_histories.proofs.HaltsAlike.{halted_logs_keep_alike, halts_stand_alike}
use Rattle.cam_histories.proofs.UndecidedEvents.{undecided_stay}
use Rattle.cam_histories.proofs.UndecidedPlaces.{placed_within}
use Rattle.cam_cluster.specs.declared.works.undecided.OpenHalt.{OpenHalt}
use Rattle.cam_cluster.specs.Works.{IsHaltOf, IsSentBefore, NodeFields, open_halt}

-- Events came after, and the node's undecided halt is the same.
pub undecided_on : (objects : List ObjectDecl) (old new : Standing) (s : ℕ) (more : List Event)
    → new.running.trace ≡ more ++ old.running.trace
    → undecided_of s new.undecided ≡ undecided_of s old.undecided
    → ArePlaced (length old.running.trace) old.undecided → (u : Undecided)
    → undecided_of s old.undecided ≡ Some u → IsUndecidedAlike objects s u old new
undecided_on objects old new s more trace same placed u is = record {
  there = u;
  is = same ∙ is;
  alike =
      ap nameless (ap (λ t. received_at objects t u) trace ∙ undecided_stay objects more
      old.running.trace u (placed_within _ _ _ _ placed is));
}

-- What is kept of a halted node goes by its history, by what is undecided of it, and by what may be
-- read of its disk.
pub halt_stays : (objects : List ObjectDecl) (old new : Standing) (s : ℕ) (node : NodeFields)
    (might may : Logged → Type 0)
    → AreAlike (history_of objects old.running.trace s) (history_of objects new.running.trace s)
    → ((u : Undecided) → undecided_of s old.undecided ≡ Some u
    → IsUndecidedAlike objects s u old new)
    → ((logged : Logged) → may logged → might logged)
    → IsHaltOf objects old.running.trace old.undecided s node might
    → IsHaltOf objects new.running.trace new.undecided s node may
halt_stays objects old new s node might may same still less halt =
    let now = still halt.halt halt.newest in record {
      whole = halt.whole;
      event = halt.event;
      kept = halt.kept;
      halted =
          halts_stand_alike objects (history_of objects old.running.trace s)
          (history_of objects new.running.trace s) halt.whole node.site.node halt.event same
          halt.halted;
      either = λ logged read.
          halted_logs_keep_alike objects s (history_of objects old.running.trace s)
          (history_of objects new.running.trace s) halt.whole zero logged same
          (halt.either logged (less logged read));
      halt = now.there;
      newest = now.is;
      alike = halt.alike ∙ sym now.alike;
    }

-- the same run, where less may be read
pub halt_read : (objects : List ObjectDecl) (trace : List Event) (undecided : List Undecided)
    (s : ℕ) (node : NodeFields) (might may : Logged → Type 0)
    → ((logged : Logged) → may logged → might logged)
    → IsHaltOf objects trace undecided s node might → IsHaltOf objects trace undecided s node may
halt_read objects trace undecided s node might may less halt = record {
  whole = halt.whole;
  event = halt.event;
  kept = halt.kept;
  halted = halt.halted;
  either = λ logged read. halt.either logged (less logged read);
  halt = halt.halt;
  newest = halt.newest;
  alike = halt.alike;
}

-- letters that were sent before
pub sent_still : (n m : ℕ) → n ≤ m → (got : Option LetterId) → IsSentBefore n got
    → IsSentBefore m got
sent_still n m low None sent = tt
sent_still n m low (Some letter) sent = omega (arith, low, sent)

pub all_sent_still : (n m : ℕ) → n ≤ m → (us : List Undecided)
    → AllByRecursion (λ (u : Undecided). IsSentBefore n u.event.got) us
    → AllByRecursion (λ (u : Undecided). IsSentBefore m u.event.got) us
all_sent_still n m low [] sent = tt
all_sent_still n m low (u ∷ us) sent =
    (sent_still _ _ low _ sent.0, all_sent_still n m low us sent.1)

-- the halts of the other nodes, where those of one are taken out
pub others_all : (P : Undecided → Type 0) (s : ℕ) (us : List Undecided) → AllByRecursion P us
    → AllByRecursion P (without_node s us)
others_all P s [] all = tt
others_all P s (u ∷ us) all = by (eqb u.node s) (others_all P s us all.1)
  where
    by : (b : Bool) → AllByRecursion P (without_node s us)
        → AllByRecursion P (if not b then u ∷ without_node s us else without_node s us)
    by true rest = rest
    by false rest = (all.0, rest)

abbrev pub open_without : ℕ → List OpenHalt → List OpenHalt
open_without s hs = filter (λ (h : OpenHalt). not (eqb h.node s)) hs

pub others_open : (s : ℕ) (us : List Undecided)
    → map open_halt (without_node s us) ≡ open_without s (map open_halt us)
others_open s [] = refl
others_open s (u ∷ us) = by (eqb u.node s) (others_open s us)
  where
    by : (b : Bool) → map open_halt (without_node s us) ≡ open_without s (map open_halt us)
        → map open_halt (if not b then u ∷ without_node s us else without_node s us)
        ≡ (if not b then open_halt u ∷ open_without s (map open_halt us)
        else open_without s (map open_halt us))
    by true rest = rest
    by false rest = ap (λ hs. open_halt u ∷ hs) rest
