-- The restart of a node with its log, whether it comes to its end or not.
use Rattle.std.proofs.Common.{◌≡◌, inl, inr, ◌⊎◌, ℕ, ◌+◌, ◌≤◌, ◌<◌, Bool, List, ◌∷◌, Option, Ok, None, refl, sym, ap, subst, arith}
use Rattle.cam_type.specs.declared.ObjectDecl.{ObjectDecl}
use Rattle.cam_event.specs.declared.Event.{Event}
use Rattle.cam_event.specs.Loads.{no_load}
use Rattle.cam_locks.specs.Restored.{CanRestore}
use Rattle.cam_log.specs.Moments.{Opened, Grows}
use Rattle.cam_recman.specs.declared.Recovered.{Recovered}
use Rattle.cam_recman.specs.Says.{Says}
use Rattle.cam_recman.proofs.Said.{said_is_recovered}
use Rattle.cam_node.specs.Halting.{IsThrough, restarted}
use Rattle.cam_node.specs.declared.found.Restarted.{Restarted}
use Rattle.cam_node.specs.declared.restart.Reread.{Reread}
use Rattle.cam_node.specs.Found.{found_by, HasRestarted}
use Rattle.cam_node.specs.Keeping.{IsLogOf, KeepsNode, IsRestart, IsRestartOf, IsRestartHalt}
use Rattle.cam_node.specs.Log.{Logged}
use Rattle.cam_node.specs.Opened.{CanRestart, MayRead, OpensRestarted, Rereads, Restarts, kept_by, logged_of, raised}
use Rattle.cam_node.specs.Renewed.{IsRenewed, crash_of}
use Rattle.cam_node.specs.Represents.{Node}
use Rattle.cam_node.proofs.FoundEvents.{tells_which}
use Rattle.cam_node.proofs.HaltedSteps.{reads_said}
use Rattle.cam_node.proofs.Renewed.{renewed, renewed_order, restart_logged}
use Rattle.cam_node.proofs.Through.{restarts_go_through}

is_restart : (objects : List ObjectDecl) (s : ℕ) (r kept : Recovered) (replaced : Bool) (new :
    Node) (now : List (List ℕ)) (event : Event)
    → (1 ≤ s) × (s ≤ 8) → kept ≡ raised s r → CanRestart objects s r → Says now (kept_by replaced r
    kept) → IsRenewed objects s kept new → event ≡ crash_of s
    → IsRestart objects s (logged_of r) new now event
is_restart objects s r kept replaced new now event node is can says has event_is = record {
  number = has.number;
  next = λ history ended log. event_is;
  keeps = λ history ended log.
      subst (λ (e : Event). KeepsNode objects (record { event = e; mail = None; load = no_load } ∷
      history) new now) (sym event_is)
      (record {
        through = subst (λ (n : ℕ). IsThrough objects n (restarted objects s history ∷ history))
            (sym has.number) (restarts_go_through objects s history ended);
        represents = renewed objects s history r kept new node is can has ended log;
        keeps = record {
          recovered = kept_by replaced r kept;
          says = says;
          is_log =
              subst (λ (n : ℕ). IsLogOf objects n (restarted objects s history ∷ history)
              (logged_of (kept_by replaced r kept))) (sym has.number)
              (restart_logged objects s history r kept replaced node is can.0 log);
        };
        order = renewed_order objects s history r kept replaced new is can has ended log;
      });
}

pub node_restarted : (objects : List ObjectDecl) (old : Node) (halted_at : Option Event)
    (tells : Bool) (past : ℕ → Opened → Type 0) (b : ℕ) (now : List (List ℕ)) (reread : Reread)
    (new : Node) (restarted : Restarted) → (1 ≤ old.number) × (old.number ≤ 8)
    → Rereads objects old.number tells (past b) now reread
    → IsRenewed objects old.number reread.kept new
    → restarted.stepped.event ≡ crash_of old.number
    → restarted.found ≡ found_by old halted_at reread
    → HasRestarted objects old.number tells (MayRead past b) old halted_at new now restarted
node_restarted objects old halted_at tells past b now reread new restarted node read has event_is
    found_is =
    let from = read.restarts in
    let done = from.restarted in
    record {
      read = from.read;
      kept = reread.kept;
      left = done;
      renewed = has;
      event = event_is;
      was = λ told. record {
        entries = from.read;
        opens = from.was told;
        recovered = done.recovered;
        recovers = (said_is_recovered from.read done.recovered done.says).0;
        is = refl;
      };
      restart = is_restart objects old.number done.recovered reread.kept done.replaced new now
          restarted.stepped.event node done.is done.can done.says_now has event_is;
      tells_which = tells_which objects old halted_at done.recovered reread restarted.found node
          done.can.0 done.is read.counts found_is;
    }

pub restart_halts : (objects : List ObjectDecl) (s : ℕ) (number : Option ℕ) (b n : ℕ)
    (past since : ℕ → Opened → Type 0) → (1 ≤ s) × (s ≤ 8)
    → Grows b n past since (OpensRestarted objects s number (past b))
    → ((o : Opened) → since n o → since b o) → IsRestartHalt objects s (MayRead past b) (MayRead
    since n)
restart_halts objects s number b n past since node grows back = record {
  either = λ one read. by one read (grows.nothing_else b (Ok read.entries) (omega arith) (back (Ok
      read.entries) read.opens));
}
  where
    by : (one : Logged) (read : MayRead since n one) → past b (Ok read.entries) ⊎ OpensRestarted
        objects s number (past b) (Ok read.entries)
        → MayRead past b one ⊎ IsRestartOf objects s (MayRead past b) one
    by one read (inl was) = inl (record {
      entries = read.entries;
      opens = was;
      recovered =
          read.recovered;
      recovers = read.recovers;
      is = read.is;
    })
    by one read (inr is) =
        let from = is.restarts in
        let done = from.restarted in
        inr (record {
          before = logged_of done.recovered;
          might = record {
            entries = from.read;
            opens = from.was refl;
            recovered = done.recovered;
            recovers = (said_is_recovered from.read done.recovered done.says).0;
            is = refl;
          };
          keeps = λ history ended log.
              subst (λ (l : Logged). IsLogOf objects s (restarted objects s history ∷ history) l)
              (sym (reads_said since n one read is.now (kept_by done.replaced done.recovered
              is.kept) is.opens done.says_now))
              (restart_logged objects s history done.recovered is.kept done.replaced node done.is
              done.can.0 log);
        })

-- what is kept after a restart is in its range
pub restart_range : (objects : List ObjectDecl) (s : ℕ) (tells : Bool) (before : Opened → Type 0)
    (now : List (List ℕ)) (kept : Recovered) → Restarts objects s tells before now kept
    → ((1 ≤ kept.count) × (kept.count ≤ 1000000000)) × CanRestore objects s kept.held
restart_range objects s tells before now kept from =
    let done = from.restarted in
    let count_is : kept.count ≡ done.recovered.count + 1 = ap (λ (q : Recovered). q.count) done.is
    in
    let less : done.recovered.count < 1000000000 = done.can.0 in (
      (omega (arith, count_is), omega (arith, count_is, less)),
      subst (λ held. CanRestore objects s held) (sym (ap (λ (q : Recovered). q.held) done.is))
          done.can.1,
    )
