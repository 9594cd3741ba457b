-- What a restart reads of a node's log, and what a node tells of it before its disk was cleared.
use Rattle.std.proofs.Common.{◌≡◌, ℕ, Bool, List, Option}
use Rattle.std.proofs.Common.{Ok, Err, refl, sym, ap, ◌∙◌, subst}
use Rattle.std.specs.Prelude.{IfOk, OnErr, Result}
use Rattle.cam_type.specs.declared.ObjectDecl.{ObjectDecl}
use Rattle.cam_event.specs.declared.Event.{Event}
use Rattle.cam_event.specs.ByDeltas.{Received}
use Rattle.cam_log.specs.Moments.{Opened}
use Rattle.cam_node.specs.declared.found.Restarted.{Restarted}
use Rattle.cam_node.specs.Found.{FindsBy, HasRestarted}
use Rattle.cam_node.specs.Keeping.{IsLogOf}
use Rattle.cam_node.specs.Keeping.{KeepsHistory}
use Rattle.cam_node.specs.Log.{Logged}
use Rattle.cam_node.specs.Opened.{MayRead, logged_of}
use Rattle.cam_node.specs.Represents.{Node}
use Rattle.cam_recman.specs.declared.RecFault.{RecFault}
use Rattle.cam_recman.specs.declared.Recovered.{Recovered}
use Rattle.cam_recman.specs.Recovery.{recover, recovered_of}

pub ok_so : {T E : Type 0} (result : Result T E) (P Q : T → Type 0) → ((x : T) → P x → Q x)
    → IfOk result P → IfOk result Q
ok_so (Ok x) P Q so holds = so x holds
ok_so (Err e) P Q so holds = tt

pub err_so : {T E : Type 0} (result : Result T E) (P Q : Type 0) → (P → Q) → OnErr result P
    → OnErr result Q
err_so (Ok x) P Q so holds = tt
err_so (Err e) P Q so holds = so holds

-- what was told of the cleared node holds of the node before
pub restarted_was : (objects over : List ObjectDecl) (s n : ℕ) (told tells : Bool)
    (might was : Logged → Type 0) (node before : Node) (at halted_at : Option Event) (new : Node)
    (now : List (List ℕ)) (r : Restarted)
    → objects ≡ over → s ≡ n → told ≡ tells → node ≡ before → at ≡ halted_at
    → ((logged : Logged) → might logged → was logged)
    → HasRestarted objects s told might node at new now r
    → HasRestarted over n tells was before halted_at new now r
restarted_was objects over s n told tells might was node before at halted_at new now r is_o is_s
    is_t
    is_n is_h back has =
    rw (← is_o) (rw (← is_s) (rw (← is_t) (rw (← is_n) (rw (← is_h) (record {
      read = has.read;
      kept = has.kept;
      left = has.left;
      renewed = has.renewed;
      event = has.event;
      was = λ yes. back (logged_of has.left.recovered) (has.was yes);
      restart = has.restart;
      tells_which = has.tells_which;
    })))))

-- what is read of a log at rest: what its entries say
pub record IsReadOf (entries : List (List ℕ)) (logged : Logged) : Type 0 where
  pub recovered : Recovered
  pub recovers : recover entries ≡ Ok recovered
  pub is : logged ≡ logged_of recovered

pub rest_reads : (since : ℕ → Opened → Type 0) (t : ℕ) (listed : List (List ℕ)) (logged : Logged)
    → ((opened : Opened) → since t opened → opened ≡ Ok listed)
    → MayRead since t logged → IsReadOf listed logged
rest_reads since t listed logged rest read = record {
  recovered = read.recovered;
  recovers =
      rw (← (same (Ok read.entries) read.entries listed refl (rest (Ok read.entries) read.opens))) read.recovers;
  is = read.is;
}
  where
    same : (x : Opened) (a b : List (List ℕ)) → x ≡ Ok a → x ≡ Ok b → a ≡ b
    same x a b first other = cc

pub read_is : (objects : List ObjectDecl) (s : ℕ) (history : List Received)
    (entries : List (List ℕ)) (logged : Logged) → KeepsHistory objects s history entries
    → IsReadOf entries logged → IsLogOf objects s history logged
read_is objects s history entries logged keeps read =
    subst (IsLogOf objects s history)
    (ap logged_of (same (recover entries) keeps.recovered read.recovered
    (ap recovered_of keeps.says) read.recovers) ∙ sym read.is) keeps.is_log
  where
    same : (x : Result Recovered RecFault) (a b : Recovered) → x ≡ Ok a → x ≡ Ok b → a ≡ b
    same x a b first other = cc

-- what it finds, by what stood before its disk was cleared
pub found_was : {E : Type 0} (result : Result Restarted E) (objects over : List ObjectDecl)
    (s number : ℕ) (node was : Node) (at kept : Option Event) (reads read : Opened)
    → objects ≡ over → s ≡ number → node ≡ was → at ≡ kept → reads ≡ read
    → IfOk result (λ r. FindsBy objects s node at reads r.found)
    → IfOk result (λ r. FindsBy over number was kept read r.found)
found_was (Ok r) objects over s number node was at kept reads read is_o is_s is_n is_a is_r finds =
    subst (λ (z : List ObjectDecl × ℕ × Node × Option Event × Opened).
    FindsBy z.0 z.1 z.2 z.3 z.4 r.found) (λ i. (is_o i, is_s i, is_n i, is_a i, is_r i)) finds
found_was (Err e) objects over s number node was at kept reads read is_o is_s is_n is_a is_r finds =
    tt
