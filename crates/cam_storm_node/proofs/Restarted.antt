-- What a restart leaves of a node that was not halted: its node and its log stand for the history
-- with the restart.
use Rattle.std.proofs.Common.{◌≡◌, ℕ, Bool, true, List, ◌∷◌, [], map, Option, None, Ok, refl, sym, ap, ◌∙◌, subst, inl}
use Rattle.std.specs.Prelude.{Result}
use Rattle.cam_type.specs.declared.ObjectDecl.{ObjectDecl}
use Rattle.cam_know.specs.Known.{nothing}
use Rattle.cam_event.specs.declared.Event.{Event}
use Rattle.cam_event.specs.Inputs.{Restarts}
use Rattle.cam_event.specs.ByKnowledge.{node_step}
use Rattle.cam_event.specs.ByDeltas.{Received, as_carried}
use Rattle.cam_event.specs.Loads.{no_load}
use Rattle.cam_log.specs.Moments.{Opened}
use Rattle.cam_recman.specs.declared.RecFault.{RecFault}
use Rattle.cam_recman.specs.declared.Recovered.{Recovered}
use Rattle.cam_recman.specs.Recovery.{recover, recovered_of}
use Rattle.cam_node.specs.declared.found.Restarted.{Restarted}
use Rattle.cam_node.specs.Found.{HasRestarted}
use Rattle.cam_node.specs.Halting.{IsThrough, IsEnded}
use Rattle.cam_node.specs.Keeping.{IsLogOf, KeepsHistory, KeepsNode}
use Rattle.cam_node.specs.Log.{Logged}
use Rattle.cam_node.specs.Opened.{MayRead, logged_of}
use Rattle.cam_node.specs.Represents.{Node}

through_ended : (objects : List ObjectDecl) (s : ℕ) (own : List Received) → IsThrough objects s own
    → IsEnded objects s own
through_ended objects s [] through = tt
through_ended objects s (k ∷ before) through = inl through

same_entries : (x : Opened) (a b : List (List ℕ)) → x ≡ Ok a → x ≡ Ok b → a ≡ b
same_entries x a b first other = cc

same_recovered : (x : Result Recovered RecFault) (a b : Recovered) → x ≡ Ok a → x ≡ Ok b → a ≡ b
same_recovered x a b first other = cc

-- whatever may be read of a log at rest is the log of the history that its entries keep
pub read_is : (objects : List ObjectDecl) (s : ℕ) (own : List Received)
    (since : ℕ → Opened → Type 0)
    (t : ℕ) (listed : List (List ℕ)) (logged : Logged)
    → ((opened : Opened) → since t opened → opened ≡ Ok listed) → MayRead since t logged
    → KeepsHistory objects s own listed → IsLogOf objects s own logged
read_is objects s own since t listed logged rest read keeps =
    subst (IsLogOf objects s own)
    (ap logged_of (same_recovered (recover listed) keeps.recovered read.recovered
    (ap recovered_of keeps.says) recovers) ∙ sym read.is) keeps.is_log
  where
    recovers : recover listed ≡ Ok read.recovered
    recovers =
        subst (λ (es : List (List ℕ)). recover es ≡ Ok read.recovered)
        (same_entries (Ok read.entries) read.entries listed refl (rest (Ok read.entries)
        read.opens))
        read.recovers

-- THE LEMMA
pub restart_stands : (objects : List ObjectDecl) (s : ℕ) (tells : Bool)
    (since : ℕ → Opened → Type 0) (t : ℕ) (listed : List (List ℕ)) (old new : Node)
    (at : Option Event) (now : List (List ℕ)) (r : Restarted) (own : List Received)
    → tells ≡ true → ((opened : Opened) → since t opened → opened ≡ Ok listed) → old.number ≡ s
    → HasRestarted objects s tells (MayRead since t) old at new now r
    → KeepsNode objects own old listed
    → (new.number ≡ s)
    × (r.stepped.event ≡ node_step objects s (map as_carried own) (Restarts s) None nothing)
    × KeepsNode objects (record { event = r.stepped.event; mail = None; load = no_load } ∷ own) new
    now
restart_stands objects s tells since t listed old new at now r own told rest number has keeps =
    let ended : IsEnded objects s own =
    through_ended objects s own (subst (λ (n : ℕ). IsThrough objects n own) number keeps.through) in
    let is_log : IsLogOf objects s own (logged_of has.left.recovered) =
    read_is objects s own since t listed (logged_of has.left.recovered) rest (has.was told)
    (subst (λ (n : ℕ). KeepsHistory objects n own listed) number keeps.keeps) in (
      has.restart.number,
      has.restart.next own ended is_log,
      has.restart.keeps own ended is_log,
    )
