-- What a restart found and left, and works before and after it.
use Rattle.std.proofs.Common.{◌≡◌, ℕ, zero, Bool, true, false, List, [], Option, Some, None, refl}
use Rattle.std.proofs.Common.{sym, ap, ◌∙◌, subst}
use Rattle.std.specs.Prelude.{if◌then◌else◌}
use Rattle.std.proofs.lemmas.Bool.{true≢false}
use Rattle.cam_type.specs.declared.ObjectDecl.{ObjectDecl}
use Rattle.cam_event.specs.declared.Event.{Event}
use Rattle.cam_event.specs.declared.Letter.{Letter}
use Rattle.cam_event.specs.declared.Mark.{Mark}
use Rattle.cam_event.specs.declared.Sent.{Sent}
use Rattle.cam_net.specs.Outbox.{OutboxFields}
use Rattle.cam_node.specs.declared.found.Found.{Found}
use Rattle.cam_node.specs.Calls.{letters_of}
use Rattle.cam_node.specs.Found.{IsFoundEvent, TellsWhich}
use Rattle.cam_node.specs.Keeping.{IsLogOf}
use Rattle.cam_node.specs.Log.{Logged}
use Rattle.cam_node.specs.Represents.{Node}
use Rattle.cam_runs.specs.Standing.{Undecided}
use Rattle.cam_histories.specs.Laws.{history_of}
use Rattle.cam_cluster.specs.declared.works.failing.Failed.{Failed}
use Rattle.cam_cluster.specs.declared.works.restart.Restart.{Restart}
use Rattle.cam_cluster.specs.declared.works.restart.Restart.TheVariants as ends
use Rattle.cam_cluster.specs.Puts.{KeepsAsBefore}
use Rattle.cam_cluster.specs.declared.works.undecided.OpenHalt.{OpenHalt}
use Rattle.cam_cluster.specs.Restarts.{HasRestartedAs}
use Rattle.cam_cluster.specs.Works.{IsHaltOf, NodeFields, WorksFields}
use Rattle.cam_cluster.proofs.PutWorks.{seen}

-- where a halted node found nothing taken, its log is that of its history
pub found_none : (objects : List ObjectDecl) (trace : List Event) (undecided : List Undecided)
    (s : ℕ) (node : NodeFields) (might : Logged → Type 0) (logged : Logged) (found : Found)
    → IsHaltOf objects trace undecided s node might → might logged
    → TellsWhich objects s node.site.node node.halted_at logged found → found.event ≡ None
    → IsLogOf objects s (history_of objects trace s) logged
found_none objects trace undecided s node might logged found halt read tells none =
    subst (IsFoundEvent objects s (history_of objects trace s) halt.whole zero logged) none
    (subst (λ (o : Option Event). TellsWhich objects s node.site.node o logged found) halt.kept
    tells (history_of objects trace s) halt.whole zero halt.halted (halt.either logged read)).event

-- nothing was found taken: the node was not halted, or its log has nothing
pub none_if : (w : Bool) (o : Option Event) → None ≡ (if w then o else None) → w ≡ true → o ≡ None
none_if true o is on = sym is
none_if false o is on = absurd (true≢false (sym on))

-- an event was found: the node was halted, and its log has that
pub some_if : (w : Bool) (o : Option Event) (e : Event) → Some e ≡ (if w then o else None)
    → (w ≡ true) × (o ≡ Some e)
some_if true o e is = (refl, sym is)
some_if false o e is = absurd (some_is_not is)
  where
    some_is_not : Some e ≡ None → ⊥
    some_is_not same = cc

-- before it letters were put
pub after_room : (place : ℕ) (old mid new : WorksFields) (might mays may : ℕ → Logged → Type 0)
    (done : Restart) → KeepsAsBefore old might mid mays
    → HasRestartedAs place mid mays done new may → HasRestartedAs place old might done new may
after_room place old mid new might mays may ends.Stood before has =
    λ script st halts line restarted is keeps stands.
    has script st halts line restarted is (before script st is keeps) stands
after_room place old mid new might mays may ends.Found before has = record {
  halted = λ script st is keeps. has.halted script st is (before script st is keeps);
  stands = λ script st found k ahead e halts line restarted is keeps under beyond stands.
      has.stands script st found k ahead e halts line restarted is (before script st is keeps)
      under beyond stands;
}
after_room place old mid new might mays may ends.Failed before has = has

pub nothing_sent : (node : Node) (sent : List Sent) (letters : List Letter) → letters ≡ []
    → sent ≡ [] → letters ≡ letters_of node sent
nothing_sent node sent letters is none = is ∙ sym (ap (letters_of node) none)

-- works whose parts are these
pub same_works : {N : Type 0} (part : N → NodeFields) (tells : N → Bool)
    (may : N → Logged → Type 0) (nodes : List N) (o later : OutboxFields) (h halted : List Bool)
    (v failed : Failed) (u undecided : List OpenHalt) (e events : List Event) (m marks : List Mark)
    → o ≡ later → h ≡ halted → v ≡ failed → u ≡ undecided → e ≡ events → m ≡ marks
    → seen part tells may nodes o h v u e m
    ≡ seen part tells may nodes later halted failed undecided events marks
same_works part tells may nodes o later h halted v failed u undecided e events m marks is_o is_h
    is_v is_u is_e is_m =
    λ i. seen part tells may nodes (is_o i) (is_h i) (is_v i) (is_u i) (is_e i) (is_m i)
