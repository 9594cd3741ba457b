-- What an input makes of works, by what each call of theirs leaves of their parts.
use Rattle.std.proofs.Common.{◌≡◌, ℕ, ◌+◌, ◌≤◌, ◌<◌, Bool, true, false, List, [], ◌∷◌, ◌++◌, length}
use Rattle.std.proofs.Common.{length-append, get_or, set, take, Some, sym, ap, ◌∙◌, subst, arith}
use Rattle.std.specs.Prelude.{map, slice_get}
use Rattle.std.proofs.lemmas.List.{map-set}
use Rattle.cam_log.specs.CutOff.{IsCutOff}
use Rattle.cam_event.specs.declared.Event.{Event}
use Rattle.cam_event.specs.declared.Letter.{Letter}
use Rattle.cam_event.specs.declared.Mark.{Mark}
use Rattle.cam_event.specs.declared.Mark.TheVariants as marks
use Rattle.cam_net.specs.Letters.{InFlightFields, put_as}
use Rattle.cam_net.specs.Outbox.{OutboxFields, HasPutSome}
use Rattle.cam_node.specs.declared.Input.{Input as NodeInput}
use Rattle.cam_node.specs.Calls.{input_of, mail_of, load_of, letters_of, AreSame}
use Rattle.cam_node.specs.Appending.{HasAppended, OpensAfter}
use Rattle.cam_node.specs.Found.{HaltsAt}
use Rattle.cam_node.specs.Halting.{IsStepThrough}
use Rattle.cam_node.specs.Keeping.{IsHalt, KeepsOn}
use Rattle.cam_node.specs.Log.{Logged}
use Rattle.cam_runs.specs.Standing.{Standing}
use Rattle.cam_script.specs.declared.Script.{Script}
use Rattle.cam_cluster.specs.declared.works.failing.Failed.{Failed}
use Rattle.cam_cluster.specs.declared.works.failing.Ending.TheVariants as endings
use Rattle.cam_cluster.specs.Failing.{KnowsMore}
use Rattle.cam_cluster.specs.declared.works.Put.TheVariants as puts
use Rattle.cam_cluster.specs.declared.works.undecided.OpenHalt.{OpenHalt}
use Rattle.cam_cluster.specs.Puts.{HasPut, KeepsAsBefore, letter_of}
use Rattle.cam_cluster.specs.Works.{NodeFields, WorksFields, KeepsRun, MayReadAt, HasTellingDisk}
use Rattle.cam_cluster.specs.Works.{has_failed}
use Rattle.cam_cluster.proofs.PlacedNodes.{taken_there, seen_there, reads_elsewhere, reads_there}
use Rattle.cam_cluster.proofs.PutKeeps.{keeps_as_before, keeps_as_put, keeps_failing}
use Rattle.cam_cluster.proofs.PutEnds.{put_stood, put_halted}

-- letters are put after those that the network has
pub net_grows : (o later : OutboxFields) → HasPutSome o later → length o.net ≤ length later.net
net_grows o later some =
    let are = ap (λ (xs : List InFlightFields). length xs) some.net
    ∙ length-append o.net (map put_as (take some.many o.unput)) in
    omega (arith, are)

module _ {N : Type 0} (part : N → NodeFields) (tells : N → Bool) (may : N → Logged → Type 0) where
  abbrev pub seen : List N → OutboxFields → List Bool → Failed → List OpenHalt → List Event
      → List Mark → WorksFields
  seen nodes outbox halted failed undecided events marks = record {
    nodes = map part nodes;
    outbox = outbox;
    halted = halted;
    failed = failed;
    undecided = undecided;
    events = events;
    marks = marks;
  }

  -- room was made: letters were put
  pub room_made : (nodes now : List N) (o later : OutboxFields) (h halted : List Bool)
      (v failed : Failed) (u undecided : List OpenHalt) (e events : List Event)
      (m marks : List Mark)
      → now ≡ nodes → HasPutSome o later → halted ≡ h → failed ≡ v → undecided ≡ u → events ≡ e
      → marks ≡ m
      → KeepsAsBefore (seen nodes o h v u e m) (MayReadAt tells may nodes)
      (seen now later halted failed undecided events marks) (MayReadAt tells may now)
  room_made nodes now o later h halted v failed u undecided e events m marks same some is_h is_v
      is_u is_e is_m script st is keeps =
      subst (λ (z : List N × List Bool × Failed × List OpenHalt × List Event × List Mark). KeepsRun
      script st (seen z.0 later z.1 z.2 z.3 z.4 z.5) (MayReadAt tells may z.0)) (λ i. (
        sym same i,
        sym is_h i,
        sym is_v i,
        sym is_u i,
        sym is_e i,
        sym is_m i,
      )) (keeps_as_put _ _ _ _ _ is
      some keeps)

  pub seen_as : (script : Script) (st : Standing) (nodes : List N) (o later : OutboxFields)
      (h halted : List Bool) (v failed : Failed) (u undecided : List OpenHalt)
      (e events : List Event) (m marks : List Mark)
      → later ≡ o → halted ≡ h → failed ≡ v → undecided ≡ u → events ≡ e → marks ≡ m
      → KeepsRun script st (seen nodes o h v u e m) (MayReadAt tells may nodes)
      → KeepsRun script st (seen nodes later halted failed undecided events marks)
      (MayReadAt tells may nodes)
  seen_as script st nodes o later h halted v failed u undecided e events m marks is_o is_h is_v
      is_u is_e is_m keeps =
      subst (λ (z : OutboxFields × List Bool × Failed × List OpenHalt × List Event × List Mark).
      KeepsRun script st (seen nodes z.0 z.1 z.2 z.3 z.4 z.5) (MayReadAt tells may nodes))
      (λ i. (sym is_o i, sym is_h i, sym is_v i, sym is_u i, sym is_e i, sym is_m i)) keeps

  -- more is known to have failed
  pub failed_as : (nodes : List N) (o : OutboxFields) (h : List Bool) (v w : Failed)
      (u : List OpenHalt) (e : List Event) (m : List Mark) → KnowsMore v w
      → KeepsAsBefore (seen nodes o h v u e m) (MayReadAt tells may nodes)
      (seen nodes o h w u e m) (MayReadAt tells may nodes)
  failed_as nodes o h v w u e m less script st is keeps = keeps_failing _ _ _ _ _ less keeps

  -- One of the nodes was asked for a step.
  module _ (place : ℕ) (nodes : List N) (o : OutboxFields) (h : List Bool) (v : Failed)
      (u : List OpenHalt)
      (e : List Event) (m : List Mark) (old new : N) (there : place < length nodes)
      (within : place < 8)
      (is_old : old ≡ get_or nodes place old) (now : List N) (set_is : now ≡ set nodes place new)
      (objects : (part new).objects ≡ (part old).objects) where
    at : slice_get (map part nodes) place ≡ Some (part old)
    at = seen_there part nodes place _ (taken_there _ _ _ there is_old)

    are : map part now ≡ set (map part nodes) place (part new)
    are = ap (map part) set_is ∙ map-set part nodes place new

    others : (s : ℕ) (logged : Logged) → 1 ≤ s → (s ≡ place + 1 → ⊥)
        → MayReadAt tells may now s logged → MayReadAt tells may nodes s logged
    others s logged low away read =
        reads_elsewhere _ may _ _ _ _ _ low away (subst (λ (ns : List N). MayReadAt tells may
        ns s logged) set_is read)

    pub as_before_in : (part old).halted ≡ false → (part new).halted ≡ false
        → AreSame (part old).site.node (part new).site.node
        → (part new).site.entries ≡ (part old).site.entries
        → (part new).passes ≡ (part old).passes
        → (HasTellingDisk (part new) → HasTellingDisk (part old))
        → KeepsAsBefore (seen nodes o h v u e m) (MayReadAt tells may nodes) (seen now o h v u e m)
        (MayReadAt tells may now)
    as_before_in ran runs same entries passes less script st is keeps =
        keeps_as_before script st place (seen nodes o h v u e m) (MayReadAt tells may nodes)
        (part old)
        keeps at (part new) (MayReadAt tells may now) (map part now) are objects others within ran
        runs same entries passes less

    pub stood_in : (line : ℕ) (input : NodeInput) (event : Event) (letters : List Letter)
        → o.unput ≡ [] → length e + 1 < 1000000000 → (part new).halted ≡ (part old).halted
        → IsStepThrough (part old).objects (part old).site.node (part new).site.node
        (input_of (part old).site.node.number input) (mail_of input) (load_of input) event
        → KeepsOn (part old).objects (part old).site.node (part old).site.entries
        (part new).site.node (part new).site.entries (input_of (part old).site.node.number input)
        (mail_of input) (load_of input) event
        → letters ≡ letters_of (part new).site.node event.sent
        → (HasTellingDisk (part new) → HasTellingDisk (part old))
        → HasAppended (part old).objects (part old).site.node
        (input_of (part old).site.node.number input) (mail_of input) (load_of input) event
        (part old).site.entries (part new).site.entries (part old).passes (part new).passes
        → HasPut line place input (seen nodes o h v u e m) (MayReadAt tells may nodes) puts.Stood
        (seen now (record { net = o.net; unput = letters }) h v u (e ++ event ∷ []) m)
        (MayReadAt tells may now)
    stood_in line input event letters none_left few runs step on sent less appended script st halts
        restarted is keeps put_so none =
        put_stood script st place input (seen nodes o h v u e m) (MayReadAt tells may nodes)
        (part old) keeps put_so at within halts line restarted (part new) (MayReadAt tells may now)
        (map part now) are objects others event letters none_left few runs none step on sent
        less appended

    pub halted_in : (line : ℕ) (input : NodeInput) → o.unput ≡ [] → (part new).halted ≡ true
        → (part new).site.node.number ≡ (part old).site.node.number
        → (tells new ≡ true → IsHalt (part old).objects (part old).site.node
        (part old).site.entries (input_of (part old).site.node.number input) (mail_of input)
        (load_of input) (may new))
        → HaltsAt (part old).objects (part old).site.node (part old).site.entries
        (input_of (part old).site.node.number input) (mail_of input) (load_of input)
        (part new).site.node (part new).halted_at
        → (w : Failed) → KnowsMore v w
        → (HasTellingDisk (part new) → HasTellingDisk (part old))
        → (w.ends ≡ endings.Nothing → has_failed w (place + 1) ≡ false → (part new).tells ≡ true
        → IsCutOff 4 (part old).passes (part new).passes (λ calls. OpensAfter calls
        (part old).objects (part old).site.node (part old).site.entries
        (input_of (part old).site.node.number input) (mail_of input) (load_of input)
        (part new).reads))
        → HasPut line place input (seen nodes o h v u e m) (MayReadAt tells may nodes) puts.Halted
        (seen now o (set h place true) w (record {
          node = place + 1;
          before = length e;
          got = letter_of input;
        } ∷ u) e (m ++ marks.Halted line (place + 1) false ∷ []))
        (MayReadAt tells may now)
    halted_in line input none_left stops same halt at_event w fed less cause script st halts
        restarted is keeps put_so lost =
        put_halted script st place input (seen nodes o h v u e m) (MayReadAt tells may nodes)
        (part old) keeps put_so at within halts line restarted (part new) (MayReadAt tells may now)
        (map part now) are objects others none_left stops lost same
        (record {
          either = λ history logged node_keeps may_then read.
              let own = reads_there tells may nodes place new logged there
              (subst (λ (ns : List N). MayReadAt tells may ns (place + 1) logged) set_is read) in
              (halt own.0).either history logged node_keeps may_then own.1;
        })
        at_event w fed less cause
