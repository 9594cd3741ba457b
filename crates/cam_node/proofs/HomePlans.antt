-- The plan of a letter that concerns the actions at home alone: its event is the definition's, and
-- the node that it makes stands for the longer
-- history.
use Rattle.std.proofs.Common.{◌≡◌, ◌≤◌, Bool, not, ◌||◌, List, ◌∷◌, length, map, Some, sym, ap, ◌∙◌, subst}
use Rattle.std.specs.Prelude.{filter}
use Rattle.std.specs.List.{list_any}
use Rattle.cam_names.specs.declared.name.Name.{Name}
use Rattle.cam_names.specs.Names.{ancestors}
use Rattle.cam_type.specs.declared.ObjectDecl.{ObjectDecl}
use Rattle.cam_know.specs.Knowledge.{Knowledge}
use Rattle.cam_know.specs.Known.{nothing, knows_abort, knows_commit, news}
use Rattle.cam_know.specs.Order.{told_in_order}
use Rattle.cam_event.specs.declared.LetterId.{LetterId}
use Rattle.cam_event.specs.declared.Event.{Event}
use Rattle.cam_event.specs.declared.Letter.{Letter}
use Rattle.cam_event.specs.declared.Sent.{Sent}
use Rattle.cam_event.specs.Inputs.{Receives, Mail}
use Rattle.cam_event.specs.Rules.{Did, arrives}
use Rattle.cam_event.specs.ByPast.{event_of}
use Rattle.cam_event.specs.ByKnowledge.{held_sight, node_step, new_informs}
use Rattle.cam_event.specs.Loads.{Load, noted_at, with_load}
use Rattle.cam_event.specs.ByDeltas.{Received, as_carried}
use Rattle.cam_tranman.specs.Keeping.{HasCounts, after_deeds}
use Rattle.cam_tranman.specs.Events.{is_at_home}
use Rattle.cam_tranman.specs.Calls as tranman
use Rattle.cam_commit.specs.Calls as commit
use Rattle.cam_locks.specs.Site.{Site}
use Rattle.cam_locks.specs.Names.{has_name}
use Rattle.cam_server.specs.Server.{Server}
use Rattle.cam_server.specs.Calls as server
use Rattle.cam_node.specs.declared.knowing.Heard.{Heard}
use Rattle.cam_node.specs.Represents.{Node, Represents}
use Rattle.cam_node.specs.Halting.{IsThrough, IsStepThrough}
use Rattle.cam_node.specs.Lawful.{MayBePut}
use Rattle.cam_node.specs.Calls.{AreSame, letter_as, letters_of}
use Rattle.cam_node.specs.AtHome.{IsAtHome, IsNoVote, LearntAtHome}
use Rattle.cam_node.specs.Standing.{HasLearnt}
use Rattle.cam_node.proofs.Letters.{letter_keeps}
use Rattle.cam_node.proofs.Orderly.{put_is_asked, through_orderly}

-- the same of each history through halts that a node represents, where this letter may be put to it
abbrev pub ForEach : List ObjectDecl → Node → LetterId → Mail → Load → (List Received → Type 0)
    → Type 0
ForEach objects old id mail load Holds =
    (history : List Received) → IsThrough objects old.number history
    → Represents objects history old
    → MayBePut objects old.number (held_sight objects old.number (map as_carried history) nothing)
    (Receives id) (Some mail) load
    → Holds history

-- the rule of a letter makes this
abbrev pub IsRuled : List ObjectDecl → Node → LetterId → Mail → Load → Did → Type 0
IsRuled objects old id mail load d =
    ForEach objects old id mail load
    (λ history. arrives objects
    (held_sight objects old.number (map as_carried history) (told_in_order load.know)) mail.from
    mail.body ≡ d)

-- the actions did what the deeds do
abbrev pub HaveDone : List ObjectDecl → Node → LetterId → Mail → Load → Did → Node → Type 0
HaveDone objects old id mail load d new =
    ForEach objects old id mail load
    (λ history. tranman.AreSame
    (after_deeds objects (Some mail) (filter is_at_home d.deeds) old.actions) new.actions)

-- what a letter brought, as the node goes by it
pub record IsLearnt (mail : Mail) (load : Load) (heard : Heard) (known : Knowledge)
    (old : Node) : Type 0 where
  pub knows : known ≡ with_load old.know load
  pub news : heard.news ≡ news known old.know
  pub places : heard.places ≡ noted_at mail.to (length known.outcomes) old.places mail.from load

-- a site was informed, where its server made room before
pub informed_before : (aborts commits : Name → Bool) (one other new : Server)
    → server.AreSame one other
    → server.AreInformed aborts commits other new → server.AreInformed aborts commits one new
informed_before aborts commits one other new room has = record {
  count = has.count ∙ room.count;
  objects = has.objects ∙ ap (λ (st : Site). st.objects) room.site;
  node = has.node ∙ ap (λ (st : Site). st.node) room.site;
  live = has.live ∙ ap
      (λ (st : Site). filter (λ o. not (list_any aborts (ancestors o.action))) st.live) room.site;
  commits_are = λ u. has.commits_are u
      ∙ ap (λ (st : Site). has_name st.committed u || commits u) room.site;
  aborts_are = λ u. has.aborts_are u
      ∙ ap (λ (st : Site). has_name st.aborted u || aborts u) room.site;
  next = has.next ∙ ap (λ (st : Site). st.next) room.site;
  replies = λ a n. has.replies a n ∙ room.replies a n;
}

learnt_home : (objects : List ObjectDecl) (d : Did) (mail : Mail) (load : Load) (heard : Heard)
    (known : Knowledge) (old mid new : Node)
    → AreSame old mid → IsLearnt mail load heard known old → mail.to ≡ old.number
    → HasLearnt (Some heard) known mid (record new { actions = mid.actions })
    → tranman.AreSame (after_deeds objects (Some mail) (filter is_at_home d.deeds) old.actions)
    new.actions
    → LearntAtHome objects d mail load old new
learnt_home objects d mail load heard known old mid new same is addressed has acted = record {
  number = has.number ∙ same.number;
  count = has.count ∙ same.count;
  know = has.know ∙ is.knows;
  places =
      has.places_are ∙ is.places
      ∙ (λ i. noted_at (addressed i) (length (sym has.know i).outcomes) old.places mail.from load);
  actions = acted;
  families = subst (commit.AreSame old.families) (sym has.families) same.families;
  server =
      subst (λ (k : Knowledge). server.AreInformed (knows_abort k) (knows_commit k) old.server
      new.server)
      (is.news ∙ ap (λ (k : Knowledge). news k old.know) (sym has.know))
      (informed_before (knows_abort heard.news) (knows_commit heard.news) old.server mid.server
      new.server same.server has.server);
}

pub home_step : (objects : List ObjectDecl) (old mid new : Node) (id : LetterId) (mail : Mail)
    (load : Load) (heard : Heard) (known : Knowledge)
    (d : Did) (event : Event) → AreSame old mid → (1 ≤ mail.from) × (mail.from ≤ 8)
    → HasCounts mail.body → IsNoVote mail → IsAtHome d
    → IsLearnt mail load heard known old
    → event ≡ event_of old.number (Some id)
    (new_informs old.number (told_in_order load.know) old.know) d
    → IsRuled objects old id mail load d
    → HasLearnt (Some heard) known mid (record new { actions = mid.actions })
    → HaveDone objects old id mail load d new
    → IsStepThrough objects old new (Receives id) (Some mail) load event
home_step objects old mid new id mail load heard known d event same from counts vote home is
    event_is ruled has acted = record {
      number = has.number ∙ same.number;
      next = is_next;
      represents = λ history through rep may.
          subst (λ (e : Event). Represents objects
          (record { event = e; mail = Some mail; load = load } ∷ history) new)
          (sym (is_next history through rep may))
          (letter_keeps objects history id mail load d old new (ruled history through rep may) home vote
          (learnt_home objects d mail load heard known old mid new same is may.addressed has
          (acted history through rep may)) counts from through
          (through_orderly objects old.number history through)
          (put_is_asked objects old.number
          (held_sight objects old.number (map as_carried history) nothing) (Receives id) (Some mail)
          load may) rep);
    }
  where
    is_next : ForEach objects old id mail load
        (λ history. event ≡ node_step objects old.number (map as_carried history) (Receives id)
        (Some mail) (told_in_order load.know))
    is_next history through rep may =
        event_is
        ∙ (λ i. event_of old.number (Some id)
        (new_informs old.number (told_in_order load.know) (rep.knowledge i))
        (sym (ruled history through rep may) i))

-- the letters, as the node says them then
pub said : (mid new : Node) (heard : Heard) (known : Knowledge) (letters : List Letter)
    (sent : List Sent)
    → letters ≡ map (letter_as known heard.places mid.number mid.count) sent
    → HasLearnt (Some heard) known mid (record new { actions = mid.actions })
    → letters ≡ letters_of new sent
said mid new heard known letters sent letters_are has =
    letters_are ∙ (λ i. map
    (letter_as (sym has.know i) (sym has.places_are i) (sym has.number i) (sym has.count i)) sent)
