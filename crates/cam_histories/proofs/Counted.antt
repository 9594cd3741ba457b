-- A node of a run has counted no more than there are events.
use Rattle.std.proofs.Common.{◌≡◌, ℕ, ◌+◌, ◌≤◌, ◌||◌, eqb, Bool, true, false, not, if◌then◌else◌}
use Rattle.std.proofs.Common.{List, [], ◌∷◌, map, length, None, refl, ap, ◌∙◌}
use Rattle.std.proofs.Common.{subst, arith}
use Rattle.std.specs.Prelude.{nat_lt, nat_le}
use Rattle.cam_names.specs.declared.name.Name.{Name}
use Rattle.cam_names.specs.Names.{home_count}
use Rattle.cam_type.specs.declared.ObjectDecl.{ObjectDecl}
use Rattle.cam_know.specs.Known.{nothing}
use Rattle.cam_event.specs.declared.Deed.{Deed}
use Rattle.cam_event.specs.declared.Event.{Event}
use Rattle.cam_event.specs.declared.LineRefusal.TheVariants as refusals
use Rattle.cam_event.specs.declared.Want.{Want}
use Rattle.cam_event.specs.declared.Want.TheVariants as wants
use Rattle.cam_event.specs.History.{count, ended, created, is_open_child, is_crash, is_ask_of}
use Rattle.cam_event.specs.History.{is_call_of, is_top_create, number_of}
use Rattle.cam_event.specs.Inputs.{mail_got}
use Rattle.cam_event.specs.ByKnowledge.{held_sight}
use Rattle.cam_event.specs.Carried.{deeds_of}
use Rattle.cam_event.specs.ByDeltas.{Received, as_carried, received, received_of}
use Rattle.cam_event.specs.Refusals.{first_of_two, where_so, refusal, has_ended, has_call}
use Rattle.cam_event.specs.Refusals.{has_child, is_not_open}
use Rattle.cam_event.specs.Sights.{Sight, present}
use Rattle.cam_agree.proofs.Ran.{Ran}
use Rattle.cam_cut.proofs.HomeLines.{first_none, where_none}
use Rattle.cam_tranman.specs.Actions.{RunsActions}
use Rattle.cam_node.specs.Represents.{Node, Represents}
use Rattle.cam_histories.specs.Laws.{history_of}
use Rattle.cam_histories.specs.Counted.{HasCounted, NodesCountFew, AskedMayRun}
use Rattle.cam_histories.proofs.Ranging.{IsQuietTest, own_once, count_number}

-- a node has no more events than there are
pub no_longer : (objects : List ObjectDecl) (t : List Event) (s : ℕ)
    → length (history_of objects t s) ≤ length t
no_longer objects [] s = omega arith
no_longer objects (e ∷ t) s = by (eqb e.node s) (no_longer objects t s)
  where
    old : List Received
    old = history_of objects t s

    by : (b : Bool) → length old ≤ length t
        → length (if b then received objects (received_of objects t) e (mail_got t e.got) ∷ old
        else old)
        ≤ length (e ∷ t)
    by true h = omega (arith, h)
    by false h = omega (arith, h)

module _ (objects : List ObjectDecl) (t : List Event) (s : ℕ) (run : Ran objects t) where
  abbrev own : List Deed
  own = deeds_of (map as_carried (history_of objects t s))

  few : (q : Deed → Bool) → IsQuietTest q → number_of q own ≤ length t
  few q quiet =
      let once = own_once q objects t s quiet run in
      let short = no_longer objects t s in
      omega (arith, once, short)

  counted : (node : Node) → node.number ≡ s → Represents objects (history_of objects t s) node
      → HasCounted t s own node
  counted node number stands = record {
    count =
        let is : node.count ≡ number_of (is_crash s) own + 1 =
        stands.own_count ∙ ap (count own) number ∙ count_number own s in
        let most = few (is_crash s) (record {
          commit = λ a. refl;
          abort = λ a. refl;
          inform = λ r a o. refl;
        }) in
        omega (arith, is, most);
    tops =
        let is = (runs number).tops in
        let most = few (is_top_create s (count own s))
        (record { commit = λ a. refl; abort = λ a. refl; inform = λ r a o. refl }) in
        omega (arith, is, most);
    children = λ a may.
        let is = (runs number).asks a may in
        let most = few (is_ask_of a) (record {
          commit = λ b. refl;
          abort = λ b. refl;
          inform = λ r b o. refl;
        }) in
        omega (arith, is, most);
    called = λ a may.
        let is = (runs number).calls a may in
        let most = few (is_call_of a) (record
        { commit = λ b. refl; abort = λ b. refl; inform = λ r b o. refl }) in
        omega (arith, is, most);
  }
    where
      runs : node.number ≡ s
          → RunsActions objects s (map as_carried (history_of objects t s)) node.actions
      runs same =
          subst (λ (m : ℕ). RunsActions objects m
          (map as_carried (history_of objects t s)) node.actions)
          same stands.runs

pub nodes_count_few : NodesCountFew
nodes_count_few objects taken t s node run number stands =
    counted objects t s (taken, run) node number stands

-- an action that has not ended may run at its home
not_ended : (g : Sight) (a : Name) (want : Want) → refusal g a want ≡ None → has_ended g a ≡ None
not_ended g a (wants.Ask m) h =
    (first_none (has_ended g a)
    (first_of_two (has_call g a)
    (first_of_two (is_not_open g a) (where_so (nat_le 8 (length a)) refusals.TooDeep))) h).0
not_ended g a (wants.Call x op) h =
    (first_none (has_ended g a)
    (first_of_two (has_call g a) (first_of_two (has_child g a) (is_not_open g a))) h).0
not_ended g a (wants.Commit v) h =
    (first_none (has_ended g a)
    (first_of_two (has_call g a) (first_of_two (has_child g a) (is_not_open g a))) h).0
not_ended g a wants.Abort h = (first_none (has_ended g a) (is_not_open g a) h).0
not_ended g a (wants.GiveUp b) h =
    (first_none (has_ended g a)
    (where_so (not (created g.deeds a) || not (is_open_child g.deeds a b)) refusals.NotOpen) h).0

no_greater : (x : Bool) (m n : ℕ) → (x || nat_lt m n) ≡ false → n ≤ m
no_greater true m n h = cc
no_greater false m n h = grind (arith, h)

pub asked_may_run : AskedMayRun
asked_may_run objects s history a want home free =
    let g : Sight = held_sight objects s (map as_carried history) nothing in (
      home,
      no_greater (ended g.deeds a) (home_count a) (present g)
          (where_none (ended g.deeds a || nat_lt (home_count a) (present g)) refusals.Ended
          (not_ended g a want free)),
    )
