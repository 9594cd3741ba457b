-- What each call answers, and what it does to the actions.
use Rattle.std.specs.Prelude.{◌≡◌, ℕ, ◌+◌, eqb, nat_le, nat_lt, Bool, true, false, not, ◌&&◌, ◌||◌}
use Rattle.std.specs.Prelude.{if◌then◌else◌, List, [], ◌∷◌, ◌++◌, replicate, filter, length, Option}
use Rattle.std.specs.Prelude.{Some, None, option_map, is_some}
use Rattle.cam_names.specs.declared.name.Name.{Name}
use Rattle.cam_names.specs.Names.{name_eq, parent, home_count}
use Rattle.cam_names.specs.Dependencies.{as_counts, greater_counts}
use Rattle.cam_event.specs.declared.Reply.{Reply}
use Rattle.cam_event.specs.declared.Reply.TheVariants as replies
use Rattle.cam_event.specs.declared.Seen.{Seen}
use Rattle.cam_event.specs.declared.Seen.TheVariants as seens
use Rattle.cam_event.specs.declared.Want.{Want}
use Rattle.cam_event.specs.declared.Want.TheVariants as wants
use Rattle.cam_event.specs.declared.LineRefusal.{LineRefusal}
use Rattle.cam_event.specs.declared.LineRefusal.TheVariants as refusals
use Rattle.cam_event.specs.Gained.{home}
use Rattle.cam_event.specs.Refusals.{first_of_two, where_so}
use Rattle.cam_event.specs.Rules.{is_number}
use Rattle.cam_tranman.specs.declared.call.OpenCall.{OpenCall}
use Rattle.cam_tranman.specs.declared.Started.{Started}
use Rattle.cam_tranman.specs.declared.Started.TheVariants as started
use Rattle.cam_tranman.specs.declared.Taken.{Taken}
use Rattle.cam_tranman.specs.declared.Taken.TheVariants as taken
use Rattle.cam_tranman.specs.declared.action.Action.{Action}
use Rattle.cam_tranman.specs.Actions.{Actions, created, ended, asks, calls, open_call, is_open}
use Rattle.cam_tranman.specs.Actions.{is_open_child, has_open_child}

-- both answer the same
pub record AreSame (one other : Actions) : Type 0 where
  pub node : other.node ≡ one.node
  pub count : other.count ≡ one.count
  pub tops : other.tops ≡ one.tops
  pub action : (a : Name) → other.action a ≡ one.action a
  pub call : (a : Name) → other.call a ≡ one.call a
  pub children : (b : Name) → is_open other b ≡ is_open one b

-- WHAT STANDS AGAINST A REQUEST: it has asked to commit or abort, or its home has crashed since it
-- was named;
abbrev pub has_ended : Actions → Name → Option LineRefusal
has_ended actions a = where_so (ended actions a || nat_lt (home_count a) actions.count)
    refusals.Ended

-- a call of it, or a child, is open;
abbrev pub has_call : Actions → Name → Option LineRefusal
has_call actions a = where_so (is_some (open_call actions a)) refusals.OpenCall

abbrev pub has_child : Actions → Name → Option LineRefusal
has_child actions a = where_so (has_open_child actions a) refusals.OpenChild

-- it was not created, or what it would give up is no open child of it;
abbrev pub is_not_open : Actions → Name → Option LineRefusal
is_not_open actions a = where_so (not (created actions a)) refusals.NotOpen

abbrev pub has_not_open : Actions → Name → Name → Option LineRefusal
has_not_open actions a b = where_so (not (created actions a) || not (is_open_child actions a b))
    refusals.NotOpen

-- its name has eight parts.
abbrev pub is_too_deep : Name → Option LineRefusal
is_too_deep a = where_so (nat_le 8 (length a)) refusals.TooDeep

abbrev pub in_turn : List (Option LineRefusal) → Option LineRefusal
in_turn [] = None
in_turn (r ∷ []) = r
in_turn (r ∷ q ∷ rs) = first_of_two r (in_turn (q ∷ rs))

-- the first test that holds decides
abbrev pub refusal_by : Actions → Name → Want → Option LineRefusal
refusal_by actions a (wants.Ask m) = in_turn (has_ended actions a ∷ has_call actions a
    ∷ is_not_open actions a ∷ is_too_deep a ∷ [])
refusal_by actions a (wants.Call x op) = in_turn
    (has_ended actions a ∷ has_call actions a ∷ has_child actions a ∷ is_not_open actions a ∷ [])
refusal_by actions a (wants.Commit v) = in_turn
    (has_ended actions a ∷ has_call actions a ∷ has_child actions a ∷ is_not_open actions a ∷ [])
refusal_by actions a wants.Abort = in_turn (has_ended actions a ∷ is_not_open actions a ∷ [])
refusal_by actions a (wants.GiveUp b) = in_turn
    (has_ended actions a ∷ has_not_open actions a b ∷ [])

abbrev pub IsFree : Actions → Name → Want → Type 0
IsFree actions a want = refusal_by actions a want ≡ None

-- NAMES: the next top action, and the next child of an action, at a node and a count.
abbrev pub next_top : Actions → Name
next_top actions = record { node = actions.node; count = actions.count; number = actions.tops + 1 }
    ∷ []

abbrev pub next_child : Actions → Name → ℕ → ℕ → Name
next_child actions a m c = a ++ record { node = m; count = c; number = asks actions a + 1 } ∷ []

-- CHANGES. No action runs.
abbrev pub none_run : ℕ → ℕ → Actions
none_run node count = record {
  node = node;
  count = count;
  tops = 0;
  action = λ a. None;
  call = λ a. None;
  children = [];
  room = 0;
}

-- an action that was created and has done nothing yet
abbrev pub fresh : List ℕ → Action
fresh counts = record { ended = false; asks = 0; calls = 0; deps = counts }

abbrev pub with_action : Name → Action → Actions → Actions
with_action a kept actions = record actions {
  action = λ b. if name_eq a b then Some kept
      else actions.action b;
}

-- what is kept of an action is changed, where it was created
abbrev pub changed : Name → (Action → Action) → (Name → Option Action) → Name → Option Action
changed a change kept b = if name_eq a b then option_map change (kept b) else kept b

abbrev pub on : Name → (Action → Action) → Actions → Actions
on a change actions = record actions { action = changed a change actions.action }

abbrev pub with_call : Name → Option OpenCall → Actions → Actions
with_call a call actions = record actions {
  call = λ b. if name_eq a b then call
      else actions.call b;
}

abbrev pub with_child : Name → Actions → Actions
with_child b actions = record actions { children = b ∷ actions.children }

abbrev pub without_child : Name → Actions → Actions
without_child b actions = record actions {
  children = filter
      (λ c. not (name_eq b c)) actions.children;
}

-- one more child asked for, one more call made; it has ended; it depends on more
abbrev pub with_ask : Action → Action
with_ask kept = record kept { asks = kept.asks + 1 }

abbrev pub one_call_more : Action → Action
one_call_more kept = record kept { calls = kept.calls + 1 }

abbrev pub as_ended : Action → Action
as_ended kept = record kept { ended = true }

abbrev pub gaining : List ℕ → Action → Action
gaining counts kept = record kept { deps = greater_counts kept.deps counts }

-- the greater count of each node, where one more node at a count is in it
abbrev pub visiting : List ℕ → ℕ × ℕ → List ℕ
visiting counts pair = greater_counts counts (as_counts (pair ∷ []))

-- A top action is begun: it depends on its home.
abbrev pub begun_as : Name → Actions → Actions
begun_as a actions = with_action a (fresh (visiting (replicate 8 0) (home a)))
    (record actions { tops = actions.tops + 1 })

abbrev pub begun : Actions → Actions
begun actions = begun_as (next_top actions) actions

-- A child is started here: it depends on what its parent did when it asked for it, and on its home.
abbrev pub started_by : Actions → Name → Started
started_by actions b = if created actions b then started.Known else started.New

abbrev pub begun_child : Name → List ℕ → Actions → Actions
begun_child b counts actions = with_action b (fresh (visiting counts (home b))) actions

abbrev pub after_start : Name → List ℕ → Actions → Actions
after_start b counts actions = if created actions b then actions else begun_child b counts actions

-- An action asks for a child, makes a call, has asked to commit or to abort.
abbrev pub asked : Name → Name → Actions → Actions
asked a b actions = with_child b (on a with_ask actions)

abbrev pub called : Name → OpenCall → Actions → Actions
called a call actions = with_call a (Some call) (on a one_call_more actions)

abbrev pub next_call : Actions → Name → ℕ
next_call actions a = calls actions a + 1

abbrev pub finished : Name → Actions → Actions
finished a actions = on a as_ended actions

-- An answer is awaited where the action runs here and has not ended, and its open call has this
-- number.
abbrev pub awaits_by : Actions → Name → ℕ → Bool
awaits_by actions a n = eqb (home_count a) actions.count && created actions a
    && not (ended actions a) && is_number n (open_call actions a)

-- what the action sees of a reply that it awaits; Missed and Refused come where the site has
-- crashed, and it sees nothing of them
abbrev pub seen_of : Reply → Taken
seen_of (replies.Done answer) = taken.Got (seens.Done answer)
seen_of (replies.Busy u) = taken.Got (seens.Busy u)
seen_of replies.Missed = taken.Late
seen_of replies.Refused = taken.Late

-- The call is gone where its site has crashed since it was addressed.
abbrev pub taken_at : Option OpenCall → Reply → ℕ → Taken
taken_at None reply known = taken.Late
taken_at (Some call) reply known =
    if nat_lt call.count known then taken.Got seens.Gone else seen_of reply

abbrev pub taken_by : Actions → Name → ℕ → Reply → ℕ → Taken
taken_by actions a n reply known =
    if not (awaits_by actions a n) then taken.Late else taken_at (actions.call a) reply known

-- An answer that was done adds the call's site with the addressed count.
abbrev pub seeing : Seen → OpenCall → Action → Action
seeing (seens.Done answer) call kept = record kept
    { deps = visiting kept.deps (call.site, call.count) }
seeing (seens.Busy u) call kept = kept
seeing seens.Gone call kept = kept

-- An action has got what it sees of its open call, which is open no longer.
abbrev pub got_by : Option OpenCall → Name → Seen → Actions → Actions
got_by None a seen actions = actions
got_by (Some call) a seen actions = with_call a None (on a (seeing seen call) actions)

abbrev pub got : Name → Seen → Actions → Actions
got a seen actions = got_by (actions.call a) a seen actions

abbrev pub after_taken : Name → Taken → Actions → Actions
after_taken a (taken.Got seen) actions = got a seen actions
after_taken a taken.Late actions = actions

-- A child is decided by its parent's home, where the parent runs here and has not ended, and the
-- child is open.
abbrev pub decides_of : Actions → Name → Option Name → Bool
decides_of actions b None = false
decides_of actions b (Some p) = eqb (home_count p) actions.count && not (ended actions p)
    && is_open_child actions p b

abbrev pub decides_by : Actions → Name → Bool
decides_by actions b = decides_of actions b (parent b)

-- It is open no longer; where it commits, its parent depends on what it depends on.
abbrev pub parent_changed : Option Name → (Action → Action) → (Name → Option Action) → Name
    → Option Action
parent_changed None change kept = kept
parent_changed (Some p) change kept = changed p change kept

abbrev pub parent_gains : Name → List ℕ → Actions → Actions
parent_gains b counts actions = record actions
    { action = parent_changed (parent b) (gaining counts) actions.action }

abbrev pub decided : Name → Option (List ℕ) → Actions → Actions
decided b None actions = without_child b actions
decided b (Some counts) actions = without_child b (parent_gains b counts actions)
