-- What a storm node keeps, so that it is the replay of its history.
use Rattle.std.specs.Prelude.{◌≡◌, ◌⊎◌, ℕ, ◌≤◌, nat_le, Bool, true, not, ◌&&◌, ◌||◌, List, Option, Some, None, option_map, is_none}
use Rattle.std.specs.BTreeSet.{contains}
use Rattle.cam_names.specs.Names.{name_cmp}
use Rattle.cam_type.specs.declared.ObjectDecl.{ObjectDecl}
use Rattle.cam_event.specs.declared.Request.{Request}
use Rattle.cam_event.specs.ByDeltas.{Received}
use Rattle.cam_node.specs.Keeping.{KeepsNode}
use Rattle.cam_node.specs.Represents.{Node}
use Rattle.cam_journal.specs.declared.input.CoreInput.{CoreInput}
use Rattle.cam_journal.specs.declared.input.CoreInput.TheVariants.{Letter, Drive}
use Rattle.cam_gen.specs.declared.copies.Copies.{Copies}
use Rattle.cam_gen.specs.Storms.{Words, objects_of, tops_of}
use Rattle.cam_gen.specs.StormDraws.{AreAt}
use Rattle.cam_storm.specs.Events.{Copied}
use Rattle.cam_storm.specs.Lawful.{SeatHistory, own_history}
use Rattle.cam_storm.specs.Own.{OwnRequest}
use Rattle.cam_storm.specs.Core.{Cell, IsReplay}
use Rattle.cam_storm_node.specs.declared.receipts.Receipts.{Receipts}
use Rattle.cam_storm_node.specs.declared.works.Works.{Works}
use Rattle.cam_storm_node.specs.Receipts.{times_in}
use Rattle.cam_storm_node.specs.Works.{HaveSeen, view_in}
use Rattle.cam_storm_node.specs.Asking.{HaveAsked}

-- a storm node, as contracts see it
pub record StormNodeFields : Type 0 where
  pub storm : Words
  pub node : Node
  pub objects : List ObjectDecl
  pub entries : List (List ℕ)
  -- its node halted
  pub halted : Bool
  -- how often its disk has failed
  pub faults : ℕ
  -- a step failed
  pub lost : Bool
  pub events : ℕ
  pub tops : ℕ
  pub copies : Copies
  pub works : Works
  pub next : Option Request
  pub receipts : Receipts

-- it takes no further step
abbrev pub is_over : StormNodeFields → Bool
is_over storm_node = storm_node.lost || storm_node.halted

-- as the laws of storms see it, when its node has sent so many letters
abbrev pub cell_of : StormNodeFields → ℕ → Cell
cell_of storm_node sent =
    record {
      node = storm_node.node;
      is_halted = is_over storm_node;
      events = storm_node.events;
      sent = sent;
      view = view_in storm_node.works.works;
      is_stopped = contains name_cmp storm_node.works.stopped;
      next_drive = option_map (λ (r : Request). r.action) storm_node.next;
      received = λ letter. times_in storm_node.receipts letter.event letter.place;
    }

-- the request of the least-named action that has one is kept whole
abbrev pub IsNextRequest : Words → ℕ → List Received → Option Request → Type 0
IsNextRequest words s own None = Unit {0}
IsNextRequest words s own (Some request) = OwnRequest words s own request.action request.want

-- what a storm node keeps that is not over: its node and its log stand for its history, and what it
-- draws copies from is where its letters are
pub record Runs (words : Words) (s sent : ℕ) (own : List Received) (storm_node : StormNodeFields)
    : Type 0 where
  pub node : KeepsNode (objects_of words) own storm_node.node storm_node.entries
  pub objects : storm_node.objects ≡ objects_of words
  pub copies : AreAt words s sent storm_node.copies
  pub seen : HaveSeen words own storm_node.works
  pub asked : HaveAsked s own storm_node.works
  pub next : IsNextRequest words s own storm_node.next

-- a storm node is the replay of a node's history
pub record IsPlaying (words : Words) (storm_node : StormNodeFields) (s : ℕ) (history : SeatHistory)
    : Type 0 where
  pub words_are : storm_node.storm ≡ words
  pub tops : storm_node.tops ≡ tops_of words s
  pub few : words.actions ≤ 64
  pub sent : ℕ
  pub replay : IsReplay words (cell_of storm_node sent) s history
  pub runs : (is_over storm_node ≡ true) ⊎ Runs words s sent (own_history history) storm_node

-- so it is one, and the disk of its node has failed no less often than before the storm
pub record IsCore (words : Words) (failures : ℕ → ℕ) (storm_node : StormNodeFields) (s : ℕ)
    (history : SeatHistory) : Type 0 where
  pub plays : IsPlaying words storm_node s history
  pub later : failures s ≤ storm_node.faults

-- Whether it has nothing to do with an item: by what it keeps.
abbrev pub is_idle_by : StormNodeFields → CoreInput Copied → Bool
is_idle_by storm_node (Letter number place c) =
    is_over storm_node || nat_le c.copies (times_in storm_node.receipts number place)
is_idle_by storm_node Drive =
    is_over storm_node || (nat_le storm_node.tops storm_node.events && is_none storm_node.next)

-- it has a step to take with an item
abbrev pub is_busy : StormNodeFields → CoreInput Copied → Bool
is_busy storm_node item = not (is_idle_by storm_node item)
