-- What a storm node makes of a step that its node took: its letters, what its actions have seen,
-- and which action makes the next request.
use Rattle.std.specs.Prelude.{◌≡◌, ℕ, ℤ, ◌+◌, ◌<◌, ◌≤◌, true, List, ◌∷◌, length, map, Option, Some, None, option_map}
use Rattle.cam_names.specs.declared.name.Name.{Name}
use Rattle.cam_event.specs.declared.Letter.{Letter as EventLetter}
use Rattle.cam_event.specs.declared.LetterId.{LetterId}
use Rattle.cam_event.specs.declared.Request.{Request}
use Rattle.cam_event.specs.declared.Want.{Want}
use Rattle.cam_event.specs.History.{created}
use Rattle.cam_event.specs.Carried.{deeds_of}
use Rattle.cam_event.specs.ByDeltas.{Received, as_carried}
use Rattle.cam_node.specs.Keeping.{KeepsNode}
use Rattle.cam_gen.specs.Storms.{Words, action_number, objects_of}
use Rattle.cam_gen.specs.StormDraws.{AreAt}
use Rattle.cam_storm.specs.Events.{Copied}
use Rattle.cam_storm.specs.Own.{event_in, OwnRequest, finish_value}
use Rattle.cam_storm.specs.Core.{IsLeastDrive}
use Rattle.cam_storm_node.specs.declared.receipts.Receipts.{Receipts}
use Rattle.cam_storm_node.specs.Copying.{copied_from}
use Rattle.cam_storm_node.specs.Receipts.{AreReceipts, times_in}
use Rattle.cam_storm_node.specs.Works.{HaveSeen}
use Rattle.cam_storm_node.specs.Asking.{EndsActions, HaveAsked}
use Rattle.cam_storm_node.specs.Playing.{StormNodeFields, IsNextRequest}

-- What a storm node makes of a step that its node took: its event is taken in, its letters have
-- drawn their copies, and its node and its log stay.
pub record HasFollowed (words : Words) (s sent : ℕ) (own : List Received) (c : Received)
    (letters : List EventLetter) (old : StormNodeFields) (drawn : List Copied)
    (new : StormNodeFields)
    : Type 0 where
  pub drawn_are : drawn ≡ copied_from words s sent letters
  pub copies : AreAt words s (sent + length letters) new.copies
  pub seen : HaveSeen words (c ∷ own) new.works
  pub receipts : AreReceipts (map event_in (c ∷ own)) new.receipts
  pub asked : HaveAsked s (c ∷ own) new.works
  pub drive : IsLeastDrive words s (c ∷ own) (option_map (λ (r : Request). r.action) new.next)
  pub next : IsNextRequest words s (c ∷ own) new.next
  pub events : new.events ≡ old.events + 1
  pub node : new.node ≡ old.node
  pub entries : new.entries ≡ old.entries
  pub objects : new.objects ≡ old.objects
  pub storm : new.storm ≡ old.storm
  pub tops : new.tops ≡ old.tops

-- each action that was created is one of the first 64 top actions, or of one of them
abbrev pub AreOfFew : List Received → Type 0
AreOfFew own =
    (a : Name) → created (deeds_of (map as_carried own)) a ≡ true → action_number a ≤ 64

-- What a storm node tells requests by: its node and its log stand for its history, and what it
-- keeps of its actions is what they have seen.
pub record Knows (words : Words) (s : ℕ) (own : List Received) (storm_node : StormNodeFields) :
    Type 0
  where
    pub low : 1 ≤ s
    pub words_are : storm_node.storm ≡ words
    pub number : storm_node.node.number ≡ s
    pub node : KeepsNode (objects_of words) own storm_node.node storm_node.entries
    pub seen : HaveSeen words own storm_node.works
    pub few : AreOfFew own
    pub asked : HaveAsked s own storm_node.works

-- the request that an action has; none where it has none
abbrev pub IsRequestOf : Words → ℕ → List Received → Name → Option Request → Type 0
IsRequestOf words s own a None = (want : Want) → OwnRequest words s own a want → ⊥
IsRequestOf words s own a (Some r) = (r.action ≡ a) × OwnRequest words s own a r.want

-- What a storm node is before it takes in a step that its node took: the node and the log have it,
-- and all else is as it was.
pub record MayFollow (words : Words) (s sent : ℕ) (own : List Received) (c : Received)
    (finish : Option ℤ) (storm_node : StormNodeFields) : Type 0 where
  pub low : 1 ≤ s
  pub words_are : storm_node.storm ≡ words
  pub number : storm_node.node.number ≡ s
  pub finish_is : finish_value c.mail ≡ finish
  pub node : KeepsNode (objects_of words) (c ∷ own) storm_node.node storm_node.entries
  pub copies : AreAt words s sent storm_node.copies
  pub seen : HaveSeen words own storm_node.works
  pub receipts : AreReceipts (map event_in own) storm_node.receipts
  pub few : AreOfFew (c ∷ own)
  pub asked : HaveAsked s own storm_node.works
  pub ends : EndsActions s own c

-- the letter that an event received came fewer times before than a number of times can be
abbrev pub HasFewReceipts : Receipts → Option LetterId → Type 0
HasFewReceipts receipts None = Unit {0}
HasFewReceipts receipts (Some letter) = times_in receipts letter.event letter.place < 255
