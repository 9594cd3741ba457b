-- A storm node that is the replay of its history: what it keeps while it runs, when it gives up,
-- and when it begins.
use Rattle.std.proofs.Common.{◌∷◌, ◌≡◌, ◌⊎◌, inl, inr, ℕ, suc, ◌+◌, ◌≤◌, Bool, true, false, ◌&&◌, ◌||◌, [], length, Option, Some, None, refl, sym, ap, ◌∙◌, subst, arith}
use Rattle.std.specs.Prelude.{nat_le, option_map, is_none}
use Rattle.std.proofs.lemmas.Bool.{le-leb, true≢false}
use Rattle.cam_names.specs.declared.name.Name.{Name}
use Rattle.cam_names.specs.Names.{home_node}
use Rattle.cam_event.specs.declared.Request.{Request}
use Rattle.cam_node.specs.Keeping.{KeepsNode}
use Rattle.cam_journal.specs.declared.input.CoreInput.{CoreInput}
use Rattle.cam_journal.specs.declared.input.CoreInput.TheVariants.{Letter, Drive}
use Rattle.cam_gen.specs.Storms.{Words, objects_of, tops_of}
use Rattle.cam_storm.specs.Events.{Copied}
use Rattle.cam_storm.specs.Lawful.{SeatHistory, own_history}
use Rattle.cam_storm.specs.Core.{is_idle, IsLeastDrive}
use Rattle.cam_storm.proofs.Idle.{keeps_of}
use Rattle.cam_storm_node.specs.Playing.{StormNodeFields, IsPlaying, Runs, cell_of, is_idle_by, is_over, IsNextRequest}
use Rattle.cam_storm_node.specs.Receipts.{AreReceipts}
use Rattle.cam_storm_node.specs.Works.{HaveSeen}
use Rattle.cam_gen.specs.StormDraws.{AreAt}
use Rattle.cam_storm_node.specs.Taking.{MayTake}
use Rattle.cam_storm_node.specs.Stepping.{StaysOf}
use Rattle.cam_storm_node.proofs.Requests.{unseen_has_none}

pub one_more : (n : ℕ) → n + 1 ≡ suc n
one_more n = omega arith

-- a storm node has nothing to do with an item just where the laws say so of it
none_mapped : {X Y : Type 0} (f : X → Y) (o : Option X) → is_none (option_map f o) ≡ is_none o
none_mapped f None = refl
none_mapped f (Some x) = refl

pub idle_same : (words : Words) (storm_node : StormNodeFields) (s : ℕ) (history : SeatHistory)
    (plays : IsPlaying words storm_node s history) (item : CoreInput Copied)
    → is_idle words (cell_of storm_node plays.sent) item ≡ is_idle_by storm_node item
idle_same words storm_node s history plays (Letter number place c) = refl
idle_same words storm_node s history plays Drive =
    λ i. is_over storm_node
    || (nat_le ((ap (tops_of words) plays.replay.number ∙ sym plays.tops) i) storm_node.events
    && none_mapped (λ (r : Request). r.action) storm_node.next i)

-- a storm node that has something to do is not over
pub busy_runs : (storm_node : StormNodeFields) (item : CoreInput Copied)
    → is_idle_by storm_node item ≡ false
    → is_over storm_node ≡ false
busy_runs storm_node (Letter number place c) busy = first (is_over storm_node) _ busy
  where
    first : (b c : Bool) → (b || c) ≡ false → b ≡ false
    first true c e = e
    first false c e = refl
busy_runs storm_node Drive busy = first (is_over storm_node) _ busy
  where
    first : (b c : Bool) → (b || c) ≡ false → b ≡ false
    first true c e = e
    first false c e = refl

-- one that has created its top actions and has something to do by itself has a request
pub has_next : (storm_node : StormNodeFields) (item : CoreInput Copied) → item ≡ Drive
    → storm_node.tops ≤ storm_node.events → storm_node.next ≡ None
    → is_idle_by storm_node item ≡ false → ⊥
has_next storm_node item is all none busy =
    true≢false (sym idle ∙ ap (is_idle_by storm_node) (sym is) ∙ busy)
  where
    by : (b : Bool) → (b || true) ≡ true
    by true = refl
    by false = refl

    idle : is_idle_by storm_node Drive ≡ true
    idle =
        (λ i. is_over storm_node
        || (le-leb storm_node.tops storm_node.events all i && is_none (none i)))
        ∙ by (is_over storm_node)

-- so it keeps all that a storm node keeps
pub runs_of : (words : Words) (storm_node : StormNodeFields) (s : ℕ) (history : SeatHistory)
    (plays : IsPlaying words storm_node s history) → is_over storm_node ≡ false
    → Runs words s plays.sent (own_history history) storm_node
runs_of words storm_node s history plays on = by plays.runs
  where
    by : (is_over storm_node ≡ true) ⊎ Runs words s plays.sent (own_history history) storm_node
        → Runs words s plays.sent (own_history history) storm_node
    by (inl over) = absurd (true≢false (sym over ∙ on))
    by (inr runs) = runs

-- the home of an action is where its name says, so it has a part
pub named : (s : ℕ) (a : Name) → home_node a ≡ s → 1 ≤ s → 1 ≤ length a
named s [] at low = absurd (omega (arith, at, low))
named s (p ∷ a) at low = omega arith

-- what its node answers for
pub may_take : (words : Words) (storm_node : StormNodeFields) (s : ℕ) (history : SeatHistory)
    (plays : IsPlaying words storm_node s history) → is_over storm_node ≡ false
    → MayTake words s (own_history history) storm_node
may_take words storm_node s history plays on =
    let runs = runs_of words storm_node s history plays on in
    let keeps =
    keeps_of words (cell_of storm_node plays.sent) s history plays.replay on in record {
      words_are = plays.words_are;
      tops = plays.tops;
      number = plays.replay.number;
      events = keeps.events;
      objects = runs.objects;
      node = runs.node;
      drive = keeps.drive;
      next = runs.next;
    }

-- one that takes no further step is the replay of its history still
pub gives_up : (words : Words) (old new : StormNodeFields) (s : ℕ) (history : SeatHistory)
    → StaysOf old new → is_over new ≡ true → IsPlaying words old s history
    → IsPlaying words new s history
gives_up words old new s history stays over plays = record {
  words_are = stays.storm ∙ plays.words_are;
  tops = stays.tops ∙ plays.tops;
  few = plays.few;
  sent = plays.sent;
  replay = record {
    number = stays.number ∙ plays.replay.number;
    here = plays.replay.here;
    lawful = plays.replay.lawful;
    keeps = inl over;
  };
  runs = inl over;
}

-- a storm node to which nothing has happened is the replay of the empty history
pub begins : (words : Words) (storm_node : StormNodeFields) (s : ℕ) → (1 ≤ s) × (s ≤ 4)
    → words.actions ≤ 64 → storm_node.storm ≡ words → storm_node.tops ≡ tops_of words s
    → storm_node.node.number ≡ s
    → KeepsNode (objects_of words) [] storm_node.node storm_node.entries
    → storm_node.objects ≡ objects_of words → storm_node.events ≡ 0
    → AreAt words s 0 storm_node.copies → HaveSeen words [] storm_node.works
    → storm_node.next ≡ None → AreReceipts [] storm_node.receipts
    → IsPlaying words storm_node s []
begins words storm_node s here few words_are tops number node objects events copies seen next
    receipts = record {
      words_are = words_are;
      tops = tops;
      few = few;
      sent = 0;
      replay = record {
        number = number;
        here = here;
        lawful = tt;
        keeps = inr (record {
          node = node.represents;
          events = events;
          sent = refl;
          views = λ a runs is. seen.views a (named s a runs.0 here.0);
          stops = λ a runs. seen.stopped a;
          drive =
              subst
              (λ (o : Option Request).
              IsLeastDrive words s [] (option_map (λ (r : Request). r.action) o)) (sym next)
              (λ a want request. unseen_has_none words s [] a want refl request);
          received = receipts;
        });
      };
      runs = inr (record {
        node = node;
        objects = objects;
        copies = copies;
        seen = seen;
        asked = λ a low free may made ask. absurd (true≢false (sym made));
        next = subst (IsNextRequest words s []) (sym next) tt;
      });
    }
