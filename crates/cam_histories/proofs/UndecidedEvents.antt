-- What undecided halts add to histories, in two runs whose halts differ at one input.
use Rattle.std.proofs.Common.{◌≡◌, ◌⊎◌, inl, inr, ℕ, suc, ◌+◌, ◌≤◌, true, false}
use Rattle.std.proofs.Common.{List, [], ◌∷◌, ◌++◌, map, length}
use Rattle.std.proofs.Common.{refl, sym, ap, ◌∙◌, arith}
use Rattle.std.specs.Prelude.{nat_lt}
use Rattle.std.specs.List.{AllByRecursion}
use Rattle.std.proofs.lemmas.Option.{same_Some}
use Rattle.cam_type.specs.declared.ObjectDecl.{ObjectDecl}
use Rattle.cam_event.specs.declared.Event.{Event}
use Rattle.cam_runs.specs.Standing.{Standing, Undecided, undecided_of}
use Rattle.cam_histories.specs.Found.{moved_undecided, undecided_beside, IsFound}
use Rattle.cam_histories.specs.Laws.{history_of}
use Rattle.cam_histories.specs.PutIn.{moved_event, nameless, put_in, IsUnseen}
use Rattle.cam_histories.specs.Undecided.{events_before, received_behind, received_at}
use Rattle.cam_histories.specs.Undecided.{UndecidedStay, FoundEventsHaveTheirPlace}
use Rattle.cam_histories.specs.Undecided.{FoundEventsAreUndecided, FoundHaltsAreDecided}
use Rattle.cam_histories.specs.Undecided.{IsUndecidedAlike, OthersStayUndecided}
use Rattle.cam_histories.proofs.FoundRestart.{histories_have_the_event}
use Rattle.cam_histories.proofs.Numbers.{lt_cases, put_in_length}
use Rattle.cam_histories.proofs.PutInHistories.{same_so, received_moved}
use Rattle.cam_histories.proofs.UndecidedPlaces.{before_all, before_more, StaysOrMoves}
use Rattle.cam_histories.proofs.UndecidedPlaces.{stays_or_moves}

pub undecided_stay : UndecidedStay
undecided_stay objects more trace u within =
    ap (λ t. received_behind objects t u.event) (before_more u.before more trace within)

-- the halt that is found
pub found_events_have_their_place : FoundEventsHaveTheirPlace
found_events_have_their_place objects s before e lost found stands =
    ap (events_before (length before)) stands.was
    ∙ before_more (length before) stands.behind before (omega arith)
    ∙ before_all (length before) before (omega arith)

pub found_events_are_undecided : FoundEventsAreUndecided
found_events_are_undecided objects k s before e lost found u beyond is =
    histories_have_the_event objects s before e lost found beyond.stands
    ∙ ap (λ t. received_behind objects t e ∷ history_of objects lost.running.trace s)
    (sym (found_events_have_their_place objects s before e lost found beyond.stands))
    ∙ ap (λ v. received_at objects lost.running.trace v
    ∷ history_of objects lost.running.trace s) same
  where
    same : record { node = s; before = length before; event = e } ≡ u
    same = same_Some (record { node = s; before = length before; event = e }) u
        (sym beyond.undecided ∙ is)

pub found_halts_are_decided : FoundHaltsAreDecided
found_halts_are_decided objects s before e lost found stands =
    ap (λ (x : Standing). x.undecided) stands.is

-- what stood before an event after the place, in both
module _ (objects : List ObjectDecl) (s : ℕ) (before : List Event) (e : Event) where
  record CutAt (n : ℕ) (behind : List Event) : Type 0 where
    rest : List Event
    others : AllByRecursion (λ (x : Event). x.node ≡ s → ⊥) rest
    was : events_before n (behind ++ before) ≡ rest ++ before
    is : events_before (n + 1) (put_in behind e before) ≡ put_in rest e before

  cut_at : (n : ℕ) (behind : List Event)
      → AllByRecursion (λ (x : Event). x.node ≡ s → ⊥) behind → length before ≤ n
      → CutAt n behind
  cut_at n [] others high = record {
    rest = [];
    others = tt;
    was = before_all n before high;
    is = before_all (n + 1) (e ∷ before) (omega (arith, high));
  }
  cut_at n (x ∷ b) others high =
      by (lt_cases (length (b ++ before)) n) (cut_at n b others.1 high)
    where
      long : length (put_in b e before) ≡ length (b ++ before) + 1
      long = put_in_length before e b

      by : ((nat_lt (length (b ++ before)) n ≡ true) × (suc (length (b ++ before)) ≤ n))
          ⊎ ((nat_lt (length (b ++ before)) n ≡ false) × (n ≤ length (b ++ before)))
          → CutAt n b → CutAt n (x ∷ b)
      by (inl y) cut = record {
        rest = x ∷ b;
        others = others;
        was = let low = y.1 in before_all n (x ∷ b ++ before) (omega (arith, low));
        is =
            let low = y.1 in
            before_all (n + 1) (put_in (x ∷ b) e before) (omega (arith, low, long));
      }
      by (inr k) cut = record {
        rest = cut.rest;
        others = cut.others;
        was = let low = k.1 in before_more n (x ∷ []) (b ++ before) low ∙ cut.was;
        is =
            let low = k.1 in
            before_more (n + 1) (moved_event (length before) x ∷ []) (put_in b e before)
            (omega (arith, low, long))
            ∙ cut.is;
      }

  behind_alike : (at : e.node ≡ s) (behind : List Event)
      → AllByRecursion (λ (x : Event). x.node ≡ s → ⊥) behind → (u : Undecided)
      → length before ≤ u.before
      → nameless (received_at objects (put_in behind e before)
      (moved_undecided (length before) u))
      ≡ nameless (received_at objects (behind ++ before) u)
  behind_alike at behind others u high =
      ap (λ t. nameless (received_behind objects t (moved_event (length before) u.event))) cut.is
      ∙ received_moved objects s before e at cut.rest
      (same_so objects s before e at cut.rest cut.others) cut.others u.event
      ∙ ap (λ t. nameless (received_behind objects t u.event)) (sym cut.was)
    where
      cut : CutAt u.before behind
      cut = cut_at u.before behind others high

  before_same : (behind : List Event) (u : Undecided) → u.before ≤ length before
      → received_at objects (put_in behind e before) u
      ≡ received_at objects (behind ++ before) u
  before_same behind u low =
      undecided_stay objects (map (moved_event (length before)) behind) (e ∷ before) u
      (omega (arith, low))
      ∙ undecided_stay objects (e ∷ []) before u low
      ∙ sym (undecided_stay objects behind before u low)

pub others_stay_undecided : OthersStayUndecided
others_stay_undecided objects k s m before e lost found u beyond placed off is =
    by (stays_or_moves s m (length before) (length lost.running.trace) lost.undecided
    (record { node = s; before = length before; event = e }) u off placed beyond.undecided refl is)
  where
    stands : IsFound s before e lost found
    stands = beyond.stands

    unseen : IsUnseen s stands.behind e
    unseen = stands.unseen

    list : found.undecided ≡ undecided_beside s (length before) lost.undecided
    list = found_halts_are_decided objects s before e lost found stands

    there : (v : Undecided)
        → received_at objects found.running.trace v
        ≡ received_at objects (put_in stands.behind e before) v
    there v = ap (λ (x : Standing). received_at objects x.running.trace v) stands.is

    here : received_at objects (stands.behind ++ before) u
        ≡ received_at objects lost.running.trace u
    here = ap (λ t. received_at objects t u) (sym stands.was)

    by : StaysOrMoves s m (length before) lost.undecided u
        → IsUndecidedAlike objects m u lost found
    by (inl stays) = record {
      there = u;
      is = ap (undecided_of m) list ∙ stays.0;
      alike =
          ap nameless (there u
          ∙ before_same objects s before e stands.behind u stays.1
          ∙ here);
    }
    by (inr moves) = record {
      there = moved_undecided (length before) u;
      is = ap (undecided_of m) list ∙ moves.0;
      alike =
          ap nameless (there (moved_undecided (length before) u))
          ∙ behind_alike objects s before e unseen.at stands.behind unseen.others u moves.1
          ∙ ap nameless here;
    }
