-- Two lists that stand for one another do so put in order, where both orders agree.
use Rattle.std.proofs.Common.{◌≡◌, nat_lt, Bool, true, false, not, cond, List, [], ◌∷◌, ◌++◌, sym, true≢false}
use Rattle.cam_event.specs.HeldSites.{Placed, put_placed, in_order}
use Rattle.cam_locks.specs.declared.LiveOp.{LiveOp}
use Rattle.cam_locks.specs.Restored as restored
use Rattle.cam_locks.specs.Restored.{put_in_order}
use Rattle.cam_server.specs.Server.{IsLiveOp, AreLiveOps}

-- an operation of the table and one of the site stand at the same place among these
abbrev pub InPlace : LiveOp → Placed → List LiveOp → List Placed → Type 0
InPlace k p [] [] = Unit {0}
InPlace k p (j ∷ ks) (q ∷ ps) = (nat_lt j.index k.index ≡ not (nat_lt p.index q.index)) × InPlace k p ks ps
InPlace k p [] (q ∷ ps) = ⊥
InPlace k p (j ∷ ks) [] = ⊥

abbrev pub AreAlike : List LiveOp → List Placed → Type 0
AreAlike [] [] = Unit {0}
AreAlike (k ∷ ks) (p ∷ ps) = InPlace k p ks ps × AreAlike ks ps
AreAlike [] (p ∷ ps) = ⊥
AreAlike (k ∷ ks) [] = ⊥

put_in_place : (k j : LiveOp) (p q : Placed) (ks : List LiveOp) (ps : List Placed)
    → (nat_lt j.index k.index ≡ not (nat_lt p.index q.index))
    → InPlace j q ks ps → InPlace k p ks ps → InPlace k p (put_in_order j ks) (put_placed q ps)
put_in_place k j p q [] [] is at place = (is, tt)
put_in_place k j p q [] (r ∷ ps) is at place = absurd at
put_in_place k j p q (i ∷ ks) [] is at place = absurd at
put_in_place k j p q (i ∷ ks) (r ∷ ps) is at place =
    by (nat_lt i.index j.index) (nat_lt q.index r.index) at.0 (put_in_place k j p q ks ps is at.1 place.1)
  where
    by : (b c : Bool) → b ≡ not c → InPlace k p (put_in_order j ks) (put_placed q ps)
        → InPlace k p (cond b (i ∷ put_in_order j ks) (j ∷ i ∷ ks)) (cond c (q ∷ r ∷ ps) (r ∷ put_placed q ps))
    by true false e rest = (place.0, rest)
    by false true e rest = (is, place)
    by true true e rest = absurd (true≢false e)
    by false false e rest = absurd (true≢false (sym e))

pub place_in_order : (k : LiveOp) (p : Placed) (ks : List LiveOp) (ps : List Placed) → AreAlike ks ps
    → InPlace k p ks ps
    → InPlace k p (restored.in_order ks) (in_order ps)
place_in_order k p [] [] alike place = tt
place_in_order k p [] (q ∷ ps) alike place = absurd place
place_in_order k p (j ∷ ks) [] alike place = absurd place
place_in_order k p (j ∷ ks) (q ∷ ps) alike place =
    put_in_place k j p q (restored.in_order ks) (in_order ps) place.0 (place_in_order j q ks ps alike.1 alike.0) (place_in_order k p ks ps alike.1 place.1)

put_live : (k : LiveOp) (p : Placed) (ks : List LiveOp) (ps : List Placed) → IsLiveOp k p.operation → InPlace k p ks ps
    → AreLiveOps ks ps
    → AreLiveOps (put_in_order k ks) (put_placed p ps)
put_live k p [] [] is at are = (is, tt)
put_live k p [] (q ∷ ps) is at are = absurd at
put_live k p (j ∷ ks) [] is at are = absurd at
put_live k p (j ∷ ks) (q ∷ ps) is at are = by (nat_lt j.index k.index) (nat_lt p.index q.index) at.0 (put_live k p ks ps is at.1 are.1)
  where
    by : (b c : Bool) → b ≡ not c → AreLiveOps (put_in_order k ks) (put_placed p ps)
        → AreLiveOps (cond b (j ∷ put_in_order k ks) (k ∷ j ∷ ks)) (cond c (p ∷ q ∷ ps) (q ∷ put_placed p ps))
    by true false e rest = (are.0, rest)
    by false true e rest = (is, are)
    by true true e rest = absurd (true≢false e)
    by false false e rest = absurd (true≢false (sym e))

pub sorted_alike : (ks : List LiveOp) (ps : List Placed) → AreLiveOps ks ps → AreAlike ks ps
    → AreLiveOps (restored.in_order ks) (in_order ps)
sorted_alike [] [] are alike = tt
sorted_alike [] (p ∷ ps) are alike = absurd are
sorted_alike (k ∷ ks) [] are alike = absurd are
sorted_alike (k ∷ ks) (p ∷ ps) are alike =
    put_live k p (restored.in_order ks) (in_order ps) are.0 (place_in_order k p ks ps alike.1 alike.0) (sorted_alike ks ps are.1 alike.1)

-- one list after another
pub live_append : (ks js : List LiveOp) (ps qs : List Placed) → AreLiveOps ks ps → AreLiveOps js qs
    → AreLiveOps (ks ++ js) (ps ++ qs)
live_append [] js [] qs are rest = rest
live_append [] js (p ∷ ps) qs are rest = absurd are
live_append (k ∷ ks) js [] qs are rest = absurd are
live_append (k ∷ ks) js (p ∷ ps) qs are rest = (are.0, live_append ks js ps qs are.1 rest)

pub place_append : (k : LiveOp) (p : Placed) (ks js : List LiveOp) (ps qs : List Placed) → InPlace k p ks ps
    → InPlace k p js qs → InPlace k p (ks ++ js) (ps ++ qs)
place_append k p [] js [] qs at rest = rest
place_append k p [] js (q ∷ ps) qs at rest = absurd at
place_append k p (j ∷ ks) js [] qs at rest = absurd at
place_append k p (j ∷ ks) js (q ∷ ps) qs at rest = (at.0, place_append k p ks js ps qs at.1 rest)
