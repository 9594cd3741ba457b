-- What a letter of a storm depends on is on the four nodes alone.
use Rattle.std.proofs.Common.{inl, inr, ℕ, List, [], ◌∷◌, Option, Some, None, sym, subst}
use Rattle.cam_names.specs.Dependencies.{pairs_of}
use Rattle.cam_event.specs.declared.Body.{Body}
use Rattle.cam_event.specs.declared.Body.TheVariants as bodies
use Rattle.cam_event.specs.Inputs.{Mail}
use Rattle.cam_event.specs.ByKnowledge.{start_counts, finish_counts}
use Rattle.cam_event.proofs.Members.{In}
use Rattle.cam_node.specs.Lawful.{body_counts}
use Rattle.cam_gen.specs.Storms.{Words}
use Rattle.cam_storm.specs.Names.{AreNear, Near}
use Rattle.cam_storm.specs.Lawful.{ComesFrom}

near_in : (ps : List (ℕ × ℕ)) (p : ℕ × ℕ) → AreNear ps → In p ps → Near p.0
near_in [] p all i = absurd i
near_in (q ∷ ps) p all (inl e) = subst (λ (r : ℕ × ℕ). Near r.0) (sym e) all.0
near_in (q ∷ ps) p all (inr i) = near_in ps p all.1 i

pub start_pairs : (words : Words) (mail : Option Mail) (p : ℕ × ℕ) → ComesFrom words mail → In p (pairs_of (start_counts mail)) → Near p.0
start_pairs words None p is i = absurd i
start_pairs words (Some m) p is i = by m.body is.counts i
  where
    by : (body : Body) → AreNear (pairs_of (body_counts body)) → In p (pairs_of (start_counts (Some (record { from = m.from; to = m.to; body = body })))) → Near p.0
    by (bodies.Start b counts) all j = near_in (pairs_of counts) p all j
    by (bodies.Call a n x op c counts) all j = absurd j
    by (bodies.Answer a n reply) all j = absurd j
    by (bodies.Finish b v counts) all j = absurd j
    by (bodies.Quit b) all j = absurd j
    by (bodies.Prepare f c) all j = absurd j
    by (bodies.Vote f c agrees) all j = absurd j
    by (bodies.Query f) all j = absurd j
    by bodies.News all j = absurd j

pub finish_pairs : (words : Words) (mail : Option Mail) (p : ℕ × ℕ) → ComesFrom words mail → In p (pairs_of (finish_counts mail)) → Near p.0
finish_pairs words None p is i = absurd i
finish_pairs words (Some m) p is i = by m.body is.counts i
  where
    by : (body : Body) → AreNear (pairs_of (body_counts body)) → In p (pairs_of (finish_counts (Some (record { from = m.from; to = m.to; body = body })))) → Near p.0
    by (bodies.Finish b v counts) all j = near_in (pairs_of counts) p all j
    by (bodies.Start b counts) all j = absurd j
    by (bodies.Call a n x op c counts) all j = absurd j
    by (bodies.Answer a n reply) all j = absurd j
    by (bodies.Quit b) all j = absurd j
    by (bodies.Prepare f c) all j = absurd j
    by (bodies.Vote f c agrees) all j = absurd j
    by (bodies.Query f) all j = absurd j
    by bodies.News all j = absurd j
