-- A node does not go by the numbers of the letters that came to it: what it holds, what stands at
-- its site and what its letters carry are the same of its history without them.
use Rattle.std.proofs.Common.{◌≡◌, ℕ, ◌+◌, if◌then◌else◌, List, [], ◌∷◌, ◌++◌, map}
use Rattle.std.proofs.Common.{length, Option, Some, None, option_map, refl, ap, ◌∙◌}
use Rattle.std.specs.Prelude.{min, max, eqb, flat_map}
use Rattle.std.specs.List.{list_any}
use Rattle.cam_names.specs.declared.name.Name.{Name}
use Rattle.cam_names.specs.Names.{is_top}
use Rattle.cam_names.specs.Dependencies.{as_counts}
use Rattle.cam_type.specs.declared.ObjectDecl.{ObjectDecl}
use Rattle.cam_know.specs.declared.Outcome.TheVariants.{Aborted, Committed}
use Rattle.cam_know.specs.Knowledge.{Knowledge}
use Rattle.cam_know.specs.Known.{both, with_outcome}
use Rattle.cam_know.specs.Known.{with_count, after_place}
use Rattle.cam_event.specs.declared.Deed.{Deed}
use Rattle.cam_event.specs.declared.Deed.TheVariants.{Create, Ask, Call, Perform, Bounce, Got}
use Rattle.cam_event.specs.declared.Deed.TheVariants.{AskCommit, AskAbort, Commit, Abort, Secure}
use Rattle.cam_event.specs.declared.Deed.TheVariants.{Inform, Crash}
use Rattle.cam_event.specs.History.{after, count, is_crash}
use Rattle.cam_event.specs.Inputs.{Mail}
use Rattle.cam_event.specs.Sights.{Entry, votes, yes_for, is_preparing_note}
use Rattle.cam_event.specs.ByKnowledge.{gained_by, own_pairs}
use Rattle.cam_event.specs.Carried.{Carried, deeds_of}
use Rattle.cam_event.specs.ByKnowledge.{finish_counts, learned_by, held}
use Rattle.cam_event.specs.HeldSites.{site, site_after_all}
use Rattle.cam_event.specs.Loads.{with_load}
use Rattle.cam_event.specs.ByDeltas.{Received, as_carried, known, crashed, came_from, have_of}
use Rattle.cam_event.specs.ByDeltas.{acked_of, load_for}
use Rattle.cam_histories.specs.PutIn.{nameless, unnumbered}

-- an event of a node and an entry without the number of its letter
abbrev pub bare : Carried → Carried
bare c = record c { event = record c.event { got = unnumbered c.event.got } }

abbrev pub bare_entry : Entry → Entry
bare_entry e = record e { event = record e.event { got = unnumbered e.event.got } }

-- the node's own deeds, and what it gains, learns and holds
pub deeds_bare : (h : List Carried) → deeds_of (map bare h) ≡ deeds_of h
deeds_bare [] = refl
deeds_bare (c ∷ h) = ap (λ L. after L c.event.deeds) (deeds_bare h)

pub pairs_bare : (objects : List ObjectDecl) (h : List Carried) (a : Name)
    → own_pairs objects (map bare h) a ≡ own_pairs objects h a
pairs_bare objects [] a = refl
pairs_bare objects (c ∷ h) a =
    λ i. flat_map (gained_by objects (deeds_bare h i) c.mail a) c.event.deeds
    ++ pairs_bare objects h a i

learned_bare : (objects : List ObjectDecl) (h : List Carried) (mail : Option Mail) (k : Knowledge)
    (ds : List Deed)
    → learned_by objects (map bare h) mail k ds ≡ learned_by objects h mail k ds
learned_bare objects h mail k [] = refl
learned_bare objects h mail k (Commit a ∷ ds) =
    ap (λ ps. learned_by objects (map bare h) mail
    (with_outcome (Committed a (if is_top a then as_counts ps else finish_counts mail)) k) ds)
    (pairs_bare objects h a)
    ∙ learned_bare objects h mail
    (with_outcome
    (Committed a (if is_top a then as_counts (own_pairs objects h a) else finish_counts mail)) k) ds
learned_bare objects h mail k (Abort a ∷ ds) =
    learned_bare objects h mail (with_outcome (Aborted a) k) ds
learned_bare objects h mail k (Crash s ∷ ds) =
    ap (λ L. learned_by objects (map bare h) mail (with_count s (count L s + 1) k) ds)
    (deeds_bare h)
    ∙ learned_bare objects h mail (with_count s (count (deeds_of h) s + 1) k) ds
learned_bare objects h mail k (Create a ∷ ds) = learned_bare objects h mail k ds
learned_bare objects h mail k (Ask a b ∷ ds) = learned_bare objects h mail k ds
learned_bare objects h mail k (Call a n x op c ∷ ds) = learned_bare objects h mail k ds
learned_bare objects h mail k (Perform a n answer ∷ ds) = learned_bare objects h mail k ds
learned_bare objects h mail k (Bounce a n u ∷ ds) = learned_bare objects h mail k ds
learned_bare objects h mail k (Got a n seen ∷ ds) = learned_bare objects h mail k ds
learned_bare objects h mail k (AskCommit a v ∷ ds) = learned_bare objects h mail k ds
learned_bare objects h mail k (AskAbort a ∷ ds) = learned_bare objects h mail k ds
learned_bare objects h mail k (Secure f s c ∷ ds) = learned_bare objects h mail k ds
learned_bare objects h mail k (Inform s a committed ∷ ds) = learned_bare objects h mail k ds

pub held_bare : (objects : List ObjectDecl) (h : List Carried)
    → held objects (map bare h) ≡ held objects h
held_bare objects [] = refl
held_bare objects (c ∷ h) =
    ap (λ k. learned_by objects (map bare h) c.mail (both k c.brought) c.event.deeds)
    (held_bare objects h)
    ∙ learned_bare objects h c.mail (both (held objects h) c.brought) c.event.deeds

pub site_bare : (h : List Carried) → site (map bare h) ≡ site h
site_bare [] = refl
site_bare (c ∷ h) = λ i. site_after_all (deeds_bare h i) c.mail (site_bare h i) c.event.deeds

-- the votes that came
pub votes_bare : (es : List Entry) (f : Name) → votes (map bare_entry es) f ≡ votes es f
votes_bare [] f = refl
votes_bare (e ∷ es) f =
    λ i. if list_any (is_crash e.event.node) e.event.deeds then None
    else if is_preparing_note f e.event.note then Some []
    else option_map (λ earlier. yes_for f e.mail ++ earlier) (votes_bare es f i)

-- of a history with what letters carried
pub carried_bare : (h : List Received) → map as_carried (map nameless h)
    ≡ map bare (map as_carried h)
carried_bare [] = refl
carried_bare (c ∷ h) = ap (λ cs. bare (as_carried c) ∷ cs) (carried_bare h)

pub known_bare : (objects : List ObjectDecl) (h : List Received)
    → known objects (map nameless h) ≡ known objects h
known_bare objects h = ap (held objects) (carried_bare h) ∙ held_bare objects (map as_carried h)

pub have_bare : (h : List Received) (r : ℕ) → have_of (map nameless h) r ≡ have_of h r
have_bare [] r = refl
have_bare (c ∷ h) r =
    λ i. if crashed c.event then 0
    else if came_from r c then max (have_bare h r i) c.load.place else have_bare h r i

pub acked_bare : (objects : List ObjectDecl) (h : List Received) (r : ℕ)
    → acked_of objects (map nameless h) r ≡ acked_of objects h r
acked_bare objects [] r = refl
acked_bare objects (c ∷ h) r =
    λ i. if crashed c.event then 0
    else if came_from r c
    then max (acked_bare objects h r i)
    (min c.load.have (length (with_load (known_bare objects h i) c.load).outcomes))
    else acked_bare objects h r i

-- what a letter carries
pub load_bare : (objects : List ObjectDecl) (s : ℕ) (h : List Received) (r : ℕ)
    → load_for objects s (map nameless h) r ≡ load_for objects s h r
load_bare objects s h r =
    λ i. if eqb s r
    then record {
      have = 0;
      place = 0;
      know = record { outcomes = []; counts = (known_bare objects h i).counts };
    }
    else
    record {
      have = have_bare h r i;
      place = length (known_bare objects h i).outcomes;
      know = after_place (acked_bare objects h r i) (known_bare objects h i);
    }
