-- What a node's log keeps of secured families is what was live of them just before their Secures.
use Rattle.std.proofs.Common.{◌≡◌, ◌⊎◌, inl, inr, ℕ, eqb, Bool, true, false, List, [], ◌∷◌, ◌++◌, map, filter, length, Option, None, refl, sym, ap, ◌∙◌, subst, arith}
use Rattle.std.specs.Prelude.{reverse}
use Rattle.std.proofs.lemmas.Bool.{eq-eqb}
use Rattle.cam_event.specs.Runs.{MayCome}
use Rattle.cam_event.specs.Pasts.{IsEarlier}
use Rattle.cam_event.specs.Inputs.{Input}
use Rattle.cam_cut.proofs.Informs.{after_append, IsInformAt}
use Rattle.cam_cut.proofs.Places.{PlacedAt, PlacedDeeds}
use Rattle.std.proofs.lemmas.Bool.Decides.{eqb_tells}
use Rattle.cam_names.specs.declared.name.Name.{Name}
use Rattle.cam_names.specs.Names.{name_eq, family}
use Rattle.cam_type.specs.declared.ObjectDecl.{ObjectDecl}
use Rattle.cam_event.specs.declared.LetterId.{LetterId}
use Rattle.cam_event.specs.declared.Event.{Event}
use Rattle.cam_event.specs.declared.Operation.{Operation}
use Rattle.cam_event.specs.declared.Deed.{Deed}
use Rattle.cam_event.specs.declared.Deed.TheVariants.{Create, Ask, Call, Perform, Bounce, Got, AskCommit, AskAbort, Commit, Abort, Secure, Inform, Crash}
use Rattle.cam_event.specs.History.{after}
use Rattle.cam_event.specs.Live.{live_at}
use Rattle.cam_event.specs.Inputs.{Mail, mail_got, node_of, got_of}
use Rattle.cam_event.specs.Sights.{Sight}
use Rattle.cam_event.specs.Pasts.{plain_all, every}
use Rattle.cam_event.specs.ByPast.{first_informs, sight}
use Rattle.cam_event.specs.ByKnowledge.{of_node, carried_of}
use Rattle.cam_event.specs.HeldSites.{Placed, Site, site_after, site_after_all, site}
use Rattle.cam_event.specs.Carried.{Carried, deeds_of}
use Rattle.cam_event.specs.Agreement.{IsSent}
use Rattle.cam_event.proofs.Members.{In}
use Rattle.cam_cut.proofs.Good.{Good, Shape, No, One, Commits, Aborts}
use Rattle.cam_cut.proofs.Holds.{every_part}
use Rattle.cam_cut.proofs.Parts.{base_of, with_first, first_is}
use Rattle.cam_cut.proofs.SeesRun.{sees_so}
use Rattle.cam_cut.proofs.StepLegal.{whole_new}
use Rattle.cam_cut.proofs.NextEvent.{sight_of, earlier}
use Rattle.cam_agree.specs.LiveOperations.{Essentials, essentials_of, held_at}
use Rattle.cam_agree.proofs.LiveLists.{map_map}
use Rattle.cam_agree.proofs.LiveSight.{ran_live}
use Rattle.cam_agree.proofs.OrphanFacts.{sent_of}
use Rattle.cam_agree.proofs.Ran.{Ran, Stood, did_as, event_as, stood, before_it, ran_holds, ran_informs, good_as}
use Rattle.cam_node.specs.Kept.{Secured, secured_of}
use Rattle.cam_headline.proofs.KeptLists.{of_placed, of_operation, AllAlike, secures, Groups, groups_one, groups_all, groups_secure, plain_away, pair_of, of_family_map, informs_alone}

abbrev GroupsAt : List ObjectDecl → List Event → ℕ → Type 0
GroupsAt objects t s = Groups objects (deeds_of (of_node (carried_of objects t) s)) (plain_all t) s (site (of_node (carried_of objects t) s))

-- just before a Secure the node's live operations of the family are those of the definition
live_alike : (objects : List ObjectDecl) (t : List Event) (s : ℕ) (got : Option LetterId) (mail : Option Mail) (f : Name) → Ran objects t → IsSent t got → IsEarlier (length t) got
    → map of_placed (filter (λ (p : Placed). name_eq f (family p.operation.action)) (site_after_all (deeds_of (of_node (carried_of objects t) s)) mail (site (of_node (carried_of objects t) s)) (first_informs t s got)).live)
    ≡ map of_operation (filter (λ (o : Operation). name_eq f (family o.action)) (live_at objects (with_first t s got (plain_all t)) s))
live_alike objects t s got mail f run sent before =
    let history : List Carried = of_node (carried_of objects t) s in
    let k : Sight = held_at objects t s got in
    let g : Sight = sight objects t s got in
    let alone : site_after_all (deeds_of history) mail (site history) (first_informs t s got) ≡ site_after_all (deeds_of history) None (site history) (first_informs t s got) = informs_alone s mail (first_informs t s got) (deeds_of history) (site history) (first_is t s got) in
    let X : List Placed = (site_after_all (deeds_of history) None (site history) (first_informs t s got)).live in
    let live : k.live ≡ map (λ (p : Placed). p.operation) X = ap (λ ds. map (λ (p : Placed). p.operation) (site_after_all (deeds_of history) None (site history) ds).live) (ran_informs objects t s got run sent) in
    ap (λ (x : Site). map of_placed (filter (λ (p : Placed). name_eq f (family p.operation.action)) x.live)) alone
    ∙ sym (of_family_map f (λ (p : Placed). essentials_of k p.operation) X)
    ∙ ap (λ es. map pair_of (filter (λ (e : Essentials). name_eq f e.family) es))
    (sym (map_map (essentials_of k) (λ (p : Placed). p.operation) X) ∙ ap (map (essentials_of k)) (sym live) ∙ ran_live objects t s got run sent)
    ∙ of_family_map f (essentials_of g) g.live
    ∙ ap (λ os. map of_operation (filter (λ (o : Operation). name_eq f (family o.action)) os)) (sees_so objects t s got every (ran_holds objects t run) before (every_part t s got)).same_live

no_inform : (s : ℕ) (d : Deed) → IsInformAt s d → secures d ≡ false
no_inform s d is = ap secures is.is

-- The next event of the node, or what was taken of it.
groups_own : (objects : List ObjectDecl) (t : List Event) (input : Input) (took : Bool) → Ran objects t → MayCome objects t input → GroupsAt objects t (node_of t input)
    → Groups objects (after (deeds_of (of_node (carried_of objects t) (node_of t input))) (event_as objects t input took).deeds) (after (with_first t (node_of t input) (got_of input) (plain_all t)) (did_as objects t input took).deeds) (node_of t input)
    (site_after_all (deeds_of (of_node (carried_of objects t) (node_of t input))) (mail_got t (got_of input)) (site (of_node (carried_of objects t) (node_of t input))) (event_as objects t input took).deeds)
groups_own objects t input took run may before =
    subst (λ (L : List Deed). Groups objects L (after W ds) s (site_after_all own mail S (first ++ ds))) (sym (after_append own first ds))
    (subst (λ (x : Site). Groups objects (after (after own first) ds) (after W ds) s x) (sym (split first own S ds)) (shape ds good.shape good.placed))
  where
    s : ℕ
    s = node_of t input

    got : Option LetterId
    got = got_of input

    mail : Option Mail
    mail = mail_got t got

    own : List Deed
    own = deeds_of (of_node (carried_of objects t) s)

    S : Site
    S = site (of_node (carried_of objects t) s)

    first : List Deed
    first = first_informs t s got

    ds : List Deed
    ds = (did_as objects t input took).deeds

    W : List Deed
    W = with_first t s got (plain_all t)

    S1 : Site
    S1 = site_after_all own mail S first

    good : Good objects (sight_of objects t input) (with_first t s got (base_of t s got)) W (did_as objects t input took)
    good = good_as objects t input took every (ran_holds objects t run) may (every_part t s got)

    started : Groups objects (after own first) W s S1
    started = groups_all objects own (plain_all t) s mail S first (λ d i. no_inform s d (first_is t s got d i)) before

    split : (xs L : List Deed) (x : Site) (ys : List Deed) → site_after_all L mail x (xs ++ ys) ≡ site_after_all (after L xs) mail (site_after_all L mail x xs) ys
    split [] L x ys = refl
    split (d ∷ xs) L x ys = split xs (d ∷ L) (site_after L mail x d) ys

    one : (d : Deed) → PlacedAt objects (after W ds) s d → Groups objects (d ∷ after own first) (d ∷ W) s (site_after (after own first) mail S1 d)
    one (Secure f site c) at = subst (λ (r : ℕ). Groups objects (Secure f r c ∷ after own first) (Secure f r c ∷ W) s (site_after (after own first) mail S1 (Secure f r c))) (sym at)
        (groups_secure objects (after own first) W s mail S1 f c started (live_alike objects t s got mail f run (sent_of objects t input may) (earlier objects t input may)))
    one (Create a) at = groups_one objects (after own first) W s mail S1 (Create a) refl started
    one (Ask a b) at = groups_one objects (after own first) W s mail S1 (Ask a b) refl started
    one (Call a n x op c) at = groups_one objects (after own first) W s mail S1 (Call a n x op c) refl started
    one (Perform a n answer) at = groups_one objects (after own first) W s mail S1 (Perform a n answer) refl started
    one (Bounce a n u) at = groups_one objects (after own first) W s mail S1 (Bounce a n u) refl started
    one (Got a n seen) at = groups_one objects (after own first) W s mail S1 (Got a n seen) refl started
    one (AskCommit a v) at = groups_one objects (after own first) W s mail S1 (AskCommit a v) refl started
    one (AskAbort a) at = groups_one objects (after own first) W s mail S1 (AskAbort a) refl started
    one (Commit a) at = groups_one objects (after own first) W s mail S1 (Commit a) refl started
    one (Abort a) at = groups_one objects (after own first) W s mail S1 (Abort a) refl started
    one (Inform x u o) at = groups_one objects (after own first) W s mail S1 (Inform x u o) refl started
    one (Crash x) at = groups_one objects (after own first) W s mail S1 (Crash x) refl started

    none_in : (xs : List Deed) → Shape (sight_of objects t input) xs → (length xs ≡ 1 → ⊥) → (d : Deed) → In d xs → secures d ≡ false
    none_in xs No off d i = absurd i
    none_in xs (One x mute) off d i = absurd (off refl)
    none_in xs (Commits b) off d (inl e) = ap secures e
    none_in xs (Commits b) off d (inr (inl e)) = ap secures e
    none_in xs (Commits b) off d (inr (inr i)) = absurd i
    none_in xs (Aborts b) off d (inl e) = ap secures e
    none_in xs (Aborts b) off d (inr (inl e)) = ap secures e
    none_in xs (Aborts b) off d (inr (inr i)) = absurd i

    shape : (xs : List Deed) → Shape (sight_of objects t input) xs → PlacedDeeds objects (after W ds) s xs → Groups objects (after (after own first) xs) (after W xs) s (site_after_all (after own first) mail S1 xs)
    shape xs No placed = started
    shape xs (One d mute) placed = one d (placed d (inl refl))
    shape xs (Commits b) placed = groups_all objects (after own first) W s mail S1 xs (none_in xs (Commits b) (λ (e : 2 ≡ 1). omega (arith, e))) started
    shape xs (Aborts b) placed = groups_all objects (after own first) W s mail S1 xs (none_in xs (Aborts b) (λ (e : 2 ≡ 1). omega (arith, e))) started

-- So it is at the end of each run.
pub groups_at : (objects : List ObjectDecl) (t : List Event) (s : ℕ) → Ran objects t → GroupsAt objects t s
groups_at objects [] s run = record { alike = tt; counts = refl }
groups_at objects (e ∷ t) s run = by (eqb_tells e.node s) (stood objects e t run) (before_it objects e t run) (λ r. groups_at objects t r (before_it objects e t run))
  where
    by : ((eqb e.node s ≡ true) × (e.node ≡ s)) ⊎ ((eqb e.node s ≡ false) × (e.node ≡ s → ⊥)) → Stood objects t e → Ran objects t → ((r : ℕ) → GroupsAt objects t r) → GroupsAt objects (e ∷ t) s
    by (inl y) h rest older = subst (λ (r : ℕ). GroupsAt objects (e ∷ t) r) y.1 (subst (λ (x : Event). GroupsAt objects (x ∷ t) x.node) (sym h.is) (newest h.input h.took h.may rest))
      where
        newest : (input : Input) (took : Bool) → MayCome objects t input → Ran objects t → GroupsAt objects (event_as objects t input took ∷ t) (node_of t input)
        newest input took may rest =
            let r : ℕ = node_of t input in
            let done = groups_own objects t input took rest may (older r) in
            let whole : plain_all (event_as objects t input took ∷ t) ≡ after (with_first t r (got_of input) (plain_all t)) (did_as objects t input took).deeds = whole_new objects t r (got_of input) (did_as objects t input took) in
            rw (eq-eqb r r refl) (subst (λ (L : List Deed). Groups objects (after (deeds_of (of_node (carried_of objects t) r)) (event_as objects t input took).deeds) L r (site_after_all (deeds_of (of_node (carried_of objects t) r)) (mail_got t (got_of input)) (site (of_node (carried_of objects t) r)) (event_as objects t input took).deeds)) (sym whole) done)
    by (inr n) h rest older =
        let old = older s in
        let same : secured_of objects (plain_all (e ∷ t)) s ≡ secured_of objects (plain_all t) s = plain_away objects (plain_all (e ∷ t)) e.node s e.deeds (plain_all t) (ran_holds objects (e ∷ t) run).placed.0 n.1 in
        rw n.0 (record { alike = subst (AllAlike (reverse (site (of_node (carried_of objects t) s)).secured)) (sym same) old.alike; counts = old.counts ∙ ap (map (λ (k : Secured). k.count)) (sym same) })
