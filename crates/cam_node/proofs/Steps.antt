-- Steps of a node of its own, by what its calls answer once what a failed step learnt is forgotten.
use Rattle.std.proofs.Common.{◌≡◌, ℕ, ℤ, ◌<◌, List, [], Some, None, Result, Ok, Err, OnErr, refl, sym, ap, ◌∙◌, subst}
use Rattle.std.specs.Prelude.{filter}
use Rattle.cam_names.specs.declared.name.Name.{Name}
use Rattle.cam_names.specs.Names.{home_node}
use Rattle.cam_names.specs.Dependencies.{AreCounts, pairs_of}
use Rattle.cam_type.specs.declared.ObjectDecl.{ObjectDecl}
use Rattle.cam_know.specs.declared.Reason.{Reason}
use Rattle.cam_know.specs.Knowledge.{Knowledge}
use Rattle.cam_know.specs.Known.{known_count}
use Rattle.cam_know.specs.Orphans.{known_orphan}
use Rattle.cam_event.specs.declared.Event.{Event}
use Rattle.cam_event.specs.declared.Body.TheVariants as bodies
use Rattle.cam_event.specs.declared.Deed.TheVariants.{Create, AskCommit, AskAbort}
use Rattle.cam_event.specs.declared.Note.TheVariants as notes
use Rattle.cam_event.specs.declared.Want.{Want}
use Rattle.cam_event.specs.declared.Want.TheVariants as wants
use Rattle.cam_event.specs.Inputs.{Begins, Requests, Tells, Queries, decider}
use Rattle.cam_event.specs.Rules.{Did, did, one, send, nothing_but, asks_child}
use Rattle.cam_event.specs.ByPast.{event_of}
use Rattle.cam_event.specs.Loads.{no_load}
use Rattle.cam_tranman.specs.Actions.{Actions, asks, deps}
use Rattle.cam_tranman.specs.Calls as tranman
use Rattle.cam_tranman.specs.Calls.{IsFree, next_top, next_child, begun, asked, finished}
use Rattle.cam_tranman.specs.Events.{is_at_home}
use Rattle.cam_tranman.specs.Keeping.{after_deeds}
use Rattle.cam_node.specs.Represents.{Node}
use Rattle.cam_node.specs.Calls.{AreSame}
use Rattle.cam_node.specs.Halting.{IsStepThrough}
use Rattle.cam_node.specs.AtHome.{IsAtHome, DidAtHome}
use Rattle.cam_server.specs.Server.{Server}
use Rattle.cam_server.specs.Calls as server
use Rattle.cam_node.specs.Requests.{wanted_by}
use Rattle.cam_node.proofs.Idle.{node_same, told, queried}
use Rattle.cam_node.proofs.Begins as begins
use Rattle.cam_node.proofs.Requested as requested

pub failed : {T E : Type 0} (r : Result T E) (P : Type 0) → P → OnErr r P
failed (Ok x) P p = tt
failed (Err e) P p = p

-- the counts of what is known, where all that is known stands
pub counted : (old mid : Node) (known : Knowledge) → mid ≡ old → known ≡ mid.know → AreCounts 1 known.counts → AreCounts 1 old.know.counts
counted old mid known same settled counts = subst (λ (k : Knowledge). AreCounts 1 k.counts) (settled ∙ ap (λ (n : Node). n.know) same) counts

-- the same node but for its actions
pub with_actions : (old mid : Node) (actions : Actions) → mid ≡ old → tranman.AreSame mid.actions actions → AreSame old (record mid { actions = actions })
with_actions old mid actions same h =
    let is : AreSame mid mid = node_same mid in
    subst (λ (o : Node). AreSame o (record mid { actions = actions })) same
    (record { number = refl; count = refl; know = refl; places = refl; actions = h; families = is.families; server = is.server })

did_at_home : (objects : List ObjectDecl) (d : Did) (mid : Node) (actions : Actions) → tranman.AreSame (after_deeds objects None (filter is_at_home d.deeds) mid.actions) actions
    → DidAtHome objects d mid (record mid { actions = actions })
did_at_home objects d mid actions h =
    let is : AreSame mid mid = node_same mid in
    record { number = refl; count = refl; know = refl; places = refl; actions = h; families = is.families; server = is.server }

pub tells : (objects : List ObjectDecl) (old mid : Node) (known : Knowledge) (to : ℕ) (event : Event) → mid ≡ old → known ≡ mid.know → AreCounts 1 known.counts
    → event ≡ event_of mid.number None [] (did [] (one (send to bodies.News))) → IsStepThrough objects old mid (Tells old.number to) None no_load event
tells objects old mid known to event same settled counts is =
    told objects old mid to event (counted old mid known same settled counts) same
    (is ∙ ap (λ (n : Node). event_of n.number None [] (did [] (one (send to bodies.News)))) same)

pub asks_home : (objects : List ObjectDecl) (old mid : Node) (known : Knowledge) (f : Name) (home : ℕ) (event : Event) → mid ≡ old → known ≡ mid.know → AreCounts 1 known.counts
    → home ≡ home_node f → event ≡ event_of mid.number None [] (did [] (one (send home (bodies.Query f)))) → IsStepThrough objects old mid (Queries old.number f) None no_load event
asks_home objects old mid known f home event same settled counts at is =
    queried objects old mid f event (counted old mid known same settled counts) same
    (is ∙ (λ i. event_of (same i).number None [] (did [] (one (send (at i) (bodies.Query f))))))

pub begins_top : (objects : List ObjectDecl) (old mid : Node) (known : Knowledge) (actions : Actions) (a : Name) (event : Event) → mid ≡ old → known ≡ mid.know → AreCounts 1 known.counts
    → a ≡ next_top mid.actions → event ≡ event_of mid.number None [] (did (one (Create a)) []) → tranman.AreSame (begun mid.actions) actions
    → IsStepThrough objects old (record mid { actions = actions }) (Begins old.number) None no_load event
begins_top objects old mid known actions a event same settled counts named is h =
    subst (λ (o : Node). IsStepThrough objects o (record mid { actions = actions }) (Begins o.number) None no_load event) same
    (begins.begun objects mid (record mid { actions = actions }) event (counted mid mid known refl settled counts)
    (is ∙ ap (λ (b : Name). event_of mid.number None [] (did (one (Create b)) [])) named)
    (did_at_home objects (did (one (Create (next_top mid.actions))) []) mid actions h))

pub is_stopped : (objects : List ObjectDecl) (old mid : Node) (known : Knowledge) (a : Name) (want : Want) (reason : Reason) (event : Event) → mid ≡ old → known ≡ mid.know → AreCounts 1 known.counts
    → IsFree old.actions a want → Some reason ≡ known_orphan mid.know a (pairs_of (deps mid.actions a))
    → event ≡ event_of mid.number None [] (nothing_but (notes.Stopped a reason))
    → IsStepThrough objects old mid (Requests (record { action = a; want = want })) None no_load event
is_stopped objects old mid known a want reason event same settled counts free orphan is =
    subst (λ (o : Node). IsStepThrough objects o mid (Requests (record { action = a; want = want })) None no_load event) same
    (requested.stopped objects mid mid a want reason event (counted mid mid known refl settled counts)
    (subst (λ (o : Node). IsFree o.actions a want) (sym same) free) orphan is
    (did_at_home objects (nothing_but (notes.Stopped a reason)) mid mid.actions (node_same mid).actions))

pub goes_on : (objects : List ObjectDecl) (old mid : Node) (known : Knowledge) (actions : Actions) (a : Name) (want : Want) (event : Event) → mid ≡ old → known ≡ mid.know → AreCounts 1 known.counts
    → IsFree old.actions a want → None ≡ known_orphan mid.know a (pairs_of (deps mid.actions a))
    → event ≡ event_of mid.number None [] (wanted_by objects mid.number mid.know mid.actions a want) → IsAtHome (wanted_by objects mid.number mid.know mid.actions a want)
    → tranman.AreSame (after_deeds objects None (filter is_at_home (wanted_by objects mid.number mid.know mid.actions a want).deeds) mid.actions) actions
    → IsStepThrough objects old (record mid { actions = actions }) (Requests (record { action = a; want = want })) None no_load event
goes_on objects old mid known actions a want event same settled counts free none is home h =
    subst (λ (o : Node). IsStepThrough objects o (record mid { actions = actions }) (Requests (record { action = a; want = want })) None no_load event) same
    (requested.went_on objects mid (record mid { actions = actions }) a want event (counted mid mid known refl settled counts)
    (subst (λ (o : Node). IsFree o.actions a want) (sym same) free) none is home
    (did_at_home objects (wanted_by objects mid.number mid.know mid.actions a want) mid actions h))

-- the same node but for the room of its server
pub with_server : (old mid : Node) (srv : Server) → mid ≡ old → server.AreSame mid.server srv → AreSame old (record mid { server = srv })
with_server old mid srv same h =
    let is : AreSame mid mid = node_same mid in
    subst (λ (o : Node). AreSame o (record mid { server = srv })) same
    (record { number = refl; count = refl; know = refl; places = refl; actions = is.actions; families = is.families; server = h })

-- nothing stands against a request then
pub free_then : (old mid : Node) (a : Name) (want : Want) → mid ≡ old → IsFree old.actions a want → IsFree mid.actions a want
free_then old mid a want same free = subst (λ (o : Node). IsFree o.actions a want) (sym same) free

pub asks_on : (objects : List ObjectDecl) (old mid : Node) (known : Knowledge) (actions : Actions) (a child : Name) (m c : ℕ) (ds : List ℕ) (event : Event) → mid ≡ old → known ≡ mid.know → AreCounts 1 known.counts
    → IsFree old.actions a (wants.Ask m) → None ≡ known_orphan mid.know a (pairs_of (deps mid.actions a)) → c ≡ known_count known m → child ≡ next_child mid.actions a m c → ds ≡ deps mid.actions a
    → event ≡ event_of mid.number None [] (asks_child a child m ds) → tranman.AreSame (asked a (next_child mid.actions a m c) mid.actions) actions
    → IsStepThrough objects old (record mid { actions = actions }) (Requests (record { action = a; want = wants.Ask m })) None no_load event
asks_on objects old mid known actions a child m c ds event same settled counts free none count_is child_is deps_are is h =
    let known_is : c ≡ known_count mid.know m = count_is ∙ ap (λ (k : Knowledge). known_count k m) settled in
    goes_on objects old mid known actions a (wants.Ask m) event same settled counts free none
    (is ∙ (λ i. event_of mid.number None [] (asks_child a ((child_is ∙ ap (next_child mid.actions a m) known_is) i) m (deps_are i))))
    (record { alone = refl; begins = λ f. refl })
    (subst (λ (n : ℕ). tranman.AreSame (asked a (next_child mid.actions a m n) mid.actions) actions) known_is h)

pub commits_on : (objects : List ObjectDecl) (old mid : Node) (known : Knowledge) (actions : Actions) (a : Name) (v : ℤ) (ds : List ℕ) (event : Event) → mid ≡ old → known ≡ mid.know → AreCounts 1 known.counts
    → IsFree old.actions a (wants.Commit v) → None ≡ known_orphan mid.know a (pairs_of (deps mid.actions a)) → ds ≡ deps mid.actions a
    → event ≡ event_of mid.number None [] (did (one (AskCommit a v)) (one (send (decider a) (bodies.Finish a v ds)))) → tranman.AreSame (finished a mid.actions) actions
    → IsStepThrough objects old (record mid { actions = actions }) (Requests (record { action = a; want = wants.Commit v })) None no_load event
commits_on objects old mid known actions a v ds event same settled counts free none deps_are is h =
    goes_on objects old mid known actions a (wants.Commit v) event same settled counts free none
    (is ∙ (λ i. event_of mid.number None [] (did (one (AskCommit a v)) (one (send (decider a) (bodies.Finish a v (deps_are i)))))))
    (record { alone = refl; begins = λ f. refl }) h

pub aborts_on : (objects : List ObjectDecl) (old mid : Node) (known : Knowledge) (actions : Actions) (a : Name) (event : Event) → mid ≡ old → known ≡ mid.know → AreCounts 1 known.counts
    → IsFree old.actions a wants.Abort → None ≡ known_orphan mid.know a (pairs_of (deps mid.actions a))
    → event ≡ event_of mid.number None [] (did (one (AskAbort a)) (one (send (decider a) (bodies.Quit a)))) → tranman.AreSame (finished a mid.actions) actions
    → IsStepThrough objects old (record mid { actions = actions }) (Requests (record { action = a; want = wants.Abort })) None no_load event
aborts_on objects old mid known actions a event same settled counts free none is h =
    goes_on objects old mid known actions a wants.Abort event same settled counts free none is (record { alone = refl; begins = λ f. refl }) h

pub few_then : (old mid : Node) (a : Name) → mid ≡ old → asks old.actions a < 1000000000 → asks mid.actions a < 1000000000
few_then old mid a same few = subst (λ (o : Node). asks o.actions a < 1000000000) (sym same) few
