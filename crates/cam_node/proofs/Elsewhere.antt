-- A call whose object does not stand at the node, or does not fit its op, is not put to the node.
use Rattle.std.proofs.Common.{◌≡◌, ◌≤◌, ℕ, true, false, ◌&&◌, List, Option, Some, None, refl, sym, ap, ◌∙◌, subst}
use Rattle.std.specs.Prelude.{Bool, eqb, slice_get}
use Rattle.std.specs.Option.{option_map_or}
use Rattle.std.proofs.lemmas.Bool.{eq-eqb, true≢false}
use Rattle.cam_names.specs.Dependencies.{has_pair}
use Rattle.cam_type.specs.declared.ObjectDecl.{ObjectDecl}
use Rattle.cam_type.specs.declared.Op.{Op}
use Rattle.cam_type.specs.Objects.{is_fit, site_of}
use Rattle.cam_type.specs.Table.{fits, kind_of}
use Rattle.cam_event.specs.declared.Body.{Body}
use Rattle.cam_event.specs.declared.Letter.{Letter}
use Rattle.cam_event.specs.declared.LetterId.{LetterId}
use Rattle.cam_event.specs.declared.Note.TheVariants as notes
use Rattle.cam_event.specs.Rules.{nothing_but}
use Rattle.cam_event.specs.Sights.{yes_in}
use Rattle.cam_comman.specs.Letters.{load_on}
use Rattle.cam_locks.specs.Site.{Site, TableView, fits_here}
use Rattle.cam_tranman.specs.Keeping.{HasCounts}
use Rattle.cam_node.specs.declared.did.Doing.{Doing}
use Rattle.cam_node.specs.declared.learning.Learnt.{Learnt}
use Rattle.cam_node.specs.declared.plan.Plan.{Plan}
use Rattle.cam_node.specs.declared.state.Core.{Core}
use Rattle.cam_node.specs.Calls.{answers, mail_on, AreSame}
use Rattle.cam_node.specs.Lawful.{IsForNode}
use Rattle.cam_node.specs.Planning.{HasReceived, IsMade}
use Rattle.cam_node.specs.Plans.{IsPlanFor}
use Rattle.cam_node.specs.Standing.{just}
use Rattle.cam_node.specs.Served.{IsElsewhere}
use Rattle.cam_node.proofs.PlanMade.{home_plan}
use Rattle.cam_node.proofs.Unchanged.{unchanged}

-- what a letter's address says is what the lock table tests
fits_for : (objects : List ObjectDecl) (s x : ℕ) (op : Op) → site_of objects x ≡ s
    → is_fit objects x op ≡ true → fits_here objects s x op ≡ true
fits_for objects s x op at fit = by (slice_get objects x) at fit
  where
    both : (a b : Bool) → a ≡ true → b ≡ true → (a && b) ≡ true
    both true true one other = refl
    both false b one other = absurd (cc)
    both true false one other = absurd (cc)

    by : (got : Option ObjectDecl) → option_map_or (λ (o : ObjectDecl). o.node) got 0 ≡ s
        → option_map_or (λ (o : ObjectDecl). fits (kind_of o.start) op) got false ≡ true
        → (option_map_or (λ (o : ObjectDecl). eqb o.node s) got false
        && option_map_or (λ (o : ObjectDecl). fits (kind_of o.start) op) got false) ≡ true
    by None at fit = absurd (cc)
    by (Some o) at fit = both (eqb o.node s) (fits (kind_of o.start) op) (eq-eqb o.node s at) fit

-- what the table answers of the call
pub unfit_there : (one other : TableView) (x : ℕ) (op : Op) (takes : Bool) → one ≡ other
    → takes ≡ fits_here one.site.objects one.site.node x op → takes ≡ false
    → fits_here other.site.objects other.site.node x op ≡ false
unfit_there one other x op takes same is refused =
    subst (λ (table : TableView). fits_here table.site.objects table.site.node x op ≡ false) same
    (sym is ∙ refused)

-- Of a node that stands for a history no such letter is.
never : (objects : List ObjectDecl) (s : ℕ) (site : Site) (letter : Letter)
    → IsElsewhere letter site → site.objects ≡ objects → site.node ≡ s
    → IsForNode objects s letter.body → ⊥
never objects s site letter elsewhere over at addressed =
    let for_call = subst (IsForNode objects s) elsewhere.call addressed in
    true≢false (sym (subst (λ (os : List ObjectDecl). fits_here os site.node elsewhere.asked.object
    elsewhere.asked.op ≡ true) (sym over)
    (subst (λ (n : ℕ). fits_here objects n elsewhere.asked.object elsewhere.asked.op ≡ true)
    (sym at) (fits_for objects s elsewhere.asked.object elsewhere.asked.op for_call.0 for_call.1)))
    ∙ elsewhere.unfit)

-- What is made of it is its plan.
pub elsewhere_plan : (objects : List ObjectDecl) (id : LetterId) (letter : Letter)
    (first core : Core) (learnt : Learnt) (doing : Doing) (plan : Plan)
    → (1 ≤ letter.from) × (letter.from ≤ 8)
    → IsElsewhere letter (answers first).server.table.site
    → HasReceived letter first core learnt → AreSame (answers first) (answers core)
    → doing ≡ just (nothing_but notes.Plain) → IsMade core id learnt doing plan
    → IsPlanFor objects id letter first core plan
elsewhere_plan objects id letter first core learnt doing plan from elsewhere received same is made =
    home_plan objects id letter first core core learnt (just (nothing_but notes.Plain)) plan from
    (subst HasCounts (sym elsewhere.call) tt)
    (λ f m n. ap (λ (b : Body). has_pair (yes_in f letter.from b) m n) elsewhere.call)
    (record { alone = refl; begins = λ f. refl }) refl refl received refl same
    (subst (λ (d : Doing). IsMade core id learnt d plan) is made)
    (λ history through rep may. absurd
    (never objects first.number (answers first).server.table.site letter elsewhere
    rep.serves.site.objects_are rep.serves.site.node may.for_node))
    (λ new has.
    unchanged objects (answers first) (answers core) new id (mail_on letter) (load_on letter)
    learnt.heard core.knowing.known (nothing_but notes.Plain) same refl has)
