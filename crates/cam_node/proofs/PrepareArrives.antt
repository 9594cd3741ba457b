-- What is made of a prepare that comes is its plan.
use Rattle.std.proofs.Common.{◌≡◌, ◌≤◌, ℕ, eqb, Bool, true, false, not, if◌then◌else◌, List, length, Option, Some, None, refl, sym, ap, ◌∙◌, subst}
use Rattle.std.specs.Prelude.{IfSome}
use borrow.Author.Tests.{eqb-true}
use Rattle.cam_names.specs.declared.name.Name.{Name}
use Rattle.cam_names.specs.Names.{is_top}
use Rattle.cam_names.specs.Dependencies.{has_pair}
use Rattle.cam_type.specs.declared.ObjectDecl.{ObjectDecl}
use Rattle.cam_type.specs.declared.Held.{Held}
use Rattle.cam_bytes.specs.Ranges.{IsNumber}
use Rattle.cam_know.specs.Knowledge.{Knowledge}
use Rattle.cam_event.specs.declared.Body.{Body}
use Rattle.cam_event.specs.declared.Body.TheVariants as bodies
use Rattle.cam_event.specs.declared.Letter.{Letter}
use Rattle.cam_event.specs.declared.LetterId.{LetterId}
use Rattle.cam_event.specs.declared.Note.TheVariants as notes
use Rattle.cam_event.specs.Sights.{yes_in}
use Rattle.cam_event.specs.Rules.{answers, nothing_but, vote}
use Rattle.cam_comman.specs.Letters.{load_on}
use Rattle.cam_recman.specs.declared.Record.{Record}
use Rattle.cam_recman.specs.Versions.{IsOf}
use Rattle.cam_recman.specs.Writable.{IsWritable}
use Rattle.cam_commit.specs.declared.Asked.{Asked}
use Rattle.cam_commit.specs.declared.Asked.TheVariants as asked
use Rattle.cam_commit.specs.Calls.{asked_of, is_decided}
use Rattle.cam_commit.specs.Families.{Families}
use Rattle.cam_tranman.specs.Keeping.{HasCounts}
use Rattle.cam_node.specs.declared.did.Doing.{Doing}
use Rattle.cam_node.specs.declared.knowing.Heard.{Heard}
use Rattle.cam_node.specs.declared.learning.Learnt.{Learnt}
use Rattle.cam_node.specs.declared.plan.Plan.{Plan}
use Rattle.cam_node.specs.declared.state.Core.{Core}
use Rattle.cam_node.specs.AtHome.{IsNoVote}
use Rattle.cam_node.specs.Calls as calls
use Rattle.cam_node.specs.Calls.{mail_on}
use Rattle.cam_node.specs.Plans.{IsPlanFor}
use Rattle.cam_node.specs.Standing.{MayChange}
use Rattle.cam_node.specs.Planning.{IsMade}
use Rattle.cam_node.specs.Lawful.{IsForNode, IsLetter}
use Rattle.cam_node.specs.Planned.{MayBeAdded}
use Rattle.cam_node.specs.Prepared.{asked_does, asked_for, MayBeWritten}
use Rattle.cam_node.proofs.GoesOn.{GoesOn, mute_plan}
use Rattle.cam_node.proofs.PrepareComes.{prepare_ruled}
use Rattle.cam_node.proofs.SecurePlan.{secure_plan}
use Rattle.cam_node.proofs.SecureRecorded.{held_then}

no_vote : (letter : Letter) (f : Name) (n : ℕ) → letter.body ≡ bodies.Prepare f n
    → IsNoVote (mail_on letter)
no_vote letter f n body g m k = ap (λ (b : Body). has_pair (yes_in g letter.from b) m k) body

-- What the families answer of a top action; and one that is secured is one, of the present count.
asked_top : (k : Knowledge) (families : Families) (f : Name) (n present : ℕ) (r : Asked)
    → is_top f ≡ true → asked_for k families f n present ≡ r
    → asked_of k families f n present ≡ r
asked_top k families f n present r top is =
    sym (ap (λ (b : Bool). if b then asked_of k families f n present else asked.Late) top) ∙ is

secured_top : (k : Knowledge) (families : Families) (f : Name) (n present : ℕ)
    → asked_for k families f n present ≡ asked.Secure → is_top f ≡ true
secured_top k families f n present is = by (is_top f) is
  where
    by : (b : Bool)
        → (if b then asked_of k families f n present else asked.Late) ≡ asked.Secure → b ≡ true
    by true h = refl
    by false h = cc

secured_count : (k : Knowledge) (families : Families) (f : Name) (n present : ℕ)
    → asked_of k families f n present ≡ asked.Secure → n ≡ present
secured_count k families f n present is =
    eqb-true n present (by (is_decided k f) (families.is_secured f) (eqb n present) is)
  where
    by : (decided secured same : Bool)
        → (if decided then asked.Late
        else if secured then asked.AlreadyYes
        else if not same then asked.Refuse
        else asked.Secure) ≡ asked.Secure
        → same ≡ true
    by true secured same h = cc
    by false true same h = cc
    by false false true h = refl
    by false false false h = cc

pub prepare_plan : (objects : List ObjectDecl) (id : LetterId) (letter : Letter)
    (first core now : Core)
    (learnt : Learnt) (f : Name) (n : ℕ) (doing : Doing) (plan : Plan) → (1 ≤ letter.from) ×
    (letter.from ≤ 8)
    → letter.body ≡ bodies.Prepare f n → GoesOn letter first core now learnt
    → doing
    ≡ asked_does now.number (held_then learnt now f n)
    (asked_for now.knowing.known (calls.answers now).families f n now.count)
    → IsMade now id learnt doing plan → IsPlanFor objects id letter first now plan
prepare_plan objects id letter first core now learnt f n doing plan from body goes does made =
    by (asked_for now.knowing.known (calls.answers now).families f n now.count) refl
    (subst (λ (d : Doing). IsMade now id learnt d plan) does made)
  where
    -- the letter is of a top action
    top_in : IsLetter objects first.number (mail_on letter) (load_on letter) → is_top f ≡ true
    top_in may = subst (λ (y : Body). IsForNode objects first.number y) body may.for_node

    by : (r : Asked) → asked_for now.knowing.known (calls.answers now).families f n now.count ≡ r
        → IsMade now id learnt (asked_does now.number (held_then learnt now f n) r) plan
        → IsPlanFor objects id letter first now plan
    by asked.Late is made =
        mute_plan objects id letter first core now learnt (nothing_but notes.Late) plan from
        (subst HasCounts (sym body) tt)
        (no_vote letter f n body) goes refl (λ h. refl)
        (λ history through rep may. prepare_ruled objects history id letter first core now learnt f n
        asked.Late body goes rep
        (asked_top now.knowing.known (calls.answers now).families f n now.count asked.Late (top_in may)
        is))
        made
    by asked.AlreadyYes is made =
        mute_plan objects id letter first core now learnt
        (answers notes.Again (vote f n true)) plan from (subst HasCounts (sym body) tt)
        (no_vote letter f n body) goes refl (λ h. refl)
        (λ history through rep may. prepare_ruled objects history id letter first core now learnt f n
        asked.AlreadyYes body goes rep
        (asked_top now.knowing.known (calls.answers now).families f n now.count asked.AlreadyYes (top_in may)
        is))
        made
    by asked.Refuse is made =
        mute_plan objects id letter first core now learnt
        (answers notes.Missed (vote f n false)) plan from (subst HasCounts (sym body) tt)
        (no_vote letter f n body) goes refl (λ h. refl)
        (λ history through rep may. prepare_ruled objects history id letter first core now learnt f n
        asked.Refuse body goes rep
        (asked_top now.knowing.known (calls.answers now).families f n now.count asked.Refuse (top_in may)
        is))
        made
    by asked.Secure is made =
        secure_plan objects id letter first core now learnt f n plan from body goes
        (asked_top now.knowing.known (calls.answers now).families f n now.count asked.Secure
        (secured_top now.knowing.known (calls.answers now).families f n now.count is) is) made

-- It may stand where there is room for one more family.
pub prepare_may : (s : ℕ) (core : Core) (heard : Option Heard) (r : Asked) (doing : Doing)
    (held : Held)
    → doing ≡ asked_does s held r → 1 ≤ (calls.answers core).families.room
    → MayChange doing.change heard core
prepare_may s core heard r doing held does room =
    subst (λ (d : Doing). MayChange d.change heard core) (sym does) (by r)
  where
    by : (r : Asked) → MayChange (asked_does s held r).change heard core
    by asked.Late = tt
    by asked.AlreadyYes = tt
    by asked.Refuse = tt
    by asked.Secure = room

-- Its record may be written.
written_adds : (adds : Option Record) → IfSome adds (λ one. IsWritable one × IsOf 2 one)
    → MayBeAdded adds
written_adds None may = tt
written_adds (Some one) may = may

pub prepare_adds : (s : ℕ) (core : Core) (f : Name) (n : ℕ) (doing : Doing) (held : Held)
    (objects : List ObjectDecl)
    → doing
    ≡ asked_does s held
    (asked_for core.knowing.known (calls.answers core).families f n core.count)
    → length objects ≤ 64 → MayBeWritten f n objects doing.adds → MayBeAdded doing.adds
prepare_adds s core f n doing held objects does few =
    by (asked_for core.knowing.known (calls.answers core).families f n core.count) refl does
  where
    k : Knowledge
    k = core.knowing.known

    families : Families
    families = (calls.answers core).families

    none : doing.adds ≡ None → MayBeWritten f n objects doing.adds → MayBeAdded doing.adds
    none is may = subst MayBeAdded (sym is) tt

    by : (r : Asked) → asked_for k families f n core.count ≡ r → doing ≡ asked_does s held r
        → MayBeWritten f n objects doing.adds → MayBeAdded doing.adds
    by asked.Late is done = none (ap (λ (d : Doing). d.adds) done)
    by asked.AlreadyYes is done = none (ap (λ (d : Doing). d.adds) done)
    by asked.Refuse is done = none (ap (λ (d : Doing). d.adds) done)
    by asked.Secure is done =
        let top : is_top f ≡ true = secured_top k families f n core.count is in
        let present : n ≡ core.count =
        secured_count k families f n core.count
        (asked_top k families f n core.count asked.Secure top is) in
        λ may. written_adds doing.adds
        (may (eqb-true (length f) 1 top) (subst IsNumber (sym present) core.counted) few)
