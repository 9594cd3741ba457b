-- No event of a node secures a family that the node has secured before.
use Rattle.std.proofs.Common.{◌≡◌, ℕ, eqb, Bool, true, false, cond, not, ◌||◌, if◌then◌else◌, List, [], ◌∷◌, ◌++◌, filter, Option, Some, None, refl, sym, ap, subst, ◌∙◌}
use Rattle.std.specs.List.{list_any}
use Rattle.std.proofs.lemmas.Bool.{true≢false, or_parts}
use Rattle.cam_names.specs.declared.name.Name.{Name}
use Rattle.cam_names.specs.Names.{parent}
use Rattle.cam_names.specs.Dependencies.{pairs_of}
use Rattle.cam_type.specs.declared.ObjectDecl.{ObjectDecl}
use Rattle.cam_know.specs.declared.Reason.{Reason}
use Rattle.cam_know.specs.Knowledge.{Knowledge}
use Rattle.cam_event.specs.declared.Body.{Body}
use Rattle.cam_event.specs.declared.Body.TheVariants as bodies
use Rattle.cam_event.specs.declared.Note.TheVariants as notes
use Rattle.cam_event.specs.declared.Deed.{Deed}
use Rattle.cam_event.specs.declared.Deed.TheVariants.{Create, Ask, Call, Perform, Bounce, Got, AskCommit, AskAbort, Commit, Abort, Secure, Inform, Crash}
use Rattle.cam_event.specs.History.{after, secured_at, is_secure_at}
use Rattle.cam_event.specs.Inputs.{Input, Begins, Requests, Receives, Tells, Queries, Restarts, Mail}
use Rattle.cam_event.specs.Sights.{Sight, present, is_present, knows_outcome, is_preparing}
use Rattle.cam_event.specs.Rules.{did, one, vote, answers, nothing_but, prepares, finish_comes, prepare_comes, arrives, rule}
use Rattle.cam_event.specs.Taken.{is_entered}
use Rattle.cam_event.specs.ByKnowledge.{held, held_sight, new_informs, node_step}
use Rattle.cam_event.specs.Carried.{Carried, deeds_of}
use Rattle.cam_commit.proofs.RuleKinds.{is_marking, request_plain, start_plain, call_plain, answer_plain, child_plain, quit_plain, vote_plain, query_plain}
use Rattle.cam_node.specs.LogOrder.{is_any_secure}
use Rattle.cam_node.proofs.Unsecured.{informs_unsecured}

-- A deed that secures does so here, a family that was not secured here.
abbrev pub IsNew : ℕ → List Deed → Deed → Type 0
IsNew s L d = (f : Name) (r c : ℕ) → d ≡ Secure f r c → (r ≡ s) × (secured_at L f s ≡ false)

abbrev pub AreNew : ℕ → List Deed → List Deed → Type 0
AreNew s L [] = Unit {0}
AreNew s L (d ∷ ds) = IsNew s L d × AreNew s (d ∷ L) ds

-- deeds of which none secures
not_both : (b : Bool) → b ≡ true → b ≡ false → ⊥
not_both b met failed = true≢false (sym met ∙ failed)

pub none_is_new : (s : ℕ) (L : List Deed) (d : Deed) → is_any_secure d ≡ false → IsNew s L d
none_is_new s L d none f r c is = absurd (not_both (is_any_secure d) (ap is_any_secure is) none)

pub none_are_new : (s : ℕ) (L ds rest : List Deed) → list_any is_any_secure ds ≡ false
    → AreNew s (after L ds) rest → AreNew s L (ds ++ rest)
none_are_new s L [] rest none new = new
none_are_new s L (d ∷ ds) rest none new =
    let parts = or_parts (is_any_secure d) (list_any is_any_secure ds) none in
    (none_is_new s L d parts.0, none_are_new s (d ∷ L) ds rest parts.1 new)

marked : (d : Deed) → is_marking d ≡ false → is_any_secure d ≡ false
marked (Create a) h = refl
marked (Ask a b) h = refl
marked (Call a n x op c) h = refl
marked (Perform a n answer) h = refl
marked (Bounce a n u) h = refl
marked (Got a n seen) h = refl
marked (AskCommit a v) h = refl
marked (AskAbort a) h = refl
marked (Commit a) h = refl
marked (Abort a) h = refl
marked (Secure f site c) h = cc
marked (Inform site a o) h = refl
marked (Crash site) h = refl

plain_are_new : (s : ℕ) (L ds : List Deed) → list_any is_marking ds ≡ false → AreNew s L ds
plain_are_new s L [] plain = tt
plain_are_new s L (d ∷ ds) plain =
    let parts = or_parts (is_marking d) (list_any is_marking ds) plain in
    (none_is_new s L d (marked d parts.0), plain_are_new s (d ∷ L) ds parts.1)

-- the site and the family of a Secure
abbrev secured_here : Deed → ℕ
secured_here (Secure f r c) = r
secured_here _ = 0

abbrev secured_family : Deed → Name
secured_family (Secure f r c) = f
secured_family _ = []

one_new : (s : ℕ) (L : List Deed) (g : Name) (c : ℕ) → secured_at L g s ≡ false
    → IsNew s L (Secure g s c)
one_new s L g c off f r k is = (
  ap secured_here (sym is),
  subst (λ (h : Name). secured_at L h s ≡ false) (ap secured_family is) off,
)

-- A prepare secures what was not secured, and no other rule does.
prepare_new : (g : Sight) (f : Name) (c : ℕ)
    → AreNew g.node g.deeds (prepare_comes g f c).deeds
prepare_new g f c = by (knows_outcome g f) (secured_at g.deeds f g.node)
    (not (eqb c (present g))) refl
  where
    by : (known here missed : Bool) → secured_at g.deeds f g.node ≡ here
        → AreNew g.node g.deeds
        (if known then nothing_but notes.Late
        else if here then answers notes.Again (vote f c true)
        else if missed then answers notes.Missed (vote f c false)
        else did (one (Secure f g.node c)) (vote f c true)).deeds
    by true here missed is = tt
    by false true missed is = tt
    by false false true is = tt
    by false false false is = (one_new g.node g.deeds f c is, tt)

prepares_plain : (g : Sight) (b : Name) (reason : Option Reason)
    → list_any is_marking (prepares g b reason).deeds ≡ false
prepares_plain g b None = refl
prepares_plain g b (Some reason) = refl

finish_plain : (g : Sight) (b : Name) (p : Option Name) (counts : List ℕ)
    → list_any is_marking (finish_comes g b p counts).deeds ≡ false
finish_plain g b (Some p) counts = (child_plain g p b counts).0
finish_plain g b None counts =
    by (not (is_present g b) || knows_outcome g b || is_preparing g b)
  where
    by : (late : Bool)
        → list_any is_marking
        (if late then nothing_but notes.Late
        else prepares g b (g.orphan b (pairs_of (g.deps b)))).deeds ≡ false
    by true = refl
    by false = prepares_plain g b (g.orphan b (pairs_of (g.deps b)))

arrives_new : (objects : List ObjectDecl) (g : Sight) (from : ℕ) (body : Body)
    → AreNew g.node g.deeds (arrives objects g from body).deeds
arrives_new objects g from (bodies.Start b counts) =
    plain_are_new g.node g.deeds _ (start_plain g from b counts).0
arrives_new objects g from (bodies.Call a n x op c counts) =
    plain_are_new g.node g.deeds _ (call_plain objects g a n x op c counts).0
arrives_new objects g from (bodies.Answer a n reply) =
    plain_are_new g.node g.deeds _ (answer_plain objects g a n reply).0
arrives_new objects g from (bodies.Finish b v counts) =
    plain_are_new g.node g.deeds _ (finish_plain g b (parent b) counts)
arrives_new objects g from (bodies.Quit b) =
    plain_are_new g.node g.deeds _ (quit_plain g b (parent b)).0
arrives_new objects g from (bodies.Prepare f c) = prepare_new g f c
arrives_new objects g from (bodies.Vote f c agrees) =
    plain_are_new g.node g.deeds _ (vote_plain g from f c agrees).0
arrives_new objects g from (bodies.Query f) =
    plain_are_new g.node g.deeds _ (query_plain g from f).0
arrives_new objects g from bodies.News = tt

rule_new : (objects : List ObjectDecl) (g : Sight) (mail : Option Mail) (input : Input)
    → AreNew g.node g.deeds (rule objects g mail input).deeds
rule_new objects g mail (Begins m) =
    plain_are_new g.node g.deeds (rule objects g mail (Begins m)).deeds refl
rule_new objects g mail (Requests r) =
    plain_are_new g.node g.deeds _ (request_plain objects g r.action r.want).0
rule_new objects g None (Receives letter) = tt
rule_new objects g (Some mail) (Receives letter) = arrives_new objects g mail.from mail.body
rule_new objects g mail (Tells m to) = tt
rule_new objects g mail (Queries m f) = tt
rule_new objects g mail (Restarts m) = (λ f r c is. cc, tt)

-- So it is of each event of a node,
pub step_is_new : (objects : List ObjectDecl) (s : ℕ) (history : List Carried) (input : Input)
    (mail : Option Mail) (brought : Knowledge)
    → AreNew s (deeds_of history) (node_step objects s history input mail brought).deeds
step_is_new objects s history input mail brought =
    none_are_new s (deeds_of history) (new_informs s brought (held objects history))
    (rule objects (held_sight objects s history brought) mail input).deeds
    (informs_unsecured s brought (held objects history))
    (rule_new objects (held_sight objects s history brought) mail input)

-- and of what is taken of one at a halt.
unentered : (f : Name) (s : ℕ) (d : Deed) → is_entered d ≡ false → is_secure_at f s d ≡ false
unentered f s (Create a) h = refl
unentered f s (Ask a b) h = refl
unentered f s (Call a n x op c) h = refl
unentered f s (Perform a n answer) h = refl
unentered f s (Bounce a n u) h = refl
unentered f s (Got a n seen) h = refl
unentered f s (AskCommit a v) h = refl
unentered f s (AskAbort a) h = refl
unentered f s (Commit a) h = cc
unentered f s (Abort a) h = cc
unentered f s (Secure g site c) h = cc
unentered f s (Inform site a o) h = cc
unentered f s (Crash site) h = cc

entered_from : (s : ℕ) (L M ds : List Deed)
    → ((f : Name) → secured_at M f s ≡ secured_at L f s) → AreNew s L ds
    → AreNew s M (filter is_entered ds)
entered_from s L M [] same new = tt
entered_from s L M (d ∷ ds) same new =
    by (is_entered d) refl
    (entered_from s (d ∷ L) (d ∷ M) ds
    (λ f. ap (λ (b : Bool). is_secure_at f s d || b) (same f)) new.1)
    (λ alike. entered_from s (d ∷ L) M ds alike new.1)
  where
    rest : List Deed
    rest = filter is_entered ds

    by : (b : Bool) → is_entered d ≡ b → AreNew s (d ∷ M) rest
        → (((f : Name) → secured_at M f s ≡ secured_at (d ∷ L) f s) → AreNew s M rest)
        → AreNew s M (cond b (d ∷ rest) rest)
    by true is with_it without =
        (λ f r c at. let h = new.0 f r c at in (h.0, same f ∙ h.1), with_it)
    by false is with_it without =
        without
        (λ f. same f ∙ ap (λ (b : Bool). b || secured_at L f s) (sym (unentered f s d is)))

pub entered_is_new : (s : ℕ) (L ds : List Deed) → AreNew s L ds → AreNew s L (filter is_entered ds)
entered_is_new s L ds new = entered_from s L L ds (λ f. refl) new
