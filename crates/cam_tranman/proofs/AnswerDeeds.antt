-- What the rules of requests, starts, calls and answers make of the actions at home: one deed at most, with what it has in front of it.
use Rattle.std.proofs.Common.{◌≡◌, ℕ, ◌+◌, eqb, Bool, true, false, not, ◌&&◌, if◌then◌else◌, List, [], ◌∷◌, find, length, length-append, Option, Some, None, refl, sym, subst, arith}
use Rattle.std.specs.Prelude.{nat_lt}
use Rattle.std.specs.List.{list_any}
use Rattle.std.proofs.lemmas.Bool.{and_parts, and_from, not-false, eq-eqb}
use borrow.Author.Tests.{eqb-true}
use Rattle.cam_names.specs.declared.name.Name.{Name}
use Rattle.cam_names.specs.Names.{is_prefix, is_child, is_top, ancestors, home_node, home_count}
use Rattle.cam_names.specs.Dependencies.{pairs_of}
use Rattle.cam_names.proofs.Names.{is_prefix_append}
use Rattle.cam_type.specs.declared.ObjectDecl.{ObjectDecl}
use Rattle.cam_type.specs.declared.Op.{Op}
use Rattle.cam_know.specs.declared.Reason.{Reason}
use Rattle.cam_event.specs.declared.Note.{Note}
use Rattle.cam_event.specs.declared.Note.TheVariants as notes
use Rattle.cam_event.specs.declared.Reply.{Reply}
use Rattle.cam_event.specs.declared.Reply.TheVariants as replies
use Rattle.cam_event.specs.declared.Want.{Want}
use Rattle.cam_event.specs.declared.Want.TheVariants as wants
use Rattle.cam_event.specs.declared.Operation.{Operation}
use Rattle.cam_event.specs.declared.Deed.{Deed}
use Rattle.cam_event.specs.declared.Deed.TheVariants.{Create}
use Rattle.cam_event.specs.History.{Addressed, created, ended, call_of, open_call}
use Rattle.cam_event.specs.Live.{site_of}
use Rattle.cam_event.specs.Inputs.{Mail}
use Rattle.cam_event.specs.Sights.{Sight, present, is_present, kept_reply}
use Rattle.cam_event.specs.Rules.{Did, did, one, stopped_by, wanted, request, child_name, with_home, start_comes, lift_here, bounced, served, refused_or_served, again_or, is_conflict_here, on_object, call_comes, is_number, awaits, got_reply, gone_or, answer_comes}
use Rattle.cam_event.specs.ByKnowledge.{start_counts}
use Rattle.cam_tranman.specs.Keeping.{did_at_home, MailHasCounts}
use Rattle.cam_tranman.proofs.RuleCalls.{number_is}
use Rattle.cam_tranman.proofs.Ordering.{HasRun, IsStarted, CameNew, Came}

-- one deed at most, and what is said of it
abbrev pub One : (Deed → Type 0) → List Deed → Type 0
One P [] = Unit {0}
One P (d ∷ []) = P d
One P (d ∷ e ∷ ds) = ⊥

-- what is prepared is a top action of the present count
abbrev pub PreparesTop : Sight → Note → Type 0
PreparesTop g (notes.Preparing f) = (is_top f ≡ true) × (is_present g f ≡ true)
PreparesTop g _ = Unit {0}

abbrev pub Fine : Sight → Option Mail → Did → Type 0
Fine g mail d = One (Came g.node g.deeds mail) (did_at_home d) × PreparesTop g d.note

pub if_fine : (g : Sight) (mail : Option Mail) (b : Bool) (x y : Did) → (b ≡ true → Fine g mail x) → (b ≡ false → Fine g mail y) → Fine g mail (if b then x else y)
if_fine g mail true x y h k = h refl
if_fine g mail false x y h k = k refl

pub stopped_fine : (g : Sight) (mail : Option Mail) (a : Name) (reason : Option Reason) (other : Did) → Fine g mail other → Fine g mail (stopped_by a reason other)
stopped_fine g mail a None other h = h
stopped_fine g mail a (Some reason) other h = (tt, tt)

-- A request of an action that runs.
last_child : (a : Name) (g : Sight) (m : ℕ) → is_child a (child_name g a m) ≡ true
last_child a g m =
    let p = child_name g a m in
    and_from (is_prefix a p) (eqb (length p) (length a + 1)) (is_prefix_append a _) (eq-eqb (length p) (length a + 1) (length-append a _))

wanted_fine : (objects : List ObjectDecl) (g : Sight) (mail : Option Mail) (a : Name) (want : Want) → HasRun g.node g.deeds a → Fine g mail (wanted objects g a want)
wanted_fine objects g mail a (wants.Ask m) runs = ((runs, last_child a g m), tt)
wanted_fine objects g mail a (wants.Call x op) runs = (runs, tt)
wanted_fine objects g mail a (wants.Commit v) runs = (runs, tt)
wanted_fine objects g mail a wants.Abort runs = (runs, tt)
wanted_fine objects g mail a (wants.GiveUp b) runs = (tt, tt)

pub request_fine : (objects : List ObjectDecl) (g : Sight) (mail : Option Mail) (a : Name) (want : Want) → HasRun g.node g.deeds a → Fine g mail (request objects g a want)
request_fine objects g mail a want runs =
    stopped_fine g mail a (g.orphan a (pairs_of (g.deps a))) (wanted objects g a want) (wanted_fine objects g mail a want runs)

-- A start of a child.
pub start_fine : (g : Sight) (mail : Option Mail) (from : ℕ) (b : Name) (counts : List ℕ) → home_node b ≡ g.node → is_top b ≡ false
    → (MailHasCounts mail → length (start_counts mail) ≡ 8) → Fine g mail (start_comes g from b counts)
start_fine g mail from b counts home child whole =
    if_fine g mail (not (is_present g b)) _ _ (λ past. (tt, tt))
    (λ now. if_fine g mail (created g.deeds b) _ _ (λ known. (tt, tt)) (λ new. stopped_fine g mail b (g.orphan b (with_home counts b)) (did (one (Create b)) []) (came now new, tt)))
  where
    came : not (is_present g b) ≡ false → created g.deeds b ≡ false → CameNew (is_top b) g.node g.deeds mail b
    came now new =
        let is : IsStarted g.node g.deeds mail b =
        record { home = home; now = eqb-true (home_count b) (present g) (not-false (is_present g b) now); fresh = new; whole = whole }
        in
        subst (λ (t : Bool). CameNew t g.node g.deeds mail b) (sym child) is

-- A call at its site makes no deed at home.
bounced_fine : (g : Sight) (mail : Option Mail) (a : Name) (n : ℕ) (u : Option Name) → Fine g mail (bounced a n u)
bounced_fine g mail a n None = (tt, tt)
bounced_fine g mail a n (Some u) = (tt, tt)

served_fine : (objects : List ObjectDecl) (g : Sight) (mail : Option Mail) (a : Name) (n x : ℕ) (op : Op) (o : Option Operation) → Fine g mail (served objects g a n x op o)
served_fine objects g mail a n x op None = (tt, tt)
served_fine objects g mail a n x op (Some o) = bounced_fine g mail a n (lift_here g o.action)

refused_fine : (objects : List ObjectDecl) (g : Sight) (mail : Option Mail) (a : Name) (n x : ℕ) (op : Op) (reason : Option Reason)
    → Fine g mail (refused_or_served objects g a n x op reason)
refused_fine objects g mail a n x op (Some reason) = (tt, tt)
refused_fine objects g mail a n x op None = served_fine objects g mail a n x op (find (is_conflict_here g a op) (on_object x g.live))

again_fine : (g : Sight) (mail : Option Mail) (a : Name) (n : ℕ) (kept : Option Reply) (other : Did) → Fine g mail other → Fine g mail (again_or a n kept other)
again_fine g mail a n None other h = h
again_fine g mail a n (Some reply) other h = (tt, tt)

pub call_fine : (objects : List ObjectDecl) (g : Sight) (mail : Option Mail) (a : Name) (n x : ℕ) (op : Op) (c : ℕ) (counts : List ℕ)
    → Fine g mail (call_comes objects g a n x op c counts)
call_fine objects g mail a n x op c counts =
    if_fine g mail (not (eqb c (present g))) _ _ (λ e. (tt, tt))
    (λ e. if_fine g mail (list_any g.knows_commit (ancestors a)) _ _ (λ f. (tt, tt))
    (λ f. again_fine g mail a n (kept_reply g.deeds a n) (refused_or_served objects g a n x op (g.orphan a (pairs_of counts)))
    (refused_fine objects g mail a n x op (g.orphan a (pairs_of counts)))))

-- An answer that is awaited.
abbrev Awaited : Sight → Name → ℕ → Type 0
Awaited g a n = HasRun g.node g.deeds a × (open_call g.deeds a ≡ Some n)

awaited : (g : Sight) (a : Name) (n : ℕ) → home_node a ≡ g.node → awaits g a n ≡ true → Awaited g a n
awaited g a n home waits =
    let last = and_parts (is_present g a && created g.deeds a && not (ended g.deeds a)) (is_number n (open_call g.deeds a)) waits in
    let two = and_parts (is_present g a && created g.deeds a) (not (ended g.deeds a)) last.0 in
    let three = and_parts (is_present g a) (created g.deeds a) two.0 in
    let e = eqb-true (home_count a) (present g) three.0 in
    (record { home = home; recent = omega (arith, e); there = three.1 }, number_is n (open_call g.deeds a) last.1)

reply_fine : (g : Sight) (mail : Option Mail) (a : Name) (n : ℕ) (reply : Reply) → Awaited g a n → Fine g mail (got_reply a n reply)
reply_fine g mail a n (replies.Done answer) is = (is, tt)
reply_fine g mail a n (replies.Busy u) is = (is, tt)
reply_fine g mail a n replies.Missed is = (tt, tt)
reply_fine g mail a n replies.Refused is = (tt, tt)

gone_fine : (objects : List ObjectDecl) (g : Sight) (mail : Option Mail) (a : Name) (n : ℕ) (call : Option Addressed) (other : Did) → Awaited g a n → Fine g mail other
    → Fine g mail (gone_or objects g a n call other)
gone_fine objects g mail a n None other is h = (tt, tt)
gone_fine objects g mail a n (Some call) other is h =
    if_fine g mail (nat_lt call.count (g.known_count (site_of objects call.object))) _ other (λ e. (is, tt)) (λ e. h)

pub answer_fine : (objects : List ObjectDecl) (g : Sight) (mail : Option Mail) (a : Name) (n : ℕ) (reply : Reply) → home_node a ≡ g.node
    → Fine g mail (answer_comes objects g a n reply)
answer_fine objects g mail a n reply home =
    if_fine g mail (not (awaits g a n)) _ _ (λ e. (tt, tt))
    (λ e. let is = awaited g a n home (not-false (awaits g a n) e) in
    stopped_fine g mail a (g.orphan a (pairs_of (g.deps a))) (gone_or objects g a n (call_of g.deeds a n) (got_reply a n reply))
    (gone_fine objects g mail a n (call_of g.deeds a n) (got_reply a n reply) is (reply_fine g mail a n reply is)))
