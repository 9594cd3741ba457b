-- What the tables of a node and of all have when an event was taken over.
use Rattle.std.proofs.Common.{◌≡◌, ◌<◌, ◌+◌, if◌then◌else◌, ℕ, zero, suc, Bool, false, ◌||◌, List, [], ◌∷◌, ◌++◌, length, take, get_or, Option, refl, sym, ap, ◌∙◌, subst, arith}
use Rattle.std.specs.List.{list_any, AllByRecursion}
use Rattle.std.specs.BTreeMap.{BTreeMap}
use Rattle.std.proofs.lemmas.Bool.{eq-eqb, ne_eqb}
use Rattle.std.proofs.lemmas.List.{take_more}
use Rattle.std.proofs.lemmas.List.Folds.{list_any-append}
use Rattle.cam_names.specs.declared.name.Name.{Name}
use Rattle.cam_type.specs.declared.ObjectDecl.{ObjectDecl}
use Rattle.cam_event.specs.declared.Event.{Event}
use Rattle.cam_event.specs.declared.Deed.{Deed}
use Rattle.cam_event.specs.declared.Deed.TheVariants.{Create, Ask, Call, Perform, Bounce, Got, AskCommit, AskAbort, Commit, Abort, Secure, Inform, Crash}
use Rattle.cam_event.specs.History.{after, is_crash}
use Rattle.cam_event.specs.Inputs.{Mail, mail_got}
use Rattle.cam_event.specs.Pasts.{plain_all}
use Rattle.cam_event.specs.Sights.{Entry, entries, own_deeds}
use Rattle.cam_cut.proofs.Informs.{after_append}
use Rattle.cam_own.specs.declared.own.Own.{Own}
use Rattle.cam_own.specs.declared.all_nodes.AllNodes.{AllNodes}
use Rattle.cam_own.specs.Own.{KeepsOwn}
use Rattle.cam_own.specs.Replies.{IsNoCrash}
use Rattle.cam_own.specs.AllNodes.{KeepsAllNodes}
use Rattle.cam_timed.specs.declared.TimedEvent.{TimedEvent}
use Rattle.cam_timed.specs.declared.machine.Letter.{Letter}
use Rattle.cam_timed.specs.declared.machine.Node.{Node}
use Rattle.cam_timed.specs.declared.machine.deciding.Decided.{Decided}
use Rattle.cam_timed.specs.Machine.{KeepsNode, deeds_of, id_of, mail_of}
use Rattle.cam_timed.specs.Moments.{events, moment_of, names_first}
use Rattle.cam_timed.specs.Turns.{taken}
use Rattle.cam_timed.specs.Untils.{TellsUntils, until_in}

-- the events of the node of an event, and of another
entries_mine : (e : Event) (t : List Event) → entries (e ∷ t) e.node ≡ (record { event = e; mail = mail_got t e.got } ∷ entries t e.node)
entries_mine e t = ap (λ (b : Bool). if b then record { event = e; mail = mail_got t e.got } ∷ entries t e.node else entries t e.node) (eq-eqb e.node e.node refl)

entries_other : (e : Event) (t : List Event) (s : ℕ) → (e.node ≡ s → ⊥) → entries (e ∷ t) s ≡ entries t s
entries_other e t s other = ap (λ (b : Bool). if b then record { event = e; mail = mail_got t e.got } ∷ entries t s else entries t s) (ne_eqb e.node s other)

-- no crash is among deeds that are none
calm_any : (s : ℕ) (ds : List Deed) → AllByRecursion IsNoCrash ds → list_any (is_crash s) ds ≡ false
calm_any s [] h = refl
calm_any s (Crash r ∷ ds) h = absurd h.0
calm_any s (Create a ∷ ds) h = calm_any s ds h.1
calm_any s (Ask a b ∷ ds) h = calm_any s ds h.1
calm_any s (Call a n x op c ∷ ds) h = calm_any s ds h.1
calm_any s (Perform a n answer ∷ ds) h = calm_any s ds h.1
calm_any s (Bounce a n u ∷ ds) h = calm_any s ds h.1
calm_any s (Got a n seen ∷ ds) h = calm_any s ds h.1
calm_any s (AskCommit a v ∷ ds) h = calm_any s ds h.1
calm_any s (AskAbort a ∷ ds) h = calm_any s ds h.1
calm_any s (Commit a ∷ ds) h = calm_any s ds h.1
calm_any s (Abort a ∷ ds) h = calm_any s ds h.1
calm_any s (Secure f x c ∷ ds) h = calm_any s ds h.1
calm_any s (Inform x a o ∷ ds) h = calm_any s ds h.1

pub taken_calm : (s : ℕ) (first more : List Deed) → AllByRecursion IsNoCrash first → AllByRecursion IsNoCrash more → list_any (is_crash s) (first ++ more) ≡ false
taken_calm s first more one other = list_any-append (is_crash s) first more ∙ (λ i. calm_any s first one i || calm_any s more other i)

-- what the node did
pub deeds_mine : (e : Event) (t : List Event) (first more : List Deed) → e.deeds ≡ first ++ more → deeds_of (e ∷ t) e.node ≡ after (after (deeds_of t e.node) first) more
deeds_mine e t first more is = ap own_deeds (entries_mine e t) ∙ ap (after (deeds_of t e.node)) is ∙ after_append (deeds_of t e.node) first more

-- The node keeps its own events, with the event.
pub node_taken : (objects : List ObjectDecl) (T : List TimedEvent) (s : ℕ) (letter : Option Letter) (first : List Deed) (decided : Decided) (own : Own)
    → mail_of letter ≡ mail_got (events T) (id_of letter)
    → KeepsOwn objects s (after (after (deeds_of (events T) s) first) decided.did.deeds) (record { event = (taken s letter first decided).event; mail = mail_of letter } ∷ entries (events T) s) own
    → KeepsOwn objects s (deeds_of (events (taken s letter first decided ∷ T)) s) (entries (events (taken s letter first decided ∷ T)) s) own
node_taken objects T s letter first decided own mail keeps =
    subst (λ (E : List Entry). KeepsOwn objects s (own_deeds (entries (e.event ∷ t) s)) E own) (ap (λ (m : Option Mail). record { event = e.event; mail = m } ∷ entries t s) mail ∙ sym (entries_mine e.event t))
    (subst (λ (L : List Deed). KeepsOwn objects s L (record { event = e.event; mail = mail_of letter } ∷ entries t s) own) (sym (deeds_mine e.event t first decided.did.deeds refl)) keeps)
  where
    t : List Event
    t = events T

    e : TimedEvent
    e = taken s letter first decided

pub moment_taken : (T : List TimedEvent) (e : TimedEvent) → moment_of (e ∷ T) e.event.node ≡ e.moment
moment_taken T e = ap (λ (b : Bool). if b then e.moment else moment_of T e.event.node) (eq-eqb e.event.node e.event.node refl)

-- another node keeps what it had
pub node_other : (objects : List ObjectDecl) (T : List TimedEvent) (e : TimedEvent) (s : ℕ) (node : Node) → (e.event.node ≡ s → ⊥) → KeepsNode objects T s node → KeepsNode objects (e ∷ T) s node
node_other objects T e s node other keeps = record {
  own = subst (λ (E : List Entry). KeepsOwn objects s (own_deeds E) E node.own) (sym (entries_other e.event (events T) s other)) keeps.own;
  moment = keeps.moment ∙ sym (ap (λ (b : Bool). if b then e.moment else moment_of T s) (ne_eqb e.event.node s other));
}

-- What is kept of all has the event.
pub all_nodes_taken : (objects : List ObjectDecl) (T : List TimedEvent) (s : ℕ) (letter : Option Letter) (first : List Deed) (decided : Decided) (all_nodes : AllNodes)
    → KeepsAllNodes objects (after (after (plain_all (events T)) first) decided.did.deeds) all_nodes → KeepsAllNodes objects (plain_all (events (taken s letter first decided ∷ T))) all_nodes
all_nodes_taken objects T s letter first decided all_nodes keeps = subst (λ (L : List Deed). KeepsAllNodes objects L all_nodes) (sym (after_append (plain_all (events T)) first decided.did.deeds)) keeps

pub untils_taken : (T : List TimedEvent) (e : TimedEvent) (old new : BTreeMap Name ℕ) → TellsUntils T old
    → ((a : Name) → until_in new a ≡ (if list_any (names_first a) e.event.deeds then e.until else until_in old a)) → TellsUntils (e ∷ T) new
untils_taken T e old new tells more a = more a ∙ ap (λ (n : ℕ). if list_any (names_first a) e.event.deeds then e.until else n) (tells a)

-- One more deed of a list comes after those before it.
pub one_more : (L ds : List Deed) (i : ℕ) (d : Deed) → i < length ds → d ≡ get_or ds i d → after L (take (i + 1) ds) ≡ d ∷ after L (take i ds)
one_more L ds i d less at =
    ap (after L) (take_more ds i d less ∙ ap (λ (x : Deed). take i ds ++ x ∷ []) (sym at)) ∙ after_append L (take i ds) (d ∷ [])

-- and is no crash if none of them is
pub calm_at : (ds : List Deed) (i : ℕ) (d : Deed) → AllByRecursion IsNoCrash ds → i < length ds → d ≡ get_or ds i d → IsNoCrash d
calm_at [] i d calm less at = absurd (omega (arith, less))
calm_at (x ∷ ds) zero d calm less at = subst IsNoCrash (sym at) calm.0
calm_at (x ∷ ds) (suc i) d calm less at = calm_at ds i d calm.1 (omega (arith, less)) at
