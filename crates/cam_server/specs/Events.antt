-- One more event of a node: what it does to what is served there, so that it goes on answering as
-- the node's history does.
use Rattle.std.specs.Prelude.{◌≡◌, ℕ, ◌+◌, eqb, Bool, true, false, List, [], ◌∷◌, ◌++◌, reverse}
use Rattle.std.specs.Prelude.{Some}
use Rattle.std.specs.List.{list_any, list_all}
use Rattle.cam_names.specs.declared.name.Name.{Name}
use Rattle.cam_type.specs.declared.ObjectDecl.{ObjectDecl}
use Rattle.cam_type.specs.declared.Held.{Held}
use Rattle.cam_know.specs.Knowledge.{Knowledge}
use Rattle.cam_know.specs.declared.Outcome.{Outcome}
use Rattle.cam_know.specs.declared.Outcome.TheVariants.{Aborted, Committed}
use Rattle.cam_know.specs.Known.{knows_abort, knows_commit, both, news}
use Rattle.cam_event.specs.declared.Body.TheVariants as bodies
use Rattle.cam_event.specs.declared.Deed.{Deed}
use Rattle.cam_event.specs.declared.Deed.TheVariants.{Perform, Bounce, Commit, Abort, Inform, Crash}
use Rattle.cam_event.specs.History.{count, informed, is_inform}
use Rattle.cam_event.specs.Inputs.{Mail}
use Rattle.cam_event.specs.ByKnowledge.{new_informs}
use Rattle.cam_event.specs.HeldSites.{site}
use Rattle.cam_event.specs.Carried.{Carried, deeds_of}
use Rattle.cam_locks.specs.Names.{has_name}
use Rattle.cam_locks.specs.Restored.{CanRestore, restored}
use Rattle.cam_server.specs.declared.Performed.{Performed}
use Rattle.cam_server.specs.declared.Performed.TheVariants as performed
use Rattle.cam_server.specs.Server.{Server, ServesSite}
use Rattle.cam_server.specs.Calls.{Asked, performed_by, AfterPerformed, AreInformed, IsInformedOf}
use Rattle.cam_server.specs.Calls.{IsInformedOfAll, AreSame, IsNew}
use Rattle.cam_server.specs.Recovered.{AreHeld, beside, OrderIsKept}

-- A deed that does nothing here but that its site may be informed by it: its own site alone.
abbrev pub is_quiet : ℕ → Deed → Bool
is_quiet s (Perform a n answer) = false
is_quiet s (Bounce a n u) = false
is_quiet s (Crash site) = false
is_quiet s (Inform site u committed) = eqb s site
is_quiet s _ = true

abbrev pub AreQuiet : ℕ → List Deed → Type 0
AreQuiet s ds = list_all (is_quiet s) ds ≡ true

abbrev pub is_any_inform : Deed → Bool
is_any_inform (Inform site u committed) = true
is_any_inform _ = false

-- of which aborts, and of which commits, the deeds inform the site
abbrev pub informs_abort : ℕ → List Deed → Name → Bool
informs_abort s ds u = list_any (is_inform s u false) ds

abbrev pub informs_commit : ℕ → List Deed → Name → Bool
informs_commit s ds u = list_any (is_inform s u true) ds

-- the deeds inform the site
abbrev pub IsInformedBy : ℕ → List Deed → Server → Server → Type 0
IsInformedBy s ds old new = AreInformed (informs_abort s ds) (informs_commit s ds) old new

-- A server that answers the same serves the same.
abbrev pub SameServes : Type 0
SameServes =
    (objects : List ObjectDecl) (s : ℕ) (before : List Carried) (old new : Server) → AreSame old new
    → ServesSite objects s before old → ServesSite objects s before new

-- THE LAW. An event that performs and bounces nothing informs the site, of nothing where it has no
-- Inform;
abbrev pub InformsKeep : Type 0
InformsKeep =
    (objects : List ObjectDecl) (s : ℕ) (before : List Carried) (c : Carried) (old new : Server)
    → AreQuiet s c.event.deeds
    → IsInformedBy s c.event.deeds old new → ServesSite objects s before old
    → ServesSite objects s (c ∷ before) new

-- one with a Perform or a Bounce has it last, and its letter is the call.
abbrev pub served_deed : Asked → Performed → List Deed
served_deed asked (performed.Done answer) = Perform asked.action asked.number answer ∷ []
served_deed asked (performed.Busy u) = Bounce asked.action asked.number u ∷ []
served_deed asked _ = []

pub record IsServing (s : ℕ) (c : Carried) (first : List Deed) (asked : Asked)
    (result : Performed) : Type 0 where
  pub quiet : AreQuiet s first
  pub deeds : c.event.deeds ≡ first ++ served_deed asked result
  pub mail :
      (m : Mail) × (c.mail ≡ Some m) × (m.body
      ≡ bodies.Call asked.action asked.number asked.object asked.op asked.count asked.visited)

-- The lock table did it, exactly if the call was performed.
abbrev pub PerformKeeps : Type 0
PerformKeeps =
    (objects : List ObjectDecl) (s : ℕ) (before : List Carried) (c : Carried) (first : List Deed)
    (asked : Asked)
    (k : Knowledge) (old mid new : Server)
    → IsServing s c first asked (performed_by k mid asked) → IsInformedBy s first old mid
    → AfterPerformed asked (performed_by k mid asked) mid new
    → ServesSite objects s before old → ServesSite objects s (c ∷ before) new

-- The first Informs of an event are what the letter brings new: of the news, as they are when the
-- letter's knowledge is joined, each outcome informs, where the site was informed of each commit
-- that was known.
abbrev pub NewsInform : Type 0
NewsInform =
    (s : ℕ) (known brought : Knowledge) (old new : Server)
    → ((u : Name) → knows_commit known u ≡ true → has_name old.table.site.committed u ≡ true)
    → IsInformedOf (news (both known brought) known) old new
    → IsInformedBy s (new_informs s brought known) old new

-- A decision of the node's own informs its site of that outcome.
abbrev pub decision : ℕ → Outcome → List Deed
decision s (Aborted a) = Abort a ∷ Inform s a false ∷ []
decision s (Committed a counts) = Commit a ∷ Inform s a true ∷ []

abbrev pub DecisionInforms : Type 0
DecisionInforms =
    (s : ℕ) (o : Outcome) (old new : Server) → IsInformedOfAll (o ∷ []) old new
    → IsInformedBy s (decision s o) old new

-- Other deeds inform it of nothing,
abbrev pub NothingInforms : Type 0
NothingInforms =
    (s : ℕ) (ds : List Deed) (server : Server) → list_any is_any_inform ds ≡ false
    → IsInformedBy s ds server server

-- and what informs it one after the other informs it of both.
abbrev pub InformsJoin : Type 0
InformsJoin =
    (s : ℕ) (first more : List Deed) (old mid new : Server)
    → IsInformedBy s first old mid → IsInformedBy s more mid new
    → IsInformedBy s (first ++ more) old new

-- After a restart, with the table that is restored from what the log held, it answers as the
-- history does: the log held the secured families in order, and what was known of aborts is of what
-- the site was informed.
pub record IsLogged (objects : List ObjectDecl) (s : ℕ) (before : List Carried) (k : Knowledge)
    (logged : List Held) : Type 0 where
  pub secured : AreHeld logged (reverse (site before).secured)
  pub order : OrderIsKept (beside logged (reverse (site before).secured))
  pub restorable : CanRestore objects s logged
  pub aborts : (u : Name) → knows_abort k u ≡ informed (deeds_of before) s u false
  pub commits : (u : Name) → knows_commit k u ≡ informed (deeds_of before) s u true

abbrev pub RestartKeeps : Type 0
RestartKeeps =
    (objects : List ObjectDecl) (s : ℕ) (before : List Carried) (c : Carried) (k : Knowledge)
    (logged : List Held) (new : Server)
    → c.event.deeds ≡ Crash s ∷ [] → IsLogged objects s before k logged
    → IsNew (count (deeds_of before) s + 1) (restored objects s logged k) new
    → ServesSite objects s (c ∷ before) new
