-- One more event of a node: what it does to the families, so that they go on answering as the
-- node's history does.
use Rattle.std.specs.Prelude.{◌≡◌, ℕ, eqb, not, Bool, true, false, ◌&&◌, ◌||◌, List, ◌∷◌, map}
use Rattle.std.specs.Prelude.{reverse, Some}
use Rattle.std.specs.List.{list_any}
use Rattle.cam_names.specs.declared.name.Name.{Name}
use Rattle.cam_names.specs.Names.{name_eq}
use Rattle.cam_names.specs.Dependencies.{has_pair}
use Rattle.cam_type.specs.declared.ObjectDecl.{ObjectDecl}
use Rattle.cam_type.specs.declared.Held.{Held}
use Rattle.cam_event.specs.declared.Body.TheVariants as bodies
use Rattle.cam_event.specs.declared.Deed.{Deed}
use Rattle.cam_event.specs.declared.Deed.TheVariants.{Secure}
use Rattle.cam_event.specs.History.{is_commit, is_abort, is_crash, is_secure_at}
use Rattle.cam_event.specs.Inputs.{Mail}
use Rattle.cam_event.specs.Sights.{is_preparing_note, yes_for}
use Rattle.cam_event.specs.HeldSites.{site}
use Rattle.cam_event.specs.Carried.{Carried, deeds_of}
use Rattle.cam_commit.specs.declared.Voted.{Voted}
use Rattle.cam_commit.specs.Families.{Families, IsUndecided, CommitsFamilies}
use Rattle.cam_commit.specs.Calls.{yes, ends, AreSame, IsPrepared, IsSecured, IsVoted}

-- the event is a crash of its node
abbrev pub is_restart : Carried → Bool
is_restart c = list_any (is_crash c.event.node) c.event.deeds

-- What an event does, of each family that is undecided after it: its note begins a family, its
-- letter's vote yes counts for one that is preparing, its Secure secures one.
pub record Follows (objects : List ObjectDecl) (s : ℕ) (before : List Carried) (c : Carried)
    (old new : Families) : Type 0 where
  -- a family is begun once
  pub begins : (f : Name) → IsUndecided objects (c ∷ before) f
      → is_preparing_note f c.event.note ≡ true → old.is_preparing f ≡ false
  pub preparing :
      (f : Name) → IsUndecided objects (c ∷ before) f
      → new.is_preparing f ≡ (is_preparing_note f c.event.note || old.is_preparing f)
  pub votes :
      (f : Name) (m n : ℕ) → IsUndecided objects (c ∷ before) f
      → new.has_vote f m n ≡ ((old.is_preparing f && has_pair (yes_for f c.mail) m n)
      || old.has_vote f m n)
  pub secured :
      (f : Name) → IsUndecided objects (c ∷ before) f
      → new.is_secured f ≡ (list_any (is_secure_at f s) c.event.deeds || old.is_secured f)

-- THE LAW: after one more event, which is no restart, the families answer as the history does.
abbrev pub KeepsOverEvent : Type 0
KeepsOverEvent =
    (objects : List ObjectDecl) (s : ℕ) (before : List Carried) (c : Carried) (old new : Families)
    → is_restart c ≡ false
    → Follows objects s before c old new → CommitsFamilies objects s before old
    → CommitsFamilies objects s (c ∷ before) new

-- the event begins none, and secures none
abbrev pub BeginsNone : Carried → Type 0
BeginsNone c = (f : Name) → is_preparing_note f c.event.note ≡ false

abbrev pub SecuresNone : ℕ → Carried → Type 0
SecuresNone s c = (f : Name) → list_any (is_secure_at f s) c.event.deeds ≡ false

-- no vote yes of the event's letter counts
abbrev pub CountsNone : List ObjectDecl → List Carried → Carried → Families → Type 0
CountsNone objects before c old =
    (f : Name) (m n : ℕ) → IsUndecided objects (c ∷ before) f → old.is_preparing f ≡ true
    → has_pair (yes_for f c.mail) m n ≡ false

-- By kind of event. One that begins, secures and counts none leaves the families as they are;
pub record IsQuiet (objects : List ObjectDecl) (s : ℕ) (before : List Carried) (c : Carried)
    (old : Families) : Type 0 where
  pub no_restart : is_restart c ≡ false
  pub begins : BeginsNone c
  pub counts : CountsNone objects before c old
  pub secures : SecuresNone s c

abbrev pub QuietKeeps : Type 0
QuietKeeps =
    (objects : List ObjectDecl) (s : ℕ) (before : List Carried) (c : Carried) (old new : Families)
    → IsQuiet objects s before c old → AreSame old new
    → CommitsFamilies objects s before old → CommitsFamilies objects s (c ∷ before) new

-- one with the note for a family, which is not preparing, begins it;
pub record IsBeginning (s : ℕ) (f : Name) (c : Carried) (old : Families) : Type 0 where
  pub no_restart : is_restart c ≡ false
  pub note : (g : Name) → is_preparing_note g c.event.note ≡ name_eq f g
  pub fresh : old.is_preparing f ≡ false
  pub no_vote : (g : Name) (m n : ℕ) → has_pair (yes_for g c.mail) m n ≡ false
  pub secures : SecuresNone s c

abbrev pub PrepareKeeps : Type 0
PrepareKeeps =
    (objects : List ObjectDecl) (s : ℕ) (before : List Carried) (c : Carried) (f : Name)
    (old new : Families) → IsBeginning s f c old
    → IsPrepared f old new → CommitsFamilies objects s before old
    → CommitsFamilies objects s (c ∷ before) new

-- one whose letter is a vote counts it, where it decides a family that the vote decides;
pub record IsVoting (s : ℕ) (f : Name) (from n : ℕ) (agrees : Bool) (result : Voted)
    (c : Carried) : Type 0 where
  pub no_restart : is_restart c ≡ false
  pub begins : BeginsNone c
  pub vote : (mail : Mail) × (c.mail ≡ Some mail) × (mail.from ≡ from)
      × (mail.body ≡ bodies.Vote f n agrees)
  pub decides : ends result ≡ true → (list_any (is_commit f) c.event.deeds
      || list_any (is_abort f) c.event.deeds) ≡ true
  pub secures : SecuresNone s c

abbrev pub VoteKeeps : Type 0
VoteKeeps =
    (objects : List ObjectDecl) (s : ℕ) (before : List Carried) (c : Carried) (f : Name)
    (from n : ℕ) (agrees : Bool) (result : Voted)
    (old new : Families) → IsVoting s f from n agrees result c
    → IsVoted (yes f from n) agrees result old new
    → CommitsFamilies objects s before old → CommitsFamilies objects s (c ∷ before) new

-- one with a Secure of a family secures it.
pub record IsSecuring (objects : List ObjectDecl) (s : ℕ) (before : List Carried) (f : Name)
    (c : Carried) (old : Families) : Type 0 where
  pub no_restart : is_restart c ≡ false
  pub begins : BeginsNone c
  pub counts : CountsNone objects before c old
  pub secures : (g : Name) → list_any (is_secure_at g s) c.event.deeds ≡ name_eq f g

abbrev pub SecureKeeps : Type 0
SecureKeeps =
    (objects : List ObjectDecl) (s : ℕ) (before : List Carried) (c : Carried) (f : Name)
    (old new : Families)
    → IsSecuring objects s before f c old → IsSecured f old new
    → CommitsFamilies objects s before old → CommitsFamilies objects s (c ∷ before) new

-- the families that a log holds as secured
abbrev pub families_of : List Held → List Name
families_of held = map (λ h. h.family) held

-- The families that a log recovered: none is preparing, and exactly these are secured.
pub record AreRecovered (secured : List Name) (new : Families) : Type 0 where
  pub preparing : (f : Name) → new.is_preparing f ≡ false
  pub votes : (f : Name) (m c : ℕ) → new.has_vote f m c ≡ false
  pub secured_are : (f : Name) → new.is_secured f ≡ list_any (name_eq f) secured

-- A node's Secures are its own.
abbrev pub is_elsewhere : ℕ → Deed → Bool
is_elsewhere s (Secure f site c) = not (eqb s site)
is_elsewhere s _ = false

abbrev pub secured_families : List Carried → List Name
secured_families before = map (λ g. g.0) (reverse (site before).secured)

-- After a restart, with what the log recovered, they answer as the history does.
abbrev pub RecoversFamilies : Type 0
RecoversFamilies =
    (objects : List ObjectDecl) (s : ℕ) (before : List Carried) (c : Carried) (new : Families)
    → is_restart c ≡ true → SecuresNone s c
    → list_any (is_elsewhere s) (deeds_of before) ≡ false
    → AreRecovered (secured_families before) new
    → CommitsFamilies objects s (c ∷ before) new
