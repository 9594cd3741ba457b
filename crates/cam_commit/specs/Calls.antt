-- What each call answers, and what it does to the families.
use Rattle.std.specs.Prelude.{◌≡◌, ℕ, eqb, nat_lt, min, Bool, true, false, not, ◌&&◌, ◌||◌}
use Rattle.std.specs.Prelude.{if◌then◌else◌, List}
use Rattle.std.specs.List.{list_all}
use Rattle.std.specs.HashSet.{contains, spare}
use Rattle.cam_names.specs.declared.name.Name.{Name}
use Rattle.cam_names.specs.Names.{name_eq, home_count}
use Rattle.cam_names.specs.Dependencies.{pairs_of}
use Rattle.cam_know.specs.Knowledge.{Knowledge}
use Rattle.cam_know.specs.Known.{knows_abort, knows_commit}
use Rattle.cam_commit.specs.declared.Yes.{Yes}
use Rattle.cam_commit.specs.declared.Families.{Families as Tables}
use Rattle.cam_commit.specs.declared.Voted.{Voted}
use Rattle.cam_commit.specs.declared.Voted.TheVariants as voted
use Rattle.cam_commit.specs.declared.Asked.{Asked}
use Rattle.cam_commit.specs.declared.Asked.TheVariants as asked
use Rattle.cam_commit.specs.declared.Queried.{Queried}
use Rattle.cam_commit.specs.declared.Queried.TheVariants as queried
use Rattle.cam_commit.specs.Families.{Families}

-- whether two votes yes are the same: of one node at one count for one family
abbrev pub yes_eq : Yes → Yes → Bool
yes_eq a b = name_eq a.family b.family && (eqb a.node b.node && eqb a.count b.count)

abbrev pub yes : Name → ℕ → ℕ → Yes
yes f m c = record { family = f; node = m; count = c }

-- what the tables answer
abbrev pub answers : Tables → Families
answers t =
    record {
      is_preparing = contains name_eq t.preparing;
      has_vote = λ f m c. contains yes_eq t.votes (yes f m c);
      is_secured = contains name_eq t.secured;
      room = min (spare t.preparing) (min (spare t.votes) (spare t.secured));
    }

-- no family is preparing or secured
pub record AreNone (new : Families) : Type 0 where
  pub preparing : (f : Name) → new.is_preparing f ≡ false
  pub votes : (f : Name) (m c : ℕ) → new.has_vote f m c ≡ false
  pub secured : (f : Name) → new.is_secured f ≡ false

-- both answer the same
pub record AreSame (old new : Families) : Type 0 where
  pub preparing : (f : Name) → new.is_preparing f ≡ old.is_preparing f
  pub votes : (f : Name) (m c : ℕ) → new.has_vote f m c ≡ old.has_vote f m c
  pub secured : (f : Name) → new.is_secured f ≡ old.is_secured f

-- one more family is preparing
pub record IsPrepared (f : Name) (old new : Families) : Type 0 where
  pub preparing : (g : Name) → new.is_preparing g ≡ (name_eq f g || old.is_preparing g)
  pub votes : (g : Name) (m c : ℕ) → new.has_vote g m c ≡ old.has_vote g m c
  pub secured : (g : Name) → new.is_secured g ≡ old.is_secured g

-- one more family is secured
pub record IsSecured (f : Name) (old new : Families) : Type 0 where
  pub preparing : (g : Name) → new.is_preparing g ≡ old.is_preparing g
  pub votes : (g : Name) (m c : ℕ) → new.has_vote g m c ≡ old.has_vote g m c
  pub secured : (g : Name) → new.is_secured g ≡ (name_eq f g || old.is_secured g)

-- whether a node at a count has voted yes for the family of a vote, this vote yes with the others
abbrev pub has_with : Families → Yes → ℕ → ℕ → Bool
has_with old v m c = yes_eq v (yes v.family m c) || old.has_vote v.family m c

-- Each node on which the family depends has voted yes at its count, this vote yes with them.
abbrev pub is_last : Families → Yes → List ℕ → Bool
is_last old v counts = list_all (λ p. has_with old v p.0 p.1) (pairs_of counts)

-- A vote: the first no decides, and the last yes.
abbrev pub voted_by : Families → Yes → Bool → List ℕ → Voted
voted_by old v agrees counts =
    if not (old.is_preparing v.family) then voted.Late
    else if not agrees then voted.No
    else if is_last old v counts then voted.All
    else voted.Some

abbrev pub ends : Voted → Bool
ends voted.All = true
ends voted.No = true
ends _ = false

-- a vote yes is noted
pub record IsNoted (v : Yes) (old new : Families) : Type 0 where
  pub preparing : (g : Name) → new.is_preparing g ≡ old.is_preparing g
  pub votes : (g : Name) (m c : ℕ) → new.has_vote g m c ≡ (yes_eq v (yes g m c) || old.has_vote g m c)
  pub secured : (g : Name) → new.is_secured g ≡ old.is_secured g

-- a family is preparing no longer
pub record IsEnded (f : Name) (old new : Families) : Type 0 where
  pub preparing : (g : Name) → new.is_preparing g ≡ (if name_eq f g then false else old.is_preparing g)
  pub votes : (g : Name) (m c : ℕ) → new.has_vote g m c ≡ old.has_vote g m c
  pub secured : (g : Name) → new.is_secured g ≡ old.is_secured g

-- a family that a vote has decided is preparing no longer; a vote yes for one that is preparing is
-- noted
pub record IsVoted (v : Yes) (agrees : Bool) (result : Voted) (old new : Families) : Type 0 where
  pub preparing : (g : Name) → new.is_preparing g
      ≡ (if ends result && name_eq v.family g then false else old.is_preparing g)
  pub votes :
      (g : Name) (m c : ℕ) → new.has_vote g m c
      ≡ ((old.is_preparing v.family && (agrees && yes_eq v (yes g m c))) || old.has_vote g m c)
  pub secured : (g : Name) → new.is_secured g ≡ old.is_secured g

-- both by the tables themselves
abbrev pub voted_in : Tables → Yes → Bool → List ℕ → Voted
voted_in old v agrees counts = voted_by (answers old) v agrees counts

abbrev pub IsVotedIn : Yes → Bool → Voted → Tables → Tables → Type 0
IsVotedIn v agrees result old new = IsVoted v agrees result (answers old) (answers new)

abbrev pub is_decided : Knowledge → Name → Bool
is_decided k f = knows_commit k f || knows_abort k f

-- A site is asked to secure a family at a count, where it is at the count `present`.
abbrev pub asked_by : Bool → Bool → ℕ → ℕ → Asked
asked_by decided secured count present =
    if decided then asked.Late
    else if secured then asked.AlreadyYes
    else if not (eqb count present) then asked.Refuse
    else asked.Secure

-- A site asks after a family, where its home is at the count `present`.
abbrev pub queried_by : Bool → Name → ℕ → Queried
queried_by decided f present =
    if decided then queried.Tell
    else if nat_lt (home_count f) present then queried.Abort
    else queried.StillOpen

-- the same by what the node knows and has secured
abbrev pub asked_of : Knowledge → Families → Name → ℕ → ℕ → Asked
asked_of k families f count present = asked_by (is_decided k f)
    (families.is_secured f) count present

abbrev pub queried_of : Knowledge → Name → ℕ → Queried
queried_of k f present = queried_by (is_decided k f) f present
