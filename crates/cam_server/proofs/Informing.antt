-- The site is informed of one outcome more.
use Rattle.std.proofs.Common.{◌≡◌, ℕ, Bool, true, false, not, ◌&&◌, ◌||◌, if◌then◌else◌, List, [], ◌∷◌, ◌++◌, ◌+◌, ◌≤◌, ◌<◌, filter, length, take, get_or, sym, ap, ap₂, subst, ◌∙◌, refl}
use Rattle.std.proofs.lemmas.List.{take_all, take_more}
use Rattle.std.specs.List.{list_any}
use Rattle.cam_names.specs.declared.name.Name.{Name}
use Rattle.cam_names.specs.Names.{name_eq, is_ancestor, ancestors}
use Rattle.cam_names.proofs.Names.{name_eq_same, name_eq_sym, ancestors_any}
use Rattle.cam_names.proofs.Any.{any_last}
use Rattle.cam_event.proofs.Snoc.{filter_filter, filter_same}
use Rattle.cam_event.proofs.LiveLaws.{list_any_or}
use Rattle.cam_know.specs.declared.Outcome.{Outcome}
use Rattle.cam_know.specs.declared.Outcome.TheVariants.{Aborted, Committed}
use Rattle.cam_know.specs.Known.{is_abort_of, is_commit_of}
use Rattle.cam_locks.specs.declared.LiveOp.{LiveOp}
use Rattle.cam_locks.specs.Names.{has_name, with_name}
use Rattle.cam_locks.specs.Calls.{with_commit, with_abort}
use Rattle.cam_server.specs.Server.{Server}
use Rattle.cam_server.specs.Calls.{AreInformed, aborts_in, commits_in, informed_of}

or_nothing : (b : Bool) → b ≡ (b || false)
or_nothing true = refl
or_nothing false = refl

keeps_all : {X : Type 0} (xs : List X) → xs ≡ filter (λ x. true) xs
keeps_all [] = refl
keeps_all (x ∷ xs) = ap (λ ys. x ∷ ys) (keeps_all xs)

pub any_each : (p q : Name → Bool) (us : List Name) → ((u : Name) → p u ≡ q u) → list_any p us ≡ list_any q us
any_each p q [] h = refl
any_each p q (u ∷ us) h = ap₂ (λ a b. a || b) (h u) (any_each p q us h)

any_false : (us : List Name) → list_any (λ u. false) us ≡ false
any_false [] = refl
any_false (u ∷ us) = any_false us

any_name : (names : List Name) (u a : Name) → name_eq u a ≡ true → has_name names a ≡ has_name names u
any_name names u a is = ap (has_name names) (sym (name_eq_same u a is))

-- one more name
has_with : (names : List Name) (a u : Name) → has_name (with_name names a) u ≡ (has_name names u || name_eq u a)
has_with names a u = by (has_name names a) refl
  where
    there : (h e : Bool) → (e ≡ true → h ≡ true) → h ≡ (h || e)
    there true e t = refl
    there false true t = t refl
    there false false t = refl

    by : (h : Bool) → has_name names a ≡ h → has_name (if h then names else names ++ a ∷ []) u ≡ (has_name names u || name_eq u a)
    by true is = there (has_name names u) (name_eq u a) (λ e. sym (any_name names u a e) ∙ is)
    by false is = any_last (name_eq u) names a

abbrev dropped : (Name → Bool) → LiveOp → Bool
dropped down o = list_any down (ancestors o.action)

not_or : (a b : Bool) → not (a || b) ≡ (not a && not b)
not_or true b = refl
not_or false b = refl

live_aborted : (down more : Name → Bool) (a : Name) (os : List LiveOp) → ((u : Name) → more u ≡ (down u || name_eq u a))
    → filter (λ o. not (is_ancestor a o.action)) (filter (λ o. not (dropped down o)) os) ≡ filter (λ o. not (dropped more o)) os
live_aborted down more a os h =
    filter_filter (λ o. not (is_ancestor a o.action)) (λ o. not (dropped down o)) os
    ∙ filter_same (λ o. not (dropped down o) && not (is_ancestor a o.action)) (λ o. not (dropped more o)) os (λ o. sym (one o))
  where
    one : (o : LiveOp) → not (dropped more o) ≡ (not (dropped down o) && not (is_ancestor a o.action))
    one o =
        ap not
        (any_each more (λ u. down u || name_eq u a) (ancestors o.action) h
        ∙ list_any_or down (λ u. name_eq u a) (ancestors o.action)
        ∙ ap (λ b. dropped down o || b) (any_each (λ u. name_eq u a) (name_eq a) (ancestors o.action) (λ u. name_eq_sym u a) ∙ ancestors_any a o.action))
        ∙ not_or (dropped down o) (is_ancestor a o.action)

pub of_none : (server : Server) → AreInformed (aborts_in []) (commits_in []) server server
of_none server =
    record {
      count = refl;
      objects = refl;
      node = refl;
      live = keeps_all server.table.site.live ∙ filter_same (λ o. true) (λ o. not (dropped (aborts_in []) o)) server.table.site.live (λ o. sym (ap not (any_false (ancestors o.action))));
      commits_are = λ u. or_nothing (has_name server.table.site.committed u);
      aborts_are = λ u. or_nothing (has_name server.table.site.aborted u);
      next = refl;
      replies = λ a n. refl;
    }

or_assoc : (x y e : Bool) → ((x || y) || e) ≡ (x || (y || e))
or_assoc true y e = refl
or_assoc false y e = refl

more_names : (x y e b z : Bool) → z ≡ (x || y) → b ≡ (y || e) → (z || e) ≡ (x || b)
more_names x y e b z zis bis = ap (λ t. t || e) zis ∙ or_assoc x y e ∙ ap (λ t. x || t) (sym bis)

pub of_abort : (os : List Outcome) (a : Name) (old mid new : Server) → AreInformed (aborts_in os) (commits_in os) old mid
    → new.count ≡ mid.count → new.table.site ≡ with_abort mid.table.site a → ((b : Name) (n : ℕ) → new.kept_reply b n ≡ mid.kept_reply b n)
    → AreInformed (aborts_in (os ++ Aborted a ∷ [])) (commits_in (os ++ Aborted a ∷ [])) old new
of_abort os a old mid new are count site replies =
    record {
      count = count ∙ are.count;
      objects = ap (λ s. s.objects) site ∙ are.objects;
      node = ap (λ s. s.node) site ∙ are.node;
      live = ap (λ s. s.live) site ∙ ap (λ ls. filter (λ o. not (is_ancestor a o.action)) ls) are.live
          ∙ live_aborted (aborts_in os) (aborts_in (os ++ Aborted a ∷ [])) a old.table.site.live (λ u. any_last (is_abort_of u) os (Aborted a));
      commits_are = λ u. ap (λ s. has_name s.committed u) site ∙ are.commits_are u
          ∙ ap (λ b. has_name old.table.site.committed u || b) (or_nothing (commits_in os u) ∙ sym (any_last (is_commit_of u) os (Aborted a)));
      aborts_are = λ u. ap (λ s. has_name s.aborted u) site ∙ has_with mid.table.site.aborted a u
          ∙ more_names (has_name old.table.site.aborted u) (aborts_in os u) (name_eq u a) (aborts_in (os ++ Aborted a ∷ []) u) (has_name mid.table.site.aborted u)
          (are.aborts_are u) (any_last (is_abort_of u) os (Aborted a));
      next = ap (λ s. s.next) site ∙ are.next;
      replies = λ b n. replies b n ∙ are.replies b n;
    }

pub of_commit : (os : List Outcome) (a : Name) (counts : List ℕ) (old mid new : Server) → AreInformed (aborts_in os) (commits_in os) old mid
    → new.count ≡ mid.count → new.table.site ≡ with_commit mid.table.site a → ((b : Name) (n : ℕ) → new.kept_reply b n ≡ mid.kept_reply b n)
    → AreInformed (aborts_in (os ++ Committed a counts ∷ [])) (commits_in (os ++ Committed a counts ∷ [])) old new
of_commit os a counts old mid new are count site replies =
    record {
      count = count ∙ are.count;
      objects = ap (λ s. s.objects) site ∙ are.objects;
      node = ap (λ s. s.node) site ∙ are.node;
      live = ap (λ s. s.live) site ∙ are.live
          ∙ filter_same (λ o. not (dropped (aborts_in os) o)) (λ o. not (dropped (aborts_in (os ++ Committed a counts ∷ [])) o)) old.table.site.live
          (λ o. ap not (any_each (aborts_in os) (aborts_in (os ++ Committed a counts ∷ [])) (ancestors o.action)
          (λ u. or_nothing (aborts_in os u) ∙ sym (any_last (is_abort_of u) os (Committed a counts)))));
      commits_are = λ u. ap (λ s. has_name s.committed u) site ∙ has_with mid.table.site.committed a u
          ∙ more_names (has_name old.table.site.committed u) (commits_in os u) (name_eq u a) (commits_in (os ++ Committed a counts ∷ []) u) (has_name mid.table.site.committed u)
          (are.commits_are u) (any_last (is_commit_of u) os (Committed a counts));
      aborts_are = λ u. ap (λ s. has_name s.aborted u) site ∙ are.aborts_are u
          ∙ ap (λ b. has_name old.table.site.aborted u || b) (or_nothing (aborts_in os u) ∙ sym (any_last (is_abort_of u) os (Committed a counts)));
      next = ap (λ s. s.next) site ∙ are.next;
      replies = λ b n. replies b n ∙ are.replies b n;
    }

of_outcome : (os : List Outcome) (o : Outcome) (old mid new : Server) → AreInformed (aborts_in os) (commits_in os) old mid
    → new.count ≡ mid.count → new.table.site ≡ informed_of o mid.table.site → ((b : Name) (n : ℕ) → new.kept_reply b n ≡ mid.kept_reply b n)
    → AreInformed (aborts_in (os ++ o ∷ [])) (commits_in (os ++ o ∷ [])) old new
of_outcome os (Aborted a) = of_abort os a
of_outcome os (Committed a counts) = of_commit os a counts

-- the outcomes up to a place, and the one there
pub of_next : (os : List Outcome) (i : ℕ) (o : Outcome) (old mid new : Server) → i < length os → o ≡ get_or os i o
    → AreInformed (aborts_in (take i os)) (commits_in (take i os)) old mid
    → new.count ≡ mid.count → new.table.site ≡ informed_of o mid.table.site → ((b : Name) (n : ℕ) → new.kept_reply b n ≡ mid.kept_reply b n)
    → AreInformed (aborts_in (take (i + 1) os)) (commits_in (take (i + 1) os)) old new
of_next os i o old mid new below is are count site replies =
    subst (λ (ps : List Outcome). AreInformed (aborts_in ps) (commits_in ps) old new)
    (ap (λ x. take i os ++ x ∷ []) is ∙ sym (take_more os i o below))
    (of_outcome (take i os) o old mid new are count site replies)

pub of_all : (os : List Outcome) (i : ℕ) (old new : Server) → length os ≤ i
    → AreInformed (aborts_in (take i os)) (commits_in (take i os)) old new → AreInformed (aborts_in os) (commits_in os) old new
of_all os i old new past = subst (λ (ps : List Outcome). AreInformed (aborts_in ps) (commits_in ps) old new) (take_all i os past)
