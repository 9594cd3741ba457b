-- What a node holds only grows, and what it decides it holds.
use Rattle.std.proofs.Common.{inl, inr, ◌≡◌, ◌+◌, Bool, true, false, ◌||◌, List, [], ◌∷◌, Option, sym, ap, ap₂, ◌∙◌}
use Rattle.std.specs.List.{list_any}
use Rattle.std.proofs.lemmas.Bool.{cases_Bool, true≢false, or_left, or_right}
use Rattle.cam_names.specs.declared.name.Name.{Name}
use Rattle.cam_names.specs.Names.{name_eq}
use Rattle.cam_type.specs.declared.ObjectDecl.{ObjectDecl}
use Rattle.cam_know.specs.declared.Outcome.{Outcome}
use Rattle.cam_know.specs.declared.Outcome.TheVariants.{Aborted, Committed}
use Rattle.cam_know.specs.Knowledge.{Knowledge}
use Rattle.cam_know.specs.Known.{knows_abort, knows_commit, both, with_outcome, with_count, is_abort_of, is_commit_of}
use Rattle.cam_know.proofs.Union.{any_both}
use Rattle.cam_event.specs.declared.Deed.{Deed}
use Rattle.cam_event.specs.declared.Deed.TheVariants.{Create, Ask, Call, Perform, Bounce, Got, AskCommit, AskAbort, Commit, Abort, Secure, Inform, Crash}
use Rattle.cam_event.specs.History.{count, is_commit, is_abort}
use Rattle.cam_event.specs.Inputs.{Mail}
use Rattle.cam_event.specs.ByKnowledge.{commit_counts, learned_by, held}
use Rattle.cam_event.specs.Carried.{Carried, deeds_of}
use Rattle.cam_commit.specs.Families.{IsUndecided}

-- whether an outcome of this kind is held
abbrev has : (Outcome → Bool) → Knowledge → Bool
has p k = list_any p k.outcomes

with_is : (p : Outcome → Bool) (o : Outcome) (k : Knowledge) → has p (with_outcome o k) ≡ (has p k || (p o || false))
with_is p o k = any_both p k (record { outcomes = o ∷ []; counts = [] })

with_old : (p : Outcome → Bool) (o : Outcome) (k : Knowledge) → has p k ≡ true → has p (with_outcome o k) ≡ true
with_old p o k h = with_is p o k ∙ or_left (has p k) (p o || false) h

with_new : (p : Outcome → Bool) (o : Outcome) (k : Knowledge) → p o ≡ true → has p (with_outcome o k) ≡ true
with_new p o k h = with_is p o k ∙ or_right (has p k) (p o || false) (or_left (p o) false h)

-- deeds take nothing away
learned_keeps : (objects : List ObjectDecl) (before : List Carried) (mail : Option Mail) (p : Outcome → Bool) (ds : List Deed) (k : Knowledge)
    → has p k ≡ true → has p (learned_by objects before mail k ds) ≡ true
learned_keeps objects before mail p [] k h = h
learned_keeps objects before mail p (Commit a ∷ ds) k h =
    learned_keeps objects before mail p ds (with_outcome (Committed a (commit_counts objects before mail a)) k) (with_old p (Committed a (commit_counts objects before mail a)) k h)
learned_keeps objects before mail p (Abort a ∷ ds) k h = learned_keeps objects before mail p ds (with_outcome (Aborted a) k) (with_old p (Aborted a) k h)
learned_keeps objects before mail p (Crash s ∷ ds) k h = learned_keeps objects before mail p ds (with_count s (count (deeds_of before) s + 1) k) h
learned_keeps objects before mail p (Create a ∷ ds) k h = learned_keeps objects before mail p ds k h
learned_keeps objects before mail p (Ask a b ∷ ds) k h = learned_keeps objects before mail p ds k h
learned_keeps objects before mail p (Call a n x op c ∷ ds) k h = learned_keeps objects before mail p ds k h
learned_keeps objects before mail p (Perform a n answer ∷ ds) k h = learned_keeps objects before mail p ds k h
learned_keeps objects before mail p (Bounce a n u ∷ ds) k h = learned_keeps objects before mail p ds k h
learned_keeps objects before mail p (Got a n seen ∷ ds) k h = learned_keeps objects before mail p ds k h
learned_keeps objects before mail p (AskCommit a v ∷ ds) k h = learned_keeps objects before mail p ds k h
learned_keeps objects before mail p (AskAbort a ∷ ds) k h = learned_keeps objects before mail p ds k h
learned_keeps objects before mail p (Secure f site c ∷ ds) k h = learned_keeps objects before mail p ds k h
learned_keeps objects before mail p (Inform site a committed ∷ ds) k h = learned_keeps objects before mail p ds k h

-- An undecided action was undecided before.
pub was_undecided : (objects : List ObjectDecl) (before : List Carried) (c : Carried) (f : Name) → IsUndecided objects (c ∷ before) f → IsUndecided objects before f
was_undecided objects before c f undecided = (keeps (is_abort_of f) undecided.0, keeps (is_commit_of f) undecided.1)
  where
    keeps : (p : Outcome → Bool) → has p (held objects (c ∷ before)) ≡ false → has p (held objects before) ≡ false
    keeps p not_now =
        elim (cases_Bool (has p (held objects before))) [
          | inl was ↦
              let joined = any_both p (held objects before) c.brought ∙ or_left (has p (held objects before)) (has p c.brought) was in
              absurd (true≢false (sym (learned_keeps objects before c.mail p c.event.deeds (both (held objects before) c.brought) joined) ∙ not_now))
          | inr was ↦ was
        ]

-- What is undecided after an event its letter did not tell.
pub untold : (objects : List ObjectDecl) (before : List Carried) (c : Carried) (f : Name) → IsUndecided objects (c ∷ before) f
    → (knows_commit (both (held objects before) c.brought) f || knows_abort (both (held objects before) c.brought) f) ≡ false
untold objects before c f undecided = ap₂ (λ a b. a || b) (kept (is_commit_of f) undecided.1) (kept (is_abort_of f) undecided.0)
  where
    kept : (p : Outcome → Bool) → has p (held objects (c ∷ before)) ≡ false → has p (both (held objects before) c.brought) ≡ false
    kept p not_now =
        elim (cases_Bool (has p (both (held objects before) c.brought))) [
          | inl told ↦ absurd (true≢false (sym (learned_keeps objects before c.mail p c.event.deeds (both (held objects before) c.brought) told) ∙ not_now))
          | inr none ↦ none
        ]

-- a commit among the deeds is held after them, and an abort
commit_learned : (objects : List ObjectDecl) (before : List Carried) (mail : Option Mail) (f : Name) (ds : List Deed) (k : Knowledge)
    → list_any (is_commit f) ds ≡ true → has (is_commit_of f) (learned_by objects before mail k ds) ≡ true
commit_learned objects before mail f [] k h = cc
commit_learned objects before mail f (Commit a ∷ ds) k h =
    let o = Committed a (commit_counts objects before mail a) in
    elim (cases_Bool (name_eq f a)) [
      | inl here ↦ learned_keeps objects before mail (is_commit_of f) ds (with_outcome o k) (with_new (is_commit_of f) o k here)
      | inr other ↦ commit_learned objects before mail f ds (with_outcome o k) (sym (ap (λ b. b || list_any (is_commit f) ds) other) ∙ h)
    ]
commit_learned objects before mail f (Abort a ∷ ds) k h = commit_learned objects before mail f ds (with_outcome (Aborted a) k) h
commit_learned objects before mail f (Crash s ∷ ds) k h = commit_learned objects before mail f ds (with_count s (count (deeds_of before) s + 1) k) h
commit_learned objects before mail f (Create a ∷ ds) k h = commit_learned objects before mail f ds k h
commit_learned objects before mail f (Ask a b ∷ ds) k h = commit_learned objects before mail f ds k h
commit_learned objects before mail f (Call a n x op c ∷ ds) k h = commit_learned objects before mail f ds k h
commit_learned objects before mail f (Perform a n answer ∷ ds) k h = commit_learned objects before mail f ds k h
commit_learned objects before mail f (Bounce a n u ∷ ds) k h = commit_learned objects before mail f ds k h
commit_learned objects before mail f (Got a n seen ∷ ds) k h = commit_learned objects before mail f ds k h
commit_learned objects before mail f (AskCommit a v ∷ ds) k h = commit_learned objects before mail f ds k h
commit_learned objects before mail f (AskAbort a ∷ ds) k h = commit_learned objects before mail f ds k h
commit_learned objects before mail f (Secure g site c ∷ ds) k h = commit_learned objects before mail f ds k h
commit_learned objects before mail f (Inform site a committed ∷ ds) k h = commit_learned objects before mail f ds k h

abort_learned : (objects : List ObjectDecl) (before : List Carried) (mail : Option Mail) (f : Name) (ds : List Deed) (k : Knowledge)
    → list_any (is_abort f) ds ≡ true → has (is_abort_of f) (learned_by objects before mail k ds) ≡ true
abort_learned objects before mail f [] k h = cc
abort_learned objects before mail f (Abort a ∷ ds) k h =
    elim (cases_Bool (name_eq f a)) [
      | inl here ↦ learned_keeps objects before mail (is_abort_of f) ds (with_outcome (Aborted a) k) (with_new (is_abort_of f) (Aborted a) k here)
      | inr other ↦ abort_learned objects before mail f ds (with_outcome (Aborted a) k) (sym (ap (λ b. b || list_any (is_abort f) ds) other) ∙ h)
    ]
abort_learned objects before mail f (Commit a ∷ ds) k h =
    abort_learned objects before mail f ds (with_outcome (Committed a (commit_counts objects before mail a)) k) h
abort_learned objects before mail f (Crash s ∷ ds) k h = abort_learned objects before mail f ds (with_count s (count (deeds_of before) s + 1) k) h
abort_learned objects before mail f (Create a ∷ ds) k h = abort_learned objects before mail f ds k h
abort_learned objects before mail f (Ask a b ∷ ds) k h = abort_learned objects before mail f ds k h
abort_learned objects before mail f (Call a n x op c ∷ ds) k h = abort_learned objects before mail f ds k h
abort_learned objects before mail f (Perform a n answer ∷ ds) k h = abort_learned objects before mail f ds k h
abort_learned objects before mail f (Bounce a n u ∷ ds) k h = abort_learned objects before mail f ds k h
abort_learned objects before mail f (Got a n seen ∷ ds) k h = abort_learned objects before mail f ds k h
abort_learned objects before mail f (AskCommit a v ∷ ds) k h = abort_learned objects before mail f ds k h
abort_learned objects before mail f (AskAbort a ∷ ds) k h = abort_learned objects before mail f ds k h
abort_learned objects before mail f (Secure g site c ∷ ds) k h = abort_learned objects before mail f ds k h
abort_learned objects before mail f (Inform site a committed ∷ ds) k h = abort_learned objects before mail f ds k h

-- What an event decides is undecided no longer.
pub is_now_decided : (objects : List ObjectDecl) (before : List Carried) (c : Carried) (f : Name)
    → (list_any (is_commit f) c.event.deeds || list_any (is_abort f) c.event.deeds) ≡ true → IsUndecided objects (c ∷ before) f → ⊥
is_now_decided objects before c f decided undecided =
    elim (cases_Bool (list_any (is_commit f) c.event.deeds)) [
      | inl commits ↦ true≢false (sym (commit_learned objects before c.mail f c.event.deeds (both (held objects before) c.brought) commits) ∙ undecided.1)
      | inr other ↦
          let aborts = sym (ap (λ b. b || list_any (is_abort f) c.event.deeds) other) ∙ decided in
          true≢false (sym (abort_learned objects before c.mail f c.event.deeds (both (held objects before) c.brought) aborts) ∙ undecided.0)
    ]
