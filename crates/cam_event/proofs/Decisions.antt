-- Tests of decisions: what is learned by an event's deeds tests as the deeds do.
use Rattle.std.proofs.Common.{◌≡◌, ℕ, ◌+◌, Bool, true, false, ◌||◌, List, [], ◌∷◌, Option, refl, ap, ◌∙◌}
use Rattle.std.specs.List.{list_any}
use Rattle.cam_names.specs.declared.name.Name.{Name}
use Rattle.cam_type.specs.declared.ObjectDecl.{ObjectDecl}
use Rattle.cam_know.specs.declared.Outcome.{Outcome}
use Rattle.cam_know.specs.declared.Outcome.TheVariants.{Aborted, Committed}
use Rattle.cam_know.specs.Knowledge.{Knowledge}
use Rattle.cam_know.specs.Known.{with_outcome, with_count, is_abort_of, is_commit_of}
use Rattle.cam_know.proofs.Union.{any_both}
use Rattle.cam_event.specs.declared.Deed.{Deed}
use Rattle.cam_event.specs.declared.Deed.TheVariants.{Create, Ask, Call, Perform, Bounce, Got, AskCommit, AskAbort, Commit, Abort, Secure, Inform, Crash}
use Rattle.cam_event.specs.History.{count, is_abort, is_commit}
use Rattle.cam_event.specs.Inputs.{Mail}
use Rattle.cam_event.specs.ByKnowledge.{commit_counts, learned_by}
use Rattle.cam_event.specs.Carried.{Carried, deeds_of}

-- a test of deeds tells of decisions alone what a test of outcomes tells of what is learned by them
abbrev is_decision : Deed → Bool
is_decision (Commit a) = true
is_decision (Abort a) = true
is_decision _ = false

pub record Tells (p : Deed → Bool) (q : Outcome → Bool) : Type 0 where
  pub aborts : (b : Name) → q (Aborted b) ≡ p (Abort b)
  pub commits : (b : Name) (counts : List ℕ) → q (Committed b counts) ≡ p (Commit b)
  pub others : (d : Deed) → is_decision d ≡ false → p d ≡ false

pub or_false : (b : Bool) → (b || false) ≡ b
or_false true = refl
or_false false = refl

-- one more outcome adds its own test
any_with : (q : Outcome → Bool) (o : Outcome) (k : Knowledge) → list_any q (with_outcome o k).outcomes ≡ (list_any q k.outcomes || q o)
any_with q o k = any_both q k (record { outcomes = o ∷ []; counts = k.counts }) ∙ ap (λ b. list_any q k.outcomes || b) (or_false (q o))

skipped : (k d r : Bool) → d ≡ false → (k || r) ≡ (k || (d || r))
skipped k true r h = cc
skipped k false r h = refl

added : (k o d r : Bool) → o ≡ d → ((k || o) || r) ≡ (k || (d || r))
added true o d r h = refl
added false true true r h = refl
added false true false r h = cc
added false false true r h = cc
added false false false r h = refl

-- what is known after the deeds of an event
pub learned : (p : Deed → Bool) (q : Outcome → Bool) → Tells p q → (objects : List ObjectDecl) (before : List Carried) (mail : Option Mail) (k : Knowledge) (ds : List Deed)
    → list_any q (learned_by objects before mail k ds).outcomes ≡ (list_any q k.outcomes || list_any p ds)
learned p q tells objects before mail k [] = nothing-more (list_any q k.outcomes)
  where
    nothing-more : (b : Bool) → b ≡ (b || false)
    nothing-more true = refl
    nothing-more false = refl
learned p q tells objects before mail k (Commit a ∷ ds) =
    let o = Committed a (commit_counts objects before mail a) in
    learned p q tells objects before mail (with_outcome o k) ds ∙ ap (λ b. b || list_any p ds) (any_with q o k)
    ∙ added (list_any q k.outcomes) (q o) (p (Commit a)) (list_any p ds) (tells.commits a (commit_counts objects before mail a))
learned p q tells objects before mail k (Abort a ∷ ds) =
    learned p q tells objects before mail (with_outcome (Aborted a) k) ds ∙ ap (λ b. b || list_any p ds) (any_with q (Aborted a) k)
    ∙ added (list_any q k.outcomes) (q (Aborted a)) (p (Abort a)) (list_any p ds) (tells.aborts a)
learned p q tells objects before mail k (Crash s ∷ ds) =
    learned p q tells objects before mail (with_count s (count (deeds_of before) s + 1) k) ds
    ∙ skipped (list_any q k.outcomes) (p (Crash s)) (list_any p ds) (tells.others (Crash s) refl)
learned p q tells objects before mail k (Create a ∷ ds) = learned p q tells objects before mail k ds ∙ skipped (list_any q k.outcomes) (p (Create a)) (list_any p ds) (tells.others (Create a) refl)
learned p q tells objects before mail k (Ask a b ∷ ds) = learned p q tells objects before mail k ds ∙ skipped (list_any q k.outcomes) (p (Ask a b)) (list_any p ds) (tells.others (Ask a b) refl)
learned p q tells objects before mail k (Call a n x op c ∷ ds) = learned p q tells objects before mail k ds ∙ skipped (list_any q k.outcomes) (p (Call a n x op c)) (list_any p ds) (tells.others (Call a n x op c) refl)
learned p q tells objects before mail k (Perform a n answer ∷ ds) = learned p q tells objects before mail k ds ∙ skipped (list_any q k.outcomes) (p (Perform a n answer)) (list_any p ds) (tells.others (Perform a n answer) refl)
learned p q tells objects before mail k (Bounce a n u ∷ ds) = learned p q tells objects before mail k ds ∙ skipped (list_any q k.outcomes) (p (Bounce a n u)) (list_any p ds) (tells.others (Bounce a n u) refl)
learned p q tells objects before mail k (Got a n seen ∷ ds) = learned p q tells objects before mail k ds ∙ skipped (list_any q k.outcomes) (p (Got a n seen)) (list_any p ds) (tells.others (Got a n seen) refl)
learned p q tells objects before mail k (AskCommit a v ∷ ds) = learned p q tells objects before mail k ds ∙ skipped (list_any q k.outcomes) (p (AskCommit a v)) (list_any p ds) (tells.others (AskCommit a v) refl)
learned p q tells objects before mail k (AskAbort a ∷ ds) = learned p q tells objects before mail k ds ∙ skipped (list_any q k.outcomes) (p (AskAbort a)) (list_any p ds) (tells.others (AskAbort a) refl)
learned p q tells objects before mail k (Secure f s c ∷ ds) = learned p q tells objects before mail k ds ∙ skipped (list_any q k.outcomes) (p (Secure f s c)) (list_any p ds) (tells.others (Secure f s c) refl)
learned p q tells objects before mail k (Inform s a outcome ∷ ds) = learned p q tells objects before mail k ds ∙ skipped (list_any q k.outcomes) (p (Inform s a outcome)) (list_any p ds) (tells.others (Inform s a outcome) refl)

pub tells_aborts : (a : Name) → Tells (is_abort a) (is_abort_of a)
tells_aborts a = record { aborts = λ b. refl; commits = λ b counts. refl; others = other }
  where
    other : (d : Deed) → is_decision d ≡ false → is_abort a d ≡ false
    other (Abort b) h = cc
    other (Commit b) h = refl
    other (Create b) h = refl
    other (Ask b c) h = refl
    other (Call b n x op c) h = refl
    other (Perform b n answer) h = refl
    other (Bounce b n u) h = refl
    other (Got b n seen) h = refl
    other (AskCommit b v) h = refl
    other (AskAbort b) h = refl
    other (Secure f s c) h = refl
    other (Inform s b outcome) h = refl
    other (Crash s) h = refl

pub tells_commits : (a : Name) → Tells (is_commit a) (is_commit_of a)
tells_commits a = record { aborts = λ b. refl; commits = λ b counts. refl; others = other }
  where
    other : (d : Deed) → is_decision d ≡ false → is_commit a d ≡ false
    other (Abort b) h = refl
    other (Commit b) h = cc
    other (Create b) h = refl
    other (Ask b c) h = refl
    other (Call b n x op c) h = refl
    other (Perform b n answer) h = refl
    other (Bounce b n u) h = refl
    other (Got b n seen) h = refl
    other (AskCommit b v) h = refl
    other (AskAbort b) h = refl
    other (Secure f s c) h = refl
    other (Inform s b outcome) h = refl
    other (Crash s) h = refl
