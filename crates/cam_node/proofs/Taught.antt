-- What is known before deeds is knowledge where it is after them, and what was taken of an event teaches the same.
use Rattle.std.proofs.Common.{◌≡◌, ℕ, eqb, ◌+◌, Bool, true, false, List, [], ◌∷◌, ◌++◌, Option, refl}
use Rattle.std.specs.Prelude.{filter}
use Rattle.std.specs.List.{list_any, list_all}
use Rattle.std.proofs.lemmas.Bool.{or_parts, or_from}
use Rattle.cam_node.proofs.Bools.{second_of}
use Rattle.cam_type.specs.declared.ObjectDecl.{ObjectDecl}
use Rattle.cam_know.specs.declared.Outcome.{Outcome}
use Rattle.cam_know.specs.declared.Outcome.TheVariants.{Aborted, Committed}
use Rattle.cam_know.specs.Knowledge.{Knowledge}
use Rattle.cam_know.specs.Known.{outcome_eq, unknown, with_outcome, with_count}
use Rattle.cam_know.specs.Invariant.{NoTwice}
use Rattle.cam_event.specs.declared.Deed.{Deed}
use Rattle.cam_event.specs.declared.Deed.TheVariants.{Create, Ask, Call, Perform, Bounce, Got, AskCommit, AskAbort, Commit, Abort, Secure, Inform, Crash}
use Rattle.cam_event.specs.History.{count}
use Rattle.cam_event.specs.Inputs.{Mail}
use Rattle.cam_event.specs.Taken.{is_entered}
use Rattle.cam_event.specs.ByKnowledge.{commit_counts, learned_by}
use Rattle.cam_event.specs.Carried.{Carried, deeds_of}
use Rattle.cam_node.specs.Entries.{is_own}
use Rattle.cam_node.specs.Opened.{IsKnowledge}

-- what stands before knowledge is knowledge
any_before : (p : Outcome → Bool) (xs ys : List Outcome) → list_any p (xs ++ ys) ≡ false → list_any
    p xs ≡ false
any_before p [] ys none = refl
any_before p (x ∷ xs) ys none =
    let parts = or_parts (p x) (list_any p (xs ++ ys)) none in or_from (p x) (list_any p xs)
    parts.0 (any_before p xs ys parts.1)

distinct_before : (xs ys : List Outcome) → NoTwice (xs ++ ys) → NoTwice xs
distinct_before [] ys distinct = tt
distinct_before (x ∷ xs) ys distinct = (
  any_before (outcome_eq x) xs ys distinct.0,
  distinct_before
      xs ys distinct.1,
)

one_less : (o : Outcome) (k : Knowledge) → IsKnowledge (with_outcome o k) → IsKnowledge k
one_less o k whole = record {
  distinct = distinct_before k.outcomes (unknown k (o ∷ []))
      whole.distinct;
  counts = whole.counts;
}

pub knowledge_before : (objects : List ObjectDecl) (s : ℕ) (h : List Carried) (mail : Option Mail)
    (ds : List Deed) (k : Knowledge) → list_all (is_own s) ds ≡ true
    → IsKnowledge (learned_by objects h mail k ds) → IsKnowledge k
knowledge_before objects s h mail [] k own whole = whole
knowledge_before objects s h mail (Create a ∷ ds) k own whole = knowledge_before objects s h mail
    ds k own whole
knowledge_before objects s h mail (Ask a b ∷ ds) k own whole = knowledge_before objects s h mail ds
    k own whole
knowledge_before objects s h mail (Call a n x op c ∷ ds) k own whole = knowledge_before objects s h
    mail ds k own whole
knowledge_before objects s h mail (Perform a n answer ∷ ds) k own whole = knowledge_before objects
    s h mail ds k own whole
knowledge_before objects s h mail (Bounce a n u ∷ ds) k own whole = knowledge_before objects s h
    mail ds k own whole
knowledge_before objects s h mail (Got a n seen ∷ ds) k own whole = knowledge_before objects s h
    mail ds k own whole
knowledge_before objects s h mail (AskCommit a v ∷ ds) k own whole = knowledge_before objects s h
    mail ds k own whole
knowledge_before objects s h mail (AskAbort a ∷ ds) k own whole = knowledge_before objects s h mail
    ds k own whole
knowledge_before objects s h mail (Commit a ∷ ds) k own whole =
    let o : Outcome = Committed a (commit_counts objects h mail a) in one_less o k
    (knowledge_before objects s h mail ds (with_outcome o k) own whole)
knowledge_before objects s h mail (Abort a ∷ ds) k own whole =
    let o : Outcome = Aborted a in one_less o k (knowledge_before objects s h mail ds (with_outcome
    o k) own whole)
knowledge_before objects s h mail (Secure f m c ∷ ds) k own whole =
    knowledge_before objects s h mail ds k (second_of (eqb m s) (list_all (is_own s) ds) own) whole
knowledge_before objects s h mail (Inform m u b ∷ ds) k own whole = knowledge_before objects s h
    mail ds k own whole
knowledge_before objects s h mail (Crash m ∷ ds) k own whole = absurd (cc)

-- what was taken of an event teaches the same
pub taken_learns : (objects : List ObjectDecl) (h : List Carried) (mail : Option Mail) (ds : List Deed)
    (k : Knowledge)
    → learned_by objects h mail k (filter is_entered ds) ≡ learned_by objects h mail k ds
taken_learns objects h mail [] k = refl
taken_learns objects h mail (Create a ∷ ds) k = taken_learns objects h mail ds k
taken_learns objects h mail (Ask a b ∷ ds) k = taken_learns objects h mail ds k
taken_learns objects h mail (Call a n x op c ∷ ds) k = taken_learns objects h mail ds k
taken_learns objects h mail (Perform a n answer ∷ ds) k = taken_learns objects h mail ds k
taken_learns objects h mail (Bounce a n u ∷ ds) k = taken_learns objects h mail ds k
taken_learns objects h mail (Got a n seen ∷ ds) k = taken_learns objects h mail ds k
taken_learns objects h mail (AskCommit a v ∷ ds) k = taken_learns objects h mail ds k
taken_learns objects h mail (AskAbort a ∷ ds) k = taken_learns objects h mail ds k
taken_learns objects h mail (Commit a ∷ ds) k = taken_learns objects h mail ds (with_outcome
    (Committed a (commit_counts objects h mail a)) k)
taken_learns objects h mail (Abort a ∷ ds) k = taken_learns objects h mail ds (with_outcome
    (Aborted a) k)
taken_learns objects h mail (Secure f m c ∷ ds) k = taken_learns objects h mail ds k
taken_learns objects h mail (Inform m u b ∷ ds) k = taken_learns objects h mail ds k
taken_learns objects h mail (Crash m ∷ ds) k = taken_learns objects h mail ds (with_count m (count
    (deeds_of h) m + 1) k)
