-- One more deed leaves an action that works at a body with at most one call or child open.
use Rattle.std.proofs.Common.{ℤ, ◌≡◌, ◌⊎◌, inl, inr, Bool, true, false, ◌||◌, if◌then◌else◌, List, [], ◌∷◌, ◌++◌, Option, Some, None, is_some, refl, sym, ap, ◌∙◌, subst}
use Rattle.std.specs.List.{list_any}
use Rattle.std.proofs.lemmas.Bool.{true≢false}
use Rattle.cam_names.specs.declared.name.Name.{Name}
use Rattle.cam_names.specs.Names.{name_eq, is_ancestor, is_child, parent}
use Rattle.cam_names.proofs.Names.{name_eq_same}
use Rattle.cam_type.specs.declared.ObjectDecl.{ObjectDecl}
use Rattle.cam_event.specs.declared.Seen.{Seen}
use Rattle.cam_event.specs.declared.Seen.TheVariants as seens
use Rattle.cam_event.specs.declared.ViewStep.TheVariants as steps
use Rattle.cam_event.specs.declared.Deed.{Deed}
use Rattle.cam_event.specs.declared.Deed.TheVariants.{Create, Ask, Call, Perform, Bounce, Got, AskCommit, AskAbort, Commit, Abort, Secure, Inform, Crash}
use Rattle.cam_event.specs.History.{asked, asked_commit, open_call, open_children, has_open_child, is_ask_of, commit_value}
use Rattle.cam_event.specs.Views.{view, committed_child}
use Rattle.cam_plain.specs.Legal.{Legal}
use Rattle.cam_plain.proofs.Decided.{created_child}
use Rattle.cam_cut.proofs.HomeFacts.{child_parent}
use Rattle.cam_cut.proofs.LegalFacts.{asked_commit_created}
use Rattle.cam_body.specs.Work.{Worked, Failed, seen_result, tries_after}
use Rattle.cam_runs.proofs.Tries.{opened, closed, tries_append}
use Rattle.cam_runs.proofs.Opening.{called, closed_idle, closes, same_open, elsewhere, undecided_open}
use Rattle.cam_plain.specs.Lines.{MayAbort}
use Rattle.cam_runs.specs.UnderWay.{Idle, OneOpen, is_open_try, last_open, tries}

-- what asked to commit did so with a value
asked_value : (L : List Deed) (a : Name) → asked_commit L a ≡ true → commit_value L a ≡ None → ⊥
asked_value [] a h none = cc
asked_value (AskCommit b v ∷ L) a h none = test (name_eq a b) h none (asked_value L a)
  where
    test : (t : Bool) → (t || asked_commit L a) ≡ true → (if t then Some v else commit_value L a) ≡ None → (asked_commit L a ≡ true → commit_value L a ≡ None → ⊥) → ⊥
    test true y n rest = true≢false (ap is_some n)
    test false y n rest = rest y n
asked_value (_ ∷ L) a h none = asked_value L a h none

-- One more deed keeps it, where the action asks for a child only with nothing open.
pub one_open_more : (objects : List ObjectDecl) (L : List Deed) (d : Deed) (a : Name) → Legal objects (d ∷ L) → is_ancestor a a ≡ true → (is_ask_of a d ≡ false) ⊎ Idle L a → OneOpen L a → OneOpen (d ∷ L) a
one_open_more objects L (Create b) a legal named idle h =
    same_open L (Create b) a refl refl (elim (name_eq a b) as (λ (t : Bool). last_open false (tries_after [] (view L a ++ (if t then steps.Created ∷ [] else []))) ≡ last_open false (tries L a)) [
      | true ↦ ap (last_open false) (tries_append [] (view L a) (steps.Created ∷ []))
      | false ↦ ap (last_open false) (tries_append [] (view L a) [])
    ]) h
one_open_more objects L (Ask p b) a legal named idle h = by (name_eq a p) refl idle
  where
    by : (t : Bool) → name_eq a p ≡ t → (t ≡ false) ⊎ Idle L a → OneOpen (Ask p b ∷ L) a
    by true e (inl none) = absurd (true≢false none)
    by true e (inr k) = inr (inr (record {
      child = b;
      is_its = subst (λ (x : Name). is_child x b ≡ true) (sym (name_eq_same a p e)) legal.0.child;
      no_call = k.no_call;
      one = ap (λ (t : Bool). if t then b ∷ open_children L a else open_children L a) e ∙ ap (λ xs. b ∷ xs) k.no_child;
      waits = ap (λ (t : Bool). last_open false (tries_after [] (view L a ++ (if t then steps.Asked b ∷ [] else [])))) e ∙ ap (last_open false) (tries_append [] (view L a) (steps.Asked b ∷ [])) ∙ opened false (tries L a);
    }))
    by false e none =
        same_open L (Ask p b) a refl (ap (λ (t : Bool). if t then b ∷ open_children L a else open_children L a) e)
        (ap (λ (t : Bool). last_open false (tries_after [] (view L a ++ (if t then steps.Asked b ∷ [] else [])))) e ∙ ap (last_open false) (tries_append [] (view L a) [])) h
one_open_more objects L (Call b n x op c) a legal named idle h = by (name_eq a b) refl
  where
    by : (t : Bool) → name_eq a b ≡ t → OneOpen (Call b n x op c ∷ L) a
    by true e = inr (inl (record {
      no_child = closed_idle L a (subst (λ (y : Name). open_call L y ≡ None) (sym (name_eq_same a b e)) legal.0.no_call) (subst (λ (y : Name). has_open_child L y ≡ false) (sym (name_eq_same a b e)) legal.0.no_child) h;
      waits = ap (λ (t : Bool). last_open false (tries_after [] (view L a ++ (if t then steps.Called n x op ∷ [] else [])))) e ∙ ap (last_open false) (tries_append [] (view L a) (steps.Called n x op ∷ [])) ∙ opened false (tries L a);
    }))
    by false e =
        same_open L (Call b n x op c) a (ap (λ (t : Bool). if t then Some n else open_call L a) e) refl
        (ap (λ (t : Bool). last_open false (tries_after [] (view L a ++ (if t then steps.Called n x op ∷ [] else [])))) e ∙ ap (last_open false) (tries_append [] (view L a) [])) h
one_open_more objects L (Got b n seen) a legal named idle h = by (name_eq a b) refl
  where
    shut : (s : Seen) → is_open_try (seen_result s) ≡ false
    shut (seens.Done answer) = refl
    shut (seens.Busy u) = refl
    shut seens.Gone = refl

    by : (t : Bool) → name_eq a b ≡ t → OneOpen (Got b n seen ∷ L) a
    by true e = inl (record {
      no_call = ap (λ (t : Bool). if t then None else open_call L a) e;
      no_child = (called L a n (subst (λ (y : Name). open_call L y ≡ Some n) (sym (name_eq_same a b e)) legal.0.open_one) h).no_child;
      settled = ap (λ (t : Bool). last_open false (tries_after [] (view L a ++ (if t then steps.Got n seen ∷ [] else [])))) e ∙ ap (last_open false) (tries_append [] (view L a) (steps.Got n seen ∷ [])) ∙ closed (seen_result seen) (tries L a) (shut seen);
    })
    by false e =
        same_open L (Got b n seen) a (ap (λ (t : Bool). if t then None else open_call L a) e) refl
        (ap (λ (t : Bool). last_open false (tries_after [] (view L a ++ (if t then steps.Got n seen ∷ [] else [])))) e ∙ ap (last_open false) (tries_append [] (view L a) [])) h
one_open_more objects L (AskCommit b v) a legal named idle h =
    same_open L (AskCommit b v) a refl refl (elim (name_eq a b) as (λ (t : Bool). last_open false (tries_after [] (view L a ++ (if t then steps.CommitAsked v ∷ [] else []))) ≡ last_open false (tries L a)) [
      | true ↦ ap (last_open false) (tries_append [] (view L a) (steps.CommitAsked v ∷ []))
      | false ↦ ap (last_open false) (tries_append [] (view L a) [])
    ]) h
one_open_more objects L (AskAbort b) a legal named idle h =
    same_open L (AskAbort b) a refl refl (elim (name_eq a b) as (λ (t : Bool). last_open false (tries_after [] (view L a ++ (if t then steps.AbortAsked ∷ [] else []))) ≡ last_open false (tries L a)) [
      | true ↦ ap (last_open false) (tries_append [] (view L a) (steps.AbortAsked ∷ []))
      | false ↦ ap (last_open false) (tries_append [] (view L a) [])
    ]) h
one_open_more objects L (Commit b) a legal named idle h = by (is_child a b) refl
  where
    by : (t : Bool) → is_child a b ≡ t → OneOpen (Commit b ∷ L) a
    by true e = value (commit_value L b) refl
      where
        open_it : list_any (name_eq b) (open_children L a) ≡ true
        open_it = undecided_open objects L a b legal.1 (created_child objects L b a legal.1 (child_parent a b named e) (asked_commit_created objects L b legal.1 legal.0.asked)).0 legal.0.undecided

        value : (v : Option ℤ) → commit_value L b ≡ v → OneOpen (Commit b ∷ L) a
        value v is = elim v as (λ o. commit_value L b ≡ o → OneOpen (Commit b ∷ L) a) [
          | None ↦ λ i. absurd (asked_value L b legal.0.asked i)
          | Some w ↦ λ i. inl (closes L (Commit b) a b (steps.Child b (Some w)) (Worked w) open_it h refl refl
              (ap (λ (t : Bool). view L a ++ (if t then committed_child b (commit_value L b) else [])) e ∙ ap (λ o. view L a ++ committed_child b o) i) refl refl)
        ] is
    by false e =
        same_open L (Commit b) a refl (elsewhere L a b e h)
        (ap (λ (t : Bool). last_open false (tries_after [] (view L a ++ (if t then committed_child b (commit_value L b) else [])))) e ∙ ap (last_open false) (tries_append [] (view L a) [])) h
one_open_more objects L (Abort b) a legal named idle h = by (is_child a b) refl
  where
    by : (t : Bool) → is_child a b ≡ t → OneOpen (Abort b ∷ L) a
    by true e = inl (closes L (Abort b) a b (steps.Child b None) Failed open_it h refl refl (ap (λ (t : Bool). view L a ++ (if t then steps.Child b None ∷ [] else [])) e) refl refl)
      where
        father : parent b ≡ Some a
        father = child_parent a b named e

        asked_it : asked L a b ≡ true
        asked_it = (subst (λ o. MayAbort L b o) father legal.0.may).1

        open_it : list_any (name_eq b) (open_children L a) ≡ true
        open_it = undecided_open objects L a b legal.1 asked_it legal.0.undecided
    by false e =
        same_open L (Abort b) a refl (elsewhere L a b e h)
        (ap (λ (t : Bool). last_open false (tries_after [] (view L a ++ (if t then steps.Child b None ∷ [] else [])))) e ∙ ap (last_open false) (tries_append [] (view L a) [])) h
one_open_more objects L (Perform b n answer) a legal named idle h = same_open L (Perform b n answer) a refl refl (ap (last_open false) (tries_append [] (view L a) [])) h
one_open_more objects L (Bounce b n u) a legal named idle h = same_open L (Bounce b n u) a refl refl (ap (last_open false) (tries_append [] (view L a) [])) h
one_open_more objects L (Secure f s c) a legal named idle h = same_open L (Secure f s c) a refl refl (ap (last_open false) (tries_append [] (view L a) [])) h
one_open_more objects L (Inform s b o) a legal named idle h = same_open L (Inform s b o) a refl refl (ap (last_open false) (tries_append [] (view L a) [])) h
one_open_more objects L (Crash s) a legal named idle h = same_open L (Crash s) a refl refl (ap (last_open false) (tries_append [] (view L a) [])) h
