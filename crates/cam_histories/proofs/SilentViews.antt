-- Deeds that show an action nothing change no view of it.
use Rattle.std.proofs.Common.{◌≡◌, inl, inr, ℕ, true}
use Rattle.std.proofs.Common.{if◌then◌else◌, List, [], ◌∷◌, ◌++◌, Some}
use Rattle.std.proofs.Common.{refl, ap, ◌∙◌, append-nil}
use Rattle.cam_names.specs.declared.name.Name.{Name}
use Rattle.cam_names.specs.Names.{name_eq, is_ancestor, is_child, home_node}
use Rattle.cam_event.specs.declared.Event.{Event}
use Rattle.cam_event.specs.declared.Deed.{Deed}
use Rattle.cam_event.specs.declared.Deed.TheVariants.{Create, Ask, Call, Perform, Bounce, Got}
use Rattle.cam_event.specs.declared.Deed.TheVariants.{AskCommit, AskAbort, Commit, Abort, Secure}
use Rattle.cam_event.specs.declared.Deed.TheVariants.{Inform, Crash}
use Rattle.cam_event.specs.History.{after, commit_value}
use Rattle.cam_event.specs.Pasts.{plain_all}
use Rattle.cam_event.specs.Views.{committed_child, step_of, view}
use Rattle.cam_histories.specs.PutIn.{put_in}
use Rattle.cam_histories.proofs.Silent.{AreSilent}

-- Silent deeds between others change no view and no value.
module _ (s : ℕ) (a : Name) (named : is_ancestor a a ≡ true) (off : s ≡ home_node a → ⊥) where
  abbrev Same : List Deed → List Deed → Type 0
  Same L M = (view L a ≡ view M a) × ((b : Name) → commit_value L b ≡ commit_value M b)

  step_same : (d : Deed) (L M : List Deed) → ((b : Name) → commit_value L b ≡ commit_value M b)
      → step_of L d a ≡ step_of M d a
  step_same (Commit b) L M same =
      ap (λ v. if is_child a b then committed_child b v else []) (same b)
  step_same (Create b) L M same = refl
  step_same (Ask p b) L M same = refl
  step_same (Call b n x op c) L M same = refl
  step_same (Perform b n answer) L M same = refl
  step_same (Bounce b n u) L M same = refl
  step_same (Got b n seen) L M same = refl
  step_same (AskCommit b v) L M same = refl
  step_same (AskAbort b) L M same = refl
  step_same (Abort b) L M same = refl
  step_same (Secure f site c) L M same = refl
  step_same (Inform site b outcome) L M same = refl
  step_same (Crash site) L M same = refl

  value_same : (d : Deed) (L M : List Deed) (b : Name) → commit_value L b ≡ commit_value M b
      → commit_value (d ∷ L) b ≡ commit_value (d ∷ M) b
  value_same (AskCommit x v) L M b same = ap (λ o. if name_eq b x then Some v else o) same
  value_same (Commit x) L M b same = same
  value_same (Create x) L M b same = same
  value_same (Ask p x) L M b same = same
  value_same (Call x n y op c) L M b same = same
  value_same (Perform x n answer) L M b same = same
  value_same (Bounce x n u) L M b same = same
  value_same (Got x n seen) L M b same = same
  value_same (AskAbort x) L M b same = same
  value_same (Abort x) L M b same = same
  value_same (Secure f site c) L M b same = same
  value_same (Inform site x outcome) L M b same = same
  value_same (Crash site) L M b same = same

  both_same : (ds L M : List Deed) → Same L M → Same (after L ds) (after M ds)
  both_same [] L M same = same
  both_same (d ∷ ds) L M same =
      both_same ds (d ∷ L) (d ∷ M)
      ((λ i. same.0 i ++ step_same d L M same.1 i), (λ b. value_same d L M b (same.1 b)))

  more_same : (ds L M : List Deed) → AreSilent s ds → Same L M → Same (after L ds) M
  more_same [] L M silent same = same
  more_same (d ∷ ds) L M silent same =
      more_same ds (d ∷ L) M (λ x i. silent x (inr i)) (
        ap (λ r. view L a ++ r) ((silent d (inl refl)).step L a named off)
            ∙ append-nil (view L a) ∙ same.0,
        (λ b. (silent d (inl refl)).value L b ∙ same.1 b),
      )

  put_in_same : (behind before : List Event) (e : Event) → AreSilent s e.deeds
      → Same (plain_all (put_in behind e before)) (plain_all (behind ++ before))
  put_in_same [] before e silent =
      more_same e.deeds (plain_all before) (plain_all before) silent (refl, λ b. refl)
  put_in_same (x ∷ behind) before e silent =
      both_same x.deeds (plain_all (put_in behind e before)) (plain_all (behind ++ before))
      (put_in_same behind before e silent)

  pub view_stays : (behind before : List Event) (e : Event) → AreSilent s e.deeds
      → view (plain_all (put_in behind e before)) a ≡ view (plain_all (behind ++ before)) a
  view_stays behind before e silent = (put_in_same behind before e silent).0
