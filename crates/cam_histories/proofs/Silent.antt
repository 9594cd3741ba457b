-- What a node's taken event has shows nothing to the actions of other nodes.
use Rattle.std.proofs.Common.{◌≡◌, inl, inr, ℕ, eqb, Bool, true, false, ◌&&◌, ◌||◌}
use Rattle.std.proofs.Common.{if◌then◌else◌, List, [], ◌∷◌, ◌++◌, filter, None}
use Rattle.std.proofs.Common.{refl, sym, ap, ◌∙◌}
use Rattle.std.specs.List.{list_any}
use Rattle.cam_names.specs.declared.name.Name.{Name}
use Rattle.cam_names.specs.Names.{is_ancestor, is_child, home_node}
use Rattle.cam_type.specs.declared.ObjectDecl.{ObjectDecl}
use Rattle.cam_event.specs.declared.Event.{Event}
use Rattle.cam_event.specs.declared.Note.{Note}
use Rattle.cam_event.specs.declared.Note.TheVariants as notes
use Rattle.cam_event.specs.declared.Deed.{Deed}
use Rattle.cam_event.specs.declared.Deed.TheVariants.{Create, Ask, Call, Perform, Bounce, Got}
use Rattle.cam_event.specs.declared.Deed.TheVariants.{AskCommit, AskAbort, Commit, Abort, Secure}
use Rattle.cam_event.specs.declared.Deed.TheVariants.{Inform, Crash}
use Rattle.cam_event.specs.declared.ViewStep.TheVariants as steps
use Rattle.cam_event.specs.History.{commit_value}
use Rattle.cam_event.specs.Taken.{is_entered}
use Rattle.cam_event.specs.Views.{committed_child, step_of}
use Rattle.cam_event.proofs.Members.{In}
use Rattle.cam_cut.proofs.HomeFacts.{child_decider}
use Rattle.cam_event.specs.Inputs.{decider}
use Rattle.std.proofs.lemmas.Bool.{false_from_ne_true}
use Rattle.cam_cut.proofs.Places.{PlacedAt, PlacedDeeds, AllPlaced}
use Rattle.cam_runs.specs.Playing.{is_stop_note, is_stop_of}
use Rattle.cam_runs.specs.Requests.{created_in, asked_in}
use Rattle.cam_histories.specs.PutIn.{put_in}

-- A deed shows nothing to an action, and it says no value with which one commits.
pub record ShowsNothing (s : ℕ) (d : Deed) : Type 0 where
  pub step :
      (L : List Deed) (a : Name) → is_ancestor a a ≡ true → (s ≡ home_node a → ⊥)
      → step_of L d a ≡ []
  pub value : (L : List Deed) (b : Name) → commit_value (d ∷ L) b ≡ commit_value L b

abbrev pub AreSilent : ℕ → List Deed → Type 0
AreSilent s ds = (d : Deed) → In d ds → ShowsNothing s d

-- what is decided elsewhere is no child
not_child : (a b : Name) (s : ℕ) → is_ancestor a a ≡ true → decider b ≡ s
    → (s ≡ home_node a → ⊥) → is_child a b ≡ false
not_child a b s named there off =
    false_from_ne_true (is_child a b) (λ h. off (sym there ∙ child_decider a b named h))

-- an entered deed at its place does
shows_nothing : (objects : List ObjectDecl) (H : List Deed) (s : ℕ) (d : Deed)
    → is_entered d ≡ true → PlacedAt objects H s d → ShowsNothing s d
shows_nothing objects H s (Commit b) entered placed = record {
  step = λ L a named off.
      ap (λ c. if c then committed_child b (commit_value L b) else [])
      (not_child a b s named placed off);
  value = λ L x. refl;
}
shows_nothing objects H s (Abort b) entered placed = record {
  step = λ L a named off.
      ap (λ c. if c then steps.Child b None ∷ [] else []) (not_child a b s named placed off);
  value = λ L x. refl;
}
shows_nothing objects H s (Secure f site c) entered placed =
    record { step = λ L a named off. refl; value = λ L x. refl }
shows_nothing objects H s (Inform site b outcome) entered placed =
    record { step = λ L a named off. refl; value = λ L x. refl }
shows_nothing objects H s (Crash site) entered placed =
    record { step = λ L a named off. refl; value = λ L x. refl }
shows_nothing objects H s (Create b) entered placed = cc
shows_nothing objects H s (Ask b x) entered placed = cc
shows_nothing objects H s (Call b n x op c) entered placed = cc
shows_nothing objects H s (Perform b n answer) entered placed = cc
shows_nothing objects H s (Bounce b n u) entered placed = cc
shows_nothing objects H s (Got b n seen) entered placed = cc
shows_nothing objects H s (AskCommit b v) entered placed = cc
shows_nothing objects H s (AskAbort b) entered placed = cc

in_entered : (d : Deed) (ds : List Deed) → In d (filter is_entered ds)
    → In d ds × (is_entered d ≡ true)
in_entered d [] there = absurd there
in_entered d (x ∷ ds) there = by (is_entered x) refl there (in_entered d ds)
  where
    by : (b : Bool) → is_entered x ≡ b → In d
        (if b then x ∷ filter is_entered ds else filter is_entered ds)
        → (In d (filter is_entered ds) → In d ds × (is_entered d ≡ true))
        → In d (x ∷ ds) × (is_entered d ≡ true)
    by true is (inl same) rest = (inl same, ap is_entered same ∙ is)
    by true is (inr old) rest = let r = rest old in (inr r.0, r.1)
    by false is old rest = let r = rest old in (inr r.0, r.1)

pub entered_silent : (objects : List ObjectDecl) (H : List Deed) (s : ℕ) (ds : List Deed)
    → PlacedDeeds objects H s (filter is_entered ds) → AreSilent s (filter is_entered ds)
entered_silent objects H s ds placed d there =
    shows_nothing objects H s d (in_entered d ds there).1 (placed d there)

-- the events after others are placed as all are
pub placed_behind : (objects : List ObjectDecl) (H : List Deed) (more t : List Event)
    → AllPlaced objects H (more ++ t) → AllPlaced objects H t
placed_behind objects H [] t all = all
placed_behind objects H (e ∷ more) t all = placed_behind objects H more t all.1

-- A taken event stops no action, creates none and asks for none.
and_false : (b : Bool) → (b && false) ≡ false
and_false true = refl
and_false false = refl

pub stops_stay : (a : Name) (behind before : List Event) (e : Event) → e.note ≡ notes.Plain
    → list_any (is_stop_of a) (put_in behind e before)
    ≡ list_any (is_stop_of a) (behind ++ before)
stops_stay a [] before e plain_note =
    ap (λ (n : Note). (eqb e.node (home_node a) && is_stop_note a n)
    || list_any (is_stop_of a) before)
    plain_note
    ∙ ap (λ b. b || list_any (is_stop_of a) before) (and_false (eqb e.node (home_node a)))
stops_stay a (x ∷ behind) before e plain_note =
    ap (λ b. is_stop_of a x || b) (stops_stay a behind before e plain_note)

pub creates_none : (ds : List Deed) → created_in (filter is_entered ds) ≡ None
creates_none [] = refl
creates_none (Create b ∷ ds) = creates_none ds
creates_none (Ask p b ∷ ds) = creates_none ds
creates_none (Call b n x op c ∷ ds) = creates_none ds
creates_none (Perform b n answer ∷ ds) = creates_none ds
creates_none (Bounce b n u ∷ ds) = creates_none ds
creates_none (Got b n seen ∷ ds) = creates_none ds
creates_none (AskCommit b v ∷ ds) = creates_none ds
creates_none (AskAbort b ∷ ds) = creates_none ds
creates_none (Commit b ∷ ds) = refl
creates_none (Abort b ∷ ds) = refl
creates_none (Secure f site c ∷ ds) = refl
creates_none (Inform site b outcome ∷ ds) = refl
creates_none (Crash site ∷ ds) = refl

pub asks_none : (ds : List Deed) → asked_in (filter is_entered ds) ≡ None
asks_none [] = refl
asks_none (Create b ∷ ds) = asks_none ds
asks_none (Ask p b ∷ ds) = asks_none ds
asks_none (Call b n x op c ∷ ds) = asks_none ds
asks_none (Perform b n answer ∷ ds) = asks_none ds
asks_none (Bounce b n u ∷ ds) = asks_none ds
asks_none (Got b n seen ∷ ds) = asks_none ds
asks_none (AskCommit b v ∷ ds) = asks_none ds
asks_none (AskAbort b ∷ ds) = asks_none ds
asks_none (Commit b ∷ ds) = refl
asks_none (Abort b ∷ ds) = refl
asks_none (Secure f site c ∷ ds) = refl
asks_none (Inform site b outcome ∷ ds) = refl
asks_none (Crash site ∷ ds) = refl
