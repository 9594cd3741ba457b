-- Which lists of an event's entry are empty: its records of deeds, the new outcomes, and the
-- greater counts.
use Rattle.std.proofs.Common.{◌≡◌, inl, inr, ℕ, Bool, true, false, not, ◌&&◌, ◌||◌, if◌then◌else◌}
use Rattle.std.proofs.Common.{List, [], ◌∷◌, ◌++◌, map, Option, refl, sym, ap, ◌∙◌}
use Rattle.std.specs.Prelude.{filter, flat_map}
use Rattle.std.specs.List.{list_any}
use Rattle.std.proofs.lemmas.Bool.{cases_Bool, true≢false}
use Rattle.std.proofs.lemmas.List.Folds.{list_any-append}
use Rattle.cam_names.specs.declared.name.Name.{Name}
use Rattle.cam_names.specs.Names.{name_eq, name_lt}
use Rattle.cam_type.specs.declared.ObjectDecl.{ObjectDecl}
use Rattle.cam_know.specs.declared.Outcome.{Outcome}
use Rattle.cam_know.specs.declared.Outcome.TheVariants.{Aborted, Committed}
use Rattle.cam_know.specs.Knowledge.{Knowledge}
use Rattle.cam_know.specs.Known.{knows, knows_abort, knows_commit, unknown, aborted_name}
use Rattle.cam_know.specs.Known.{committed_name, is_commit_of}
use Rattle.cam_know.proofs.Union.{any_known}
use Rattle.cam_names.proofs.Names.{name_eq_refl}
use Rattle.cam_event.specs.declared.Deed.{Deed}
use Rattle.cam_event.specs.declared.Deed.TheVariants.{Create, Ask, Call, Perform, Bounce, Got}
use Rattle.cam_event.specs.declared.Deed.TheVariants.{AskCommit, AskAbort, Commit, Abort, Secure}
use Rattle.cam_event.specs.declared.Deed.TheVariants.{Inform, Crash}
use Rattle.cam_event.specs.History.{is_empty}
use Rattle.cam_event.specs.Inputs.{Mail}
use Rattle.cam_event.specs.Rules.{put_name, sorted_names, informs}
use Rattle.cam_event.specs.Carried.{Carried}
use Rattle.cam_event.specs.Taken.{is_entered}
use Rattle.cam_event.proofs.Members.{In}
use Rattle.cam_node.specs.Entries.{Holding, deed_records}
use Rattle.cam_node.specs.LogOrder.{is_any_secure}
use Rattle.cam_node.specs.Shapes.{is_mute, IsShaped, Quiet, Single, Commits, Aborts}

pub empty_append : {X : Type 0} (xs ys : List X) → is_empty (xs ++ ys) ≡ (is_empty xs && is_empty ys)
empty_append [] ys = refl
empty_append (x ∷ xs) ys = refl

pub empty_map : {X Y : Type 0} (f : X → Y) (xs : List X) → is_empty (map f xs) ≡ is_empty xs
empty_map f [] = refl
empty_map f (x ∷ xs) = refl

-- the deeds that have a record
abbrev pub is_recorded : Deed → Bool
is_recorded (Commit a) = true
is_recorded (Abort a) = true
is_recorded (Secure f s c) = true
is_recorded (Crash s) = true
is_recorded _ = false

pub records_empty : (holds : Holding) (objects : List ObjectDecl) (h : List Carried)
    (mail : Option Mail) (ds : List Deed)
    → is_empty (deed_records holds objects h mail ds) ≡ not (list_any is_recorded ds)
records_empty holds objects h mail [] = refl
records_empty holds objects h mail (Create a ∷ ds) = records_empty holds objects h mail ds
records_empty holds objects h mail (Ask a b ∷ ds) = records_empty holds objects h mail ds
records_empty holds objects h mail (Call a n x op c ∷ ds) = records_empty holds objects h mail ds
records_empty holds objects h mail (Perform a n r ∷ ds) = records_empty holds objects h mail ds
records_empty holds objects h mail (Bounce a n u ∷ ds) = records_empty holds objects h mail ds
records_empty holds objects h mail (Got a n seen ∷ ds) = records_empty holds objects h mail ds
records_empty holds objects h mail (AskCommit a v ∷ ds) = records_empty holds objects h mail ds
records_empty holds objects h mail (AskAbort a ∷ ds) = records_empty holds objects h mail ds
records_empty holds objects h mail (Inform s a o ∷ ds) = records_empty holds objects h mail ds
records_empty holds objects h mail (Commit a ∷ ds) = refl
records_empty holds objects h mail (Abort a ∷ ds) = refl
records_empty holds objects h mail (Secure f s c ∷ ds) = refl
records_empty holds objects h mail (Crash s ∷ ds) = refl

-- Of the deeds of a rule those are entered that have a record, with the Inform of a decision.
pub entered_recorded : (s : ℕ) (own : List Deed) → IsShaped s own
    → list_any is_entered own ≡ list_any is_recorded own
entered_recorded s own Quiet = refl
entered_recorded s own (Single d mute) = single d mute
  where
    single : (d : Deed) → is_mute d ≡ true
        → list_any is_entered (d ∷ []) ≡ list_any is_recorded (d ∷ [])
    single (Create a) h = refl
    single (Ask a b) h = refl
    single (Call a n x op c) h = refl
    single (Perform a n r) h = refl
    single (Bounce a n u) h = refl
    single (Got a n seen) h = refl
    single (AskCommit a v) h = refl
    single (AskAbort a) h = refl
    single (Secure f m c) h = refl
    single (Crash m) h = refl
    single (Commit a) h = cc
    single (Abort a) h = cc
    single (Inform m a o) h = cc
entered_recorded s own (Commits a) = refl
entered_recorded s own (Aborts a) = refl

-- a Secure is entered
pub secure_kept : (ds : List Deed)
    → list_any is_any_secure (filter is_entered ds) ≡ list_any is_any_secure ds
secure_kept [] = refl
secure_kept (Create a ∷ ds) = secure_kept ds
secure_kept (Ask a b ∷ ds) = secure_kept ds
secure_kept (Call a n x op c ∷ ds) = secure_kept ds
secure_kept (Perform a n r ∷ ds) = secure_kept ds
secure_kept (Bounce a n u ∷ ds) = secure_kept ds
secure_kept (Got a n seen ∷ ds) = secure_kept ds
secure_kept (AskCommit a v ∷ ds) = secure_kept ds
secure_kept (AskAbort a ∷ ds) = secure_kept ds
secure_kept (Inform s a o ∷ ds) = secure_kept ds
secure_kept (Commit a ∷ ds) = secure_kept ds
secure_kept (Abort a ∷ ds) = secure_kept ds
secure_kept (Secure f s c ∷ ds) = refl
secure_kept (Crash s ∷ ds) = secure_kept ds

-- The first Informs are entered and have no record. There are none just where no name is new.
put_some : (a : Name) (names : List Name) → is_empty (put_name a names) ≡ false
put_some a [] = refl
put_some a (b ∷ bs) = by (name_lt a b) (name_eq a b)
  where
    by : (less same : Bool)
        → is_empty (if less then a ∷ b ∷ bs else if same then b ∷ bs else b ∷ put_name a bs) ≡ false
    by true same = refl
    by false true = refl
    by false false = refl

sorted_empty : (names : List Name) → is_empty (sorted_names names) ≡ is_empty names
sorted_empty [] = refl
sorted_empty (a ∷ names) = put_some a (sorted_names names)

all_entered : (s : ℕ) (b : Bool) (names : List Name)
    → list_any is_entered (map (λ a. Inform s a b) names) ≡ not (is_empty names)
all_entered s b [] = refl
all_entered s b (a ∷ names) = refl

none_recorded : (s : ℕ) (b : Bool) (names : List Name)
    → list_any is_recorded (map (λ a. Inform s a b) names) ≡ false
none_recorded s b [] = refl
none_recorded s b (a ∷ names) = none_recorded s b names

pub informs_entered : (s : ℕ) (aborts commits : List Name)
    → list_any is_entered (informs s aborts commits)
    ≡ (not (is_empty aborts) || not (is_empty commits))
informs_entered s aborts commits =
    list_any-append is_entered (map (λ a. Inform s a false) (sorted_names aborts))
    (map (λ a. Inform s a true) (sorted_names commits))
    ∙ (λ i. (all_entered s false (sorted_names aborts) ∙ ap not (sorted_empty aborts)) i
    || (all_entered s true (sorted_names commits) ∙ ap not (sorted_empty commits)) i)

pub informs_unrecorded : (s : ℕ) (aborts commits : List Name)
    → list_any is_recorded (informs s aborts commits) ≡ false
informs_unrecorded s aborts commits =
    list_any-append is_recorded (map (λ a. Inform s a false) (sorted_names aborts))
    (map (λ a. Inform s a true) (sorted_names commits))
    ∙ (λ i. none_recorded s false (sorted_names aborts) i
    || none_recorded s true (sorted_names commits) i)

-- Where of each commit that is told and known the same is known, an outcome is new just where its
-- name is.
abbrev pub TellsTheSame : Knowledge → List Outcome → Type 0
TellsTheSame k os =
    (a : Name) (counts : List ℕ) → In (Committed a counts) os → knows_commit k a ≡ true
    → knows k (Committed a counts) ≡ true

abbrev pub old_abort : Knowledge → Name → Bool
old_abort k a = not (knows_abort k a)

abbrev pub old_commit : Knowledge → Name → Bool
old_commit k a = not (knows_commit k a)

pub new_named : (k : Knowledge) (os : List Outcome) → TellsTheSame k os
    → is_empty (unknown k os)
    ≡ (is_empty (filter (old_abort k) (flat_map aborted_name os))
    && is_empty (filter (old_commit k) (flat_map committed_name os)))
new_named k [] same = refl
new_named k (Aborted a ∷ os) same =
    let rest = new_named k os (λ b counts i. same b counts (inr i)) in
    elim (cases_Bool (knows_abort k a)) [
      | inl known ↦ rw known rest
      | inr new ↦ rw new refl
    ]
new_named k (Committed a counts ∷ os) same =
    let rest = new_named k os (λ b cs i. same b cs (inr i)) in
    elim (cases_Bool (knows_commit k a)) [
      | inl known ↦ rw (same a counts (inl refl) known, known) rest
      | inr new ↦ rw (
        unheard (knows k (Committed a counts)) new
            (any_known (is_commit_of a) (Committed a counts) k.outcomes),
        new,
      )
          (none (is_empty (filter (old_abort k) (flat_map aborted_name os))))
    ]
  where
    none : (b : Bool) → false ≡ (b && false)
    none true = refl
    none false = refl

    unheard : (b : Bool) → knows_commit k a ≡ false
        → (b ≡ true → name_eq a a ≡ true → knows_commit k a ≡ true) → b ≡ false
    unheard true new h = absurd (true≢false (sym (h refl (name_eq_refl a)) ∙ new))
    unheard false new h = refl
