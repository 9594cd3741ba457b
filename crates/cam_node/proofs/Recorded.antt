-- Deeds that have no record in the entry of their event; and the records of an event whose first
-- deeds have none.
use Rattle.std.proofs.Common.{◌≡◌, ℕ, Bool, true, false, ◌||◌, List, [], ◌∷◌, ◌++◌, map, Option, refl, ◌∙◌}
use Rattle.std.specs.List.{list_any}
use Rattle.std.proofs.lemmas.List.Folds.{list_any-append}
use Rattle.cam_names.specs.declared.name.Name.{Name}
use Rattle.cam_type.specs.declared.ObjectDecl.{ObjectDecl}
use Rattle.cam_type.specs.declared.Held.{Held}
use Rattle.cam_know.specs.Knowledge.{Knowledge}
use Rattle.cam_know.specs.Known.{new_aborts, new_commits}
use Rattle.cam_event.specs.declared.Deed.{Deed}
use Rattle.cam_event.specs.declared.Deed.TheVariants.{Create, Ask, Call, Perform, Bounce, Got, AskCommit, AskAbort, Commit, Abort, Secure, Inform, Crash}
use Rattle.cam_event.specs.Inputs.{Mail}
use Rattle.cam_event.specs.Rules.{sorted_names}
use Rattle.cam_event.specs.ByKnowledge.{learned_by, new_informs}
use Rattle.cam_event.specs.HeldSites.{Site, site_after}
use Rattle.cam_event.specs.Carried.{Carried}
use Rattle.cam_node.specs.Entries.{Holding, deed_records, AreHoldings}

-- deeds that have a record
abbrev pub is_recorded : Deed → Bool
is_recorded (Commit a) = true
is_recorded (Abort a) = true
is_recorded (Secure f m c) = true
is_recorded (Crash m) = true
is_recorded _ = false

abbrev pub NoneRecorded : List Deed → Type 0
NoneRecorded ds = list_any is_recorded ds ≡ false

-- where none has one, the records are those of the deeds behind them,
pub records_behind : (holds : Holding) (objects : List ObjectDecl) (h : List Carried) (mail :
    Option Mail) (ds more : List Deed) → NoneRecorded ds
    → deed_records holds objects h mail (ds ++ more) ≡ deed_records holds objects h mail more
records_behind holds objects h mail [] more none = refl
records_behind holds objects h mail (Create a ∷ ds) more none = records_behind holds objects h mail
    ds more none
records_behind holds objects h mail (Ask a b ∷ ds) more none = records_behind holds objects h mail
    ds more none
records_behind holds objects h mail (Call a n x op c ∷ ds) more none = records_behind holds objects
    h mail ds more none
records_behind holds objects h mail (Perform a n answer ∷ ds) more none = records_behind holds
    objects h mail ds more none
records_behind holds objects h mail (Bounce a n u ∷ ds) more none = records_behind holds objects h
    mail ds more none
records_behind holds objects h mail (Got a n seen ∷ ds) more none = records_behind holds objects h
    mail ds more none
records_behind holds objects h mail (AskCommit a v ∷ ds) more none = records_behind holds objects h
    mail ds more none
records_behind holds objects h mail (AskAbort a ∷ ds) more none = records_behind holds objects h
    mail ds more none
records_behind holds objects h mail (Commit a ∷ ds) more none = absurd (cc)
records_behind holds objects h mail (Abort a ∷ ds) more none = absurd (cc)
records_behind holds objects h mail (Secure f m c ∷ ds) more none = absurd (cc)
records_behind holds objects h mail (Inform m u b ∷ ds) more none = records_behind holds objects h
    mail ds more none
records_behind holds objects h mail (Crash m ∷ ds) more none = absurd (cc)

-- and none where there are no others;
pub none_recorded : (holds : Holding) (objects : List ObjectDecl) (h : List Carried) (mail : Option
    Mail) (ds : List Deed) → NoneRecorded ds
    → deed_records holds objects h mail ds ≡ []
none_recorded holds objects h mail [] none = refl
none_recorded holds objects h mail (Create a ∷ ds) none = none_recorded holds objects h mail ds none
none_recorded holds objects h mail (Ask a b ∷ ds) none = none_recorded holds objects h mail ds none
none_recorded holds objects h mail (Call a n x op c ∷ ds) none = none_recorded holds objects h mail
    ds none
none_recorded holds objects h mail (Perform a n answer ∷ ds) none = none_recorded holds objects h
    mail ds none
none_recorded holds objects h mail (Bounce a n u ∷ ds) none = none_recorded holds objects h mail ds
    none
none_recorded holds objects h mail (Got a n seen ∷ ds) none = none_recorded holds objects h mail ds
    none
none_recorded holds objects h mail (AskCommit a v ∷ ds) none = none_recorded holds objects h mail
    ds none
none_recorded holds objects h mail (AskAbort a ∷ ds) none = none_recorded holds objects h mail ds
    none
none_recorded holds objects h mail (Commit a ∷ ds) none = absurd (cc)
none_recorded holds objects h mail (Abort a ∷ ds) none = absurd (cc)
none_recorded holds objects h mail (Secure f m c ∷ ds) none = absurd (cc)
none_recorded holds objects h mail (Inform m u b ∷ ds) none = none_recorded holds objects h mail ds
    none
none_recorded holds objects h mail (Crash m ∷ ds) none = absurd (cc)

-- nothing is held of them;
pub none_held : (holds : Holding) (before : List Deed) (mail : Option Mail) (x : Site) (logged :
    List Held) (ds : List Deed) → NoneRecorded ds
    → AreHoldings holds before mail x logged ds
none_held holds before mail x logged [] none = tt
none_held holds before mail x logged (Create a ∷ ds) none = none_held holds (Create a ∷ before)
    mail (site_after before mail x (Create a)) logged ds none
none_held holds before mail x logged (Ask a b ∷ ds) none = none_held holds (Ask a b ∷ before) mail
    (site_after before mail x (Ask a b)) logged ds none
none_held holds before mail x logged (Call a n o op c ∷ ds) none = none_held holds (Call a n o op c
    ∷ before) mail (site_after before mail x (Call a n o op c)) logged ds none
none_held holds before mail x logged (Perform a n answer ∷ ds) none = none_held holds (Perform a n
    answer ∷ before) mail (site_after before mail x (Perform a n answer)) logged ds none
none_held holds before mail x logged (Bounce a n u ∷ ds) none = none_held holds (Bounce a n u ∷
    before) mail (site_after before mail x (Bounce a n u)) logged ds none
none_held holds before mail x logged (Got a n seen ∷ ds) none = none_held holds (Got a n seen ∷
    before) mail (site_after before mail x (Got a n seen)) logged ds none
none_held holds before mail x logged (AskCommit a v ∷ ds) none = none_held holds (AskCommit a v ∷
    before) mail (site_after before mail x (AskCommit a v)) logged ds none
none_held holds before mail x logged (AskAbort a ∷ ds) none = none_held holds (AskAbort a ∷ before)
    mail (site_after before mail x (AskAbort a)) logged ds none
none_held holds before mail x logged (Commit a ∷ ds) none = absurd (cc)
none_held holds before mail x logged (Abort a ∷ ds) none = absurd (cc)
none_held holds before mail x logged (Secure f m c ∷ ds) none = absurd (cc)
none_held holds before mail x logged (Inform m u b ∷ ds) none = none_held holds (Inform m u b ∷
    before) mail (site_after before mail x (Inform m u b)) logged ds none
none_held holds before mail x logged (Crash m ∷ ds) none = absurd (cc)

-- nothing is learnt by them.
pub none_learnt : (objects : List ObjectDecl) (h : List Carried) (mail : Option Mail) (ds : List
    Deed) (k : Knowledge) → NoneRecorded ds
    → learned_by objects h mail k ds ≡ k
none_learnt objects h mail [] k none = refl
none_learnt objects h mail (Create a ∷ ds) k none = none_learnt objects h mail ds k none
none_learnt objects h mail (Ask a b ∷ ds) k none = none_learnt objects h mail ds k none
none_learnt objects h mail (Call a n x op c ∷ ds) k none = none_learnt objects h mail ds k none
none_learnt objects h mail (Perform a n answer ∷ ds) k none = none_learnt objects h mail ds k none
none_learnt objects h mail (Bounce a n u ∷ ds) k none = none_learnt objects h mail ds k none
none_learnt objects h mail (Got a n seen ∷ ds) k none = none_learnt objects h mail ds k none
none_learnt objects h mail (AskCommit a v ∷ ds) k none = none_learnt objects h mail ds k none
none_learnt objects h mail (AskAbort a ∷ ds) k none = none_learnt objects h mail ds k none
none_learnt objects h mail (Commit a ∷ ds) k none = absurd (cc)
none_learnt objects h mail (Abort a ∷ ds) k none = absurd (cc)
none_learnt objects h mail (Secure f m c ∷ ds) k none = absurd (cc)
none_learnt objects h mail (Inform m u b ∷ ds) k none = none_learnt objects h mail ds k none
none_learnt objects h mail (Crash m ∷ ds) k none = absurd (cc)

-- The first Informs have none.
names_recorded : (s : ℕ) (outcome : Bool) (names : List Name) → NoneRecorded (map (λ a. Inform s a
    outcome) names)
names_recorded s outcome [] = refl
names_recorded s outcome (a ∷ names) = names_recorded s outcome names

pub informs_recorded : (s : ℕ) (brought k : Knowledge) → NoneRecorded (new_informs s brought k)
informs_recorded s brought k =
    list_any-append is_recorded (map (λ a. Inform s a false) (sorted_names (new_aborts brought k)))
    (map (λ a. Inform s a true) (sorted_names (new_commits brought k)))
    ∙ (λ i. names_recorded s false (sorted_names (new_aborts brought k)) i || names_recorded s true
    (sorted_names (new_commits brought k)) i)
