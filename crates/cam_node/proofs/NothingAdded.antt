-- Deeds that decide nothing, secure nothing and raise no count add nothing to the entry of their
-- event.
use Rattle.std.proofs.Common.{◌≡◌, ℕ, Bool, true, false, ◌&&◌, List, [], ◌∷◌, ◌++◌, map, Option, refl}
use Rattle.std.specs.List.{list_all}
use Rattle.std.proofs.lemmas.Bool.{and_parts}
use Rattle.cam_names.specs.declared.name.Name.{Name}
use Rattle.cam_type.specs.declared.ObjectDecl.{ObjectDecl}
use Rattle.cam_type.specs.declared.Held.{Held}
use Rattle.cam_know.specs.Knowledge.{Knowledge}
use Rattle.cam_know.specs.Known.{new_aborts, new_commits}
use Rattle.cam_event.specs.declared.Deed.{Deed}
use Rattle.cam_event.specs.declared.Deed.TheVariants.{Create, Ask, Call, Perform, Bounce, Got, AskCommit, AskAbort, Commit, Abort, Secure, Inform, Crash}
use Rattle.cam_event.specs.Inputs.{Mail}
use Rattle.cam_event.specs.Rules.{sorted_names}
use Rattle.cam_event.specs.ByKnowledge.{new_informs}
use Rattle.cam_event.specs.HeldSites.{Site, site_after, site_after_all}
use Rattle.cam_event.specs.Carried.{Carried}
use Rattle.cam_event.specs.History.{after}
use Rattle.cam_node.specs.Entries.{Holding, AreHoldings, deed_records}
use Rattle.cam_node.specs.AtHome.{is_at_home_alone}

abbrev pub adds_nothing : Deed → Bool
adds_nothing (Commit a) = false
adds_nothing (Abort a) = false
adds_nothing (Secure f s c) = false
adds_nothing (Crash s) = false
adds_nothing _ = true

-- deeds at home alone are such
adds : (d : Deed) → is_at_home_alone d ≡ true → adds_nothing d ≡ true
adds (Create a) h = refl
adds (Ask a b) h = refl
adds (Call a n x op c) h = refl
adds (Perform a n answer) h = refl
adds (Bounce a n u) h = refl
adds (Got a n seen) h = refl
adds (AskCommit a v) h = refl
adds (AskAbort a) h = refl
adds (Commit a) h = cc
adds (Abort a) h = cc
adds (Secure f s c) h = cc
adds (Inform s a o) h = refl
adds (Crash s) h = cc

pub alone_add : (ds : List Deed) → list_all is_at_home_alone ds ≡ true
    → list_all adds_nothing ds ≡ true
alone_add [] h = refl
alone_add (d ∷ ds) h =
    let parts = and_parts (is_at_home_alone d) (list_all is_at_home_alone ds) h in
    λ i. adds d parts.0 i && alone_add ds parts.1 i

-- and so are the first Informs
names_add : (s : ℕ) (o : Bool) (names : List Name)
    → list_all adds_nothing (map (λ a. Inform s a o) names) ≡ true
names_add s o [] = refl
names_add s o (a ∷ names) = names_add s o names

pub both_add : (one other : List Deed) → list_all adds_nothing one ≡ true
    → list_all adds_nothing other ≡ true
    → list_all adds_nothing (one ++ other) ≡ true
both_add [] other a b = b
both_add (d ∷ one) other a b =
    let parts = and_parts (adds_nothing d) (list_all adds_nothing one) a in
    λ i. parts.0 i && both_add one other parts.1 b i

pub informs_add : (s : ℕ) (brought known : Knowledge)
    → list_all adds_nothing (new_informs s brought known) ≡ true
informs_add s brought known =
    both_add (map (λ a. Inform s a false) (sorted_names (new_aborts brought known)))
    (map (λ a. Inform s a true) (sorted_names (new_commits brought known)))
    (names_add s false (sorted_names (new_aborts brought known)))
    (names_add s true (sorted_names (new_commits brought known)))

-- What stands behind them has the records that it has without them.
pub records_behind : (holds : Holding) (objects : List ObjectDecl) (before : List Carried)
    (mail : Option Mail) (ds es : List Deed)
    → list_all adds_nothing ds ≡ true
    → deed_records holds objects before mail (ds ++ es) ≡ deed_records holds objects before mail es
records_behind holds objects before mail [] es h = refl
records_behind holds objects before mail (Create a ∷ ds) es h = records_behind holds objects before
    mail ds es h
records_behind holds objects before mail (Ask a b ∷ ds) es h = records_behind holds objects before
    mail ds es h
records_behind holds objects before mail (Call a n x op c ∷ ds) es h = records_behind holds objects
    before mail ds es h
records_behind holds objects before mail (Perform a n answer ∷ ds) es h = records_behind holds
    objects before mail ds es h
records_behind holds objects before mail (Bounce a n u ∷ ds) es h = records_behind holds objects
    before mail ds es h
records_behind holds objects before mail (Got a n seen ∷ ds) es h = records_behind holds objects
    before mail ds es h
records_behind holds objects before mail (AskCommit a v ∷ ds) es h = records_behind holds objects
    before mail ds es h
records_behind holds objects before mail (AskAbort a ∷ ds) es h = records_behind holds objects
    before mail ds es h
records_behind holds objects before mail (Commit a ∷ ds) es h = cc
records_behind holds objects before mail (Abort a ∷ ds) es h = cc
records_behind holds objects before mail (Secure f s c ∷ ds) es h = cc
records_behind holds objects before mail (Inform s a o ∷ ds) es h = records_behind holds objects
    before mail ds es h
records_behind holds objects before mail (Crash s ∷ ds) es h = cc

-- What is held of the Secures behind them is held behind the node as it is after them.
pub holdings_behind : (holds : Holding) (before : List Deed) (mail : Option Mail) (x : Site)
    (logged : List Held) (ds es : List Deed)
    → list_all adds_nothing ds ≡ true
    → AreHoldings holds (after before ds) mail (site_after_all before mail x ds) logged es
    → AreHoldings holds before mail x logged (ds ++ es)
holdings_behind holds before mail x logged [] es h held = held
holdings_behind holds before mail x logged (Create a ∷ ds) es h held =
    holdings_behind holds (Create a ∷ before) mail (site_after before mail x (Create a)) logged ds
    es h held
holdings_behind holds before mail x logged (Ask a b ∷ ds) es h held =
    holdings_behind holds (Ask a b ∷ before) mail (site_after before mail x (Ask a b)) logged ds es
    h held
holdings_behind holds before mail x logged (Call a n o op c ∷ ds) es h held =
    holdings_behind holds (Call a n o op c ∷ before) mail
    (site_after before mail x (Call a n o op c)) logged ds es h held
holdings_behind holds before mail x logged (Perform a n answer ∷ ds) es h held =
    holdings_behind holds (Perform a n answer ∷ before) mail
    (site_after before mail x (Perform a n answer)) logged ds es h held
holdings_behind holds before mail x logged (Bounce a n u ∷ ds) es h held =
    holdings_behind holds (Bounce a n u ∷ before) mail (site_after before mail x (Bounce a n u))
    logged ds es h held
holdings_behind holds before mail x logged (Got a n seen ∷ ds) es h held =
    holdings_behind holds (Got a n seen ∷ before) mail (site_after before mail x (Got a n seen))
    logged ds es h held
holdings_behind holds before mail x logged (AskCommit a v ∷ ds) es h held =
    holdings_behind holds (AskCommit a v ∷ before) mail (site_after before mail x (AskCommit a v))
    logged ds es h held
holdings_behind holds before mail x logged (AskAbort a ∷ ds) es h held =
    holdings_behind holds (AskAbort a ∷ before) mail (site_after before mail x (AskAbort a)) logged
    ds es h held
holdings_behind holds before mail x logged (Commit a ∷ ds) es h held = absurd (cc)
holdings_behind holds before mail x logged (Abort a ∷ ds) es h held = absurd (cc)
holdings_behind holds before mail x logged (Secure f s c ∷ ds) es h held = absurd (cc)
holdings_behind holds before mail x logged (Inform s a o ∷ ds) es h held =
    holdings_behind holds (Inform s a o ∷ before) mail (site_after before mail x (Inform s a o))
    logged ds es h held
holdings_behind holds before mail x logged (Crash s ∷ ds) es h held = absurd (cc)
