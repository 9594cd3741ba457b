-- What is taken of an event of the step rules is the node's own, and has the same Secures; so it may be logged.
use Rattle.std.proofs.Common.{◌≡◌, inl, inr, ℕ, Bool, true, false, ◌&&◌, if◌then◌else◌, List, [], ◌∷◌, ◌++◌, map, Option, refl, sym, ap, ◌∙◌, subst}
use Rattle.std.specs.Prelude.{filter}
use Rattle.std.specs.List.{list_all}
use Rattle.cam_node.proofs.Bools.{first_of, second_of}
use Rattle.cam_type.specs.declared.Held.{Held}
use Rattle.cam_event.specs.declared.Deed.{Deed}
use Rattle.cam_event.specs.declared.Deed.TheVariants.{Create, Ask, Call, Perform, Bounce, Got, AskCommit, AskAbort, Commit, Abort, Secure, Inform, Crash}
use Rattle.cam_event.specs.Inputs.{Mail}
use Rattle.cam_event.specs.HeldSites.{Site, site, site_after}
use Rattle.cam_event.specs.Carried.{deeds_of}
use Rattle.cam_event.specs.ByDeltas.{as_carried}
use Rattle.cam_event.specs.Taken.{is_entered}
use Rattle.cam_node.specs.Entries.{Holding, AreHoldings}
use Rattle.cam_node.specs.LogLaws.{TakenMayBeLogged}
use Rattle.cam_node.proofs.RuleDeeds.{is_quiet, AreQuiet}
use Rattle.cam_node.proofs.OwnSteps.{Made, both_entered, made_is, made_own}

-- what is taken of quiet deeds is quiet, and secures nothing
quiet_taken : (ds : List Deed) → AreQuiet ds → AreQuiet (filter is_entered ds)
quiet_taken [] q = refl
quiet_taken (d ∷ ds) q = by (is_entered d) (first_of (is_quiet d) (list_all is_quiet ds) q) (quiet_taken ds (second_of (is_quiet d) (list_all is_quiet ds) q))
  where
    by : (b : Bool) → is_quiet d ≡ true → AreQuiet (filter is_entered ds) → AreQuiet (if b then d ∷ filter is_entered ds else filter is_entered ds)
    by true one more = λ i. one i && more i
    by false one more = more

quiet_holds : (holds : Holding) (before : List Deed) (mail : Option Mail) (x : Site) (logged : List Held) (ds : List Deed) → AreQuiet ds → AreHoldings holds before mail x logged ds
quiet_holds holds before mail x logged [] q = tt
quiet_holds holds before mail x logged (Create a ∷ ds) q = quiet_holds holds (Create a ∷ before) mail (site_after before mail x (Create a)) logged ds q
quiet_holds holds before mail x logged (Ask a b ∷ ds) q = quiet_holds holds (Ask a b ∷ before) mail (site_after before mail x (Ask a b)) logged ds q
quiet_holds holds before mail x logged (Call a n o op c ∷ ds) q = quiet_holds holds (Call a n o op c ∷ before) mail (site_after before mail x (Call a n o op c)) logged ds q
quiet_holds holds before mail x logged (Perform a n answer ∷ ds) q = quiet_holds holds (Perform a n answer ∷ before) mail (site_after before mail x (Perform a n answer)) logged ds q
quiet_holds holds before mail x logged (Bounce a n u ∷ ds) q = quiet_holds holds (Bounce a n u ∷ before) mail (site_after before mail x (Bounce a n u)) logged ds q
quiet_holds holds before mail x logged (Got a n seen ∷ ds) q = quiet_holds holds (Got a n seen ∷ before) mail (site_after before mail x (Got a n seen)) logged ds q
quiet_holds holds before mail x logged (AskCommit a v ∷ ds) q = quiet_holds holds (AskCommit a v ∷ before) mail (site_after before mail x (AskCommit a v)) logged ds q
quiet_holds holds before mail x logged (AskAbort a ∷ ds) q = quiet_holds holds (AskAbort a ∷ before) mail (site_after before mail x (AskAbort a)) logged ds q
quiet_holds holds before mail x logged (Commit a ∷ ds) q = quiet_holds holds (Commit a ∷ before) mail (site_after before mail x (Commit a)) logged ds q
quiet_holds holds before mail x logged (Abort a ∷ ds) q = quiet_holds holds (Abort a ∷ before) mail (site_after before mail x (Abort a)) logged ds q
quiet_holds holds before mail x logged (Secure f m c ∷ ds) q = absurd (cc)
quiet_holds holds before mail x logged (Inform m u b ∷ ds) q = quiet_holds holds (Inform m u b ∷ before) mail (site_after before mail x (Inform m u b)) logged ds q
quiet_holds holds before mail x logged (Crash m ∷ ds) q = absurd (cc)

-- entered deeds are taken as they are
taken_all : (ds : List Deed) → list_all is_entered ds ≡ true → filter is_entered ds ≡ ds
taken_all [] e = refl
taken_all (d ∷ ds) e =
    ap (λ (b : Bool). if b then d ∷ filter is_entered ds else filter is_entered ds) (first_of (is_entered d) (list_all is_entered ds) e)
    ∙ ap (λ (es : List Deed). d ∷ es) (taken_all ds (second_of (is_entered d) (list_all is_entered ds) e))

-- so the node's own deeds, and what is held of them, stay so
taken_made : (s : ℕ) (ds : List Deed) → Made s ds → Made s (filter is_entered ds)
taken_made s ds (inl q) = inl (quiet_taken ds q)
taken_made s ds (inr (inl m)) = inr (inl (record {
  first = m.first;
  family = m.family;
  count = m.count;
  quiet = m.quiet;
  entered = m.entered;
  is = ap (filter is_entered) m.is ∙ taken_all (m.first ++ Secure m.family s m.count ∷ []) (both_entered m.first (Secure m.family s m.count ∷ []) m.entered refl);
}))
taken_made s ds (inr (inr is)) = inr (inr (ap (filter is_entered) is))

taken_holds : (holds : Holding) (s : ℕ) (before : List Deed) (mail : Option Mail) (x : Site) (logged : List Held) (ds : List Deed) → Made s ds
    → AreHoldings holds before mail x logged ds → AreHoldings holds before mail x logged (filter is_entered ds)
taken_holds holds s before mail x logged ds (inl q) hold = quiet_holds holds before mail x logged (filter is_entered ds) (quiet_taken ds q)
taken_holds holds s before mail x logged ds (inr (inl m)) hold =
    let all : list_all is_entered ds ≡ true = ap (list_all is_entered) m.is ∙ both_entered m.first (Secure m.family s m.count ∷ []) m.entered refl in
    subst (λ (es : List Deed). AreHoldings holds before mail x logged es) (sym (taken_all ds all)) hold
taken_holds holds s before mail x logged ds (inr (inr is)) hold =
    subst (λ (es : List Deed). AreHoldings holds before mail x logged es) (sym (ap (filter is_entered) is)) tt

pub taken_may_be_logged : TakenMayBeLogged
taken_may_be_logged holds objects s history c r step may =
    let made : Made s c.event.deeds = made_is objects s history c step in
    record {
      node = may.node;
      recovered = may.recovered;
      before = may.before;
      learnt = may.learnt;
      own = made_own s (filter is_entered c.event.deeds) (taken_made s c.event.deeds made);
      holdings = taken_holds holds s (deeds_of (map as_carried history)) c.mail (site (map as_carried history)) r.held c.event.deeds made may.holdings;
    }
