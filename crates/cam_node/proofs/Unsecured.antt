-- Deeds without a Secure leave what is secured, and ask nothing of what is held.
use Rattle.std.proofs.Common.{◌≡◌, ◌∙◌, ℕ, Bool, true, false, ◌||◌, List, [], ◌∷◌, ◌++◌, map, Option, refl}
use Rattle.std.specs.List.{list_any}
use Rattle.std.proofs.lemmas.List.Folds.{list_any-append}
use Rattle.cam_names.specs.declared.name.Name.{Name}
use Rattle.cam_type.specs.declared.Held.{Held}
use Rattle.cam_know.specs.Knowledge.{Knowledge}
use Rattle.cam_know.specs.Known.{new_aborts, new_commits}
use Rattle.cam_event.specs.declared.Deed.{Deed}
use Rattle.cam_event.specs.declared.Deed.TheVariants.{Create, Ask, Call, Perform, Bounce, Got, AskCommit, AskAbort, Commit, Abort, Secure, Inform, Crash}
use Rattle.cam_event.specs.History.{after}
use Rattle.cam_event.specs.Inputs.{Mail}
use Rattle.cam_event.specs.Rules.{sorted_names}
use Rattle.cam_event.specs.ByKnowledge.{new_informs}
use Rattle.cam_event.specs.HeldSites.{Site, site_after, site_after_all}
use Rattle.cam_node.specs.Entries.{Holding, AreHoldings}
use Rattle.cam_node.specs.LogOrder.{is_any_secure}

-- They leave what is secured,
pub same_secured : (ds L : List Deed) (mail : Option Mail) (at : Site)
    → list_any is_any_secure ds ≡ false → (site_after_all L mail at ds).secured ≡ at.secured
same_secured [] L mail at none = refl
same_secured (Create a ∷ ds) L mail at none = same_secured ds (Create a ∷ L) mail at none
same_secured (Ask a b ∷ ds) L mail at none = same_secured ds (Ask a b ∷ L) mail at none
same_secured (Call a n x op c ∷ ds) L mail at none =
    same_secured ds (Call a n x op c ∷ L) mail at none
same_secured (Perform a n answer ∷ ds) L mail at none =
    same_secured ds (Perform a n answer ∷ L) mail (site_after L mail at (Perform a n answer)) none
same_secured (Bounce a n u ∷ ds) L mail at none = same_secured ds (Bounce a n u ∷ L) mail at none
same_secured (Got a n seen ∷ ds) L mail at none = same_secured ds (Got a n seen ∷ L) mail at none
same_secured (AskCommit a v ∷ ds) L mail at none = same_secured ds (AskCommit a v ∷ L) mail at none
same_secured (AskAbort a ∷ ds) L mail at none = same_secured ds (AskAbort a ∷ L) mail at none
same_secured (Commit a ∷ ds) L mail at none = same_secured ds (Commit a ∷ L) mail at none
same_secured (Abort a ∷ ds) L mail at none = same_secured ds (Abort a ∷ L) mail at none
same_secured (Secure f s c ∷ ds) L mail at none = cc
same_secured (Inform s u true ∷ ds) L mail at none =
    same_secured ds (Inform s u true ∷ L) mail at none
same_secured (Inform s u false ∷ ds) L mail at none =
    same_secured ds (Inform s u false ∷ L) mail (site_after L mail at (Inform s u false)) none
same_secured (Crash s ∷ ds) L mail at none =
    same_secured ds (Crash s ∷ L) mail (site_after L mail at (Crash s)) none

-- and ask nothing of what is held.
pub holdings_behind : (holds : Holding) (ds rest L : List Deed) (mail : Option Mail) (at : Site)
    (logged : List Held) → list_any is_any_secure ds ≡ false
    → AreHoldings holds (after L ds) mail (site_after_all L mail at ds) logged rest
    → AreHoldings holds L mail at logged (ds ++ rest)
holdings_behind holds [] rest L mail at logged none hold = hold
holdings_behind holds (Create a ∷ ds) rest L mail at logged none hold =
    holdings_behind holds ds rest (Create a ∷ L) mail at logged none hold
holdings_behind holds (Ask a b ∷ ds) rest L mail at logged none hold =
    holdings_behind holds ds rest (Ask a b ∷ L) mail at logged none hold
holdings_behind holds (Call a n x op c ∷ ds) rest L mail at logged none hold =
    holdings_behind holds ds rest (Call a n x op c ∷ L) mail at logged none hold
holdings_behind holds (Perform a n answer ∷ ds) rest L mail at logged none hold =
    holdings_behind holds ds rest (Perform a n answer ∷ L) mail
    (site_after L mail at (Perform a n answer)) logged none hold
holdings_behind holds (Bounce a n u ∷ ds) rest L mail at logged none hold =
    holdings_behind holds ds rest (Bounce a n u ∷ L) mail at logged none hold
holdings_behind holds (Got a n seen ∷ ds) rest L mail at logged none hold =
    holdings_behind holds ds rest (Got a n seen ∷ L) mail at logged none hold
holdings_behind holds (AskCommit a v ∷ ds) rest L mail at logged none hold =
    holdings_behind holds ds rest (AskCommit a v ∷ L) mail at logged none hold
holdings_behind holds (AskAbort a ∷ ds) rest L mail at logged none hold =
    holdings_behind holds ds rest (AskAbort a ∷ L) mail at logged none hold
holdings_behind holds (Commit a ∷ ds) rest L mail at logged none hold =
    holdings_behind holds ds rest (Commit a ∷ L) mail at logged none hold
holdings_behind holds (Abort a ∷ ds) rest L mail at logged none hold =
    holdings_behind holds ds rest (Abort a ∷ L) mail at logged none hold
holdings_behind holds (Secure f s c ∷ ds) rest L mail at logged none hold = cc
holdings_behind holds (Inform s u b ∷ ds) rest L mail at logged none hold =
    holdings_behind holds ds rest (Inform s u b ∷ L) mail
    (site_after L mail at (Inform s u b)) logged none hold
holdings_behind holds (Crash s ∷ ds) rest L mail at logged none hold =
    holdings_behind holds ds rest (Crash s ∷ L) mail
    (site_after L mail at (Crash s)) logged none hold

-- The first Informs are such.
names_unsecured : (s : ℕ) (o : Bool) (names : List Name)
    → list_any is_any_secure (map (λ a. Inform s a o) names) ≡ false
names_unsecured s o [] = refl
names_unsecured s o (a ∷ names) = names_unsecured s o names

pub informs_unsecured : (s : ℕ) (brought known : Knowledge)
    → list_any is_any_secure (new_informs s brought known) ≡ false
informs_unsecured s brought known =
    list_any-append is_any_secure
    (map (λ a. Inform s a false) (sorted_names (new_aborts brought known)))
    (map (λ a. Inform s a true) (sorted_names (new_commits brought known)))
    ∙ (λ i. names_unsecured s false (sorted_names (new_aborts brought known)) i
    || names_unsecured s true (sorted_names (new_commits brought known)) i)
