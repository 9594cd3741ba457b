-- What quiet deeds leave of a site: its count and replies, and of its live operations those that no Inform drops.
use Rattle.std.proofs.Common.{◌≡◌, ℕ, eqb, Bool, true, false, not, cond, ◌&&◌, ◌||◌, List, [], ◌∷◌, ◌++◌, map, filter, Option, sym, ap, ◌∙◌, refl, eq-eqb}
use Rattle.std.specs.List.{list_any, list_all}
use Rattle.std.proofs.lemmas.Bool.{and_parts}
use Rattle.std.proofs.lemmas.List.Folds.{list_any-append}
use Rattle.cam_names.specs.declared.name.Name.{Name}
use Rattle.cam_names.specs.Names.{name_eq, ancestors, is_ancestor}
use Rattle.cam_names.proofs.Names.{ancestors_any, name_eq_sym}
use Rattle.cam_event.specs.declared.Deed.{Deed}
use Rattle.cam_event.specs.declared.Deed.TheVariants.{Create, Ask, Call, Perform, Bounce, Got, AskCommit, AskAbort, Commit, Abort, Secure, Inform, Crash}
use Rattle.cam_event.specs.History.{after, count, is_inform}
use Rattle.cam_event.specs.Inputs.{Mail}
use Rattle.cam_event.specs.Rules.{informs, sorted_names}
use Rattle.cam_event.specs.Sights.{kept_reply}
use Rattle.cam_event.specs.HeldSites.{Placed, Site, site_after, site_after_all}
use Rattle.cam_event.proofs.Snoc.{filter_filter, filter_same}
use Rattle.cam_event.proofs.LiveLaws.{list_any_or}
use Rattle.cam_event.proofs.SortedNames.{sorted_any}
use Rattle.cam_know.proofs.Or.{or_nothing}
use Rattle.cam_server.specs.Events.{is_quiet, AreQuiet, informs_abort, informs_commit}

-- whether an operation of the site is of an action below one of these
abbrev pub is_down : (Name → Bool) → Placed → Bool
is_down down p = list_any down (ancestors p.operation.action)

abbrev pub left : (Name → Bool) → List Placed → List Placed
left down ps = filter (λ p. not (is_down down p)) ps

pub any_false : (us : List Name) → list_any (λ u. false) us ≡ false
any_false [] = refl
any_false (u ∷ us) = any_false us

keeps_all : (ps : List Placed) → ps ≡ left (λ u. false) ps
keeps_all [] = refl
keeps_all (p ∷ ps) =
    ap (λ (qs : List Placed). p ∷ qs) (keeps_all ps)
    ∙ (λ i. cond (not (sym (any_false (ancestors p.operation.action)) i)) (p ∷ left (λ u. false) ps) (left (λ u. false) ps))

-- an Inform of the own site drops what is below its action
drops : (s site : ℕ) (b : Name) (ps : List Placed) → eqb s site ≡ true
    → filter (λ p. not (is_ancestor b p.operation.action)) ps ≡ left (λ u. is_inform s u false (Inform site b false)) ps
drops s site b ps here =
    filter_same (λ p. not (is_ancestor b p.operation.action)) (λ p. not (is_down (λ u. is_inform s u false (Inform site b false)) p)) ps (λ p. ap not (below p.operation.action))
  where
    below : (a : Name) → is_ancestor b a ≡ list_any (λ u. eqb s site && name_eq u b) (ancestors a)
    below a =
        sym (ancestors_any b a) ∙ ap (λ t. list_any t (ancestors a)) (λ i u. name_eq_sym b u i)
        ∙ ap (λ t. list_any t (ancestors a)) (λ i u. sym here i && name_eq u b)

-- what one deed leaves
live_after : (s : ℕ) (L : List Deed) (mail : Option Mail) (at : Site) (d : Deed) → is_quiet s d ≡ true
    → (site_after L mail at d).live ≡ left (λ u. is_inform s u false d) at.live
live_after s L mail at (Create a) quiet = keeps_all at.live
live_after s L mail at (Ask a b) quiet = keeps_all at.live
live_after s L mail at (Call a n x op c) quiet = keeps_all at.live
live_after s L mail at (Perform a n answer) quiet = cc
live_after s L mail at (Bounce a n u) quiet = cc
live_after s L mail at (Got a n seen) quiet = keeps_all at.live
live_after s L mail at (AskCommit a v) quiet = keeps_all at.live
live_after s L mail at (AskAbort a) quiet = keeps_all at.live
live_after s L mail at (Commit a) quiet = keeps_all at.live
live_after s L mail at (Abort a) quiet = keeps_all at.live
live_after s L mail at (Secure f site c) quiet = keeps_all at.live
live_after s L mail at (Inform site b true) quiet = keeps_all at.live
live_after s L mail at (Inform site b false) quiet = drops s site b at.live quiet
live_after s L mail at (Crash site) quiet = cc

not_or : (a b : Bool) → (not a && not b) ≡ not (a || b)
not_or true b = refl
not_or false b = refl

-- and what all of them leave
pub quiet_live : (s : ℕ) (L : List Deed) (mail : Option Mail) (at : Site) (ds : List Deed) → AreQuiet s ds
    → (site_after_all L mail at ds).live ≡ left (informs_abort s ds) at.live
quiet_live s L mail at [] quiet = keeps_all at.live
quiet_live s L mail at (d ∷ ds) quiet =
    let parts = and_parts (is_quiet s d) (list_all (is_quiet s) ds) quiet in
    quiet_live s (d ∷ L) mail (site_after L mail at d) ds parts.1
    ∙ ap (left (informs_abort s ds)) (live_after s L mail at d parts.0)
    ∙ filter_filter (λ p. not (is_down (informs_abort s ds) p)) (λ p. not (is_down (λ u. is_inform s u false d) p)) at.live
    ∙ filter_same (λ p. not (is_down (λ u. is_inform s u false d) p) && not (is_down (informs_abort s ds) p)) (λ p. not (is_down (informs_abort s (d ∷ ds)) p)) at.live
    (λ p. not_or (is_down (λ u. is_inform s u false d) p) (is_down (informs_abort s ds) p)
    ∙ ap not (sym (list_any_or (λ u. is_inform s u false d) (informs_abort s ds) (ancestors p.operation.action))))

count_one : (s r : ℕ) (d : Deed) (L : List Deed) → is_quiet s d ≡ true → count (d ∷ L) r ≡ count L r
count_one s r (Create a) L quiet = refl
count_one s r (Ask a b) L quiet = refl
count_one s r (Call a n x op c) L quiet = refl
count_one s r (Perform a n answer) L quiet = refl
count_one s r (Bounce a n u) L quiet = refl
count_one s r (Got a n seen) L quiet = refl
count_one s r (AskCommit a v) L quiet = refl
count_one s r (AskAbort a) L quiet = refl
count_one s r (Commit a) L quiet = refl
count_one s r (Abort a) L quiet = refl
count_one s r (Secure f site c) L quiet = refl
count_one s r (Inform site b committed) L quiet = refl
count_one s r (Crash site) L quiet = cc

reply_one : (s : ℕ) (d : Deed) (L : List Deed) (a : Name) (n : ℕ) → is_quiet s d ≡ true
    → kept_reply (d ∷ L) a n ≡ kept_reply L a n
reply_one s (Create b) L a n quiet = refl
reply_one s (Ask b c) L a n quiet = refl
reply_one s (Call b m x op c) L a n quiet = refl
reply_one s (Perform b m answer) L a n quiet = cc
reply_one s (Bounce b m u) L a n quiet = cc
reply_one s (Got b m seen) L a n quiet = refl
reply_one s (AskCommit b v) L a n quiet = refl
reply_one s (AskAbort b) L a n quiet = refl
reply_one s (Commit b) L a n quiet = refl
reply_one s (Abort b) L a n quiet = refl
reply_one s (Secure f site c) L a n quiet = refl
reply_one s (Inform site b committed) L a n quiet = refl
reply_one s (Crash site) L a n quiet = cc

pub quiet_count : (s r : ℕ) (ds L : List Deed) → AreQuiet s ds → count (after L ds) r ≡ count L r
quiet_count s r [] L quiet = refl
quiet_count s r (d ∷ ds) L quiet =
    let parts = and_parts (is_quiet s d) (list_all (is_quiet s) ds) quiet in
    quiet_count s r ds (d ∷ L) parts.1 ∙ count_one s r d L parts.0

pub quiet_reply : (s : ℕ) (ds L : List Deed) (a : Name) (n : ℕ) → AreQuiet s ds
    → kept_reply (after L ds) a n ≡ kept_reply L a n
quiet_reply s [] L a n quiet = refl
quiet_reply s (d ∷ ds) L a n quiet =
    let parts = and_parts (is_quiet s d) (list_all (is_quiet s) ds) quiet in
    quiet_reply s ds (d ∷ L) a n parts.1 ∙ reply_one s d L a n parts.0

-- Informs of the own site are quiet,
all_inform : (s : ℕ) (committed : Bool) (names : List Name) (ds : List Deed) → AreQuiet s ds
    → AreQuiet s (map (λ a. Inform s a committed) names ++ ds)
all_inform s committed [] ds quiet = quiet
all_inform s committed (a ∷ names) ds quiet = ap (λ b. b && list_all (is_quiet s) (map (λ a. Inform s a committed) names ++ ds)) (eq-eqb s s refl) ∙ all_inform s committed names ds quiet

none_more : (ds : List Deed) → ds ++ [] ≡ ds
none_more [] = refl
none_more (d ∷ ds) = ap (λ (es : List Deed). d ∷ es) (none_more ds)

pub informs_quiet : (s : ℕ) (aborts commits : List Name) → AreQuiet s (informs s aborts commits)
informs_quiet s aborts commits =
    all_inform s false (sorted_names aborts) (map (λ a. Inform s a true) (sorted_names commits))
    (ap (λ (ds : List Deed). list_all (is_quiet s) ds) (sym (none_more (map (λ a. Inform s a true) (sorted_names commits)))) ∙ all_inform s true (sorted_names commits) [] refl)

-- and inform it of these names.
map_same : (s : ℕ) (u : Name) (committed : Bool) (names : List Name)
    → list_any (is_inform s u committed) (map (λ a. Inform s a committed) names) ≡ list_any (name_eq u) names
map_same s u committed [] = refl
map_same s u true (a ∷ names) = λ i. (eq-eqb s s refl i && name_eq u a) || map_same s u true names i
map_same s u false (a ∷ names) = λ i. (eq-eqb s s refl i && name_eq u a) || map_same s u false names i

map_abort : (s : ℕ) (u : Name) (names : List Name)
    → list_any (is_inform s u true) (map (λ a. Inform s a false) names) ≡ false
map_abort s u [] = refl
map_abort s u (a ∷ names) = map_abort s u names

map_commit : (s : ℕ) (u : Name) (names : List Name)
    → list_any (is_inform s u false) (map (λ a. Inform s a true) names) ≡ false
map_commit s u [] = refl
map_commit s u (a ∷ names) = map_commit s u names

pub aborts_informed : (s : ℕ) (aborts commits : List Name) (u : Name)
    → informs_abort s (informs s aborts commits) u ≡ list_any (name_eq u) aborts
aborts_informed s aborts commits u =
    list_any-append (is_inform s u false) (map (λ a. Inform s a false) (sorted_names aborts)) (map (λ a. Inform s a true) (sorted_names commits))
    ∙ (λ i. map_same s u false (sorted_names aborts) i || map_commit s u (sorted_names commits) i)
    ∙ sym (or_nothing (list_any (name_eq u) (sorted_names aborts))) ∙ sorted_any (name_eq u) aborts

pub commits_informed : (s : ℕ) (aborts commits : List Name) (u : Name)
    → informs_commit s (informs s aborts commits) u ≡ list_any (name_eq u) commits
commits_informed s aborts commits u =
    list_any-append (is_inform s u true) (map (λ a. Inform s a false) (sorted_names aborts)) (map (λ a. Inform s a true) (sorted_names commits))
    ∙ (λ i. map_abort s u (sorted_names aborts) i || map_same s u true (sorted_names commits) i)
    ∙ sorted_any (name_eq u) commits
