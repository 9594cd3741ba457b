-- What informs a site: the news of a letter, a decision, other deeds, and one list of deeds after another.
use Rattle.std.proofs.Common.{◌≡◌, ℕ, Bool, true, false, not, ◌&&◌, ◌||◌, List, [], ◌∷◌, ◌++◌, filter, sym, ap, ap₂, ◌∙◌, refl, eq-eqb, true≢false, inl, inr}
use Rattle.std.specs.List.{list_any}
use Rattle.std.proofs.lemmas.Bool.{or_parts, cases_Bool}
use Rattle.std.proofs.lemmas.List.Folds.{list_any-append}
use Rattle.cam_names.specs.declared.name.Name.{Name}
use Rattle.cam_names.specs.Names.{name_eq, ancestors}
use Rattle.cam_know.specs.declared.Outcome.TheVariants.{Aborted, Committed}
use Rattle.cam_know.specs.Known.{is_abort_of, is_commit_of, knows_abort, knows_commit, both, news}
use Rattle.cam_know.proofs.Or.{or_associates}
use Rattle.cam_event.specs.declared.Deed.{Deed}
use Rattle.cam_event.specs.declared.Deed.TheVariants.{Create, Ask, Call, Perform, Bounce, Got, AskCommit, AskAbort, Commit, Abort, Secure, Inform, Crash}
use Rattle.cam_event.specs.History.{is_inform}
use Rattle.cam_event.specs.ByKnowledge.{new_informs}
use Rattle.cam_event.proofs.Snoc.{filter_filter, filter_same}
use Rattle.cam_event.proofs.LiveLaws.{list_any_or}
use Rattle.cam_locks.specs.declared.LiveOp.{LiveOp}
use Rattle.cam_locks.specs.Names.{has_name}
use Rattle.cam_server.specs.Server.{Server}
use Rattle.cam_server.specs.Calls.{AreInformed, aborts_in, commits_in}
use Rattle.cam_server.specs.Events.{informs_abort, informs_commit, is_any_inform, decision, NewsInform, DecisionInforms, NothingInforms, InformsJoin}
use Rattle.cam_server.proofs.Informing.{of_none, any_each}
use Rattle.cam_server.proofs.ToldOutcomes.{any_news, abort_told, commit_untold, told_aborts, told_commits}

-- The same aborts, and the same commits besides those that the site was informed of, inform it alike.
alike : (aborts commits others more : Name → Bool) (old new : Server) → ((u : Name) → aborts u ≡ others u)
    → ((u : Name) → (has_name old.table.site.committed u || commits u) ≡ (has_name old.table.site.committed u || more u))
    → AreInformed aborts commits old new → AreInformed others more old new
alike aborts commits others more old new same_aborts same_commits are =
    record {
      count = are.count;
      objects = are.objects;
      node = are.node;
      live = are.live
          ∙ filter_same (λ o. not (list_any aborts (ancestors o.action))) (λ o. not (list_any others (ancestors o.action))) old.table.site.live
          (λ o. ap not (any_each aborts others (ancestors o.action) same_aborts));
      commits_are = λ u. are.commits_are u ∙ same_commits u;
      aborts_are = λ u. are.aborts_are u ∙ ap (λ b. has_name old.table.site.aborted u || b) (same_aborts u);
      next = are.next;
      replies = are.replies;
    }

pub news_inform : NewsInform
news_inform s known brought old new informed are =
    alike (knows_abort (news (both known brought) known)) (knows_commit (news (both known brought) known))
    (informs_abort s (new_informs s brought known)) (informs_commit s (new_informs s brought known)) old new
    (λ u. any_news (is_abort_of u) known brought (abort_told known u) ∙ sym (told_aborts s known brought u))
    (λ u. by u (has_name old.table.site.committed u) refl) are
  where
    by : (u : Name) (h : Bool) → has_name old.table.site.committed u ≡ h
        → (h || knows_commit (news (both known brought) known) u) ≡ (h || informs_commit s (new_informs s brought known) u)
    by u true is = refl
    by u false is =
        elim (cases_Bool (knows_commit known u)) [
          | inl there ↦ absurd (true≢false (sym (informed u there) ∙ is))
          | inr absent ↦ any_news (is_commit_of u) known brought (λ o h. commit_untold known u o absent h) ∙ sym (told_commits s known brought u)
        ]

pub decision_informs : DecisionInforms
decision_informs s (Aborted a) old new are =
    alike (aborts_in (Aborted a ∷ [])) (commits_in (Aborted a ∷ [])) (informs_abort s (decision s (Aborted a))) (informs_commit s (decision s (Aborted a))) old new
    (λ u i. (sym (eq-eqb s s refl) i && name_eq u a) || false) (λ u. refl) are
decision_informs s (Committed a counts) old new are =
    alike (aborts_in (Committed a counts ∷ [])) (commits_in (Committed a counts ∷ [])) (informs_abort s (decision s (Committed a counts)))
    (informs_commit s (decision s (Committed a counts))) old new
    (λ u. refl) (λ u i. has_name old.table.site.committed u || ((sym (eq-eqb s s refl) i && name_eq u a) || false)) are

no_inform : (s : ℕ) (u : Name) (d : Deed) → is_any_inform d ≡ false
    → (is_inform s u false d ≡ false) × (is_inform s u true d ≡ false)
no_inform s u (Create a) none = (refl, refl)
no_inform s u (Ask a b) none = (refl, refl)
no_inform s u (Call a n x op c) none = (refl, refl)
no_inform s u (Perform a n answer) none = (refl, refl)
no_inform s u (Bounce a n v) none = (refl, refl)
no_inform s u (Got a n seen) none = (refl, refl)
no_inform s u (AskCommit a v) none = (refl, refl)
no_inform s u (AskAbort a) none = (refl, refl)
no_inform s u (Commit a) none = (refl, refl)
no_inform s u (Abort a) none = (refl, refl)
no_inform s u (Secure f site c) none = (refl, refl)
no_inform s u (Inform site b committed) none = cc
no_inform s u (Crash site) none = (refl, refl)

no_informs : (s : ℕ) (u : Name) (ds : List Deed) → list_any is_any_inform ds ≡ false
    → (informs_abort s ds u ≡ false) × (informs_commit s ds u ≡ false)
no_informs s u [] none = (refl, refl)
no_informs s u (d ∷ ds) none =
    let parts = or_parts (is_any_inform d) (list_any is_any_inform ds) none in
    let one = no_inform s u d parts.0 in
    let rest = no_informs s u ds parts.1 in
    (ap₂ (λ a b. a || b) one.0 rest.0, ap₂ (λ a b. a || b) one.1 rest.1)

pub nothing_informs : NothingInforms
nothing_informs s ds server none =
    alike (aborts_in []) (commits_in []) (informs_abort s ds) (informs_commit s ds) server server
    (λ u. sym (no_informs s u ds none).0) (λ u. ap (λ b. has_name server.table.site.committed u || b) (sym (no_informs s u ds none).1)) (of_none server)

not_or : (a b : Bool) → (not a && not b) ≡ not (a || b)
not_or true b = refl
not_or false b = refl

pub informs_join : InformsJoin
informs_join s first more old mid new are then_are =
    record {
      count = then_are.count ∙ are.count;
      objects = then_are.objects ∙ are.objects;
      node = then_are.node ∙ are.node;
      live = then_are.live ∙ ap (λ (os : List LiveOp). filter (λ o. not (down more o)) os) are.live
          ∙ filter_filter (λ o. not (down more o)) (λ o. not (down first o)) old.table.site.live
          ∙ filter_same (λ o. not (down first o) && not (down more o)) (λ o. not (down (first ++ more) o)) old.table.site.live
          (λ o. not_or (down first o) (down more o)
          ∙ ap not (sym (list_any_or (informs_abort s first) (informs_abort s more) (ancestors o.action))
          ∙ any_each (λ u. informs_abort s first u || informs_abort s more u) (informs_abort s (first ++ more)) (ancestors o.action)
          (λ u. sym (list_any-append (is_inform s u false) first more))));
      commits_are = λ u.
          then_are.commits_are u ∙ ap (λ b. b || informs_commit s more u) (are.commits_are u)
          ∙ or_associates (has_name old.table.site.committed u) (informs_commit s first u) (informs_commit s more u)
          ∙ ap (λ b. has_name old.table.site.committed u || b) (sym (list_any-append (is_inform s u true) first more));
      aborts_are = λ u.
          then_are.aborts_are u ∙ ap (λ b. b || informs_abort s more u) (are.aborts_are u)
          ∙ or_associates (has_name old.table.site.aborted u) (informs_abort s first u) (informs_abort s more u)
          ∙ ap (λ b. has_name old.table.site.aborted u || b) (sym (list_any-append (is_inform s u false) first more));
      next = then_are.next ∙ are.next;
      replies = λ a n. then_are.replies a n ∙ are.replies a n;
    }
  where
    down : List Deed → LiveOp → Bool
    down ds o = list_any (informs_abort s ds) (ancestors o.action)
