-- What an action and its home go by in two runs whose halts differ at one input.
use Rattle.std.proofs.Common.{◌≡◌, ℕ, ◌≤◌, Bool, true, false}
use Rattle.std.proofs.Common.{not, ◌&&◌, List, [], ◌∷◌}
use Rattle.std.proofs.Common.{refl, sym, ap, ◌∙◌, arith}
use Rattle.std.specs.List.{list_any}
use Rattle.std.proofs.lemmas.Bool.{true≢false, ne_eqb}
use Rattle.cam_names.specs.declared.name.Name.{Name}
use Rattle.cam_names.specs.Names.{is_ancestor, home_node}
use Rattle.cam_names.proofs.Ancestry.{is_prefix_refl}
use Rattle.cam_type.specs.declared.ObjectDecl.{ObjectDecl}
use Rattle.cam_event.specs.declared.Event.{Event}
use Rattle.cam_event.specs.Pasts.{plain_all}
use Rattle.cam_event.specs.Readings.{by_knowledge}
use Rattle.cam_event.specs.Sights.{Sight, is_present}
use Rattle.cam_event.specs.Views.{view}
use Rattle.cam_cut.proofs.BeginGood.{count_one}
use Rattle.cam_event.specs.History.{count, created, ended}
use Rattle.cam_runs.specs.Running.{Running}
use Rattle.cam_runs.specs.Requests.{home_sight}
use Rattle.cam_runs.specs.Playing.{may_go, is_stop_of}
use Rattle.cam_runs.specs.Standing.{Standing}
use Rattle.cam_histories.specs.Found.{IsFound}
use Rattle.cam_histories.proofs.PutIn.{eventless, sights_stay}
use Rattle.cam_histories.proofs.Silent.{stops_stay}
use Rattle.cam_histories.proofs.SilentViews.{view_stays}
use Rattle.cam_histories.proofs.Beside.{Beyond}

none_named : (g : Sight) → 1 ≤ count g.deeds g.node → is_present g [] ≡ false
none_named g one = ne_eqb 0 (count g.deeds g.node) (λ e. omega (arith, e, one))

module _ (objects : List ObjectDecl) (k : ℕ) (st there : Standing) (a : Name)
    (s : ℕ) (before : List Event) (e : Event) (b : Beyond objects k s before e st there)
    (off : s ≡ home_node a → ⊥)
  where
    abbrev stands : IsFound s before e st there
    stands = b.is_beyond.stands

    -- what the action's home goes by
    pub home_same : eventless (home_sight (by_knowledge objects) there.running a)
        ≡ eventless (home_sight (by_knowledge objects) st.running a)
    home_same =
        ap (λ (x : Standing). eventless (home_sight (by_knowledge objects) x.running a)) stands.is
        ∙ sights_stay objects s (home_node a) stands.behind before e stands.unseen off
        ∙ ap (λ t. eventless ((by_knowledge objects).sight t (home_node a))) (sym stands.was)

    pub view_same : is_ancestor a a ≡ true
        → view (plain_all there.running.trace) a ≡ view (plain_all st.running.trace) a
    view_same named =
        ap (λ (x : Standing). view (plain_all x.running.trace) a) stands.is
        ∙ view_stays s a named off stands.behind before e b.silent
        ∙ ap (λ t. view (plain_all t) a) (sym stands.was)

    stops_same : list_any (is_stop_of a) there.running.trace
        ≡ list_any (is_stop_of a) st.running.trace
    stops_same =
        ap (λ (x : Standing). list_any (is_stop_of a) x.running.trace) stands.is
        ∙ stops_stay a stands.behind before e (ap (λ (x : Event). x.note) b.is_beyond.event)
        ∙ ap (λ t. list_any (is_stop_of a) t) (sym stands.was)

    pub may_same : may_go (home_sight (by_knowledge objects) there.running a) there.running a
        ≡ may_go (home_sight (by_knowledge objects) st.running a) st.running a
    may_same =
        ap (λ g. created g.deeds a && not (ended g.deeds a) && is_present g a
        && not (list_any (is_stop_of a) there.running.trace)) home_same
        ∙ ap (λ x. created (home_sight (by_knowledge objects) st.running a).deeds a
        && not (ended (home_sight (by_knowledge objects) st.running a).deeds a)
        && is_present (home_sight (by_knowledge objects) st.running a) a && not x) stops_same

-- the action that may go has a name
pub may_named : (g : Sight) (r : Running) (a : Name) → may_go g r a ≡ true → is_ancestor a a ≡ true
may_named g r (p ∷ a) may = is_prefix_refl (p ∷ a)
may_named g r [] may = absurd (true≢false (sym may ∙ none (created g.deeds []) (ended g.deeds [])
    (list_any (is_stop_of []) r.trace)
    (none_named g (count_one g.deeds g.node))))
  where
    none : (x y z : Bool) → is_present g [] ≡ false
        → (x && not y && is_present g [] && not z) ≡ false
    none x y z absent = ap (λ w. x && not y && w && not z) absent ∙ by x y
      where
        by : (x y : Bool) → (x && not y && false && not z) ≡ false
        by true true = refl
        by true false = refl
        by false y = refl
