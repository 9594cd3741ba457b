-- A cluster before its first line: its nodes are new, and the disks are back where none is made.
use Rattle.std.proofs.Common.{◌≡◌, ◌∙◌, ◌+◌, ℕ, zero, suc, Bool, true, false, List, [], ◌∷◌, ◌++◌}
use Rattle.std.proofs.Common.{length, map, Ok, Err, refl, sym, ap, subst, arith, true≢false, Option}
use Rattle.std.proofs.Common.{Some, None, ◌-◌}
use Rattle.std.proofs.lemmas.List.{length-map}
use Rattle.std.proofs.lemmas.Option.{same_Some, slice_get_past}
use Rattle.std.specs.Option.{unwrap_or}
use Rattle.cam_log.specs.Spent.{Spent}
use Rattle.std.specs.Prelude.{Result, IfOk, IsFalse, slice_get}
use Rattle.cam_type.specs.declared.ObjectDecl.{ObjectDecl}
use Rattle.cam_net.specs.Waiting.{is_halted}
use Rattle.cam_names.specs.declared.name.Name.{Name}
use Rattle.cam_node.specs.Keeping.{KeepsNode}
use Rattle.cam_node.specs.Log.{Logged}
use Rattle.cam_runs.proofs.HaltedWhole.{start_is_under_halts}
use Rattle.cam_runs.specs.Standing.{start}
use Rattle.cam_script.specs.declared.Script.{Script}
use Rattle.cam_script.specs.Law.{IsScript}
use Rattle.cam_histories.proofs.Carried.{new_network_stands}
use Rattle.cam_histories.specs.Whole.{AreSitesOf, Site, StandsAt}
use Rattle.cam_cluster.specs.Between.{KeepsBetween}
use Rattle.cam_cluster.specs.Founding.{AreNewNodes, IsNewNode, before_first, new_works}
use Rattle.cam_cluster.specs.Works.{IsNodeOf, NodeFields, WorksFields, sites_of}

stands_new : (own objects : List ObjectDecl) (s : ℕ) (site : Site) → own ≡ objects
    → site.node.number ≡ s → KeepsNode own [] site.node site.entries → StandsAt objects s [] site
stands_new own objects s site same number k =
    subst (λ (z : List ObjectDecl × ℕ). StandsAt z.0 z.1 [] site) (λ i. (same i, number i))
    (record { represents = k.represents; log = record { keeps = k.keeps; order = k.order } })

-- what formatting gives is a new node
pub new_node : {N E : Type 0} (part : N → NodeFields) (result : Result N E)
    (own objects : List ObjectDecl) (s : ℕ) → own ≡ objects
    → IfOk result (λ n. KeepsNode own [] (part n).site.node (part n).site.entries)
    → IfOk result (λ n. (part n).site.node.number ≡ s)
    → IfOk result (λ n. (part n).objects ≡ own)
    → IfOk result (λ n. IsFalse (part n).halted) → IfOk result (λ n. (part n).passes ≡ None)
    → IfOk result (λ n. IsNewNode objects s (part n))
new_node part (Ok n) own objects s same keeps number over running passes = record {
  over = over ∙ same;
  running = running;
  number = number;
  stands = stands_new _ _ _ _ same number keeps;
  passes = passes;
}
new_node part (Err e) own objects s same keeps number over running passes = tt

-- one node more, the last
pub new_behind : {N : Type 0} (part : N → NodeFields) (objects : List ObjectDecl) (s at : ℕ)
    (nodes : List N) (node : N) → at ≡ s + length nodes → AreNewNodes part objects s nodes
    → IsNewNode objects at (part node) → AreNewNodes part objects s (nodes ++ node ∷ [])
new_behind part objects s at [] node place new last =
    (subst (λ k. IsNewNode objects k (part node)) (omega (arith, place)) last, tt)
new_behind part objects s at (n ∷ nodes) node place new last =
    (new.0, new_behind part objects (s + 1) at nodes node (omega (arith, place)) new.1 last)

-- a disk that is not stopped is not stopped after some calls
pub none_spent : {N E : Type 0} (passes : N → Option ℕ) (result : Result N E) (calls : ℕ)
    (before : Option ℕ) → before ≡ None → IfOk result (λ n. Spent calls before (passes n))
    → IfOk result (λ n. passes n ≡ None)
none_spent passes (Ok n) calls before none spent =
    subst (λ (o : Option ℕ). Spent calls o (passes n)) none spent
none_spent passes (Err e) calls before none spent = tt

-- the last node is added
pub new_last : {N : Type 0} (part : N → NodeFields) (objects : List ObjectDecl) (s : ℕ)
    (nodes all : List N) (node : N) → s ≡ length nodes + 1 → all ≡ nodes ++ node ∷ []
    → AreNewNodes part objects 1 nodes → IsNewNode objects s (part node)
    → AreNewNodes part objects 1 all
new_last part objects s nodes all node place is new last =
    subst (AreNewNodes part objects 1) (sym is) (new_behind _ _ _ _ _ _ (omega (arith, place))
    new last)

pub awake : (s : ℕ) → is_halted (false ∷ false ∷ false ∷ false ∷ false ∷ false ∷ false ∷ false ∷ []) s
    ≡ false
awake s = by (s - 1)
  where
    by : (k : ℕ)
        → unwrap_or (slice_get (false ∷ false ∷ false ∷ false ∷ false ∷ false ∷ false ∷ false ∷ [])
        k) false
        ≡ false
    by zero = refl
    by (suc zero) = refl
    by (suc (suc zero)) = refl
    by (suc (suc (suc zero))) = refl
    by (suc (suc (suc (suc zero)))) = refl
    by (suc (suc (suc (suc (suc zero))))) = refl
    by (suc (suc (suc (suc (suc (suc zero)))))) = refl
    by (suc (suc (suc (suc (suc (suc (suc zero))))))) = refl
    by (suc (suc (suc (suc (suc (suc (suc (suc k)))))))) = refl

abbrev is_some : {A : Type 0} → Option A → Bool
is_some None = false
is_some (Some a) = true

none_is_not : {A : Type 0} (a : A) → None ≡ Some a → ⊥
none_is_not a is = true≢false (sym (ap is_some is))

module _ {N : Type 0} (part : N → NodeFields) (objects : List ObjectDecl) where
  sites_stand : (s : ℕ) (nodes : List N) → AreNewNodes part objects s nodes
      → AreSitesOf objects start s (sites_of (map part nodes))
  sites_stand s [] new = tt
  sites_stand s (node ∷ nodes) new = (
    record { number = new.0.number; stands = λ running. new.0.stands },
    sites_stand (s + 1) nodes new.1,
  )

  node_over : (s : ℕ) (nodes : List N) (place : ℕ) (node : NodeFields)
      → AreNewNodes part objects s nodes → slice_get (map part nodes) place ≡ Some node
      → IsNodeOf objects (new_works []).halted (place + 1) node
  node_over s [] place node new at =
      absurd (none_is_not _ (sym (slice_get_past [] place (omega arith)) ∙ at))
  node_over s (n ∷ nodes) zero node new at =
      subst (IsNodeOf objects (new_works []).halted 1) (same_Some (part n) node at) (record {
        over =
            new.0.over;
        is_halted = new.0.running ∙ sym (awake 1);
      })
  node_over s (n ∷ nodes) (suc place) node new at =
      let later : IsNodeOf objects (new_works []).halted (place + 1) node =
      node_over (s + 1) nodes place node new.1 at in
      record {
        over = later.over;
        is_halted = later.is_halted ∙ awake (place + 1) ∙ sym (awake (suc place + 1));
      }

passes_none : {N : Type 0} (part : N → NodeFields) (objects : List ObjectDecl) (s : ℕ)
    (nodes : List N) (place : ℕ) (node : NodeFields) → AreNewNodes part objects s nodes
    → slice_get (map part nodes) place ≡ Some node → node.passes ≡ None
passes_none part objects s [] place node new at =
    absurd (none_is_not _ (sym (slice_get_past [] place (omega arith)) ∙ at))
passes_none part objects s (n ∷ nodes) zero node new at =
    subst (λ (x : NodeFields). x.passes ≡ None) (same_Some (part n) node at) new.0.passes
passes_none part objects s (n ∷ nodes) (suc place) node new at =
    passes_none part objects (s + 1) nodes place node new.1 at

-- They keep what a cluster keeps before its first line.
pub new_keeps : {N : Type 0} (part : N → NodeFields) (script : Script) (nodes : List N)
    (may_read : ℕ → Logged → Type 0) → IsScript script
    → AreNewNodes part script.objects 1 nodes → length nodes ≡ script.nodes
    → KeepsBetween (before_first script) (record { works = new_works (map part nodes); bound = [] })
    may_read
new_keeps part script nodes may_read is new many = record {
  is_script = is;
  keeps = record {
    runs = record {
      under = start_is_under_halts script;
      one_each = length-map nodes part ∙ many;
      eight = refl;
      nodes = λ place node at. node_over part script.objects 1 nodes place node new at;
      whole = record {
        nodes = sites_stand part script.objects 1 nodes new;
        network = new_network_stands script.objects (new_works []).halted (λ s low high. awake s);
      };
      halts = λ place node at is_halted. absurd (true≢false (sym is_halted));
      undecided = refl;
      sent = tt;
      events = refl;
      all_marks = refl;
      few = omega arith;
      stops = record {
        said = λ s away. refl;
        each = λ place node at away. record {
          awake = λ runs. passes_none _ _ _ _ _ _ new at;
          by_stop = λ is_halted. absurd (true≢false (sym is_halted));
        };
      };
    };
    variables = refl;
  };
  between = refl;
  newest = tt;
  past = tt;
  lost = λ s is. absurd (true≢false (sym is));
}

pub new_lines_keep : {N : Type 0} {works : WorksFields} {bound : List (Option Name)}
    {may_read : ℕ → Logged → Type 0} (part : N → NodeFields) (script : Script) (nodes : List N)
    → IsScript script → AreNewNodes part script.objects 1 nodes → length nodes ≡ script.nodes
    → works ≡ new_works (map part nodes) → bound ≡ []
    → KeepsBetween (before_first script) (record { works = works; bound = bound }) may_read
new_lines_keep {may_read = may_read} part script nodes is new many works_are bound_are =
    subst (λ (z : WorksFields × List (Option Name)). KeepsBetween (before_first script) (record {
      works = z.0;
      bound = z.1;
    }) may_read) (sym (λ i. (works_are i, bound_are i))) (new_keeps _ _
    _ _ is new many)
