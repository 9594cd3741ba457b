-- In a storm each deed is done at one of the four nodes, and each dependency is on one of them.
use Rattle.std.proofs.Common.{◌≡◌, inl, inr, ℕ, zero, suc, ◌+◌, ◌≤◌, Bool, true, false, ◌&&◌, if◌then◌else◌, List, [], ◌∷◌, ◌++◌, map, length, Option, Some, None, refl, sym, ap, ◌∙◌, subst, arith}
use Rattle.std.specs.Prelude.{slice_get, option_map, ◌%◌}
use Rattle.std.specs.Option.{option_map_or}
use Rattle.std.proofs.lemmas.Bool.Decides.{eqb_tells}
use Rattle.std.proofs.lemmas.Option.{same_Some}
use Rattle.cam_names.specs.declared.name.Name.{Name}
use Rattle.cam_names.specs.Names.{name_eq, is_top, is_child, home_node}
use Rattle.cam_type.specs.declared.ObjectDecl.{ObjectDecl}
use Rattle.cam_type.specs.declared.Op.{Op}
use Rattle.cam_event.specs.declared.Event.{Event}
use Rattle.cam_event.specs.declared.Seen.TheVariants as seens
use Rattle.cam_event.specs.declared.Deed.{Deed}
use Rattle.cam_event.specs.declared.Deed.TheVariants.{Create, Ask, Call, Got, Commit}
use Rattle.cam_event.specs.History.{call_of}
use Rattle.cam_event.specs.Live.{site_of}
use Rattle.cam_event.specs.Gained.{home, visited, deps}
use Rattle.cam_event.specs.Pasts.{plain, plain_all, every, in_base}
use Rattle.cam_event.specs.Inputs.{Input, event_at, node_of, got_of}
use Rattle.cam_event.proofs.Members.{In, in_append, in_after, plain_more}
use Rattle.cam_cut.proofs.DepsFacts.{in_visited}
use Rattle.cam_cut.proofs.Holds.{RunHolds}
use Rattle.cam_cut.proofs.LegalFacts.{call_in}
use Rattle.cam_cut.proofs.Lists.{slice_in}
use Rattle.cam_cut.proofs.NextEvent.{sight_of}
use Rattle.cam_cut.proofs.Pairs.{pairs_in}
use Rattle.cam_cut.proofs.Places.{PlacedAt, AllPlaced}
use Rattle.cam_cut.proofs.Step.{run_holds}
use Rattle.cam_gen.specs.Storms.{Words, numbers, register_at, objects_of}
use Rattle.cam_storm.specs.Names.{Near}
use Rattle.cam_storm.specs.Runs.{StormRun}
use Rattle.cam_storm.proofs.GatheredInputs.{storm_is_run}
use Rattle.cam_storm.proofs.Naming.{all_named}
use Rattle.cam_storm.proofs.Near.{DepsNear}

-- each object of a storm stands at one of the four nodes
slice_map : {X Y : Type 0} (f : X → Y) (xs : List X) (k : ℕ) → slice_get (map f xs) k ≡ option_map f (slice_get xs k)
slice_map f [] k = refl
slice_map f (x ∷ xs) zero = refl
slice_map f (x ∷ xs) (suc k) = slice_map f xs k

in_numbers : (n i : ℕ) → In i (numbers n) → (1 ≤ i) × (i ≤ n)
in_numbers zero i h = absurd h
in_numbers (suc n) i h = elim (in_append (numbers n) ((n + 1) ∷ []) i h) [
  | inl old ↦ let rest = in_numbers n i old in (rest.0, let x = rest.1 in omega arith)
  | inr (inl e) ↦ (omega (arith, e), omega (arith, e))
  | inr (inr r) ↦ absurd r
]

pub site_most : (words : Words) (x : ℕ) → site_of (objects_of words) x ≤ 4
site_most words x = by words.calm
  where
    calm_site : (o : Option ℕ) → option_map_or (λ (d : ObjectDecl). d.node) (option_map (λ (i : ℕ). register_at (1 + i % 4)) o) 0 ≤ 4
    calm_site None = omega arith
    calm_site (Some i) = omega arith

    rough_site : (o : Option ℕ) → slice_get (numbers 4) x ≡ o → option_map_or (λ (d : ObjectDecl). d.node) (option_map register_at o) 0 ≤ 4
    rough_site None at = omega arith
    rough_site (Some i) at = (in_numbers 4 i (slice_in (numbers 4) x i at)).1

    by : (calm : Bool) → option_map_or (λ (d : ObjectDecl). d.node) (slice_get (if calm then map (λ i. register_at (1 + i % 4)) (numbers words.actions) else map register_at (numbers 4)) x) 0 ≤ 4
    by true = subst (λ (o : Option ObjectDecl). option_map_or (λ (d : ObjectDecl). d.node) o 0 ≤ 4) (sym (slice_map (λ (i : ℕ). register_at (1 + i % 4)) (numbers words.actions) x)) (calm_site (slice_get (numbers words.actions) x))
    by false = subst (λ (o : Option ObjectDecl). option_map_or (λ (d : ObjectDecl). d.node) o 0 ≤ 4) (sym (slice_map register_at (numbers 4) x)) (rough_site (slice_get (numbers 4) x) refl)

-- a deed of the run is done at one of the four nodes
pub record DoneNear (objects : List ObjectDecl) (H : List Deed) (d : Deed) : Type 0 where
  pub node : ℕ
  pub near : Near node
  pub placed : PlacedAt objects H node d

pub deed_near : (words : Words) (t : List Event) (H : List Deed) (d : Deed) → StormRun words t → AllPlaced (objects_of words) H t → In d (plain_all t) → DoneNear (objects_of words) H d
deed_near words [] H d storm placed i = absurd i
deed_near words (e ∷ t) H d storm placed i = elim (in_after e.deeds (plain_all t) d i) [
  | inl new ↦ record { node = e.node; near = storm.0.here; placed = placed.0 d new }
  | inr old ↦ deed_near words t H d storm.1 placed.1 old
]

pub event_near : (words : Words) (t : List Event) (i : ℕ) (e : Event) → StormRun words t → event_at t i ≡ Some e → Near e.node
event_near words [] i e storm at = absurd (cc)
event_near words (x ∷ t) i e storm at = elim (eqb_tells i (length t)) [
  | inl y ↦ let same : x ≡ e = same_Some x e (sym (ap (λ (b : Bool). if b then Some x else event_at t i) y.0) ∙ at) in subst (λ (z : Event). Near z.node) same storm.0.here
  | inr n ↦ event_near words t i e storm.1 (sym (ap (λ (b : Bool). if b then Some x else event_at t i) n.0) ∙ at)
]

-- so are all dependencies
record DeedsNear (objects : List ObjectDecl) (L : List Deed) : Type 0 where
  creates : (b : Name) → In (Create b) L → Near (home_node b)
  asks : (p b : Name) → In (Ask p b) L → Near (home_node b)
  calls : (a : Name) (n x : ℕ) (op : Op) (c : ℕ) → In (Call a n x op c) L → Near (site_of objects x)

fewer_near : (objects : List ObjectDecl) (d : Deed) (L : List Deed) → DeedsNear objects (d ∷ L) → DeedsNear objects L
fewer_near objects d L h = record { creates = λ b i. h.creates b (inr i); asks = λ p b i. h.asks p b (inr i); calls = λ a n x op c i. h.calls a n x op c (inr i) }

deps_near : (objects : List ObjectDecl) (L : List Deed) (a : Name) (p : ℕ × ℕ) → DeedsNear objects L → In p (deps objects L a) → Near p.0
deps_near objects [] a p h i = absurd i
deps_near objects (Create b ∷ L) a p h i = by (name_eq a b && is_top b) i (deps_near objects L a p (fewer_near objects (Create b) L h))
  where
    by : (t : Bool) → In p (if t then home b ∷ deps objects L a else deps objects L a) → (In p (deps objects L a) → Near p.0) → Near p.0
    by true (inl e) rest = subst (λ (q : ℕ × ℕ). Near q.0) (sym e) (h.creates b (inl refl))
    by true (inr r) rest = rest r
    by false r rest = rest r
deps_near objects (Ask q b ∷ L) a p h i = by (name_eq a b) i (deps_near objects L a p (fewer_near objects (Ask q b) L h)) (deps_near objects L q p (fewer_near objects (Ask q b) L h))
  where
    by : (t : Bool) → In p (if t then home b ∷ deps objects L q ++ deps objects L a else deps objects L a) → (In p (deps objects L a) → Near p.0) → (In p (deps objects L q) → Near p.0) → Near p.0
    by true (inl e) rest other = subst (λ (r : ℕ × ℕ). Near r.0) (sym e) (h.asks q b (inl refl))
    by true (inr r) rest other = elim (in_append (deps objects L q) (deps objects L a) p r) [ inl x ↦ other x | inr y ↦ rest y ]
    by false r rest other = rest r
deps_near objects (Got b n (seens.Done answer) ∷ L) a p h i = by (name_eq a b) i (deps_near objects L a p (fewer_near objects (Got b n (seens.Done answer)) L h))
  where
    by : (t : Bool) → In p (if t then visited objects (call_of L b n) ++ deps objects L a else deps objects L a) → (In p (deps objects L a) → Near p.0) → Near p.0
    by true r rest = elim (in_append (visited objects (call_of L b n)) (deps objects L a) p r) [
      | inl x ↦
          let seen = in_visited objects (call_of L b n) p x in
          subst (λ (q : ℕ × ℕ). Near q.0) (sym seen.2) (h.calls b n seen.0.object seen.0.op seen.0.count (inr (call_in L b n seen.0 seen.1)))
      | inr y ↦ rest y
    ]
    by false r rest = rest r
deps_near objects (Commit b ∷ L) a p h i = by (is_child a b) i (deps_near objects L a p (fewer_near objects (Commit b) L h)) (deps_near objects L b p (fewer_near objects (Commit b) L h))
  where
    by : (t : Bool) → In p (if t then deps objects L b ++ deps objects L a else deps objects L a) → (In p (deps objects L a) → Near p.0) → (In p (deps objects L b) → Near p.0) → Near p.0
    by true r rest other = elim (in_append (deps objects L b) (deps objects L a) p r) [ inl x ↦ other x | inr y ↦ rest y ]
    by false r rest other = rest r
deps_near objects (d ∷ L) a p h i = deps_near objects L a p (fewer_near objects d L h) i

-- what stands before an event of the storm
run_near : (words : Words) (t : List Event) → StormRun words t → DeedsNear (objects_of words) (plain_all t)
run_near words t storm =
    let objects : List ObjectDecl = objects_of words in
    let run : RunHolds objects t = run_holds objects t (storm_is_run words t storm) in
    record {
      creates = λ b i. let d = deed_near words t (plain_all t) (Create b) storm run.placed i in subst Near (sym d.placed) d.near;
      asks = λ p b i. let named = (all_named words t storm).asked p b i in (named.near, named.far);
      calls = λ a n x op c i. let is = run.ranged (Call a n x op c) i in (is.0.0, site_most words x);
    }

base_near : (words : Words) (t : List Event) (S : ℕ → Bool) → StormRun words t → DeedsNear (objects_of words) (plain t S)
base_near words t S storm =
    let all = run_near words t storm in
    let more : (d : Deed) → In d (plain t S) → In d (plain_all t) = plain_more t S every (λ k h. refl) in
    record { creates = λ b i. all.creates b (more (Create b) i); asks = λ p b i. all.asks p b (more (Ask p b) i); calls = λ a n x op c i. all.calls a n x op c (more (Call a n x op c) i) }

pub sight_near : (words : Words) (t : List Event) (input : Input) → StormRun words t → DepsNear (sight_of (objects_of words) t input)
sight_near words t input storm a p i =
    let objects : List ObjectDecl = objects_of words in
    let S : ℕ → Bool = in_base t (node_of t input) (got_of input) in
    deps_near objects (plain t S) a p (base_near words t S storm) (pairs_in (deps objects (plain t S) a) p i)
