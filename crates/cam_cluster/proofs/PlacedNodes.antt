-- A list of nodes of which one has changed, and what may be read from their disks.
use Rattle.std.proofs.Common.{None, refl, ◌≡◌, ℕ, suc, ◌+◌, ◌-◌, ◌≤◌, ◌<◌, Bool, true, List, length}
use Rattle.std.proofs.Common.{get_or, set, Option, Some, sym, ap, ◌∙◌, subst, arith}
use Rattle.std.specs.Prelude.{map, slice_get, option_map, IfSome, OnErr, Result, Ok, Err}
use Rattle.std.proofs.lemmas.List.{get_or-set_same, length-map}
use Rattle.std.proofs.lemmas.Option.{same_Some, slice_get-map, slice_get-get_or}
use Rattle.cam_node.specs.Log.{Logged}
use Rattle.cam_cluster.specs.Works.{MayReadAt}
use Rattle.cam_cluster.proofs.WorksNodes.{at_set, off_set}

pub on_err : {T E : Type 0} (result : Result T E) (P : Type 0) → P → OnErr result P
on_err (Ok x) P holds = tt
on_err (Err e) P holds = holds

-- the node that is taken from a place
pub taken_there : {N : Type 0} (nodes : List N) (place : ℕ) (node : N) → place < length nodes
    → node ≡ get_or nodes place node → slice_get nodes place ≡ Some node
taken_there nodes place node within is =
    slice_get-get_or nodes place node within ∙ ap Some (sym is)

pub seen_there : {N F : Type 0} (f : N → F) (nodes : List N) (place : ℕ) (node : N)
    → slice_get nodes place ≡ Some node → slice_get (map f nodes) place ≡ Some (f node)
seen_there f nodes place node at = slice_get-map f nodes place ∙ ap (option_map f) at

pub holds_there : {N : Type 0} (P : N → Type 0) (nodes : List N) (place : ℕ) (node : N)
    → slice_get nodes place ≡ Some node → IfSome (slice_get nodes place) P → P node
holds_there P nodes place node at holds = subst (λ (o : Option _). IfSome o P) at holds

pub asked_there : {N : Type 0} (P : N → Type 0) (nodes now : List N) (place : ℕ) (node : N)
    → now ≡ nodes → place < length nodes → node ≡ get_or now place node
    → IfSome (slice_get nodes place) P → P node
asked_there {N} P nodes now place node same within is holds =
    holds_there P nodes place _ (taken_there _ _ _ within (is ∙ ap (λ (ns : List N). get_or ns
    place node) same)) holds

-- what holds of the node that stands at a place
pub one_there : {N : Type 0} (P : N → Type 0) (nodes : List N) (place : ℕ) (node : N)
    → slice_get nodes place ≡ Some node → P node → IfSome (slice_get nodes place) P
one_there P nodes place node at holds = rw at holds

-- what holds of the node that stands at a place, whichever it is
pub each_there : {N : Type 0} (P : N → Type 0) (nodes : List N) (place : ℕ)
    → ((node : N) → slice_get nodes place ≡ Some node → P node) → IfSome (slice_get nodes place) P
each_there {N} P nodes place each = by (slice_get nodes place) refl
  where
    by : (o : Option N) → slice_get nodes place ≡ o → IfSome o P
    by None at = tt
    by (Some node) at = each node at

-- as many are seen
pub sees : {N F : Type 0} (f : N → F) (nodes : List N) (place : ℕ) → place < length nodes
    → place < length (map f nodes)
sees f nodes place there = rw (length-map nodes f) there

-- the number of a place
pub after_is : (place : ℕ) → place + 1 ≡ suc place
after_is place = omega arith

-- the node that was put there
pub put_there : {N : Type 0} (nodes : List N) (place : ℕ) (new node : N) → place < length nodes
    → node ≡ get_or (set nodes place new) place node → node ≡ new
put_there nodes place new node within is = is ∙ get_or-set_same nodes place new node within

-- of another node the same may be read
pub reads_elsewhere : {N : Type 0} (tells : N → Bool) (may : N → Logged → Type 0) (nodes : List N)
    (place : ℕ) (node : N) (s : ℕ) (logged : Logged) → 1 ≤ s → (s ≡ place + 1 → ⊥)
    → MayReadAt tells may (set nodes place node) s logged → MayReadAt tells may nodes s logged
reads_elsewhere tells may nodes place node s logged low away read = record {
  node = read.node;
  at = sym (off_set nodes _ _ node (λ e. away (omega (arith, e, low)))) ∙ read.at;
  told = read.told;
  reads = read.reads;
}

-- and of the one that has changed what may be read of it
pub reads_there : {N : Type 0} (tells : N → Bool) (may : N → Logged → Type 0) (nodes : List N)
    (place : ℕ) (node : N) (logged : Logged) → place < length nodes
    → MayReadAt tells may (set nodes place node) (place + 1) logged
    → (tells node ≡ true) × may node logged
reads_there {N} tells may nodes place node logged within read =
    (ap tells here ∙ read.told, rw here read.reads)
  where
    back : place ≡ place + 1 - 1
    back = omega arith

    here : node ≡ read.node
    here =
        same_Some node read.node (sym (at_set _ _ node within) ∙ ap (slice_get (set nodes place
        node)) back ∙ read.at)
