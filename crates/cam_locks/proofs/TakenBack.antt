-- The newest operation is taken back: what is kept then.
use Rattle.std.proofs.Common.{◌≡◌, ℕ, ◌+◌, ◌≤◌, ◌<◌, eqb, true, false, not, List, [], ◌∷◌, ◌++◌}
use Rattle.std.proofs.Common.{length, map, get_or, suc, refl, sym, ap, subst, ◌∙◌, arith}
use Rattle.std.proofs.Math.Logic.{inl, inr}
use Rattle.std.specs.Prelude.{filter}
use Rattle.std.proofs.lemmas.Bool.{and_parts, cases_Bool}
use Rattle.cam_names.specs.declared.name.Name.{Name}
use Rattle.cam_type.specs.declared.ObjectDecl.{ObjectDecl}
use Rattle.cam_type.specs.declared.State.{State}
use Rattle.cam_type.specs.declared.Mode.{Mode}
use Rattle.cam_type.specs.Objects.{start_of}
use Rattle.cam_type.specs.Table.{mode_of}
use Rattle.cam_locks.specs.declared.LiveOp.{LiveOp}
use Rattle.cam_locks.specs.declared.versions.Version.{Version}
use Rattle.cam_locks.specs.Members.{In}
use Rattle.cam_locks.specs.declared.kept.Kept.{Kept}
use Rattle.cam_locks.specs.Site.{IndicesRise, AreFit}
use Rattle.cam_locks.specs.Granted.{IsKept, IsTakenBack}
use Rattle.cam_locks.specs.Moss.{is_on}
use Rattle.cam_locks.specs.Live.{other}
use Rattle.cam_locks.specs.Holding.{has_op, mode_eq, writes, LocksView, leaders_of, KeepsLocks}
use Rattle.cam_locks.specs.Holding.{AllLocks}
use Rattle.cam_locks.specs.Changes.{EachTo, SpoiledAt}
use Rattle.cam_locks.proofs.Indices.{rise_filter, next_at_least}
use Rattle.cam_locks.proofs.Members.{in_right, in_filter, same_op, has_member}
use Rattle.cam_locks.proofs.Slots.{kept, ops}
use Rattle.cam_locks.proofs.EachObject.{off_object, by_eq}
use Rattle.cam_locks.proofs.UntouchedLocks.{keeps_untouched}
use Rattle.cam_locks.proofs.Grants.{kept_at}
use Rattle.cam_locks.proofs.Fits.{fit_filter}
use Rattle.cam_locks.proofs.TakenSlots.{rise_split, same_index, without_last}

-- Where none has the last index, all are below it.
rise_lower : (low : ℕ) (os : List LiveOp) (i : ℕ) → low ≤ i → IndicesRise low os (i + 1)
    → ((t : LiveOp) → In t os → t.index ≡ i → ⊥) → IndicesRise low os i
rise_lower low [] i le rise none = le
rise_lower low (t ∷ os) i le rise none =
    let to : suc t.index ≤ i + 1 = next_at_least (suc t.index) os (i + 1) rise.1 in
    let apart : t.index ≡ i → ⊥ = none t (inl refl) in
    let lt : suc t.index ≤ i = grind (arith, to, apart) in
    (rise.0, rise_lower (suc t.index) os i lt rise.1 (λ u h. none u (inr h)))

-- the indices of the others rise up to the one that is taken back
pub rise_taken : (os : List LiveOp) (o : LiveOp) → IndicesRise 0 os (o.index + 1)
    → IndicesRise 0 (filter (other o.index) os) o.index
rise_taken os o rise =
    rise_lower 0 (filter (other o.index) os) o.index (omega arith)
    (rise_filter (other o.index) 0 os (o.index + 1) rise)
    (λ t h is.
    let wrong : true ≡ false = sym (in_filter (other o.index) t os h).1 ∙ ap
    (λ (i : ℕ). not (eqb o.index i)) is ∙ ap not (same_index o.index) in cc)

-- It is the one that was added last.
pub taken_is : (os before : List LiveOp) (next : ℕ) (o p : LiveOp) → IndicesRise 0 os next → In o os
    → next ≡ o.index + 1 → os ≡ before ++ p ∷ [] → next ≡ p.index + 1
    → (filter (other o.index) os ≡ before) × (o.index ≡ p.index)
taken_is os before next o p rise there is split also =
    let index : o.index ≡ p.index = omega (arith, is, also) in (
      (λ i. filter (other (index i)) (split i)) ∙ without_last before p
          (rise_split 0 before p next (subst
          (λ (xs : List LiveOp). IndicesRise 0 xs next) split rise)).0,
      index,
    )

-- What is kept of an object stays right where the newest operation is taken back, which is on
-- another.
keeps_taken : (x : ℕ) (start : State) (ns : List Name) (os : List LiveOp) (l : LocksView)
    (o : LiveOp) → IndicesRise 0 os (o.index + 1) → In o os → is_on x o ≡ false
    → KeepsLocks x start ns os (o.index + 1) l
    → KeepsLocks x start ns (filter (other o.index) os) o.index l
keeps_taken x start ns os l o rise there off keeps = record {
  start_is = left.start_is;
  leaders = λ m. record {
    rising = rise_lower 0 (leaders_of l m) o.index (omega arith) (left.leaders m).rising
        (λ t h is. not_its t (leader m t h is)
        (and_parts (is_on x t) (mode_eq (mode_of t.op) m) ((keeps.leaders m).locks t h)).0 is);
    locks = (left.leaders m).locks;
    sound = (left.leaders m).sound;
    covers = (left.leaders m).covers;
  };
  versions = record {
    rising = rise_lower 0 (map (λ v. v.last) l.versions) o.index (omega arith) left.versions.rising
        (λ t h is. not_version l.versions t h is (λ v k. k));
    locks = left.versions.locks;
    sound = left.versions.sound;
    covers = left.versions.covers;
  };
  nested = left.nested;
}
  where
    not_its : (t : LiveOp) → In t os → is_on x t ≡ true → t.index ≡ o.index → ⊥
    not_its t h on is =
        let same : t ≡ o = same_op 0 os (o.index + 1) t o rise h there is in
        let wrong : true ≡ false = sym on ∙ ap (is_on x) same ∙ off in cc

    stay : (p : LiveOp) → In p os → is_on x p ≡ true → other o.index p ≡ true
    stay p h on =
        elim (cases_Bool (eqb o.index p.index)) [
          | inl is ↦ let same : p.index ≡ o.index =
              grind (arith, is) in absurd (not_its p h on same)
          | inr apart ↦ ap not apart
        ]

    left : KeepsLocks x start ns (filter (other o.index) os) (o.index + 1) l
    left = keeps_untouched x start ns os (o.index + 1) l (other o.index) stay keeps

    leader : (m : Mode) (t : LiveOp) → In t (leaders_of l m) → t.index ≡ o.index → In t os
    leader m t h is = (keeps.leaders m).sound t h (ap (has_op os) is ∙ has_member os o there)

    not_version : (vs : List Version) (t : LiveOp) → In t (map (λ v. v.last) vs) → t.index ≡ o.index
        → ((v : Version) → In v vs → In v l.versions) → ⊥
    not_version [] t h is among = h
    not_version (v ∷ vs) t (inl e) is among =
        let at : v.last.index ≡ o.index = sym (ap (λ (p : LiveOp). p.index) e) ∙ is in
        not_its v.last (keeps.versions.sound v (among v (inl refl))
        (ap (has_op os) at ∙ has_member os o there)).0
        (and_parts (is_on x v.last) (writes v.last) (keeps.versions.locks v (among v (inl refl)))).0
        at
    not_version (v ∷ vs) t (inr h) is among = not_version vs t h is (λ w k. among w (inr k))

-- All that is kept stays right where the newest operation is taken back, with nothing kept from now
-- on of its object.
pub all_taken : (objects : List ObjectDecl) (ns : List Name) (os : List LiveOp)
    (old new : List LocksView) (o : LiveOp) → IndicesRise 0 os (o.index + 1) → In o os
    → EachTo (SpoiledAt o.object) old new → AllLocks objects ns os (o.index + 1) old
    → AllLocks objects ns (filter (other o.index) os) o.index new
all_taken objects ns os old new o rise there each all x l lt stale =
    let within : x < length old = subst (λ (k : ℕ). x < k) each.len lt in
    elim (by_eq x o.object) [
      | inl same ↦ let wrong : true ≡ false = sym ((each.each x l within).here same) ∙ stale in cc
      | inr apart ↦
          let change = (each.each x l within).elsewhere apart in
          let was : (get_or old x l).stale ≡ false =
          sym (ap (λ (k : LocksView). k.stale) change) ∙ stale in
          subst (λ (k : LocksView). KeepsLocks x (start_of objects x) ns
          (filter (other o.index) os) o.index k) (sym change)
          (keeps_taken x (start_of objects x) ns os (get_or old x l) o rise there
          (off_object x o apart) (all x l within was))
    ]

-- Where the operation was live whose index was given last it is taken back,
pub taken_back : (old new : Kept) (o : LiveOp) → IsKept old → In o old.live.ops
    → old.live.next ≡ o.index + 1 → new.objects ≡ old.objects → new.committed ≡ old.committed
    → new.live.ops ≡ filter (other o.index) old.live.ops → new.live.next ≡ o.index
    → EachTo (SpoiledAt o.object) old.locks.items new.locks.items
    → IsTakenBack old new
taken_back old new o kept there is objects committed ops next spoiled = record {
  kept =
      kept_at old.objects old.committed.names
      (filter (other o.index) old.live.ops) o.index new objects (λ i. (committed i).names) ops next
      (rise_taken old.live.ops o risen) (omega (arith, range, is))
      (all_taken old.objects old.committed.names old.live.ops old.locks.items new.locks.items o
      risen there spoiled
      (subst (λ (n : ℕ). AllLocks old.objects old.committed.names old.live.ops n old.locks.items) is
      kept.locks));
  objects = objects;
  committed = committed;
  fit = λ node fits. subst (AreFit old.objects node) (sym ops)
      (fit_filter old.objects node (other o.index) old.live.ops fits);
  taken = λ before p split also.
      let r = taken_is old.live.ops before old.live.next o p kept.rising there is split also in
      (ops ∙ r.0, next ∙ r.1);
}
  where
    risen : IndicesRise 0 old.live.ops (o.index + 1)
    risen = subst (λ (n : ℕ). IndicesRise 0 old.live.ops n) is kept.rising

    range : old.live.next ≤ 1000000000
    range = kept.range

-- and else nothing changes.
pub none_taken : (old : Kept) → IsKept old
    → ((o : LiveOp) → In o old.live.ops → old.live.next ≡ o.index + 1 → ⊥) → IsTakenBack old old
none_taken old kept none = record {
  kept = kept;
  objects = refl;
  committed = refl;
  fit = λ node fits. fits;
  taken = λ before p split also. absurd
      (none p (subst (λ (os : List LiveOp). In p os) (sym split)
      (in_right p before (p ∷ []) (inl refl))) also);
}
