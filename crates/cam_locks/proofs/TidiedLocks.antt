-- What need not be kept can be left out.
use Rattle.std.proofs.Common.{◌≡◌, ◌⊎◌, ℕ, ◌≤◌, ◌<◌, Bool, true, false, not, ◌||◌, if◌then◌else◌, List, [], ◌∷◌, ◌++◌, map, Option, Some, None, suc, refl, sym, ap, subst, ◌∙◌, arith}
use Rattle.std.proofs.Math.Logic.{inl, inr}
use Rattle.std.specs.Prelude.{is_none, filter}
use Rattle.std.specs.List.{list_any}
use Rattle.std.proofs.lemmas.List.{map-append, append_assoc, append-nil}
use Rattle.std.proofs.lemmas.Bool.{and_parts}
use Rattle.cam_names.specs.declared.name.Name.{Name}
use Rattle.cam_type.specs.declared.State.{State}
use Rattle.cam_type.specs.declared.Mode.{Mode}
use Rattle.cam_locks.specs.declared.LiveOp.{LiveOp}
use Rattle.cam_locks.specs.declared.versions.Version.{Version}
use Rattle.cam_locks.specs.Members.{In}
use Rattle.cam_locks.specs.Site.{IndicesRise}
use Rattle.cam_locks.specs.Holding.{has_op, IsLeader, KeepsLeaders, IsVersionOf, KeepsVersions}
use Rattle.cam_locks.specs.Moss.{lift_in}
use Rattle.cam_locks.specs.Changes.{lift_eq, leads, holder_in, has_ended, is_outdated}
use Rattle.cam_locks.proofs.Indices.{rise_from_lower, rise_filter}
use Rattle.cam_locks.proofs.Members.{in_left, in_right, in_either, in_filter, in_filtered, above, has_member, any_member}
use Rattle.cam_locks.proofs.Bools.{not_true, none_is}
use Rattle.cam_locks.proofs.Lifts.{lift_eq_same}

rise_without : (low : ℕ) (os : List LiveOp) (p : LiveOp) (qs : List LiveOp) (next : ℕ) → IndicesRise low (os ++ p ∷ qs) next → IndicesRise low (os ++ qs) next
rise_without low [] p qs next h = let from : low ≤ p.index = h.0 in rise_from_lower (suc p.index) low qs next (omega arith) h.1
rise_without low (o ∷ os) p qs next h = (h.0, rise_without (suc o.index) os p qs next h.1)

-- what stands before p has lesser indices, and what stands behind it greater ones
rise_before : (low : ℕ) (os : List LiveOp) (p : LiveOp) (qs : List LiveOp) (next : ℕ) (s : LiveOp) → IndicesRise low (os ++ p ∷ qs) next → In s os → s.index < p.index
rise_before low [] p qs next s h k = absurd k
rise_before low (o ∷ os) p qs next s h (inl e) =
    let on : suc o.index ≤ p.index = above (suc o.index) (os ++ p ∷ qs) next p h.1 (in_right p os (p ∷ qs) (inl refl)) in
    let same : s.index ≡ o.index = ap (λ (r : LiveOp). r.index) e in omega arith
rise_before low (o ∷ os) p qs next s h (inr k) = rise_before (suc o.index) os p qs next s h.1 k

rise_behind : (low : ℕ) (os : List LiveOp) (p q : LiveOp) (next : ℕ) → IndicesRise low (os ++ p ∷ q ∷ []) next → p.index < q.index
rise_behind low [] p q next h = let on : suc p.index ≤ q.index = h.1.0 in omega arith
rise_behind low (o ∷ os) p q next h = rise_behind (suc o.index) os p q next h.1

or_cases : (a b : Bool) → (a || b) ≡ true → (a ≡ true) ⊎ (b ≡ true)
or_cases true b h = inl refl
or_cases false b h = inr h

holder_of_live : (ns : List Name) (os : List LiveOp) (t : LiveOp) (u : Name) → In t os → lift_in ns t.action ≡ Some u → holder_in ns os t ≡ Some u
holder_of_live ns os t u h same = ap (λ (b : Bool). if b then lift_in ns t.action else None) (has_member os t h) ∙ same

-- A lock need not be kept where it has ended, or one before it leads it.
abbrev pub is_idle : List Name → List LiveOp → List LiveOp → LiveOp → Bool
is_idle ns os before t = has_ended ns os t || list_any (leads ns os (holder_in ns os t)) before

-- a leader can be left out where it is idle
pub leaders_drop : (x : ℕ) (m : Mode) (ns : List Name) (os : List LiveOp) (next : ℕ) (ts : List LiveOp) (t : LiveOp) (us : List LiveOp)
    → is_idle ns os ts t ≡ true → KeepsLeaders x m ns os next (ts ++ t ∷ us) → KeepsLeaders x m ns os next (ts ++ us)
leaders_drop x m ns os next ts t us idle keeps = record {
  rising = rise_without 0 ts t us next keeps.rising;
  locks = λ s h. keeps.locks s (wider s h);
  sound = λ s h live. keeps.sound s (wider s h) live;
  covers = λ o u h lock is. other o u (keeps.covers o u h lock is);
}
  where
    wider : (s : LiveOp) → In s (ts ++ us) → In s (ts ++ t ∷ us)
    wider s h = elim (in_either s ts us h) [ inl k ↦ in_left s ts (t ∷ us) k | inr k ↦ in_right s ts (t ∷ us) (inr k) ]

    by_leader : (o : LiveOp) (u : Name) → list_any (leads ns os (Some u)) ts ≡ true → t.index ≤ o.index → (s : LiveOp) × IsLeader ns os (ts ++ us) o u s
    by_leader o u led le =
        let found = any_member (leads ns os (Some u)) ts led in
        let s = found.0 in
        let parts = and_parts (lift_eq (lift_in ns s.action) (Some u)) (has_op os s.index) found.2 in
        let lt : s.index < t.index = rise_before 0 ts t us next s keeps.rising found.1 in (
          s,
          record {
            leads = in_left s ts us found.1;
            is_live = keeps.sound s (in_left s ts (t ∷ us) found.1) parts.1;
            is_first = omega arith;
            same_lift = lift_eq_same (lift_in ns s.action) (Some u) parts.0;
          },
        )

    not_itself : (o s : LiveOp) (u : Name) → s ≡ t → IsLeader ns os (ts ++ t ∷ us) o u s → (r : LiveOp) × IsLeader ns os (ts ++ us) o u r
    not_itself o s u e lead =
        let same : lift_in ns t.action ≡ Some u = ap (λ (p : LiveOp). lift_in ns p.action) (sym e) ∙ lead.same_lift in
        let equal : s.index ≡ t.index = ap (λ (p : LiveOp). p.index) e in
        let first : s.index ≤ o.index = lead.is_first in
        let le : t.index ≤ o.index = omega arith in
        let holds = holder_of_live ns os t u (subst (λ (p : LiveOp). In p os) e lead.is_live) same in
        elim (or_cases (has_ended ns os t) (list_any (leads ns os (holder_in ns os t)) ts) idle) [
          | inl past ↦ let wrong : Some u ≡ None = sym holds ∙ none_is (holder_in ns os t) past in cc
          | inr led ↦ by_leader o u (subst (λ (r : Option Name). list_any (leads ns os r) ts ≡ true) holds led) le
        ]

    other : (o : LiveOp) (u : Name) → (s : LiveOp) × IsLeader ns os (ts ++ t ∷ us) o u s → (s : LiveOp) × IsLeader ns os (ts ++ us) o u s
    other o u lead =
        elim (in_either lead.0 ts (t ∷ us) lead.1.leads) [
          | inl k ↦ (lead.0, record { leads = in_left lead.0 ts us k; is_live = lead.1.is_live; is_first = lead.1.is_first; same_lift = lead.1.same_lift })
          | inr k ↦ elim k [
            | inl e ↦ not_itself o lead.0 u e lead.1
            | inr j ↦ (lead.0, record { leads = in_right lead.0 ts us j; is_live = lead.1.is_live; is_first = lead.1.is_first; same_lift = lead.1.same_lift })
          ]
        ]

abbrev ops : List Version → List LiveOp
ops vs = map (λ v. v.last) vs

-- a version can be left out where it is dead, or another covers all that it covers
versions_without : (x : ℕ) (start : State) (ns : List Name) (os : List LiveOp) (next : ℕ) (vs : List Version) (v : Version) (ws : List Version)
    → ((o : LiveOp) → IsVersionOf ns os (vs ++ v ∷ ws) o v → (w : Version) × IsVersionOf ns os (vs ++ ws) o w)
    → KeepsVersions x start ns os next (vs ++ v ∷ ws) → KeepsVersions x start ns os next (vs ++ ws)
versions_without x start ns os next vs v ws instead keeps = record {
  rising =
      subst (λ (ps : List LiveOp). IndicesRise 0 ps next) (sym (map-append (λ w. w.last) vs ws))
      (rise_without 0 (ops vs) v.last (ops ws) next (subst (λ (ps : List LiveOp). IndicesRise 0 ps next) (map-append (λ w. w.last) vs (v ∷ ws)) keeps.rising));
  locks = λ w h. keeps.locks w (wider w h);
  sound = λ w h live. keeps.sound w (wider w h) live;
  covers = λ o h lock. other o (keeps.covers o h lock);
}
  where
    wider : (w : Version) → In w (vs ++ ws) → In w (vs ++ v ∷ ws)
    wider w h = elim (in_either w vs ws h) [ inl k ↦ in_left w vs (v ∷ ws) k | inr k ↦ in_right w vs (v ∷ ws) (inr k) ]

    other : (o : LiveOp) → (w : Version) × IsVersionOf ns os (vs ++ v ∷ ws) o w → (w : Version) × IsVersionOf ns os (vs ++ ws) o w
    other o c =
        elim (in_either c.0 vs (v ∷ ws) c.1.kept) [
          | inl k ↦ (c.0, record { kept = in_left c.0 vs ws k; is_live = c.1.is_live; is_last = c.1.is_last; same_lift = c.1.same_lift })
          | inr k ↦ elim k [
            | inl e ↦ instead o (subst (λ (w : Version). IsVersionOf ns os (vs ++ v ∷ ws) o w) e c.1)
            | inr j ↦ (c.0, record { kept = in_right c.0 vs ws j; is_live = c.1.is_live; is_last = c.1.is_last; same_lift = c.1.same_lift })
          ]
        ]

-- the last version can be left out where it is dead
pub versions_drop_last : (x : ℕ) (start : State) (ns : List Name) (os : List LiveOp) (next : ℕ) (vs : List Version) (v : Version)
    → has_op os v.last.index ≡ false → KeepsVersions x start ns os next (vs ++ v ∷ []) → KeepsVersions x start ns os next vs
versions_drop_last x start ns os next vs v dead keeps =
    subst (λ (ws : List Version). KeepsVersions x start ns os next ws) (append-nil vs)
    (versions_without x start ns os next vs v []
    (λ o c. let wrong : true ≡ false = sym (has_member os v.last c.is_live) ∙ dead in cc) keeps)

pub versions_drop_older : (x : ℕ) (start : State) (ns : List Name) (os : List LiveOp) (next : ℕ) (vs : List Version) (v later : Version)
    → has_op os later.last.index ≡ true → is_outdated ns os v later ≡ true
    → KeepsVersions x start ns os next (vs ++ v ∷ later ∷ []) → KeepsVersions x start ns os next (vs ++ later ∷ [])
versions_drop_older x start ns os next vs v later live old keeps =
    versions_without x start ns os next vs v (later ∷ []) instead keeps
  where
    lt : v.last.index < later.last.index
    lt = rise_behind 0 (ops vs) v.last later.last next (subst (λ (ps : List LiveOp). IndicesRise 0 ps next) (map-append (λ w. w.last) vs (v ∷ later ∷ [])) keeps.rising)

    instead : (o : LiveOp) → IsVersionOf ns os (vs ++ v ∷ later ∷ []) o v → (w : Version) × IsVersionOf ns os (vs ++ later ∷ []) o w
    instead o c =
        let on : o.index ≤ v.last.index = c.is_last in
        elim (or_cases (not (has_op os v.last.index)) (lift_eq (lift_in ns v.last.action) (lift_in ns later.last.action)) old) [
          | inl dead ↦ let wrong : true ≡ false = sym (has_member os v.last c.is_live) ∙ not_true (has_op os v.last.index) dead in cc
          | inr same ↦ (
            later,
            record {
              kept = in_right later vs (later ∷ []) (inl refl);
              is_live = (keeps.sound later (in_right later vs (v ∷ later ∷ []) (inr (inl refl))) live).0;
              is_last = omega (arith, lt, on);
              same_lift = sym (lift_eq_same (lift_in ns v.last.action) (lift_in ns later.last.action) same) ∙ c.same_lift;
            },
          )
        ]

-- one before a later one can be left out where it is outdated
pub versions_drop_before : (x : ℕ) (start : State) (ns : List Name) (os : List LiveOp) (next : ℕ) (vs : List Version) (v later : Version)
    → has_op os later.last.index ≡ true → is_outdated ns os v later ≡ true
    → KeepsVersions x start ns os next ((vs ++ v ∷ []) ++ later ∷ []) → KeepsVersions x start ns os next (vs ++ later ∷ [])
versions_drop_before x start ns os next vs v later live old keeps =
    versions_drop_older x start ns os next vs v later live old
    (subst (λ (ws : List Version). KeepsVersions x start ns os next ws) (append_assoc vs (v ∷ []) (later ∷ [])) keeps)

-- those that have ended can all be left out
pub leaders_running : (x : ℕ) (m : Mode) (ns : List Name) (os : List LiveOp) (next : ℕ) (ts : List LiveOp)
    → KeepsLeaders x m ns os next ts → KeepsLeaders x m ns os next (filter (λ t. not (has_ended ns os t)) ts)
leaders_running x m ns os next ts keeps = record {
  rising = rise_filter runs 0 ts next keeps.rising;
  locks = λ s h. keeps.locks s (in_filter runs s ts h).0;
  sound = λ s h live. keeps.sound s (in_filter runs s ts h).0 live;
  covers = λ o u h lock is.
      let found = keeps.covers o u h lock is in
      let lead = found.1 in (
        found.0,
        record {
          leads = in_filtered runs found.0 ts lead.leads (still found.0 u lead.is_live lead.same_lift);
          is_live = lead.is_live;
          is_first = lead.is_first;
          same_lift = lead.same_lift;
        },
      );
}
  where
    runs : LiveOp → Bool
    runs t = not (has_ended ns os t)

    still : (t : LiveOp) (u : Name) → In t os → lift_in ns t.action ≡ Some u → runs t ≡ true
    still t u h same = ap (λ (r : Option Name). not (is_none r)) (holder_of_live ns os t u h same)
