-- The value that is handed up past the top, by what is kept of versions.
use Rattle.std.proofs.Common.{◌≡◌, ℕ, ◌≤◌, ◌<◌, Bool, true, false, ◌&&◌, List, [], ◌∷◌, Option, Some, None, refl, sym, ap, ◌∙◌, arith}
use Rattle.std.specs.Prelude.{filter, nat_le, is_none}
use Rattle.std.proofs.lemmas.Bool.{and_parts, and_from}
use Rattle.cam_names.specs.declared.name.Name.{Name}
use Rattle.cam_names.specs.Names.{is_ancestor}
use Rattle.cam_type.specs.declared.State.{State}
use Rattle.cam_type.specs.Table.{mode_of, compatible}
use Rattle.cam_locks.specs.declared.LiveOp.{LiveOp}
use Rattle.cam_locks.specs.declared.versions.Version.{Version}
use Rattle.cam_locks.specs.Members.{In}
use Rattle.cam_locks.specs.Names.{has_name}
use Rattle.cam_locks.specs.Site.{IndicesRise}
use Rattle.cam_locks.specs.Moss.{is_on, replay, lift_in}
use Rattle.cam_type.specs.Moss.{is_in_the_way}
use Rattle.cam_locks.specs.Holding.{has_op, writes, is_write, is_written, IsNested, KeepsVersions}
use Rattle.cam_locks.specs.Changes.{is_current, last_current}
use Rattle.cam_locks.specs.Sums.{is_counter}
use Rattle.cam_locks.proofs.Bools.{not_false, none_is, le_yes, le_from, lt_from}
use Rattle.cam_locks.proofs.Modes.{writes_apart}
use Rattle.cam_locks.proofs.WrittenStates.{writes_count}
use Rattle.cam_locks.proofs.Members.{filter_agree, same_op, has_member}
use Rattle.cam_locks.proofs.Lifts.{lift_open, past_top}
use Rattle.cam_locks.proofs.LastVersions.{IsLast, no_current, current_last}

-- the value that is handed up past the top, by the last live version that is
abbrev is_done : List Name → LiveOp → Bool
is_done ns o = is_none (lift_in ns o.action)

-- The state of the last version that is past the top is the value past the top.
pub settled_current : (x : ℕ) (start : State) (ns : List Name) (os : List LiveOp) (next : ℕ) (vs : List Version) (v : Version)
    → is_counter start ≡ false → IndicesRise 0 os next → IsNested x ns os → KeepsVersions x start ns os next vs → last_current (is_current ns os true) vs ≡ Some v
    → v.state ≡ replay start (filter (λ o. is_on x o && is_done ns o) os)
settled_current x start ns os next vs v kind rise nested keeps found =
    own.1 ∙ ap (replay start) (filter_agree (is_written x v.last.index) (λ o. (is_on x o && is_done ns o) && writes o) os agree)
    ∙ sym (writes_count (λ o. is_on x o && is_done ns o) start os kind)
  where
    l : IsLast (is_current ns os true) vs v
    l = current_last (is_current ns os true) 0 vs next v keeps.rising found

    parts : (has_op os v.last.index ≡ true) × (is_done ns v.last ≡ true)
    parts = and_parts (has_op os v.last.index) (is_done ns v.last) l.passes

    own : In v.last os × (v.state ≡ replay start (filter (is_written x v.last.index) os))
    own = keeps.sound v l.member parts.0

    shape : (a b c : Bool) → ((a && b) && c) ≡ ((a && c) && b)
    shape true true true = refl
    shape true true false = refl
    shape true false true = refl
    shape true false false = refl
    shape false b c = refl

    -- an earlier write is done too: its lift is no ancestor of the version's action, since those are all committed
    earlier_done : (o : LiveOp) → In o os → is_write x o ≡ true → o.index < v.last.index → (r : Option Name) → lift_in ns o.action ≡ r → is_none r ≡ true
    earlier_done o member lock lt None is = refl
    earlier_done o member lock lt (Some u) is =
        let mine = and_parts (is_on x o) (writes o) lock in
        let its = and_parts (is_on x v.last) (writes v.last) (keeps.locks v l.member) in
        let apart : compatible (mode_of o.op) (mode_of v.last.op) ≡ false = writes_apart (mode_of o.op) (mode_of v.last.op) mine.1 its.1 in
        let clear = nested o v.last member own.0 lt mine.0 its.0 apart in
        let over : is_ancestor u v.last.action ≡ true = not_false (is_ancestor u v.last.action) (ap (is_in_the_way v.last.action) (sym is) ∙ clear) in
        let done : has_name ns u ≡ true = past_top ns v.last.action u (none_is (lift_in ns v.last.action) parts.1) over in
        let wrong : true ≡ false = sym done ∙ lift_open ns o.action u is in cc

    agree : (o : LiveOp) → In o os → is_written x v.last.index o ≡ ((is_on x o && is_done ns o) && writes o)
    agree o member = by_lock (is_write x o) refl ∙ sym (shape (is_on x o) (is_done ns o) (writes o))
      where
        by_done : is_write x o ≡ true → (d : Bool) → is_done ns o ≡ d → (e : Bool) → nat_le o.index v.last.index ≡ e → e ≡ d
        by_done lock true done true le = refl
        by_done lock true done false le =
            let c = keeps.covers o member lock in
            let past : is_done ns c.0.last ≡ true = ap (λ (r : Option Name). is_none r) c.1.same_lift ∙ done in
            let at : c.0.last.index ≤ v.last.index = l.last c.0 c.1.kept (and_from (has_op os c.0.last.index) (is_done ns c.0.last) (has_member os c.0.last c.1.is_live) past) in
            let on : o.index ≤ c.0.last.index = c.1.is_last in
            let yes_le : nat_le o.index v.last.index ≡ true = le_yes o.index v.last.index (omega arith) in
            let wrong : true ≡ false = sym yes_le ∙ le in cc
        by_done lock false done false le = refl
        by_done lock false done true le = by_order (nat_le v.last.index o.index) refl
          where
            at : o.index ≤ v.last.index
            at = le_from o.index v.last.index le

            by_order : (g : Bool) → nat_le v.last.index o.index ≡ g → true ≡ false
            by_order true ge =
                let from : v.last.index ≤ o.index = le_from v.last.index o.index ge in
                let same : o ≡ v.last = same_op 0 os next o v.last rise member own.0 (omega (arith, at, from)) in
                sym (ap (is_done ns) same ∙ parts.1) ∙ done
            by_order false ge =
                let before : o.index < v.last.index = lt_from v.last.index o.index ge in
                sym (earlier_done o member lock before (lift_in ns o.action) refl) ∙ done

        by_lock : (b : Bool) → is_write x o ≡ b → (b && nat_le o.index v.last.index) ≡ (b && is_done ns o)
        by_lock false is = refl
        by_lock true is = by_done is (is_done ns o) refl (nat_le o.index v.last.index) refl

-- where no version is past the top it is the start state
pub settled_none : (x : ℕ) (start : State) (ns : List Name) (os : List LiveOp) (next : ℕ) (vs : List Version)
    → is_counter start ≡ false → KeepsVersions x start ns os next vs → last_current (is_current ns os true) vs ≡ None → start ≡ replay start (filter (λ o. is_on x o && is_done ns o) os)
settled_none x start ns os next vs kind keeps none =
    sym (writes_count (λ o. is_on x o && is_done ns o) start os kind
    ∙ ap (replay start) (filter_agree (λ o. (is_on x o && is_done ns o) && writes o) (λ o. false) os agree ∙ nothing os))
  where
    nothing : (ps : List LiveOp) → filter (λ o. false) ps ≡ []
    nothing [] = refl
    nothing (p ∷ ps) = nothing ps

    agree : (o : LiveOp) → In o os → ((is_on x o && is_done ns o) && writes o) ≡ false
    agree o member = by_all ((is_on x o && is_done ns o) && writes o) refl
      where
        by_all : (b : Bool) → ((is_on x o && is_done ns o) && writes o) ≡ b → b ≡ false
        by_all false is = refl
        by_all true is =
            let both = and_parts (is_on x o && is_done ns o) (writes o) is in
            let one = and_parts (is_on x o) (is_done ns o) both.0 in
            let c = keeps.covers o member (and_from (is_on x o) (writes o) one.0 both.1) in
            let past : is_done ns c.0.last ≡ true = ap (λ (r : Option Name). is_none r) c.1.same_lift ∙ one.1 in
            let passes : is_current ns os true c.0 ≡ true = and_from (has_op os c.0.last.index) (is_done ns c.0.last) (has_member os c.0.last c.1.is_live) past in
            let wrong : true ≡ false = sym passes ∙ no_current (is_current ns os true) vs none c.0 c.1.kept in cc
