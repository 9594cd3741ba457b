-- What a vote and the beginning of a vote add to the votes that are kept.
use Rattle.std.proofs.Common.{◌≡◌, ℕ, eqb, Bool, true, false, ◌&&◌, ◌||◌, if◌then◌else◌, cond, List, [], ◌∷◌, ◌++◌, Option, Some, None, is_some, unwrap_or, refl, sym, ap, ◌∙◌}
use Rattle.std.specs.Prelude.{option_map}
use Rattle.std.specs.HashMap.{HashMap, get}
use Rattle.std.specs.List.{list_any}
use Rattle.std.proofs.lemmas.Bool.{true≢false}
use Rattle.cam_names.specs.declared.name.Name.{Name}
use Rattle.cam_names.specs.Names.{name_eq}
use Rattle.cam_names.specs.Dependencies.{has_pair}
use Rattle.cam_names.proofs.Names.{name_eq_same, name_eq_sym}
use Rattle.cam_event.specs.declared.Event.{Event}
use Rattle.cam_event.specs.declared.Note.{Note}
use Rattle.cam_event.specs.declared.Note.TheVariants as notes
use Rattle.cam_event.specs.History.{is_crash}
use Rattle.cam_event.specs.Inputs.{Mail}
use Rattle.cam_event.specs.Sights.{Entry, is_preparing_note, votes, yes_for}
use Rattle.cam_own.specs.Votes.{KeepsVotes, AddsVotes, AddsYes, BeginsVotes, after_note}

abbrev pub Votes : Type 0
Votes = List (ℕ × ℕ)

append_none : (vs : Votes) → vs ++ [] ≡ vs
append_none [] = refl
append_none (v ∷ vs) = ap (λ (more : Votes). v ∷ more) (append_none vs)

none_added : (o : Option Votes) → o ≡ option_map (λ vs. vs ++ []) o
none_added None = refl
none_added (Some vs) = ap (λ (more : Votes). Some more) (sym (append_none vs))

abbrev more_of : Bool → ℕ → ℕ → Votes
more_of t s c = if t then (s, c) ∷ [] else []

-- a vote for a family that is preparing,
pub yes_put : {S : Type 0} (g : Name) (s c : ℕ) (old new : HashMap Name Votes S) (vs more : Votes) → get name_eq old g ≡ Some vs → more ≡ vs ++ (s, c) ∷ []
    → ((q : Name) → get name_eq new q ≡ cond (name_eq g q) (Some more) (get name_eq old q)) → AddsYes g s c old new
yes_put g s c old new vs more has is put f =
    put f ∙ by (name_eq g f) refl ∙ ap (λ t. option_map (λ ws. ws ++ more_of t s c) (get name_eq old f)) (name_eq_sym g f)
  where
    by : (t : Bool) → name_eq g f ≡ t → cond t (Some more) (get name_eq old f) ≡ option_map (λ ws. ws ++ more_of t s c) (get name_eq old f)
    by true same = ap (λ (m : Votes). Some m) is ∙ ap (option_map (λ (ws : Votes). ws ++ (s, c) ∷ [])) (sym has ∙ ap (get name_eq old) (name_eq_same g f same))
    by false other = none_added (get name_eq old f)

-- and for one that is not
pub yes_none : {S : Type 0} (g : Name) (s c : ℕ) (old : HashMap Name Votes S) → get name_eq old g ≡ None → AddsYes g s c old old
yes_none g s c old has f = by (name_eq f g) refl
  where
    by : (t : Bool) → name_eq f g ≡ t → get name_eq old f ≡ option_map (λ ws. ws ++ more_of t s c) (get name_eq old f)
    by true same =
        let none : get name_eq old f ≡ None = ap (get name_eq old) (name_eq_same f g same) ∙ has in
        none ∙ ap (option_map (λ (ws : Votes). ws ++ (s, c) ∷ [])) (sym none)
    by false other = none_added (get name_eq old f)

-- what begins
chosen : {X : Type 0} (t : Bool) (x : X) (o : Option X) → cond t (Some x) o ≡ (if t then Some x else o)
chosen true x o = refl
chosen false x o = refl

pub begins_put : {S : Type 0} (g : Name) (old new : HashMap Name Votes S) (none : Votes) → none ≡ []
    → ((q : Name) → get name_eq new q ≡ cond (name_eq g q) (Some none) (get name_eq old q)) → BeginsVotes (notes.Preparing g) old new
begins_put g old new none is put f =
    put f ∙ (λ i. cond (name_eq_sym g f i) (Some (is i)) (get name_eq old f)) ∙ chosen (name_eq f g) [] (get name_eq old f)

-- both say the same of a family
record Alike (o v : Option Votes) : Type 0 where
  is : is_some o ≡ is_some v
  pairs : (s c : ℕ) → has_pair (unwrap_or o []) s c ≡ has_pair (unwrap_or v []) s c

or_grouped : (x y z : Bool) → (x || (y || z)) ≡ ((x || y) || z)
or_grouped true y z = refl
or_grouped false y z = refl

or_turned : (x y : Bool) → (x || y) ≡ (y || x)
or_turned true true = refl
or_turned true false = refl
or_turned false true = refl
or_turned false false = refl

pair_append : (ps qs : Votes) (s c : ℕ) → has_pair (ps ++ qs) s c ≡ (has_pair ps s c || has_pair qs s c)
pair_append [] qs s c = refl
pair_append (p ∷ ps) qs s c =
    ap (λ (b : Bool). (eqb p.0 s && eqb p.1 c) || b) (pair_append ps qs s c) ∙ or_grouped (eqb p.0 s && eqb p.1 c) (has_pair ps s c) (has_pair qs s c)

added_alike : (o v : Option Votes) (y : Votes) → Alike o v → Alike (option_map (λ vs. vs ++ y) o) (option_map (λ vs. y ++ vs) v)
added_alike None None y h = record { is = refl; pairs = λ s c. refl }
added_alike (Some vs) (Some ws) y h = record {
  is = refl;
  pairs = λ s c. pair_append vs y s c ∙ ap (λ (b : Bool). b || has_pair y s c) (h.pairs s c) ∙ or_turned (has_pair ws s c) (has_pair y s c) ∙ sym (pair_append y ws s c);
}
added_alike None (Some ws) y h = absurd (true≢false (sym h.is))
added_alike (Some vs) None y h = absurd (true≢false h.is)

noted_alike : (f : Name) (note : Note) (o v : Option Votes) → Alike o v → Alike (after_note f note o) (if is_preparing_note f note then Some [] else v)
noted_alike f (notes.Preparing g) o v h = by (name_eq f g)
  where
    by : (t : Bool) → Alike (if t then Some [] else o) (if t then Some [] else v)
    by true = record { is = refl; pairs = λ s c. refl }
    by false = h
noted_alike f notes.Plain o v h = h
noted_alike f (notes.Stopped a reason) o v h = h
noted_alike f notes.Missed o v h = h
noted_alike f notes.Again o v h = h
noted_alike f notes.Ended o v h = h
noted_alike f notes.Late o v h = h
noted_alike f notes.Voted o v h = h

-- one more event
pub votes_kept : {S : Type 0} (mail : Option Mail) (note : Note) (old mid new : HashMap Name Votes S) → AddsVotes mail old mid → BeginsVotes note mid new
    → (E : List Entry) (e : Event) → list_any (is_crash e.node) e.deeds ≡ false → e.note ≡ note → KeepsVotes E old → KeepsVotes (record { event = e; mail = mail } ∷ E) new
votes_kept mail note old mid new adds begins E e none is before = record { preparing = λ f. (alike f).is; pairs = λ f. (alike f).pairs }
  where
    E' : List Entry
    E' = record { event = e; mail = mail } ∷ E

    kept : (f : Name) → get name_eq new f ≡ after_note f e.note (option_map (λ vs. vs ++ yes_for f mail) (get name_eq old f))
    kept f = begins f ∙ (λ i. after_note f (sym is i) (adds f i))

    said : (f : Name) → votes E' f ≡ (if is_preparing_note f e.note then Some [] else option_map (λ vs. yes_for f mail ++ vs) (votes E f))
    said f = ap (λ t. if t then None else (if is_preparing_note f e.note then Some [] else option_map (λ (vs : Votes). yes_for f mail ++ vs) (votes E f))) none

    base : (f : Name) → Alike (get name_eq old f) (votes E f)
    base f = record { is = before.preparing f; pairs = before.pairs f }

    alike : (f : Name) → Alike (get name_eq new f) (votes E' f)
    alike f =
        let h : Alike (after_note f e.note (option_map (λ vs. vs ++ yes_for f mail) (get name_eq old f))) (if is_preparing_note f e.note then Some [] else option_map (λ vs. yes_for f mail ++ vs) (votes E f)) =
        noted_alike f e.note _ _ (added_alike (get name_eq old f) (votes E f) (yes_for f mail) (base f)) in
        record {
          is = ap is_some (kept f) ∙ h.is ∙ ap is_some (sym (said f));
          pairs = λ s c. ap (λ (o : Option Votes). has_pair (unwrap_or o []) s c) (kept f) ∙ h.pairs s c ∙ ap (λ (o : Option Votes). has_pair (unwrap_or o []) s c) (sym (said f));
        }
