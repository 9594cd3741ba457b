-- No input of a run adds to what is left of its bodies' requests.
use Rattle.std.proofs.Common.{◌≡◌, ℕ, ◌+◌, ◌≤◌, Bool, true, false, ◌||◌, List, [], ◌∷◌, ◌++◌, Option, Some, None, refl, sym, ap, ◌∙◌, subst, arith}
use Rattle.std.specs.Prelude.{eqb, if◌then◌else◌, slice_get}
use Rattle.std.specs.List.{list_any}
use Rattle.std.specs.Option.{option_map_or}
use Rattle.std.proofs.lemmas.Option.{same_Some}
use Rattle.cam_names.specs.declared.name.Name.{Name}
use Rattle.cam_names.specs.Names.{home_node, name_eq}
use Rattle.cam_event.specs.declared.Event.{Event}
use Rattle.cam_event.specs.declared.ViewStep.{ViewStep}
use Rattle.cam_event.specs.Pasts.{plain_all}
use Rattle.cam_event.specs.Taken.{taken_of}
use Rattle.cam_event.specs.Views.{view}
use Rattle.cam_event.specs.Inputs.{Input}
use Rattle.cam_script.specs.declared.Statement.{Statement}
use Rattle.cam_script.specs.SoFar.{Size}
use Rattle.cam_runs.specs.Halts.{accepted}
use Rattle.cam_runs.specs.Playing.{body_number, is_stop_of}
use Rattle.cam_runs.specs.RequestsLeft.{left_away, left_by, left_of, sum_in}
use Rattle.cam_runs.specs.Running.{has_number}
use Rattle.cam_runs.specs.Standing.{after_input, put, Setting, Standing}
use Rattle.cam_runs.proofs.RequestsFall.{Grown, view_grows, view_lowers}

pub below_all : (n : ℕ) → 0 ≤ n
below_all n = omega arith

pub no_more : (n : ℕ) → n ≤ n
no_more n = omega arith

-- by a flag that stays
pub flag_lowers : (old new : Bool) (x y : ℕ) → (old ≡ true → new ≡ true) → y ≤ x
    → (if new then 0 else y) ≤ (if old then 0 else x)
flag_lowers true true x y stays less = no_more 0
flag_lowers true false x y stays less = absurd (never (stays refl))
  where
    never : false ≡ true → ⊥
    never e = cc
flag_lowers false true x y stays less = below_all x
flag_lowers false false x y stays less = less

behind : (b c : Bool) → c ≡ true → (b || c) ≡ true
behind true c h = refl
behind false c h = h

-- one event more
pub event_lowers : (sizes : List Size) (bodies : List (List Statement)) (e : Event)
    (t : List Event) (a : Name) (n : ℕ)
    → left_of sizes bodies (e ∷ t) a n ≤ left_of sizes bodies t a n
event_lowers sizes bodies e t a n =
    flag_lowers (list_any (is_stop_of a) t) (is_stop_of a e || list_any (is_stop_of a) t) _ _
    (behind (is_stop_of a e) (list_any (is_stop_of a) t)) (by (slice_get bodies n))
  where
    seen : List ViewStep
    seen = view (plain_all t) a

    grown : Grown (plain_all t) (plain_all (e ∷ t)) a
    grown = view_grows (plain_all t) e.deeds a

    by : (o : Option (List Statement))
        → option_map_or (λ body. left_by sizes body (view (plain_all (e ∷ t)) a)) o 0
        ≤ option_map_or (λ body. left_by sizes body seen) o 0
    by None = no_more 0
    by (Some body) =
        subst (λ (v : List ViewStep). left_by sizes body v ≤ left_by sizes body seen)
        (sym grown.is) (view_lowers sizes body seen grown.more)

-- and one input: it halts no node that was halted, or one more
pub record Later (old new : Standing) : Type 0 where
  pub bodies : new.running.bodies ≡ old.running.bodies
  pub halted : (s : ℕ) → has_number old.halted s ≡ true → has_number new.halted s ≡ true
  pub left :
      (sizes : List Size) (bs : List (List Statement)) (a : Name) (n : ℕ)
      → left_of sizes bs new.running.trace a n ≤ left_of sizes bs old.running.trace a n
  pub count : accepted old.turns ≤ accepted new.turns

pub later_same : (st : Standing) → Later st st
later_same st = record {
  bodies = refl;
  halted = λ s h. h;
  left = λ sizes bs a n. no_more (left_of sizes bs st.running.trace a n);
  count = no_more (accepted st.turns);
}

pub later_then : (one two three : Standing) → Later one two → Later two three → Later one three
later_then one two three first second = record {
  bodies = second.bodies ∙ first.bodies;
  halted = λ s h. second.halted s (first.halted s h);
  left = λ sizes bs a n.
      let x = first.left sizes bs a n in
      let y = second.left sizes bs a n in
      omega (arith, x, y);
  count = let x = first.count in let y = second.count in omega (arith, x, y);
}

pub input_later : (line : ℕ) (again : Bool) (st : Standing) (s : ℕ) (e : Event) (w : Bool)
    (o : Option Bool) → Later st (after_input line again st s e w o)
input_later line again st s e w None = record {
  bodies = refl;
  halted = λ m h. h;
  left = λ sizes bs a n. event_lowers sizes bs e st.running.trace a n;
  count = omega arith;
}
input_later line again st s e w (Some true) = record {
  bodies = refl;
  halted = λ m h. behind (eqb s m) (has_number st.halted m) h;
  left = λ sizes bs a n. event_lowers sizes bs (taken_of e) st.running.trace a n;
  count = omega arith;
}
input_later line again st s e w (Some false) = record {
  bodies = refl;
  halted = λ m h. behind (eqb s m) (has_number st.halted m) h;
  left = λ sizes bs a n. no_more (left_of sizes bs st.running.trace a n);
  count = omega arith;
}

-- an input counts
pub input_counts : (line : ℕ) (again : Bool) (st : Standing) (s : ℕ) (e : Event) (w : Bool)
    (o : Option Bool) → accepted (after_input line again st s e w o).turns ≡ accepted st.turns + 1
input_counts line again st s e w None = refl
input_counts line again st s e w (Some true) = refl
input_counts line again st s e w (Some false) = refl

pub put_later : (c : Setting) (st : Standing) (input : Input) → Later st (put c st input)
put_later c st input = input_later c.line _ st _ _ _ _

pub put_counts : (c : Setting) (st : Standing) (input : Input)
    → accepted (put c st input).turns ≡ accepted st.turns + 1
put_counts c st input = input_counts c.line _ st _ _ _ _

-- SUMS over the actions with bodies.
pub away_lowers : (sizes : List Size) (bs : List (List Statement)) (olds news : List ℕ)
    (old new : Standing) → Later old new
    → ((s : ℕ) → has_number olds s ≡ true → has_number news s ≡ true)
    → (a : Name) (n : ℕ)
    → left_away sizes bs news new.running.trace a n ≤ left_away sizes bs olds old.running.trace a n
away_lowers sizes bs olds news old new later more a n =
    flag_lowers (has_number olds (home_node a)) (has_number news (home_node a)) _ _
    (more (home_node a)) (later.left sizes bs a n)

pub sum_lowers : (f g : Name → ℕ → ℕ) (ps : List (Name × ℕ))
    → ((a : Name) (n : ℕ) → g a n ≤ f a n) → sum_in g ps ≤ sum_in f ps
sum_lowers f g [] each = no_more 0
sum_lowers f g (p ∷ ps) each =
    let one = each p.0 p.1 in let rest = sum_lowers f g ps each in omega (arith, one, rest)

-- where that of the action falls by so much, all do
pub sum_falls : (f g : Name → ℕ → ℕ) (ps : List (Name × ℕ)) (a : Name) (n d : ℕ)
    → body_number ps a ≡ Some n → ((b : Name) (m : ℕ) → g b m ≤ f b m)
    → ((b : Name) → name_eq b a ≡ true → g b n + d ≤ f b n) → sum_in g ps + d ≤ sum_in f ps
sum_falls f g [] a n d found each falls = cc
sum_falls f g (p ∷ ps) a n d found each falls =
    by (name_eq p.0 a) refl (λ later. sum_falls f g ps a n d later each falls) found
  where
    by : (b : Bool) → name_eq p.0 a ≡ b
        → (body_number ps a ≡ Some n → sum_in g ps + d ≤ sum_in f ps)
        → (if b then Some p.1 else body_number ps a) ≡ Some n
        → (g p.0 p.1 + sum_in g ps) + d ≤ f p.0 p.1 + sum_in f ps
    by true is rest found =
        let same : p.1 ≡ n = same_Some p.1 n found in
        let one = subst (λ m. g p.0 m + d ≤ f p.0 m) (sym same) (falls p.0 is) in
        let others = sum_lowers f g ps each in
        omega (arith, one, others)
    by false is rest found =
        let one = each p.0 p.1 in
        let others = rest found in
        omega (arith, one, others)

pub sum_behind : (f : Name → ℕ → ℕ) (ps qs : List (Name × ℕ))
    → sum_in f (ps ++ qs) ≡ sum_in f ps + sum_in f qs
sum_behind f [] qs = none_before (sum_in f qs)
  where
    none_before : (n : ℕ) → n ≡ 0 + n
    none_before n = omega arith
sum_behind f (p ∷ ps) qs =
    let rest = sum_behind f ps qs in
    ap (λ n. f p.0 p.1 + n) rest ∙ omega arith
