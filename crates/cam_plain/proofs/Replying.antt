-- What one more reply adds to the replies that are kept, and what a legal history says by them.
use Rattle.std.proofs.Common.{◌≡◌, inl, inr, ℕ, eqb, Bool, true, false, ◌&&◌, ◌||◌, if◌then◌else◌, cond, List, [], ◌∷◌, Option, Some, is_some, refl, sym, ap, ◌∙◌, arith}
use Rattle.std.specs.HashMap.{HashMap, get}
use Rattle.std.specs.List.{list_any}
use Rattle.std.specs.Option.{option_map_or}
use Rattle.std.proofs.lemmas.Bool.{and_parts, cases_Bool, eqb-true, true≢false}
use Rattle.cam_names.specs.declared.name.Name.{Name}
use Rattle.cam_names.specs.Names.{name_eq}
use Rattle.cam_names.proofs.Names.{name_eq_same, name_eq_sym}
use Rattle.cam_names.proofs.Any.{any_weaker}
use Rattle.cam_type.specs.declared.ObjectDecl.{ObjectDecl}
use Rattle.cam_type.specs.declared.Answer.{Answer}
use Rattle.cam_type.specs.Table.{answer_eq}
use Rattle.cam_event.specs.declared.Deed.{Deed}
use Rattle.cam_event.specs.declared.Deed.TheVariants.{Perform, Bounce}
use Rattle.cam_plain.specs.declared.replies.CallName.{CallName}
use Rattle.cam_plain.specs.Legal.{Legal}
use Rattle.cam_plain.specs.Lines.{is_perform, is_bounce, is_reply_to, replied}
use Rattle.cam_plain.specs.Replies.{answer_to, holder_for, call_eq, call_name, KeepsAnswers, KeepsHolders}

number_turned : (m n : ℕ) → eqb m n ≡ eqb n m
number_turned m n = grind arith

call_turned : (b a : Name) (m n : ℕ) → call_eq (call_name b m) (call_name a n) ≡ (name_eq a b && eqb n m)
call_turned b a m n = λ i. name_eq_sym b a i && number_turned m n i

-- what is put at a call
chosen : {X : Type 0} (t : Bool) (x : X) (o : Option X) → cond t (Some x) o ≡ (if t then Some x else o)
chosen true x o = refl
chosen false x o = refl

pub answer_put : {S : Type 0} (L : List Deed) (b : Name) (m : ℕ) (answer : Answer) (old new : HashMap CallName Answer S) → KeepsAnswers L old
    → ((q : CallName) → get call_eq new q ≡ cond (call_eq (call_name b m) q) (Some answer) (get call_eq old q)) → KeepsAnswers (Perform b m answer ∷ L) new
answer_put L b m answer old new before put a n =
    put (call_name a n) ∙ (λ i. cond (call_turned b a m n i) (Some answer) (before a n i)) ∙ chosen (name_eq a b && eqb n m) answer (answer_to L a n)

pub holder_put : {S : Type 0} (L : List Deed) (b : Name) (m : ℕ) (holder : Name) (old new : HashMap CallName Name S) → KeepsHolders L old
    → ((q : CallName) → get call_eq new q ≡ cond (call_eq (call_name b m) q) (Some holder) (get call_eq old q)) → KeepsHolders (Bounce b m holder ∷ L) new
holder_put L b m holder old new before put a n =
    put (call_name a n) ∙ (λ i. cond (call_turned b a m n i) (Some holder) (before a n i)) ∙ chosen (name_eq a b && eqb n m) holder (holder_for L a n)

-- There is a reply where one of the two is kept.
pub replied_kept : (L : List Deed) (a : Name) (n : ℕ) → (is_some (answer_to L a n) || is_some (holder_for L a n)) ≡ replied L a n
replied_kept [] a n = refl
replied_kept (Perform b m answer ∷ L) a n = by (name_eq a b && eqb n m) (replied_kept L a n)
  where
    by : (t : Bool) → (is_some (answer_to L a n) || is_some (holder_for L a n)) ≡ replied L a n
        → (is_some (if t then Some answer else answer_to L a n) || is_some (holder_for L a n)) ≡ (t || replied L a n)
    by true rest = refl
    by false rest = rest
replied_kept (Bounce b m holder ∷ L) a n = by (name_eq a b && eqb n m) (replied_kept L a n)
  where
    turned : (x : Bool) → (x || true) ≡ true
    turned true = refl
    turned false = refl

    by : (t : Bool) → (is_some (answer_to L a n) || is_some (holder_for L a n)) ≡ replied L a n
        → (is_some (answer_to L a n) || is_some (if t then Some holder else holder_for L a n)) ≡ (t || replied L a n)
    by true rest = turned (is_some (answer_to L a n))
    by false rest = rest
replied_kept (_ ∷ L) a n = replied_kept L a n

-- where there is no reply to a call, none has this answer or this holder
perform_reply : (a : Name) (n : ℕ) (answer : Answer) (d : Deed) → is_perform a n answer d ≡ true → is_reply_to a n d ≡ true
perform_reply a n answer (Perform b m other) h = (and_parts (name_eq a b && eqb n m) (answer_eq answer other) h).0
perform_reply a n answer _ h = cc

bounce_reply : (a : Name) (n : ℕ) (u : Name) (d : Deed) → is_bounce a n u d ≡ true → is_reply_to a n d ≡ true
bounce_reply a n u (Bounce b m other) h = (and_parts (name_eq a b && eqb n m) (name_eq u other) h).0
bounce_reply a n u _ h = cc

none_before : (test : Deed → Bool) (L : List Deed) (a b : Name) (n m : ℕ) → ((d : Deed) → test d ≡ true → is_reply_to a n d ≡ true) → (name_eq a b && eqb n m) ≡ true
    → replied L b m ≡ false → list_any test L ≡ false
none_before test L a b n m weaker same fresh =
    elim (cases_Bool (list_any test L)) [
      | inl found ↦
          let parts = and_parts (name_eq a b) (eqb n m) same in
          absurd (true≢false (sym (any_weaker test (is_reply_to a n) L weaker found)
          ∙ (λ i. replied L (name_eq_same a b parts.0 i) (eqb-true n m parts.1 i)) ∙ fresh))
      | inr none ↦ none
    ]

nothing_more : (x : Bool) → (x || false) ≡ x
nothing_more true = refl
nothing_more false = refl

-- In a legal history a call has one reply, so the last one tells of each.
pub answer_kept : (objects : List ObjectDecl) (L : List Deed) (a : Name) (n : ℕ) (answer : Answer) → Legal objects L
    → option_map_or (answer_eq answer) (answer_to L a n) false ≡ list_any (is_perform a n answer) L
answer_kept objects [] a n answer legal = refl
answer_kept objects (Perform b m other ∷ L) a n answer legal = by (name_eq a b && eqb n m) refl (answer_kept objects L a n answer legal.1)
  where
    by : (t : Bool) → (name_eq a b && eqb n m) ≡ t → option_map_or (answer_eq answer) (answer_to L a n) false ≡ list_any (is_perform a n answer) L
        → option_map_or (answer_eq answer) (if t then Some other else answer_to L a n) false ≡ ((t && answer_eq answer other) || list_any (is_perform a n answer) L)
    by true same rest =
        sym (ap (λ b. answer_eq answer other || b) (none_before (is_perform a n answer) L a b n m (perform_reply a n answer) same legal.0.arrival.fresh)
        ∙ nothing_more (answer_eq answer other))
    by false other rest = rest
answer_kept objects (_ ∷ L) a n answer legal = answer_kept objects L a n answer legal.1

pub holder_kept : (objects : List ObjectDecl) (L : List Deed) (a : Name) (n : ℕ) (u : Name) → Legal objects L
    → option_map_or (name_eq u) (holder_for L a n) false ≡ list_any (is_bounce a n u) L
holder_kept objects [] a n u legal = refl
holder_kept objects (Bounce b m other ∷ L) a n u legal = by (name_eq a b && eqb n m) refl (holder_kept objects L a n u legal.1)
  where
    by : (t : Bool) → (name_eq a b && eqb n m) ≡ t → option_map_or (name_eq u) (holder_for L a n) false ≡ list_any (is_bounce a n u) L
        → option_map_or (name_eq u) (if t then Some other else holder_for L a n) false ≡ ((t && name_eq u other) || list_any (is_bounce a n u) L)
    by true same rest =
        sym (ap (λ b. name_eq u other || b) (none_before (is_bounce a n u) L a b n m (bounce_reply a n u) same legal.0.arrival.fresh)
        ∙ nothing_more (name_eq u other))
    by false other rest = rest
holder_kept objects (_ ∷ L) a n u legal = holder_kept objects L a n u legal.1
