-- What one more event adds to the deeds that are kept, to the last step of a view, and to a list of flags.
use Rattle.std.proofs.Common.{◌≡◌, inl, inr, ℕ, ◌+◌, ◌<◌, Bool, true, false, if◌then◌else◌, List, [], ◌∷◌, ◌++◌, length, reverse, take, get_or, Option, Some, sym, ap, ◌∙◌, subst, arith, length-append, length-take-le}
use Rattle.std.specs.Prelude.{MatchOption}
use Rattle.std.proofs.lemmas.Bool.Decides.{eqb_tells}
use Rattle.std.proofs.lemmas.List.{length-reverse, get_or_append_left, get_or_push}
use Rattle.std.proofs.lemmas.Option.{unwrap_or-slice_get}
use Rattle.cam_base.proofs.Newest.{taken_back}
use Rattle.cam_names.specs.declared.name.Name.{Name}
use Rattle.cam_event.specs.declared.Event.{Event}
use Rattle.cam_event.specs.declared.Deed.{Deed}
use Rattle.cam_event.specs.History.{after, created}
use Rattle.cam_event.specs.Pasts.{plain, plain_all}
use Rattle.cam_plain.specs.Legal.{history}
use Rattle.cam_cut.specs.Kept.{is_kept}
use Rattle.cam_cut.specs.Witness.{gives_step, last_step}
use Rattle.cam_cut.proofs.Informs.{after_append}
use Rattle.cam_cut.proofs.Laws.{has_last}

-- an event of a trace, with the events before it newest first
pub record Stands (events : List Event) (i : ℕ) (e : Event) : Type 0 where
  pub whole : reverse (take (i + 1) events) ≡ e ∷ reverse (take i events)
  pub place : length (reverse (take i events)) ≡ i

pub stands : (events items : List Event) (i : ℕ) (e : Event) → items ≡ events → i < length items → e ≡ get_or items i e → Stands events i e
stands events items i e same h is = subst (λ (es : List Event). Stands es i e) same (record {
  whole = taken_back items i e h is;
  place = length-reverse (take i items) ∙ length-take-le i items (omega (arith, h));
})

-- the deeds that are kept, one event further
pub cut_more : (events : List Event) (i : ℕ) (e : Event) (S : ℕ → Bool) (old new : List Deed) → Stands events i e → history old ≡ plain (reverse (take i events)) S → new ≡ (if S i then old ++ e.deeds else old) → history new ≡ plain (reverse (take (i + 1) events)) S
cut_more events i e S old new here before more =
    ap history more ∙ by (S i) ∙ ap (λ n. if S n then after (plain t S) e.deeds else plain t S) (sym here.place) ∙ ap (λ (u : List Event). plain u S) (sym here.whole)
  where
    t : List Event
    t = reverse (take i events)

    by : (b : Bool) → history (if b then old ++ e.deeds else old) ≡ (if b then after (plain t S) e.deeds else plain t S)
    by true = after_append [] old e.deeds ∙ ap (λ L. after L e.deeds) before
    by false = before

-- the last event with a step, one event further
pub last_more : (events : List Event) (i : ℕ) (e : Event) (a : Name) (gives : Bool) (old new : Option ℕ) → Stands events i e → gives ≡ gives_step (plain_all (reverse (take i events))) e.deeds a → old ≡ last_step (reverse (take i events)) a → new ≡ (if gives then Some i else old) → new ≡ last_step (reverse (take (i + 1) events)) a
last_more events i e a gives old new here step before more =
    more ∙ (λ k. if step k then Some i else before k)
    ∙ ap (λ n. if gives_step (plain_all (reverse (take i events))) e.deeds a then Some n else last_step (reverse (take i events)) a) (sym here.place)
    ∙ ap (λ (u : List Event). last_step u a) (sym here.whole)

-- a created action has its last event with a step
pub last_found : (t : List Event) (a : Name) (last : Option ℕ) → created (plain_all t) a ≡ true → last ≡ last_step t a → MatchOption last (created (plain_all t) a ≡ false) (λ n. (created (plain_all t) a ≡ true) × (last_step t a ≡ Some n))
last_found t a last there is =
    let found = has_last t a there in
    subst (λ o. MatchOption o (created (plain_all t) a ≡ false) (λ n. (created (plain_all t) a ≡ true) × (last_step t a ≡ Some n))) (sym (is ∙ found.1)) (there, found.1)

-- one flag more, for a set of positions
pub kept_more : (flags now : List Bool) (b : Bool) (n : ℕ) (S : ℕ → Bool) → length flags ≡ n → now ≡ flags ++ b ∷ [] → b ≡ S n → ((i : ℕ) → i < n → is_kept flags i ≡ S i) → (length now ≡ n + 1) × ((i : ℕ) → i < n + 1 → is_kept now i ≡ S i)
kept_more flags now b n S long is told before = (ap length is ∙ length-append flags (b ∷ []) ∙ ap (λ m. m + 1) long, λ i small. ap (λ bs. is_kept bs i) is ∙ at i small)
  where
    at : (i : ℕ) → i < n + 1 → is_kept (flags ++ b ∷ []) i ≡ S i
    at i small =
        elim (eqb_tells i n) [
          | inl y ↦ unwrap_or-slice_get (flags ++ b ∷ []) i false ∙ get_or_push flags b false i (long ∙ sym y.1) ∙ told ∙ ap S (sym y.1)
          | inr m ↦
              let inside : i < n = omega (arith, small, m.1) in
              unwrap_or-slice_get (flags ++ b ∷ []) i false ∙ get_or_append_left flags (b ∷ []) false i (omega (arith, inside, long)) ∙ sym (unwrap_or-slice_get flags i false) ∙ before i inside
        ]
