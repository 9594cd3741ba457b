-- What operations make of an object, and the settled ones of all objects.
use Rattle.std.proofs.Common.{◌≡◌, ℕ, ◌+◌, ◌<◌, eqb, Bool, true, false, ◌&&◌, cond, List, [], ◌∷◌, ◌++◌, length, take, filter, get_or, sym, ap, ◌∙◌}
use Rattle.std.proofs.lemmas.List.{take_more}
use Rattle.std.proofs.lemmas.List.Elements.{filter-append}
use Rattle.cam_type.specs.declared.ObjectDecl.{ObjectDecl}
use Rattle.cam_type.specs.declared.State.{State}
use Rattle.cam_type.specs.Table.{state_after}
use Rattle.cam_event.specs.declared.Deed.{Deed}
use Rattle.cam_event.specs.declared.Operation.{Operation}
use Rattle.cam_event.specs.Live.{live, replay, start_of}
use Rattle.cam_event.specs.Settled.{settled}
use Rattle.cam_event.proofs.LiveLaws.{and_comm}
use Rattle.cam_event.proofs.Snoc.{filter_filter, filter_same, replay_append}
use Rattle.cam_live.specs.Settled.{is_handed_up, settled_operations}

-- a list with one more, by a test
pub filter_taken : {X : Type 0} (p : X → Bool) (xs : List X) (i : ℕ) (x : X) → i < length xs → x ≡ get_or xs i x → filter p (take (i + 1) xs) ≡ filter p (take i xs) ++ cond (p x) (x ∷ []) []
filter_taken p xs i x h e = ap (filter p) (take_more xs i x h ∙ ap (λ y. take i xs ++ y ∷ []) (sym e)) ∙ filter-append p (take i xs) (x ∷ [])

pub replay_own : (start : State) (x : ℕ) (os : List Operation) (i : ℕ) (o : Operation) → i < length os → o ≡ get_or os i o → eqb o.object x ≡ true
    → replay start (filter (λ o. eqb o.object x) (take (i + 1) os)) ≡ state_after (replay start (filter (λ o. eqb o.object x) (take i os))) o.op
replay_own start x os i o h e own =
    ap (replay start) (filter_taken (λ o. eqb o.object x) os i o h e ∙ ap (λ b. filter (λ o. eqb o.object x) (take i os) ++ cond b (o ∷ []) []) own)
    ∙ replay_append start (filter (λ o. eqb o.object x) (take i os)) (o ∷ [])

pub replay_other : (start : State) (x : ℕ) (os : List Operation) (i : ℕ) (o : Operation) → i < length os → o ≡ get_or os i o → eqb o.object x ≡ false
    → replay start (filter (λ o. eqb o.object x) (take (i + 1) os)) ≡ replay start (filter (λ o. eqb o.object x) (take i os))
replay_other start x os i o h e other =
    ap (replay start) (filter_taken (λ o. eqb o.object x) os i o h e ∙ ap (λ b. filter (λ o. eqb o.object x) (take i os) ++ cond b (o ∷ []) []) other)
    ∙ replay_append start (filter (λ o. eqb o.object x) (take i os)) []

-- the value of an object by the settled operations of all
pub settled_state : (objects : List ObjectDecl) (L : List Deed) (x : ℕ) (os : List Operation) → os ≡ settled_operations objects L → replay (start_of objects x) (filter (λ o. eqb o.object x) os) ≡ settled objects L x
settled_state objects L x os e =
    let own = λ (o : Operation). eqb o.object x in
    let past = is_handed_up objects L in
    ap (replay (start_of objects x))
    (ap (filter own) e
    ∙ filter_filter own past (live objects L)
    ∙ filter_same (λ o. past o && own o) (λ o. own o && past o) (live objects L) (λ o. and_comm (past o) (own o))
    ∙ sym (filter_filter past own (live objects L)))
