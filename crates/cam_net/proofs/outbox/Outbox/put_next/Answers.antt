-- The next letter is put, and the others are left.
use Rattle.std.proofs.Common.{◌≡◌, ℕ, suc, ◌+◌, List, [], ◌∷◌, ◌++◌, drop, Some, refl, sym, ap, ◌∙◌}
use Rattle.std.proofs.Common.{subst, arith}
use Rattle.std.specs.Prelude.{slice_get}
use Rattle.std.specs.List.{AllByRecursion}
use Rattle.cam_event.specs.declared.Letter.{Letter}
use Rattle.cam_wire.specs.Writable.{IsWritable}
use Rattle.cam_net.specs.Letters.{InFlightFields, put_as}
use Rattle.cam_net.specs.Outbox.{OutboxFields, HasPutSome}
use Rattle.cam_net.proofs.Unput.{first_from, put_none, put_one}
use Rattle.cam_net.proofs.outbox.Outbox.put_next.Goals as goal

next_place : (n : ℕ) → suc n ≡ n + 1
next_place n = omega arith

-- the letters that are left, where the first of them is known
left_with : (old : OutboxFields) (letters rest : List Letter) (letter : Letter) (place : ℕ)
    → drop place letters ≡ old.unput → slice_get letters place ≡ Some letter
    → drop (suc place) letters ≡ rest → old.unput ≡ letter ∷ rest
left_with old letters rest letter place is at next =
    sym is ∙ first_from letters place letter at ∙ ap (λ ls. letter ∷ ls) next

pub put-requires : goal.put-requires
put-requires c =
    (subst (AllByRecursion IsWritable)
    (left_with c.args.self.now c.self.inside.letters _ c.in-Some.letter.now c.self.inside.put
    (ap (λ (o : OutboxFields). o.unput) c.self.view_is) (sym c.in-Some.ensures)
    (λ i. drop (suc c.self.inside.put) c.self.inside.letters))
    c.requires.writable).0

pub returns-in_err-put-clause-some : goal.returns-in_err-put-clause-some
returns-in_err-put-clause-some c =
    subst (λ (o : OutboxFields). HasPutSome c.args.self.now o)
    (sym (ap (λ (net : List InFlightFields). record {
      net = net;
      unput = drop c.self.inside.put c.self.inside.letters;
    }) c.in_err-put.ensures.unchanged ∙ c.self.view_is)) (put_none c.args.self.now)

pub returns-clause-some : goal.returns-clause-some
returns-clause-some c =
    put_one c.args.self.now _ c.in-Some.letter.now
    (drop (c.self.inside.put + 1) c.self.inside.letters)
    (left_with c.args.self.now c.self.inside.letters
    (drop (c.self.inside.put + 1) c.self.inside.letters) c.in-Some.letter.now c.self.inside.put
    (ap (λ (o : OutboxFields). o.unput) c.self.view_is) (sym c.in-Some.ensures)
    (ap (λ n. drop n c.self.inside.letters) (next_place c.self.inside.put)))
    (c.in_ok-put.ensures.put
    ∙ ap (λ (o : OutboxFields). o.net ++ put_as c.in-Some.letter.now ∷ []) c.self.view_is) refl
    c.in_ok-put.ensures.spells

pub returns-clause-writable : goal.returns-clause-writable
returns-clause-writable c =
    (subst (AllByRecursion IsWritable)
    (left_with c.args.self.now c.self.inside.letters
    (drop (c.self.inside.put + 1) c.self.inside.letters) c.in-Some.letter.now c.self.inside.put
    (ap (λ (o : OutboxFields). o.unput) c.self.view_is) (sym c.in-Some.ensures)
    (ap (λ n. drop n c.self.inside.letters) (next_place c.self.inside.put)))
    c.requires.writable).1
