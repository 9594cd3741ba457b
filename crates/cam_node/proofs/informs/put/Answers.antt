-- The name goes down past the names that are below it, to its place.
use Rattle.std.proofs.Common.{◌≡◌, ◌-◌, reverse, refl, sym, ap, ◌∙◌, arith}
use Rattle.cam_names.specs.declared.name.Name.{Name}
use Rattle.cam_names.specs.Names.{name_lt}
use Rattle.cam_node.proofs.Falling.{put_on, put_found, put_in, put_last, same_at}
use Rattle.cam_node.proofs.informs.put.Goals.{then-loop-place-test+else-lt, else-loop-place-test, else-place-gt0-via-then-place-gt0+else-eq, else-place-gt0-via-else-place-gt0}
use Rattle.cam_node.proofs.informs.put.Goals as goal

pub loop-place-preserved : goal.loop-place-preserved
loop-place-preserved c = record {
  same = refl;
  within = let w = c.loop-place.invariant.within in omega (arith, w);
  rest =
      put_on c.args.name.now c.index.result.now c.args.names.now.items c.loop-place.place c.loop-place-test.true c.loop-place.invariant.within c.index.ensures
      (sym c.lt.ensures ∙ c.if-lt.true) c.loop-place.invariant.rest;
}

pub returns-then-eq : goal.returns-then-eq
returns-then-eq c =
    put_found c.args.name.now c.index-then-place-gt0.result.now c.args.names.now.items c.loop-place.place c.if-place-gt0.true c.loop-place.invariant.within
    c.index-then-place-gt0.ensures (sym c.eq.ensures ∙ c.if-eq.true) c.loop-place.invariant.rest

pub returns : goal.returns
returns c =
    ap reverse c.in_ok-insert.ensures.items
    ∙ elim c.else-place-gt0.branch [
      | else-place-gt0-via-then-place-gt0+else-eq w ↦ elim c.loop-place-test.branch [
        | then-loop-place-test+else-lt v ↦
            let here : w.index-then-place-gt0.result.now ≡ v.index.result.now =
            w.index-then-place-gt0.ensures
            ∙ same_at c.args.names.now.items (c.loop-place.place - 1) w.index-then-place-gt0.result.now v.index.result.now
            (let some = w.if-place-gt0.true in let inside = c.loop-place.invariant.within in omega (arith, some, inside))
            ∙ sym v.index.ensures in
            put_in c.args.name.now w.index-then-place-gt0.result.now c.args.names.now.items c.loop-place.place w.if-place-gt0.true c.loop-place.invariant.within
            w.index-then-place-gt0.ensures
            (ap (λ (b : Name). name_lt b c.args.name.now) here ∙ sym v.lt.ensures ∙ v.if-lt.false) (sym w.eq.ensures ∙ w.if-eq.false) c.loop-place.invariant.rest
        | else-loop-place-test v ↦ let some = w.if-place-gt0.true in let none = v.loop-place-test.false in absurd (omega (arith, some, none))
      ]
      | else-place-gt0-via-else-place-gt0 w ↦
          put_last c.args.name.now c.args.names.now.items c.loop-place.place (let none = w.if-place-gt0.false in omega (arith, none)) c.loop-place.invariant.rest
    ]
