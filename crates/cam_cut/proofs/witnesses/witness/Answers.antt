use Rattle.std.proofs.Common.{◌≡◌, true, false, List, Bool, Some, reverse, sym, ap, ◌∙◌, subst, arith}
use Rattle.std.specs.Prelude.{MatchOption}
use Rattle.std.proofs.lemmas.List.{length-reverse}
use Rattle.cam_event.specs.History.{created}
use Rattle.cam_event.specs.Pasts.{in_past, plain, plain_all}
use Rattle.cam_event.proofs.Members.{plain_same}
use Rattle.cam_plain.specs.Legal.{history}
use Rattle.cam_cut.specs.Kept.{is_kept}
use Rattle.cam_cut.specs.Law.{IsWitness}
use Rattle.cam_cut.specs.Witness.{cut_at, last_step, witness}
use Rattle.cam_cut.proofs.Laws.{each_view_is_legal, each_halted_view_is_legal}
use Rattle.cam_cut.proofs.witnesses.witness.Goals as goal

pub returns : goal.returns
returns c =
    let t = reverse c.args.trace.now in
    let a = c.args.name.now in
    let last = c.in-Some.last in
    let found : (created (plain_all t) a ≡ true) × (last_step t a ≡ Some last) =
    subst (λ o. MatchOption o (created (plain_all t) a ≡ false) (λ n. (created (plain_all t) a ≡ true) × (last_step t a ≡ Some n))) c.in-Some.is c.in_ok-last.ensures in
    let same : plain t (is_kept c.in_ok-keep.keep.items) ≡ plain t (λ i. in_past t i last) =
    plain_same t (is_kept c.in_ok-keep.keep.items) (λ i. in_past t i last) (λ k small. c.in_ok-keep.ensures.past k (omega (arith, small, length-reverse c.args.trace.now))) in
    let exact : history c.in_ok-deeds.deeds ≡ witness t a =
    c.in_ok-deeds.ensures.exact ∙ ap (λ (flags : List Bool). plain t (is_kept flags)) c.deref.ensures.value ∙ same ∙ ap (cut_at t) (sym found.1) in
    record {
      exact = exact;
      created = found.0;
      fault = tt;
      view = λ objects run. subst (IsWitness objects t a) (sym exact) (each_view_is_legal objects t a run found.0);
      halted_view = λ objects taken run. subst (IsWitness objects t a) (sym exact) (each_halted_view_is_legal objects taken t a run found.0);
    }
