use Rattle.std.proofs.Common.{◌≡◌, ℕ, List, [], take, true, false, None, refl, sym, ◌∙◌, subst, arith, rules}
use Rattle.cam_event.specs.declared.Deed.{Deed}
use Rattle.cam_event.proofs.Snoc.{further}
use Rattle.cam_plain.specs.Legal.{IsFirstIllegal, history}
use Rattle.cam_plain.specs.Kept.{IsKnown}
use Rattle.cam_plain.specs.Sites.{KeepsIfSome, KeepsSites, site_in}
use Rattle.cam_plain.proofs.Checking.{legal_next, first_illegal}
use Rattle.cam_plain.proofs.legality.check.Goals as goal

pub returns-then-not-legal-clause-illegal : goal.returns-then-not-legal-clause-illegal
returns-then-not-legal-clause-illegal c =
    let failed : c.in_ok-legal.legal ≡ false = grind arith in
    subst (λ (ds : List Deed). IsFirstIllegal c.args.objects.now ds c.loop-at.at c.of.result) c.as_slice-list.ensures
    (first_illegal c.args.objects.now c.as_slice-list.result.now c.loop-at.at c.of.result c.index-list-at.result c.loop-at-test.true c.index-list-at.is
    c.loop-at.invariant.known.legal (sym c.in_ok-legal.ensures.value ∙ failed) c.of.ensures)

pub loop-at-preserved : goal.loop-at-preserved
loop-at-preserved c =
    let objects = c.args.objects.now in
    let L = history (take c.loop-at.at c.as_slice-list.result.now) in
    let more = further c.as_slice-list.result.now c.loop-at.at c.index-list-at.result c.loop-at-test.true c.index-list-at.is in
    let before = c.loop-at.invariant in
    let passed : c.in_ok-legal.legal ≡ true = grind arith in
    record {
      known = subst (λ (M : List Deed). IsKnown objects M c.note.new.self) (sym more) (record {
        legal = legal_next objects L c.index-list-at.result before.known.legal (sym c.in_ok-legal.ensures.value ∙ passed);
        kept = c.in_ok-note.ensures L before.known.kept;
      });
      sites = subst (λ (M : List Deed). KeepsSites objects M c.note_at_site.new.sites) (sym more)
          (c.in_ok-note_at_site.ensures L before.known.kept.ledger (c.in_ok-legal.ensures.sites passed));
    }

pub loop-at-init : goal.loop-at-init
loop-at-init c =
    let none : (s : ℕ) → site_in c.new-sites.result s ≡ None = search rules in
    record {
      known = record { legal = tt; kept = c.new-tables.ensures c.args.objects.now };
      sites = λ s. subst (KeepsIfSome c.args.objects.now [] s) (sym (none s)) (record { none = refl; commits = λ u. refl });
    }
