use Rattle.std.proofs.Common.{fold, get_or, sym, ap, ◌∙◌}
use Rattle.std.proofs.lemmas.List.{take_all}
use Rattle.std.proofs.lemmas.List.Sums.{fold_more}
use Rattle.table.specs.Rows.{no_entry}
use Rattle.engine.proofs.commit.each_held.Goals as goal

pub loop-held-preserved : goal.loop-held-preserved
loop-held-preserved g c = record {
  folded = λ run makes. makes _ _ _ _ _ _ c.step-lost.ensures ∙ (ap (λ ps. run ps (get_or c.in_use-held-items.result.now c.loop-held.held-index no_entry)) (c.loop-held.invariant.folded run makes) ∙ sym (fold_more run c.args.places.now c.in_use-held-items.result.now c.loop-held.held-index no_entry c.loop-held-test.true));
  keeps = λ k a. k _ _ _ _ _ _ c.step-lost.ensures c.loop-held.lost (c.loop-held.invariant.keeps k a);
}

pub returns-clause-after : goal.returns-clause-after
returns-clause-after g c = λ run makes.
    c.loop-held.invariant.folded run makes
    ∙ (ap (fold run c.args.places.now) (take_all c.loop-held.held-index c.in_use-held-items.result.now c.loop-held-test.false ∙ c.in_use-held-items.ensures.answer))
