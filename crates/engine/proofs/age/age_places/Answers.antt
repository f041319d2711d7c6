use Rattle.std.proofs.Common.{get_or, set, ap, ◌∙◌, arith}
use Rattle.ledger.specs.Steps.{place_aged}
use Rattle.std.proofs.lemmas.List.Edits.{map_over_more}
use Rattle.table.specs.Ageing.{within}
use Rattle.engine.proofs.age.age_places.Goals as goal

pub loop-n-preserved : goal.loop-n-preserved
loop-n-preserved g c =
    let now = c.loop-n.places in
    let n = c.loop-n.n in
    let x = get_or c.loop-n.places c.loop-n.n c.index-places-n.result in
    let read = ap (get_or c.loop-n.places c.loop-n.n) c.index-places-n.is in
    record {
      aged = ap (set now n) c.age_place-lost.ensures.after ∙ map_over_more (place_aged (λ finish. within c.args.limit finish) c.args.reports.now) c.args.places.now now n x c.loop-n-test.true c.loop-n.invariant.aged read;
      keeps = λ a. c.age_place-lost.ensures.index now (omega (arith, c.loop-n.auto.places)) read c.loop-n.lost (c.loop-n.invariant.keeps a);
    }
