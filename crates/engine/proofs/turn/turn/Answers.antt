use Rattle.std.proofs.Common.{get_or, set, sym, ap, ◌∙◌}
use Rattle.ledger.specs.Places.{after, free}
use Rattle.std.proofs.lemmas.List.{get_or_default, set_past}
use Rattle.engine.proofs.turn.turn.Goals as goal

pub returns-then-n-places-clause-after : goal.returns-then-n-places-clause-after
returns-then-n-places-clause-after g c = sym (set_past c.args.places.now c.args.n (after (get_or c.args.places.now c.args.n free) c.args.event) c.if-n-places.true)

pub returns : goal.returns
returns g c = record {
  after = ap (set c.args.places.now c.args.n) (c.turn_place.ensures.after ∙ ap (λ p. after p c.args.event) (get_or_default c.args.places.now c.args.n c.index-places-n.result free c.if-n-places.false));
  index = c.turn_place.ensures.index c.args.places.now c.if-n-places.false (ap (get_or c.args.places.now c.args.n) c.index-places-n.is);
}
