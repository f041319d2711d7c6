use Rattle.std.proofs.Common.{◌≡◌, ◌+◌, true, sym, ap, ◌∙◌, subst}
use Rattle.ledger.specs.Places.{free, key_of}
use Rattle.std.proofs.lemmas.List.{get_or_read}
use Rattle.table.specs.Views.{at}
use Rattle.engine.proofs.Agreeing.{ListedTo, listed_none, listed_free, listed_more, listed_all}
use Rattle.engine.proofs.turn.list_keys.Goals as goal
use Rattle.engine.proofs.turn.list_keys.Goals.{in-Some, in_default}

pub loop-n-init : goal.loop-n-init
loop-n-init g c = λ a. listed_none true (g.I.Index.slots c.args.index.now) c.args.places.now a

pub loop-n-preserved : goal.loop-n-preserved
loop-n-preserved g c = λ a.
    let was = c.loop-n.invariant a in
    let key : c.key.result ≡ key_of (at c.args.places.now c.loop-n.n) =
    c.key.ensures.answer ∙ ap (λ p. key_of p.state) (get_or_read c.args.places.now c.loop-n.n c.index-places-n.result c.loop-n-test.true c.index-places-n.is free) in
    elim c.match-key.branch [
      | in-Some w ↦
          subst (λ i. ListedTo (c.loop-n.n + 1) (g.I.Index.slots i) c.args.places.now) (sym w.index-is)
          (subst (λ slots. ListedTo (c.loop-n.n + 1) slots c.args.places.now) (sym w.add.ensures.after)
          (listed_more (g.I.Index.slots c.loop-n.index) c.args.places.now c.loop-n.n was g.I.Key.Key.order g.met.I.Key.Key.total w.in-Some.key (sym key ∙ w.in-Some.is)))
      | in_default w ↦
          subst (λ i. ListedTo (c.loop-n.n + 1) (g.I.Index.slots i) c.args.places.now) (sym w.index-is)
          (listed_free (g.I.Index.slots c.loop-n.index) c.args.places.now c.loop-n.n was (sym key ∙ w.in_default.is))
    ]

pub returns : goal.returns
returns g c = record { index = λ a. listed_all (g.I.Index.slots c.loop-n.index) c.args.places.now c.loop-n.n (c.loop-n.invariant a) c.loop-n-test.false }
