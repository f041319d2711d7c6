-- Each turn makes one more call of the list; after the last one the whole list has led on.
use Rattle.std.proofs.Common.{◌≡◌, ◌<◌, length, take, drop, subst, arith, rules}
use borrow.Author.Rules.{scaled_Fits}
use Rattle.std.proofs.lemmas.List.{length-take-le}
use Rattle.store.proofs.Listing.{all_made, one_more}
use Rattle.store.proofs.running.run_calls.Goals as goal

pub offset_bounds-answers-i : goal.offset_bounds-answers-i
offset_bounds-answers-i g c =
    let room : c.loop-i.i < length c.args.answers.now = omega (arith, length-take-le c.min-count.result c.args.calls.now) in
    scaled_Fits c.loop-i.i (length c.args.answers.now) _ room (search rules)

pub loop-i-preserved : goal.loop-i-preserved
loop-i-preserved g c =
    let room : c.loop-i.i < length c.loop-i.answers = omega (arith, length-take-le c.min-count.result c.args.calls.now) in
    one_more g.met.I.Key.Key.total c.args.store.now c.args.shelf.now (take c.min-count.result c.args.calls.now) c.args.answers.now c.loop-i.store c.ask.new.store c.loop-i.shelf c.ask.new.shelf c.loop-i.answers c.loop-i.i c.call-item.result c.ask.result c.loop-i.invariant
    c.loop-i-test.true room c.call-item.is c.ask.auto.shelf c.ask.ensures.law c.ask.ensures.astray

pub returns : goal.returns
returns g c =
    let long : length (take c.min-count.result c.args.calls.now) ≡ c.min-count.result = length-take-le c.min-count.result c.args.calls.now (omega arith) in
    let end : c.loop-i.i ≡ c.min-count.result = omega arith in
    record {
      answer = c.min-count.ensures;
      law = all_made g.met.I.Key.Key.total c.args.store.now c.args.shelf.now (take c.min-count.result c.args.calls.now) c.args.answers.now c.loop-i.store c.loop-i.shelf c.loop-i.answers c.loop-i.i c.min-count.result end long c.loop-i.invariant;
      rest = subst (λ n. drop n c.loop-i.answers ≡ drop n c.args.answers.now) end c.loop-i.invariant.rest;
    }
