use Rattle.std.proofs.Common.{◌≡◌, ◌+◌, length, take, IfSome, sym, refl, ap, ◌∙◌, subst}
use Rattle.engine.specs.Limits.{max_places}
use Rattle.engine.specs.Walking.{Marks, marked, number_at, seen_key}
use Rattle.index.specs.Slots.{Apart}
use Rattle.std.proofs.lemmas.List.{take_all}
use Rattle.engine.proofs.Marking.{marks_more, marks_none, kept_length}
use Rattle.engine.proofs.walk.mark_seen.Goals as goal

pub loop-place-init : goal.loop-place-init
loop-place-init g c = (refl, marks_none g.I.Key.Key.order g.met.I.Key.Key.total (g.I.Index.slots c.args.index.now) c.args.stamp max_places)

pub loop-place-preserved : goal.loop-place-preserved
loop-place-preserved g c = (
  ap length c.mark.ensures.after ∙ (kept_length c.number_of-number.result c.loop-place.marks ∙ c.loop-place.invariant.0),
  let slots = g.I.Index.slots c.args.index.now in
      let p = c.place-item.result in
      let number : c.number_of-number.result ≡ number_at g.I.Key.Key.order slots (seen_key c.args.stamp p.state) =
      c.number_of-number.ensures.answer ∙ ap (number_at g.I.Key.Key.order slots) c.seen_key-key.ensures.answer in
      let apart : IfSome (seen_key c.args.stamp c.place-item.result.state) (λ _. Apart (g.I.Index.slots c.args.index.now)) =
      subst (λ o. IfSome o (λ _. Apart slots)) c.seen_key-key.ensures.answer c.number_of-number.ensures.apart in
      subst (Marks g.I.Key.Key.order slots (take (c.loop-place.place-index + 1) c.args.places.now) c.args.stamp) (sym (c.mark.ensures.after ∙ ap (λ o. marked o c.loop-place.marks) number))
      (marks_more g.I.Key.Key.order g.met.I.Key.Key.total slots c.args.stamp c.args.places.now c.loop-place.place-index p c.loop-place.marks c.loop-place-test.true c.place-item.is apart (c.loop-place.invariant.1)),
)

pub returns : goal.returns
returns g c = record {
  answer = subst (λ ps. Marks g.I.Key.Key.order (g.I.Index.slots c.args.index.now) ps c.args.stamp c.loop-place.marks) (take_all c.loop-place.place-index c.args.places.now c.loop-place-test.false) (c.loop-place.invariant.1);
}
