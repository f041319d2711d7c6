use Rattle.std.proofs.Common.{◌≡◌, ◌≤◌, length, sym, ap, subst, arith}
use lib.ListN.{length-replicate}
use Rattle.engine.proofs.Opened.{few_places, opened_agrees}
use Rattle.engine.specs.Agreement.{Agree}
use Rattle.engine.specs.Limits.{max_places}
use Rattle.index.specs.Slots.{count_of}
use Rattle.engine.proofs.store.Store.open.Goals as goal

pub invariant_of-result : goal.invariant_of-result
invariant_of-result g c =
    let none : count_of (g.I.Index.slots c.args.index) ≡ 0 = (let told = c.count.ensures.answer in omega arith) in
    let made = ap (λ v. v.places) c.in-Ok.ensures.answer in
    record {
      indexed = subst (λ places. ∥ Agree (g.I.Index.slots c.args.index) places ∥₁) (sym made) ∣ opened_agrees none (omega arith) ∣₁;
      few = subst (λ places. length places ≤ max_places) (sym made) (simp length-replicate (few_places c.args.opening.store c.args.opening.places c.args.opening.first_stamp c.args.opening.first_ticket (sym c.if-not-is_in_range.ensures.answer)));
    }
