use Rattle.std.proofs.Common.{ℕ, ◌<◌, List, length, Some, None, Option, Ordering, refl, sym, ◌∙◌, arith}
use Rattle.std.proofs.Math.Logic.{∥∥₁_elim}
use Rattle.engine.specs.Agreement.{Agree}
use Rattle.index.specs.Slots.{Maps}
use Rattle.keys.specs.Orders.{Total}
use Rattle.ledger.specs.declared.place.Place.{Place}
use Rattle.table.specs.Reads.{is_visible}
use Rattle.std.specs.Coded.{le_prop}
use Rattle.engine.proofs.Agreeing.{carries_below}
use Rattle.engine.proofs.Cursor.{Carried, cursor_start, cursor_maps, cursor_found, cursor_next, cursor_none, least_maps, least_prop, left_falls, wanted}
use Rattle.engine.proofs.Marking.{visible_carried}
use Rattle.engine.proofs.store.Store.next_marked.Goals as goal

-- in agreement, a visible key has a number
numbered : {K : Type 0} {order : K → K → Ordering} → Total order → {slots : List (Option K)} {places : List (Place K)} (stamp : ℕ) → Agree slots places → Carried slots (is_visible order places stamp)
numbered {order = order} total {slots} {places} stamp a q on = let n = visible_carried order total places stamp q on in a.listed refl n.0 q n.1

-- in agreement, a number is that of a place
within : {K : Type 0} {slots : List (Option K)} {places : List (Place K)} → Agree slots places → (n : ℕ) (key : K) → Maps slots n key → n < length places
within {places = places} a n key e = carries_below places n key (a.numbered n key e)

pub loop-key-init : goal.loop-key-init
loop-key-init g c = record {
  come = (c.args.after, c.key_after-at.ensures.answer);
  cursor = λ stamp a marks. cursor_start g.met.I.Key.Key.total c.key_after-at.ensures.answer;
}

pub bounds-marks-number : goal.bounds-marks-number
bounds-marks-number g c = ∥∥₁_elim c.args.self.now.indexed le_prop (λ a.
    let below = within a c.in_ok-key.number c.in_ok-key.key (least_maps g.met.I.Key.Key.total c.loop-key.invariant.come.0 (g.I.Index.slots c.args.self.now.index) c.loop-key.invariant.come.1 c.in_ok-key.was) in
    omega (arith, c.args.self.now.few))

pub loop-key-preserved : goal.loop-key-preserved
loop-key-preserved g c = record {
  come = (Some c.in_ok-key.key, c.next-at.ensures.answer);
  cursor = λ stamp a marks.
      let here = rw c.in_ok-key.was at (c.loop-key.invariant.cursor stamp a marks) in
      let maps = cursor_maps g.met.I.Key.Key.total here in
      let below = within a c.in_ok-key.number c.in_ok-key.key maps in
      let off = sym (marks c.in_ok-key.number c.in_ok-key.key maps (omega (arith, c.args.self.now.few))) ∙ c.if-marks-number.false in
      rw c.next-at.ensures.answer (cursor_next g.met.I.Key.Key.total here (numbered g.met.I.Key.Key.total stamp a) off);
}

pub loop-key-smaller : goal.loop-key-smaller
loop-key-smaller g c = rw (c.in_ok-key.was, c.next-at.ensures.answer) (left_falls g.met.I.Key.Key.total (g.I.Index.slots c.args.self.now.index) c.in_ok-key.key)

pub returns-then-marks-number : goal.returns-then-marks-number
returns-then-marks-number g c = record {
  answer = λ stamp marks. ∥∥₁_elim c.args.self.now.indexed (least_prop g.I.Key.Key.order (wanted g.I.Key.Key.order (is_visible g.I.Key.Key.order c.args.self.now.table.places.items stamp) c.args.after) (Some c.in_ok-key.key)) (λ a.
      let here = rw c.in_ok-key.was at (c.loop-key.invariant.cursor stamp a marks) in
      let maps = cursor_maps g.met.I.Key.Key.total here in
      let below = within a c.in_ok-key.number c.in_ok-key.key maps in
      let on = sym (marks c.in_ok-key.number c.in_ok-key.key maps (omega (arith, c.args.self.now.few))) ∙ c.if-marks-number.true in
      cursor_found g.met.I.Key.Key.total here (numbered g.met.I.Key.Key.total stamp a) on);
}

pub returns-in_err-key : goal.returns-in_err-key
returns-in_err-key g c = rw c.from_residual.ensures (record {
  answer = λ stamp marks. ∥∥₁_elim c.args.self.now.indexed (least_prop g.I.Key.Key.order (wanted g.I.Key.Key.order (is_visible g.I.Key.Key.order c.args.self.now.table.places.items stamp) c.args.after) None) (λ a.
      cursor_none g.met.I.Key.Key.total (c.loop-key.invariant.cursor stamp a marks) (numbered g.met.I.Key.Key.total stamp a) c.in_err-key.was);
})
