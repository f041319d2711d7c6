use Rattle.std.proofs.Common.{◌≡◌, Bool, length, vec_len, None, Option, sym, refl, ap, ◌∙◌, arith}
use Rattle.keys.specs.Refusals.{Code, plain}
use Rattle.ledger.specs.Places.{is_wanted}
use Rattle.ledger.specs.Words.{or_else, when}
use Rattle.std.proofs.lemmas.List.{with_items_is}
use Rattle.table.specs.Ageing.{aged}
use Rattle.table.specs.Views.{view, with_places}
use Rattle.engine.proofs.Rooms.{every_all, room_free, room_aged}
use Rattle.engine.proofs.store.Store.free_place.Goals as goal

-- the check of 10, by whether every place is wanted
full : Bool → Option Code
full b = or_else (when b (plain 10)) None

pub returns-in-Some : goal.returns-in-Some
unfolding full
returns-in-Some g c =
    let v = view c.args.self.now.table in
    let found = rw c.deref.ensures.value at c.in-Some.ensures.answer in
    let room = room_free v c.in-Some.n found.0 found.1 in
    record { answer = (ap full room.0, (room.2, ap (with_places v) (sym room.1))) }

pub returns : goal.returns
unfolding full
returns g c =
    let v = view c.args.self.now.table in
    let none = rw c.deref.ensures.value at c.in_default.ensures.answer in
    let found = rw (c.deref-2.ensures.value, c.deref-3.ensures.value) at c.in-Some-find_unwanted.ensures.answer in
    let room = room_aged v c.in-Some-find_unwanted.n found.0 none found.1 in
    let freed : c.age_places.new.places ≡ aged None (view c.args.self.now.table) = c.age_places.ensures.after ∙ rw (c.deref-4.ensures.value, c.deref_mut.ensures.value) in
    let same : length c.age_places.new.places ≡ vec_len c.args.self.now.table.places = omega (arith, c.deref_mut.ensures.len) in
    record { answer = (ap full room.0, (room.2, ap (with_places v) (with_items_is c.args.self.now.table.places c.age_places.new.places same ∙ (freed ∙ sym room.1)))) }

pub returns-in_default-find_unwanted : goal.returns-in_default-find_unwanted
unfolding full
returns-in_default-find_unwanted g c =
    let v = view c.args.self.now.table in
    let none = rw (c.deref-2.ensures.value, c.deref-3.ensures.value) at c.in_default-find_unwanted.ensures.answer in
    record { answer = (ap full (every_all (λ p. is_wanted v.reports p.state) v.places none), (refl, refl)) }
