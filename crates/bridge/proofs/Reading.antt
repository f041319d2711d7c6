-- A read and a walk are the ledger's.
-- At most one place has what a report sees at a key, so the record of any such place is the ledger's; and a walk goes by the keys of such places.
use Rattle.std.proofs.Common.{◌≡◌, ℕ, zero, suc, Bool, true, false, not, ◌&&◌, eqb, List, [], ◌∷◌, ◌++◌, length, Some, None, Ok, Option, Result, Ordering, unwrap_or, sym, refl, ap, ◌∙◌, inl, arith}
use Rattle.std.specs.List.{cons_option, AllByRecursion}
use Rattle.std.proofs.lemmas.Bool.{and_parts, and_from, both_ways}
use Rattle.keys.specs.Refusals.{plain, told}
use Rattle.keys.specs.Orders.{Total}
use Rattle.ledger.specs.declared.call.TicketId.{TicketId}
use Rattle.ledger.specs.declared.call.Call.TheVariants.{Basic, Walk}
use Rattle.ledger.specs.declared.call.BasicCall.TheVariants.{Read}
use Rattle.ledger.specs.declared.answer.Granted.TheVariants.{Record, Next}
use Rattle.ledger.specs.declared.answer.Refusal.{Refusal}
use Rattle.ledger.specs.declared.place.Place.{Place}
use Rattle.ledger.specs.declared.place.PlaceState.{PlaceState}
use Rattle.ledger.specs.declared.place.PlaceState.TheVariants.{Current, Superseded}
use Rattle.ledger.specs.Refusals.{code}
use Rattle.ledger.specs.Words.{when, listed, less, beyond, least}
use Rattle.ledger.specs.Places.{key_of, carries, is_seen_at, spans}
use Rattle.ledger.specs.Versions.{Version, seen_in, seen_at, key_seen_in, keys_seen}
use Rattle.ledger.specs.Control.{stamp_of}
use Rattle.ledger.specs.Steps.{version_in, versions_in}
use Rattle.ledger.specs.Laws.{Least}
use Rattle.ledger.proofs.Leasts.{In, in_behind, least_is}
use Rattle.ledger.proofs.Going.{some_place}
use Rattle.table.specs.Views.{View, at, open_report}
use Rattle.table.specs.Checks.{Outcome, report_open, shelf_fits}
use Rattle.table.specs.Reads.{record_at, sight, read_checks, walk_checks, is_seen_of, is_visible, Reads, Walks}
use Rattle.bridge.specs.Answers.{answer_of}
use Rattle.bridge.specs.Shelves.{Own}
use Rattle.bridge.specs.States.{control}
use Rattle.bridge.specs.Soundness.{Sound}
use Rattle.bridge.proofs.Versions.{One, any_at, found_at, records, seen_is, key_true, true_key}
use Rattle.bridge.proofs.Checks.{stamp_of_is, some_mapped, passes, unmet, shelf_is}
use Rattle.bridge.proofs.Outcomes.{Goes, by_outcome}

module _ {K R : Type 0} (order : K → K → Ordering) (tot : Total order) (v : View K) (own : List R) (s : Sound v) (long : length own ≡ length v.places) (t : TicketId) where
  -- the stamp that the report sees
  sight_is : unwrap_or (stamp_of (control v) t) 0 ≡ sight v t
  sight_is = ap (λ o. unwrap_or o 0) (stamp_of_is v t)

  pub read_goes : (one : (st : ℕ) (q : K) → One (is_seen_of order st q) v.places) (k : K) (handed : List R) (r : Result (Option R) Refusal) → Own own handed
      → Outcome (read_checks v (length handed) t) (Reads order v handed t k) Unit (told code r) → Goes order v own (Basic (Read t k)) (length handed) (answer_of (λ o. Record o) r) v own
  read_goes one k handed r mine h = by_outcome order v v own own (Basic (Read t k)) (length handed) (λ o. Record o) (read_checks v (length handed) t) (Reads order v handed t k) Unit r
      (rw (stamp_of_is v t, some_mapped (λ r. r.stamp) (open_report v t))) h s (λ e. (refl, refl))
      (λ a e x.
      let p1 = passes (report_open v t) (shelf_fits v (length handed) ∷ []) e in
      let p2 = passes (shelf_fits v (length handed)) [] p1.1 in
      let fits : length handed ≡ length own = shelf_is (length handed) (length v.places) (unmet (not (eqb (length handed) (length v.places))) (plain 3) p2.0) ∙ sym long in
      let found = found_at (seen_in order (sight v t) k) (is_seen_of order (sight v t) k) (λ p y. y) refl (seen_is order (sight v t) k) v.places own x.0 long (one (sight v t) k) x.1 in (
        record {
          answer = ap (λ o. Ok (Record o)) (x.2 ∙ (ap (λ xs. record_at xs x.0) (mine fits) ∙ (sym (found ∙ records v.places own x.0) ∙ ap (λ st. seen_at order st k (versions_in v.places own)) (sym sight_is))));
          control = refl;
          moves = (refl, refl);
        },
        s,
      ))

-- the key that a place shows
module _ {K : Type 0} (order : K → K → Ordering) (st : ℕ) (from : Option K) where
  abbrev Shows : PlaceState K → K → Type 0
  Shows p q = (is_seen_at st p ≡ true) × (key_of p ≡ Some q) × (beyond order from q ≡ true)

one_all : {K : Type 0} (P : K → Type 0) (b : Bool) (q : K) (qs : List K) → (b ≡ true → P q) → AllByRecursion P qs → AllByRecursion P (cons_option (when b q) qs)
one_all P true q qs h a = (h refl, a)
one_all P false q qs h a = a

-- the keys that a report sees, by places
module _ {K R : Type 0} (order : K → K → Ordering) (st : ℕ) (from : Option K) where
  place_all : (P : K → Type 0) (p : PlaceState K) (r : R) (vs : List (Version K R)) → ((q : K) → Shows order st from p q → P q) → AllByRecursion P (keys_seen order st from vs) → AllByRecursion P (keys_seen order st from (listed (version_in p r) ++ vs))
  place_all P (Current q b) r vs h a = one_all P (spans b None st && beyond order from q) q (keys_seen order st from vs) (λ e. let x = and_parts (spans b None st) (beyond order from q) e in h q (x.0, refl, x.1)) a
  place_all P (Superseded q b f) r vs h a = one_all P (spans b (Some f) st && beyond order from q) q (keys_seen order st from vs) (λ e. let x = and_parts (spans b (Some f) st) (beyond order from q) e in h q (x.0, refl, x.1)) a
  place_all P _ r vs h a = a

  keys_all : (P : K → Type 0) (ps : List (Place K)) (shelf : List R) → ((n : ℕ) (q : K) → Shows order st from (at ps n) q → P q) → AllByRecursion P (keys_seen order st from (versions_in ps shelf))
  keys_all P [] shelf h = tt
  keys_all P (p ∷ ps) [] h = tt
  keys_all P (p ∷ ps) (r ∷ rs) h = place_all P p.state r (versions_in ps rs) (h 0) (keys_all P ps rs (λ n. h (suc n)))

  here : (p : PlaceState K) (r : R) (vs : List (Version K R)) (k : K) → Shows order st from p k → In k (keys_seen order st from (listed (version_in p r) ++ vs))
  here (Current q b) r vs k h = let e : q ≡ k = cc in rw (h.0, e, h.2) (inl refl)
  here (Superseded q b f) r vs k h = let e : q ≡ k = cc in rw (h.0, e, h.2) (inl refl)
  here _ r vs k h = cc

  behind : (p : PlaceState K) (r : R) (vs : List (Version K R)) (k : K) → In k (keys_seen order st from vs) → In k (keys_seen order st from (listed (version_in p r) ++ vs))
  behind p r vs k h = go (version_in p r)
    where
      go : (o : Option (Version K R)) → In k (keys_seen order st from (listed o ++ vs))
      go None = h
      go (Some x) = in_behind k (key_seen_in order st from x) (keys_seen order st from vs) h

  keys_in : (ps : List (Place K)) (shelf : List R) → length shelf ≡ length ps → (n : ℕ) (k : K) → Shows order st from (at ps n) k → In k (keys_seen order st from (versions_in ps shelf))
  keys_in [] shelf e n k h = cc
  keys_in (p ∷ ps) [] e n k h = absurd (omega arith)
  keys_in (p ∷ ps) (r ∷ rs) e zero k h = here p.state r (versions_in ps rs) k h
  keys_in (p ∷ ps) (r ∷ rs) e (suc n) k h = behind p.state r (versions_in ps rs) k (keys_in ps rs (omega arith) n k h)

  module _ (tot : Total order) (ps : List (Place K)) (shelf : List R) (long : length shelf ≡ length ps) where
    abbrev visible : K → Bool
    visible q = is_visible order ps st q && beyond order from q

    shown_visible : (n : ℕ) (q : K) → Shows order st from (at ps n) q → visible q ≡ true
    shown_visible n q h = and_from (is_visible order ps st q) (beyond order from q)
        (any_at (is_seen_of order st q) ps n refl (and_from (is_seen_at st (at ps n)) (carries order q (at ps n)) h.0 (true_key order tot (key_of (at ps n)) q h.1))) h.2

    visible_in : (q : K) → visible q ≡ true → In q (keys_seen order st from (versions_in ps shelf))
    visible_in q e =
        let p = and_parts (is_visible order ps st q) (beyond order from q) e in
        let n = some_place (is_seen_of order st q) ps p.0 in
        let x = and_parts (is_seen_at st (at ps n.0)) (carries order q (at ps n.0)) n.2 in
        keys_in ps shelf long n.0 q (x.0, key_true order tot (key_of (at ps n.0)) q x.1, p.1)

    none_there : (ks : List K) → AllByRecursion (λ q. ⊥) ks → least order ks ≡ None
    none_there [] a = refl
    none_there (k ∷ ks) a = absurd a.0

    -- the least key that the report sees is the ledger's
    pub least_seen : (answer : Option K) → Least order visible answer → answer ≡ least order (keys_seen order st from (versions_in ps shelf))
    least_seen None h = sym (none_there (keys_seen order st from (versions_in ps shelf)) (keys_all (λ q. ⊥) ps shelf (λ n q x. both_ways (visible q) (h q) (shown_visible n q x))))
    least_seen (Some k) h = sym (least_is order tot (keys_seen order st from (versions_in ps shelf)) k (visible_in k h.0, keys_all (λ q. less order q k ≡ false) ps shelf (λ n q x. h.1 q (shown_visible n q x))))

module _ {K R : Type 0} (order : K → K → Ordering) (tot : Total order) (v : View K) (own : List R) (s : Sound v) (long : length own ≡ length v.places) (t : TicketId) where
  pub walk_goes : (from : Option K) (n : ℕ) (r : Result (Option K) Refusal) → Outcome (walk_checks v t) (Walks order v t from) Unit (told code r)
      → Goes order v own (Walk t from) n (answer_of (λ o. Next o) r) v own
  walk_goes from n r h = by_outcome order v v own own (Walk t from) n (λ o. Next o) (walk_checks v t) (Walks order v t from) Unit r
      (rw (stamp_of_is v t, some_mapped (λ r. r.stamp) (open_report v t))) h s (λ e. (refl, refl))
      (λ a e x. (record { answer = ap (λ o. Ok (Next o)) (least_seen order (sight v t) from tot v.places own long a x ∙ ap (λ st. least order (keys_seen order st from (versions_in v.places own))) (sym (sight_is order tot v own s long t))); control = refl; moves = (refl, refl) }, s))
