-- A walk through the keys of an index, one after the other. Everything visible beyond the given key is still ahead: the walk
-- has come to the least key beyond some key `from`, and whatever was passed over is not visible. Each step leaves fewer keys
-- ahead, so the walk comes to an end.
use Rattle.std.proofs.Common.{◌≡◌, ℕ, zero, suc, ◌<◌, ◌≤◌, Bool, true, false, cond, ◌&&◌, ◌⊎◌, List, [], ◌∷◌, Some, None, Option, Ordering, Less, Equal, Greater, sym, refl, ap, ◌∙◌, subst, inl, inr, ⊎_elim, arith}
use Rattle.index.proofs.Leasts.{least_is_least}
use Rattle.index.specs.Ordered.{Beyond, LeastBeyond, least}
use Rattle.index.specs.Slots.{Maps}
use Rattle.keys.specs.Orders.{Total}
use Rattle.ledger.specs.Laws.{Least}
use Rattle.ledger.specs.Words.{beyond}
use Rattle.std.proofs.lemmas.Bool.{and_parts, both_ways}
use Rattle.std.specs.Coded.{coded_bool, Coded-set, ×_prop, Π_prop}
use Rattle.std.specs.Ordering.{is_lt}

lt_true : (o : Ordering) → is_lt o ≡ true → o ≡ Less
lt_true Less e = refl
lt_true Equal e = absurd (both_ways false refl e)
lt_true Greater e = absurd (both_ways false refl e)

lt_false : (o : Ordering) → (o ≡ Less → ⊥) → is_lt o ≡ false
lt_false Less never = absurd (never refl)
lt_false Equal never = refl
lt_false Greater never = refl

one_of : (o : Ordering) → (o ≡ Less) ⊎ ((o ≡ Equal) ⊎ (o ≡ Greater))
one_of Less = inl refl
one_of Equal = inr (inl refl)
one_of Greater = inr (inr refl)

-- by a test and what it gives
never_true : (b : Bool) → (b ≡ true → ⊥) → b ≡ false
never_true true never = absurd (never refl)
never_true false never = refl

module _ {K : Type 0} (order : K → K → Ordering) where
  -- how many keys are beyond a key
  abbrev pub count_beyond : Option K → List (Option K) → ℕ
  count_beyond from [] = 0
  count_beyond from (None ∷ slots) = count_beyond from slots
  count_beyond from (Some key ∷ slots) = cond (beyond order from key) (suc (count_beyond from slots)) (count_beyond from slots)

  -- how many keys a walk may still come to
  abbrev pub left_of : List (Option K) → Option (K × ℕ) → ℕ
  left_of slots None = 0
  left_of slots (Some pair) = suc (count_beyond (Some pair.0) slots)

  module _ (from to : Option K) (further : (q : K) → beyond order to q ≡ true → beyond order from q ≡ true) where
    by_tests : (a b : Bool) (m n : ℕ) → (b ≡ true → a ≡ true) → m ≤ n → cond b (suc m) m ≤ cond a (suc n) n
    by_tests true true m n f h = omega arith
    by_tests true false m n f h = omega arith
    by_tests false true m n f h = absurd (both_ways false refl (f refl))
    by_tests false false m n f h = h

    no_more : (slots : List (Option K)) → count_beyond to slots ≤ count_beyond from slots
    no_more [] = omega arith
    no_more (None ∷ slots) = no_more slots
    no_more (Some k ∷ slots) = by_tests (beyond order from k) (beyond order to k) (count_beyond to slots) (count_beyond from slots) (further k) (no_more slots)

    -- a key that is beyond the one and not the other
    fewer : (slots : List (Option K)) (m : ℕ) (key : K) → Maps slots m key → beyond order from key ≡ true → beyond order to key ≡ false → suc (count_beyond to slots) ≤ count_beyond from slots
    fewer [] m key e on off = cc
    fewer (None ∷ slots) zero key e on off = cc
    fewer (None ∷ slots) (suc m) key e on off = fewer slots m key e on off
    fewer (Some k ∷ slots) zero key e on off =
        let same : key ≡ k = cc in
        let here : beyond order from k ≡ true = subst (λ (x : K). beyond order from x ≡ true) same on in
        let there : beyond order to k ≡ false = subst (λ (x : K). beyond order to x ≡ false) same off in
        let h : count_beyond to slots ≤ count_beyond from slots = no_more slots in
        rw (here, there) (omega arith)
    fewer (Some k ∷ slots) (suc m) key e on off = go (beyond order from k) (beyond order to k) (further k) (fewer slots m key e on off)
      where
        go : (a b : Bool) → (b ≡ true → a ≡ true) → suc (count_beyond to slots) ≤ count_beyond from slots →
            suc (cond b (suc (count_beyond to slots)) (count_beyond to slots)) ≤ cond a (suc (count_beyond from slots)) (count_beyond from slots)
        go true true f h = omega arith
        go true false f h = omega arith
        go false true f h = absurd (both_ways false refl (f refl))
        go false false f h = h

module _ {K : Type 0} (order : K → K → Ordering) (total : Total order) where
  is_beyond : (from : Option K) (q : K) → beyond order from q ≡ true → Beyond order from q
  is_beyond None q on = tt
  is_beyond (Some f) q on = lt_true (order f q) on

  tests_beyond : (from : Option K) (q : K) → Beyond order from q → beyond order from q ≡ true
  tests_beyond None q b = refl
  tests_beyond (Some f) q b = ap is_lt b

  -- beyond passes on
  further_on : (from : Option K) (key q : K) → beyond order from key ≡ true → order key q ≡ Less → beyond order from q ≡ true
  further_on None key q on l = refl
  further_on (Some f) key q on l = ap is_lt (total.passes f key q (lt_true (order f key) on) l)

pub left_falls : {K : Type 0} {order : K → K → Ordering} → Total order → (slots : List (Option K)) (key : K) → left_of order slots (least order (Some key) slots) < suc (count_beyond order (Some key) slots)
left_falls {K} {order} total slots key = go (least order (Some key) slots) (least_is_least order total (Some key) slots)
  where
    go : (found : Option (K × ℕ)) → LeastBeyond order (Some key) slots found → left_of order slots found < suc (count_beyond order (Some key) slots)
    go None h = omega arith
    go (Some pair) h =
        let f = fewer order (Some key) (Some pair.0) (λ q on. further_on order total (Some key) pair.0 q (ap is_lt h.1) (lt_true (order pair.0 q) on)) slots pair.1 pair.0 h.0 (ap is_lt h.1) (ap is_lt (total.itself pair.0)) in
        omega arith

-- the key that a walk has come to has its number
pub least_maps : {K : Type 0} {order : K → K → Ordering} → Total order → (from : Option K) (slots : List (Option K)) {at : Option (K × ℕ)} {key : K} {number : ℕ} → at ≡ least order from slots → at ≡ Some (key, number) → Maps slots number key
least_maps {order = order} total from slots e is = (subst (LeastBeyond order from slots) (sym e ∙ is) (least_is_least order total from slots)).0

-- the keys that are looked for
abbrev pub wanted : {K : Type 0} → (K → K → Ordering) → (K → Bool) → Option K → K → Bool
wanted order visible after q = visible q && beyond order after q

-- how far a walk has come
pub record Cursor {K : Type 0} (order : K → K → Ordering) (slots : List (Option K)) (visible : K → Bool) (after : Option K) (at : Option (K × ℕ)) : Type 0 where
  pub from : Option K
  pub next : at ≡ least order from slots
  -- what is beyond the key is beyond the given one
  pub within : (q : K) → beyond order from q ≡ true → beyond order after q ≡ true
  -- nothing visible was passed over
  pub ahead : (q : K) → wanted order visible after q ≡ true → beyond order from q ≡ true

-- each key that is visible has a number
abbrev pub Carried : {K : Type 0} → List (Option K) → (K → Bool) → Type 0
Carried {K} slots visible = (q : K) → visible q ≡ true → (m : ℕ) × Maps slots m q

pub least_prop : {K : Type 0} (order : K → K → Ordering) (test : K → Bool) (answer : Option K) → IsProp (Least order test answer)
least_prop order test None = Π_prop λ q. Coded-set coded_bool _ _
least_prop order test (Some k) = ×_prop (Coded-set coded_bool _ _) (Π_prop λ q. Π_prop λ w. Coded-set coded_bool _ _)

module _ {K : Type 0} {order : K → K → Ordering} (total : Total order) {slots : List (Option K)} {visible : K → Bool} {after : Option K} where
  pub cursor_start : {at : Option (K × ℕ)} → at ≡ least order after slots → Cursor order slots visible after at
  cursor_start e = record {
    from = after;
    next = e;
    within = λ q on. on;
    ahead = λ q w. (and_parts (visible q) (beyond order after q) w).1;
  }

  module _ {key : K} {number : ℕ} (c : Cursor order slots visible after (Some (key, number))) where
    come_to : LeastBeyond order c.from slots (Some (key, number))
    come_to = subst (LeastBeyond order c.from slots) (sym c.next) (least_is_least order total c.from slots)

    pub cursor_maps : Maps slots number key
    cursor_maps = come_to.0

    here : beyond order c.from key ≡ true
    here = tests_beyond order total c.from key come_to.1

    module _ (carried : Carried slots visible) where
      -- no wanted key is less than the one that the walk has come to
      none_less : (q : K) → wanted order visible after q ≡ true → order q key ≡ Less → ⊥
      none_less q w l = let m = carried q (and_parts (visible q) (beyond order after q) w).0 in come_to.2 m.0 q m.1 (is_beyond order total c.from q (c.ahead q w)) l

      pub cursor_found : visible key ≡ true → Least order (wanted order visible after) (Some key)
      cursor_found on = (rw (on, c.within key here), λ q w. lt_false (order q key) (none_less q w))

      pub cursor_next : visible key ≡ false → Cursor order slots visible after (least order (Some key) slots)
      cursor_next off = record {
        from = Some key;
        next = refl;
        within = λ q on. further_on order total after key q (c.within key here) (lt_true (order key q) on);
        ahead = λ q w. ⊎_elim
            (λ l. ap is_lt l)
            (⊎_elim
            (λ e. let same : key ≡ q = total.same key q e in absurd (both_ways (visible key) off (subst (λ (x : K). visible x ≡ true) (sym same) (and_parts (visible q) (beyond order after q) w).0)))
            (λ g. absurd (none_less q w (total.back key q g))))
            (one_of (order key q));
      }

  pub cursor_none : {at : Option (K × ℕ)} → Cursor order slots visible after at → Carried slots visible → at ≡ None → Least order (wanted order visible after) None
  cursor_none c carried e q = never_true (wanted order visible after q) (λ w.
      let m = carried q (and_parts (visible q) (beyond order after q) w).0 in
      subst (LeastBeyond order c.from slots) (sym c.next ∙ e) (least_is_least order total c.from slots) m.0 q m.1 (is_beyond order total c.from q (c.ahead q w)))
