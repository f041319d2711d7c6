-- A job comes to hold a key: no key is held twice afterwards, since no other job holds it.
-- Said of the ledger's jobs; how a row comes by an entry for the key is in Noting.
use Rattle.std.proofs.Common.{◌≡◌, ℕ, Bool, true, false, cond, not, ◌&&◌, ◌||◌, eqb, ◌⊎◌, List, [], ◌∷◌, ◌++◌, map, None, Ordering, sym, refl, ap, ◌∙◌, subst, inl, inr, ⊎_elim}
use Rattle.std.specs.List.{AllByRecursion}
use Rattle.std.proofs.ByRecursion.{All-push}
use Rattle.std.proofs.lemmas.Bool.{eqb-true, eqb-false, both_ways, or_right}
use Rattle.keys.specs.Orders.{Total}
use Rattle.ledger.specs.Words.{when, or_else, same}
use Rattle.ledger.specs.Control.{Job, has_key, other_holder, holding}
use Rattle.bridge.specs.Soundness.{Apart, all_keys}
use Rattle.bridge.proofs.Apart.{Has, Off, some_left, some_right, some_parts, off_has, has_not, apart_parts, apart_join, apart_push}
use Rattle.bridge.proofs.Versions.{same_true}

module _ {K : Type 0} (order : K → K → Ordering) (tot : Total order) (k : K) where
  pub has_true : (ks : List K) → Has k ks → has_key order k ks ≡ true
  has_true [] h = absurd h
  has_true (q ∷ qs) (inl e) = rw (e, tot.itself k)
  has_true (q ∷ qs) (inr h) = or_right (same order q k) (has_key order k qs) (has_true qs h)

  pub true_has : (ks : List K) → has_key order k ks ≡ true → Has k ks
  true_has [] e = cc
  true_has (q ∷ qs) e = go (same order q k) refl e (λ e'. true_has qs e')
    where
      go : (b : Bool) → same order q k ≡ b → (b || has_key order k qs) ≡ true → (has_key order k qs ≡ true → Has k qs) → Has k (q ∷ qs)
      go true eb e i = inl (same_true order tot q k eb)
      go false eb e i = inr (i e)

  module _ (t : ℕ) where
    -- the job with one more key, if it did not hold it
    abbrev pub more : Job K → Job K
    more j = cond (eqb j.ticket t && not (has_key order k j.keys)) (record j { keys = j.keys ++ (k ∷ []) }) j

    -- a job that holds the key holds no more by another hold
    pub hold_same : (js : List (Job K)) → AllByRecursion (λ j. j.ticket ≡ t → Has k j.keys) js → holding order t k js ≡ js
    hold_same [] a = refl
    hold_same (j ∷ js) a = go (eqb j.ticket t) refl (hold_same js a.1)
      where
        go : (b : Bool) → eqb j.ticket t ≡ b → holding order t k js ≡ js → holding order t k (j ∷ js) ≡ j ∷ js
        go true e i = rw (e, has_true j.keys (a.0 (eqb-true j.ticket t e))) (ap (λ xs. j ∷ xs) i)
        go false e i = rw e (ap (λ xs. j ∷ xs) i)

    -- no other job holds the key
    alone_all : (js : List (Job K)) → other_holder order t k js ≡ None → AllByRecursion (λ j. (j.ticket ≡ t → ⊥) → Has k j.keys → ⊥) js
    alone_all [] e = tt
    alone_all (j ∷ js) e = go (eqb j.ticket t) refl (has_key order k j.keys) refl e (λ e'. alone_all js e')
      where
        go : (b : Bool) → eqb j.ticket t ≡ b → (c : Bool) → has_key order k j.keys ≡ c → or_else (when (not b && c) j.ticket) (other_holder order t k js) ≡ None
            → (other_holder order t k js ≡ None → AllByRecursion (λ j. (j.ticket ≡ t → ⊥) → Has k j.keys → ⊥) js) → AllByRecursion (λ j. (j.ticket ≡ t → ⊥) → Has k j.keys → ⊥) (j ∷ js)
        go true eb c ec e i = (λ ne h. ne (eqb-true j.ticket t eb), i e)
        go false eb true ec e i = cc
        go false eb false ec e i = (λ ne h. both_ways (has_key order k j.keys) ec (has_true j.keys h), i e)

    not_among : (js : List (Job K)) → AllByRecursion (λ j. (j.ticket ≡ t → ⊥) → Has k j.keys → ⊥) js → AllByRecursion (λ j. j.ticket ≡ t → ⊥) js → Has k (all_keys js) → ⊥
    not_among [] a b h = h
    not_among (j ∷ js) a b h = ⊎_elim (a.0 b.0) (not_among js a.1 b.1) (some_parts (λ q. q ≡ k) j.keys (all_keys js) h)

    -- what is held afterwards was held before, or is the key
    has_holding : (q : K) (js : List (Job K)) → Has q (all_keys (holding order t k js)) → Has q (all_keys js) ⊎ (k ≡ q)
    has_holding q [] h = inl h
    has_holding q (j ∷ js) h = go (eqb j.ticket t && not (has_key order k j.keys)) h (λ h'. has_holding q js h')
      where
        later : Has q (all_keys js) ⊎ (k ≡ q) → Has q (all_keys (j ∷ js)) ⊎ (k ≡ q)
        later = ⊎_elim (λ x. inl (some_right (λ y. y ≡ q) j.keys (all_keys js) x)) (λ x. inr x)

        left : Has q j.keys → Has q (all_keys (j ∷ js))
        left x = some_left (λ y. y ≡ q) j.keys (all_keys js) x

        pushed : (ks : List K) → Has q (ks ++ (k ∷ [])) → Has q ks ⊎ (k ≡ q)
        pushed ks x = ⊎_elim (λ y. inl y) (⊎_elim (λ y. inr y) (λ y. absurd y)) (some_parts (λ y. y ≡ q) ks (k ∷ []) x)

        go : (b : Bool) → Has q ((cond b (record j { keys = j.keys ++ (k ∷ []) }) j).keys ++ all_keys (holding order t k js)) → (Has q (all_keys (holding order t k js)) → Has q (all_keys js) ⊎ (k ≡ q)) → Has q (all_keys (j ∷ js)) ⊎ (k ≡ q)
        go true h i = ⊎_elim (λ x. ⊎_elim (λ y. inl (left y)) (λ y. inr y) (pushed j.keys x)) (λ x. later (i x)) (some_parts (λ y. y ≡ q) (j.keys ++ (k ∷ [])) (all_keys (holding order t k js)) h)
        go false h i = ⊎_elim (λ x. inl (left x)) (λ x. later (i x)) (some_parts (λ y. y ≡ q) j.keys (all_keys (holding order t k js)) h)

    all_off : (xs ys : List K) → ((q : K) → Has q xs → Has q ys → ⊥) → Off xs ys
    all_off [] ys f = tt
    all_off (x ∷ xs) ys f = (has_not x ys (λ h. f x (inl refl) h), all_off xs ys (λ q a b. f q (inr a) b))

    -- no key is held twice afterwards
    pub hold_apart : (js : List (Job K)) → Apart (all_keys js) → other_holder order t k js ≡ None → Apart (map (λ j. j.ticket) js) → Apart (all_keys (holding order t k js))
    hold_apart js a alone apart = go js a (alone_all js alone) apart
      where
        others : (j : Job K) (js : List (Job K)) → j.ticket ≡ t → AllByRecursion (λ y. j.ticket ≡ y → ⊥) (map (λ j. j.ticket) js) → AllByRecursion (λ j. j.ticket ≡ t → ⊥) js
        others j [] e a = tt
        others j (x ∷ xs) e a = (λ z. a.0 (e ∙ sym z), others j xs e a.1)

        same_rest : (js : List (Job K)) → AllByRecursion (λ j. j.ticket ≡ t → ⊥) js → holding order t k js ≡ js
        same_rest js b = hold_same js (all_weak js b)
          where
            all_weak : (xs : List (Job K)) → AllByRecursion (λ j. j.ticket ≡ t → ⊥) xs → AllByRecursion (λ j. j.ticket ≡ t → Has k j.keys) xs
            all_weak [] b = tt
            all_weak (x ∷ xs) b = (λ e. absurd (b.0 e), all_weak xs b.1)

        here : (j : Job K) (js : List (Job K)) (c : Bool) → has_key order k j.keys ≡ c → Apart j.keys × Apart (all_keys js) × Off j.keys (all_keys js) → (Has k (all_keys js) → ⊥)
            → Apart ((cond (not c) (record j { keys = j.keys ++ (k ∷ []) }) j).keys ++ all_keys js)
        here j js true ec p out = apart_join j.keys (all_keys js) p.0 p.1 p.2
        here j js false ec p out = apart_join (j.keys ++ (k ∷ [])) (all_keys js) (apart_push k j.keys p.0 (λ h. both_ways (has_key order k j.keys) ec (has_true j.keys h))) p.1
            (All-push (λ x. AllByRecursion (λ y. x ≡ y → ⊥) (all_keys js)) j.keys k p.2 (has_not k (all_keys js) out))

        go : (js : List (Job K)) → Apart (all_keys js) → AllByRecursion (λ j. (j.ticket ≡ t → ⊥) → Has k j.keys → ⊥) js → Apart (map (λ j. j.ticket) js) → Apart (all_keys (holding order t k js))
        go [] a b c = tt
        go (j ∷ js) a b c = pick (eqb j.ticket t) refl (apart_parts j.keys (all_keys js) a) (λ a'. go js a' b.1 c.1)
          where
            pick : (x : Bool) → eqb j.ticket t ≡ x → Apart j.keys × Apart (all_keys js) × Off j.keys (all_keys js) → (Apart (all_keys js) → Apart (all_keys (holding order t k js))) → Apart (all_keys (holding order t k (j ∷ js)))
            pick true e p i =
                let out = others j js (eqb-true j.ticket t e) c.0 in
                rw (e, same_rest js out) (here j js (has_key order k j.keys) refl p (not_among js b.1 out))
            pick false e p i = rw e (apart_join j.keys (all_keys (holding order t k js)) p.0 (i p.1)
                (all_off j.keys (all_keys (holding order t k js)) (λ q x y. ⊎_elim (λ z. off_has q j.keys (all_keys js) p.2 x z) (λ z. b.0 (eqb-false j.ticket t e) (subst (λ w. Has w j.keys) (sym z) x)) (has_holding q js y))))
