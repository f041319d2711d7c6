-- The least key beyond a given one, found by any means, is the one that `least` reads off the slots.
-- `least` gives a least one (`least_is_least`, slot by slot), and where no key has two numbers there is only one (`least_once`).
use Rattle.std.proofs.Common.{◌≡◌, ℕ, zero, suc, ◌⊎◌, List, [], ◌∷◌, Some, None, Option, Ordering, Less, Equal, Greater, sym, refl, subst, inl, inr, ⊎_elim}
use Rattle.keys.specs.Orders.{Total, ranked}
use Rattle.index.proofs.Orders.{never_less, not_both_less}
use Rattle.index.proofs.Ranked.{ranked_by}
use Rattle.index.specs.Ordered.{Beyond, LeastBeyond, if_beyond, least, lesser, pair_behind_first}
use Rattle.index.specs.Slots.{Apart, Maps}

module _ {K : Type 0} (order : K → K → Ordering) (total : Total order) where
  -- the key of the first slot is beyond the given one, or it is not
  beyond_cases : (given : Option K) (key : K) → (Beyond order given key × (if_beyond order given key ≡ Some (key, zero))) ⊎ ((Beyond order given key → ⊥) × (if_beyond order given key ≡ None))
  beyond_cases None key = inl (tt, refl)
  beyond_cases (Some g) key = go (order g key)
    where
      go : (o : Ordering) → ((o ≡ Less) × (◌≡◌ {A = Option (K × ℕ)} (ranked {X = Option (K × ℕ)} o (Some (key, zero)) None None) (Some (key, zero)))) ⊎
          ((o ≡ Less → ⊥) × (◌≡◌ {A = Option (K × ℕ)} (ranked {X = Option (K × ℕ)} o (Some (key, zero)) None None) None))
      go Less = inl (refl, refl)
      go Equal = inr ((λ e. cc), refl)
      go Greater = inr ((λ e. cc), refl)

  -- a first slot whose key, if it has one, is not beyond the given one
  least_behind : (given : Option K) (slot : Option K) (slots : List (Option K)) (r : Option (K × ℕ)) → ((key : K) → slot ≡ Some key → Beyond order given key → ⊥) →
      LeastBeyond order given slots r → LeastBeyond order given (slot ∷ slots) (pair_behind_first r)
  least_behind given slot slots None out h = go
    where
      go : (n : ℕ) (key : K) → Maps (slot ∷ slots) n key → Beyond order given key → ⊥
      go zero key e p = let same : slot ≡ Some key = cc in out key same p
      go (suc n) key e p = h n key e p
  least_behind given slot slots (Some best) out h = (h.0, h.1, go)
    where
      go : (n : ℕ) (key : K) → Maps (slot ∷ slots) n key → Beyond order given key → order key best.0 ≡ Less → ⊥
      go zero key e p l = let same : slot ≡ Some key = cc in out key same p
      go (suc n) key e p l = h.2 n key e p l

  -- a first slot whose key is beyond the given one
  least_first : (given : Option K) (x : K) (slots : List (Option K)) (r : Option (K × ℕ)) → Beyond order given x → LeastBeyond order given slots r →
      LeastBeyond order given (Some x ∷ slots) (lesser order (Some (x, zero)) (pair_behind_first r))
  least_first given x slots None beyond h = (refl, beyond, go)
    where
      go : (n : ℕ) (key : K) → Maps (Some x ∷ slots) n key → Beyond order given key → order key x ≡ Less → ⊥
      go zero key e p l = let same : x ≡ key = cc in never_less order total key (subst (λ (y : K). order key y ≡ Less) same l)
      go (suc n) key e p l = h n key e p
  least_first given x slots (Some best) beyond h =
      ranked_by (LeastBeyond order given (Some x ∷ slots)) (order best.0 x) _ _ _
      (λ o. (h.0, h.1, below o))
      (λ o. (refl, beyond, above (λ key l. subst (λ (y : K). order key y ≡ Less) (sym (total.same best.0 x o)) l)))
      (λ o. (refl, beyond, above (λ key l. total.passes key x best.0 l (total.back best.0 x o))))
    where
      below : order best.0 x ≡ Less → (n : ℕ) (key : K) → Maps (Some x ∷ slots) n key → Beyond order given key → order key best.0 ≡ Less → ⊥
      below o zero key e p l = let same : x ≡ key = cc in not_both_less order total key best.0 l (subst (λ (y : K). order best.0 y ≡ Less) same o)
      below o (suc n) key e p l = h.2 n key e p l

      above : ((key : K) → order key x ≡ Less → order key best.0 ≡ Less) → (n : ℕ) (key : K) → Maps (Some x ∷ slots) n key → Beyond order given key → order key x ≡ Less → ⊥
      above f zero key e p l = let same : x ≡ key = cc in never_less order total key (subst (λ (y : K). order key y ≡ Less) same l)
      above f (suc n) key e p l = h.2 n key e p (f key l)

  pub least_is_least : (given : Option K) (slots : List (Option K)) → LeastBeyond order given slots (least order given slots)
  least_is_least given [] = λ n key e p. cc
  least_is_least given (None ∷ slots) = least_behind given None slots (least order given slots) (λ key e. cc) (least_is_least given slots)
  least_is_least given (Some x ∷ slots) = ⊎_elim
      (λ (q : Beyond order given x × (if_beyond order given x ≡ Some (x, zero))). subst Goal (sym q.1) (least_first given x slots (least order given slots) q.0 (least_is_least given slots)))
      (λ (q : (Beyond order given x → ⊥) × (if_beyond order given x ≡ None)).
      subst Goal (sym q.1) (least_behind given (Some x) slots (least order given slots) (λ key e p. let same : key ≡ x = cc in q.0 (subst (Beyond order given) same p)) (least_is_least given slots)))
      (beyond_cases given x)
    where
      Goal : Option (K × ℕ) → Type 0
      Goal o = LeastBeyond order given (Some x ∷ slots) (lesser order o (pair_behind_first (least order given slots)))

  pub least_once : (given : Option K) (slots : List (Option K)) → Apart slots → (r q : Option (K × ℕ)) → LeastBeyond order given slots r → LeastBeyond order given slots q → r ≡ q
  least_once given slots apart None None h i = refl
  least_once given slots apart None (Some b) h i = absurd (h b.1 b.0 i.0 i.1)
  least_once given slots apart (Some a) None h i = absurd (i a.1 a.0 h.0 h.1)
  least_once given slots apart (Some a) (Some b) h i = go (order a.0 b.0) refl
    where
      go : (o : Ordering) → order a.0 b.0 ≡ o → Some a ≡ Some b
      go Less e = absurd (i.2 a.1 a.0 h.0 h.1 e)
      go Greater e = absurd (h.2 b.1 b.0 i.0 i.1 (total.back a.0 b.0 e))
      go Equal e =
          let same : a.0 ≡ b.0 = total.same a.0 b.0 e in
          let number : a.1 ≡ b.1 = apart a.1 b.1 a.0 h.0 (subst (λ (y : K). Maps slots b.1 y) (sym same) i.0) in
          (λ j. Some (same j, number j))

  pub least_found : (given : Option K) (slots : List (Option K)) (r : Option (K × ℕ)) → Apart slots → LeastBeyond order given slots r → r ≡ least order given slots
  least_found given slots r apart h = least_once given slots apart r (least order given slots) h (least_is_least given slots)
