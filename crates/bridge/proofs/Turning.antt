-- A commit and an abort turn one place after another, as the entries of a row name them.
-- The places are all different, since the keys that the row holds are; so each is turned once, and all others stay.
use Rattle.std.proofs.Common.{◌≡◌, ℕ, Bool, true, false, eqb, ◌⊎◌, List, [], ◌∷◌, map, length, get_or, Some, fold, Option, sym, refl, ap, ◌∙◌, subst, inl, inr, ⊎_elim, arith}
use Rattle.std.specs.List.{flat_map, AllByRecursion}
use Rattle.std.proofs.ByRecursion.{All-append, All-weaker}
use Rattle.std.proofs.lemmas.List.{length-set, get_or-set_same, get_or-set_other, get_or_past, length-map, same_lists, get_or-map, get_or_default}
use Rattle.std.proofs.lemmas.List.Sums.{fold-append}
use Rattle.std.proofs.lemmas.Bool.{eqb-true, eqb-false, cases_lt}
use Rattle.ledger.specs.declared.place.Place.{Place}
use Rattle.ledger.specs.declared.place.PlaceEvent.{PlaceEvent}
use Rattle.ledger.specs.Places.{free, after, key_of}
use Rattle.table.specs.declared.row.HeldKey.{HeldKey}
use Rattle.table.specs.Views.{at}
use Rattle.table.specs.Drafts.{turned}
use Rattle.bridge.specs.States.{keys_held}
use Rattle.bridge.specs.Soundness.{Apart, EntryFits}
use Rattle.bridge.proofs.Apart.{Has, some_all, not_has, has_not, apart_join}
use Rattle.bridge.proofs.Fitting.{keys_cons}

-- the event at the place, and at one place after the other
abbrev pub turn : {K : Type 0} → PlaceEvent K → List (Place K) → ℕ → List (Place K)
turn event ps n = turned event n ps

pub turned_length : {K : Type 0} (event : PlaceEvent K) (ns : List ℕ) (ps : List (Place K)) → length (fold (turn event) ps ns) ≡ length ps
turned_length event [] ps = refl
turned_length event (n ∷ ns) ps = turned_length event ns (turn event ps n) ∙ length-set ps n (after (get_or ps n free) event)

-- a place is turned once, or stays
module _ {K : Type 0} (event : PlaceEvent K) (still : after free event ≡ free) where
  turned_here : (ps : List (Place K)) (n : ℕ) → get_or (turn event ps n) n free ≡ after (get_or ps n free) event
  turned_here ps n = ⊎_elim
      (λ lt. get_or-set_same ps n (after (get_or ps n free) event) free lt)
      (λ le. get_or_past (turn event ps n) n free (omega (arith, le, length-set ps n (after (get_or ps n free) event))) ∙ (sym still ∙ ap (λ p. after p event) (sym (get_or_past ps n free le))))
      (cases_lt n (length ps))

  pub turned_once : (ns : List ℕ) (ps : List (Place K)) → Apart ns → (n : ℕ) → ((Has n ns → ⊥) × (get_or (fold (turn event) ps ns) n free ≡ get_or ps n free)) ⊎ (Has n ns × (get_or (fold (turn event) ps ns) n free ≡ after (get_or ps n free) event))
  turned_once [] ps a n = inl (λ h. h, refl)
  turned_once (m ∷ ns) ps a n = go (eqb n m) refl (turned_once ns (turn event ps m) a.1 n)
    where
      go : (b : Bool) → eqb n m ≡ b → ((Has n ns → ⊥) × (get_or (fold (turn event) (turn event ps m) ns) n free ≡ get_or (turn event ps m) n free)) ⊎ (Has n ns × (get_or (fold (turn event) (turn event ps m) ns) n free ≡ after (get_or (turn event ps m) n free) event))
          → ((Has n (m ∷ ns) → ⊥) × (get_or (fold (turn event) (turn event ps m) ns) n free ≡ get_or ps n free)) ⊎ (Has n (m ∷ ns) × (get_or (fold (turn event) (turn event ps m) ns) n free ≡ after (get_or ps n free) event))
      go true e (inl x) = let z : n ≡ m = eqb-true n m e in inr (inl (sym z), x.1 ∙ subst (λ y. get_or (turn event ps y) n free ≡ after (get_or ps n free) event) z (turned_here ps n))
      go true e (inr x) = absurd (not_has m ns a.0 (subst (λ y. Has y ns) (eqb-true n m e) x.0))
      go false e (inl x) = let ne : n ≡ m → ⊥ = eqb-false n m e in inl (⊎_elim (λ z. ne (sym z)) x.0, x.1 ∙ get_or-set_other ps m n (after (get_or ps m free) event) free ne)
      go false e (inr x) = let ne : n ≡ m → ⊥ = eqb-false n m e in inr (inr x.0, x.1 ∙ ap (λ p. after p event) (get_or-set_other ps m n (after (get_or ps m free) event) free ne))

-- entries one after the other, where each turns the places that it names
pub entries_turn : {K : Type 0} (event : PlaceEvent K) (g : List (Place K) → HeldKey → List (Place K)) (names : HeldKey → List ℕ) → ((ps : List (Place K)) (e : HeldKey) → g ps e ≡ fold (turn event) ps (names e))
    → (es : List HeldKey) (ps : List (Place K)) → fold g ps es ≡ fold (turn event) ps (flat_map names es)
entries_turn event g names is [] ps = refl
entries_turn event g names is (e ∷ es) ps = entries_turn event g names is es (g ps e) ∙ (ap (λ qs. fold (turn event) qs (flat_map names es)) (is ps e) ∙ sym (fold-append (turn event) ps (names e) (flat_map names es)))

-- the places that entries name are all different, where those of one entry are and carry its key
module _ {K : Type 0} (ps : List (Place K)) (t : ℕ) (names : HeldKey → List ℕ)
    (own : (e : HeldKey) (f : EntryFits ps t e) → Apart (names e) × AllByRecursion (λ n. key_of (at ps n) ≡ Some f.key) (names e)) where
  abbrev Carried : List HeldKey → ℕ → Type 0
  Carried es n = (k : K) × Has k (keys_held ps es) × (key_of (at ps n) ≡ Some k)

  pub names_apart : (es : List HeldKey) → AllByRecursion (EntryFits ps t) es → Apart (keys_held ps es) → Apart (flat_map names es) × AllByRecursion (Carried es) (flat_map names es)
  names_apart [] f a = (tt, tt)
  names_apart (e ∷ es) f a =
      let k = f.0.key in
      let cons : keys_held ps (e ∷ es) ≡ k ∷ keys_held ps es = keys_cons ps e es k f.0.holds in
      let a' : Apart (k ∷ keys_held ps es) = subst Apart cons a in
      let i = names_apart es f.1 a'.1 in
      let o = own e f.0 in (
        apart_join (names e) (flat_map names es) o.0 i.0
            (All-weaker (λ n. key_of (at ps n) ≡ Some k) (λ n. AllByRecursion (λ m. n ≡ m → ⊥) (flat_map names es))
            (λ n en. has_not n (flat_map names es) (λ h.
            let x = some_all (λ m. m ≡ n) (Carried es) (flat_map names es) h i.1 in
            let same : key_of (at ps n) ≡ Some x.2.0 = subst (λ m. key_of (at ps m) ≡ Some x.2.0) x.1 x.2.2 in
            let z : ◌≡◌ {A = Option K} (Some k) (Some x.2.0) = sym en ∙ same in
            let ek : x.2.0 ≡ k = cc in
            not_has k (keys_held ps es) a'.0 (subst (λ q. Has q (keys_held ps es)) ek x.2.1)))
            (names e) o.1),
        All-append (Carried (e ∷ es)) (names e) (flat_map names es)
            (All-weaker (λ n. key_of (at ps n) ≡ Some k) (Carried (e ∷ es)) (λ n en. (k, subst (Has k) (sym cons) (inl refl), en)) (names e) o.1)
            (All-weaker (Carried es) (Carried (e ∷ es)) (λ n x. (x.0, subst (Has x.0) (sym cons) (inr x.1), x.2)) (flat_map names es) i.1),
      )

-- two lists of places of one length are equal where they are equal at every number
pub same_places : {K : Type 0} (f : Place K → Place K) (ps qs : List (Place K)) → length qs ≡ length ps → ((n : ℕ) → get_or qs n free ≡ f (get_or ps n free)) → qs ≡ map f ps
same_places f ps qs el h = same_lists qs (map f ps) (el ∙ sym (length-map ps f))
    (λ n d lt. get_or_default qs n d free lt ∙ (h n ∙ sym (get_or-map f ps n free d (omega (arith, el, lt)))))
