-- Readers that read just the texts of their values, put together: of two fields, each with such a reader, and of a value by its parts.
use Rattle.std.proofs.Common.{◌≡◌, ℕ, ◌<◌, true, List, ◌∷◌, ◌++◌, length, Some, None, Option, sym, refl, ap, ◌∙◌, subst}
use Rattle.std.specs.Option.{option_map, option_zip}
use Rattle.text.specs.Fields.{first_field, later_fields, one_field}
use Rattle.text.specs.Own.{Own}
use Rattle.text.proofs.FieldTexts.{fields_forth, fields_some_bytes, first_field_back, later_fields_back}

pub zip_parts : {X Y : Type 0} (o : Option X) (p : Option Y) (z : X × Y) → option_zip o p ≡ Some z → (o ≡ Some z.0) × (p ≡ Some z.1)
zip_parts None p z e = absurd (cc)
zip_parts (Some x) None z e = absurd (cc)
zip_parts {X} {Y} (Some x) (Some y) z e =
    let same : (x, y) ≡ z = cc in
    (ap (λ (w : X × Y). Some w.0) same, ap (λ (w : X × Y). Some w.1) same)

pub map_part : {X Y : Type 0} (f : X → Y) (o : Option X) (y : Y) → option_map f o ≡ Some y → (x : X) × (o ≡ Some x) × (f x ≡ y)
map_part f None y e = absurd (cc)
map_part f (Some x) y e = (x, refl, cc)

-- a field and what stands behind it
pub own_fields : {X Y : Type 0} (value : List ℕ → Option X) (text : X → List ℕ) (Fits : X → Type 0) (value' : List ℕ → Option Y) (text' : Y → List ℕ)
    (Fits' : Y → Type 0) → Own value text Fits → ((x : X) → Fits x → one_field (text x) ≡ true) → Own value' text' Fits' →
    Own (λ s. option_zip (value (first_field s)) (value' (later_fields s))) (λ p. text p.0 ++ 32 ∷ text' p.1) (λ p. Fits p.0 × Fits' p.1)
own_fields value text Fits value' text' Fits' own single own' = record {
  forth = λ s p e.
      let parts = zip_parts _ _ p e in
      let a = own.forth (first_field s) p.0 parts.0 in
      let b = own'.forth (later_fields s) p.1 parts.1 in
      let whole = fields_forth s _ _ (sym a.2) (sym b.2) (subst (λ (xs : List ℕ). 0 < length xs) (sym b.2) b.0) in
      (subst (λ (xs : List ℕ). 0 < length xs) whole (fields_some_bytes (text p.0) (text' p.1)), (a.1, b.1), whole);
  back = λ p h.
      let one = single p.0 h.0 in
      let first = ap value (first_field_back (text p.0) (text' p.1) one) ∙ own.back p.0 h.0 in
      let rest = ap value' (later_fields_back (text p.0) (text' p.1) one) ∙ own'.back p.1 h.1 in
      simp (first, rest);
}

-- a value that is made of its parts, and gives them back
pub own_made : {X Y : Type 0} (value : List ℕ → Option X) (text : X → List ℕ) (Fits : X → Type 0) (make : X → Y) (parts : Y → X) (Fits' : Y → Type 0) →
    ((x : X) → parts (make x) ≡ x) → ((y : Y) → make (parts y) ≡ y) → ((x : X) → Fits x → Fits' (make x)) → ((y : Y) → Fits' y → Fits (parts y)) →
    Own value text Fits → Own (λ s. option_map make (value s)) (λ y. text (parts y)) Fits'
own_made value text Fits make parts Fits' apart whole fits fits' own = record {
  forth = λ s y e.
      let p = map_part make _ y e in
      let a = own.forth s p.0 p.1 in
      (a.0, subst Fits' p.2 (fits p.0 a.1), ap (λ y. text (parts y)) (sym p.2) ∙ ap text (apart p.0) ∙ a.2);
  back = λ y h. ap (option_map make) (own.back (parts y) (fits' y h)) ∙ ap Some (whole y);
}
