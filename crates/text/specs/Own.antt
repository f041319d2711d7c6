-- Values and their texts: which text is a value's own, and which value a text stands for.
use Rattle.std.specs.Prelude.{◌≡◌, ℕ, ◌<◌, List, length, Some, Option}

-- a text that stands for a value is the value's own, is not empty, and the value is in its ranges;
-- and the text of every value in its ranges stands for that value
pub record Own {X : Type 0} (value : List ℕ → Option X) (text : X → List ℕ) (Fits : X → Type 0) : Type 0 where
  pub forth : (s : List ℕ) (x : X) → value s ≡ Some x → (0 < length s) × Fits x × (text x ≡ s)
  pub back : (x : X) → Fits x → value (text x) ≡ Some x
