-- Texts that are put one behind the other; and the two kinds of a signed number's text.
-- What fits is put behind what was put before; once a text does not fit, no longer text that begins with it fits either.
use Rattle.std.proofs.Common.{◌≡◌, ℕ, ℤ, pos, negsuc, unsigned_abs, true, false, ◌≤◌, List, ◌∷◌, ◌++◌, length, take, Ok, Err, decimal, Result, sym, ap, ◌∙◌, append_assoc, arith, length-append}
use Rattle.std.proofs.lemmas.List.{take-take, length-take-le, take_at}
use Rattle.std.specs.Fmt.{signed_decimal}
use Rattle.std.specs.Int.Signed.{lt_z}
use Rattle.std.proofs.lemmas.Bool.{ltb-true}
use Rattle.page.specs.declared.page.Page.{Page}
use Rattle.page.specs.declared.refusal.PageRefusal.{PageRefusal}
use Rattle.page.specs.Pages.{Wrote}

-- what stands below a lower mark, where what stands below a higher one is known
below : (m n : ℕ) (xs ys text : List ℕ) → m ≤ length ys → m ≤ n → take n xs ≡ take m ys ++ text → take m xs ≡ take m ys
below m n xs ys text h g e = sym (take-take m n xs g) ∙ ap (take m) e ∙ take_at (take m ys) text m (length-take-le m ys h)

-- a text behind a text
pub wrote_then : (before middle after : Page) (p q : List ℕ) (u : Unit {0}) (r : Result (Unit {0}) PageRefusal) →
    Wrote before p middle (Ok u) → Wrote middle q after r → Wrote before (p ++ q) after r
unfolding Wrote
wrote_then before middle after p q u (Ok v) w x = (
  simp length-append (omega arith),
  record {
    lines = x.1.lines ∙ ap (λ xs. xs ++ q) w.1.lines ∙ append_assoc (take before.mark.at before.bytes.now) p q;
    mark = simp length-append (omega arith);
    size = x.1.size ∙ w.1.size;
    memory = x.1.memory ∙ w.1.memory;
  },
)
wrote_then before middle after p q u (Err e) w x = (
  simp length-append (omega arith),
  x.1,
  below before.mark.at middle.mark.at after.bytes.now before.bytes.now p (omega arith) (omega arith) (x.2 ∙ w.1.lines),
  x.3 ∙ w.1.size,
  x.4 ∙ w.1.memory,
)

-- a text that does not fit, and another that would follow
pub wrote_stop : (before after : Page) (p q : List ℕ) (e : PageRefusal) → Wrote before p after (Err e) → Wrote before (p ++ q) after (Err e)
unfolding Wrote
wrote_stop before after p q e w = (simp length-append (omega arith), w.1, w.2, w.3, w.4)

-- a signed number, by its distance to zero
pub signed_below : (z : ℤ) (n : ℕ) → lt_z z (pos 0) ≡ true → n ≡ unsigned_abs z → signed_decimal z ≡ 45 ∷ decimal n
signed_below (pos m) n h e = let l = ltb-true m 0 h in absurd (omega arith)
signed_below (negsuc m) n h e = ap (λ k. 45 ∷ decimal k) (sym e)

pub signed_from : (z : ℤ) (n : ℕ) → lt_z z (pos 0) ≡ false → n ≡ unsigned_abs z → signed_decimal z ≡ decimal n
signed_from (pos m) n h e = ap decimal (sym e)
signed_from (negsuc m) n h e = cc
