-- Lines written one after the other until one does not fit: the steps of a run over them.
-- A line takes as many bytes of the room as it has, so what fits behind it is what would fit into the rest; a line that does not fit ends the run,
-- and then all lines together do not fit either.
use Rattle.std.proofs.Common.{◌≡◌, ℕ, ◌+◌, ◌-◌, ◌<◌, ◌≤◌, false, cond, leb, List, [], ◌∷◌, ◌++◌, length, Ok, Err, Result, sym, refl, ap, ◌∙◌, append_assoc, append-nil, add-zero, arith, length-append}
use Rattle.std.proofs.lemmas.Bool.Decides.{nat_tests}
use Rattle.std.proofs.lemmas.Bool.{le-leb, lt-leb}
use Rattle.std.specs.List.{flat_map}
use Rattle.keys.specs.Refusals.{plain}
use Rattle.page.specs.declared.page.Page.{Page}
use Rattle.page.specs.declared.refusal.PageRefusal.{PageRefusal}
use Rattle.page.specs.Pages.{Lined, Printed, standing, room, fit_answer, fitted, fitting, fitting_answer}
use Rattle.page.specs.Texts.{ended}

-- whether a line fits is told by its answer
granted : (p q : Page) (line : List ℕ) (u : Unit {0}) → Lined p line q (Ok u) → p.mark.at + length line ≤ length p.bytes.now
granted p q line u h = let a = h.answer in grind (arith, nat_tests, a)

refused : (p q : Page) (line : List ℕ) (e : PageRefusal) → Lined p line q (Err e) → length p.bytes.now < p.mark.at + length line
refused p q line e h = let a = h.answer in grind (arith, nat_tests, a)

-- nothing to write
pub printed_none : (p : Page) → Printed p [] p (Ok tt)
unfolding fitting
printed_none p = record {
  answer = rw (le-leb 0 (room p) (omega arith));
  grown = record { lines = sym (append-nil _); mark = sym (add-zero _); size = refl; memory = refl };
}

-- the test of a sum, one part at a time
leb_behind : (a b m n : ℕ) → a ≤ m → n ≡ m - a → leb (a + b) m ≡ leb b n
leb_behind a b m n h e = grind (arith, nat_tests)

-- a line that fits, and those behind it
pub printed_next : (p q s : Page) (line : List ℕ) (lines : List (List ℕ)) (u : Unit {0}) (r : Result (Unit {0}) PageRefusal) →
    Lined p (ended line) q (Ok u) → Printed q lines s r → Printed p (line ∷ lines) s r
unfolding fitting
printed_next p q s line lines u r h k =
    let f = granted p q (ended line) u h in
    let t = le-leb _ _ f in
    let written = h.grown.lines ∙ ap (λ b. standing p ++ cond b (ended line) []) t in
    let moved : q.mark.at ≡ p.mark.at + length (ended line) = h.grown.mark ∙ ap (λ b. p.mark.at + length (cond b (ended line) [])) t in
    let size = h.grown.size in
    let left : room q ≡ room p - length (ended line) = omega arith in
    let text : fitting (room p) (line ∷ lines) ≡ ended line ++ fitting (room q) lines =
    rw (le-leb (length (ended line)) (room p) (omega arith)) (ap (λ n. ended line ++ fitting n lines) (sym left)) in
    let fits_as = ap (λ n. leb n (room p)) (length-append (ended line) (flat_map ended lines)) ∙ leb_behind _ (length (flat_map ended lines)) _ _ (omega arith) left in
    record {
      answer = k.answer ∙ ap (λ b. cond b (Ok tt) (Err (plain 13))) (sym fits_as);
      grown = record {
        lines = k.grown.lines ∙ ap (λ xs. xs ++ fitting (room q) lines) written ∙ append_assoc (standing p) (ended line) (fitting (room q) lines)
            ∙ ap (λ xs. standing p ++ xs) (sym text);
        mark = omega (arith, k.grown.mark, ap length text, length-append (ended line) (fitting (room q) lines));
        size = k.grown.size ∙ size;
        memory = k.grown.memory ∙ h.grown.memory;
      };
    }

-- a line that does not fit
pub printed_stop : (p q : Page) (line : List ℕ) (lines : List (List ℕ)) (e : PageRefusal) →
    Lined p (ended line) q (Err e) → Printed p (line ∷ lines) q (Err e)
unfolding fitting
printed_stop p q line lines e h =
    let f = refused p q (ended line) e h in
    let t = lt-leb _ _ f in
    let some : 0 < length (ended line) = simp length-append (omega arith) in
    let text : fitting (room p) (line ∷ lines) ≡ fitted p (ended line) = rw (t, lt-leb (length (ended line)) (room p) (omega arith)) in
    let long : leb (length (flat_map ended (line ∷ lines))) (room p) ≡ false =
    lt-leb _ _ (omega (arith, length-append (ended line) (flat_map ended lines))) in
    record {
      answer = h.answer ∙ rw (t, long);
      grown = rw text h.grown;
    }

-- a line alone: it fits the room where it fits at the mark
fits_room : (p : Page) (n : ℕ) → 0 < n → leb n (room p) ≡ leb (p.mark.at + n) (length p.bytes.now)
fits_room p n h = grind (arith, nat_tests)

pub fit_one : (p : Page) (line : List ℕ) → fitting_answer (room p) (line ∷ []) ≡ fit_answer p (ended line)
fit_one p line =
    rw append-nil (ap (λ b. cond b (Ok tt) (Err (plain 13))) (fits_room p (length (ended line)) (simp length-append (omega arith))))

pub fitted_one : (p : Page) (line : List ℕ) → fitting (room p) (line ∷ []) ≡ fitted p (ended line)
unfolding fitting
fitted_one p line = rw append-nil (ap (λ b. cond b (ended line) []) (fits_room p (length (ended line)) (simp length-append (omega arith))))
