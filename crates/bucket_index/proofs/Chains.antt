-- Chains of cells: walking along one, and what becomes of it where cells change.
-- What a chain leads along depends only on the cells that it leads along: where those are as they were, so is the chain.
-- A cell goes out of a chain when the link to it is led past it: the chain then has every step but that one.
-- A chain whose numbers are apart and have keys has at most as many steps as there are keys: clear the slot of its first
-- number, and the rest is a chain over one key less.
use Rattle.std.proofs.Common.{◌≡◌, ℕ, zero, suc, ◌+◌, ◌-◌, ◌<◌, ◌≤◌, Bool, true, false, cond, ltb, List, set, Some, None, Option, sym, refl, ap, ◌∙◌, subst, ⊎_elim, add-one, arith}
use Rattle.std.proofs.lemmas.Bool.Decides.{nat_tests}
use Rattle.index.specs.Slots.{Maps, count_of}
use Rattle.index.proofs.Nth.{nth_set_other}
use Rattle.index.proofs.Slots.{count_fewer}
use Rattle.std.specs.List.{slice_get}
use Rattle.std.proofs.lemmas.Bool.{cases_lt}
use Rattle.bucket_index.specs.declared.chain.Cell.{Cell}
use Rattle.bucket_index.specs.Chains.{cell_at, link_of, along, NoneWithin, Sought}

-- one step at the front in place of one at the end
along_front : (cells : List Cell) (link : Option ℕ) (i : ℕ) → along cells link (suc i) ≡ along cells (link_of (cell_at cells link)) i
along_front cells link zero = refl
along_front cells link (suc i) = ap (λ at. link_of (cell_at cells at)) (along_front cells link i)

-- past the end of a chain there is nothing more
ended : (cells : List Cell) (link : Option ℕ) (i j : ℕ) → cell_at cells (along cells link i) ≡ None → i ≤ j → cell_at cells (along cells link j) ≡ None
ended cells link i zero e h = let start : i ≡ zero = omega arith in subst (λ k. cell_at cells (along cells link k) ≡ None) start e
ended cells link i (suc j) e h =
    ⊎_elim
    (λ (l : j < i). let same : i ≡ suc j = omega arith in subst (λ k. cell_at cells (along cells link k) ≡ None) same e)
    (λ l. ap (λ cell. cell_at cells (link_of cell)) (ended cells link i j e l))
    (cases_lt j i)

-- The walk of seek.

-- it has come to this link after so many steps, past cells that are not wanted
pub record Passed (Answers : Cell → Bool → Type 0) (cells : List Cell) (link : Option ℕ) (at : Option ℕ) (i : ℕ) : Type 0 where
  pub here : at ≡ along cells link i
  pub before : NoneWithin Answers cells link i

module _ (Answers : Cell → Bool → Type 0) (cells : List Cell) (link : Option ℕ) where
  pub passed_more : (at : Option ℕ) (i : ℕ) (cell : Cell) → Passed Answers cells link at i → Some cell ≡ cell_at cells at → Answers cell false → Passed Answers cells link cell.next (i + 1)
  passed_more at i cell p e f =
      rw add-one
      (record {
        here = ap link_of e ∙ ap (λ l. link_of (cell_at cells l)) p.here;
        before = λ j other h q.
            ⊎_elim
            (λ (l : j < i). p.before j other l q)
            (λ (l : i ≤ j).
            let k : i ≡ j = omega arith in
            let same : Some cell ≡ Some other = e ∙ ap (cell_at cells) p.here ∙ ap (λ n. cell_at cells (along cells link n)) k ∙ q in
            let one : cell ≡ other = cc in subst (λ x. Answers x false) one f)
            (cases_lt j i);
      })

  pub passed_end : (at : Option ℕ) (i : ℕ) (r : Option ℕ) → Passed Answers cells link at i → None ≡ cell_at cells at → r ≡ None → Sought Answers cells link r
  passed_end at i r p e z =
      record {
        none = λ _ j cell h q.
            ⊎_elim
            (λ l. p.before j cell l q)
            (λ l. let none' : cell_at cells (along cells link j) ≡ None = ended cells link i j (sym (e ∙ ap (cell_at cells) p.here)) l in
            cc)
            (cases_lt j i);
        some = λ n q. cc;
      }

  pub passed_found : (at : Option ℕ) (i : ℕ) (cell : Cell) → Passed Answers cells link at i → Some cell ≡ cell_at cells at → Answers cell true → Sought Answers cells link at
  passed_found None i cell p e t = cc
  passed_found (Some n) i cell p e t =
      record {
        none = λ q. cc;
        some = λ m q. (i, cell, sym p.here ∙ q, ap (cell_at cells) (sym q) ∙ sym e, t, p.before);
      }

-- Chains where cells change.

-- where the cells along a chain are as they were, so is the chain
pub along_kept : (before after : List Cell) (link : Option ℕ) → ((i n : ℕ) → along before link i ≡ Some n → slice_get after n ≡ slice_get before n) →
    (i : ℕ) → along after link i ≡ along before link i
along_kept before after link same zero = refl
along_kept before after link same (suc i) =
    ap (λ at. link_of (cell_at after at)) (along_kept before after link same i) ∙ step (along before link i) (same i)
  where
    step : (at : Option ℕ) → ((n : ℕ) → at ≡ Some n → slice_get after n ≡ slice_get before n) → link_of (cell_at after at) ≡ link_of (cell_at before at)
    step None h = refl
    step (Some n) h = ap link_of (h n refl)

-- a cell that is put before a chain adds one step in front
pub along_linked : (before after : List Cell) (link : Option ℕ) (n : ℕ) (cell : Cell) → ((i m : ℕ) → along before link i ≡ Some m → slice_get after m ≡ slice_get before m) →
    slice_get after n ≡ Some cell → cell.next ≡ link → (i : ℕ) → along after (Some n) (suc i) ≡ along before link i
along_linked before after link n cell same there next i =
    along_front after (Some n) i ∙ ap (λ at. along after at i) (ap link_of there ∙ next) ∙ along_kept before after link same i

-- the steps without one of them
abbrev pub skip : ℕ → ℕ → ℕ
skip gone i = cond (ltb i gone) i (suc i)

pub skip_below : (gone i : ℕ) → i < gone → skip gone i ≡ i
skip_below gone i h = grind (arith, nat_tests)

pub skip_past : (gone i : ℕ) → gone ≤ i → skip gone i ≡ suc i
skip_past gone i h = grind (arith, nat_tests)

-- the steps go on by one, but at the one that is left out
pub skip_next : (gone i : ℕ) → (suc i ≡ gone → ⊥) → suc (skip gone i) ≡ skip gone (suc i)
skip_next gone i ne = grind (arith, nat_tests)

pub skip_not : (gone i : ℕ) → skip gone i ≡ gone → ⊥
skip_not gone i e = grind (arith, nat_tests)

pub skip_apart : (gone i j : ℕ) → skip gone i ≡ skip gone j → i ≡ j
skip_apart gone i j e = grind (arith, nat_tests)

pub skip_other : (gone i : ℕ) → (i ≡ gone → ⊥) → (j : ℕ) × (skip gone j ≡ i)
skip_other gone i ne = (cond (ltb i gone) i (i - 1), grind (arith, nat_tests))

-- a chain that starts and goes on as another does without one of its steps
pub along_skipping : (before after : List Cell) (link start : Option ℕ) (gone : ℕ) → start ≡ along before link (skip gone zero) →
    ((i : ℕ) → link_of (cell_at after (along before link (skip gone i))) ≡ along before link (skip gone (suc i))) →
    (i : ℕ) → along after start i ≡ along before link (skip gone i)
along_skipping before after link start gone first next zero = first
along_skipping before after link start gone first next (suc i) =
    ap (λ at. link_of (cell_at after at)) (along_skipping before after link start gone first next i) ∙ next i

pub nowhere : (cells : List Cell) (i : ℕ) → along cells None i ≡ None
nowhere cells zero = refl
nowhere cells (suc i) = ap (λ at. link_of (cell_at cells at)) (nowhere cells i)

-- a chain whose numbers are apart and have keys is not longer than there are keys
pub along_few : {K : Type 0} (cells : List Cell) (i n : ℕ) (link : Option ℕ) (slots : List (Option K)) →
    ((j m : ℕ) → along cells link j ≡ Some m → (key : K) × Maps slots m key) →
    ((j k m : ℕ) → along cells link j ≡ Some m → along cells link k ≡ Some m → j ≡ k) → along cells link i ≡ Some n → i < count_of slots
along_few cells i n None slots keyed once e = let none' : along cells None i ≡ None = nowhere cells i in cc
along_few cells zero n (Some first) slots keyed once e = omega (arith, count_fewer slots first (keyed zero first refl).0 (keyed zero first refl).1)
along_few cells (suc i) n (Some first) slots keyed once e =
    let rest : Option ℕ = link_of (slice_get cells first) in
    let less : i < count_of (set slots first None) =
    along_few cells i n rest (set slots first None)
    (λ j m q. let there = keyed (suc j) m (along_front cells (Some first) j ∙ q) in
    (there.0, nth_set_other slots first m None (λ same. let z : suc j ≡ zero = once (suc j) zero first (along_front cells (Some first) j ∙ q ∙ ap Some same) refl in omega arith) ∙ there.1))
    (λ j k m p q. let z : suc j ≡ suc k = once (suc j) (suc k) m (along_front cells (Some first) j ∙ p) (along_front cells (Some first) k ∙ q) in omega arith)
    (sym (along_front cells (Some first) i) ∙ e) in
    omega (arith, count_fewer slots first (keyed zero first refl).0 (keyed zero first refl).1)
