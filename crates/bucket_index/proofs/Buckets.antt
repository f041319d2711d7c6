-- The buckets: what find answers, and why add and discard keep every bucket's chain.
-- A call changes the chain of one bucket. The other chains lead along cells that it does not touch, since a cell has one key
-- and a key one bucket. In its own bucket add puts a cell in front, whose number had no key and so stood in no chain.
-- Discard looks for the cell that leads to the number. Where there is none the number is the first of its chain, so the head is
-- led past it; else that cell is, and it is the one before the number, since a chain meets each number once.
use Rattle.std.proofs.Common.{◌≡◌, ℕ, zero, suc, ◌<◌, ◌⊎◌, Bool, true, false, List, length, set, Some, None, Option, sym, refl, ap, ◌∙◌, subst, ⊎_elim, arith, rules}
use lib.Seq.{map-set_same}
use Rattle.keys.specs.Orders.{Total}
use Rattle.keys.specs.declared.code.CodeKey.{CodeKey}
use Rattle.index.specs.Slots.{Apart, Maps, number_of}
use Rattle.index.proofs.Nth.{nth_set_same, nth_set_other, nth_unmap}
use Rattle.index.proofs.Slots.{New, count_within, one_key, maps_cleared, maps_set, number_hit, number_miss}
use Rattle.std.specs.List.{slice_get}
use Rattle.std.proofs.lemmas.List.{length-map, map-set}
use Rattle.std.proofs.lemmas.Option.{slice_get-map, slice_get_within}
use Rattle.std.proofs.lemmas.Bool.{cases_eq}
use Rattle.bucket_index.specs.declared.chain.Cell.{Cell}
use Rattle.bucket_index.specs.Chains.{keys_in, cell_at, link_of, along, NoneWithin, Sought, code_order, free_cell, unlinked_heads, unlinked_cells}
use Rattle.bucket_index.specs.Buckets.{bucket_of, Holds, Chained}
use Rattle.bucket_index.proofs.Chains.{along_kept, along_linked, along_few, along_skipping, skip, skip_below, skip_past, skip_next, skip_not, skip_apart, skip_other}

pub code_total : Total code_order
code_total = search rules

-- What the cells say of the slots.

pub keys_set : (cells : List Cell) (n : ℕ) (cell : Cell) → keys_in (set cells n cell) ≡ set (keys_in cells) n cell.key
keys_set cells n cell = map-set (λ (x : Cell). x.key) cells n cell

pub keys_length : (cells : List Cell) → length (keys_in cells) ≡ length cells
keys_length cells = length-map cells (λ (x : Cell). x.key)

pub maps_here : (cells : List Cell) (n : ℕ) (cell : Cell) (key : CodeKey) → slice_get cells n ≡ Some cell → cell.key ≡ Some key → Maps (keys_in cells) n key
maps_here cells n cell key there e = cc (slice_get-map (λ (x : Cell). x.key) cells n)

maps_kept : (before after : List Cell) (n : ℕ) (key : CodeKey) → slice_get after n ≡ slice_get before n → Maps (keys_in before) n key → Maps (keys_in after) n key
maps_kept before after n key same h = cc (slice_get-map (λ (x : Cell). x.key) before n, slice_get-map (λ (x : Cell). x.key) after n)

-- Finding.

holds_few : (cells : List Cell) (bucket : ℕ) (link : Option ℕ) → Holds cells bucket link → (i n : ℕ) → along cells link i ≡ Some n → i < length cells
holds_few cells bucket link h i n e =
    omega (arith, along_few cells i n link (keys_in cells) (λ j m q. ((h.its j m q).0, (h.its j m q).1)) h.once e, count_within (keys_in cells), keys_length cells)

-- what a test answers of a cell: whether its part is the given one
pub record Tests {X : Type 0} (part : Cell → Option X) (x : X) (Answers : Cell → Bool → Type 0) : Type 0 where
  pub told : (cell : Cell) → Answers cell true → part cell ≡ Some x
  pub there : (cell : Cell) → part cell ≡ Some x → Answers cell false → ⊥

pub found : (Answers : Cell → Bool → Type 0) (cells : List Cell) (link : Option ℕ) (key : CodeKey) (r : Option ℕ) → Tests (λ cell. cell.key) key Answers →
    Apart (keys_in cells) → Holds cells (bucket_of key) link → Sought Answers cells link r → r ≡ number_of code_order (keys_in cells) key
found Answers cells link key (Some n) test apart h s =
    let at = s.some n refl in number_hit code_order code_total (keys_in cells) n key apart (maps_here cells n at.1 key at.3 (test.told at.1 at.4))
found Answers cells link key None test apart h s =
    number_miss code_order code_total (keys_in cells) key
    (λ n there. let at = h.all n key there refl in
    let c = nth_unmap (λ (x : Cell). x.key) cells n (Some key) there in
    test.there c.0 c.2 (s.none refl at.0 c.0 (holds_few cells (bucket_of key) link h at.0 n at.1) (ap (cell_at cells) at.1 ∙ c.1)))

-- Chains of the other buckets.

pub holds_kept : (before after : List Cell) (bucket : ℕ) (link : Option ℕ) → Holds before bucket link →
    ((n : ℕ) (key : CodeKey) → Maps (keys_in before) n key → bucket_of key ≡ bucket → slice_get after n ≡ slice_get before n) →
    ((n : ℕ) (key : CodeKey) → Maps (keys_in after) n key → bucket_of key ≡ bucket → Maps (keys_in before) n key) → Holds after bucket link
holds_kept before after bucket link h same old =
    record {
      its = λ i n e. let there = h.its i n (sym (kept i) ∙ e) in
          (there.0, maps_kept before after n there.0 (same n there.0 there.1 there.2) there.1, there.2);
      all = λ n key there e. let at = h.all n key (old n key there e) e in (at.0, kept at.0 ∙ at.1);
      once = λ i j n p q. h.once i j n (sym (kept i) ∙ p) (sym (kept j) ∙ q);
    }
  where
    kept : (i : ℕ) → along after link i ≡ along before link i
    kept = along_kept before after link (λ i n e. let there = h.its i n e in same n there.0 there.1 there.2)

-- where the chain of one bucket is changed and holds its keys, and the cells of all other keys are as they were
chained_changed : (heads heads' : List (Option ℕ)) (cells cells' : List Cell) (bucket : ℕ) (start : Option ℕ) → Chained heads cells → slice_get heads' bucket ≡ Some start → Holds cells' bucket start →
    ((other : ℕ) → (other ≡ bucket → ⊥) → slice_get heads' other ≡ slice_get heads other) →
    ((n : ℕ) (key : CodeKey) → Maps (keys_in cells) n key → (bucket_of key ≡ bucket → ⊥) → slice_get cells' n ≡ slice_get cells n) →
    ((n : ℕ) (key : CodeKey) → Maps (keys_in cells') n key → (bucket_of key ≡ bucket → ⊥) → Maps (keys_in cells) n key) → Chained heads' cells'
chained_changed heads heads' cells cells' bucket start hold first own others same old b link e =
    ⊎_elim
    (λ (q : b ≡ bucket). let at : start ≡ link = cc in subst (λ (k : ℕ). Holds cells' k link) (sym q) (subst (Holds cells' bucket) at own))
    (λ (ne : b ≡ bucket → ⊥).
    holds_kept cells cells' b link (hold b link (sym (others b ne) ∙ e)) (λ n key h k. same n key h (λ q. ne (sym k ∙ q))) (λ n key h k. old n key h (λ q. ne (sym k ∙ q))))
    (cases_eq b bucket)

-- Adding: the cell of a number without a key is put before the others of its bucket.

pub chained_linked : (heads : List (Option ℕ)) (cells : List Cell) (key : CodeKey) (n : ℕ) (head : Option ℕ) → Chained heads cells →
    slice_get heads (bucket_of key) ≡ Some head → slice_get (keys_in cells) n ≡ Some None → New (keys_in cells) key →
    Chained (set heads (bucket_of key) (Some n)) (set cells n (record { key = Some key; next = head }))
chained_linked heads cells key n head hold there free new =
    chained_changed heads _ cells after (bucket_of key) (Some n) hold
    (nth_set_same heads (bucket_of key) (Some n) (slice_get_within heads (bucket_of key) head there))
    (record { its = its'; all = all'; once = once' })
    (λ b ne. nth_set_other heads (bucket_of key) b (Some n) ne)
    (λ m k h _. same m k h)
    (λ m k h ne. old m k h (λ q. ne (ap bucket_of q)))
  where
    after : List Cell
    after = set cells n (record { key = Some key; next = head })

    before : Holds cells (bucket_of key) head
    before = hold (bucket_of key) head there

    cell_there : slice_get after n ≡ Some (record { key = Some key; next = head })
    cell_there = nth_set_same cells n _ (omega (arith, slice_get_within (keys_in cells) n None free, keys_length cells))

    same : (m : ℕ) (k : CodeKey) → Maps (keys_in cells) m k → slice_get after m ≡ slice_get cells m
    same m k h = nth_set_other cells n m _ (λ q. cc)

    was : (m : ℕ) (k : CodeKey) → Maps (keys_in after) m k → ((m ≡ n) × (k ≡ key)) ⊎ ((m ≡ n → ⊥) × Maps (keys_in cells) m k)
    was m k h = maps_set (keys_in cells) n m key k free (rw keys_set at h)

    old : (m : ℕ) (k : CodeKey) → Maps (keys_in after) m k → (k ≡ key → ⊥) → Maps (keys_in cells) m k
    old m k h ne = ⊎_elim (λ s. absurd (ne s.1)) (λ s. s.1) (was m k h)

    along_is : (i : ℕ) → along after (Some n) (suc i) ≡ along cells head i
    along_is = along_linked cells after head n _ (λ i m q. same m (before.its i m q).0 (before.its i m q).1) cell_there refl

    not_along : (i : ℕ) → along cells head i ≡ Some n → ⊥
    not_along i q = cc ((before.its i n q).1)

    its' : (i m : ℕ) → along after (Some n) i ≡ Some m → (k : CodeKey) × Maps (keys_in after) m k × (bucket_of k ≡ bucket_of key)
    its' zero m q = let at : n ≡ m = cc in (key, subst (λ (j : ℕ). Maps (keys_in after) j key) at (maps_here after n _ key cell_there refl), refl)
    its' (suc i) m q =
        let h = before.its i m (sym (along_is i) ∙ q) in (h.0, maps_kept cells after m h.0 (same m h.0 h.1) h.1, h.2)

    all' : (m : ℕ) (k : CodeKey) → Maps (keys_in after) m k → bucket_of k ≡ bucket_of key → (i : ℕ) × (along after (Some n) i ≡ Some m)
    all' m k h b =
        ⊎_elim (λ s. (zero, ap Some (sym s.0))) (λ s. let at = before.all m k s.1 b in (suc at.0, along_is at.0 ∙ at.1)) (was m k h)

    once' : (i j m : ℕ) → along after (Some n) i ≡ Some m → along after (Some n) j ≡ Some m → i ≡ j
    once' zero zero m p q = refl
    once' zero (suc j) m p q = absurd (not_along j (sym (along_is j) ∙ q ∙ sym p))
    once' (suc i) zero m p q = absurd (not_along i (sym (along_is i) ∙ p ∙ sym q))
    once' (suc i) (suc j) m p q = ap suc (before.once i j m (sym (along_is i) ∙ p) (sym (along_is j) ∙ q))

-- Discarding: the link to the cell of a number is led past it.

-- a chain that has every step of another but the one at a number, over slots where that number was cleared
holds_skipping : (before after : List Cell) (bucket : ℕ) (link start : Option ℕ) (gone n : ℕ) → Holds before bucket link → along before link gone ≡ Some n →
    ((i : ℕ) → along after start i ≡ along before link (skip gone i)) → keys_in after ≡ set (keys_in before) n None → Holds after bucket start
holds_skipping before after bucket link start gone n h there skips cleared =
    record {
      its = λ i m e. let k = h.its (skip gone i) m (sym (skips i) ∙ e) in (k.0, kept m k.0 k.1 (other i m e), k.2);
      all = λ m key k b.
          let old : Maps (keys_in before) m key × (m ≡ n → ⊥) = maps_cleared (keys_in before) n m key (rw cleared at k) in
          let at = h.all m key old.0 b in
          let j = skip_other gone at.0 (λ q. old.1 (cc (at.1))) in
          (j.0, skips j.0 ∙ ap (along before link) j.1 ∙ at.1);
      once = λ i j m p q. skip_apart gone i j (h.once (skip gone i) (skip gone j) m (sym (skips i) ∙ p) (sym (skips j) ∙ q));
    }
  where
    other : (i m : ℕ) → along after start i ≡ Some m → m ≡ n → ⊥
    other i m e q = skip_not gone i (h.once (skip gone i) gone n (sym (skips i) ∙ e ∙ ap Some q) there)

    kept : (m : ℕ) (key : CodeKey) → Maps (keys_in before) m key → (m ≡ n → ⊥) → Maps (keys_in after) m key
    kept m key k ne = rw cleared (nth_set_other (keys_in before) n m None ne ∙ k)

-- where the chain starts once it was led past a number
abbrev unlinked_start : Option ℕ → Option ℕ → Option ℕ → Option ℕ
unlinked_start None head next = next
unlinked_start (Some previous) head next = head

link_told : (n : ℕ) (cell : Option Cell) → link_of cell ≡ Some n → (c : Cell) × (cell ≡ Some c) × (c.next ≡ Some n)
link_told n None e = cc
link_told n (Some c) e = (c, refl, e)

unlinked_keys_kept : (previous : Option ℕ) (cells : List Cell) (next : Option ℕ) → keys_in (unlinked_cells previous cells next) ≡ keys_in cells
unlinked_keys_kept None cells next = refl
unlinked_keys_kept (Some p) cells next = map-set_same (λ (x : Cell). x.key) cells p _ free_cell refl

unlinked_other_cell : (previous : Option ℕ) (cells : List Cell) (next : Option ℕ) (m : ℕ) → (previous ≡ Some m → ⊥) → slice_get (unlinked_cells previous cells next) m ≡ slice_get cells m
unlinked_other_cell None cells next m ne = refl
unlinked_other_cell (Some p) cells next m ne = nth_set_other cells p m _ (λ e. ne (ap Some (sym e)))

module _ (cells : List Cell) (bucket : ℕ) (head : Option ℕ) (n : ℕ) (next : Option ℕ) (h : Holds cells bucket head) (next_is : next ≡ link_of (slice_get cells n)) where
  -- a step whose cell is neither the number's nor the previous one leads on as before
  step_kept : (previous at : Option ℕ) → (at ≡ Some n → ⊥) → ((m : ℕ) → at ≡ Some m → previous ≡ Some m → ⊥) →
      link_of (cell_at (set (unlinked_cells previous cells next) n free_cell) at) ≡ link_of (cell_at cells at)
  step_kept previous None ne np = refl
  step_kept previous (Some m) ne np =
      ap link_of (nth_set_other (unlinked_cells previous cells next) n m free_cell (λ e. ne (ap Some e)) ∙ unlinked_other_cell previous cells next m (np m refl))

  -- every step of the chain but the one to the number is left
  every_step_but_one : (Answers : Cell → Bool → Type 0) (previous : Option ℕ) → Tests (λ cell. cell.next) n Answers → (i : ℕ) × (along cells head i ≡ Some n) → Sought Answers cells head previous →
      (gone : ℕ) × (along cells head gone ≡ Some n) ×
      ((i : ℕ) → along (set (unlinked_cells previous cells next) n free_cell) (unlinked_start previous head next) i ≡ along cells head (skip gone i))
  every_step_but_one Answers None test (suc j, e) s =
      let c = link_told n (cell_at cells (along cells head j)) e in
      let few : suc j < length cells = holds_few cells bucket head h (suc j) n e in
      absurd (test.there c.0 c.2 (s.none refl j c.0 (omega arith) c.1))
  every_step_but_one Answers None test (zero, e) s = (
    zero,
    e,
    along_skipping cells (set cells n free_cell) head next zero
        (next_is ∙ ap (λ at. link_of (cell_at cells at)) (sym e) ∙ ap (along cells head) (sym (skip_past zero zero (omega arith))))
        (λ i. step_kept None (along cells head (skip zero i)) (λ q. skip_not zero i (h.once (skip zero i) zero n q e)) (λ m q z. cc)
        ∙ ap (along cells head) (skip_next zero i (λ z. omega arith))),
  )
  every_step_but_one Answers (Some p) test at sought = (suc j, to_n, along_skipping cells after head head (suc j) (ap (along cells head) (sym (skip_below (suc j) zero (omega arith)))) steps)
    where
      after : List Cell
      after = set (unlinked_cells (Some p) cells next) n free_cell

      s : (i : ℕ) × (cell : Cell) × (along cells head i ≡ Some p) × (slice_get cells p ≡ Some cell) × Answers cell true × NoneWithin Answers cells head i
      s = sought.some p refl

      j : ℕ
      j = s.0

      leads : link_of (slice_get cells p) ≡ Some n
      leads = ap link_of s.3 ∙ test.told s.1 s.4

      to_n : along cells head (suc j) ≡ Some n
      to_n = ap (λ at. link_of (cell_at cells at)) s.2 ∙ leads

      apart : p ≡ n → ⊥
      apart e = let z : s.0 ≡ suc s.0 = h.once j (suc j) n (s.2 ∙ ap Some e) to_n in omega arith

      steps : (i : ℕ) → link_of (cell_at after (along cells head (skip (suc j) i))) ≡ along cells head (skip (suc j) (suc i))
      steps i =
          ⊎_elim
          (λ (q : i ≡ j).
          simp (q, skip_below (suc j) j (omega arith), skip_past (suc j) (suc j) (omega arith), s.2)
          (ap link_of (nth_set_other (unlinked_cells (Some p) cells next) n p free_cell apart ∙ nth_set_same cells p _ (slice_get_within cells p s.1 s.3)) ∙ next_is ∙ ap (λ at. link_of (cell_at cells at)) (sym leads)))
          (λ (ne : i ≡ j → ⊥).
          step_kept (Some p) (along cells head (skip (suc j) i)) (λ q. skip_not (suc j) i (h.once (skip (suc j) i) (suc j) n q to_n))
          (λ m q z. ne (skip_apart (suc j) i j (h.once (skip (suc j) i) j p (q ∙ sym z) s.2 ∙ sym (skip_below (suc j) j (omega arith)))))
          ∙ ap (along cells head) (skip_next (suc j) i (λ z. ne (omega arith))))
          (cases_eq i j)

unlinked_head : (previous : Option ℕ) (heads : List (Option ℕ)) (bucket : ℕ) (head next : Option ℕ) → slice_get heads bucket ≡ Some head →
    slice_get (unlinked_heads previous heads bucket next) bucket ≡ Some (unlinked_start previous head next)
unlinked_head None heads bucket head next e = nth_set_same heads bucket next (slice_get_within heads bucket head e)
unlinked_head (Some p) heads bucket head next e = e

unlinked_other_head : (previous : Option ℕ) (heads : List (Option ℕ)) (bucket other : ℕ) (next : Option ℕ) → (other ≡ bucket → ⊥) →
    slice_get (unlinked_heads previous heads bucket next) other ≡ slice_get heads other
unlinked_other_head None heads bucket other next ne = nth_set_other heads bucket other next ne
unlinked_other_head (Some p) heads bucket other next ne = refl

-- what discard leaves of the slots
pub keys_unlinked : (previous : Option ℕ) (cells : List Cell) (n : ℕ) (next : Option ℕ) → keys_in (set (unlinked_cells previous cells next) n free_cell) ≡ set (keys_in cells) n None
keys_unlinked previous cells n next =
    rw (keys_set (unlinked_cells previous cells next) n free_cell, unlinked_keys_kept previous cells next)

pub chained_unlinked : (Answers : Cell → Bool → Type 0) (heads : List (Option ℕ)) (cells : List Cell) (key : CodeKey) (n : ℕ) (head next previous : Option ℕ) → Tests (λ cell. cell.next) n Answers →
    Chained heads cells → slice_get heads (bucket_of key) ≡ Some head → Maps (keys_in cells) n key → next ≡ link_of (slice_get cells n) → Sought Answers cells head previous →
    Chained (unlinked_heads previous heads (bucket_of key) next) (set (unlinked_cells previous cells next) n free_cell)
chained_unlinked Answers heads cells key n head next previous test hold there has next_is sought =
    let gone = every_step_but_one cells (bucket_of key) head n next before next_is Answers previous test (before.all n key has refl) sought in
    chained_changed heads _ cells after (bucket_of key) (unlinked_start previous head next) hold (unlinked_head previous heads (bucket_of key) head next there)
    (holds_skipping cells after (bucket_of key) head (unlinked_start previous head next) gone.0 n before gone.1 gone.2 (keys_unlinked previous cells n next))
    (λ b ne. unlinked_other_head previous heads (bucket_of key) b next ne)
    (λ m k h ne.
    nth_set_other (unlinked_cells previous cells next) n m free_cell (λ q. ne (ap bucket_of (one_key (keys_in cells) n k key (rw q at h) has)))
    ∙ unlinked_other_cell previous cells next m (λ q. ne (in_bucket m k h q)))
    (λ m k h _. (maps_cleared (keys_in cells) n m k (rw (keys_unlinked previous cells n next) at h)).0)
  where
    after : List Cell
    after = set (unlinked_cells previous cells next) n free_cell

    before : Holds cells (bucket_of key) head
    before = hold (bucket_of key) head there

    -- the previous cell is one of the bucket
    in_bucket : (m : ℕ) (k : CodeKey) → Maps (keys_in cells) m k → previous ≡ Some m → bucket_of k ≡ bucket_of key
    in_bucket m k h q =
        let at = sought.some m q in
        let p = before.its at.0 m at.2 in
        ap bucket_of (one_key (keys_in cells) m k p.0 h p.1) ∙ p.2
