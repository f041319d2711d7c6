-- Soundness of the bucket index: a new memory has it, find answers by it, and add and discard keep it.
-- A new memory has no key, so every chain is empty and holds what its bucket has. Add and discard change one slot: the chains are
-- kept by what proofs/Buckets shows, and that keys stay apart and the count right by the laws of slots; a count that is right is at
-- most the capacity, so that it never reaches the end of its type.
use Rattle.std.proofs.Common.{◌≡◌, ℕ, ◌+◌, ◌-◌, ◌^◌, ◌<◌, min, Bool, List, length, get_or, set, replicate, Some, None, Option, sym, ap, ◌∙◌, subst, arith}
use lib.LanesLaws.{map-replicate}
use Rattle.keys.specs.declared.code.CodeKey.{CodeKey}
use Rattle.index.specs.Slots.{Apart, Maps, count_of, empty, number_of}
use Rattle.index.proofs.Slots.{cleared_apart, count_empty, count_fewer, count_more, count_within, empty_apart, empty_new, number_new, set_apart}
use Rattle.std.specs.List.{slice_get}
use Rattle.std.proofs.lemmas.List.{get_or-replicate, length-replicate, length-set}
use Rattle.std.proofs.lemmas.Option.{get_or_from_slice_get, slice_get-get_or, slice_get_within}
use Rattle.bucket_index.specs.declared.chain.Cell.{Cell}
use Rattle.bucket_index.specs.Chains.{keys_in, along, link_of, Sought, code_order, free_cell, unlinked_heads, unlinked_cells}
use Rattle.bucket_index.specs.Limits.{buckets, capacity}
use Rattle.bucket_index.specs.Buckets.{bucket_of, Holds, Chained, Sound}
use Rattle.bucket_index.proofs.Chains.{nowhere}
use Rattle.bucket_index.proofs.Buckets.{code_total, Tests, keys_set, keys_length, maps_here, found, chained_linked, keys_unlinked, chained_unlinked}

-- A new memory.

keys_free : (n : ℕ) → keys_in (replicate n free_cell) ≡ empty n
keys_free n = map-replicate (λ (x : Cell). x.key) n free_cell

none_there : (n b : ℕ) (link : Option ℕ) → slice_get (replicate n None) b ≡ Some link → link ≡ None
none_there n b link e = sym (get_or_from_slice_get _ b link None e) ∙ get_or-replicate n b None None (omega (arith, slice_get_within (replicate n None) b link e, length-replicate {A = Option ℕ}))

chained_free : (b n : ℕ) → Chained (replicate b None) (replicate n free_cell)
chained_free b n bucket link e =
    subst (Holds (replicate n free_cell) bucket) (sym (none_there b bucket link e))
    (record {
      its = λ i m q. absurd (nothing i m q);
      all = λ m key there _. absurd (empty_new n key m (subst (λ (ks : List (Option CodeKey)). Maps ks m key) (keys_free n) there));
      once = λ i j m p q. absurd (nothing i m p);
    })
  where
    nothing : (i m : ℕ) → along (replicate n free_cell) None i ≡ Some m → ⊥
    nothing i m q = let none' : along (replicate n free_cell) None i ≡ None = nowhere (replicate n free_cell) i in cc

pub new_sound : Sound (replicate buckets None) (replicate capacity free_cell) 0
new_sound =
    record {
      chains = chained_free buckets capacity;
      apart = subst Apart (sym (keys_free capacity)) (empty_apart CodeKey capacity);
      counted = sym (ap count_of (keys_free capacity) ∙ count_empty CodeKey capacity);
    }

-- A count that is right has room for one more where a slot is free, and counts at least one where a key has a number.

pub count_room : (heads : List (Option ℕ)) (cells : List Cell) (count n : ℕ) (key : CodeKey) → length cells ≡ capacity → slice_get (keys_in cells) n ≡ Some None → Sound heads cells count → count < capacity
count_room heads cells count n key room free s =
    omega (arith, s.counted, count_more (keys_in cells) n key free, count_within (set (keys_in cells) n (Some key)), length-set (keys_in cells) n (Some key), keys_length cells)

pub count_some : (heads : List (Option ℕ)) (cells : List Cell) (count n : ℕ) (key : CodeKey) → Maps (keys_in cells) n key → Sound heads cells count → 0 < count
count_some heads cells count n key has s = omega (arith, s.counted, count_fewer (keys_in cells) n key has)

module _ (heads : List (Option ℕ)) (cells : List Cell) (key : CodeKey) (wide : length heads ≡ buckets) where
  -- the head of the key's bucket, as the code reads it
  head_there : slice_get heads (bucket_of key) ≡ Some (get_or heads (bucket_of key) None)
  head_there = slice_get-get_or heads (bucket_of key) None (omega arith)

  -- Find.

  pub sound_finds : (Answers : Cell → Bool → Type 0) (count : ℕ) (r : Option ℕ) → Sought Answers cells (get_or heads (bucket_of key) None) r → Tests (λ cell. cell.key) key Answers →
      Sound heads cells count → r ≡ number_of code_order (keys_in cells) key
  sound_finds Answers count r sought test s = found Answers cells _ key r test s.apart (s.chains (bucket_of key) _ head_there) sought

  -- Add and discard.

  pub linked_sound : length cells ≡ capacity → (count n : ℕ) → slice_get (keys_in cells) n ≡ Some None → None ≡ number_of code_order (keys_in cells) key → Sound heads cells count →
      Sound (set heads (bucket_of key) (Some n)) (set cells n (record { key = Some key; next = get_or heads (bucket_of key) None })) (min (count + 1) (2 ^ 64 - 1))
  linked_sound room count n free none' s =
      let new = number_new code_order code_total (keys_in cells) key s.apart none' in
      record {
        chains = chained_linked heads cells key n _ s.chains head_there free new;
        apart = subst Apart (sym (keys_set cells n _)) (set_apart (keys_in cells) n key free new s.apart);
        counted = rw (keys_set cells n (record { key = Some key; next = get_or heads (bucket_of key) None })) (omega (arith, s.counted, count_more (keys_in cells) n key free, count_room heads cells count n key room free s));
      }

  pub unlinked_sound : (Answers : Cell → Bool → Type 0) (count n : ℕ) (cell : Cell) (previous : Option ℕ) → Sought Answers cells (get_or heads (bucket_of key) None) previous →
      Tests (λ cell. cell.next) n Answers → Some cell ≡ slice_get cells n → cell.key ≡ Some key → Sound heads cells count →
      Sound (unlinked_heads previous heads (bucket_of key) cell.next) (set (unlinked_cells previous cells cell.next) n free_cell) (count - 1)
  unlinked_sound Answers count n cell previous sought test there has_key s =
      let has : Maps (keys_in cells) n key = maps_here cells n cell key (sym there) has_key in
      record {
        chains = chained_unlinked Answers heads cells key n _ cell.next previous test s.chains head_there has (ap link_of there) sought;
        apart = subst Apart (sym (keys_unlinked previous cells n cell.next)) (cleared_apart (keys_in cells) n s.apart);
        counted = rw (keys_unlinked previous cells n cell.next) (omega (arith, s.counted, count_fewer (keys_in cells) n key has));
      }
