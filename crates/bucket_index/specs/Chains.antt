-- Chains of cells: where a link leads, step by step, and what is found along the way.
-- Everything here is said of any cells and any link, sound or not: a link to no cell ends its chain.
use Rattle.std.specs.Prelude.{◌≡◌, ℕ, zero, suc, ◌<◌, Bool, true, false, List, map, length, Some, None, Option, slice_index_or, slice_set}
use Rattle.std.specs.declared.cmp.Ordering.{Ordering}
use Rattle.keys.specs.Orders.{by_parts}
use Rattle.keys.specs.declared.code.CodeKey.{CodeKey}
use Rattle.std.specs.List.{slice_get}
use Rattle.bucket_index.specs.declared.chain.Cell.{Cell}

-- for each cell its key, or none
abbrev pub keys_in : List Cell → List (Option CodeKey)
keys_in cells = map (λ cell. cell.key) cells

-- the cell that a link leads to, or none
abbrev pub cell_at : List Cell → Option ℕ → Option Cell
cell_at cells None = None
cell_at cells (Some n) = slice_get cells n

-- the link of a cell, if there is one
abbrev pub link_of : Option Cell → Option ℕ
link_of None = None
link_of (Some cell) = cell.next

-- the number that a link leads to after so many steps, or none past the end of its chain
abbrev pub along : List Cell → Option ℕ → ℕ → Option ℕ
along cells link zero = link
along cells link (suc i) = link_of (cell_at cells (along cells link i))

-- no cell that the link leads to within so many steps is wanted, as its test may answer
abbrev pub NoneWithin : (Cell → Bool → Type 0) → List Cell → Option ℕ → ℕ → Type 0
NoneWithin Answers cells link steps = (i : ℕ) (cell : Cell) → i < steps → cell_at cells (along cells link i) ≡ Some cell → Answers cell false

-- the number of the first cell along the chain that is wanted; or none, where no cell is within as many steps as there are cells
pub record Sought (Answers : Cell → Bool → Type 0) (cells : List Cell) (link result : Option ℕ) : Type 0 where
  pub none : result ≡ None → NoneWithin Answers cells link (length cells)
  pub some : (n : ℕ) → result ≡ Some n → (i : ℕ) × (cell : Cell) × (along cells link i ≡ Some n) × (slice_get cells n ≡ Some cell) × Answers cell true × NoneWithin Answers cells link i

-- the order of code keys
abbrev pub code_order : CodeKey → CodeKey → Ordering
code_order a b = by_parts a.unit a.code b.unit b.code

-- a cell of a number that no key has
abbrev pub free_cell : Cell
free_cell = record { key = None; next = None }

-- the heads after a cell was taken out of its bucket's chain: the head leads on to the next cell, if no cell came before
abbrev pub unlinked_heads : Option ℕ → List (Option ℕ) → ℕ → Option ℕ → List (Option ℕ)
unlinked_heads None heads bucket next = slice_set heads bucket next
unlinked_heads (Some previous) heads bucket next = heads

-- the cells after one was taken out of its chain: the cell before it leads on to the next one, if there is such a cell
abbrev pub unlinked_cells : Option ℕ → List Cell → Option ℕ → List Cell
unlinked_cells None cells next = cells
unlinked_cells (Some previous) cells next = slice_set cells previous (record { key = (slice_index_or cells previous free_cell).key; next = next })
