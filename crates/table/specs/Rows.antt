-- The rows of jobs: their entries in use, and a row with one more entry or with another one in an entry's place.
use Rattle.std.specs.Prelude.{ℕ, ◌+◌, min, Bool, cond, List, [], take, replicate, Some, None, Option, nat_le, nat_lt, slice_index_or, slice_set}
use Rattle.ledger.specs.Limits.{row_entries}
use Rattle.ledger.specs.Words.{or_else}
use Rattle.table.specs.declared.row.HeldKey.{HeldKey}
use Rattle.table.specs.declared.row.Row.{Row}

-- an entry that names no place
abbrev pub no_entry : HeldKey
no_entry = record { draft = None; current = None }

-- what stands for a row where there is none
abbrev pub no_row : Row
no_row = record { ticket = 0; used = 0; entries = [] }

-- the row of a job that holds no key
abbrev pub new_row : ℕ → Row
new_row t = record { ticket = t; used = 0; entries = replicate row_entries no_entry }

-- the entries in use
abbrev pub entries_of : Row → List HeldKey
entries_of row = take (min row.used row_entries) row.entries

-- the place by which an entry holds its key: that of the draft, else that of the current version
abbrev pub place_of : HeldKey → Option ℕ
place_of e = or_else e.draft e.current

-- every entry is used
abbrev pub is_row_full : Row → Bool
is_row_full row = nat_le row_entries row.used

-- the draft's place in the entry at the position
abbrev pub draft_in : List HeldKey → Option ℕ → Option ℕ
draft_in entries None = None
draft_in entries (Some i) = (slice_index_or entries i no_entry).draft

-- the row with the entry in the place of the one at the position, or, with none given, as one more if there is room
abbrev pub noted : Option ℕ → HeldKey → Row → Row
noted (Some i) e row = record { ticket = row.ticket; used = row.used; entries = slice_set row.entries i e }
noted None e row =
    cond (nat_lt row.used row_entries) (record { ticket = row.ticket; used = row.used + 1; entries = slice_set row.entries row.used e }) row
