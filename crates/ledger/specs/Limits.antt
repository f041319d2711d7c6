-- The limits of every store, each once; src/limits.rt has them as constants under the same names.
use Rattle.std.specs.Prelude.{ℕ}

-- reports that can be open at once
abbrev pub max_reports : ℕ
max_reports = 16

-- jobs that can be open at once
abbrev pub max_jobs : ℕ
max_jobs = 8

-- keys that one job can hold
abbrev pub row_entries : ℕ
row_entries = 32

-- the stamp at which no commit is granted any more
abbrev pub last_stamp : ℕ
last_stamp = 4000000000

-- the last running number that is given out
abbrev pub last_ticket : ℕ
last_ticket = 4000000000
