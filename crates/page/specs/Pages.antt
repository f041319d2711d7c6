-- What stands on a page, and what it is to put a text behind it.
-- Bytes at the mark and past it are of no account: no promise speaks of them.
use Rattle.std.specs.Prelude.{◌≡◌, ℕ, ◌+◌, ◌-◌, ◌<◌, ◌≤◌, Bool, cond, List, [], ◌∷◌, ◌++◌, length, take, Ok, Err, Result, nat_le}
use Rattle.std.specs.List.{flat_map}
use Rattle.keys.specs.Refusals.{Code, plain, told}
use Rattle.page.specs.declared.refusal.PageRefusal.{PageRefusal}
use Rattle.page.specs.declared.line.OpenLine.{OpenLine}
use Rattle.page.specs.declared.page.Page.{Page}
use Rattle.page.specs.Refusals.{code}
use Rattle.page.specs.Texts.{ended}

-- the page that a line is written on
abbrev pub page_of : OpenLine → Page
page_of line = record { bytes = line.bytes; mark = line.mark.now }

-- a line is still under its guard: over the same mark, which goes back to the same place
abbrev pub SameGuard : OpenLine → OpenLine → Type 0
SameGuard before after = (after.mark.ghost_name ≡ before.mark.ghost_name) × (after.back ≡ before.back)

-- what stands below the mark
abbrev pub standing : Page → List ℕ
standing p = take p.mark.at p.bytes.now

-- whether a text fits whole at the mark
abbrev pub fits : Page → List ℕ → Bool
fits p text = nat_le (p.mark.at + length text) (length p.bytes.now)

-- bytes from the mark on
abbrev pub room : Page → ℕ
room p = length p.bytes.now - p.mark.at

-- the text stands behind what stood there before, and the page is still over the same bytes
pub record Grown (before : Page) (text : List ℕ) (after : Page) : Type 0 where
  pub lines : standing after ≡ standing before ++ text
  pub mark : after.mark.at ≡ before.mark.at + length text
  pub size : length after.bytes.now ≡ length before.bytes.now
  pub memory : after.bytes.ghost_name ≡ before.bytes.ghost_name

-- a line that fits is granted, any other gets 13
abbrev pub fit_answer : Page → List ℕ → Result (Unit {0}) Code
fit_answer p line = cond (fits p line) (Ok tt) (Err (plain 13))

-- a line that fits whole, and nothing of any other
abbrev pub fitted : Page → List ℕ → List ℕ
fitted p line = cond (fits p line) line []

-- a text was put at the mark; or it does not fit, and what stood below the mark is as it was, wherever the mark is now
unfoldable pub Wrote : Page → List ℕ → Page → Result (Unit {0}) PageRefusal → Type 0
Wrote before text after (Ok u) = (before.mark.at + length text ≤ length before.bytes.now) × Grown before text after
Wrote before text after (Err e) =
    (length before.bytes.now < before.mark.at + length text) × (code e ≡ plain 13)
    × (take before.mark.at after.bytes.now ≡ standing before) × (length after.bytes.now ≡ length before.bytes.now)
    × (after.bytes.ghost_name ≡ before.bytes.ghost_name)

-- a line was written whole; or it does not fit, and all is as it was
pub record Lined (before : Page) (line : List ℕ) (after : Page) (r : Result (Unit {0}) PageRefusal) : Type 0 where
  pub answer : told code r ≡ fit_answer before line
  pub grown : Grown before (fitted before line) after

-- of lines in order, as many as fit whole into so many bytes: the first that does not fit ends it
unfoldable pub fitting : ℕ → List (List ℕ) → List ℕ
fitting room [] = []
fitting room (line ∷ lines) = cond (nat_le (length (ended line)) room) (ended line ++ fitting (room - length (ended line)) lines) []

-- lines that all fit are granted; else the first that does not fit gets 13
abbrev pub fitting_answer : ℕ → List (List ℕ) → Result (Unit {0}) Code
fitting_answer room lines = cond (nat_le (length (flat_map ended lines)) room) (Ok tt) (Err (plain 13))

-- lines were written in order, as many as fit
pub record Printed (before : Page) (lines : List (List ℕ)) (after : Page) (r : Result (Unit {0}) PageRefusal) : Type 0 where
  pub answer : told code r ≡ fitting_answer (room before) lines
  pub grown : Grown before (fitting (room before) lines) after
