use Rattle.std.proofs.Common.{◌≡◌, ◌≤◌, drop, Some}
use Rattle.text.specs.Digits.{number_of, with_digits}
use Rattle.text.proofs.digits.number.Given as goal

-- the digits that are left complete the number so far to that of the whole text
abbrev pub invariant-loop-b : goal.invariant-loop-b
invariant-loop-b l = (l.n ≤ l.limit) × (number_of l.base l.s ≡ with_digits l.base (Some l.n) (drop l.b-index l.s))
