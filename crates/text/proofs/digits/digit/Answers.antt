-- The table's rule, tested at all of its 256 entries at once.
use Rattle.text.specs.Digits.{digit_of}
use Rattle.text.proofs.Table.{ruled}
use Rattle.text.proofs.digits.digit.Goals as goal

pub returns : goal.returns
returns c = search (ruled digit_of 256 c.args.b c.from.result c.from.ensures c.ranges.b.fits)
