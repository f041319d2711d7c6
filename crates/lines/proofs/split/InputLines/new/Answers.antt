use Rattle.std.proofs.Common.{refl}
use Rattle.lines.proofs.Splitting.{lines_of, lines_only}
use Rattle.lines.proofs.split.InputLines.new.Goals as goal

pub returns : goal.returns
returns c = record { lines = refl; joined = lines_of c.args.input.now; only = lines_only c.args.input.now }
