-- What a line's reading says of its echo, where the line does not read: the check finds by itself what it says where it does.
use Rattle.std.proofs.Common.{◌≡◌, ℕ, List, Some, None, Err, Option, unwrap_or, ap}
use Rattle.std.specs.Option.{ok_or, option_map}
use Rattle.keys.specs.Refusals.{Code, plain}
use Rattle.lines.specs.declared.command.Command.{Command}
use Rattle.lines.specs.Answers.{refusal_text}
use Rattle.lines.specs.CommandTexts.{command_text}
use Rattle.lines.specs.Commands.{command_of}
use Rattle.lines.specs.Echoes.{echo_text, malformed}

-- a line that does not read is echoed as its refusal
as_refused : (o : Option Command) (code : Code) → Err code ≡ ok_or o (plain 12) → refusal_text code ≡ unwrap_or (option_map command_text o) malformed
as_refused None code e = let same : code ≡ plain 12 = cc in ap refusal_text same
as_refused (Some c) code e = cc

pub echo_refused : (line : List ℕ) (code : Code) → Err code ≡ ok_or (command_of line) (plain 12) → refusal_text code ≡ echo_text line
echo_refused line code e = as_refused (command_of line) code e
