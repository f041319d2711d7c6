-- What the echo run writes: each line of the input as it was understood.
-- Since a line that reads is its command's line, a well formed line comes back as it is.
use Rattle.std.specs.Prelude.{ℕ, cond, List, [], ◌∷◌, map, length, nat_le}
use Rattle.std.specs.Option.{option_map, unwrap_or}
use Rattle.keys.specs.Refusals.{plain}
use Rattle.lines.specs.Answers.{refusal_text}
use Rattle.lines.specs.CommandTexts.{command_text}
use Rattle.lines.specs.Commands.{command_of}
use Rattle.lines.specs.Inputs.{input_lines}

-- the longest input that is read, in bytes
abbrev pub max_input : ℕ
max_input = 16384

-- `no 12`, for what does not follow its form
abbrev pub malformed : List ℕ
malformed = refusal_text (plain 12)

-- the line of the command that a line stands for, or `no 12`
abbrev pub echo_text : List ℕ → List ℕ
echo_text line = unwrap_or (option_map command_text (command_of line)) malformed

-- an echo for each line, or `no 12` alone where the input is too long
abbrev pub echo_lines : List ℕ → List (List ℕ)
echo_lines input = cond (nat_le (length input) max_input) (map echo_text (input_lines input)) (malformed ∷ [])
