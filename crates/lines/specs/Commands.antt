-- Which command a line stands for, read from left to right; none where the line does not follow its form.
-- CommandTexts has the lines of the commands, and a line stands for a command just where it is that command's line.
use Rattle.std.specs.Prelude.{ℕ, Bool, cond, List, [], ◌∷◌, Some, None, codes, Option, ◌==◌, slice_index}
use Rattle.std.specs.Option.{option_map, option_zip}
use Rattle.keys.specs.declared.code.CodeKey.{CodeKey}
use Rattle.text.specs.Codes.{code_key_of}
use Rattle.text.specs.Decimals.{decimal_of}
use Rattle.text.specs.Fields.{first_field, later_fields, one_field}
use Rattle.text.specs.Records.{fault_of}
use Rattle.lines.specs.declared.command.Command.{Command}
use Rattle.lines.specs.declared.command.Command.TheVariants.{BeginReport, BeginJob, End, Read, Walk, Look, Put, Remove, Commit, Abort, Age}

-- a decimal number of 32 bits: a ticket's number or a limit
abbrev pub u32_of : List ℕ → Option ℕ
u32_of s = decimal_of 4294967295 s

-- a ticket's number and a key, in two fields
abbrev pub ticket_key_of : List ℕ → Option (ℕ × CodeKey)
ticket_key_of s = option_zip (u32_of (first_field s)) (code_key_of (later_fields s))

-- the fields of a walk: a ticket's number, and a key where there is a second field
abbrev pub walk_of : List ℕ → Option Command
walk_of s =
    cond (one_field s) (option_map (λ ticket. Walk ticket None) (u32_of s))
    (option_map (λ p. Walk p.0 (Some p.1)) (ticket_key_of s))

-- the fields of a put: a ticket's number, a key, and the four of the record
abbrev pub put_of : List ℕ → Option Command
put_of s =
    option_map (λ p. Put p.0 p.1.0 p.1.1)
    (option_zip (u32_of (first_field s)) (option_zip (code_key_of (first_field (later_fields s))) (fault_of (later_fields (later_fields s)))))

-- whether a byte is the one that a letter is written as
abbrev pub is : ℕ → List ℕ → Bool
is byte letter = byte == slice_index letter 0

-- commands of a letter alone
abbrev pub without_fields : ℕ → Option Command
without_fields letter = cond (is letter (codes "R")) (Some BeginReport) (cond (is letter (codes "J")) (Some BeginJob) None)

-- commands of a letter and fields
abbrev pub with_fields : ℕ → List ℕ → Option Command
with_fields letter s =
    cond (is letter (codes "E")) (option_map End (u32_of s))
    (cond (is letter (codes "G")) (option_map (λ p. Read p.0 p.1) (ticket_key_of s))
    (cond (is letter (codes "N")) (walk_of s)
    (cond (is letter (codes "L")) (option_map (λ p. Look p.0 p.1) (ticket_key_of s))
    (cond (is letter (codes "P")) (put_of s)
    (cond (is letter (codes "D")) (option_map (λ p. Remove p.0 p.1) (ticket_key_of s))
    (cond (is letter (codes "C")) (option_map Commit (u32_of s))
    (cond (is letter (codes "A")) (option_map Abort (u32_of s))
    (cond (is letter (codes "S")) (option_map Age (u32_of s)) None))))))))

-- the command that a line stands for: a letter alone, or a letter, a space and fields
abbrev pub command_of : List ℕ → Option Command
command_of [] = None
command_of (letter ∷ []) = without_fields letter
command_of (letter ∷ byte ∷ s) = cond (byte == 32) (with_fields letter s) None
