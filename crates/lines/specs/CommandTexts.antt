-- The line of each command, without the byte that ends it: a letter, and fields parted by one space each.
-- It says which lines are well formed: just these.
use Rattle.std.specs.Prelude.{ℕ, ◌≤◌, List, [], ◌∷◌, Some, None, codes, decimal}
use Rattle.page.specs.Texts.{fields}
use Rattle.text.specs.Codes.{code_key_text, CodeKeyFits}
use Rattle.text.specs.Records.{fault_text, FaultFits}
use Rattle.lines.specs.declared.command.Command.{Command}
use Rattle.lines.specs.declared.command.Command.TheVariants.{BeginReport, BeginJob, End, Read, Walk, Look, Put, Remove, Commit, Abort, Age}

-- the line of a command
abbrev pub command_text : Command → List ℕ
command_text BeginReport = codes "R"
command_text BeginJob = codes "J"
command_text (End ticket) = fields (codes "E" ∷ decimal ticket ∷ [])
command_text (Read ticket key) = fields (codes "G" ∷ decimal ticket ∷ code_key_text key ∷ [])
command_text (Walk ticket None) = fields (codes "N" ∷ decimal ticket ∷ [])
command_text (Walk ticket (Some key)) = fields (codes "N" ∷ decimal ticket ∷ code_key_text key ∷ [])
command_text (Look ticket key) = fields (codes "L" ∷ decimal ticket ∷ code_key_text key ∷ [])
command_text (Put ticket key fault) = fields (codes "P" ∷ decimal ticket ∷ code_key_text key ∷ fault_text fault ∷ [])
command_text (Remove ticket key) = fields (codes "D" ∷ decimal ticket ∷ code_key_text key ∷ [])
command_text (Commit ticket) = fields (codes "C" ∷ decimal ticket ∷ [])
command_text (Abort ticket) = fields (codes "A" ∷ decimal ticket ∷ [])
command_text (Age limit) = fields (codes "S" ∷ decimal limit ∷ [])

-- a number of 32 bits
abbrev pub U32Fits : ℕ → Type 0
U32Fits n = n ≤ 4294967295

-- the ranges of a command's numbers, which every command of a program keeps
abbrev pub CommandFits : Command → Type 0
CommandFits BeginReport = Unit {0}
CommandFits BeginJob = Unit {0}
CommandFits (End ticket) = U32Fits ticket
CommandFits (Read ticket key) = U32Fits ticket × CodeKeyFits key
CommandFits (Walk ticket None) = U32Fits ticket
CommandFits (Walk ticket (Some key)) = U32Fits ticket × CodeKeyFits key
CommandFits (Look ticket key) = U32Fits ticket × CodeKeyFits key
CommandFits (Put ticket key fault) = U32Fits ticket × CodeKeyFits key × FaultFits fault
CommandFits (Remove ticket key) = U32Fits ticket × CodeKeyFits key
CommandFits (Commit ticket) = U32Fits ticket
CommandFits (Abort ticket) = U32Fits ticket
CommandFits (Age limit) = U32Fits limit
