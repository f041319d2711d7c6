-- The line of each answer, without the byte that ends it.
-- A ticket shows its running number, a refusal its number and its values.
use Rattle.std.specs.Prelude.{ℕ, List, [], ◌∷◌, map, Some, None, Ok, Err, codes, decimal}
use Rattle.keys.specs.Refusals.{Code}
use Rattle.keys.specs.declared.code.CodeKey.{CodeKey}
use Rattle.ledger.specs.Refusals.{code}
use Rattle.ledger.specs.declared.answer.Granted.TheVariants.{Report, Job, Record, Next, Done, Stamp, Aged}
use Rattle.ledger.specs.Calls.{Answer}
use Rattle.page.specs.Texts.{fields}
use Rattle.text.specs.Codes.{code_key_text}
use Rattle.text.specs.Records.{fault_text}
use Rattle.text.specs.declared.record.FaultRecord.{FaultRecord}

-- `no`, the number, and the values if there are any
abbrev pub refusal_text : Code → List ℕ
refusal_text c = fields (codes "no" ∷ decimal c.number ∷ map decimal c.values)

-- the line of an answer of a fault book
abbrev pub answer_text : Answer CodeKey FaultRecord → List ℕ
answer_text (Ok (Report ticket stamp)) = fields (codes "R" ∷ decimal ticket.number ∷ decimal stamp ∷ [])
answer_text (Ok (Job ticket)) = fields (codes "J" ∷ decimal ticket.number ∷ [])
answer_text (Ok (Record None)) = codes "none"
answer_text (Ok (Record (Some fault))) = fields (codes "rec" ∷ fault_text fault ∷ [])
answer_text (Ok (Next None)) = codes "none"
answer_text (Ok (Next (Some key))) = fields (codes "N" ∷ code_key_text key ∷ [])
answer_text (Ok Done) = codes "ok"
answer_text (Ok (Stamp stamp)) = fields (codes "C" ∷ decimal stamp ∷ [])
answer_text (Ok (Aged looked freed)) = fields (codes "S" ∷ decimal looked ∷ decimal freed ∷ [])
answer_text (Err refusal) = refusal_text (code refusal)
