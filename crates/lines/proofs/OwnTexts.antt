-- Readers of the fields of commands: each reads just the texts of its values, and so do they put together.
use Rattle.std.proofs.Common.{◌≡◌, ℕ, true, decimal, arith}
use Rattle.std.specs.Option.{option_zip}
use Rattle.page.specs.Texts.{spaced}
use Rattle.text.specs.Codes.{code_key_of, code_key_text, CodeKeyFits}
use Rattle.text.specs.Fields.{first_field, later_fields, one_field}
use Rattle.text.specs.Own.{Own}
use Rattle.text.specs.Records.{fault_of, fault_text, FaultFits}
use Rattle.text.proofs.CodeTexts.{code_key_one_field, own_code_key}
use Rattle.text.proofs.DecimalTexts.{own_u32}
use Rattle.text.proofs.FieldTexts.{decimal_one_field}
use Rattle.text.proofs.OwnTexts.{own_fields}
use Rattle.text.proofs.RecordTexts.{own_fault}
use Rattle.lines.specs.Commands.{u32_of}
use Rattle.lines.specs.CommandTexts.{U32Fits}

number_single : (n : ℕ) → U32Fits n → one_field (decimal n) ≡ true
number_single n h = decimal_one_field n (omega arith)

pub own_ticket_key : Own (λ s. option_zip (u32_of (first_field s)) (code_key_of (later_fields s))) (λ p. spaced (decimal p.0) (code_key_text p.1))
    (λ p. U32Fits p.0 × CodeKeyFits p.1)
own_ticket_key = own_fields _ _ _ _ _ _ own_u32 number_single own_code_key

pub own_ticket_key_fault :
    Own (λ s. option_zip (u32_of (first_field s)) (option_zip (code_key_of (first_field (later_fields s))) (fault_of (later_fields (later_fields s)))))
    (λ p. spaced (decimal p.0) (spaced (code_key_text p.1.0) (fault_text p.1.1)))
    (λ p. U32Fits p.0 × (CodeKeyFits p.1.0 × FaultFits p.1.1))
own_ticket_key_fault =
    own_fields _ _ _ _ _ _ own_u32 number_single (own_fields _ _ _ _ _ _ own_code_key (λ key h. code_key_one_field key) own_fault)
