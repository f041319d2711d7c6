use Rattle.std.proofs.Common.{◌≡◌, take, drop, Some, None, arith, get_or}
use Rattle.std.proofs.lemmas.Grind.{common_steps}
use Rattle.text.specs.Codes.{code_key_of, code_of}
use Rattle.text.specs.Digits.{number_of}
use Rattle.text.proofs.CodeTexts.{key_length, no_code, unit_read}
use Rattle.text.proofs.code.CodeKeyFromText.from_text.Goals as goal

pub returns-clause-answer : goal.returns-clause-answer
unfolding code_key_of
returns-clause-answer c =
    let code : code_of (drop 5 c.args.s.now) ≡ Some c.in_ok-code.code.bits = grind (arith, common_steps) in
    let long = key_length c.args.s.now _ code in
    let unit : number_of 16 (take 4 c.args.s.now) ≡ Some c.in_ok-unit.field-0 = grind (arith, common_steps, unit_read) in
    let colon : get_or c.args.s.now 4 0 ≡ 58 = grind (arith, common_steps) in
    grind (arith, common_steps)

pub returns-in_err-code-clause-answer : goal.returns-in_err-code-clause-answer
returns-in_err-code-clause-answer c =
    let none : code_of (drop 5 c.args.s.now) ≡ None = grind (arith, common_steps) in
    let no_key = no_code c.args.s.now none in
    grind (arith, common_steps)
