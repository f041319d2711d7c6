-- A line that reads is the line of its command, and the line of every command reads back.
-- Each command's fields have a reader of their own texts; its letter tells which.
use Rattle.std.proofs.Common.{◌≡◌, ℕ, ◌<◌, length, cond, eqb, List, [], ◌∷◌, Some, None, decimal, Option, sym, refl, ap, ◌∙◌, subst, inl, inr, arith}
use Rattle.std.proofs.lemmas.Bool.{cases_Bool, eqb-true}
use Rattle.std.specs.Option.{option_map}
use Rattle.keys.specs.declared.code.CodeKey.{CodeKey}
use Rattle.page.specs.Texts.{spaced}
use Rattle.text.specs.Codes.{code_key_text, CodeKeyFits}
use Rattle.text.specs.Fields.{one_field}
use Rattle.text.proofs.FieldTexts.{decimal_one_field}
use Rattle.text.proofs.DecimalTexts.{own_u32}
use Rattle.text.proofs.OwnTexts.{map_part}
use Rattle.text.specs.Own.{Own}
use Rattle.text.proofs.NumberTexts.{some_if}
use Rattle.lines.specs.declared.command.Command.{Command}
use Rattle.lines.specs.declared.command.Command.TheVariants.{BeginReport, BeginJob, End, Read, Walk, Look, Put, Remove, Commit, Abort, Age}
use Rattle.lines.specs.Commands.{u32_of, ticket_key_of, walk_of, put_of, without_fields, with_fields, command_of}
use Rattle.lines.specs.CommandTexts.{command_text, CommandFits, U32Fits}
use Rattle.lines.proofs.Fields.{two_fields}
use Rattle.lines.proofs.OwnTexts.{own_ticket_key, own_ticket_key_fault}

-- a command whose numbers are in their ranges, and its line
abbrev IsLine : Command → List ℕ → Type 0
IsLine c s = CommandFits c × (command_text c ≡ s)

-- the fields of a command, behind its letter
fields_forth : {X : Type 0} (of : List ℕ → Option X) (text : X → List ℕ) (Fits : X → Type 0) → Own of text Fits → (make : X → Command) (letter : ℕ) →
    ((x : X) → Fits x → IsLine (make x) (letter ∷ 32 ∷ text x)) → (s : List ℕ) (c : Command) → option_map make (of s) ≡ Some c → IsLine c (letter ∷ 32 ∷ s)
fields_forth of text Fits own make letter is s c e =
    let m = map_part make (of s) c e in
    let a = own.forth s m.0 m.1 in
    let l = is m.0 a.1 in
    (subst CommandFits m.2 l.0, ap command_text (sym m.2) ∙ l.1 ∙ ap (λ xs. letter ∷ 32 ∷ xs) a.2)

-- by the first letter that fits, or by those behind it
by_letter : (x letter : ℕ) (o rest : Option Command) (s : List ℕ) (c : Command) → (o ≡ Some c → IsLine c (letter ∷ s)) →
    (rest ≡ Some c → IsLine c (x ∷ s)) → cond (eqb x letter) o rest ≡ Some c → IsLine c (x ∷ s)
by_letter x letter o rest s c here later e = elim (cases_Bool (eqb x letter)) [
  | inl t ↦ let l = here (rw t at e) in (l.0, l.1 ∙ ap (λ y. y ∷ s) (sym (eqb-true x letter t)))
  | inr f ↦ later (rw f at e)
]

none : (x : ℕ) (s : List ℕ) (c : Command) → None ≡ Some c → IsLine c (x ∷ s)
none x s c e = absurd (cc)

without_forth : (x : ℕ) (c : Command) → without_fields x ≡ Some c → IsLine c (x ∷ [])
without_forth x c e = by_letter x 82 _ _ [] c (alone BeginReport tt) (by_letter x 74 _ _ [] c (alone BeginJob tt) (none x [] c)) e
  where
    alone : (d : Command) → CommandFits d → Some d ≡ Some c → IsLine c (command_text d)
    alone d h e = let same : d ≡ c = cc in (subst CommandFits same h, ap command_text (sym same))

number_forth : (make : ℕ → Command) (letter : ℕ) → ((n : ℕ) → U32Fits n → IsLine (make n) (letter ∷ 32 ∷ decimal n)) →
    (s : List ℕ) (c : Command) → option_map make (u32_of s) ≡ Some c → IsLine c (letter ∷ 32 ∷ s)
number_forth = fields_forth _ _ _ own_u32

ticket_key_forth : (make : ℕ × CodeKey → Command) (letter : ℕ) →
    ((p : ℕ × CodeKey) → U32Fits p.0 × CodeKeyFits p.1 → IsLine (make p) (letter ∷ 32 ∷ spaced (decimal p.0) (code_key_text p.1))) →
    (s : List ℕ) (c : Command) → option_map make (ticket_key_of s) ≡ Some c → IsLine c (letter ∷ 32 ∷ s)
ticket_key_forth = fields_forth _ _ _ own_ticket_key

walk_forth : (s : List ℕ) (c : Command) → walk_of s ≡ Some c → IsLine c (78 ∷ 32 ∷ s)
walk_forth s c e = elim (cases_Bool (one_field s)) [
  | inl t ↦ number_forth (λ n. Walk n None) 78 (λ _ h. (h, refl)) s c (rw t at e)
  | inr f ↦ ticket_key_forth (λ p. Walk p.0 (Some p.1)) 78 (λ _ h. (h, refl)) s c (rw f at e)
]

put_forth : (s : List ℕ) (c : Command) → put_of s ≡ Some c → IsLine c (80 ∷ 32 ∷ s)
put_forth = fields_forth _ _ _ own_ticket_key_fault (λ p. Put p.0 p.1.0 p.1.1) 80 (λ _ h. ((h.0, h.1.0, h.1.1), refl))

with_forth : (x : ℕ) (s : List ℕ) (c : Command) → with_fields x s ≡ Some c → IsLine c (x ∷ 32 ∷ s)
with_forth x s c =
    let rest = 32 ∷ s in
    by_letter x 69 _ _ rest c (number_forth End 69 (λ _ h. (h, refl)) s c)
    (by_letter x 71 _ _ rest c (ticket_key_forth (λ p. Read p.0 p.1) 71 (λ _ h. (h, refl)) s c)
    (by_letter x 78 _ _ rest c (walk_forth s c)
    (by_letter x 76 _ _ rest c (ticket_key_forth (λ p. Look p.0 p.1) 76 (λ _ h. (h, refl)) s c)
    (by_letter x 80 _ _ rest c (put_forth s c)
    (by_letter x 68 _ _ rest c (ticket_key_forth (λ p. Remove p.0 p.1) 68 (λ _ h. (h, refl)) s c)
    (by_letter x 67 _ _ rest c (number_forth Commit 67 (λ _ h. (h, refl)) s c)
    (by_letter x 65 _ _ rest c (number_forth Abort 65 (λ _ h. (h, refl)) s c)
    (by_letter x 83 _ _ rest c (number_forth Age 83 (λ _ h. (h, refl)) s c) (none x rest c)))))))))

-- a line that reads is the line of its command
command_forth : (line : List ℕ) (c : Command) → command_of line ≡ Some c → (0 < length line) × CommandFits c × (command_text c ≡ line)
command_forth [] c e = absurd (cc)
command_forth (x ∷ []) c e = let l = without_forth x c e in (omega arith, l.0, l.1)
command_forth (x ∷ byte ∷ s) c e =
    let p = some_if (eqb byte 32) (with_fields x s) c e in
    let l = with_forth x s c p.1 in
    (omega arith, l.0, l.1 ∙ ap (λ b. x ∷ b ∷ s) (sym (eqb-true byte 32 p.0)))

-- the line of every command reads back
walk_first : (ticket : ℕ) → U32Fits ticket → walk_of (decimal ticket) ≡ Some (Walk ticket None)
walk_first ticket h = simp (decimal_one_field ticket (omega arith), own_u32.back ticket h)

walk_next : (ticket : ℕ) (key : CodeKey) → U32Fits ticket → CodeKeyFits key →
    walk_of (spaced (decimal ticket) (code_key_text key)) ≡ Some (Walk ticket (Some key))
walk_next ticket key h g = simp (two_fields (decimal ticket) (code_key_text key), own_ticket_key.back (ticket, key) (h, g))

command_back : (c : Command) → CommandFits c → command_of (command_text c) ≡ Some c
command_back BeginReport h = refl
command_back BeginJob h = refl
command_back (End ticket) h = ap (option_map End) (own_u32.back ticket h)
command_back (Read ticket key) h = ap (option_map (λ p. Read p.0 p.1)) (own_ticket_key.back (ticket, key) h)
command_back (Walk ticket None) h = walk_first ticket h
command_back (Walk ticket (Some key)) h = walk_next ticket key h.0 h.1
command_back (Look ticket key) h = ap (option_map (λ p. Look p.0 p.1)) (own_ticket_key.back (ticket, key) h)
command_back (Put ticket key fault) h =
    ap (option_map (λ p. Put p.0 p.1.0 p.1.1)) (own_ticket_key_fault.back (ticket, (key, fault)) (h.0, (h.1, h.2)))
command_back (Remove ticket key) h = ap (option_map (λ p. Remove p.0 p.1)) (own_ticket_key.back (ticket, key) h)
command_back (Commit ticket) h = ap (option_map Commit) (own_u32.back ticket h)
command_back (Abort ticket) h = ap (option_map Abort) (own_u32.back ticket h)
command_back (Age limit) h = ap (option_map Age) (own_u32.back limit h)

-- so commands are read just from their lines
pub own_command : Own command_of command_text CommandFits
own_command = record { forth = command_forth; back = command_back }
