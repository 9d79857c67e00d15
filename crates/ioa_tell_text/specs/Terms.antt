-- A term as text: brackets stand where the reader would group the signs in another way (form).
use Rattle.std.specs.Prelude.{ℕ, nat_lt, if◌then◌else◌, Bool, true, false, List, [], ◌++◌, codes}
use Rattle.std.specs.Fmt.{signed_decimal}
use Rattle.ioa_values.specs.Text.{truth_text}
use Rattle.ioa_tokens.specs.Written.{token_text}
use Rattle.ioa_tokens.specs.declared.token.Token.TheVariants as token
use Rattle.ioa_operators.specs.declared.operator.BinaryOperator.{BinaryOperator}
use Rattle.ioa_operators.specs.declared.operator.BinaryOperator.TheVariants as operator
use Rattle.ioa_operators.specs.declared.shape.DisplayForm.{DisplayForm}
use Rattle.ioa_operators.specs.declared.shape.DisplayForm.TheVariants.{Braces, Brackets}
use Rattle.ioa_terms.specs.PlainTerm as plain
use Rattle.ioa_terms.specs.PlainTerm.{PlainTerm, PlainTerms, name, one, two, call, display, field, no_terms, term}
use Rattle.ioa_terms.specs.declared.name.Name.{Name}
use Rattle.ioa_terms.specs.declared.name.Name.TheVariants.{Word, Variable, Queue}
use Rattle.ioa_term_reader.specs.Levels.{atom_level, infix_mark, left_level, level, prefix_level, prefix_mark}
use Rattle.ioa_term_reader.specs.Levels.{postfix_level, right_level}

-- a name: a word, `x@k` or `queue(i, j)`
abbrev pub name_text : Name → List ℕ
name_text (Word w) = w
name_text (Variable w k) = w ++ (codes "@" ++ signed_decimal k)
name_text (Queue i j) = codes "queue(" ++ (signed_decimal i ++ (codes ", " ++ (signed_decimal j ++ codes ")")))

-- how tightly a term binds
abbrev pub level_of : {N C D : Type 0} → PlainTerm N C D → ℕ
level_of (one op a) = prefix_level op
level_of (two op a b) = level op
level_of _ = atom_level

-- the text of a part, in round brackets if the part binds more loosely than that
abbrev pub within : ℕ → ℕ → List ℕ → List ℕ
within least binds part = if nat_lt binds least then codes "(" ++ (part ++ codes ")") else part

-- whether an operator is that of `m[k]`
abbrev pub is_key : BinaryOperator → Bool
is_key operator.At = true
is_key _ = false

-- what is written between the terms of an operator: its sign, or the first bracket of `m[k]`
abbrev pub sign_text : BinaryOperator → List ℕ
sign_text op = if is_key op then codes "[" else codes " " ++ (token_text (token.Mark (infix_mark op)) ++ codes " ")

-- what is written behind them: the last bracket of `m[k]`
abbrev pub end_text : BinaryOperator → List ℕ
end_text op = if is_key op then codes "]" else []

-- how loosely the second term may bind without round brackets
abbrev pub right_least : BinaryOperator → ℕ
right_least op = if is_key op then 0 else right_level op

-- the brackets of a display
abbrev pub opening : DisplayForm → List ℕ
opening Braces = codes "{"
opening Brackets = codes "["

abbrev pub closing : DisplayForm → List ℕ
closing Braces = codes "}"
closing Brackets = codes "]"

-- what stands before a part: a comma, unless it is the first
abbrev pub before_part : Bool → List ℕ
before_part true = []
before_part false = codes ", "

abbrev mutual
  -- a term
  pub term_text : {N C D : Type 0} → PlainTerm N C D → List ℕ
  term_text (plain.number n) = signed_decimal n
  term_text (plain.truth b) = truth_text b
  term_text (name x at) = name_text x
  term_text (one op a) =
      token_text (token.Mark (prefix_mark op)) ++ within postfix_level (level_of a) (term_text a)
  term_text (two op a b) =
      within (left_level op) (level_of a) (term_text a)
      ++ (sign_text op ++ (within (right_least op) (level_of b) (term_text b) ++ end_text op))
  term_text (call w c ts) = w ++ (codes "(" ++ (parts_text true ts ++ codes ")"))
  term_text (display form d ts) = opening form ++ (parts_text true ts ++ closing form)
  term_text (field a w d) = within postfix_level (level_of a) (term_text a) ++ (codes "." ++ w)

  -- parts with commas between; whether the first of them is the first of all
  pub parts_text : {N C D : Type 0} → Bool → PlainTerms N C D → List ℕ
  parts_text first no_terms = []
  parts_text first (term t more) = before_part first ++ (term_text t ++ parts_text false more)
