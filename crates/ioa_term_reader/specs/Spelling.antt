-- How a term is printed, as tokens (profile): an operator term that is a part of another is in round brackets, and
-- nothing else is.
use Rattle.std.specs.Prelude.{ℤ, Bool, true, false, List, [], ◌∷◌, ◌++◌, if◌then◌else◌}
use Rattle.ioa_tokens.specs.declared.token.Token.{Token}
use Rattle.ioa_tokens.specs.declared.token.Token.TheVariants as token
use Rattle.ioa_tokens.specs.declared.mark.Mark.{Mark}
use Rattle.ioa_tokens.specs.declared.mark.Mark.TheVariants as mark
use Rattle.ioa_operators.specs.declared.operator.BinaryOperator.{BinaryOperator}
use Rattle.ioa_operators.specs.declared.operator.BinaryOperator.TheVariants as operator
use Rattle.ioa_operators.specs.declared.shape.DisplayForm.{DisplayForm}
use Rattle.ioa_operators.specs.declared.shape.DisplayForm.TheVariants.{Braces, Brackets}
use Rattle.ioa_terms.specs.declared.name.Name.{Name}
use Rattle.ioa_terms.specs.declared.name.Name.TheVariants.{Word, Variable, Queue}
use Rattle.ioa_terms.specs.PlainTerm.{number, truth, name, one, two, call, display, field, no_terms, term}
use Rattle.ioa_source.specs.Sides.{SourceTerm, SourceTerms}
use Rattle.ioa_term_reader.specs.Grammar.{queue_word}
use Rattle.ioa_term_reader.specs.Levels.{prefix_mark, infix_mark}

-- what is printed behind the second term: the last bracket of `m[k]`
abbrev pub infix_end : BinaryOperator → List Token
infix_end operator.At = token.Mark mark.CloseSquare ∷ []
infix_end _ = []

-- the words of the truth values
abbrev pub truth_mark : Bool → Mark
truth_mark true = mark.True
truth_mark false = mark.False

-- the brackets of a display
abbrev pub opening : DisplayForm → Mark
opening Braces = mark.OpenBrace
opening Brackets = mark.OpenSquare

abbrev pub closing : DisplayForm → Mark
closing Braces = mark.CloseBrace
closing Brackets = mark.CloseSquare

-- whether a term is an operator with its operands; `m[k]` and `x.f` bind as tightly as they can, as calls and displays
-- do
abbrev pub is_operation : SourceTerm → Bool
is_operation (one op a) = true
is_operation (two operator.At a b) = false
is_operation (two _ a b) = true
is_operation _ = false

-- a part of a term: in round brackets if it is an operation
abbrev pub in_brackets_if : Bool → List Token → List Token
in_brackets_if b xs = if b then token.Mark mark.OpenRound ∷ (xs ++ token.Mark mark.CloseRound ∷ []) else xs

-- the two numbers of a channel
abbrev pub ends_spelling : ℤ → ℤ → List Token
ends_spelling i j = token.Number i ∷ token.Mark mark.Comma ∷ token.Number j ∷ []

-- a name: a word, `x@k` or `queue(i, j)`
abbrev pub name_spelling : Name → List Token
name_spelling (Word w) = token.Word w ∷ []
name_spelling (Variable w k) = token.Word w ∷ token.Mark mark.AtSign ∷ token.Number k ∷ []
name_spelling (Queue i j) =
    token.Word queue_word ∷ token.Mark mark.OpenRound ∷ (ends_spelling i j ++ token.Mark mark.CloseRound ∷ [])

abbrev mutual
  pub spelling : SourceTerm → List Token
  spelling (number n) = token.Number n ∷ []
  spelling (truth b) = token.Mark (truth_mark b) ∷ []
  spelling (name x at) = name_spelling x
  spelling (one op a) = token.Mark (prefix_mark op) ∷ in_brackets_if (is_operation a) (spelling a)
  spelling (two op a b) =
      in_brackets_if (is_operation a) (spelling a)
      ++ (token.Mark (infix_mark op) ∷ (in_brackets_if (is_operation b) (spelling b) ++ infix_end op))
  spelling (call w c ts) =
      token.Word w ∷ token.Mark mark.OpenRound ∷ (parts_spelling ts ++ token.Mark mark.CloseRound ∷ [])
  spelling (display form shape ts) = token.Mark (opening form) ∷ (parts_spelling ts ++ token.Mark (closing form) ∷ [])
  spelling (field a w shape) = in_brackets_if (is_operation a) (spelling a) ++ (token.Mark mark.Dot ∷ token.Word w ∷ [])

  -- parts with commas between
  pub parts_spelling : SourceTerms → List Token
  parts_spelling no_terms = []
  parts_spelling (term t more) = in_brackets_if (is_operation t) (spelling t) ++ more_parts_spelling more

  -- a comma before each of the parts
  pub more_parts_spelling : SourceTerms → List Token
  more_parts_spelling no_terms = []
  more_parts_spelling (term t more) =
      token.Mark mark.Comma ∷ (in_brackets_if (is_operation t) (spelling t) ++ more_parts_spelling more)

-- a term that is a part of another
abbrev pub part_spelling : SourceTerm → List Token
part_spelling t = in_brackets_if (is_operation t) (spelling t)
