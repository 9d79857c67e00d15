-- Lists as a loop prints them (form): a mark before each item but the first.
use Rattle.std.specs.Prelude.{Bool, true, false, List, [], ◌∷◌}
use Rattle.ioa_tokens.specs.declared.token.Token.{Token}
use Rattle.ioa_tokens.specs.declared.token.Token.TheVariants as token
use Rattle.ioa_tokens.specs.declared.mark.Mark.{Mark}
use Rattle.ioa_operators.specs.declared.operator.BinaryOperator.{BinaryOperator}
use Rattle.ioa_operators.specs.declared.operator.BinaryOperator.TheVariants as operator
use Rattle.ioa_source.specs.Sides.{SourceTerms, SourceStatements as Statements, SourceArms as Arms}
use Rattle.ioa_term_reader.specs.Spelling.{parts_spelling, more_parts_spelling}
use Rattle.ioa_front.specs.Spelling.{separated_spelling, more_separated_spelling}
use Rattle.ioa_front.specs.Spelling.{statements_spelling, more_statements_spelling, arms_spelling, more_arms_spelling}

-- whether an operator is that of `m[k]`
abbrev pub is_key : BinaryOperator → Bool
is_key operator.At = true
is_key _ = false

-- the token before an item: a mark, but none before the first item
abbrev pub before : Mark → Bool → List Token
before m true = []
before m false = token.Mark m ∷ []

-- the tokens of the parts of a term that are left
abbrev pub parts_left : Bool → SourceTerms → List Token
parts_left true ts = parts_spelling ts
parts_left false ts = more_parts_spelling ts

-- the tokens of the items that are left
abbrev pub items_left : {A : Type 0} → Mark → (A → List Token) → Bool → List A → List Token
items_left m spell true xs = separated_spelling m spell xs
items_left m spell false xs = more_separated_spelling m spell xs

-- the tokens of the statements that are left
abbrev pub statements_left : Bool → Statements → List Token
statements_left true ss = statements_spelling ss
statements_left false ss = more_statements_spelling ss

-- the tokens of the arms that are left
abbrev pub arms_left : Bool → Arms → List Token
arms_left true arms = arms_spelling arms
arms_left false arms = more_arms_spelling arms
