-- The last part of an `if`.
use Rattle.std.proofs.Common.{◌≡◌, ◌≤◌, List, [], ◌∷◌, length, map, refl, arith}
use Rattle.ioa_tokens.specs.declared.token.Token.{Token}
use Rattle.ioa_tokens.specs.declared.token.Token.TheVariants as token
use Rattle.ioa_tokens.specs.declared.mark.Mark.TheVariants as mark
use Rattle.ioa_terms.specs.declared.tree.Statement.{Statement}
use Rattle.ioa_terms.specs.PlainTerm.{statements_of}
use Rattle.ioa_terms.specs.View.{statement_of}
use Rattle.ioa_front.specs.Spelling.{else_spelling}

-- if it has a statement its word comes before it
pub else_spelled : (ss : List (Statement (Unit {0}) (Unit {0}) (Unit {0}))) (xs : List Token) → 1 ≤ length ss → else_spelling (statements_of (map statement_of ss)) xs ≡ token.Mark mark.Else ∷ xs
else_spelled [] xs least = absurd (omega (arith, least))
else_spelled (s ∷ ss) xs least = refl
