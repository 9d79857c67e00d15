-- Where a spelling of a term has only such tokens as a text can have, so has the term as it is written.
use Rattle.std.proofs.Common.{ℕ, Bool, true, false, List, [], ◌∷◌, ◌++◌}
use Rattle.ioa_tokens.specs.declared.token.Token.{Token}
use Rattle.ioa_tokens.specs.declared.token.Token.TheVariants as token
use Rattle.ioa_tokens.specs.declared.mark.Mark.TheVariants as mark
use Rattle.ioa_tokens.specs.Written.{IsToken, AreTokens}
use Rattle.ioa_operators.specs.declared.operator.BinaryOperator.{BinaryOperator}
use Rattle.ioa_operators.specs.declared.operator.BinaryOperator.TheVariants as operator
use Rattle.ioa_source.specs.Sides.{SourceTerm, SourceTerms}
use Rattle.ioa_term_reader.specs.Grammar as grammar
use Rattle.ioa_term_reader.specs.Grammar.{SpellsAt, SpellsTerms, SpellsTerm}
use Rattle.ioa_term_reader.specs.Spelling.{infix_end, is_operation, in_brackets_if, spelling, part_spelling, parts_spelling}
use Rattle.ioa_term_reader.proofs.Called.{called_spelling}
use Rattle.ioa_term_reader.proofs.Printed.{terms_printed}
use Rattle.ioa_values.proofs.AllOf.{all_appended}

pub tokens_joined : (xs ys : List Token) → AreTokens xs → AreTokens ys → AreTokens (xs ++ ys)
tokens_joined xs ys h k = all_appended IsToken xs ys h k

-- the tokens of a term, and those behind it
abbrev pub AreGood : List Token → List Token → Type 0
AreGood xs ys = AreTokens xs × AreTokens ys

wrapped_good : (b : Bool) (xs : List Token) → AreTokens xs → AreTokens (in_brackets_if b xs)
wrapped_good true xs h = (tt, tokens_joined xs (token.Mark mark.CloseRound ∷ []) h (tt, tt))
wrapped_good false xs h = h

part_good : (t : SourceTerm) → AreTokens (spelling t) → AreTokens (part_spelling t)
part_good t h = wrapped_good (is_operation t) (spelling t) h

end_good : (op : BinaryOperator) → AreTokens (infix_end op)
end_good operator.At = (tt, tt)
end_good _ = tt

mutual
  pub at_good : {room l : ℕ} {t : SourceTerm} {xs ys : List Token} → SpellsAt room l t xs ys → AreTokens xs → AreGood (spelling t) ys
  at_good grammar.numeral h = ((h.0, tt), h.1)
  at_good grammar.yes h = ((tt, tt), h.1)
  at_good grammar.no h = ((tt, tt), h.1)
  at_good grammar.word h = ((h.0, tt), h.1)
  at_good grammar.at_node h = ((h.0, (tt, (h.1.1.0, tt))), h.1.1.1)
  at_good (grammar.call {w = w} {ts = ts} d) h =
      let g = terms_good d h.1.1 in
      rw (called_spelling w ts) ((h.0, (tt, tokens_joined (parts_spelling ts) (token.Mark mark.CloseRound ∷ []) g.0 (tt, tt))), g.1.1)
  at_good (grammar.brackets d) h = let g = at_good d h.1 in (g.0, g.1.1)
  at_good grammar.empty h = ((tt, (tt, tt)), h.1.1)
  at_good (grammar.braces {ts = ts} d) h =
      let g = terms_good d h.1 in
      ((tt, tokens_joined (parts_spelling ts) (token.Mark mark.CloseBrace ∷ []) g.0 (tt, tt)), g.1.1)
  at_good (grammar.fields {ts = ts} d) h =
      let g = terms_good d h.1 in
      ((tt, tokens_joined (parts_spelling ts) (token.Mark mark.CloseSquare ∷ []) g.0 (tt, tt)), g.1.1)
  at_good (grammar.field {t = a} {w = w} d) h =
      let g = at_good d h in
      (tokens_joined (part_spelling a) (token.Mark mark.Dot ∷ token.Word w ∷ []) (part_good a g.0) (tt, (g.1.1.0, tt)), g.1.1.1)
  at_good (grammar.key {t = a} {u = k} d index) h =
      let g = at_good d h in
      let i = at_good index g.1.1 in (
        tokens_joined (part_spelling a) (token.Mark mark.OpenSquare ∷ (part_spelling k ++ token.Mark mark.CloseSquare ∷ [])) (part_good a g.0)
            (tt, tokens_joined (part_spelling k) (token.Mark mark.CloseSquare ∷ []) (part_good k i.0) (tt, tt)),
        i.1.1,
      )
  at_good (grammar.before {t = a} m op is d) h = let g = at_good d h.1 in ((tt, part_good a g.0), g.1)
  at_good (grammar.between {t = a} {u = b} m op is d k) h =
      let g = at_good d h in
      let i = at_good k g.1.1 in
      (tokens_joined (part_spelling a) _ (part_good a g.0) (tt, tokens_joined (part_spelling b) (infix_end op) (part_good b i.0) (end_good op)), i.1)
  at_good (grammar.tighter d) h = at_good d h

  pub terms_good : {room : ℕ} {ts : SourceTerms} {xs ys : List Token} → SpellsTerms room ts xs ys → AreTokens xs → AreGood (parts_spelling ts) ys
  terms_good (grammar.single {t = t} d) h = let g = at_good d h in (tokens_joined (part_spelling t) [] (part_good t g.0) tt, g.1)
  terms_good (grammar.followed {t = t} {ts = ts} d rest) h =
      let g = at_good d h in
      let i = terms_good rest g.1.1 in
      (rw ((terms_printed rest).goes_on) (tokens_joined (part_spelling t) (token.Mark mark.Comma ∷ parts_spelling ts) (part_good t g.0) (tt, i.0)), i.1)

-- a term as it is written, and what is behind it
pub term_good : {room : ℕ} {t : SourceTerm} {xs ys : List Token} → SpellsTerm room t xs ys → AreTokens xs → AreGood (spelling t) ys
term_good d h = at_good d.spelled h
