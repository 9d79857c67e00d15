-- A term takes tokens: what comes after it is shorter.
use Rattle.std.proofs.Common.{ℕ, ◌<◌, List, length, arith}
use Rattle.ioa_tokens.specs.declared.token.Token.{Token}
use Rattle.ioa_source.specs.Sides.{SourceTerm, SourceTerms}
use Rattle.ioa_term_reader.specs.Grammar.{SpellsAt, numeral, yes, no, word, at_node, call, brackets, empty, braces, fields, field, key, before, between, tighter, SpellsTerms, single, followed, SpellsTerm}

mutual
  pub at_shorter : {room l : ℕ} {t : SourceTerm} {xs ys : List Token} → SpellsAt room l t xs ys → length ys < length xs
  at_shorter numeral = omega arith
  at_shorter yes = omega arith
  at_shorter no = omega arith
  at_shorter word = omega arith
  at_shorter at_node = omega arith
  at_shorter (call ts) = let a = terms_shorter ts in omega arith
  at_shorter (brackets d) = let a = at_shorter d in omega arith
  at_shorter empty = omega arith
  at_shorter (braces ts) = let a = terms_shorter ts in omega arith
  at_shorter (fields ts) = let a = terms_shorter ts in omega arith
  at_shorter (field d) = let a = at_shorter d in omega arith
  at_shorter (key d k) = let a = at_shorter d in let b = at_shorter k in omega arith
  at_shorter (before m op is d) = let a = at_shorter d in omega arith
  at_shorter (between m op is d k) = let a = at_shorter d in let b = at_shorter k in omega arith
  at_shorter (tighter d) = at_shorter d

  pub terms_shorter : {room : ℕ} {ts : SourceTerms} {xs ys : List Token} → SpellsTerms room ts xs ys → length ys < length xs
  terms_shorter (single d) = at_shorter d
  terms_shorter (followed d rest) = let a = at_shorter d in let b = terms_shorter rest in omega arith

pub term_shorter : (room : ℕ) (t : SourceTerm) (xs ys : List Token) → SpellsTerm room t xs ys → length ys < length xs
term_shorter room t xs ys d = at_shorter d.spelled
