-- How the reader goes through the tokens of a term (profile): by precedence climbing.
use Rattle.std.specs.Prelude.{ℕ, zero, suc, ◌-◌, ◌+◌, true, false, ◌&&◌, nat_le, nat_eq, if◌then◌else◌}
use Rattle.std.specs.Prelude.{List, [], Option, Some, None}
use Rattle.std.specs.Option.{option_map}
use Rattle.ioa_tokens.specs.declared.token.Token.{Token}
use Rattle.ioa_tokens.specs.declared.mark.Mark.{Mark}
use Rattle.ioa_tokens.specs.declared.mark.Mark.TheVariants as mark
use Rattle.ioa_operators.specs.declared.operator.UnaryOperator.{UnaryOperator}
use Rattle.ioa_operators.specs.declared.operator.BinaryOperator.TheVariants.{At}
use Rattle.ioa_operators.specs.declared.shape.DisplayForm.{DisplayForm}
use Rattle.ioa_operators.specs.declared.shape.DisplayForm.TheVariants.{Braces, Brackets}
use Rattle.ioa_terms.specs.declared.name.Name.TheVariants.{Word, Variable}
use Rattle.ioa_terms.specs.PlainTerm as plain
use Rattle.ioa_terms.specs.PlainTerm.{no_terms, terms_of}
use Rattle.ioa_source.specs.Sides.{SourceTerm}
use Rattle.ioa_cursor.specs.Reading.{◌>>=◌, choose, skip, expect, word, number}
use Rattle.ioa_cursor.specs.Reading.{at_number, at_word, peek_mark, advance, several_more}
use Rattle.ioa_source.specs.Heights.{height, height_limit}
use Rattle.ioa_term_reader.specs.Grammar.{bracket_limit, called}
use Rattle.ioa_term_reader.specs.Levels.{prefix_of, prefix_level, infix_of, level, left_level, right_level}
use Rattle.ioa_term_reader.specs.Levels.{postfix_level, atom_level}
use Rattle.ioa_term_reader.specs.declared.after.After.{After}
use Rattle.ioa_term_reader.specs.declared.after.After.TheVariants.{Infix, Field, Key}

-- a tree, if it is not too high
unfoldable pub limited_term : SourceTerm → Option SourceTerm
limited_term t = if nat_le (height t) height_limit then Some t else None

-- a term that was read with the tightest level that it has, and what comes after it
abbrev pub TermAtLevel : Type 0
TermAtLevel = (ℕ × SourceTerm) × List Token

abbrev pub term_at_level : ℕ → SourceTerm → List Token → Option TermAtLevel
term_at_level l t ys = Some ((l, t), ys)

-- how a term goes on behind a mark
abbrev pub after_of : Mark → Option After
after_of mark.Dot = Some Field
after_of mark.OpenSquare = Some Key
after_of m = option_map Infix (infix_of m)

-- the level of a term that has gone on so
abbrev pub level_of : After → ℕ
level_of (Infix op) = level op
level_of Field = postfix_level
level_of Key = postfix_level

-- the loosest level of a term that goes on so
abbrev pub left_of : After → ℕ
left_of (Infix op) = left_level op
left_of Field = postfix_level
left_of Key = postfix_level

-- how a term of level `most` goes on if no operator looser than `least` is allowed
unfoldable pub accepted_after : ℕ → ℕ → List Token → Option After
accepted_after least most xs =
    peek_mark xs >>= λ m. after_of m >>= λ a.
    choose (nat_le least (level_of a) && nat_le (left_of a) most) (Some a) None

-- [ @ Number ], behind a word that opens no bracket
unfoldable pub name_term : List ℕ → List Token → Option TermAtLevel
name_term w xs =
    choose (skip mark.AtSign xs).0
    (number (skip mark.AtSign xs).1 >>= λ k. term_at_level atom_level (plain.name (Variable w k.0) tt) k.1)
    (term_at_level atom_level (plain.name (Word w) tt) (skip mark.AtSign xs).1)

-- a term is read by what reads a part of it; that takes how many brackets more may be opened, and the loosest level
module _ (next : ℕ → ℕ → List Token → Option (SourceTerm × List Token)) where
  -- Term {, Term}
  unfoldable pub terms_in : ℕ → List Token → Option (List SourceTerm × List Token)
  terms_in room xs = several_more (skip mark.Comma) (next room 1) [] xs

  -- Term ), behind the first bracket
  unfoldable pub bracketed_term : ℕ → List Token → Option TermAtLevel
  bracketed_term room xs =
      choose (nat_eq room 0) None
      (next (room - 1) 1 xs >>= λ t. expect mark.CloseRound t.1 >>= λ c. term_at_level atom_level t.0 c.1)

  -- Term {, Term} and a bracket, behind the first bracket of a display
  unfoldable pub display_term : DisplayForm → Mark → ℕ → List Token → Option TermAtLevel
  display_term form close room xs =
      choose (nat_eq room 0) None
      (terms_in (room - 1) xs >>= λ ts. expect close ts.1 >>= λ c.
      limited_term (plain.display form tt (terms_of ts.0)) >>= λ t. term_at_level atom_level t c.1)

  -- [Term {, Term}] }, behind the first bracket
  unfoldable pub braced_term : ℕ → List Token → Option TermAtLevel
  braced_term room xs =
      choose (nat_eq room 0) None
      (choose (skip mark.CloseBrace xs).0
      (term_at_level atom_level (plain.display Braces tt no_terms) (skip mark.CloseBrace xs).1)
      (display_term Braces mark.CloseBrace room (skip mark.CloseBrace xs).1))

  -- Term {, Term} ), behind the word and the first bracket of a call
  unfoldable pub call_term : ℕ → List ℕ → List Token → Option TermAtLevel
  call_term room w xs =
      choose (nat_eq room 0) None
      (terms_in (room - 1) xs >>= λ ts. expect mark.CloseRound ts.1 >>= λ c.
      limited_term (called w (terms_of ts.0)) >>= λ t. term_at_level atom_level t c.1)

  -- [ ( Term {, Term} ) ] or [ @ Number ], behind a word
  unfoldable pub word_term : ℕ → List ℕ → List Token → Option TermAtLevel
  word_term room w xs =
      choose (skip mark.OpenRound xs).0
      (call_term room w (skip mark.OpenRound xs).1)
      (name_term w (skip mark.OpenRound xs).1)

  -- a term of an operator's level, behind the operator
  unfoldable pub prefixed_term : ℕ → ℕ → UnaryOperator → List Token → Option TermAtLevel
  prefixed_term room least op xs =
      choose (nat_le least (prefix_level op))
      (next room (prefix_level op) xs >>= λ t.
      limited_term (plain.one op t.0) >>= λ u. term_at_level (prefix_level op) u t.1)
      None

  -- a term that an operator begins, behind the operator's mark
  unfoldable pub operator_term : ℕ → ℕ → Mark → List Token → Option TermAtLevel
  operator_term room least m xs = prefix_of m >>= λ op. prefixed_term room least op xs

  -- what a mark begins, behind it
  unfoldable pub marked_term : ℕ → ℕ → Mark → List Token → Option TermAtLevel
  marked_term room least mark.True xs = term_at_level atom_level (plain.truth true) xs
  marked_term room least mark.False xs = term_at_level atom_level (plain.truth false) xs
  marked_term room least mark.OpenRound xs = bracketed_term room xs
  marked_term room least mark.OpenBrace xs = braced_term room xs
  marked_term room least mark.OpenSquare xs = display_term Brackets mark.CloseSquare room xs
  marked_term room least m xs = operator_term room least m xs

  -- a term up to its first operator between two terms, and without `.f` or `[k]` behind it
  unfoldable pub operand : ℕ → ℕ → List Token → Option TermAtLevel
  operand room least xs =
      choose (at_number xs)
      (number xs >>= λ n. term_at_level atom_level (plain.number n.0) n.1)
      (choose (at_word xs)
      (word xs >>= λ w. word_term room w.0 w.1)
      (peek_mark xs >>= λ m. marked_term room least m (advance xs)))

  -- a term that goes on, behind the mark
  unfoldable pub extended_term : ℕ → SourceTerm → After → List Token → Option (SourceTerm × List Token)
  extended_term room left (Infix op) xs =
      next room (right_level op) xs >>= λ t. limited_term (plain.two op left t.0) >>= λ u. Some (u, t.1)
  extended_term room left Field xs = word xs >>= λ w. limited_term (plain.field left w.0 tt) >>= λ u. Some (u, w.1)
  extended_term room left Key xs =
      choose (nat_eq room 0) None
      (next (room - 1) 1 xs >>= λ t. expect mark.CloseSquare t.1 >>= λ c.
      limited_term (plain.two At left t.0) >>= λ u. Some (u, c.1))

  -- a term of level `most` with all that it goes on with, in a number of turns: each turn makes it higher
  unfoldable pub climb : ℕ → ℕ → ℕ → ℕ → SourceTerm → List Token → Option (SourceTerm × List Token)
  climb zero room least most left xs = Some (left, xs)
  climb (suc turns) room least most left xs =
      elim (accepted_after least most xs) [
        | None ↦ Some (left, xs)
        | Some a ↦ extended_term room left a (advance xs) >>= λ s. climb turns room least (level_of a) s.0 s.1
      ]

-- a term of level `least` at the loosest; each part of it is read one deeper
unfoldable pub read : ℕ → ℕ → ℕ → List Token → Option (SourceTerm × List Token)
read zero room least xs = None
read (suc depth) room least xs =
    operand (read depth) room least xs >>= λ o. climb (read depth) height_limit room least o.0.0 o.0.1 o.1

-- how deep a term within the limits goes: each part is less high, or in one bracket more
abbrev pub depth_limit : ℕ
depth_limit = height_limit + bracket_limit

-- a term; `room` is how many brackets more may be opened
unfoldable pub term : ℕ → List Token → Option (SourceTerm × List Token)
term room xs = read depth_limit room 1 xs
