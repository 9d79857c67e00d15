-- What each step of the reader of terms reads where the tokens are so.
use Rattle.std.proofs.Common.{◌≡◌, ℕ, zero, suc, ◌-◌, ◌<◌, ◌≤◌, ℤ, true, false, ◌&&◌, nat_le, nat_eq, List, [], ◌∷◌, Option, Some, None, refl, ap, ◌∙◌, arith}
use Rattle.std.proofs.lemmas.Bool.Decides.{nat_tests}
use Rattle.std.specs.Option.{option_map}
use Rattle.ioa_tokens.specs.declared.token.Token.{Token}
use Rattle.ioa_tokens.specs.declared.token.Token.TheVariants as token
use Rattle.ioa_tokens.specs.declared.mark.Mark.{Mark}
use Rattle.ioa_tokens.specs.declared.mark.Mark.TheVariants as mark
use Rattle.ioa_operators.specs.declared.operator.UnaryOperator.{UnaryOperator}
use Rattle.ioa_operators.specs.declared.operator.UnaryOperator.TheVariants.{Not, Negative}
use Rattle.ioa_operators.specs.declared.operator.BinaryOperator.{BinaryOperator}
use Rattle.ioa_operators.specs.declared.operator.BinaryOperator.TheVariants.{At}
use Rattle.ioa_operators.specs.declared.shape.DisplayForm.{DisplayForm}
use Rattle.ioa_operators.specs.declared.shape.DisplayForm.TheVariants.{Braces, Brackets}
use Rattle.ioa_terms.specs.declared.name.Name.TheVariants.{Word, Variable}
use Rattle.ioa_terms.specs.PlainTerm as plain
use Rattle.ioa_terms.specs.PlainTerm.{no_terms, terms_of}
use Rattle.ioa_source.specs.Sides.{SourceTerm}
use Rattle.ioa_cursor.specs.Reading.{bind, choose, skip, expect, word, number, at_number, at_word, peek_mark, advance}
use Rattle.ioa_cursor.proofs.Steps.{stays, read_next}
use Rattle.ioa_cursor.proofs.Follow.{skip_same}
use Rattle.ioa_source.specs.Heights.{height, height_limit}
use Rattle.ioa_term_reader.specs.Grammar.{called}
use Rattle.ioa_term_reader.specs.Levels.{prefix_level, prefix_of, infix_of, right_level, atom_level}
use Rattle.ioa_term_reader.specs.Reading.{limited_term, term_at_level, after_of, level_of, left_of, accepted_after, terms_in, bracketed_term, display_term, braced_term, call_term, name_term, word_term, prefixed_term, operator_term, marked_term, operand, extended_term, climb, read}
use Rattle.ioa_term_reader.specs.declared.after.After.{After}
use Rattle.ioa_term_reader.specs.declared.after.After.TheVariants.{Infix, Field, Key}
use Rattle.ioa_term_reader.proofs.Closing.{binds, binds_after, after_binds}

-- tests of numbers

test_yes : (m n : ℕ) → m ≤ n → nat_le m n ≡ true
test_yes m n h = grind (arith, nat_tests)

test_no : (m n : ℕ) → n < m → nat_le m n ≡ false
test_no m n h = grind (arith, nat_tests)

opens : (room : ℕ) → nat_eq (suc room) 0 ≡ false
opens room = grind (arith, nat_tests)

opened : (room : ℕ) → suc room - 1 ≡ room
opened room = omega arith

-- a tree that is not too high
pub limited_low : (t : SourceTerm) → height t ≤ height_limit → limited_term t ≡ Some t
unfolding limited_term
limited_low t h = rw (test_yes (height t) height_limit h) refl

-- how a term goes on

pub after_infix : (m : Mark) (op : BinaryOperator) → infix_of m ≡ Some op → after_of m ≡ Some (Infix op)
after_infix mark.Dot op e = absurd cc
after_infix mark.OpenSquare op e = absurd cc
after_infix m op e = ap (option_map Infix) e

pub accepted_next : (least most : ℕ) (m : Mark) (a : After) (xs : List Token) → after_of m ≡ Some a → least ≤ level_of a → left_of a ≤ most → accepted_after least most (token.Mark m ∷ xs) ≡ Some a
unfolding accepted_after bind peek_mark choose
accepted_next least most m a xs e h k = rw e (rw (test_yes least (level_of a) h) (rw (test_yes (left_of a) most k) refl))

accepted_looser : (least most : ℕ) (a : After) → level_of a < least → choose (nat_le least (level_of a) && nat_le (left_of a) most) (Some a) None ≡ None
unfolding choose
accepted_looser least most a h = rw (test_no least (level_of a) h) refl

stopped_after : (least most end : ℕ) (o : Option After) → binds_after o ≤ end → ((a : After) → left_of a ≤ end → level_of a < least) →
    bind o (λ a. choose (nat_le least (level_of a) && nat_le (left_of a) most) (Some a) None) ≡ None
unfolding bind
stopped_after least most end None h ends = refl
stopped_after least most end (Some a) h ends = accepted_looser least most a (ends a h)

accepted_stops : (least most end : ℕ) (xs : List Token) → binds xs ≤ end → ((a : After) → left_of a ≤ end → level_of a < least) → accepted_after least most xs ≡ None
unfolding accepted_after bind peek_mark
accepted_stops least most end (token.Mark m ∷ xs) h ends = let b = after_binds m in stopped_after least most end (after_of m) (omega arith) ends
accepted_stops least most end (token.Word w ∷ xs) h ends = refl
accepted_stops least most end (token.Number n ∷ xs) h ends = refl
accepted_stops least most end (token.LeftOut w ∷ xs) h ends = refl
accepted_stops least most end [] h ends = refl

same_after : (least most other : ℕ) (o : Option After) → binds_after o ≤ most → binds_after o ≤ other →
    bind o (λ a. choose (nat_le least (level_of a) && nat_le (left_of a) most) (Some a) None) ≡ bind o (λ a. choose (nat_le least (level_of a) && nat_le (left_of a) other) (Some a) None)
unfolding bind
same_after least most other None h k = refl
same_after least most other (Some a) h k = rw (test_yes (left_of a) most h, test_yes (left_of a) other k) refl

accepted_same : (least most other : ℕ) (xs : List Token) → binds xs ≤ most → binds xs ≤ other → accepted_after least most xs ≡ accepted_after least other xs
unfolding accepted_after bind peek_mark
accepted_same least most other (token.Mark m ∷ xs) h k = let b = after_binds m in same_after least most other (after_of m) (omega arith) (omega arith)
accepted_same least most other (token.Word w ∷ xs) h k = refl
accepted_same least most other (token.Number n ∷ xs) h k = refl
accepted_same least most other (token.LeftOut w ∷ xs) h k = refl
accepted_same least most other [] h k = refl

-- what a mark begins

marked_prefix : (next : ℕ → ℕ → List Token → Option (SourceTerm × List Token)) (room least : ℕ) (m : Mark) (op : UnaryOperator) (xs : List Token) →
    prefix_of m ≡ Some op → marked_term next room least m xs ≡ prefixed_term next room least op xs
unfolding marked_term operator_term bind
marked_prefix next room least mark.Not op xs e = let same : Not ≡ op = cc in rw same refl
marked_prefix next room least mark.Minus op xs e = let same : Negative ≡ op = cc in rw same refl
marked_prefix next room least _ op xs e = absurd cc

module _ (next : ℕ → ℕ → List Token → Option (SourceTerm × List Token)) where
  pub climb_stops : (turns room least most end : ℕ) (t : SourceTerm) (xs : List Token) → binds xs ≤ end → ((a : After) → left_of a ≤ end → level_of a < least) →
      climb next turns room least most t xs ≡ read_next t xs
  unfolding climb
  climb_stops zero room least most end t xs h ends = refl
  climb_stops (suc turns) room least most end t xs h ends = rw (accepted_stops least most end xs h ends, climb) refl

  pub climb_same : (turns room least most other : ℕ) (t : SourceTerm) (xs : List Token) → binds xs ≤ most → binds xs ≤ other →
      climb next turns room least most t xs ≡ climb next turns room least other t xs
  unfolding climb
  climb_same zero room least most other t xs h k = refl
  climb_same (suc turns) room least most other t xs h k = rw (accepted_same least most other xs h k, climb) refl

  pub climb_more : (turns room least most : ℕ) (m : Mark) (a : After) (t u : SourceTerm) (xs ys : List Token) → accepted_after least most (token.Mark m ∷ xs) ≡ Some a →
      extended_term next room t a xs ≡ read_next u ys → climb next (suc turns) room least most t (token.Mark m ∷ xs) ≡ climb next turns room least (level_of a) u ys
  unfolding climb bind advance
  climb_more turns room least most m a t u xs ys e g = rw (e, climb) (rw g refl)

  pub grown_infix : (room : ℕ) (op : BinaryOperator) (t u : SourceTerm) (xs ys : List Token) → next room (right_level op) xs ≡ read_next u ys →
      height (plain.two op t u) ≤ height_limit → extended_term next room t (Infix op) xs ≡ read_next (plain.two op t u) ys
  unfolding extended_term bind
  grown_infix room op t u xs ys e h = rw e (rw (limited_low (plain.two op t u) h) refl)

  pub grown_field : (room : ℕ) (t : SourceTerm) (w : List ℕ) (xs : List Token) →
      height (plain.field t w tt) ≤ height_limit → extended_term next room t Field (token.Word w ∷ xs) ≡ read_next (plain.field t w tt) xs
  unfolding extended_term bind word
  grown_field room t w xs h = rw (limited_low (plain.field t w tt) h) refl

  pub grown_key : (room : ℕ) (t u : SourceTerm) (xs ys : List Token) → next room 1 xs ≡ read_next u (token.Mark mark.CloseSquare ∷ ys) →
      height (plain.two At t u) ≤ height_limit → extended_term next (suc room) t Key xs ≡ read_next (plain.two At t u) ys
  unfolding extended_term bind choose expect skip
  grown_key room t u xs ys e h = rw (opens room, opened room) (rw e (rw (limited_low (plain.two At t u) h) refl))

  pub operand_number : (room least : ℕ) (n : ℤ) (xs : List Token) → operand next room least (token.Number n ∷ xs) ≡ term_at_level atom_level (plain.number n) xs
  unfolding operand at_number number choose bind
  operand_number room least n xs = refl

  operand_mark : (room least : ℕ) (m : Mark) (xs : List Token) → operand next room least (token.Mark m ∷ xs) ≡ marked_term next room least m xs
  unfolding operand at_number at_word peek_mark advance choose bind
  operand_mark room least m xs = refl

  pub operand_truth : (room least : ℕ) (xs : List Token) → operand next room least (token.Mark mark.True ∷ xs) ≡ term_at_level atom_level (plain.truth true) xs
  unfolding marked_term
  operand_truth room least xs = operand_mark room least mark.True xs

  pub operand_falsity : (room least : ℕ) (xs : List Token) → operand next room least (token.Mark mark.False ∷ xs) ≡ term_at_level atom_level (plain.truth false) xs
  unfolding marked_term
  operand_falsity room least xs = operand_mark room least mark.False xs

  pub operand_prefix : (room least : ℕ) (m : Mark) (op : UnaryOperator) (t : SourceTerm) (xs ys : List Token) → prefix_of m ≡ Some op → least ≤ prefix_level op →
      next room (prefix_level op) xs ≡ read_next t ys → height (plain.one op t) ≤ height_limit →
      operand next room least (token.Mark m ∷ xs) ≡ term_at_level (prefix_level op) (plain.one op t) ys
  unfolding prefixed_term choose bind
  operand_prefix room least m op t xs ys is l e h =
      rw (operand_mark room least m xs, marked_prefix next room least m op xs is, test_yes least (prefix_level op) l) (rw e (rw (limited_low (plain.one op t) h) refl))

  pub operand_word : (room least : ℕ) (w : List ℕ) (xs : List Token) → skip mark.OpenRound xs ≡ stays false xs → skip mark.AtSign xs ≡ stays false xs →
      operand next room least (token.Word w ∷ xs) ≡ term_at_level atom_level (plain.name (Word w) tt) xs
  unfolding operand at_number at_word word word_term name_term choose bind
  operand_word room least w xs e f = rw e (rw f refl)

  pub operand_at_node : (room least : ℕ) (w : List ℕ) (k : ℤ) (xs : List Token) →
      operand next room least (token.Word w ∷ token.Mark mark.AtSign ∷ token.Number k ∷ xs) ≡ term_at_level atom_level (plain.name (Variable w k) tt) xs
  unfolding operand at_number at_word word number word_term name_term skip choose bind
  operand_at_node room least w k xs = refl

  pub operand_call : (room least : ℕ) (w : List ℕ) (ts : List SourceTerm) (t : SourceTerm) (xs ys : List Token) →
      terms_in next room xs ≡ read_next ts (token.Mark mark.CloseRound ∷ ys) → limited_term (called w (terms_of ts)) ≡ Some t →
      operand next (suc room) least (token.Word w ∷ token.Mark mark.OpenRound ∷ xs) ≡ term_at_level atom_level t ys
  unfolding operand at_number at_word word word_term call_term skip expect choose bind
  operand_call room least w ts t xs ys e h = rw (opens room, opened room) (rw e (rw h refl))

  pub operand_brackets : (room least : ℕ) (t : SourceTerm) (xs ys : List Token) → next room 1 xs ≡ read_next t (token.Mark mark.CloseRound ∷ ys) →
      operand next (suc room) least (token.Mark mark.OpenRound ∷ xs) ≡ term_at_level atom_level t ys
  unfolding marked_term bracketed_term skip expect choose bind
  operand_brackets room least t xs ys e = rw (operand_mark (suc room) least mark.OpenRound xs, opens room, opened room) (rw e refl)

  pub operand_empty : (room least : ℕ) (xs : List Token) →
      operand next (suc room) least (token.Mark mark.OpenBrace ∷ token.Mark mark.CloseBrace ∷ xs) ≡ term_at_level atom_level (plain.display Braces tt no_terms) xs
  unfolding marked_term braced_term skip choose
  operand_empty room least xs = rw (operand_mark (suc room) least mark.OpenBrace (token.Mark mark.CloseBrace ∷ xs), opens room) refl

  displayed_read : (room : ℕ) (form : DisplayForm) (close : Mark) (ts : List SourceTerm) (t : SourceTerm) (xs ys : List Token) →
      terms_in next room xs ≡ read_next ts (token.Mark close ∷ ys) → skip close (token.Mark close ∷ ys) ≡ stays true ys → limited_term (plain.display form tt (terms_of ts)) ≡ Some t →
      display_term next form close (suc room) xs ≡ term_at_level atom_level t ys
  unfolding display_term expect choose bind
  displayed_read room form close ts t xs ys e s h = rw (opens room, opened room) (rw e (rw s (rw h refl)))

  pub operand_fields : (room least : ℕ) (ts : List SourceTerm) (t : SourceTerm) (xs ys : List Token) →
      terms_in next room xs ≡ read_next ts (token.Mark mark.CloseSquare ∷ ys) → limited_term (plain.display Brackets tt (terms_of ts)) ≡ Some t →
      operand next (suc room) least (token.Mark mark.OpenSquare ∷ xs) ≡ term_at_level atom_level t ys
  unfolding marked_term skip
  operand_fields room least ts t xs ys e h = operand_mark (suc room) least mark.OpenSquare xs ∙ displayed_read room Brackets mark.CloseSquare ts t xs ys e refl h

  pub operand_braces : (room least : ℕ) (ts : List SourceTerm) (t : SourceTerm) (xs ys : List Token) → skip mark.CloseBrace xs ≡ stays false xs →
      terms_in next room xs ≡ read_next ts (token.Mark mark.CloseBrace ∷ ys) → limited_term (plain.display Braces tt (terms_of ts)) ≡ Some t →
      operand next (suc room) least (token.Mark mark.OpenBrace ∷ xs) ≡ term_at_level atom_level t ys
  unfolding marked_term braced_term choose
  operand_braces room least ts t xs ys s e h =
      rw (operand_mark (suc room) least mark.OpenBrace xs, opens room, s) (displayed_read room Braces mark.CloseBrace ts t xs ys e (skip_same mark.CloseBrace ys) h)

-- a term is read as its operand is, and then goes on
pub read_operand : (depth room least most : ℕ) (t : SourceTerm) (xs ys : List Token) → operand (read depth) room least xs ≡ term_at_level most t ys →
    read (suc depth) room least xs ≡ climb (read depth) height_limit room least most t ys
unfolding read bind
read_operand depth room least most t xs ys e = rw e refl
