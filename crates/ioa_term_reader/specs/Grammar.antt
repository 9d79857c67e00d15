-- The grammar of terms (profile). `SpellsAt room l t xs ys` says that the tokens `xs` are a spelling of `t` and after
-- it `ys`: `room` is how many brackets more may be opened, and outside brackets no operator is looser than level `l`.
use Rattle.std.specs.Prelude.{◌≡◌, ◌≤◌, ℕ, suc, ℤ, Bool, true, false, if◌then◌else◌, codes, List, ◌∷◌}
use Rattle.std.specs.Prelude.{Option, Some, None}
use Rattle.ioa_tokens.specs.declared.token.Token.{Token}
use Rattle.ioa_tokens.specs.declared.token.Token.TheVariants as token
use Rattle.ioa_tokens.specs.declared.mark.Mark.{Mark}
use Rattle.ioa_tokens.specs.declared.mark.Mark.TheVariants as mark
use Rattle.ioa_operators.specs.declared.operator.UnaryOperator.{UnaryOperator}
use Rattle.ioa_operators.specs.declared.operator.BinaryOperator.{BinaryOperator}
use Rattle.ioa_operators.specs.declared.operator.BinaryOperator.TheVariants.{At}
use Rattle.ioa_operators.specs.declared.shape.DisplayForm.TheVariants.{Braces, Brackets}
use Rattle.ioa_terms.specs.declared.name.Name.TheVariants.{Word, Variable, Queue}
use Rattle.ioa_terms.specs.Bindings.{same_word}
use Rattle.ioa_terms.specs.PlainTerm as plain
use Rattle.ioa_terms.specs.PlainTerm.{no_terms, term}
use Rattle.ioa_source.specs.Sides.{SourceTerm, SourceTerms}
use Rattle.ioa_source.specs.Heights.{height, height_limit}
use Rattle.ioa_term_reader.specs.Levels.{prefix_level, prefix_of, infix_of, level, left_level, right_level}
use Rattle.ioa_term_reader.specs.Levels.{postfix_level, atom_level}
use Rattle.ioa_term_reader.specs.declared.reading.TheConstants.{BRACKET_LIMIT}

-- how many brackets may be open at once
abbrev pub bracket_limit : ℕ
bracket_limit = BRACKET_LIMIT

-- the word that names what waits on a channel
abbrev pub queue_word : List ℕ
queue_word = codes "queue"

-- whether a word is that one
abbrev pub is_queue_word : List ℕ → Bool
is_queue_word w = same_word w queue_word

-- the numbers that two terms are, if both are numbers
abbrev pub both_numbers : SourceTerm → SourceTerm → Option (ℤ × ℤ)
both_numbers (plain.number i) (plain.number j) = Some (i, j)
both_numbers t u = None

-- the numbers that terms are, if they are two numbers
abbrev pub two_numbers : SourceTerms → Option (ℤ × ℤ)
two_numbers (term t (term u no_terms)) = both_numbers t u
two_numbers ts = None

-- the name of the queue between two nodes if two numbers are given, otherwise a call
abbrev pub queue_or_call : List ℕ → SourceTerms → Option (ℤ × ℤ) → SourceTerm
queue_or_call w ts (Some (i, j)) = plain.name (Queue i j) tt
queue_or_call w ts None = plain.call w tt ts

-- a word with terms in brackets behind it: `queue` of two numbers is a name, all else a call
unfoldable pub called : List ℕ → SourceTerms → SourceTerm
called w ts = if is_queue_word w then queue_or_call w ts (two_numbers ts) else plain.call w tt ts

mutual
  pub data SpellsAt : ℕ → ℕ → SourceTerm → List Token → List Token → Type 0 where
    numeral : {room : ℕ} {n : ℤ} {ys : List Token} → SpellsAt room atom_level (plain.number n) (token.Number n ∷ ys) ys
    yes : {room : ℕ} {ys : List Token} → SpellsAt room atom_level (plain.truth true) (token.Mark mark.True ∷ ys) ys
    no : {room : ℕ} {ys : List Token} → SpellsAt room atom_level (plain.truth false) (token.Mark mark.False ∷ ys) ys
    word : {room : ℕ} {w : List ℕ} {ys : List Token} →
        SpellsAt room atom_level (plain.name (Word w) tt) (token.Word w ∷ ys) ys
    -- Word @ Number
    at_node : {room : ℕ} {w : List ℕ} {k : ℤ} {ys : List Token} →
        SpellsAt room atom_level (plain.name (Variable w k) tt)
        (token.Word w ∷ token.Mark mark.AtSign ∷ token.Number k ∷ ys) ys
    -- Word ( Term {, Term} )
    call : {room : ℕ} {w : List ℕ} {ts : SourceTerms} {xs ys : List Token} →
        SpellsTerms room ts xs (token.Mark mark.CloseRound ∷ ys) →
        SpellsAt (suc room) atom_level (called w ts) (token.Word w ∷ token.Mark mark.OpenRound ∷ xs) ys
    -- ( Term ), which leaves no node in the tree
    brackets : {room : ℕ} {t : SourceTerm} {xs ys : List Token} →
        SpellsAt room 1 t xs (token.Mark mark.CloseRound ∷ ys) →
        SpellsAt (suc room) atom_level t (token.Mark mark.OpenRound ∷ xs) ys
    -- {}
    empty : {room : ℕ} {ys : List Token} →
        SpellsAt (suc room) atom_level (plain.display Braces tt no_terms)
        (token.Mark mark.OpenBrace ∷ token.Mark mark.CloseBrace ∷ ys) ys
    -- { Term {, Term} }
    braces : {room : ℕ} {ts : SourceTerms} {xs ys : List Token} →
        SpellsTerms room ts xs (token.Mark mark.CloseBrace ∷ ys) →
        SpellsAt (suc room) atom_level (plain.display Braces tt ts) (token.Mark mark.OpenBrace ∷ xs) ys
    -- [ Term {, Term} ]
    fields : {room : ℕ} {ts : SourceTerms} {xs ys : List Token} →
        SpellsTerms room ts xs (token.Mark mark.CloseSquare ∷ ys) →
        SpellsAt (suc room) atom_level (plain.display Brackets tt ts) (token.Mark mark.OpenSquare ∷ xs) ys
    -- Term . Word
    field : {room : ℕ} {t : SourceTerm} {w : List ℕ} {xs ys : List Token} →
        SpellsAt room postfix_level t xs (token.Mark mark.Dot ∷ token.Word w ∷ ys) →
        SpellsAt room postfix_level (plain.field t w tt) xs ys
    -- Term [ Term ]
    key : {room : ℕ} {t u : SourceTerm} {xs ys zs : List Token} →
        SpellsAt (suc room) postfix_level t xs (token.Mark mark.OpenSquare ∷ ys) →
        SpellsAt room 1 u ys (token.Mark mark.CloseSquare ∷ zs) →
        SpellsAt (suc room) postfix_level (plain.two At t u) xs zs
    -- an operator before a term of its own level
    before : {room : ℕ} {t : SourceTerm} {xs ys : List Token} (m : Mark) (op : UnaryOperator) → prefix_of m ≡ Some op →
        SpellsAt room (prefix_level op) t xs ys →
        SpellsAt room (prefix_level op) (plain.one op t) (token.Mark m ∷ xs) ys
    -- an operator between two terms, by its level's grouping
    between : {room : ℕ} {t u : SourceTerm} {xs ys zs : List Token} (m : Mark) (op : BinaryOperator) →
        infix_of m ≡ Some op →
        SpellsAt room (left_level op) t xs (token.Mark m ∷ ys) → SpellsAt room (right_level op) u ys zs →
        SpellsAt room (level op) (plain.two op t u) xs zs
    -- what a tighter level spells, a looser one spells too
    tighter : {room l : ℕ} {t : SourceTerm} {xs ys : List Token} →
        SpellsAt room (suc l) t xs ys → SpellsAt room l t xs ys

  -- Term {, Term}
  pub data SpellsTerms : ℕ → SourceTerms → List Token → List Token → Type 0 where
    single : {room : ℕ} {t : SourceTerm} {xs ys : List Token} →
        SpellsAt room 1 t xs ys → SpellsTerms room (term t no_terms) xs ys
    followed : {room : ℕ} {t : SourceTerm} {ts : SourceTerms} {xs ys zs : List Token} →
        SpellsAt room 1 t xs (token.Mark mark.Comma ∷ ys) →
        SpellsTerms room ts ys zs → SpellsTerms room (term t ts) xs zs

-- a term within the limits: it opens at most `room` brackets at once, and is not too high
pub record SpellsTerm (room : ℕ) (t : SourceTerm) (xs ys : List Token) : Type 0 where
  pub spelled : SpellsAt room 1 t xs ys
  pub low : height t ≤ height_limit
