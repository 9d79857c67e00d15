-- Which declaration it is, in words for people (profile).
use Rattle.std.specs.Prelude.{ℕ, ◌++◌, Bool, true, false, if◌then◌else◌, List, [], ◌∷◌, Option, Some, None, codes, drop}
use Rattle.std.specs.Fmt.{decimal}
use Rattle.ioa_tokens.specs.declared.mark.Mark.{Mark}
use Rattle.ioa_tokens.specs.declared.mark.Mark.TheVariants as mark
use Rattle.ioa_tokens.specs.declared.token.Token.{Token}
use Rattle.ioa_tokens.specs.declared.token.Token.TheVariants as token
use Rattle.ioa_tokens.specs.declared.token.LocatedToken.{LocatedToken}
use Rattle.ioa_place.specs.Lines.{place_at}
use Rattle.ioa_walk.specs.declared.span.Span.{Span}

-- what a declaration declares that begins with a reserved word
abbrev pub kind_of_mark : Mark → List ℕ
kind_of_mark mark.Type = codes "type"
kind_of_mark mark.Automaton = codes "automaton"
kind_of_mark mark.System = codes "the system section"
kind_of_mark mark.Invariant = codes "invariant"
kind_of_mark _ = []

abbrev pub kind_of : Token → List ℕ
kind_of (token.Mark m) = kind_of_mark m
kind_of (token.Word w) = []
kind_of (token.Number n) = []
kind_of (token.LeftOut w) = []

abbrev pub kind_at : List LocatedToken → List ℕ
kind_at [] = []
kind_at (first ∷ more) = kind_of first.token

-- its name, behind a blank, if the second token is one
abbrev pub name_of : Token → List ℕ
name_of (token.Word w) = codes " " ++ w
name_of (token.Mark m) = []
name_of (token.Number n) = []
name_of (token.LeftOut w) = []

abbrev pub name_at : List LocatedToken → List ℕ
name_at [] = []
name_at (first ∷ []) = []
name_at (first ∷ second ∷ more) = name_of second.token

-- the line of its first token
abbrev pub line_at : List ℕ → List LocatedToken → List ℕ
line_at text [] = []
line_at text (first ∷ more) = codes " (line " ++ (decimal (place_at text first.offset).line ++ codes ")")

-- the declaration whose first token is at a position: what it declares, its name, and its line
abbrev pub whereabouts : List ℕ → List LocatedToken → ℕ → List ℕ
whereabouts text tokens position =
    let rest = drop position tokens in kind_at rest ++ (name_at rest ++ line_at text rest)

-- whether a token is a name
abbrev pub is_name : Token → Bool
is_name (token.Word w) = true
is_name (token.Mark m) = false
is_name (token.Number n) = false
is_name (token.LeftOut w) = false

-- where its name stands, or its first token if it has no name
abbrev pub name_offset : List LocatedToken → ℕ
name_offset [] = 0
name_offset (first ∷ []) = first.offset
name_offset (first ∷ second ∷ more) = if is_name second.token then second.offset else first.offset

-- where a declaration is refused that begins with the first of these tokens: in the part that was found, or else at its
-- name
abbrev pub refused_offset : List LocatedToken → Option Span → ℕ
refused_offset tokens (Some part) = part.offset
refused_offset tokens None = name_offset tokens
