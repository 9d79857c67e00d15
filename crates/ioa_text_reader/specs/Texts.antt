-- Which texts spell a source, and which refusals a text has (profile).
use Rattle.std.specs.Prelude.{◌≡◌, ◌<◌, ◌≤◌, ℕ, List, [], length, map, Bool, true, false, Ok, Err}
use Rattle.ioa_tokens.specs.declared.token.Token.{Token}
use Rattle.ioa_tokens.specs.declared.token.LocatedToken.{LocatedToken}
use Rattle.ioa_tokens.specs.declared.fault.CutFault.TheVariants as cut
use Rattle.ioa_tokens.specs.Tokens.{tokens}
use Rattle.ioa_source.specs.Sides.{SourceText}
use Rattle.ioa_part_reader.specs.Grammar.{Spells}
use Rattle.ioa_text_reader.specs.declared.fault.FrontFault.{FrontFault}
use Rattle.ioa_text_reader.specs.declared.fault.FrontFault.TheVariants.{Empty, BadCharacter, Unexpected}
use Rattle.ioa_text_reader.specs.declared.fault.FrontFault.TheVariants.{NumberTooLarge, TooDeep, TooLong}
use Rattle.ioa_text_reader.specs.declared.fault.FrontFault.TheVariants.{LeftOut, Memory}
use Rattle.ioa_text_reader.specs.declared.parsing.TheConstants.{LENGTH_LIMIT}

-- how many bytes a text has at most
abbrev pub length_limit : ℕ
length_limit = LENGTH_LIMIT

-- tokens without their offsets
abbrev pub bare : List LocatedToken → List Token
bare located = map (λ p. p.token) located

-- the tokens of a text spell a source
abbrev pub TextSpells : SourceText → List ℕ → Type 0
TextSpells p text = (located : List LocatedToken) × (tokens text ≡ Ok located) × Spells p (bare located)

-- some text within the length limit spells a source
abbrev pub IsSource : SourceText → Type 0
IsSource p = (text : List ℕ) × (length text ≤ length_limit) × TextSpells p text

-- a text within the length limit spells no source
abbrev pub SpellsNone : List ℕ → Type 0
SpellsNone text = (length text ≤ length_limit) × ((p : SourceText) → TextSpells p text → ⊥)

-- a refusal that a text has: the length counts first, then the tokens, then the grammar. Any text may be refused as
-- Memory (3).
abbrev pub StandsInText : FrontFault → List ℕ → Type 0
StandsInText TooLong text = length_limit < length text
StandsInText (BadCharacter offset) text = (length text ≤ length_limit) × (tokens text ≡ Err (cut.BadCharacter offset))
StandsInText (NumberTooLarge offset) text =
    (length text ≤ length_limit) × (tokens text ≡ Err (cut.NumberTooLarge offset))
StandsInText Empty text = (length text ≤ length_limit) × (tokens text ≡ Ok [])
StandsInText (Unexpected offset) text = SpellsNone text
StandsInText (TooDeep offset) text = SpellsNone text
StandsInText (LeftOut w offset) text = SpellsNone text
StandsInText Memory text = Unit {0}

-- the refusals that come, with their offsets, for each text that has them
abbrev pub is_exact : FrontFault → Bool
is_exact TooLong = true
is_exact (BadCharacter offset) = true
is_exact (NumberTooLarge offset) = true
is_exact Empty = true
is_exact (Unexpected offset) = false
is_exact (TooDeep offset) = false
is_exact (LeftOut w offset) = false
is_exact Memory = false
