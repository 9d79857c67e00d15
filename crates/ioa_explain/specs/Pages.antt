-- What is told of a refused text (profile).
use Rattle.std.specs.Prelude.{◌≡◌, ◌++◌, ◌==◌, ℕ, if◌then◌else◌, List, [], length, Option, Ok, codes, drop, take}
use Rattle.std.specs.Fmt.{decimal}
use Rattle.ioa_refusals.specs.declared.refusal.Refusal.{Refusal}
use Rattle.ioa_refusals.specs.Refusals.{refusal_text}
use Rattle.ioa_text_reader.specs.declared.fault.FrontFault.{FrontFault}
use Rattle.ioa_text_reader.specs.declared.fault.FrontFault.TheVariants as front
use Rattle.ioa_text_reader.specs.Texts.{length_limit}
use Rattle.ioa_tokens.specs.declared.token.LocatedToken.{LocatedToken}
use Rattle.ioa_tokens.specs.Tokens.{tokens}
use Rattle.ioa_place.specs.declared.place.Place.{Place}
use Rattle.ioa_place.specs.Found.{IsDeclarationAt}
use Rattle.ioa_place.specs.Lines.{place_at}
use Rattle.ioa_place.specs.Pictures.{picture}
use Rattle.ioa_walk.specs.declared.span.Span.{Span}
use Rattle.ioa_explain.specs.Whereabouts.{refused_offset, whereabouts}
use Rattle.ioa_explain.specs.Sentences.{front_title, reading_rule, rule_text}

-- the first line: the name of the text, the line and the column of a place, and what is there
abbrev pub title : List ℕ → Place → List ℕ → List ℕ
title name place what =
    name ++ (codes ":" ++ (decimal place.line ++ (codes ":" ++ (decimal place.column
    ++ (codes ": " ++ (what ++ codes "\n"))))))

-- a line of details
abbrev pub detail : List ℕ → List ℕ
detail text = codes "      " ++ (text ++ codes "\n")

-- where the reader refuses a text: at the beginning if it has no token, and where the limit is passed if it is too long
abbrev pub front_offset : FrontFault → ℕ
front_offset front.Empty = 0
front_offset (front.BadCharacter offset) = offset
front_offset (front.Unexpected offset) = offset
front_offset (front.NumberTooLarge offset) = offset
front_offset (front.TooDeep offset) = offset
front_offset front.TooLong = length_limit
front_offset (front.LeftOut w offset) = offset
front_offset front.Memory = 0

-- a line of details, if there are any
abbrev pub detail_if_any : List ℕ → List ℕ
detail_if_any text = if length text == 0 then [] else detail text

-- what stands from an offset up to an end
abbrev pub part_of : List ℕ → ℕ → ℕ → List ℕ
part_of text offset end = drop offset (take end text)

-- what is told of a part of the text that is found
abbrev pub found_words : List ℕ → List ℕ
found_words text = codes "found `" ++ (text ++ codes "`")

-- a line that tells what is found, or that the text ends
abbrev pub found_line : List ℕ → List ℕ
found_line text = if length text == 0 then detail (codes "The text ends here.") else detail (found_words text)

-- what is told of the place where the reader refuses a text, that ends there; of a character that begins no token, and
-- of what could stand there, is told more
abbrev pub told_of_place : FrontFault → List ℕ → ℕ → List ℕ → List ℕ
told_of_place (front.BadCharacter offset) text end more = detail_if_any more
told_of_place (front.Unexpected offset) text end more = found_line (part_of text offset end) ++ detail_if_any more
told_of_place (front.NumberTooLarge offset) text end more = found_line (part_of text offset end)
told_of_place (front.LeftOut w offset) text end more = found_line (part_of text offset end)
told_of_place front.Empty text end more = []
told_of_place (front.TooDeep offset) text end more = []
told_of_place front.TooLong text end more = []
told_of_place front.Memory text end more = []

-- what is told of a text that the reader refuses: the number, the name and the place of the refusal, the part of the
-- text that begins there, what is found, and what is asked for
abbrev pub unread_text : List ℕ → List ℕ → FrontFault → ℕ → List ℕ → List ℕ
unread_text name text e end more =
    title name (place_at text (front_offset e)) (front_title e)
    ++ (picture text (front_offset e) end ++ (told_of_place e text end more ++ detail_if_any (reading_rule e)))

pub record TellsUnread (name text : List ℕ) (e : FrontFault) (page : List ℕ) : Type 0 where
  pub end : ℕ
  pub more : List ℕ
  pub told : page ≡ unread_text name text e end more

-- a refusal of the check, and where it is
abbrev pub refusal_in : Refusal → List ℕ → List ℕ
refusal_in r whereabouts = refusal_text r ++ (codes ", in " ++ whereabouts)

-- what is told of a text that the check refuses, in a part of a declaration, with words that say what is found there
abbrev pub refused_text : List ℕ → List ℕ → Refusal → (offset end : ℕ) → List ℕ → List ℕ → List ℕ
refused_text name text r offset end whereabouts words =
    title name (place_at text offset) (refusal_in r whereabouts)
    ++ (picture text offset end ++ (detail (rule_text r) ++ detail_if_any words))

-- what is told of a text that the check refuses: the number and the name of the refusal, the declaration of an index, a
-- part of the text, and what is asked for. The part begins with the one that was found, or else with the name of the
-- declaration. Words may say what is found there.
pub record TellsRefused (name text : List ℕ) (r : Refusal) (index : ℕ) (part : Option Span) (page : List ℕ)
    : Type 0 where
  pub offset : ℕ
  pub end : ℕ
  pub where_it_is : List ℕ
  pub words : List ℕ
  pub told : page ≡ refused_text name text r offset end where_it_is words
  pub named : (located : List LocatedToken) (position : ℕ) → tokens text ≡ Ok located →
      IsDeclarationAt located index position → where_it_is ≡ whereabouts text located position
  pub placed : (located : List LocatedToken) (position : ℕ) → tokens text ≡ Ok located →
      IsDeclarationAt located index position → offset ≡ refused_offset (drop position located) part
