-- What is told of further faults of a text (profile).
use Rattle.std.specs.Prelude.{◌≡◌, ◌++◌, ◌==◌, ◌||◌, ℕ, Bool, true, if◌then◌else◌, List, [], Some, codes}
use Rattle.std.specs.Fmt.{decimal}
use lib.Pointwise.{pointwise}
use Rattle.ioa_refusals.specs.declared.refusal.Refusal.{Refusal}
use Rattle.ioa_walk.specs.declared.span.Span.{Span}
use Rattle.ioa_walk.specs.Places.{IsSpanIn}
use Rattle.ioa_explain.specs.Pages.{TellsRefused}
use Rattle.ioa_explain.specs.Verdicts.{IsChecksRefusal}

-- whether a byte is a blank, or the one that stood there
unfoldable pub is_left : ℕ → ℕ → Bool
is_left byte other = (byte == 32) || (byte == other)

-- whether a text is another one with blanks in the place of some bytes
abbrev pub is_without : List ℕ → List ℕ → Bool
is_without left text = pointwise is_left left text

-- a further fault of a text: with blanks in the place of some of its bytes, which leave lines and places as they are,
-- the check refuses it so in this part, and that is a part of the text
pub record IsFault (text : List ℕ) (r : Refusal) (part : Span) : Type 0 where
  pub left : List ℕ
  pub without : is_without left text ≡ true
  pub index : ℕ
  pub said : IsChecksRefusal r index (Some part) left
  pub within : IsSpanIn text part

-- what is told of a further fault: its number, its name, its place and the line there, a declaration, and what is asked
-- for
pub record TellsFault (name text page : List ℕ) : Type 0 where
  pub refusal : Refusal
  pub part : Span
  pub fault : IsFault text refusal part
  pub index : ℕ
  pub told : TellsRefused name text refusal index (Some part) page

-- what is told of several, one after another
pub data AreFaults (name text : List ℕ) : List ℕ → Type 0 where
  no_faults : AreFaults name text []
  one_more : (before page : List ℕ) → AreFaults name text before → TellsFault name text page
      → AreFaults name text (before ++ page)

-- a line that says how many are not told, if there are any
abbrev pub hidden_line : ℕ → List ℕ
hidden_line hidden =
    if hidden == 0 then [] else codes "not told: " ++ (decimal hidden ++ codes " more\n")

-- what is told of further faults
pub record TellsFurther (name text page : List ℕ) : Type 0 where
  pub faults : List ℕ
  pub are : AreFaults name text faults
  pub hidden : ℕ
  pub told : page ≡ faults ++ hidden_line hidden
