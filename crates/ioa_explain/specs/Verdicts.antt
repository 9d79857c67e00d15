-- What the reader and the check say of a text (profile).
use Rattle.std.specs.Prelude.{◌≡◌, ◌≢◌, ◌≤◌, ◌⊎◌, ⊤, ℕ, List, length, true, Option, Some, None, Err, IfSome}
use Rattle.ioa_text_reader.specs.declared.fault.FrontFault.{FrontFault}
use Rattle.ioa_text_reader.specs.declared.fault.FrontFault.TheVariants as front
use Rattle.ioa_text_reader.specs.Texts.{TextSpells, StandsInText, is_exact, length_limit}
use Rattle.ioa_refusals.specs.declared.refusal.Refusal.{Refusal}
use Rattle.ioa_sections.specs.declared.fault.CheckFault.{CheckFault}
use Rattle.ioa_sections.specs.declared.fault.CheckFault.TheVariants as fault
use Rattle.ioa_check.specs.Checking.{system_of}
use Rattle.ioa_check.specs.Systems.{IsSystemOf, SaysNoSystem}
use Rattle.ioa_system.specs.Systems.{SystemParts}
use Rattle.ioa_source.specs.Sides.{SourceText}
use Rattle.ioa_walk.specs.declared.span.Span.{Span}
use Rattle.ioa_walk.specs.Places.{IsSpanIn}
use Rattle.ioa_tokens.specs.declared.token.LocatedToken.{LocatedToken}
use Rattle.ioa_culprit.specs.Cuts.{AreTokensOf}
use Rattle.ioa_explain.specs.declared.verdict.Verdict.{Verdict}
use Rattle.ioa_explain.specs.declared.verdict.Verdict.TheVariants.{Accepted, Unread, Refused}

-- a text describes a system: it is not too long, its tokens spell a source, and the system is that source's
pub record DescribesSystem (text : List ℕ) : Type 0 where
  pub short : length text ≤ length_limit
  pub source : SourceText
  pub spelled : TextSpells source text
  pub system : SystemParts
  pub meant : IsSystemOf source system

-- what a refusal of the reader says; want of memory says nothing
abbrev pub unread_verdict : FrontFault → Option Verdict
unread_verdict front.Empty = Some (Unread front.Empty)
unread_verdict (front.BadCharacter offset) = Some (Unread (front.BadCharacter offset))
unread_verdict (front.Unexpected offset) = Some (Unread (front.Unexpected offset))
unread_verdict (front.NumberTooLarge offset) = Some (Unread (front.NumberTooLarge offset))
unread_verdict (front.TooDeep offset) = Some (Unread (front.TooDeep offset))
unread_verdict front.TooLong = Some (Unread front.TooLong)
unread_verdict (front.LeftOut w offset) = Some (Unread (front.LeftOut w offset))
unread_verdict front.Memory = None

-- a fault of the check of a source: it is its refusal, and there is no system of it; want of memory says nothing
pub record IsFaultOf (e : CheckFault) (p : SourceText) : Type 0 where
  pub exact : (e ≡ fault.Memory) ⊎ (system_of p ≡ Err e)
  pub none : SaysNoSystem e p

-- a refusal of the check of a source: it is its refusal, and there is no system of it
pub record IsRefusalOf (r : Refusal) (index : ℕ) (p : SourceText) : Type 0 where
  pub exact : system_of p ≡ Err (fault.Refused r index)
  pub none : SaysNoSystem (fault.Refused r index) p

-- what the check says of the source that a text spells: that there is a system of it; or its refusal, that there is
-- none, and a part of the text, if one is found
abbrev pub IsVerdictOf : Verdict → SourceText → List ℕ → Type 0
IsVerdictOf Accepted p text = (s : SystemParts) × IsSystemOf p s
IsVerdictOf (Unread e) p text = ⊥
IsVerdictOf (Refused r index part) p text = IsRefusalOf r index p × IfSome part (IsSpanIn text)

-- a refusal of the reader: it stands in the text, and if the text has one that always comes, it is that one
pub record IsReadersRefusal (e : FrontFault) (text : List ℕ) : Type 0 where
  pub no_want : e ≢ front.Memory
  pub stands : StandsInText e text
  pub exact : (x : FrontFault) → is_exact x ≡ true → StandsInText x text → e ≡ x

-- a refusal of the check: that of the source that a text spells, which is not too long, with the index of its
-- declaration; and a part of the text, if one is found
pub record IsChecksRefusal (r : Refusal) (index : ℕ) (part : Option Span) (text : List ℕ) : Type 0 where
  pub short : length text ≤ length_limit
  pub source : SourceText
  pub spelled : TextSpells source text
  pub exact : system_of source ≡ Err (fault.Refused r index)
  pub within : IfSome part (IsSpanIn text)

-- what a verdict says: that the text describes a system, a refusal of the reader, or one of the check
abbrev pub IsVerdictOn : Verdict → List ℕ → Type 0
IsVerdictOn Accepted text = DescribesSystem text
IsVerdictOn (Unread e) text = IsReadersRefusal e text
IsVerdictOn (Refused r index part) text = IsChecksRefusal r index part text

-- a text that is not accepted describes no system
abbrev pub SaysWhether : Verdict → List ℕ → Type 0
SaysWhether Accepted text = ⊤
SaysWhether (Unread e) text = DescribesSystem text → ⊥
SaysWhether (Refused r index part) text = DescribesSystem text → ⊥

-- the tokens that come with a verdict, if it is a refusal of the check
abbrev pub HasTokens : Verdict → List ℕ → List LocatedToken → Type 0
HasTokens Accepted text ts = ⊤
HasTokens (Unread e) text ts = ⊤
HasTokens (Refused r index part) text ts = AreTokensOf text ts
