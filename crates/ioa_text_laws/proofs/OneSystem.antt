-- A text describes at most one system.
use Rattle.std.proofs.Common.{◌≡◌, List, ℕ, Ok, sym, subst}
use Rattle.std.specs.Prelude.{Result}
use Rattle.ioa_tokens.specs.declared.token.LocatedToken.{LocatedToken}
use Rattle.ioa_tokens.specs.declared.token.Token.{Token}
use Rattle.ioa_tokens.specs.Tokens.{tokens}
use Rattle.ioa_source.specs.Sides.{SourceText}
use Rattle.ioa_system.specs.Systems.{SystemParts}
use Rattle.ioa_part_reader.specs.Grammar.{Spells}
use Rattle.ioa_text_reader.specs.Texts.{TextSpells, bare}
use Rattle.ioa_check.specs.Checking.{system_of}
use Rattle.ioa_check.specs.Systems.{IsSystemOf}

-- tokens spell one source, and the system of a source is found
abbrev pub OneSource : Type 0
OneSource = (p q : SourceText) (xs : List Token) → Spells p xs → Spells q xs → p ≡ q

abbrev pub FoundSystem : Type 0
FoundSystem = (x : SourceText) (s : SystemParts) → IsSystemOf x s → system_of x ≡ Ok s

-- two outcomes that are one
same_outcome : {T F : Type 0} (r : Result T F) (a b : T) → r ≡ Ok a → r ≡ Ok b → a ≡ b
same_outcome r a b h k = cc

one_text : OneSource → (p q : SourceText) (text : List ℕ) → TextSpells p text → TextSpells q text → p ≡ q
one_text law p q text g h =
    let same : h.0 ≡ g.0 = same_outcome (tokens text) h.0 g.0 h.1 g.1 in
    law p q (bare g.0) g.2 (subst (λ (located : List LocatedToken). Spells q (bare located)) same h.2)

pub one_system : OneSource → FoundSystem → (p q : SourceText) (text : List ℕ) (s t : SystemParts) → TextSpells p text → TextSpells q text → IsSystemOf p s → IsSystemOf q t → s ≡ t
one_system law found p q text s t g h m n =
    let same : q ≡ p = sym (one_text law p q text g h) in
    same_outcome (system_of p) s t (found p s m) (subst (λ (x : SourceText). system_of x ≡ Ok t) same (found q t n))
