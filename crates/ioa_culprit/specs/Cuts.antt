-- Texts that are cut into tokens (profile).
use Rattle.std.specs.Prelude.{◌≡◌, ℕ, List, Ok}
use Rattle.ioa_tokens.specs.declared.token.LocatedToken.{LocatedToken}
use Rattle.ioa_tokens.specs.Tokens.{tokens}

-- the tokens of a text, if it can be cut
abbrev pub AreTokensOf : List ℕ → List LocatedToken → Type 0
AreTokensOf text ts = (located : List LocatedToken) → tokens text ≡ Ok located → ts ≡ located
