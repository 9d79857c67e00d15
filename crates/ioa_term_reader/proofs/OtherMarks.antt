-- The marks that no clause of a definition names.
use Rattle.std.proofs.Common.{◌≡◌, ℕ, List, Option, refl}
use Rattle.std.specs.Option.{option_map}
use Rattle.ioa_tokens.specs.declared.token.Token.{Token}
use Rattle.ioa_tokens.specs.declared.mark.Mark.{Mark}
use Rattle.ioa_tokens.specs.declared.mark.Mark.TheVariants as mark
use Rattle.ioa_source.specs.Sides.{SourceTerm}
use Rattle.ioa_term_reader.specs.Levels.{infix_of}
use Rattle.ioa_term_reader.specs.Reading.{after_of, operator_term, marked_term}
use Rattle.ioa_term_reader.specs.declared.after.After.TheVariants.{Infix}

-- behind any other mark, a term goes on as behind an operator
pub after_other : (m : Mark) → (m ≡ mark.Dot → ⊥) → (m ≡ mark.OpenSquare → ⊥) → after_of m ≡ option_map Infix (infix_of m)
after_other mark.Dot a b = absurd (a refl)
after_other mark.OpenSquare a b = absurd (b refl)
after_other _ a b = refl

-- any other mark begins a term as an operator does
pub marked_other : (next : ℕ → ℕ → List Token → Option (SourceTerm × List Token)) (room least : ℕ) (m : Mark) (xs : List Token) →
    (m ≡ mark.True → ⊥) → (m ≡ mark.False → ⊥) → (m ≡ mark.OpenRound → ⊥) → (m ≡ mark.OpenBrace → ⊥) → (m ≡ mark.OpenSquare → ⊥) →
    marked_term next room least m xs ≡ operator_term next room least m xs
unfolding marked_term
marked_other next room least mark.True xs a b c d e = absurd (a refl)
marked_other next room least mark.False xs a b c d e = absurd (b refl)
marked_other next room least mark.OpenRound xs a b c d e = absurd (c refl)
marked_other next room least mark.OpenBrace xs a b c d e = absurd (d refl)
marked_other next room least mark.OpenSquare xs a b c d e = absurd (e refl)
marked_other next room least _ xs a b c d e = refl
