-- A text is read as it is spelled.
use Rattle.std.proofs.Common.{◌≡◌, List, [], ◌∷◌, refl, arith}
use Rattle.ioa_tokens.specs.declared.token.Token.{Token}
use Rattle.ioa_tokens.specs.declared.token.Token.TheVariants as token
use Rattle.ioa_tokens.specs.declared.mark.Mark.TheVariants as mark
use Rattle.ioa_source.specs.Sides.{SourceDeclaration as Declaration, SourcePlacement as Placement, SourceInvariant as Invariant, SourceText}
use Rattle.ioa_cursor.specs.Reading.{bind, expect, end}
use Rattle.ioa_cursor.proofs.Steps.{read_next}
use Rattle.ioa_cursor.proofs.Follow.{skip_same}
use Rattle.ioa_part_reader.specs.Grammar as grammar
use Rattle.ioa_part_reader.specs.Grammar.{Spells}
use Rattle.ioa_part_reader.specs.Reading as reading
use Rattle.ioa_part_reader.proofs.CompleteDeclarations.{declared_complete, placed_complete, invariants_complete, invariants_level}

abbrev text_with : List Declaration → List Placement → List Invariant → SourceText
text_with ds ps vs = record { declarations = ds; system = ps; invariants = vs }

text_read : (ds : List Declaration) (ps : List Placement) (vs : List Invariant) (xs ys zs : List Token) → reading.all_declarations xs ≡ read_next ds (token.Mark mark.System ∷ ys) →
    reading.all_placements ys ≡ read_next ps zs → reading.all_invariants zs ≡ read_next vs [] → reading.whole xs ≡ read_next (text_with ds ps vs) []
unfolding reading.whole end expect bind
text_read ds ps vs xs ys zs e f i = rw e (rw (skip_same mark.System ys) (rw f (rw i refl)))

-- a text is read as it is spelled
pub whole_complete : (xs : List Token) (p : SourceText) → Spells p xs → reading.whole xs ≡ read_next p []
whole_complete xs _ (grammar.text {declarations = ds} {system = ps} {invariants = vs} {ys = ys} {zs = zs} dd pd vd) =
    text_read ds ps vs xs ys zs (declared_complete ds xs _ dd (omega arith)) (placed_complete ps ys zs pd (invariants_level vs zs vd)) (invariants_complete vs zs vd)
