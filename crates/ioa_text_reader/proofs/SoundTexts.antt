-- What is read of a text is spelled.
use Rattle.std.proofs.Common.{◌≡◌, List, [], ◌∷◌, Some, refl}
use Rattle.std.proofs.lemmas.Option.{some_pair_parts}
use Rattle.ioa_tokens.specs.declared.token.Token.{Token}
use Rattle.ioa_tokens.specs.declared.mark.Mark.TheVariants as mark
use Rattle.ioa_source.specs.Sides.{SourceText}
use Rattle.ioa_cursor.specs.Reading.{end}
use Rattle.ioa_cursor.proofs.Steps.{read_next, bind_cases, expected_taken}
use Rattle.ioa_part_reader.specs.Grammar as grammar
use Rattle.ioa_part_reader.specs.Grammar.{Spells}
use Rattle.ioa_part_reader.specs.Reading as reading
use Rattle.ioa_part_reader.proofs.SoundDeclarations.{declared_sound, placed_sound, invariants_sound}

ended_taken : (xs : List Token) (r : Unit {0} × List Token) → end xs ≡ Some r → xs ≡ []
unfolding end
ended_taken [] r e = refl
ended_taken (x ∷ xs) r e = absurd cc

-- what is read of a whole text is spelled
pub whole_sound : (xs ys : List Token) (x : SourceText) → reading.whole xs ≡ read_next x ys → Spells x xs
unfolding reading.whole
whole_sound xs ys x e =
    let P : Type 0 = Spells x xs in
    bind_cases P e (λ d d_is e1. bind_cases P e1 (λ s s_is e2. bind_cases P e2 (λ q q_is e3. bind_cases P e3 (λ v v_is e4. bind_cases P e4 (λ n n_is done.
    let p = some_pair_parts _ _ _ _ done in
    let before = rw (expected_taken mark.System d.1 s s_is) at (declared_sound xs d.1 d.0 d_is) in
    let invariants = rw (ended_taken v.1 n n_is) at (invariants_sound q.1 v.1 v.0 v_is) in
    rw (← p.0) (grammar.text before (placed_sound s.1 q.1 q.0 q_is) invariants))))))
