-- A text printed with gaps that keep its tokens apart spells what it was printed from.
use Rattle.std.proofs.Common.{ℕ, List, Ok}
use Rattle.std.specs.Prelude.{map, Result, Err, IfOk}
use Rattle.std.proofs.Math.Logic.{∥∥₁_map}
use Rattle.ioa_tokens.proofs.Goods.{tokens_good}
use Rattle.ioa_tokens.proofs.Writings.{tokens_written_line}
use Rattle.ioa_source.specs.Sides.{SourceText}
use Rattle.ioa_text_reader.specs.Texts.{TextSpells, IsSource}
use Rattle.ioa_text_reader.proofs.Parsed.{truly_spelled}
use Rattle.ioa_front.specs.Printed.{IsPrinted}
use Rattle.ioa_front.specs.Spelling.{text_spelling}
use Rattle.ioa_front.proofs.PrintedTexts.{text_spelled, text_good}

-- what a text spells that spelled it once is spelled by what is printed of it
text_printed : (p : SourceText) (text out : List ℕ) → TextSpells p text → IsPrinted (text_spelling p) out → TextSpells p out
text_printed p text out found laid =
    let xs = map (λ t. t.token) found.0 in
    let good = text_good p xs found.2 (tokens_good text found.0 found.1) in
    let again = tokens_written_line laid.0 (rw (laid.2) good) laid.3 in
    (again.0, rw (laid.1) (again.1), rw (again.2, laid.2) (text_spelled p xs found.2))

-- what is printed of a source spells it
pub answer_spelled : {S E : Type 0} (bytes : S → List ℕ) (p : SourceText) → ∥ IsSource p ∥₁ → (r : Result S E) → IfOk r (λ s. IsPrinted (text_spelling p) (bytes s)) →
    IfOk r (λ s. TextSpells p (bytes s))
answer_spelled bytes p source (Ok s) laid = truly_spelled p (bytes s) (∥∥₁_map source (λ found. text_printed p found.0 (bytes s) found.2 laid))
answer_spelled bytes p source (Err e) laid = tt
