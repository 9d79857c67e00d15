-- Short pieces of a text, made from their ends (form).
use Rattle.std.specs.Prelude.{ℕ, ◌-◌, List, take, drop}
use Rattle.ioa_paper.specs.declared.piece.TheConstants.{LENGTH}

-- the bytes from the start to the place where each piece ends
abbrev pub piece_text : ℕ → List ℕ → List ℕ
piece_text start bytes = take (LENGTH - start) (drop start bytes)
