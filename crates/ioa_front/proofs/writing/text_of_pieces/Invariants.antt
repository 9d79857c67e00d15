use Rattle.std.proofs.Common.{◌≡◌, None, map, take, string_bytes}
use Rattle.std.specs.Option.{option_map}
use Rattle.ioa_front.specs.Pieces.{piece_token}
use Rattle.ioa_front.specs.Printed.{last_token, IsWritten}
use Rattle.ioa_front.proofs.writing.text_of_pieces.Given as goal

-- the pieces gone by are written, and the last of them is kept
abbrev pub invariant-loop-piece : goal.invariant-loop-piece
invariant-loop-piece l = record {
  text_of_pieces : IsWritten (map piece_token (take l.piece-index l.pieces)) (string_bytes l.text);
  last : option_map piece_token l.before ≡ last_token None (map piece_token (take l.piece-index l.pieces));
}
