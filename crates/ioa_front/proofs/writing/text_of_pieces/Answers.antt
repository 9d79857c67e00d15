use Rattle.std.proofs.Common.{[], None, map, take, get_or, sym}
use Rattle.ioa_front.specs.Pieces.{piece_token}
use Rattle.ioa_front.specs.declared.piece.Piece.{Piece}
use Rattle.ioa_front.specs.declared.piece.Piece.TheVariants.{Word}
use Rattle.ioa_front.proofs.Writings.{tokens_more, written_more, last_more}
use Rattle.ioa_front.proofs.writing.text_of_pieces.Goals as goal

pub loop-piece-preserved : goal.loop-piece-preserved
loop-piece-preserved c =
    let none : Piece = Word (record { ref_ptr = (0, 0); now = [] }) in
    let piece = get_or c.args.pieces.now c.loop-piece.piece-index none in
    let more = tokens_more c.args.pieces.now c.loop-piece.piece-index none c.loop-piece-test.true in
    let next = written_more _ _ (c.gap.result, piece_token piece) c.loop-piece.invariant.text_of_pieces (rw c.loop-piece.invariant.last at c.gap.ensures) in
    record {
      text_of_pieces = rw (more, c.in_ok-push_piece.ensures) next;
      last = rw more (sym (last_more None (map piece_token (take c.loop-piece.piece-index c.args.pieces.now)) (piece_token piece)));
    }
