-- Pieces to which parts are added in front.
use Rattle.std.proofs.Common.{◌≡◌, ℕ, ◌+◌, ◌-◌, ◌≤◌, ◌++◌, List, length, take, drop, arith, rules}
use Rattle.std.proofs.Math.Seq.{take-append-add, take-take}
use Rattle.ioa_paper.specs.Pieces.{piece_text}
use Rattle.ioa_paper.specs.declared.piece.TheConstants.{LENGTH}

-- a part is written right in front of a piece
pub added : (start end : ℕ) (part new old : List ℕ) → start + length part ≡ end → end ≤ LENGTH
    → drop start new ≡ part ++ drop end old → piece_text start new ≡ part ++ piece_text end old
added start end part new old ends within written =
    let room : LENGTH - start ≡ length part + (LENGTH - end) = omega arith in
    rw (written, room) (take-append-add part (drop end old) (LENGTH - end))

-- of bytes that begin with a piece, what is behind it is cut off
pub cut : (start end k : ℕ) (bytes before : List ℕ) → end ≡ length before + (LENGTH - start) → LENGTH - start ≤ k
    → take end (before ++ take k (drop start bytes)) ≡ before ++ piece_text start bytes
cut start end k bytes before ends long =
    rw (
      ends,
      take-append-add before (take k (drop start bytes)) (LENGTH - start),
      take-take (LENGTH - start) k (drop start bytes),
    ) (search rules)
