use Rattle.std.proofs.Common.{arith}
use Rattle.std.proofs.lemmas.Fmt.{length-decimal-le}
use Rattle.ioa_paper.proofs.piece.Piece.add_count.Goals as goal

pub add_digits-requires : goal.add_digits-requires
add_digits-requires c = omega (arith, length-decimal-le 20 c.args.n (omega arith) (omega arith) c.ranges.n.fits)

pub returns-clause-short : goal.returns-clause-short
returns-clause-short c = length-decimal-le 20 c.args.n (omega arith) (omega arith) c.ranges.n.fits
