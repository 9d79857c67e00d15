use Rattle.std.proofs.Common.{arith, length-append}
use Rattle.std.proofs.lemmas.Fmt.{length-decimal-le, length_signed_le}
use Rattle.std.specs.Fmt.{decimal}
use Rattle.ioa_paper.proofs.piece.Piece.add_number.Goals as goal

pub add_digits-requires : goal.add_digits-requires
add_digits-requires c =
    omega (arith, length-decimal-le 19 c.unsigned_abs.result (omega arith) (omega arith) (omega arith))

pub add-requires : goal.add-requires
add-requires c =
    let digits = length-decimal-le 19 c.unsigned_abs.result (omega arith) (omega arith) (omega arith) in
    rw (c.add_digits.ensures) (omega (arith, digits, length-append (decimal c.unsigned_abs.result) c.args.self.now))

pub returns-then-n-lt0-clause-short : goal.returns-then-n-lt0-clause-short
returns-then-n-lt0-clause-short c =
    length_signed_le 19 c.args.n (omega (arith, c.ranges.n.sfits)) (omega (arith, c.ranges.n.sfits))

pub returns-else-n-lt0-clause-short : goal.returns-else-n-lt0-clause-short
returns-else-n-lt0-clause-short c =
    length_signed_le 19 c.args.n (omega (arith, c.ranges.n.sfits)) (omega (arith, c.ranges.n.sfits))
