use Rattle.std.proofs.Common.{arith}
use Rattle.ioa_tokens.proofs.Numbers.{digits_value_next, digits_value_least}
use Rattle.ioa_tokens.proofs.lexeme.number.Goals as goal

-- the digits so far are too many already
pub returns-then-value-digit : goal.returns-then-value-digit
returns-then-value-digit c = omega (arith, digits_value_least c.args.digits.now c.loop-byte.byte-index c.loop-byte-test.true (c.requires c.loop-byte.byte-index 0 c.loop-byte-test.true))

-- one more digit
pub loop-byte-preserved : goal.loop-byte-preserved
loop-byte-preserved c = omega (arith, digits_value_next c.args.digits.now c.loop-byte.byte-index c.loop-byte-test.true (c.requires c.loop-byte.byte-index 0 c.loop-byte-test.true))
