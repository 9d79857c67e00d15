use Rattle.ioa_tokens.proofs.LeastAmount.{least_by_front, not_least, last_is_digit}
use Rattle.ioa_tokens.proofs.line.is_least_amount.Goals as goal

-- the last digit is an 8
pub returns-then-last-eq-LEAST_LAST : goal.returns-then-last-eq-LEAST_LAST
returns-then-last-eq-LEAST_LAST c =
    let parts = c.in-Some.ensures.cases in
    rw (c.eq.ensures, parts.0) (least_by_front c.in-Some.front.now c.in-Some.last.now c.number.result c.if-last-eq-LEAST_LAST.true c.number.ensures)

-- it is another digit
pub returns-else-last-eq-LEAST_LAST : goal.returns-else-last-eq-LEAST_LAST
returns-else-last-eq-LEAST_LAST c =
    let parts = c.in-Some.ensures.cases in
    rw parts.0 (not_least c.in-Some.front.now c.in-Some.last.now (last_is_digit c.in-Some.front.now c.in-Some.last.now c.args.digits.now parts.0 c.requires) c.if-last-eq-LEAST_LAST.false)
