use Rattle.ioa_sort_rules.proofs.Rules.{unary_is, unary_from, left_is, right_is, left_tells, right_tells, one_is, two_left_is, two_right_is, update_is}
use Rattle.ioa_sort_rules.proofs.laws.sort_rules_law.Goals as goal

pub returns-clause-unary : goal.returns-clause-unary
returns-clause-unary c = λ op x s. (unary_is op x s, unary_from)

pub returns-clause-left : goal.returns-clause-left
returns-clause-left c = left_is

pub returns-clause-right : goal.returns-clause-right
returns-clause-right c = right_is

pub returns-clause-left_tells : goal.returns-clause-left_tells
returns-clause-left_tells c = λ op x y s. left_tells

pub returns-clause-right_tells : goal.returns-clause-right_tells
returns-clause-right_tells c = λ op x y s. right_tells

pub returns-clause-of_one : goal.returns-clause-of_one
returns-clause-of_one c = one_is

pub returns-clause-of_left : goal.returns-clause-of_left
returns-clause-of_left c = two_left_is

pub returns-clause-of_right : goal.returns-clause-of_right
returns-clause-of_right c = two_right_is

pub returns-clause-of_map : goal.returns-clause-of_map
returns-clause-of_map c = update_is
