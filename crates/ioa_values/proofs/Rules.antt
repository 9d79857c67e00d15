-- What the proofs of the operations on sets and maps cite, one set of lemmas for each function.
use Rattle.ioa_values.proofs.Ascending.{set_of_ascends}
use Rattle.ioa_values.proofs.Halves.{set_of_few, few_ascend, set_of_halves}

pub ruleset set_of_rules = (set_of_few, few_ascend, set_of_halves, set_of_ascends)
