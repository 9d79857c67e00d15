use Rattle.ioa_types.proofs.Meant.{no_text_types}
use Rattle.ioa_types.proofs.text_types.TextTypes.new.Goals as goal

pub invariant_of-result : goal.invariant_of-result
invariant_of-result c = rw (c.new.ensures, c.new-2.ensures) no_text_types
