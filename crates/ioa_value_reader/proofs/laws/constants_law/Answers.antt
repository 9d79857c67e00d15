use Rattle.ioa_value_reader.proofs.NamedConstants.{named_is, named_once}
use Rattle.ioa_value_reader.proofs.laws.constants_law.Goals as goal

pub returns : goal.returns
returns c = record {
  named = named_is;
  once = named_once;
}
