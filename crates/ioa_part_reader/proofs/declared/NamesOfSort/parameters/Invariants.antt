use Rattle.std.proofs.Common.{◌≡◌, ◌++◌, map, drop}
use Rattle.ioa_source.specs.PlainText.{named}
use Rattle.ioa_terms.specs.SortView.{sort_of}
use Rattle.ioa_source.specs.TextView.{parameter_of}
use Rattle.ioa_part_reader.specs.Grammar.{declare}
use Rattle.ioa_part_reader.proofs.declared.NamesOfSort.parameters.Given as goal

abbrev pub invariant-loop-name : goal.invariant-loop-name
invariant-loop-name l = map parameter_of l.parameters.items ++ map named (declare (sort_of l.self.sort) (drop l.name-index l.name-items)) ≡ map named (declare (sort_of l.self.sort) l.self.names.items)
