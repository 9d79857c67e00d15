use Rattle.std.proofs.Common.{◌≡◌, ◌++◌, map, drop}
use Rattle.ioa_terms.specs.SortView.{sort_of}
use Rattle.ioa_source.specs.TextView.{declared_of}
use Rattle.ioa_part_reader.specs.Grammar.{declare}
use Rattle.ioa_part_reader.proofs.declared.NamesOfSort.to_declared.Given as goal

abbrev pub invariant-loop-name : goal.invariant-loop-name
invariant-loop-name l = map declared_of l.declared.items ++ declare (sort_of l.self.sort) (drop l.name-index l.name-items) ≡ declare (sort_of l.self.sort) l.self.names.items
