-- The code's names of one sort as values of the grammar (view).
use Rattle.std.specs.Prelude.{List}
use Rattle.ioa_source.specs.Sides.{SourceDeclared}
use Rattle.ioa_terms.specs.SortView.{sort_of}
use Rattle.ioa_part_reader.specs.Grammar.{declare}
use Rattle.ioa_part_reader.specs.declared.declared.NamesOfSort.{NamesOfSort}

-- each name with the sort
abbrev pub group_of : NamesOfSort → List SourceDeclared
group_of g = declare (sort_of g.sort) g.names.items
