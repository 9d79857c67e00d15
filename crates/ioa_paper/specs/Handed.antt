-- What was handed over so far (view).
use Rattle.std.specs.Prelude.{ℕ, ◌<◌, List, [], ◌++◌, length}
use Rattle.ioa_paper.specs.declared.handed.Part.{Part}
use Rattle.ioa_paper.specs.declared.handed.Part.TheVariants.{Nothing, More}

-- the text that came before, and then what came last
abbrev pub part_text : Part → List ℕ
part_text Nothing = []
part_text (More before last) = before.value ++ last.value.items

-- what comes last is not empty
abbrev pub IsPart : Part → Type 0
IsPart Nothing = Unit {0}
IsPart (More before last) = 0 < length last.value.items
