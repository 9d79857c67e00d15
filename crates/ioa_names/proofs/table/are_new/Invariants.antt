use Rattle.std.proofs.Common.{◌≡◌, drop, map}
use Rattle.std.specs.List.{list_all}
use Rattle.ioa_terms.specs.declared.name.Name.TheVariants.{Word}
use Rattle.ioa_names.specs.NameTables.{is_new}
use Rattle.ioa_names.proofs.table.are_new.Given as goal

-- none of those so far is in a table
abbrev pub invariant-loop-word : goal.invariant-loop-word
invariant-loop-word l =
    list_all (is_new l.outer l.constants) (map Word l.words)
    ≡ list_all (is_new l.outer l.constants) (map Word (drop l.word-index l.words))
