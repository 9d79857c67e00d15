use Rattle.std.proofs.Common.{◌≡◌, map, drop}
use Rattle.ioa_source.specs.TextView.{declaration_of}
use Rattle.ioa_types.specs.TextTypes.{no_types}
use Rattle.ioa_sections.specs.Declarations.{types_at}
use Rattle.ioa_sections.proofs.declarations.types_of.Given as goal

-- all types are those so far with those of the declarations that are left
abbrev pub invariant-loop-index : goal.invariant-loop-index
invariant-loop-index l =
    types_at 0 no_types (map declaration_of l.declarations.items)
    ≡ types_at l.index l.types (map declaration_of (drop l.index l.declarations.items))
