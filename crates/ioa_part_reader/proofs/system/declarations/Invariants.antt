use Rattle.std.proofs.Common.{◌≡◌, ◌-◌, map}
use Rattle.ioa_source.specs.TextView.{declaration_of}
use Rattle.ioa_cursor.specs.Reading.{collect, begins_with}
use Rattle.ioa_part_reader.specs.Reading.{at_declaration, declaration, all_declarations}
use Rattle.ioa_part_reader.proofs.system.declarations.Given as goal

abbrev pub invariant-loop-turn : goal.invariant-loop-turn
invariant-loop-turn l = collect (begins_with at_declaration) (declaration) (l._turn-end - l._turn) (map declaration_of l.declarations.items) l.tokens ≡ all_declarations l.fn.tokens
