use Rattle.std.proofs.Common.{◌≡◌, ◌++◌, map, drop}
use Rattle.ioa_source.specs.TextView.{declaration_of}
use Rattle.ioa_front.specs.Spelling.{joined_spelling, declaration_spelling}
use Rattle.ioa_front.proofs.declarations.put_declarations.Given as goal

-- what is put so far and the declarations that are left are all of them
abbrev pub invariant-loop-declaration : goal.invariant-loop-declaration
invariant-loop-declaration l =
    l.out ++ joined_spelling declaration_spelling (map declaration_of (drop l.declaration-index l.declarations)) ≡ l.initial.out ++ joined_spelling declaration_spelling (map declaration_of l.declarations)
