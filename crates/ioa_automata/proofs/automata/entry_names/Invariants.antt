use Rattle.std.proofs.Common.{◌≡◌, ◌++◌, [], map, drop}
use Rattle.ioa_source.specs.TextView.{entry_of}
use Rattle.ioa_types.specs.TypeTables.{are_new}
use Rattle.ioa_automata.proofs.automata.entry_names.Given as goal

-- whether all names differ is whether those that are left do, from each other and from those before; and all names are
-- those before and those that are left
abbrev pub invariant-loop-entry : goal.invariant-loop-entry
invariant-loop-entry l = record {
  new : are_new [] (map (λ x. x.name) (map entry_of l.entries.items))
      ≡ are_new l.names (map (λ x. x.name) (map entry_of (drop l.entry-index l.entry-items)));
  all : map (λ x. x.name) (map entry_of l.entries.items)
      ≡ l.names ++ map (λ x. x.name) (map entry_of (drop l.entry-index l.entry-items));
}
