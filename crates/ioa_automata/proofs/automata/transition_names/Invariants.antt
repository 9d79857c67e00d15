use Rattle.std.proofs.Common.{◌≡◌, ◌++◌, [], map, drop}
use Rattle.ioa_source.specs.TextView.{transition_of}
use Rattle.ioa_types.specs.TypeTables.{are_new}
use Rattle.ioa_automata.proofs.automata.transition_names.Given as goal

-- whether all names differ is whether those that are left do, from each other and from those before; and all names are
-- those before and those that are left
abbrev pub invariant-loop-transition : goal.invariant-loop-transition
invariant-loop-transition l = record {
  new : are_new [] (map (λ x. x.name) (map transition_of l.transitions.items))
      ≡ are_new l.names (map (λ x. x.name) (map transition_of (drop l.transition-index l.transition-items)));
  all : map (λ x. x.name) (map transition_of l.transitions.items)
      ≡ l.names ++ map (λ x. x.name) (map transition_of (drop l.transition-index l.transition-items));
}
