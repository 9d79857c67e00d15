use Rattle.std.proofs.Common.{◌≡◌, [], All, drop}
use Rattle.ioa_terms.specs.Bindings.{names_of}
use Rattle.ioa_system.specs.InView.{declared_names, entry_constant, given_bindings, names_at}
use Rattle.ioa_system.specs.ResolvedPrograms.{IsResolvedRule}
use Rattle.ioa_sections.specs.Nodes.{entries_on}
use Rattle.ioa_sections.proofs.nodes.check_entries.Given as goal

-- the rules that are left decide
abbrev pub invariant-loop-rule : goal.invariant-loop-rule
invariant-loop-rule l = record {
  read : l.env ≡ given_bindings l.automaton l.arguments.items;
  names : names_of l.env ≡ names_at entry_constant (declared_names l.automaton) [];
  resolved : All (IsResolvedRule (declared_names l.automaton)) l.rule-items;
  all : entries_on (given_bindings l.automaton l.arguments.items) l.number l.automaton.rules ≡ entries_on (given_bindings l.automaton l.arguments.items) l.number (drop l.rule-index l.rule-items);
}
