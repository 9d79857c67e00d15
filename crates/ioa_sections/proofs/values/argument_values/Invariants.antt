use Rattle.std.proofs.Common.{◌≡◌, ◌++◌, Ok, map, drop}
use Rattle.ioa_values.specs.Outcome.{and_then}
use Rattle.ioa_terms.specs.Bindings.{names_of}
use Rattle.ioa_terms.specs.View.{term_of}
use Rattle.ioa_system.specs.ResolvedPrograms.{AreResolvedTerms}
use Rattle.ioa_sections.specs.Nodes.{argument_values}
use Rattle.ioa_sections.proofs.values.argument_values.Given as goal

-- all values are those so far and then those of the arguments that are left
abbrev pub invariant-loop-position : goal.invariant-loop-position
invariant-loop-position l = record {
  resolved : AreResolvedTerms (map term_of (drop l.position l.arguments.items)) (names_of l.env);
  all : argument_values l.env l.shapes.items (map term_of l.arguments.items)
      ≡ and_then (argument_values l.env (drop l.position l.shapes.items) (map term_of (drop l.position l.arguments.items))) (λ vs. Ok (l.values.items ++ vs));
}
