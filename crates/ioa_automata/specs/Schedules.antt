-- The schedule block of an automaton with slots and shapes (profile).
use Rattle.std.specs.Prelude.{ℕ, ◌+◌, ◌++◌, List, Result, Ok, length, take}
use Rattle.ioa_values.specs.Outcome.{and_then}
use Rattle.ioa_terms.specs.PlainTerm.{statements_of}
use Rattle.ioa_terms.specs.Sorted.{NameShapes}
use Rattle.ioa_source.specs.Sides.{SourceSchedule, CheckedSchedule, CheckedStatement, CheckedVariable}
use Rattle.ioa_system.specs.Parts.{PlainRule}
use Rattle.ioa_refusals.specs.declared.refusal.Refusal.{Refusal}
use Rattle.ioa_sorts.specs.StatementSites.{PlainStatementSite, block_site}
use Rattle.ioa_sorts.specs.Statements.{all_ok, statement_sortings}
use Rattle.ioa_automata.specs.NamesInView.{block_names_or}
use Rattle.ioa_automata.specs.Parts.{variables_at}
use Rattle.ioa_automata.specs.Rules.{PlainSurroundings}

-- where the statements of a block are, of so many variables, which alone reads these names: they come first, then the
-- state variables, and then the automaton's parameters and the text's constants
abbrev pub site_in : PlainSurroundings → NameShapes → ℕ → List PlainRule → PlainStatementSite
site_in s own count rules =
    block_site (take count (own ++ (s.outer ++ s.constants)))
    (take (length own + s.variables) (own ++ (s.outer ++ s.constants))) (own ++ (s.outer ++ s.constants)) rules

-- a block of these variables and statements
abbrev pub sorted_schedule : List CheckedVariable → List CheckedStatement → CheckedSchedule
sorted_schedule vs ss = record { variables = vs; statements = ss }

-- a schedule block: its variables, whose initial terms read the automaton's parameters, and then its statements
unfoldable pub schedule_at : PlainSurroundings → List PlainRule → SourceSchedule → Result CheckedSchedule Refusal
schedule_at s rules b = and_then (variables_at s.types (s.given ++ s.constants) b.variables)
    (λ vs. and_then (block_names_or s.outer s.constants vs rules)
    (λ own. and_then (all_ok (statement_sortings (site_in s own (length vs) rules) (statements_of b.statements)))
    (λ ss. Ok (sorted_schedule vs ss))))
