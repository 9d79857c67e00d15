-- When each name that a step reads is resolved to the slot of its value (profile).
use Rattle.std.specs.Prelude.{◌≡◌, ℕ, List, [], ◌++◌, Option, Some, None, length, map, All}
use Rattle.std.specs.List.{AllByRecursion}
use Rattle.ioa_terms.specs.PlainTerm.{statements_of}
use Rattle.ioa_terms.specs.Resolved.{IsResolved, AreResolved}
use Rattle.ioa_terms.specs.declared.name.Name.{Name}
use Rattle.ioa_terms.specs.declared.name.Name.TheVariants.{Word}
use Rattle.ioa_source.specs.PlainText.{const, named}
use Rattle.ioa_source.specs.Sides.{CheckedParameter, CheckedSchedule, CheckedTerm, CheckedVariable}
use Rattle.ioa_system.specs.InView.{DeclaredNames, block_own_names, declared_names, names_at, own_names}
use Rattle.ioa_system.specs.InView.{parameter_names, variable_names}
use Rattle.ioa_system.specs.InView.{entry_constant, initial_value, entry_condition, guard_or_effect, block_statement}
use Rattle.ioa_system.specs.Numbered.{AreNumbered}
use Rattle.ioa_system.specs.Parts.{AutomatonParts, Parts, PlainRule}

-- the names of a constant parameter are resolved among these; of another parameter nothing is said
abbrev pub IsResolvedParameter : List Name → CheckedParameter → Type 0
IsResolvedParameter names (const t) = IsResolved t names
IsResolvedParameter names (named d) = Unit {0}

-- the same of each parameter
abbrev pub AreResolvedParameters : List Name → List CheckedParameter → Type 0
AreResolvedParameters names ps = AllByRecursion (IsResolvedParameter names) ps

-- the names of a term, if there is one, are resolved among these names
abbrev pub IsResolvedGuard : Option CheckedTerm → List Name → Type 0
IsResolvedGuard None names = Unit {0}
IsResolvedGuard (Some t) names = IsResolved t names

-- a rule in which the names that its step reads or assigns are resolved: those of constant parameters, of the entry's
-- condition, of guard and of effect. The effect assigns state variables alone. No step reads the arguments of the head.
pub record IsResolvedRule (d : DeclaredNames) (r : PlainRule) : Type 0 where
  pub own : r.own ≡ own_names r.entry.parameters
  pub parameters : AreResolvedParameters (names_at entry_constant d []) r.entry.parameters
  pub condition : IsResolvedGuard r.entry.condition (names_at entry_condition d (own_names r.entry.parameters))
  pub guard : IsResolvedGuard r.transition.pre (names_at guard_or_effect d (own_names r.entry.parameters))
  pub effect : AreResolved r.transition.effect (map Word d.variables)
      (names_at guard_or_effect d (own_names r.entry.parameters))

-- the names of each term are resolved among these names
abbrev pub AreResolvedTerms : List CheckedTerm → List Name → Type 0
AreResolvedTerms ts names = AllByRecursion (λ t. IsResolved t names) ts

-- the names of initial terms are resolved among these
abbrev pub AreResolvedVariables : List Name → List CheckedVariable → Type 0
AreResolvedVariables names vs = AllByRecursion (λ v. IsResolvedGuard v.initial names) vs

-- a schedule block in which each name is resolved, if these names come first in view there: its initial terms read what
-- those of state variables read, and its statements assign its own variables alone
pub record IsResolvedSchedule (d : DeclaredNames) (first : List (List ℕ)) (s : CheckedSchedule) : Type 0 where
  pub initials : AreResolvedVariables (names_at initial_value d []) s.variables
  pub statements : AreResolved s.statements (map Word (variable_names s.variables)) (names_at block_statement d first)

-- an automaton in which each name is resolved that a step, an initial value or the schedule block reads, and in which
-- each firing bears the number of its rule
pub record IsResolvedAutomaton (a : AutomatonParts) : Type 0 where
  pub rules : All (IsResolvedRule (declared_names a)) a.rules
  pub initials : AreResolvedVariables (names_at initial_value (declared_names a) []) a.variables
  pub schedule : IsResolvedSchedule (declared_names a) (block_own_names a) a.schedule
  pub numbered : AreNumbered a.rules (statements_of a.schedule.statements)

-- the same, if these are the names of the state variables and behind them those of the parameters, and these the names
-- that come first in view in the schedule block
pub record IsCheckedAutomaton (names own : List (List ℕ)) (a : AutomatonParts) : Type 0 where
  pub named : names ≡ variable_names a.variables ++ parameter_names a.parameters
  pub block : own ≡ block_own_names a
  pub resolved : IsResolvedAutomaton a

-- a program in which each parameter of the automaton has a value, and each state variable and each variable of the
-- schedule block a first one
pub record IsValuedProgram (p : Parts) : Type 0 where
  pub given : length p.arguments ≡ length p.automaton.parameters
  pub valued : length p.initial ≡ length p.automaton.variables
  pub block : length p.block ≡ length p.automaton.schedule.variables
