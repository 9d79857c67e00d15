-- What the terms of a node may give, and what their parts may (profile): no value of a wrong sort. A negative number
-- where the sort says Nat is no wrong sort: an assignment of it, or an argument, is no step.
use Rattle.std.specs.Prelude.{◌≡◌, ℕ, List, [], Option, Some, None, IfOk, slice_get}
use Rattle.std.specs.List.{AllByRecursion, AllZip, Contains}
use Rattle.std.specs.Option.{option_and_then, option_map}
use Rattle.ioa_values.specs.Data.{Data}
use Rattle.ioa_operators.specs.Shapes.{PlainShape, truths, maps, wide_shape, with_field}
use Rattle.ioa_operators.specs.declared.shape.Shape.{Shape}
use Rattle.ioa_terms.specs.declared.callee.Callee.{Callee}
use Rattle.ioa_terms.specs.declared.name.Name.TheVariants.{Word}
use Rattle.ioa_terms.specs.Bindings.{Bindings, lookup, names_of}
use Rattle.ioa_terms.specs.Meaning.{value}
use Rattle.ioa_terms.specs.Choices.{Source, Left, left}
use Rattle.ioa_terms.specs.Performance.{after_one, assignment_value, target_name, target_shape}
use Rattle.ioa_terms.specs.Performance.{updated_map, value_chosen, with_chosen}
use Rattle.ioa_terms.specs.PlainTerm.{PlainTerm, PlainTarget, variable, at_key, at_field}
use Rattle.ioa_terms.specs.PlainTerm.{PlainStatement, PlainStatements, PlainArms}
use Rattle.ioa_terms.specs.PlainTerm.{PlainChoice, assign, branch, loop, fire, choosing}
use Rattle.ioa_terms.specs.PlainTerm.{no_statements, statement, no_arms, arm, statements_of}
use Rattle.ioa_terms.specs.Sorted.{field_shape, shape_in_terms, shape_named}
use Rattle.ioa_actions.specs.ActionParts.{action_arguments}
use Rattle.ioa_actions.specs.declared.action.Action.{Action}
use Rattle.ioa_source.specs.PlainText.{const, named}
use Rattle.ioa_source.specs.Sides.{CheckedFiring, CheckedParameter, CheckedTerm, CheckedVariable}
use Rattle.ioa_system.specs.InView.{Site, entry_constant, entry_condition, guard_or_effect, block_statement}
use Rattle.ioa_system.specs.InView.{block_bindings, declared_names, given_bindings, names_at, own_names}
use Rattle.ioa_system.specs.InView.{block_own_names}
use Rattle.ioa_system.specs.Parts.{PlainRule, message_shape}
use Rattle.ioa_system.specs.ResolvedPrograms.{IsResolvedAutomaton}
use Rattle.ioa_automata.specs.NamesInView.{variable_shapes}
use Rattle.ioa_sections.specs.Meant.{HasValue}
use Rattle.ioa_transitions.specs.NodeState.{NodeState}
use Rattle.ioa_transitions.specs.NodeStep.{IsOfSort, rule_bindings}
use Rattle.ioa_compose.specs.declared.configuration.Conf.{Conf}
use Rattle.ioa_compose.specs.declared.configuration.Conf.TheVariants.{Node, Queue}
use Rattle.ioa_run_laws.specs.Parts.{HasShapeThroughout, HasValueOf, IsOfShape}
use Rattle.ioa_run_laws.specs.Shaped.{FitsVariable, FitInboxes}

-- a guard or a condition, if it is written, is a truth value throughout
abbrev pub IsTruthValued : Option CheckedTerm → Bindings → Type 0
IsTruthValued None e = Unit {0}
IsTruthValued (Some t) e = HasShapeThroughout e t truths

-- what a target takes, in which naturals count as integers: what its variable has; what a map has, if the key has the
-- shape of the map's keys throughout; or what a field has
abbrev pub TargetTakes : Bindings → PlainTarget ℕ Callee Shape → PlainShape → Type 0
TargetTakes e (variable x at d) s = s ≡ shape_in_terms d
TargetTakes e (at_key x at d k) s =
    (keys : PlainShape) × (shape_in_terms d ≡ maps keys s) × HasShapeThroughout e k keys
TargetTakes e (at_field x at d w) s = option_map shape_in_terms (field_shape w d) ≡ Some s

-- an assignment: its variable has a value of the declared shape, and its term has the shape throughout that the target
-- takes; what it gives the variable, if anything, has the variable's shape, but for negative numbers
pub record IsAssignmentWellSorted (e : Bindings) (p : PlainTarget ℕ Callee Shape) (t : PlainTerm ℕ Callee Shape)
    : Type 0 where
  pub before : HasValueOf e (target_name p) (target_shape p)
  pub shape : PlainShape
  pub target : TargetTakes e p shape
  pub assigned : HasShapeThroughout e t shape
  pub given : IsOfShape (wide_shape (target_shape p)) (assignment_value p t e)

-- what a choice gives its variable with a chosen value: the value; the map with it at the key; or the tuple with it as
-- the field
abbrev pub given_by_choice : PlainTarget ℕ Callee Shape → Data → Bindings → Option Data
given_by_choice (variable x at d) v e = Some v
given_by_choice (at_key x at d k) v e =
    option_and_then (λ i. option_and_then (updated_map i v) (lookup (Word x) e)) (value k e)
given_by_choice (at_field x at d w) v e = option_and_then (with_field d w v) (lookup (Word x) e)

-- a value that a choice takes: the condition that reads it, under its name, is a truth value throughout; what it gives
-- the variable, if anything, has the variable's shape, but for negative numbers
pub record IsTakenWellSorted (e : Bindings) (c : PlainChoice ℕ Callee Shape) (v : Data) : Type 0 where
  pub condition : HasShapeThroughout (with_chosen c.name v e) c.condition truths
  pub given : IsOfShape (wide_shape (target_shape c.target)) (given_by_choice c.target v e)

-- a choice: its variable has a value of the declared shape, the target takes the choice's shape, in which naturals
-- count as integers, and the term that yields a value has that shape throughout; so it is with what it takes, if it
-- takes a value
pub record IsChoiceWellSorted (c : PlainChoice ℕ Callee Shape) (l : Left) : Type 0 where
  pub before : HasValueOf l.bindings (target_name c.target) (target_shape c.target)
  pub target : TargetTakes l.bindings c.target (shape_in_terms c.shape)
  pub yields : HasShapeThroughout l.bindings c.yields (shape_in_terms c.shape)
  pub taken : IfOk (value_chosen c.shape (value c.yields l.bindings) l.source)
      (λ v. IsTakenWellSorted l.bindings c v.value)

abbrev mutual
  -- what a statement assigns or chooses, the key included, has its shape throughout; no effect has a `while` or a
  -- `fire`
  pub IsWellSorted : PlainStatement ℕ Callee Shape → Left → Type 0
  IsWellSorted (assign p t) l = IsAssignmentWellSorted l.bindings p t
  IsWellSorted (branch arms rest) l = AreArmsWellSorted arms l × AreWellSorted rest l
  IsWellSorted (loop t body) l = ⊥
  IsWellSorted (fire f) l = ⊥
  IsWellSorted (choosing c) l = IsChoiceWellSorted c l

  -- what an arm tests is a truth value throughout, and its statements are well sorted
  pub AreArmsWellSorted : PlainArms ℕ Callee Shape → Left → Type 0
  AreArmsWellSorted no_arms l = Unit {0}
  AreArmsWellSorted (arm t body more) l =
      HasShapeThroughout l.bindings t truths × AreWellSorted body l × AreArmsWellSorted more l

  -- statements in order, each in what the one before left
  pub AreWellSorted : PlainStatements ℕ Callee Shape → Left → Type 0
  AreWellSorted no_statements l = Unit {0}
  AreWellSorted (statement s more) l = IsWellSorted s l × IfOk (after_one s l) (AreWellSorted more)

-- what a rule evaluates when a node takes an action: it reads the names in view at each site, each with its value; the
-- entry's condition, the guard and the effect are well sorted, wherever choices would take their values
pub record IsRuleWellSorted (c : NodeState) (a : Action) (r : PlainRule) : Type 0 where
  pub names : (site : Site) → names_of (rule_bindings site r a c)
      ≡ names_at site (declared_names c.program.automaton) (own_names r.entry.parameters)
  pub condition : IsTruthValued r.entry.condition (rule_bindings entry_condition r a c)
  pub guard : IsTruthValued r.transition.pre (rule_bindings guard_or_effect r a c)
  pub effect : (source : Source) → AreWellSorted (statements_of r.transition.effect)
      (left (rule_bindings guard_or_effect r a c) source)

-- what the schedule block of a node reads, if it sees these inboxes, and its own variables have these values
abbrev pub block_read : NodeState → (inboxes own : List Data) → Bindings
block_read c inboxes own = block_bindings c.program.automaton c.program.arguments c.variables inboxes own

-- a firing is of the one of these rules that has its number and its name, and has an argument for each of the rule's,
-- which has the shape of the rule's argument throughout; in it naturals count as integers
pub record IsFiringWellSorted (rules : List PlainRule) (f : CheckedFiring) (e : Bindings) : Type 0 where
  pub rule : PlainRule
  pub numbered : slice_get rules f.rule ≡ Some rule
  pub name : rule.entry.name ≡ f.action
  pub arguments : AllZip (λ s t. HasShapeThroughout e t (shape_in_terms s)) rule.shapes f.arguments

-- what is assigned is one of a block's variables, or a part of one, and beside it is the variable's declared shape
abbrev pub IsOwnTarget : List CheckedVariable → PlainTarget ℕ Callee Shape → Type 0
IsOwnTarget own p = shape_named (target_name p) (variable_shapes own) ≡ Some (target_shape p)

abbrev mutual
  -- a statement of a schedule block of these variables, whose firings are of these rules, and each statement within it:
  -- an assignment is to one of the variables, what it assigns, the key included, has its shape throughout, and what is
  -- tested is a truth value throughout; no block has a choice
  pub IsBlockWellSorted : List CheckedVariable → List PlainRule → PlainStatement ℕ Callee Shape → Bindings → Type 0
  IsBlockWellSorted own rules (assign p t) e = IsOwnTarget own p × IsAssignmentWellSorted e p t
  IsBlockWellSorted own rules (branch arms rest) e =
      AreBlockArmsWellSorted own rules arms e × AreBlockWellSorted own rules rest e
  IsBlockWellSorted own rules (loop t body) e = HasShapeThroughout e t truths × AreBlockWellSorted own rules body e
  IsBlockWellSorted own rules (fire f) e = IsFiringWellSorted rules f e
  IsBlockWellSorted own rules (choosing c) e = ⊥

  -- the same of arms
  pub AreBlockArmsWellSorted : List CheckedVariable → List PlainRule → PlainArms ℕ Callee Shape → Bindings → Type 0
  AreBlockArmsWellSorted own rules no_arms e = Unit {0}
  AreBlockArmsWellSorted own rules (arm t body more) e =
      HasShapeThroughout e t truths × AreBlockWellSorted own rules body e × AreBlockArmsWellSorted own rules more e

  -- and of statements, each on the same bindings
  pub AreBlockWellSorted : List CheckedVariable → List PlainRule → PlainStatements ℕ Callee Shape → Bindings → Type 0
  AreBlockWellSorted own rules no_statements e = Unit {0}
  AreBlockWellSorted own rules (statement s more) e =
      IsBlockWellSorted own rules s e × AreBlockWellSorted own rules more e

-- a parameter of an entry, if it is a constant, has the shape of the argument at its position throughout, among
-- bindings that it reads
abbrev pub IsConstantSorted : Bindings → CheckedParameter → PlainShape → Type 0
IsConstantSorted e (const t) s = HasShapeThroughout e t s
IsConstantSorted e (named d) s = Unit {0}

-- each constant of an entry has a value, and its shape throughout
abbrev pub AreConstantsValued : Bindings → PlainRule → Type 0
AreConstantsValued e r =
    AllByRecursion (HasValue e) r.entry.parameters × AllZip (IsConstantSorted e) r.entry.parameters r.shapes

-- a node meets no name without a slot, and no value of a wrong sort: each name of its automaton has its slot among the
-- names in view, which is what is read there; the constants of entries have values; and what is evaluated by an action
-- whose arguments are of their sorts, or by a statement of the schedule block, is well sorted
pub record IsNodeWellSorted (c : NodeState) : Type 0 where
  pub slots : IsResolvedAutomaton c.program.automaton
  pub given_names : names_of (given_bindings c.program.automaton c.program.arguments)
      ≡ names_at entry_constant (declared_names c.program.automaton) []
  pub constants : AllByRecursion
      (AreConstantsValued (given_bindings c.program.automaton c.program.arguments))
      c.program.automaton.rules
  pub rules : (a : Action) (r : PlainRule) → Contains c.program.automaton.rules r
      → AllZip IsOfSort r.entry.parameters (action_arguments a) → IsRuleWellSorted c a r
  -- the variables of the schedule block have first values of their shapes; whatever values of their shapes they have
  -- later, and whatever inboxes are seen, its names are those in view, and its statements are well sorted
  pub block_starts : AllZip FitsVariable c.program.automaton.schedule.variables c.program.block
  pub block_names : (inboxes own : List Data) → FitInboxes (message_shape c.program.automaton.rules) inboxes
      → AllZip FitsVariable c.program.automaton.schedule.variables own
      → names_of (block_read c inboxes own) ≡ names_at block_statement (declared_names c.program.automaton)
      (block_own_names c.program.automaton)
  pub block : (inboxes own : List Data) → FitInboxes (message_shape c.program.automaton.rules) inboxes
      → AllZip FitsVariable c.program.automaton.schedule.variables own
      → AreBlockWellSorted c.program.automaton.schedule.variables c.program.automaton.rules
      (statements_of c.program.automaton.schedule.statements) (block_read c inboxes own)

-- the same of each node among configurations
abbrev pub IsConfWellSorted : Conf → Type 0
IsConfWellSorted (Node c) = IsNodeWellSorted c
IsConfWellSorted (Queue q) = Unit {0}

abbrev pub AreConfsWellSorted : List Conf → Type 0
AreConfsWellSorted cs = AllByRecursion IsConfWellSorted cs
