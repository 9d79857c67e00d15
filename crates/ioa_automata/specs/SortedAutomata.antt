-- An automaton of a text with slots and shapes (profile), in words that know nothing of the order of refusals.
use Rattle.std.specs.Prelude.{◌≡◌, ◌<◌, ◌+◌, ◌⊎◌, ℕ, false, List, [], ◌∷◌, ◌++◌, Option, Some, None}
use Rattle.std.specs.Prelude.{map, take, length, slice_get}
use Rattle.std.specs.List.{AllByRecursion, AllZip, Contains, IsDistinct}
use Rattle.ioa_operators.specs.Shapes.{PlainShape, truths, integers, naturals}
use Rattle.ioa_operators.specs.ShapeHeight.{height}
use Rattle.ioa_terms.specs.declared.tree.Kind.TheVariants.{Input, Output}
use Rattle.ioa_terms.specs.Bindings.{same_word}
use Rattle.ioa_terms.specs.declared.name.Name.TheVariants.{Word}
use Rattle.ioa_terms.specs.PlainTerm.{name}
use Rattle.ioa_actions.specs.ActionParts.{send_name, receive_name}
use Rattle.ioa_terms.specs.Sorted.{NameShapes, shape_in_terms}
use Rattle.ioa_source.specs.Erasure.{erase_declared}
use Rattle.ioa_source.specs.PlainText.{const, named}
use Rattle.ioa_source.specs.Sides.{SourceTerm, SourceDeclared, SourceParameter, SourceEntry, SourceVariable}
use Rattle.ioa_source.specs.Sides.{SourceTransition, SourceSchedule, SourceAutomaton}
use Rattle.ioa_source.specs.Sides.{CheckedTerm, CheckedDeclared, CheckedParameter, CheckedVariable}
use Rattle.ioa_source.specs.Sides.{CheckedTransition, CheckedSchedule}
use Rattle.ioa_system.specs.InView.{Site, in_view, entry_constant, initial_value, entry_condition, guard_or_effect}
use Rattle.ioa_system.specs.InView.{block_statement, own_names}
use Rattle.ioa_system.specs.Parts.{AutomatonParts, PlainRule}
use Rattle.ioa_sorts.specs.Determined.{is_display}
use Rattle.ioa_sorts.specs.SortedTerms.{IsTermOf}
use Rattle.ioa_sorts.specs.SortedStatements.{IsStatementOf}
use Rattle.ioa_sorts.specs.StatementSites.{PlainStatementSite, block_site, effect_site}
use Rattle.ioa_types.specs.declared.height.TheConstants.{SHAPE_LIMIT}
use Rattle.ioa_types.specs.Meanings.{Means}
use Rattle.ioa_names.specs.NameTables.{AreDistinct, words}
use Rattle.ioa_types.specs.TextTypes.{PlainTextTypes}
use Rattle.ioa_types.specs.TypeTables.{TypeTable}
use Rattle.ioa_automata.specs.NamesInView.{parameter_shapes, variable_shapes, own_shapes, block_own_shapes}
use Rattle.ioa_automata.specs.Parts.{PlainSortedEntry}

-- a declared name has the shape that its sort means
pub record IsDeclaredOf (types : TypeTable) (d : SourceDeclared) (c : CheckedDeclared) : Type 0 where
  pub same : erase_declared c ≡ d
  pub means : Means types d.sort c.shape
  pub low : height c.shape < SHAPE_LIMIT

-- a term that is no display has a shape of its own
pub record IsOwnTermOf (names : NameShapes) (t : SourceTerm) (c : CheckedTerm) (s : PlainShape) : Type 0 where
  pub term : IsTermOf names t c s
  pub own : is_display t ≡ false

-- a state variable has an initial term, which has the variable's shape
abbrev pub IsInitialOf : NameShapes → PlainShape → Option SourceTerm → Option CheckedTerm → Type 0
IsInitialOf names s None None = ⊥
IsInitialOf names s None (Some c) = ⊥
IsInitialOf names s (Some t) None = ⊥
IsInitialOf names s (Some t) (Some c) = IsTermOf names t c (shape_in_terms s)

pub record IsVariableOf (types : TypeTable) (names : NameShapes) (v : SourceVariable) (c : CheckedVariable)
    : Type 0 where
  pub declared : IsDeclaredOf types v.declared c.declared
  pub initial : IsInitialOf names c.declared.shape v.initial c.initial

-- a condition, if there is one, is a truth value
abbrev pub IsConditionOf : NameShapes → Option SourceTerm → Option CheckedTerm → Type 0
IsConditionOf names None None = Unit {0}
IsConditionOf names None (Some c) = ⊥
IsConditionOf names (Some t) None = ⊥
IsConditionOf names (Some t) (Some c) = IsTermOf names t c truths

-- a parameter of an entry, and the shape of the arguments that it takes
abbrev pub IsParameterOf : TypeTable → NameShapes → SourceParameter → CheckedParameter → PlainShape → Type 0
IsParameterOf types names (const t) (const c) s = IsOwnTermOf names t c s
IsParameterOf types names (const t) (named c) s = ⊥
IsParameterOf types names (named d) (const c) s = ⊥
IsParameterOf types names (named d) (named c) s = IsDeclaredOf types d c × (s ≡ c.shape)

abbrev pub AreParametersOf : TypeTable → NameShapes → List SourceParameter → List CheckedParameter
    → List PlainShape → Type 0
AreParametersOf types names [] [] [] = Unit {0}
AreParametersOf types names [] [] (s ∷ ss) = ⊥
AreParametersOf types names [] (c ∷ cs) ss = ⊥
AreParametersOf types names (p ∷ ps) [] ss = ⊥
AreParametersOf types names (p ∷ ps) (c ∷ cs) [] = ⊥
AreParametersOf types names (p ∷ ps) (c ∷ cs) (s ∷ ss) =
    IsParameterOf types names p c s × AreParametersOf types names ps cs ss

-- an argument of a transition's head repeats a parameter: it is the same term as a constant, and the same name
-- elsewhere
abbrev pub Repeats : SourceParameter → SourceTerm → Type 0
Repeats (const t) u = u ≡ t
Repeats (named d) u = u ≡ name (Word d.name) tt

-- a shape is that of `Int` or `Nat`
abbrev pub IsNumber : PlainShape → Type 0
IsNumber s = (s ≡ integers) ⊎ (s ≡ naturals)

-- the arguments are a message and the numbers of two nodes
pub record AreMessageShapes (ss : List PlainShape) : Type 0 where
  pub message : PlainShape
  pub from : PlainShape
  pub to : PlainShape
  pub same : ss ≡ message ∷ from ∷ to ∷ []
  pub numbers : IsNumber from × IsNumber to

-- the parameter at a position is a constant
abbrev pub IsConstantAt : List CheckedParameter → ℕ → Type 0
IsConstantAt ps k = (t : CheckedTerm) × (slice_get ps k ≡ Some (const t))

-- how `send` is declared (profile): an output whose second argument is constant
pub record IsSend (e : PlainSortedEntry) : Type 0 where
  pub kind : e.entry.kind ≡ Output
  pub shapes : AreMessageShapes e.shapes
  pub sender : IsConstantAt e.entry.parameters 1

-- how `receive` is declared (profile): an input whose third argument is constant and whose first is not
pub record IsReceive (e : PlainSortedEntry) : Type 0 where
  pub kind : e.entry.kind ≡ Input
  pub shapes : AreMessageShapes e.shapes
  pub receiver : IsConstantAt e.entry.parameters 2
  pub message : IsConstantAt e.entry.parameters 0 → ⊥

-- an entry with its name: only such entries are named `send` and `receive`
pub record IsWellNamed (e : PlainSortedEntry) : Type 0 where
  pub send : e.entry.name ≡ send_name → IsSend e
  pub receive : e.entry.name ≡ receive_name → IsReceive e

-- a transition, of whose names in view the first `variables` may be assigned, and whose effect may choose values of
-- these types
pub record IsTransitionOf (types : TypeTable) (names : NameShapes) (variables : ℕ) (t : SourceTransition)
    (c : CheckedTransition) : Type 0 where
  pub kind : c.kind ≡ t.kind
  pub name : c.name ≡ t.name
  pub arguments : AllZip (λ u d. (s : PlainShape) × IsOwnTermOf names u d s) t.arguments c.arguments
  pub pre : IsConditionOf names t.pre c.pre
  pub effect : AllZip (IsStatementOf (effect_site types (take variables names) names)) t.effect c.effect

-- what the terms of an automaton read at a site, with shapes: the names in view, and the text's constants behind them
abbrev pub names_at : Site → (constants : NameShapes) → List CheckedDeclared → List CheckedVariable
    → List CheckedParameter → NameShapes
names_at site constants ps vs own =
    in_view site (parameter_shapes ps) (variable_shapes vs) (own_shapes own) ++ constants

-- an entry with its transition, in an automaton of these parameters and variables
pub record IsRuleOf (t : PlainTextTypes) (ps : List CheckedDeclared) (vs : List CheckedVariable)
    (ts : List SourceTransition) (e : SourceEntry) (r : PlainRule) : Type 0 where
  -- the entry
  pub kind : r.entry.kind ≡ e.kind
  pub name : r.entry.name ≡ e.name
  pub parameters : AreParametersOf t.types (names_at entry_constant t.constants ps vs [])
      e.parameters r.entry.parameters r.shapes
  pub condition : IsConditionOf (names_at entry_condition t.constants ps vs r.entry.parameters)
      e.condition r.entry.condition
  -- its transition
  pub written : SourceTransition
  pub present : Contains ts written
  pub same_kind : written.kind ≡ e.kind
  pub same_name : written.name ≡ e.name
  pub transition : IsTransitionOf t.types (names_at guard_or_effect t.constants ps vs r.entry.parameters) (length vs)
      written r.transition
  pub own : r.own ≡ own_names r.entry.parameters
  -- names in view differ
  pub condition_names : AreDistinct (names_at entry_condition t.constants ps vs r.entry.parameters)
  pub step_names : AreDistinct (names_at guard_or_effect t.constants ps vs r.entry.parameters)
  -- the head repeats the entry, an input has no guard and no condition, and a message's name is used as it has to be
  pub head : AllZip Repeats e.parameters written.arguments
  pub no_guard : e.kind ≡ Input → written.pre ≡ None
  pub no_condition : e.kind ≡ Input → e.condition ≡ None
  pub message : IsWellNamed (record { entry = r.entry; shapes = r.shapes })

-- what the statements of a schedule block of these variables read, in an automaton of these rules, with shapes: the
-- names in view, and the text's constants behind them
abbrev pub block_names : (constants : NameShapes) → List CheckedDeclared → (states own : List CheckedVariable)
    → List PlainRule → NameShapes
block_names constants ps vs own rules =
    in_view block_statement (parameter_shapes ps) (variable_shapes vs) (block_own_shapes own rules) ++ constants

-- where they are: they assign the block's own variables, which come first among the names in view, and fire these rules
abbrev pub block_of : NameShapes → (states own : List CheckedVariable) → List PlainRule → PlainStatementSite
block_of names vs own rules =
    block_site (take (length own) names) (take (length (block_own_shapes own rules) + length vs) names) names rules

-- a schedule block, in an automaton of these parameters, state variables and rules
pub record IsScheduleOf (t : PlainTextTypes) (ps : List CheckedDeclared) (vs : List CheckedVariable)
    (rules : List PlainRule) (s : SourceSchedule) (c : CheckedSchedule) : Type 0 where
  pub variables : AllZip (IsVariableOf t.types (names_at initial_value t.constants ps vs [])) s.variables c.variables
  pub names : AreDistinct (block_names t.constants ps vs c.variables rules)
  pub statements : AllZip
      (IsStatementOf (block_of (block_names t.constants ps vs c.variables rules) vs c.variables rules))
      s.statements c.statements

-- a transition has an entry of its name and kind
pub record HasItsEntry (es : List SourceEntry) (t : SourceTransition) : Type 0 where
  pub entry : SourceEntry
  pub present : Contains es entry
  pub same_kind : entry.kind ≡ t.kind
  pub same_name : entry.name ≡ t.name

-- an automaton, in a text of these types and constants
pub record IsAutomatonOf (t : PlainTextTypes) (a : SourceAutomaton) (c : AutomatonParts) : Type 0 where
  pub name : c.name ≡ a.name
  pub constants : c.constants ≡ words t.constants
  pub parameters : AllZip (IsDeclaredOf t.types) a.parameters c.parameters
  pub variables : AllZip (IsVariableOf t.types (names_at initial_value t.constants c.parameters c.variables []))
      a.states c.variables
  pub rules : AllZip (IsRuleOf t c.parameters c.variables a.transitions) a.signature c.rules
  pub schedule : IsScheduleOf t c.parameters c.variables c.rules a.schedule c.schedule
  -- what has to differ does, and each transition has an entry
  pub given_names : AreDistinct (names_at initial_value t.constants c.parameters c.variables [])
  pub names : AreDistinct (block_names t.constants c.parameters c.variables [] [])
  pub entries_differ : IsDistinct same_word (map (λ e. e.name) a.signature)
  pub transitions_differ : IsDistinct same_word (map (λ u. u.name) a.transitions)
  pub entries : AllByRecursion (HasItsEntry a.signature) a.transitions
