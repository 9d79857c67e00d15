-- The declarations of an automaton with the slot of each name and the shape of each sort and display (profile). The
-- first refusal in the order of the definitions is the whole's.
use Rattle.std.specs.Prelude.{ℕ, List, [], ◌∷◌, Option, Some, None, Result, Ok, Err}
use Rattle.std.specs.Prelude.{map, take}
use Rattle.ioa_values.specs.Outcome.{and_then}
use Rattle.ioa_operators.specs.Shapes.{PlainShape, truths}
use Rattle.ioa_terms.specs.declared.tree.Kind.{Kind}
use Rattle.ioa_terms.specs.declared.tree.Kind.TheVariants.{Input, Output, Internal}
use Rattle.ioa_terms.specs.PlainTerm.{statements_of}
use Rattle.ioa_terms.specs.Sorted.{NameShapes, shape_in_terms}
use Rattle.ioa_source.specs.PlainText.{const, named}
use Rattle.ioa_source.specs.Sides.{SourceTerm, SourceDeclared, SourceParameter, SourceEntry, SourceVariable}
use Rattle.ioa_source.specs.Sides.{SourceTransition}
use Rattle.ioa_source.specs.Sides.{CheckedTerm, CheckedDeclared, CheckedParameter, CheckedEntry, CheckedVariable}
use Rattle.ioa_source.specs.Sides.{CheckedTransition}
use Rattle.ioa_refusals.specs.declared.refusal.Refusal.{Refusal}
use Rattle.ioa_refusals.specs.declared.refusal.Refusal.TheVariants.{NoInitial, EmptyOfWhat, InputWhere}
use Rattle.ioa_typed.specs.Parts.{PlainTyped}
use Rattle.ioa_sorts.specs.Sorting.{infer, fit, sorting}
use Rattle.ioa_sorts.specs.Statements.{all_ok, statement_sortings}
use Rattle.ioa_sorts.specs.StatementSites.{effect_site}
use Rattle.ioa_types.specs.TypeTables.{TypeTable, shape_of_sort}

-- a declared name with the shape of its sort
unfoldable pub declared_at : TypeTable → SourceDeclared → Result CheckedDeclared Refusal
declared_at types d =
    and_then (shape_of_sort types d.sort) (λ s. Ok (record { name = d.name; sort = d.sort; shape = s }))

abbrev pub all_declared_at : TypeTable → List SourceDeclared → Result (List CheckedDeclared) Refusal
all_declared_at types ds = all_ok (map (declared_at types) ds)

-- a term with its own shape; a display has none
unfoldable pub own_or : Option PlainTyped → Result PlainTyped Refusal
own_or None = Err EmptyOfWhat
own_or (Some t) = Ok t

abbrev pub infer_own : NameShapes → SourceTerm → Result PlainTyped Refusal
infer_own names t = and_then (infer (sorting names t)) own_or

-- terms that have shapes of their own
abbrev pub own_term : NameShapes → SourceTerm → Result CheckedTerm Refusal
own_term names t = and_then (infer_own names t) (λ u. Ok u.tree)

abbrev pub own_terms : NameShapes → List SourceTerm → Result (List CheckedTerm) Refusal
own_terms names ts = all_ok (map (own_term names) ts)

-- a condition, if one is written: a truth value
unfoldable pub condition_at : NameShapes → Option SourceTerm → Result (Option CheckedTerm) Refusal
condition_at names None = Ok None
condition_at names (Some t) = and_then (fit (sorting names t) truths) (λ c. Ok (Some c))

-- the initial term of a state variable of a shape, which has to be written
unfoldable pub initial_at : NameShapes → PlainShape → Option SourceTerm → Result CheckedTerm Refusal
initial_at names s None = Err NoInitial
initial_at names s (Some t) = fit (sorting names t) (shape_in_terms s)

-- a state variable
unfoldable pub variable_at : TypeTable → NameShapes → SourceVariable → Result CheckedVariable Refusal
variable_at types names v = and_then (declared_at types v.declared)
    (λ d. and_then (initial_at names d.shape v.initial) (λ t. Ok (record { declared = d; initial = Some t })))

abbrev pub variables_at : TypeTable → NameShapes → List SourceVariable → Result (List CheckedVariable) Refusal
variables_at types names vs = all_ok (map (variable_at types names) vs)

-- a parameter of an entry, and the shape of the arguments that it takes: of a constant it is the term's own
pub record PlainSortedParameter : Type 0 where
  pub parameter : CheckedParameter
  pub shape : PlainShape

abbrev pub sorted_parameter : CheckedParameter → PlainShape → PlainSortedParameter
sorted_parameter p s = record { parameter = p; shape = s }

unfoldable pub parameter_at : TypeTable → NameShapes → SourceParameter → Result PlainSortedParameter Refusal
parameter_at types names (const t) =
    and_then (infer_own names t) (λ u. Ok (sorted_parameter (const u.tree) u.shape))
parameter_at types names (named d) =
    and_then (declared_at types d) (λ e. Ok (sorted_parameter (named e) e.shape))

-- the parameters of an entry, and the shapes of the arguments that they take
pub record PlainSortedParameters : Type 0 where
  pub parameters : List CheckedParameter
  pub shapes : List PlainShape

abbrev pub sorted_parameters : List CheckedParameter → List PlainShape → PlainSortedParameters
sorted_parameters ps ss = record { parameters = ps; shapes = ss }

abbrev pub parameters_at : TypeTable → NameShapes → List SourceParameter → Result PlainSortedParameters Refusal
parameters_at types names [] = Ok (sorted_parameters [] [])
parameters_at types names (p ∷ more) = and_then (parameter_at types names p)
    (λ q. and_then (parameters_at types names more)
    (λ qs. Ok (sorted_parameters (q.parameter ∷ qs.parameters) (q.shape ∷ qs.shapes))))

-- a condition behind `where`, which an input may not have
unfoldable pub where_at : NameShapes → Kind → Option SourceTerm → Result (Option CheckedTerm) Refusal
where_at names k None = Ok None
where_at names Input (Some t) = Err InputWhere
where_at names Output (Some t) = condition_at names (Some t)
where_at names Internal (Some t) = condition_at names (Some t)

-- an entry, and the shapes of its arguments
pub record PlainSortedEntry : Type 0 where
  pub entry : CheckedEntry
  pub shapes : List PlainShape

abbrev pub sorted_entry : SourceEntry → PlainSortedParameters → Option CheckedTerm → PlainSortedEntry
sorted_entry e ps c = record {
  entry = record { kind = e.kind; name = e.name; parameters = ps.parameters; condition = c };
  shapes = ps.shapes;
}

-- an entry of these parameters, whose condition reads these names
unfoldable pub entry_at : NameShapes → SourceEntry → PlainSortedParameters → Result PlainSortedEntry Refusal
entry_at names e ps = and_then (where_at names e.kind e.condition) (λ c. Ok (sorted_entry e ps c))

-- a transition, of whose names in view the first `variables` may be assigned, and whose effect may choose values of
-- these types
unfoldable pub transition_at : TypeTable → NameShapes → (variables : ℕ) → SourceTransition
    → Result CheckedTransition Refusal
transition_at types names variables t = and_then (own_terms names t.arguments)
    (λ ts. and_then (condition_at names t.pre)
    (λ p. and_then
    (all_ok (statement_sortings (effect_site types (take variables names) names) (statements_of t.effect)))
    (λ ss. Ok (record { kind = t.kind; name = t.name; arguments = ts; pre = p; effect = ss }))))
