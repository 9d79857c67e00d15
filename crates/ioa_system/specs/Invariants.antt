-- An invariant of a checked system, as plain data (view).
use Rattle.std.specs.Prelude.{◌≡◌, ◌++◌, ℕ, List, length, map, refl}
use Rattle.std.specs.Coded.{Coded, code_by, coded×, coded_ℕ, coded_list}
use Rattle.ioa_values.specs.Data.{Data}
use Rattle.ioa_operators.specs.ShapeCode.{shape_code}
use Rattle.ioa_terms.specs.contracts.callee.Callee as callee
use Rattle.ioa_terms.specs.contracts.name.Name as called
use Rattle.ioa_terms.specs.declared.name.Name.{Name}
use Rattle.ioa_terms.specs.declared.name.Name.TheVariants.{Word}
use Rattle.ioa_terms.specs.Bindings.{Bindings, environment}
use Rattle.ioa_terms.specs.Resolved.{IsResolved}
use Rattle.ioa_terms.specs.TermCode.{term_code}
use Rattle.ioa_source.specs.Sides.{CheckedTerm}

-- its name, the names of the text's constants, the names `x@k` and `queue(i, j)` that its term reads, each once and in
-- the order of their first places, and the term
pub record InvariantParts : Type 0 where
  pub name : List ℕ
  pub constants : List (List ℕ)
  pub readings : List Name
  pub term : CheckedTerm

-- an invariant of these parts
abbrev pub invariant_parts : List ℕ → List (List ℕ) → List Name → CheckedTerm → InvariantParts
invariant_parts w cs ns t = record { name = w; constants = cs; readings = ns; term = t }

-- the names that its term may read: the readings, and the constants behind them (profile)
abbrev pub invariant_names : InvariantParts → List Name
invariant_names v = v.readings ++ map Word v.constants

-- what its term reads, if the readings have these values (profile)
abbrev pub invariant_bindings : InvariantParts → List Data → Bindings
invariant_bindings v values = environment v.readings values v.constants

-- each name in its term is resolved to the slot of its value (profile)
abbrev pub IsResolvedInvariant : InvariantParts → Type 0
IsResolvedInvariant v = IsResolved v.term (invariant_names v)

-- the code of an invariant: a nest of pairs
abbrev pub invariant_code : Coded InvariantParts
invariant_code =
    code_by (List ℕ × (List (List ℕ) × (List Name × CheckedTerm)))
    (coded× (coded_list coded_ℕ)
    (coded× (coded_list (coded_list coded_ℕ))
    (coded× (coded_list called.the_row.coded) (term_code coded_ℕ callee.the_row.coded shape_code))))
    (λ v. (v.name, (v.constants, (v.readings, v.term))))
    (λ t. invariant_parts t.0 t.1.0 t.1.1.0 t.1.1.1)
    (λ _. refl)
