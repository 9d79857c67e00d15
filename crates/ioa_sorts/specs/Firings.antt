-- A firing with slots and shapes (profile): its action is one of the automaton's, it bears the number of the action's
-- rule, and its arguments are of the action's sorts.
use Rattle.std.specs.Prelude.{ℕ, zero, suc, if◌then◌else◌, Bool, true, ◌&&◌, List, [], ◌∷◌, Option, Some, None, Result, Ok, Err, find}
use Rattle.ioa_values.specs.Outcome.{and_then}
use Rattle.ioa_operators.specs.Shapes.{PlainShape}
use Rattle.ioa_terms.specs.declared.tree.Kind.{Kind}
use Rattle.ioa_terms.specs.Bindings.{same_word}
use Rattle.ioa_terms.specs.PlainTerm.{firing}
use Rattle.ioa_terms.specs.SameTerms.{same_kind}
use Rattle.ioa_terms.specs.Sorted.{NameShapes, shape_in_terms}
use Rattle.ioa_source.specs.Sides.{SourceTerm, SourceFiring, CheckedTerm, CheckedFiring}
use Rattle.ioa_system.specs.Parts.{PlainRule}
use Rattle.ioa_refusals.specs.declared.refusal.Refusal.{Refusal}
use Rattle.ioa_refusals.specs.declared.refusal.Refusal.TheVariants.{Unknown, Sorts}
use Rattle.ioa_sorts.specs.Sorting.{fit, sorting}

-- whether a firing is of an entry: it names the entry's actions, and its kind if it has one
abbrev pub is_of_kind : Option Kind → Kind → Bool
is_of_kind None k = true
is_of_kind (Some j) k = same_kind j k

abbrev pub fires : SourceFiring → PlainRule → Bool
fires f r = same_word r.entry.name f.action && is_of_kind f.kind r.entry.kind

-- the shapes of the arguments that a firing takes, if it names an entry
unfoldable pub entry_fired : Option PlainRule → Result (List PlainShape) Refusal
entry_fired None = Err Unknown
entry_fired (Some r) = Ok r.shapes

-- arguments, each of the shape at its position
abbrev pub arguments_at : NameShapes → List PlainShape → List SourceTerm → Result (List CheckedTerm) Refusal
arguments_at names [] [] = Ok []
arguments_at names [] (t ∷ ts) = Err Sorts
arguments_at names (s ∷ ss) [] = Err Sorts
arguments_at names (s ∷ ss) (t ∷ ts) = and_then (fit (sorting names t) (shape_in_terms s))
    (λ c. and_then (arguments_at names ss ts) (λ cs. Ok (c ∷ cs)))

-- the number of the rule that a firing is of: the place of the first, counted from 0
abbrev pub number_fired : SourceFiring → List PlainRule → ℕ
number_fired f [] = zero
number_fired f (r ∷ rs) = if fires f r then zero else suc (number_fired f rs)

unfoldable pub firing_at : NameShapes → List PlainRule → SourceFiring → Result CheckedFiring Refusal
firing_at names rs f = and_then (entry_fired (find (fires f) rs))
    (λ ss. and_then (arguments_at names ss f.arguments) (λ ts. Ok (firing f.kind f.action (number_fired f rs) ts)))
