-- Terms with their shapes (profile), and what is made of such parts: what a term becomes has the slot of each name and
-- the shape of each display.
use Rattle.std.specs.Prelude.{ℕ, if◌then◌else◌, List, Option, Some, None, Result, Ok, Err}
use Rattle.ioa_values.specs.Outcome.{and_then}
use Rattle.ioa_operators.specs.Shapes.{PlainShape}
use Rattle.ioa_operators.specs.declared.shape.Shape.{Shape}
use Rattle.ioa_terms.specs.declared.callee.Callee.{Callee}
use Rattle.ioa_terms.specs.PlainTerm.{PlainTerm, field}
use Rattle.ioa_refusals.specs.declared.refusal.Refusal.{Refusal}
use Rattle.ioa_refusals.specs.declared.refusal.Refusal.TheVariants.{Sorts, EmptyOfWhat}
use Rattle.ioa_sort_rules.specs.declared.kinds.Single.{Single}
use Rattle.ioa_sort_rules.specs.declared.kinds.Pairing.{Pairing}
use Rattle.ioa_sort_rules.specs.Rows.{value_of_one, other_of_right, value_of_field, undetermined, undetermined_alone}
use Rattle.ioa_sort_rules.specs.SameSorts.{same_sort}

-- a term with the slot of each name and the shape of each display
abbrev pub SortedTerm : Type 0
SortedTerm = PlainTerm ℕ Callee Shape

-- such a term and the shape of its value
pub record PlainTyped : Type 0 where
  pub tree : SortedTerm
  pub shape : PlainShape

abbrev pub typed : SortedTerm → PlainShape → PlainTyped
typed t s = record { tree = t; shape = s }

-- the parts of a form of two, and the shape of its value
pub record PlainPair : Type 0 where
  pub left : SortedTerm
  pub right : SortedTerm
  pub whole : PlainShape

abbrev pub pair : SortedTerm → SortedTerm → PlainShape → PlainPair
pair a b s = record { left = a; right = b; whole = s }

-- the parts of `update`, and the shape of its value
pub record PlainUpdate : Type 0 where
  pub map : SortedTerm
  pub key : SortedTerm
  pub value : SortedTerm
  pub whole : PlainShape

abbrev pub update : SortedTerm → SortedTerm → SortedTerm → PlainShape → PlainUpdate
update m k v s = record { map = m; key = k; value = v; whole = s }

-- a term with its own shape, if that is the one asked
unfoldable pub fit_typed : PlainShape → PlainTyped → Result SortedTerm Refusal
fit_typed s t = if same_sort t.shape s then Ok t.tree else Err Sorts

-- the part of a form of one
unfoldable pub part_known : Single → Option PlainTyped → Result PlainTyped Refusal
part_known k None = Err (undetermined_alone k)
part_known k (Some t) = and_then (value_of_one k t.shape) (λ s. Ok (typed t.tree s))

-- the parts of a form of two, if the right one has to tell: it does by its own shape
unfoldable pub right_tells : Pairing → PlainTyped → Option PlainTyped → Result PlainPair Refusal
right_tells k l None = Err (undetermined k)
right_tells k l (Some r) = and_then (other_of_right k r.shape)
    (λ p. and_then (fit_typed p.other l) (λ t. Ok (pair t r.tree p.whole)))

-- a field of a tuple
unfoldable pub field_known : List ℕ → Option PlainTyped → Result PlainTyped Refusal
field_known w None = Err EmptyOfWhat
field_known w (Some t) = and_then (value_of_field w t.shape) (λ s. Ok (typed (field t.tree w t.shape) s))
