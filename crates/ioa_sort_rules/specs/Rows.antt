-- The rules of sorts, a row a kind (profile). Shapes are those of terms, in which naturals count as integers.
use Rattle.std.specs.Prelude.{ℕ, List, Option, Some, None, Result, Ok, Err}
use Rattle.ioa_values.specs.Outcome.{and_then}
use Rattle.ioa_operators.specs.Shapes.{PlainShape, truths, integers, tuples, sequences, sets, maps}
use Rattle.ioa_terms.specs.Sorted.{shape_in_terms, field_shape}
use Rattle.ioa_refusals.specs.declared.refusal.Refusal.{Refusal}
use Rattle.ioa_refusals.specs.declared.refusal.Refusal.TheVariants.{Unknown, Sorts, EmptyOfWhat}
use Rattle.ioa_sort_rules.specs.declared.kinds.Single.{Single}
use Rattle.ioa_sort_rules.specs.declared.kinds.Single.TheVariants as single
use Rattle.ioa_sort_rules.specs.declared.kinds.Alike.{Alike}
use Rattle.ioa_sort_rules.specs.declared.kinds.Alike.TheVariants.{Truths, Numbers, Order, Equality}
use Rattle.ioa_sort_rules.specs.declared.kinds.Alike.TheVariants.{Concatenation, Union}
use Rattle.ioa_sort_rules.specs.declared.kinds.Pairing.{Pairing}
use Rattle.ioa_sort_rules.specs.declared.kinds.Pairing.TheVariants.{Both, Membership, Prepend, Append, Members}
use Rattle.ioa_sort_rules.specs.declared.kinds.Pairing.TheVariants.{At, Removal, Definition}

-- the shape of the other part, and that of the value
pub record PlainSides : Type 0 where
  pub other : PlainShape
  pub whole : PlainShape

abbrev pub sides : PlainShape → PlainShape → PlainSides
sides x s = record { other = x; whole = s }

-- the shape of the value, by that of the one part
abbrev pub value_of_one : Single → PlainShape → Result PlainShape Refusal
value_of_one single.Truth truths = Ok truths
value_of_one single.Number integers = Ok integers
value_of_one single.Item (sequences s) = Ok s
value_of_one single.Rest (sequences s) = Ok (sequences s)
value_of_one single.Length (sequences s) = Ok integers
value_of_one single.Size (sets s) = Ok integers
value_of_one single.Size (maps k v) = Ok integers
value_of_one _ _ = Err Sorts

-- the shape of the value, by the one of both parts
abbrev pub value_of_alike : Alike → PlainShape → Result PlainShape Refusal
value_of_alike Truths truths = Ok truths
value_of_alike Numbers integers = Ok integers
value_of_alike Order integers = Ok truths
value_of_alike Equality s = Ok truths
value_of_alike Concatenation (sequences s) = Ok (sequences s)
value_of_alike Union (sets s) = Ok (sets s)
value_of_alike _ _ = Err Sorts

-- the shapes of the right part and of the value, by that of the left part; none if the right part has to tell
abbrev pub other_of_left : Pairing → PlainShape → Result (Option PlainSides) Refusal
other_of_left (Both k) s = and_then (value_of_alike k s) (λ w. Ok (Some (sides s w)))
other_of_left Membership s = Ok None
other_of_left Prepend s = Ok (Some (sides (sequences s) (sequences s)))
other_of_left Append (sequences s) = Ok (Some (sides s (sequences s)))
other_of_left Members s = Ok (Some (sides (sets s) (sets s)))
other_of_left At (maps k v) = Ok (Some (sides k v))
other_of_left Removal (maps k v) = Ok (Some (sides k (maps k v)))
other_of_left Definition (maps k v) = Ok (Some (sides k truths))
other_of_left _ _ = Err Sorts

-- the shapes of the left part and of the value, by that of the right part; a key does not tell the sort of its map
abbrev pub other_of_right : Pairing → PlainShape → Result PlainSides Refusal
other_of_right (Both k) s = and_then (value_of_alike k s) (λ w. Ok (sides s w))
other_of_right Membership (sequences s) = Ok (sides s truths)
other_of_right Membership (sets s) = Ok (sides s truths)
other_of_right Prepend (sequences s) = Ok (sides s (sequences s))
other_of_right Append s = Ok (sides (sequences s) (sequences s))
other_of_right Members (sets s) = Ok (sides s (sets s))
other_of_right At k = Err EmptyOfWhat
other_of_right Removal k = Err EmptyOfWhat
other_of_right Definition k = Err EmptyOfWhat
other_of_right _ _ = Err Sorts

-- why two displays have no sort: a display is no Bool and no Int, and in all other forms neither tells the other's sort
abbrev pub undetermined : Pairing → Refusal
undetermined (Both Truths) = Sorts
undetermined (Both Numbers) = Sorts
undetermined (Both Order) = Sorts
undetermined _ = EmptyOfWhat

-- why a display has no sort as the one part of a form
abbrev pub undetermined_alone : Single → Refusal
undetermined_alone single.Truth = Sorts
undetermined_alone single.Number = Sorts
undetermined_alone _ = EmptyOfWhat

-- the shapes of the keys and of the values of a map, which are those of the other parts of `update`
abbrev pub entry_of : PlainShape → Result PlainSides Refusal
entry_of (maps k v) = Ok (sides k v)
entry_of _ = Err Sorts

-- a field's shape as it is in a term, if the type has the field
abbrev pub declared_field : Option PlainShape → Result PlainShape Refusal
declared_field None = Err Unknown
declared_field (Some s) = Ok (shape_in_terms s)

-- the shape of a field in a term: only tuples have fields, and only those of their type
abbrev pub value_of_field : List ℕ → PlainShape → Result PlainShape Refusal
value_of_field w (tuples type names fields) = declared_field (field_shape w (tuples type names fields))
value_of_field w _ = Err Sorts
