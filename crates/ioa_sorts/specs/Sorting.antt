-- The sorts of terms (profile): each term has a shape of its own, or is a display and takes the shape that is asked
-- of it. What a term becomes has the slot of each name and the shape of each display.
use Rattle.std.specs.Prelude.{ℕ, if◌then◌else◌, List, [], ◌∷◌, Option, Some, None, Result, Ok, Err, map}
use Rattle.ioa_values.specs.Outcome.{and_then}
use Rattle.ioa_operators.specs.Operators.{function_named}
use Rattle.ioa_operators.specs.Shapes.{PlainShape, truths, integers, tuples, sequences, sets, maps}
use Rattle.ioa_operators.specs.declared.operator.Function.{Function}
use Rattle.ioa_operators.specs.declared.shape.DisplayForm.{DisplayForm}
use Rattle.ioa_operators.specs.declared.shape.DisplayForm.TheVariants.{Braces, Brackets}
use Rattle.ioa_terms.specs.declared.callee.Callee.{Callee}
use Rattle.ioa_terms.specs.declared.callee.Callee.TheVariants as callee
use Rattle.ioa_terms.specs.declared.name.Name.{Name}
use Rattle.ioa_terms.specs.declared.name.Name.TheVariants.{Word}
use Rattle.ioa_terms.specs.Inboxes.{inboxes_word}
use Rattle.ioa_terms.specs.Meaning.{is_inbox_word}
use Rattle.ioa_terms.specs.PlainTerm.{number, truth, name, one, two, call, display, field}
use Rattle.ioa_terms.specs.PlainTerm.{no_terms, term, terms_of}
use Rattle.ioa_terms.specs.Sorted.{NameShapes, shape_in_terms, listed_shapes}
use Rattle.ioa_source.specs.Sides.{SourceTerm, SourceTerms}
use Rattle.ioa_refusals.specs.declared.refusal.Refusal.{Refusal}
use Rattle.ioa_refusals.specs.declared.refusal.Refusal.TheVariants.{Unknown, Sorts, EmptyOfWhat}
use Rattle.ioa_sort_rules.specs.declared.kinds.Single.{Single}
use Rattle.ioa_sort_rules.specs.declared.kinds.Pairing.{Pairing}
use Rattle.ioa_sort_rules.specs.declared.kinds.Arity.{Arity}
use Rattle.ioa_sort_rules.specs.declared.kinds.Arity.TheVariants.{One, Two, Update}
use Rattle.ioa_sort_rules.specs.Kinds.{single_of, pairing_of, arity_of}
use Rattle.ioa_sort_rules.specs.Rows.{PlainSides, other_of_left, other_of_right, entry_of, undetermined}
use Rattle.ioa_names.specs.Views.{named}
use Rattle.ioa_typed.specs.Parts.{SortedTerm, PlainTyped, typed, PlainPair, pair, PlainUpdate, update}
use Rattle.ioa_typed.specs.Parts.{fit_typed, part_known, right_tells, field_known}

-- a term has a shape of its own or a refusal; a display is a term, or a refusal, by the shape that is asked of it
pub data Sorting : Type 0 where
  own : Result PlainTyped Refusal → Sorting
  given : (PlainShape → Result SortedTerm Refusal) → Sorting

-- the term with its own shape; a display has none
abbrev pub infer : Sorting → Result (Option PlainTyped) Refusal
infer (own r) = and_then r (λ t. Ok (Some t))
infer (given f) = Ok None

-- the same of a term that is no display
abbrev pub own_of : Sorting → Result PlainTyped Refusal
own_of (own r) = r
own_of (given f) = Err EmptyOfWhat

-- the term at a shape
abbrev pub fit : Sorting → PlainShape → Result SortedTerm Refusal
fit (own r) s = and_then r (fit_typed s)
fit (given f) s = f s

-- the part of a form of one
abbrev pub one_part : Single → Sorting → Result PlainTyped Refusal
one_part k f = and_then (infer f) (part_known k)

-- the parts, by what the left one tells
abbrev pub left_tells : Pairing → PlainTyped → Sorting → Option PlainSides → Result PlainPair Refusal
left_tells k l g (Some p) = and_then (fit g p.other) (λ t. Ok (pair l.tree t p.whole))
left_tells k l g None = and_then (infer g) (right_tells k l)

-- the parts, if the left one has a shape of its own
unfoldable pub left_known : Pairing → PlainTyped → Sorting → Result PlainPair Refusal
left_known k l g = and_then (other_of_left k l.shape) (left_tells k l g)

-- the parts, if the left one is a display and the right one has a shape of its own
unfoldable pub right_known : Pairing → Sorting → PlainTyped → Result PlainPair Refusal
right_known k f r = and_then (other_of_right k r.shape)
    (λ p. and_then (fit f p.other) (λ t. Ok (pair t r.tree p.whole)))

abbrev pub right_first : Pairing → Sorting → Option PlainTyped → Result PlainPair Refusal
right_first k f None = Err (undetermined k)
right_first k f (Some r) = right_known k f r

abbrev pub left_first : Pairing → Sorting → Sorting → Option PlainTyped → Result PlainPair Refusal
left_first k f g None = and_then (infer g) (right_first k f)
left_first k f g (Some l) = left_known k l g

-- the parts of a form of two: the left one's shape is asked first
abbrev pub two_parts : Pairing → Sorting → Sorting → Result PlainPair Refusal
two_parts k f g = and_then (infer f) (left_first k f g)

-- the parts of `update`, if the map has a shape of its own
unfoldable pub map_known : PlainTyped → Sorting → Sorting → Result PlainUpdate Refusal
map_known m g h = and_then (entry_of m.shape)
    (λ p. and_then (fit g p.other) (λ k. and_then (fit h p.whole) (λ v. Ok (update m.tree k v m.shape))))

-- the parts of `update`, if the map is a display: the key and the value tell its shape
abbrev pub value_first : PlainTyped → Sorting → Option PlainTyped → Result PlainUpdate Refusal
value_first k f None = Err EmptyOfWhat
value_first k f (Some v) =
    and_then (fit f (maps k.shape v.shape)) (λ m. Ok (update m k.tree v.tree (maps k.shape v.shape)))

unfoldable pub key_known : PlainTyped → Sorting → Sorting → Result PlainUpdate Refusal
key_known k f h = and_then (infer h) (value_first k f)

abbrev pub key_first : Sorting → Sorting → Option PlainTyped → Result PlainUpdate Refusal
key_first f h None = Err EmptyOfWhat
key_first f h (Some k) = key_known k f h

abbrev pub map_first : Sorting → Sorting → Sorting → Option PlainTyped → Result PlainUpdate Refusal
map_first f g h None = and_then (infer g) (key_first f h)
map_first f g h (Some m) = map_known m g h

abbrev pub three_parts : Sorting → Sorting → Sorting → Result PlainUpdate Refusal
three_parts f g h = and_then (infer f) (map_first f g h)

-- a call of a function of one, two or three parts; another number of parts is refused
unfoldable pub call_one : List ℕ → Callee → Single → List Sorting → Result PlainTyped Refusal
call_one w c k (f ∷ []) = and_then (one_part k f) (λ t. Ok (typed (call w c (term t.tree no_terms)) t.shape))
call_one w c k fs = Err Sorts

unfoldable pub call_two : List ℕ → Callee → Pairing → List Sorting → Result PlainTyped Refusal
call_two w c k (f ∷ g ∷ []) =
    and_then (two_parts k f g) (λ p. Ok (typed (call w c (term p.left (term p.right no_terms))) p.whole))
call_two w c k fs = Err Sorts

unfoldable pub call_three : List ℕ → Callee → List Sorting → Result PlainTyped Refusal
call_three w c (f ∷ g ∷ h ∷ []) = and_then (three_parts f g h)
    (λ u. Ok (typed (call w c (term u.map (term u.key (term u.value no_terms)))) u.whole))
call_three w c fs = Err Sorts

unfoldable pub call_of_arity : List ℕ → Callee → List Sorting → Arity → Result PlainTyped Refusal
call_of_arity w c fs (One k) = call_one w c k fs
call_of_arity w c fs (Two k) = call_two w c k fs
call_of_arity w c fs Update = call_three w c fs

-- a call of `inbox`, by the map of the inboxes in view: its one part is a key of the map, and its value is what the map
-- has there
unfoldable pub inbox_of : List ℕ → Callee → List Sorting → PlainSides → Result PlainTyped Refusal
inbox_of w c (f ∷ []) p = and_then (fit f p.other) (λ t. Ok (typed (call w c (term t no_terms)) p.whole))
inbox_of w c fs p = Err Sorts

abbrev pub inbox_known : List ℕ → List Sorting → Option (ℕ × PlainShape) → Result PlainTyped Refusal
inbox_known w fs None = Err Unknown
inbox_known w fs (Some m) = and_then (entry_of m.1) (inbox_of w (callee.Inboxes m.0) fs)

-- a call whose name is no function's: only `inbox` has a meaning, where the inboxes are in view
unfoldable pub call_of_none : NameShapes → List ℕ → List Sorting → Result PlainTyped Refusal
call_of_none names w fs = if is_inbox_word w then inbox_known w fs (named (Word inboxes_word) names) else Err Unknown

abbrev pub call_of_function : NameShapes → List ℕ → List Sorting → Option Function → Result PlainTyped Refusal
call_of_function names w fs None = call_of_none names w fs
call_of_function names w fs (Some f) = call_of_arity w (callee.Function f) fs (arity_of f)

-- terms that all have one shape, and terms that have shapes one by one
abbrev pub all_fit : List Sorting → PlainShape → Result (List SortedTerm) Refusal
all_fit [] s = Ok []
all_fit (f ∷ fs) s = and_then (fit f s) (λ t. and_then (all_fit fs s) (λ ts. Ok (t ∷ ts)))

abbrev pub each_fit : List Sorting → List PlainShape → Result (List SortedTerm) Refusal
each_fit [] [] = Ok []
each_fit (f ∷ fs) (s ∷ ss) = and_then (fit f s) (λ t. and_then (each_fit fs ss) (λ ts. Ok (t ∷ ts)))
each_fit fs ss = Err Sorts

-- the parts of a display that has a shape: `{..}` is a sequence or a set of items, or an empty map, and `[..]` is a
-- tuple of all its type's fields
unfoldable pub display_parts : DisplayForm → List Sorting → PlainShape → Result (List SortedTerm) Refusal
display_parts Braces fs (sequences s) = all_fit fs s
display_parts Braces fs (sets s) = all_fit fs s
display_parts Braces fs (maps k v) = each_fit fs []
display_parts Brackets fs (tuples w names fields) = each_fit fs (map shape_in_terms (listed_shapes fields))
display_parts form fs s = Err Sorts

abbrev pub display_at : DisplayForm → List Sorting → PlainShape → Result SortedTerm Refusal
display_at form fs s = and_then (display_parts form fs s) (λ ts. Ok (display form s (terms_of ts)))

-- a name that may be in view
abbrev pub name_known : Name → Option (ℕ × PlainShape) → Result PlainTyped Refusal
name_known x None = Err Unknown
name_known x (Some p) = Ok (typed (name x p.0) p.1)

abbrev mutual
  -- the sorting of a term, by the declared shapes of the names in view
  pub sorting : NameShapes → SourceTerm → Sorting
  sorting names (number n) = own (Ok (typed (number n) integers))
  sorting names (truth b) = own (Ok (typed (truth b) truths))
  sorting names (name x u) = own (name_known x (named x names))
  sorting names (one op a) =
      own (and_then (one_part (single_of op) (sorting names a)) (λ t. Ok (typed (one op t.tree) t.shape)))
  sorting names (two op a b) = own (and_then (two_parts (pairing_of op) (sorting names a) (sorting names b))
      (λ p. Ok (typed (two op p.left p.right) p.whole)))
  sorting names (call w c ts) = own (call_of_function names w (sortings names ts) (function_named w))
  sorting names (display form u ts) = given (display_at form (sortings names ts))
  sorting names (field a w u) = own (and_then (infer (sorting names a)) (field_known w))

  -- the same of terms
  pub sortings : NameShapes → SourceTerms → List Sorting
  sortings names no_terms = []
  sortings names (term t more) = sorting names t ∷ sortings names more
