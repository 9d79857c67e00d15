-- Names with their shapes, one after another (profile: names in view differ).
use Rattle.std.specs.Prelude.{ℕ, Bool, not, ◌||◌, if◌then◌else◌, List, [], ◌∷◌, ◌++◌, Option, Some, None}
use Rattle.std.specs.Prelude.{Result, Ok, Err, map}
use Rattle.std.specs.List.{IsDistinct, list_all}
use Rattle.std.specs.Option.{is_some}
use Rattle.ioa_values.specs.Outcome.{and_then}
use Rattle.ioa_operators.specs.Shapes.{PlainShape}
use Rattle.ioa_terms.specs.declared.name.Name.{Name}
use Rattle.ioa_terms.specs.declared.name.Name.TheVariants.{Word, Variable, Queue}
use Rattle.ioa_terms.specs.Bindings.{same_name}
use Rattle.ioa_terms.specs.Sorted.{NameShapes, shape_named}
use Rattle.ioa_refusals.specs.declared.refusal.Refusal.{Refusal}
use Rattle.ioa_refusals.specs.declared.refusal.Refusal.TheVariants.{Twice}

-- the names without their shapes, in order
abbrev pub declared_names : NameShapes → List Name
declared_names names = map (λ n. n.0) names

-- the names with one more behind them, if it is new
abbrev pub named_newly : NameShapes → Name → PlainShape → Option PlainShape → Result NameShapes Refusal
named_newly names x s None = Ok (names ++ (x, s) ∷ [])
named_newly names x s (Some t) = Err Twice

abbrev pub with_named : NameShapes → Name → PlainShape → Result NameShapes Refusal
with_named names x s = named_newly names x s (shape_named x names)

-- the names with a word behind them, if it is new
abbrev pub with_name : NameShapes → List ℕ → PlainShape → Result NameShapes Refusal
with_name names w s = with_named names (Word w) s

-- the names with others behind them, if they all differ
abbrev pub with_names : NameShapes → NameShapes → Result NameShapes Refusal
with_names names [] = Ok names
with_names names (n ∷ more) = and_then (with_named names n.0 n.1) (λ ns. with_names ns more)

-- the words among the names, in order
abbrev pub word_in : Name → List (List ℕ)
word_in (Word w) = w ∷ []
word_in (Variable x k) = []
word_in (Queue i j) = []

abbrev pub words : NameShapes → List (List ℕ)
words [] = []
words (n ∷ names) = word_in n.0 ++ words names

-- whether a name is neither one of those outside nor one of the text's constants
abbrev pub is_new : (outer constants : NameShapes) → Name → Bool
is_new outer constants x = not (is_some (shape_named x outer) || is_some (shape_named x constants))

-- names, if each of them is new
unfoldable pub new_or : (outer constants names : NameShapes) → Result NameShapes Refusal
new_or outer constants names =
    if list_all (is_new outer constants) (declared_names names) then Ok names else Err Twice

-- names that differ from each other
abbrev pub AreDistinct : NameShapes → Type 0
AreDistinct names = IsDistinct same_name (declared_names names)
