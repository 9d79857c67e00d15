-- A part of a test that is false, as text, with the values of its names (form).
use Rattle.std.specs.Prelude.{ℕ, Bool, true, false, List, [], ◌∷◌, ◌++◌, codes}
use Rattle.ioa_values.specs.Data.{Data}
use Rattle.ioa_values.specs.Text.{text}
use Rattle.ioa_source.specs.Sides.{CheckedTerm}
use Rattle.ioa_terms.specs.Bindings.{same_word}
use Rattle.ioa_terms.specs.declared.name.Name.{Name}
use Rattle.ioa_terms.specs.declared.name.Name.TheVariants.{Word, Variable, Queue}
use Rattle.ioa_reasons.specs.declared.reason.Test.{Test}
use Rattle.ioa_reasons.specs.declared.reason.Test.TheVariants.{Where, Guard}
use Rattle.ioa_tell_text.specs.Terms.{name_text, term_text}

-- the word of a test
abbrev pub test_word : Test → List ℕ
test_word Where = codes "where "
test_word Guard = codes "guard "

-- whether a value is written as its name is, as a constant's is
abbrev pub is_own_name : List (List ℕ) → Name → Data → Bool
is_own_name names (Word w) v = same_word w (text names v)
is_own_name names (Variable w k) v = false
is_own_name names (Queue i j) v = false

-- what stands in front of a value: a bracket, or what separates it from the one before it
abbrev pub lead_text : Bool → List ℕ
lead_text true = codes ", "
lead_text false = codes " ("

-- `x = v`, unless the value is written as the name
abbrev pub value_unless : Bool → List (List ℕ) → Bool → Name → Data → List ℕ
value_unless true names written x v = []
value_unless false names written x v = lead_text written ++ (name_text x ++ (codes " = " ++ text names v))

-- whether a value is written, if this one is not written as its name
abbrev pub written_then : Bool → Bool → Bool
written_then true written = written
written_then false written = true

-- the bracket behind the values, if there are any
abbrev pub values_end : Bool → List ℕ
values_end true = codes ")"
values_end false = []

-- ` (x = v, y = w)`: the values of names, behind others if there are such
abbrev pub values_text : List (List ℕ) → Bool → List (Name × Data) → List ℕ
values_text names written [] = values_end written
values_text names written (n ∷ more) =
    value_unless (is_own_name names n.0 n.1) names written n.0 n.1
    ++ values_text names (written_then (is_own_name names n.0 n.1) written) more

-- `guard t is false (x = v)`
abbrev pub false_text : List (List ℕ) → Test → CheckedTerm → List (Name × Data) → List ℕ
false_text names test t vs = test_word test ++ (term_text t ++ (codes " is false" ++ values_text names false vs))
