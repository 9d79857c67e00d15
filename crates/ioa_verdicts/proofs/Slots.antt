-- What names read: the slots of variables, and how many values there are.
use Rattle.std.proofs.Common.{◌≡◌, ℕ, suc, ◌+◌, Bool, true, false, List, [], ◌∷◌, Option, Some, None, refl, ap, ◌∙◌, map, length, arith, if◌then◌else◌}
use Rattle.std.specs.Prelude.{slice_get}
use Rattle.std.specs.List.{position_from, zip}
use Rattle.std.specs.Option.{option_and_then, option_map}
use Rattle.ioa_values.specs.Data.{Data}
use Rattle.ioa_operators.specs.declared.shape.Shape.{Shape}
use Rattle.ioa_terms.specs.declared.callee.Callee.{Callee}
use Rattle.ioa_terms.specs.declared.name.Name.{Name}
use Rattle.ioa_terms.specs.declared.name.Name.TheVariants.{Word}
use Rattle.ioa_terms.specs.Bindings.{lookup, same_name, same_word, slot_in}
use Rattle.ioa_source.specs.TextView.{variable_of}
use Rattle.ioa_source.specs.declared.declaration.Variable.{Variable}
use Rattle.ioa_system.specs.InView.{variable_names}
use Rattle.ioa_compose.specs.declared.configuration.Conf.{Conf}
use Rattle.ioa_compose.specs.Readings.{reading, readings}

-- the value of a name is in its slot
pub lookup-slot : (x : Name) (ns : List Name) (ds : List Data) → lookup x (zip ns ds) ≡ option_and_then (slice_get ds) (slot_in x ns)
lookup-slot x [] ds = refl
lookup-slot x (n ∷ ns) [] = by_test (same_name x n) (slot_in x ns)
  where
    by_test : (b : Bool) (o : Option ℕ) → None ≡ option_and_then (slice_get {X = Data} []) (if b then Some 0 else option_map (λ k. k + 1) o)
    by_test true o = refl
    by_test false None = refl
    by_test false (Some m) = refl
lookup-slot x (n ∷ ns) (d ∷ ds) = by_test (same_name x n) (slot_in x ns) (lookup-slot x ns ds)
  where
    by_test : (b : Bool) (o : Option ℕ) → lookup x (zip ns ds) ≡ option_and_then (slice_get ds) o →
        (if b then Some d else lookup x (zip ns ds)) ≡ option_and_then (slice_get (d ∷ ds)) (if b then Some 0 else option_map (λ k. k + 1) o)
    by_test true o h = refl
    by_test false None h = h
    by_test false (Some m) h = let further : m + 1 ≡ suc m = omega arith in rw further h

-- the slot of a name is the position of the variable that has it
pub slot-position : (x : List ℕ) (n : ℕ) (vs : List (Variable ℕ Callee Shape)) →
    position_from (λ v. same_word x v.declared.name) n vs ≡ option_map (λ k. n + k) (slot_in (Word x) (map Word (variable_names (map variable_of vs))))
slot-position x n [] = refl
slot-position x n (v ∷ vs) = by_test (same_word x v.declared.name) (slot_in (Word x) (map Word (variable_names (map variable_of vs)))) (slot-position x (n + 1) vs)
  where
    by_test : (b : Bool) (o : Option ℕ) → position_from (λ u. same_word x u.declared.name) (n + 1) vs ≡ option_map (λ k. n + 1 + k) o →
        (if b then Some n else position_from (λ u. same_word x u.declared.name) (n + 1) vs) ≡ option_map (λ k. n + k) (if b then Some 0 else option_map (λ k. k + 1) o)
    by_test true o h = ap (λ (k : ℕ). Some k) (omega arith)
    by_test false None h = h
    by_test false (Some m) h = h ∙ ap (λ (k : ℕ). Some k) (omega arith)

-- from the first slot on
pub first_slot : (x : List ℕ) (vs : List (Variable ℕ Callee Shape)) → position_from (λ v. same_word x v.declared.name) 0 vs ≡ slot_in (Word x) (map Word (variable_names (map variable_of vs)))
first_slot x vs = slot-position x 0 vs ∙ same (slot_in (Word x) (map Word (variable_names (map variable_of vs))))
  where
    same : (o : Option ℕ) → option_map (λ k. 0 + k) o ≡ o
    same None = refl
    same (Some m) = ap (λ (k : ℕ). Some k) (omega arith)

-- names that all read something read as many values
pub length_readings : (xs : List Name) (cs : List Conf) (vs : List Data) → readings xs cs ≡ Some vs → length vs ≡ length xs
length_readings [] cs vs h = let none : [] ≡ vs = cc in rw (← none) refl
length_readings (x ∷ xs) cs vs h = by_first (reading x cs) (readings xs cs) h (λ ds e. length_readings xs cs ds e)
  where
    by_first : (r : Option Data) (o : Option (List Data)) → option_and_then (λ v. option_map (λ ds. v ∷ ds) o) r ≡ Some vs → ((ds : List Data) → o ≡ Some ds → length ds ≡ length xs) → length vs ≡ suc (length xs)
    by_first None o h further = absurd (cc)
    by_first (Some v) None h further = absurd (cc)
    by_first (Some v) (Some ds) h further =
        let whole : v ∷ ds ≡ vs = cc in
        let more : length ds ≡ length xs = further ds refl in
        rw (← whole) (ap suc more)
