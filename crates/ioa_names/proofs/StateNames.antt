-- The variable of a name, by the slot of the name.
use Rattle.std.proofs.Common.{◌≡◌, ℕ, zero, suc, ◌+◌, Bool, true, false, List, [], ◌∷◌, Option, Some, None, refl, ◌∙◌, ◌++◌, map, slice_get, arith, if◌then◌else◌}
use Rattle.std.specs.Option.{option_and_then, option_map}
use Rattle.ioa_terms.specs.declared.name.Name.TheVariants.{Word}
use Rattle.ioa_terms.specs.Bindings.{slot_in, same_word}
use Rattle.ioa_source.specs.Sides.{CheckedVariable}
use Rattle.ioa_system.specs.InView.{variable_names}
use Rattle.ioa_system.specs.Parts.{variable_named}

abbrev no_variables : List CheckedVariable
no_variables = []

-- at no slot is one of no variables
none_at : (o : Option ℕ) → option_and_then (slice_get no_variables) o ≡ None
none_at None = refl
none_at (Some k) = refl

-- behind one more variable the slots are one more
later : (v : CheckedVariable) (vs : List CheckedVariable) (o : Option ℕ) → option_and_then (slice_get (v ∷ vs)) (option_map (λ k. k + 1) o) ≡ option_and_then (slice_get vs) o
later v vs None = refl
later v vs (Some k) = let e : k + 1 ≡ suc k = omega arith in rw e refl

-- the variable at the slot of a name, among those of variables and others behind them
pub named_variable : (vs : List CheckedVariable) (others : List (List ℕ)) (w : List ℕ) → option_and_then (slice_get vs) (slot_in (Word w) (map Word (variable_names vs ++ others))) ≡ variable_named w vs
named_variable [] others w = none_at (slot_in (Word w) (map Word others))
named_variable (v ∷ vs) others w = by_test (later v vs (slot_in (Word w) (map Word (variable_names vs ++ others))) ∙ named_variable vs others w) (same_word w v.declared.name)
  where
    by_test : option_and_then (slice_get (v ∷ vs)) (option_map (λ k. k + 1) (slot_in (Word w) (map Word (variable_names vs ++ others)))) ≡ variable_named w vs → (b : Bool) → option_and_then (slice_get (v ∷ vs)) (if b then Some 0 else option_map (λ k. k + 1) (slot_in (Word w) (map Word (variable_names vs ++ others)))) ≡ (if b then Some v else variable_named w vs)
    by_test rest true = refl
    by_test rest false = rest

-- a variable as the code keeps it
pub got : {V : Type 0} (view : V → CheckedVariable) (vs : List V) (k : ℕ) → option_map view (slice_get vs k) ≡ slice_get (map view vs) k
got view [] k = refl
got view (v ∷ vs) zero = refl
got view (v ∷ vs) (suc k) = got view vs k
