-- What holds of the values that operators, functions and displays make, whatever is said of a value.
use Rattle.std.proofs.Common.{◌≡◌, ℤ, Bool, true, false, List, [], ◌∷◌, Option, Some, None, refl, if◌then◌else◌}
use Rattle.std.specs.Prelude.{pos, int_le}
use Rattle.std.specs.List.{AllByRecursion}
use Rattle.std.specs.Option.{IfSome, option_and_then, option_map, option_or}
use Rattle.ioa_values.specs.Data.{Data, number, truth, constant, tuple, sequence, finite_set, finite_map, as_number, as_truth}
use Rattle.ioa_operators.specs.Operators.{sequence_of, on_numbers, on_truths, on_division, division_value, has_member, first, rest, size_value}

-- what is made of a value, if there is one
pub map_holds : {A B : Type 0} (P : A → Type 0) (Q : B → Type 0) (f : A → B) (o : Option A) → IfSome o P → ((a : A) → P a → Q (f a)) → IfSome (option_map f o) Q
map_holds P Q f None h g = tt
map_holds P Q f (Some a) h g = g a h

pub and_then_holds : {A B : Type 0} (P : A → Type 0) (Q : B → Type 0) (f : A → Option B) (o : Option A) → IfSome o P → ((a : A) → P a → IfSome (f a) Q) → IfSome (option_and_then f o) Q
and_then_holds P Q f None h g = tt
and_then_holds P Q f (Some a) h g = g a h

-- the same of any value
pub map_holds_any : {A B : Type 0} (Q : B → Type 0) (f : A → B) (o : Option A) → ((a : A) → Q (f a)) → IfSome (option_map f o) Q
map_holds_any Q f None g = tt
map_holds_any Q f (Some a) g = g a

pub and_then_holds_any : {A B : Type 0} (Q : B → Type 0) (f : A → Option B) (o : Option A) → ((a : A) → IfSome (f a) Q) → IfSome (option_and_then f o) Q
and_then_holds_any Q f None g = tt
and_then_holds_any Q f (Some a) g = g a

-- the first of two values that there is
pub or_holds : {A : Type 0} (P : A → Type 0) (o p : Option A) → IfSome o P → IfSome p P → IfSome (option_or o p) P
or_holds P None p h g = g
or_holds P (Some v) p h g = h

module _ (P : Data → Type 0) where
  -- a value under a test
  pub test_holds : (b : Bool) (d : Data) → (b ≡ true → P d) → IfSome (if b then Some d else None) P
  test_holds true d g = g refl
  test_holds false d g = tt

  -- what two numbers, or two truth values, give
  pub numbers_hold : (f : ℤ → ℤ → Data) (x y : Data) → ((m n : ℤ) → P (f m n)) → IfSome (on_numbers f x y) P
  numbers_hold f x y g =
      and_then_holds_any P (λ m. option_map (f m) (as_number y)) (as_number x) (λ m. map_holds_any P (f m) (as_number y) (g m))

  pub truths_hold : (f : Bool → Bool → Bool) (x y : Data) → ((b : Bool) → P (truth b)) → IfSome (on_truths f x y) P
  truths_hold f x y g =
      and_then_holds_any P (λ a. option_map (λ b. truth (f a b)) (as_truth y)) (as_truth x)
      (λ a. map_holds_any P (λ b. truth (f a b)) (as_truth y) (λ b. g (f a b)))

  pub division_holds : (f : ℤ → ℤ → ℤ) (x y : Data) → ((z : ℤ) → P (number z)) → IfSome (on_division f x y) P
  division_holds f x y g =
      and_then_holds_any P (λ m. option_and_then (division_value f m) (as_number y)) (as_number x)
      (λ m. and_then_holds_any P (division_value f m) (as_number y) (λ n. test_holds (int_le (pos 1) n) (number (f m n)) (λ h. g (f m n))))

  -- whether there is a member, and how many there are
  pub member_holds : (d x : Data) → ((b : Bool) → P (truth b)) → IfSome (has_member d x) P
  member_holds d (number z) g = tt
  member_holds d (truth b) g = tt
  member_holds d (constant k) g = tt
  member_holds d (tuple ds) g = tt
  member_holds d (sequence ds) g = g _
  member_holds d (finite_set ds) g = g _
  member_holds d (finite_map es) g = tt

  pub size_holds : (x : Data) → ((z : ℤ) → P (number z)) → IfSome (size_value x) P
  size_holds (number z) g = tt
  size_holds (truth b) g = tt
  size_holds (constant k) g = tt
  size_holds (tuple ds) g = tt
  size_holds (sequence ds) g = tt
  size_holds (finite_set ds) g = g _
  size_holds (finite_map es) g = g _

  -- the first item of a sequence, and the others
  pub first_holds : (ds : List Data) → AllByRecursion P ds → IfSome (first ds) P
  first_holds [] h = tt
  first_holds (d ∷ ds) h = h.0

  pub rest_holds : (Q : Data → Type 0) → ((ds : List Data) → AllByRecursion P ds → Q (sequence_of ds)) → (ds : List Data) → AllByRecursion P ds → IfSome (rest ds) Q
  rest_holds Q g [] h = tt
  rest_holds Q g (d ∷ ds) h = g ds h.1
