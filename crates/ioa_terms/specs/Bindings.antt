-- Environments (profile): finite maps from names to values, as lists of pairs; the first pair of a name counts.
use Rattle.std.specs.Prelude.{ℕ, ◌+◌, Bool, false, ◌&&◌, if◌then◌else◌, List, [], ◌∷◌, ◌++◌, Option, Some, None, map, nat_eq}
use Rattle.std.specs.Option.{option_map}
use Rattle.std.specs.List.{zip}
use Rattle.std.specs.Ordering.{int_eq}
use lib.Pointwise.{pointwise}
use Rattle.ioa_values.specs.Data.{Data, constant}
use Rattle.ioa_terms.specs.declared.name.Name.{Name}
use Rattle.ioa_terms.specs.declared.name.Name.TheVariants.{Word, Variable, Queue}

abbrev pub Bindings : Type 0
Bindings = List (Name × Data)

-- whether two words are the same
abbrev pub same_word : List ℕ → List ℕ → Bool
same_word = pointwise nat_eq

-- whether two names are the same
abbrev pub same_name : Name → Name → Bool
same_name (Word x) (Word y) = same_word x y
same_name (Variable x k) (Variable y l) = same_word x y && int_eq k l
same_name (Queue i j) (Queue k l) = int_eq i k && int_eq j l
same_name x y = false

-- the value of a name
abbrev pub lookup : Name → Bindings → Option Data
lookup x [] = None
lookup x (b ∷ e) = if same_name x b.0 then Some b.1 else lookup x e

-- the environment in which a name has another value; if the name is not bound, the same environment
abbrev pub put : Name → Data → Bindings → Bindings
put x v [] = []
put x v (b ∷ e) = if same_name x b.0 then (b.0, v) ∷ e else b ∷ put x v e

-- the names that are bound, in order
abbrev pub names_of : Bindings → List Name
names_of e = map (λ b. b.0) e

-- the first position of a name in a list of names: its slot
abbrev pub slot_in : Name → List Name → Option ℕ
slot_in x [] = None
slot_in x (y ∷ ys) = if same_name x y then Some 0 else option_map (λ k. k + 1) (slot_in x ys)

-- the constants of the text's enumerations, each under its word: a constant is its index among them
abbrev pub constants_from : ℕ → List (List ℕ) → Bindings
constants_from k [] = []
constants_from k (w ∷ ws) = (Word w, constant k) ∷ constants_from (k + 1) ws

-- the environment of variables with their values, and of the constants behind them
abbrev pub environment : List Name → List Data → List (List ℕ) → Bindings
environment names values constants = zip names values ++ constants_from 0 constants
