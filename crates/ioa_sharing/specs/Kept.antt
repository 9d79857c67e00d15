-- What the tokens own: the list's newest state, or that it has reached a state in which a place has a value.
use Rattle.std.specs.Prelude.{◌≡◌, ℕ, List, Some, slice_get}
use base.Fraction.{full_share}
use base.Stored.{Gv, Coded}
use base.Growing.{Order, prefixes, latest, at_least}
use base.Fml.{Fml, ftrue, fsep, fex}

-- The list is one of ghost values, so that it names no type. Each is its own code.
abbrev pub itself : Coded Gv
itself = record { code = λ g. g; inj = λ x y p. p }

-- a list that only grows
abbrev pub logs : Order (List Gv)
logs = prefixes itself

-- the list with this name is this one, and whoever owns this may put a value behind it
abbrev pub ledger_owns : ℕ → List Gv → Fml
ledger_owns name log = latest logs full_share name log

module _ {X : Type 0} (code : X → Gv) where
  abbrev pub listed : ℕ → ℕ → X → List Gv → Fml
  listed name number value log =
      fsep (fex (slice_get log number ≡ Some (code value)) (λ _. ftrue)) (at_least logs name log)

  -- the list with this name has reached a state in which the place with this number has this value
  abbrev pub entry_owns : ℕ → ℕ → X → Fml
  entry_owns name number value = fex (List Gv) (listed name number value)
