-- What a contract sees of a shared value and of its maker.
use Rattle.std.specs.Prelude.{◌≡◌, ◌<◌, ◌-◌, ◌^◌, ℕ}
use Rattle.std.specs.Arc.{arc_value}
use Rattle.ioa_sharing.specs.declared.shared.Maker.{Maker}
use Rattle.ioa_sharing.specs.declared.shared.Shared.{Shared}

-- the name of the list that a maker keeps, which stands for the maker
abbrev pub maker_name : Maker → ℕ
maker_name m = m.ledger.name

-- how many numbers it has given
abbrev pub maker_count : Maker → ℕ
maker_count m = m.count

-- two numbers are one that was given once: the last number may be given more often
abbrev pub IsOneNumber : ℕ → ℕ → Type 0
IsOneNumber m n = (m ≡ n) × (m < 2 ^ 64 - 1)

module _ {T A : Type 0} where
  -- the name of the maker that gave the number
  abbrev pub shared_maker : Shared T A → ℕ
  shared_maker s = s.entry.name

  -- the number
  abbrev pub shared_number : Shared T A → ℕ
  shared_number s = s.number

  -- the value
  abbrev pub shared_value : Shared T A → T
  shared_value s = arc_value s.value
