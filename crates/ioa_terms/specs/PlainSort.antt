-- Sorts as a text spells them (profile), as plain data without memory.
use Rattle.std.specs.Prelude.{ℕ, List}

-- a sort: of truth values, of whole numbers, of those from 0 on, of sequences, of finite sets, of finite maps from keys
-- to values, or the type of a name
pub data PlainSort : Type 0 where
  booleans : PlainSort
  integers : PlainSort
  naturals : PlainSort
  sequences : PlainSort → PlainSort
  sets : PlainSort → PlainSort
  maps : PlainSort → PlainSort → PlainSort
  named_type : List ℕ → PlainSort
  deriving IsSet as PlainSort-set
