-- The table in which each receipt is put at its index (form).
use Rattle.std.specs.Prelude.{List, [], ◌∷◌, Option, Some, None, option_and_then, slice_get, slice_set}
use Rattle.std.specs.Coded.{Coded, coded_list, coded_option}
use Rattle.ioa_transitions.specs.Entries.{PlainEntry, entry_code}
use Rattle.ioa_receipts.specs.declared.receipts.Receipt.{Receipt}

-- what is at each index: an entry, or nothing yet
abbrev pub PlainTable : Type 0
PlainTable = List (Option PlainEntry)

abbrev pub plain_table_code : Coded PlainTable
plain_table_code = coded_list (coded_option entry_code)

-- the table after a receipt, by what is at its index: there has to be such a place, and nothing in it
abbrev pub put_by : Receipt → PlainTable → Option (Option PlainEntry) → Option PlainTable
put_by r t None = None
put_by r t (Some None) = Some (slice_set t r.index (Some r.entry))
put_by r t (Some (Some e)) = None

abbrev pub put : Receipt → PlainTable → Option PlainTable
put r t = put_by r t (slice_get t r.index)

-- the table after receipts, one after another
abbrev pub put_all : List Receipt → PlainTable → Option PlainTable
put_all [] t = Some t
put_all (r ∷ rs) t = option_and_then (put_all rs) (put r t)
