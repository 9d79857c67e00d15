-- What is known of all items of a sequence (form).
use Rattle.std.specs.Prelude.{◌≡◌, pos, int_le, nat_le, min, max, Bool, true, false, ◌&&◌, List}
use Rattle.std.specs.List.{list_all}
use Rattle.ioa_values.specs.Data.{Data, number, truth, constant}
use Rattle.ioa_values.specs.declared.item_kind.ItemKind.{ItemKind}
use Rattle.ioa_values.specs.declared.item_kind.ItemKind.TheVariants.{Nothing, Truths, Naturals, Integers, Constants, Any}

-- whether a value is of a kind
abbrev pub is_of_kind : ItemKind → Data → Bool
is_of_kind Any d = true
is_of_kind Truths (truth b) = true
is_of_kind Naturals (number z) = int_le (pos 0) z
is_of_kind Integers (number z) = true
is_of_kind (Constants least greatest) (constant k) = nat_le least k && nat_le k greatest
is_of_kind _ _ = false

-- all items are of a kind
abbrev pub AreOfKind : ItemKind → List Data → Type 0
AreOfKind kind ds = list_all (is_of_kind kind) ds ≡ true

-- the narrowest kind that items of two kinds have in common
abbrev pub common_kind : ItemKind → ItemKind → ItemKind
common_kind Nothing kind = kind
common_kind kind Nothing = kind
common_kind Truths Truths = Truths
common_kind Naturals Naturals = Naturals
common_kind Naturals Integers = Integers
common_kind Integers Naturals = Integers
common_kind Integers Integers = Integers
common_kind (Constants least greatest) (Constants first last) = Constants (min least first) (max greatest last)
common_kind _ _ = Any
