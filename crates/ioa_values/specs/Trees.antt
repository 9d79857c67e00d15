-- What a tree of items means (view), and what it keeps (form).
use Rattle.std.specs.Prelude.{◌≡◌, ℕ, ◌+◌, List, [], ◌∷◌, ◌++◌, length}
use Rattle.ioa_values.specs.Canonical.{IsCanonical}
use Rattle.ioa_values.specs.Data.{Data}
use Rattle.ioa_values.specs.ItemKinds.{AreOfKind}
use Rattle.ioa_values.specs.ItemLists.{AreItems}
use Rattle.ioa_values.specs.declared.item_kind.ItemKind.{ItemKind}
use Rattle.ioa_values.specs.declared.tree.TreeForm.{TreeForm}
use Rattle.ioa_values.specs.declared.tree.TreeForm.TheVariants.{Item, Pair}

abbrev pub tree_items : TreeForm → List Data
tree_items (Item d) = d ∷ []
tree_items (Pair left right left_len len kind is_link) = left.value ++ right.value

-- both trees have items, the numbers are how many there are in the first and in both, and all of these are of the kind
pub record ArePaired (left right : List Data) (left_len len : ℕ) (kind : ItemKind) : Type 0 where
  pub first_counted : left_len ≡ length left
  pub counted : len ≡ length left + length right
  pub of_kind : AreOfKind kind (left ++ right)
  pub left_items : AreItems left
  pub right_items : AreItems right

abbrev pub IsTree : TreeForm → Type 0
IsTree (Item d) = IsCanonical d
IsTree (Pair left right left_len len kind is_link) = ArePaired left.value right.value left_len len kind
