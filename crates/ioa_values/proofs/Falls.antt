-- Each list of a value's parts is lighter than the value, as a recursion over values counts it.
use Rattle.std.proofs.Common.{◌≡◌, ℕ, zero, suc, ◌+◌, ◌*◌, ◌≤◌, List, [], ◌∷◌, Some, arith}
use Rattle.std.specs.Prelude.{slice_get}
use denote.Param.Weighed.{most, w_this}
use Rattle.ioa_values.specs.Data.{Data}
use Rattle.ioa_values.specs.Weight.{weight, weights, pairs_weight}
use Rattle.ioa_values.specs.declared.value.Value.{Value}
use Rattle.ioa_values.specs.declared.entry_tree.EntryTree.TheDeep.{size-Value}

-- of items
pub most_items : (ds : List Value) → most (w_this.weight Value size-Value) ds ≤ 2 * weights ds + 2
most_items [] = omega arith
most_items (d ∷ ds) = omega (arith, most_items ds)

-- an item of a sequence
pub item_falls : (ds : List Data) (i : ℕ) (d : Data) → slice_get ds i ≡ Some d → weight d + 1 ≤ weights ds
item_falls [] i d h = absurd (cc)
item_falls (e ∷ ds) zero d h = let same : e ≡ d = cc in rw (← same) (omega arith)
item_falls (e ∷ ds) (suc i) d h = omega (arith, item_falls ds i d h)

-- the key and the value of an entry of a map
pub entry_falls : (es : List (Data × Data)) (i : ℕ) (e : Data × Data) → slice_get es i ≡ Some e → weight e.0 + weight e.1 + 1 ≤ pairs_weight es
entry_falls [] i e h = absurd (cc)
entry_falls (f ∷ es) zero e h = let same : f ≡ e = cc in rw (← same) (omega arith)
entry_falls (f ∷ es) (suc i) e h = omega (arith, entry_falls es i e h)
