-- Values ascend exactly if each comes before the next one.
use Rattle.std.proofs.Common.{◌≡◌, Bool, true, false, List, [], ◌∷◌, refl}
use Rattle.std.specs.declared.cmp.Ordering.{Ordering}
use Rattle.std.specs.declared.cmp.Ordering.TheVariants.{Less, Equal, Greater}
use Rattle.ioa_values.specs.Collections.{by_order, IsAscending}
use Rattle.ioa_values.specs.Data.{Data}
use Rattle.ioa_values.specs.DataOrder.{data_cmp}
use Rattle.ioa_values.proofs.Ascending.{all_later}
use Rattle.ioa_value_reader.specs.Ascent.{ascends, ascends_behind}

both_less : (o : Ordering) (b : Bool) → by_order o b false false ≡ true → (o ≡ Less) × (b ≡ true)
both_less Less b e = (refl, e)
both_less Equal b e = absurd cc
both_less Greater b e = absurd cc

ascends_on : (d : Data) (ds : List Data) → ascends_behind d ds ≡ true → IsAscending (d ∷ ds)
ascends_on d [] e = (tt, tt)
ascends_on d (x ∷ xs) e =
    let p = both_less (data_cmp d x) (ascends_behind x xs) e in
    let r = ascends_on x xs p.1 in
    ((p.0, all_later d x xs p.0 r.0), r)

-- what passes the test ascends
pub ascends_told : (ds : List Data) → ascends ds ≡ true → IsAscending ds
unfolding ascends
ascends_told [] e = tt
ascends_told (d ∷ ds) e = ascends_on d ds e

behind_passes : (d : Data) (ds : List Data) → IsAscending (d ∷ ds) → ascends_behind d ds ≡ true
behind_passes d [] h = refl
behind_passes d (x ∷ xs) h = rw h.0.0 (behind_passes x xs h.1)

-- what ascends passes the test
pub ascending_passes : (ds : List Data) → IsAscending ds → ascends ds ≡ true
unfolding ascends
ascending_passes [] h = refl
ascending_passes (d ∷ ds) h = behind_passes d ds h
