-- Loops that go through nodes, channels and scripts, one after another.
use Rattle.std.proofs.Common.{◌≡◌, ◌<◌, ◌+◌, ◌-◌, ℕ, suc, Bool, false, List, [], ◌∷◌, refl, map, take, drop, length, get_or, arith}
use Rattle.std.specs.List.{list_any}
use Rattle.std.proofs.lemmas.List.{take_more, drop_more, map-append}
use Rattle.ioa_sections.specs.Distinct.{differ_from}

-- of those that are left, the first is told apart from those before
pub differ_more : {A D : Type 0} (same : A → A → Bool) (view : D → A) (items : List D) (i : ℕ) (d : D) → i < length items → d ≡ get_or items i d → list_any (λ x. same x (view d)) (map view (take i items)) ≡ false → differ_from same (map view (take i items)) (map view (drop i items)) ≡ differ_from same (map view (take (i + 1) items)) (map view (drop (i + 1) items))
differ_more same view items i d within at none =
    rw (drop_more items i d within, take_more items i d within, ← at, map-append view (take i items) (d ∷ []), none) refl

-- one fewer is left
pub one_fewer : (many i : ℕ) → i < many → many - i ≡ suc (many - (i + 1))
one_fewer many i less = omega (arith, less)
