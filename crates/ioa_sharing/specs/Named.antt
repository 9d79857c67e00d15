-- What a contract sees of a shared value whose type says its maker, and of such a maker.
use Rattle.std.specs.Prelude.{ℕ}
use Rattle.ioa_sharing.specs.Shared.{maker_count, shared_number, shared_value}
use Rattle.ioa_sharing.specs.declared.named.Origin.{Ghosts}
use Rattle.ioa_sharing.specs.declared.named.MakerOf.{MakerOf}
use Rattle.ioa_sharing.specs.declared.named.SharedOf.{SharedOf}

module _ {O : Type 0} {g : Ghosts O} where
  -- how many numbers a maker has given
  abbrev pub maker_of_count : MakerOf O g → ℕ
  maker_of_count m = maker_count m.maker

  module _ {T A : Type 0} where
    -- the number
    abbrev pub shared_of_number : SharedOf O T A g → ℕ
    shared_of_number s = shared_number s.shared

    -- the value
    abbrev pub shared_of_value : SharedOf O T A g → T
    shared_of_value s = shared_value s.shared
