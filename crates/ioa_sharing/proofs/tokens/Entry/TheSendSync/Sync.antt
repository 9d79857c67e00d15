use denote.RattleType.{RattleType}
use denote.Param.Send.{IsSync, sendable}
use denote.Struct.Struct.{Struct}
use denote.Struct.Owning.{shape}
use Rattle.ioa_sharing.specs.contracts.tokens.Entry.{the_row, the_type}
use Rattle.ioa_sharing.proofs.Walk.{entry_keyless}

-- nor does a `&` to an entry
pub sync : (T : RattleType) → IsSync (the_row T)
sync T = let fields : IsSync (Struct (shape (the_type T))) = search sendable depth 20 in
    record { shared = λ e b o ν. (fields.shared (tt, tt) b o ν, entry_keyless T.coded.code e.name e.number e.value) }
