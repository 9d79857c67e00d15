-- A `&` to an entry holds what is known, which can be had twice. Assumes `Logic`.
use base.Logic.{snd∗}
use base.Before.{before}
use types.Logic.{sem}
use denote.RattleType.{RattleType}
use denote.Param.Laws.{Laws}
use denote.Param.Shared.{copy_shared}
use denote.Struct.Laws.{field_copy}
use denote.Struct.Lending.{of_Lends}
use Rattle.std.specs.contracts.marker.PhantomData as marker
use Rattle.ioa_sharing.specs.Kept.{entry_owns}
use Rattle.ioa_sharing.specs.contracts.tokens.Entry as Entry
use Rattle.ioa_sharing.proofs.Steps.{twice}
use Rattle.ioa_sharing.proofs.Walk.{lends_twice}
use Rattle.ioa_sharing.proofs.tokens.Entry.TheLaw.Statement.{statement}

pub shares : (T : RattleType) (L : Laws T) → statement T L
shares T L =
    of_Lends (Entry.struct T) (Entry.the_codes T.Denot T.coded (marker.the_row T).coded) (Entry.the_heap T)
    (Entry.the_lent T)
    (λ e p. record {
      contraction = λ M 𝓤 𝓛 κ. twice 𝓛 T.coded e.name e.number e.value;
      mono = λ M 𝓤 𝓛 κ' κ. snd∗ 𝓤 (sem 𝓛 (before κ' κ)) (sem 𝓛 (entry_owns T.coded.code e.name e.number e.value));
    })
    (copy_shared (marker.the_field T) (field_copy (marker.the_type T) tt), tt)
    (λ M 𝓤 𝓛 e p. lends_twice 𝓛 (entry_owns T.coded.code e.name e.number e.value)
    (twice 𝓛 T.coded e.name e.number e.value) (Entry.the_row T).lives)
