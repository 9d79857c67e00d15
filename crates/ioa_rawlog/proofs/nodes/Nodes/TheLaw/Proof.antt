-- A `&` to the nodes is made where one to an item is. Assumes `Logic`.
use mathlib.Core.List.{[], ◌++◌}
use base.Fml.{Incl-trans}
use contract.BorrowLft.{meet_⊑_left}
use denote.RattleType.{RattleType}
use denote.Param.Laws.{Laws}
use denote.Param.Shared.{copy_shared}
use denote.Struct.Field.{RawPtr-field}
use denote.Struct.Laws.{RawPtr-copy}
use denote.Struct.Lending.{of_Lends}
use Rattle.core.specs.declared.alloc.Allocator.{Ghosts}
use Rattle.ioa_rawlog.specs.Links.{links_of}
use Rattle.ioa_rawlog.specs.contracts.nodes.Nodes as N
use Rattle.ioa_rawlog.proofs.nodes.Nodes.TheLaw.Statement.{statement}
use Rattle.ioa_rawlog.proofs.Shared.{nodes_lent_laws, lends_nodes}

pub shares : (R A : RattleType) (g : Ghosts A.Denot) (L : Laws R) (K : Laws A) → statement R A g L K
shares R A g L K =
    let pointer = copy_shared RawPtr-field RawPtr-copy in
    of_Lends (N.struct R A g) (N.the_codes R.Denot A.Denot R.coded A.coded) (N.the_heap R A g) (N.the_lent R A g)
    (λ d p. nodes_lent_laws R L.shr_laws (links_of d.frames) d.items) (pointer, (pointer, tt))
    (λ M 𝓤 𝓛 d p.
    let within = Incl-trans (meet_⊑_left (R.lives ++ (A.lives ++ [])) _) (meet_⊑_left R.lives (A.lives ++ [])) in
    lends_nodes 𝓛 (N.the_row R A g).lives R A g.dealloc_token L within d.frames d.items)
