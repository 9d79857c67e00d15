-- Nodes cross threads as their items and their handles do.
use Rattle.core.specs.Prelude.{List, [], ◌∷◌}
use mir.Syntax.{Ty}
use base.Fraction.{full_share}
use base.Fml.{ftrue}
use base.Shift.{Keyless}
use denote.Exit.{Exit, unchanged, leaves, hidden, under}
use denote.RattleType.{RattleType}
use denote.RawPtr.{Ptr, block_ptr, null_ptr, block_of, count_of, lies_at, room_for, in_block}
use denote.Builtin.{RawPtr}
use denote.Struct.Struct.{exits_of}
use denote.Struct.Owning.{shape, fields, to}
use denote.Struct.Lending.{lent_at}
use denote.Param.Send.{IsSend, IsSync, Quiet, Common, AllSend, part_keyless, owning_send, struct_send, struct_sync, sendable}
use Rattle.core.specs.declared.alloc.Allocator.{Ghosts}
use Rattle.std_alloc.proofs.SendSync.{FreesAnywhere}
use Rattle.std_collections.specs.Btree.Lent.{spread}
use Rattle.std_collections.specs.LinkedList.Ownership.{spread_lent}
use Rattle.ioa_rawlog.specs.Links.{Link, links_of}
use Rattle.ioa_rawlog.specs.Ownership.{item_places, frames_own, links_lent}
use Rattle.ioa_rawlog.specs.contracts.nodes.Nodes as N

-- ---- of one place
quiet : {D X : Type 0} (f : D → X) (e : Exit X) → Quiet e → Quiet (hidden (under f e))
quiet f unchanged q = λ x w. tt
quiet f (leaves L l S s r₀) q = λ d. q (f d)

lies : (R : RattleType) → IsSend R → (p : Ptr) (x : R.Denot) → Keyless (lies_at R full_share p x)
lies R s (block_ptr b o) x = part_keyless R s full_share x b o
lies R s null_ptr x = tt

room : (τ : Ty) (p : Ptr) → Keyless (room_for τ p)
room τ (block_ptr b o) = tt
room τ null_ptr = tt

inside : (p : Ptr) → Keyless (in_block p ftrue)
inside (block_ptr b o) = tt
inside null_ptr = tt

seen : (R : RattleType) → IsSync R → (p : Ptr) (x : R.Denot) → Common (lent_at R p x)
seen R s p x κ = (inside p, s.shared x (block_of p) (count_of p) κ)

pointer_send : IsSend RawPtr
pointer_send = search sendable

pointer_sync : IsSync RawPtr
pointer_sync = search sendable

-- ---- of all places
spread_crosses : (R : RattleType) → IsSend R → (ps : List Ptr) (xs : List R.Denot) → Keyless (spread R ps xs)
spread_crosses R s [] [] = tt
spread_crosses R s [] (x ∷ xs) = tt
spread_crosses R s (p ∷ ps) [] = tt
spread_crosses R s (p ∷ ps) (x ∷ xs) = (lies R s p x, spread_crosses R s ps xs)

links_common : (ls : List Link) → Common (links_lent ls)
links_common [] κ = tt
links_common (l ∷ ls) κ = (seen RawPtr pointer_sync _ l.1 κ, links_common ls κ)

items_common : (R : RattleType) → IsSync R → (ps : List Ptr) (xs : List R.Denot) → Common (spread_lent R ps xs)
items_common R y [] xs κ = tt
items_common R y (p ∷ ps) [] κ = tt
items_common R y (p ∷ ps) (x ∷ xs) κ = (seen R y p x κ, items_common R y ps xs κ)

module _ (R A : RattleType) (g : Ghosts A.Denot) where
  pub nodes_sync : IsSync R → IsSync (N.the_row R A g)
  nodes_sync y = let O = N.the_type R A g in record {
    shared = λ d b o κ. (
      (struct_sync (shape O) (pointer_sync, (pointer_sync, tt))).shared (to O d) b o κ,
      (items_common R y (item_places R (links_of d.frames)) d.items κ, links_common (links_of d.frames) κ),
    );
  }

  module _ (sr : IsSend R) (sa : IsSend A) (f : FreesAnywhere A.Denot g) where
    frames_cross : (ns : List (Link × A.Denot)) → Keyless (frames_own R A g.dealloc_token ns)
    frames_cross [] = tt
    frames_cross (n ∷ ns) = (
      (lies RawPtr pointer_send _ n.0.1, (lies A sa _ n.1, (f.frees n.1 _ n.0.0, ((room _ _, (room _ _, room _ _)), room _ n.0.0)))),
      frames_cross ns,
    )

    pub nodes_send : IsSend (N.the_row R A g)
    nodes_send =
        let O = N.the_type R A g in
        let all : AllSend (fields O) = (pointer_send, (pointer_send, tt)) in
        owning_send O all (λ d. (spread_crosses R sr _ d.items, frames_cross d.frames)) (λ k. quiet (to O) (exits_of k (fields O)) ((struct_send (shape O) all).leaving k))
