-- A `&` to the nodes is made where one to an item is, and what it holds has the laws of a `&`. Assumes `Logic`.
use mathlib.Core.List.{List, [], ◌∷◌}
use seplogic.Ra.Ura.{Ura}
use mir.Syntax.{Ty}
use base.Fml.{Lft, Fml, ftrue, ffalse, Incl}
use base.Fraction.{full_share}
use types.Logic.{Logic}
use denote.RattleType.{RattleType, RowLaws}
use denote.Param.Laws.{Laws}
use denote.RawPtr.{Ptr, RawPtr, lies_at, ◌+ₚ◌, ptr_row_laws}
use denote.Sharing.{ShrLaws}
use denote.SharingLaws.{beside_shr_laws, nothing_shr_laws}
use denote.Shares.{Shares-less}
use denote.Param.Shared.{copy_shared}
use contract.BorrowLft.{⊑_static}
use denote.Struct.Field.{RawPtr-field}
use denote.Struct.Laws.{RawPtr-copy}
use denote.Struct.Lending.{lent_at, lent_at_shr_laws, Lends-lies, Lends-first, Lends, Lends-both, Lends-nothing}
use Rattle.std_collections.specs.Btree.Lent.{spread}
use Rattle.std_collections.specs.LinkedList.Ownership.{spread_lent}
use Rattle.std_collections.proofs.ListMemory.Shared.{spread_lent_laws}
use Rattle.ioa_rawlog.specs.Links.{Link, links_of}
use Rattle.ioa_rawlog.specs.Ownership.{item_places, frees, frame, frames_own, nodes_own, links_lent, nodes_lent}

links_lent_laws : (ls : List Link) → ShrLaws (links_lent ls)
links_lent_laws [] = nothing_shr_laws
links_lent_laws (l ∷ ls) = beside_shr_laws _ _ (lent_at_shr_laws RawPtr ptr_row_laws (l.0 +ₚ 0) l.1) (links_lent_laws ls)

module _ (R : RattleType) (L : RowLaws R) where
  pub nodes_lent_laws : (ls : List Link) (xs : List R.Denot) → ShrLaws (nodes_lent R ls xs)
  nodes_lent_laws ls xs = beside_shr_laws _ _ (spread_lent_laws R L (item_places R ls) xs) (links_lent_laws ls)

module _ {M : Type 1} {𝓤 : Ura M} (𝓛 : Logic 𝓤) (l : Lft) where
  lends_pointer : (p x : Ptr) → Lends 𝓛 (lies_at RawPtr full_share p x) (lent_at RawPtr p x) l
  lends_pointer p x = Lends-lies 𝓛 RawPtr l p x (Shares-less 𝓛 RawPtr [] l (⊑_static l) ((copy_shared RawPtr-field RawPtr-copy).shares M 𝓤 𝓛) x)

  module _ (R A : RattleType) (holds : A.Denot → Ty → Ptr → Fml) where
    lends_frames : (ns : List (Link × A.Denot)) → Lends 𝓛 (frames_own R A holds ns) (links_lent (links_of ns)) l
    lends_frames [] = Lends-nothing 𝓛 ftrue l
    lends_frames (n ∷ ns) =
        let t : Lft → Fml = lent_at RawPtr (n.0.0 +ₚ 0) n.0.1 in
        let p = lends_pointer (n.0.0 +ₚ 0) n.0.1 in
        Lends-both 𝓛 (frame R A holds n) (frames_own R A holds ns) t (links_lent (links_of ns)) l
        (Lends-first 𝓛 (lies_at RawPtr full_share (n.0.0 +ₚ 0) n.0.1) (frees R A holds n.0.0 n.1) t l p)
        (lends_frames ns)

    module _ (L : Laws R) (inc : Incl l R.lives) where
      lends_items : (ps : List Ptr) (xs : List R.Denot) → Lends 𝓛 (spread R ps xs) (spread_lent R ps xs) l
      lends_items [] [] = Lends-nothing 𝓛 ftrue l
      lends_items [] (x ∷ xs) = Lends-nothing 𝓛 ffalse l
      lends_items (p ∷ ps) [] = Lends-nothing 𝓛 ffalse l
      lends_items (p ∷ ps) (x ∷ xs) =
          Lends-both 𝓛 (lies_at R full_share p x) (spread R ps xs) (lent_at R p x) (spread_lent R ps xs) l
          (Lends-lies 𝓛 R l p x (Shares-less 𝓛 R R.lives l inc (L.shares 𝓛) x)) (lends_items ps xs)

      pub lends_nodes : (ns : List (Link × A.Denot)) (xs : List R.Denot) → Lends 𝓛 (nodes_own R A holds ns xs) (nodes_lent R (links_of ns) xs) l
      lends_nodes ns xs =
          let ps = item_places R (links_of ns) in
          Lends-both 𝓛 (spread R ps xs) (frames_own R A holds ns) (spread_lent R ps xs) (links_lent (links_of ns)) l (lends_items ps xs) (lends_frames ns)
