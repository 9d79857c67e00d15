-- What a `&` to a row of nodes shows. Assumes `Logic`.
--     nodes_seen              [`first`; `last`; the items; the pointers]
--     item_at, link_at_seen   what is lent of the node of an index
use Prim.Native.Nat.{ℕ, zero, suc, ◌+◌, ◌<◌}
use native.Mathlib.Omega.{arith}
use mathlib.Core.List.{List, [], ◌∷◌}
use lib.ListN.{length, get_or}
use seplogic.Ra.Ura.{Ura}
use base.Logic.{ent, via, fst∗, snd∗}
use base.Fml.{Lft}
use types.Logic.{Logic, sem}
use types.Kit.{Item, Goal, Step, step, ‵, ◌$◌, move, drop, fsplit, fsplit3}
use denote.RattleType.{RattleType}
use denote.Memory.{hidden_shr}
use denote.RawPtr.{RawPtr, ◌+ₚ◌}
use denote.Struct.Lending.{lent_at}
use denote.Opens.{unhide, hide}
use Rattle.std_alloc.proofs.BoxSteps.Form.{Bx, R}
use Rattle.ioa_rawlog.specs.Links.{Link, links_of}
use Rattle.std_collections.specs.LinkedList.Ownership.{spread_lent}
use Rattle.ioa_rawlog.specs.Ownership.{item_offset, item_places, links_lent}
use Rattle.ioa_rawlog.proofs.Chained.{link_at}
use Rattle.ioa_rawlog.proofs.Owned.{D, Nr}

module _ {M : Type 1} {𝓤 : Ura M} {𝓛 : Logic 𝓤} {K : Type 0} {Γ : List (Item 𝓤)} {G : Goal 𝓤 𝓛.H} where
  pub nodes_seen : K → (E : Bx) {κ : Lft} (d : D E) (b o : ℕ)
      → Step K 𝓛 (‵ (hidden_shr RawPtr κ d.first b (o + 0)) ∷ ‵ (hidden_shr RawPtr κ d.last b (o + 8))
      ∷ ‵ (spread_lent (R E) (item_places (R E) (links_of d.frames)) d.items κ) ∷ ‵ (links_lent (links_of d.frames) κ) ∷ Γ) G (‵ (hidden_shr (Nr E) κ d b o) ∷ Γ) G
  nodes_seen t E d b o = step (λ s.
      unhide t $ fsplit t $ move t (1 ∷ []) $ fsplit t $ move t (2 ∷ []) $ fsplit t $ move t (1 ∷ []) $ drop t $
      -- [`first`; `last`; nothing; the items; the pointers]
      fsplit3 t $ move t (2 ∷ []) $ drop t $ hide t $ move t (1 ∷ []) $ hide t $ move t (1 ∷ []) $ s)

module _ {M : Type 1} {𝓤 : Ura M} (𝓛 : Logic 𝓤) (κ : Lft) where
  pub item_at : (S : RattleType) (ls : List Link) (xs : List S.Denot) (i : ℕ) (y : S.Denot) → i < length ls → i < length xs
      → ent 𝓤 (sem 𝓛 (spread_lent S (item_places S ls) xs κ)) (sem 𝓛 (lent_at S ((link_at ls i).0 +ₚ item_offset S) (get_or xs i y) κ))
  item_at S [] xs i y p q = absurd (omega arith)
  item_at S (l ∷ ls) [] i y p q = absurd (omega arith)
  item_at S (l ∷ ls) (x ∷ xs) zero y p q = fst∗ 𝓤 _ (sem 𝓛 (spread_lent S (item_places S ls) xs κ))
  item_at S (l ∷ ls) (x ∷ xs) (suc i) y p q = via 𝓤 _ (snd∗ 𝓤 (sem 𝓛 (lent_at S (l.0 +ₚ item_offset S) x κ)) _) (item_at S ls xs i y (omega arith) (omega arith))

  pub link_at_seen : (ls : List Link) (i : ℕ) → i < length ls
      → ent 𝓤 (sem 𝓛 (links_lent ls κ)) (sem 𝓛 (lent_at RawPtr ((link_at ls i).0 +ₚ 0) (link_at ls i).1 κ))
  link_at_seen [] i p = absurd (omega arith)
  link_at_seen (l ∷ ls) zero p = fst∗ 𝓤 _ (sem 𝓛 (links_lent ls κ))
  link_at_seen (l ∷ ls) (suc i) p = via 𝓤 _ (snd∗ 𝓤 (sem 𝓛 (lent_at RawPtr (l.0 +ₚ 0) l.1 κ)) _) (link_at_seen ls i (omega arith))
