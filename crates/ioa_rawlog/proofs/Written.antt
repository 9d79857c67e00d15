-- A block that was written whole is a node, and a node's cells make its block again. Assumes `Logic`.
--     node_made        the written block is a node
--     node_unmade      [`next`; the item's cell; the handle's cell; the way back to the block; the token; what the handle owns; what the item owns]
--     block_back       the first four of them make the room of the block
use mathlib.Core.Path.{refl}
use Prim.Native.Nat.{ℕ, ◌+◌}
use mathlib.Core.List.{List, [], ◌∷◌}
use seplogic.Ra.Ura.{Ura}
use base.Fraction.{full_share}
use mir.Syntax.{Tys, Sym, ty_ptr, ty_struct, tcons, tnil}
use mir.Val.{Val, Vals, vstruct, vcons, vnil}
use mir.Raw.{raw as bare}
use base.Logic.{SProp, ent, sep, all, wand, via, mono_r, apply∗}
use base.Fml.{ftrue, fat, froom}
use prog.Model.{fields_at, rooms_at}
use types.Logic.{Logic, sem}
use contract.Monad.{conj_r}
use types.Kit.{Item, Goal, Seq, Step, step, ‵, raw, some, given, ◌⊛◌, ◌$◌, ◌∵◌, !, qed, by, move, keep, use1, use2, pick, learn, group, split, split3, assume, fsplit3, fjoin3, done}
use denote.Memory.{part_at}
use denote.RawPtr.{Ptr, block_ptr, ptr_val}
use denote.Steps.{nothing}
use borrow.Table.OneValue.{part_in, part_out}
use Rattle.core.proofs.alloc.Calls.{α, token, Fits}
use Rattle.std_alloc.proofs.RawLayout.{as_raw, as_written}
use Rattle.std_alloc.proofs.RcSteps.{Good}
use Rattle.std_alloc.proofs.BoxSteps.Form.{Bx, X, τ, own, R, P}
use Rattle.std_alloc.proofs.BoxSteps.Steps.{el_out, el_in}
use Rattle.ioa_rawlog.specs.Ownership.{fields_rejoin}
use Rattle.ioa_rawlog.proofs.Owned.{pointer, node_val, Hd, io, ho, block_ty, Frees, One, one_closes}

module _ (E : Bx) {M : Type 1} {𝓤 : Ura M} {𝓛 : Logic 𝓤} {K : Type 0} {Γ : List (Item 𝓤)} {G : Goal 𝓤 𝓛.H} where
  open 𝓛 use {H}

  pub node_unmade : K → (b o : ℕ) (n : Ptr) (h : Hd E) (x : X E)
      → ((v hv : Val) → Good (τ E) v → Fits E.al hv → Seq K 𝓛 (‵ (pointer b (o + 0) n) ∷ ‵ (fat full_share (τ E) b (o + io E) v) ∷ ‵ (fat full_share (α E.al) b (o + ho E) hv)
      ∷ ‵ (fields_rejoin (R E) (P E) (block_ptr b o)) ∷ ‵ (token E.al h (block_ty E) (block_ptr b o)) ∷ ‵ (E.al.row.own_val h (hv ∷ [])) ∷ ‵ (own E x (v ∷ [])) ∷ Γ) G)
      → Seq K 𝓛 (‵ (part_at (R E) full_share x b (o + io E)) ∷ ‵ (pointer b (o + 0) n) ∷ ‵ (Frees E (block_ptr b o) h) ∷ Γ) G
  node_unmade t b o n h x k =
      use1 𝓛 (some (λ (v : Val). given (Good (τ E) v) (‵ (fat full_share (τ E) b (o + io E) v) ⊛ ‵ (own E x (v ∷ []))))) (el_out E 𝓛 x b (o + io E)) $
      pick t (λ v. learn t (λ good. split t $ move t (3 ∷ []) $ fsplit3 t $
      -- [the handle; the token; the way back; the item's cell; what the item owns; `next`]
      use1 𝓛 (some (λ (u : Val). ‵ (fat full_share (α E.al) b (o + ho E) u) ⊛ ‵ (E.al.row.own_val h (u ∷ [])))) (part_out 𝓛 (P E) refl full_share h b (o + ho E)) $
      pick t (λ hv. split t $
      use1 𝓛 (given (Fits E.al hv) (‵ (fat full_share (α E.al) b (o + ho E) hv))) (𝓛.laws.at_wt full_share (α E.al) b (o + ho E) hv) $ learn t (λ fits.
      move t (6 ∷ 4 ∷ 0 ∷ 3 ∷ 2 ∷ 1 ∷ 5 ∷ []) $ k v hv good fits))))

  pub block_back : K → (b o : ℕ) (n : Ptr) (v hv : Val)
      → Step K 𝓛 (‵ (froom (block_ty E) b o) ∷ Γ) G
      (‵ (pointer b (o + 0) n) ∷ ‵ (fat full_share (τ E) b (o + io E) v) ∷ ‵ (fat full_share (α E.al) b (o + ho E) hv) ∷ ‵ (fields_rejoin (R E) (P E) (block_ptr b o)) ∷ Γ) G
  block_back t b o n v hv = step (λ next.
      use1 𝓛 (‵ (froom ty_ptr b (o + 0))) (𝓛.laws.at_room ty_ptr b (o + 0) (ptr_val n)) $ move t (1 ∷ []) $
      use1 𝓛 (‵ (froom (τ E) b (o + io E))) (𝓛.laws.at_room (τ E) b (o + io E) v) $ as_raw t (τ E) b (o + io E) $ move t (2 ∷ []) $
      use1 𝓛 (‵ (froom (α E.al) b (o + ho E))) (𝓛.laws.at_room (α E.al) b (o + ho E) hv) $ as_raw t (α E.al) b (o + ho E) $
      move t (2 ∷ 1 ∷ 0 ∷ []) $ group t 3 $
      use2 𝓛 (‵ (froom (block_ty E) b o)) (apply∗ 𝓤 (sep 𝓤 (H.room ty_ptr b (o + 0)) (sep 𝓤 (H.room (bare (τ E)) b (o + io E)) (H.room (bare (α E.al)) b (o + ho E)))) (H.room (block_ty E) b o)) $ next)

module _ (E : Bx) {M : Type 1} {𝓤 : Ura M} (𝓛 : Logic 𝓤) (ν : Sym) (b o : ℕ) where
  open 𝓛 use {H}

  abbrev fields : Tys
  fields = tcons ty_ptr (tcons (τ E) (tcons (α E.al) tnil))

  -- the fields' rooms make the block
  abbrev Joins : SProp 𝓤
  Joins = wand 𝓤 (rooms_at 𝓤 H fields 0 b o) (H.room (ty_struct ν fields) b o)

  rejoins : ent 𝓤 Joins (sem 𝓛 (fields_rejoin (R E) (P E) (block_ptr b o)))
  rejoins =
      qed 𝓛 (raw Joins ∷ []) ∵
      assume ! (‵ (froom ty_ptr b (o + 0)) ⊛ ‵ (froom (bare (τ E)) b (o + io E)) ⊛ ‵ (froom (bare (α E.al)) b (o + ho E))) $ split3 ! $ move ! (1 ∷ []) $
      as_written ! (τ E) b (o + io E) $ move ! (2 ∷ []) $ as_written ! (α E.al) b (o + ho E) $ nothing ! $ move ! (3 ∷ 2 ∷ 1 ∷ 0 ∷ []) $ group ! 4 $
      use2 𝓛 (‵ (froom (ty_struct ν fields) b o)) (apply∗ 𝓤 (rooms_at 𝓤 H fields 0 b o) (H.room (ty_struct ν fields) b o)) $ by ! (𝓛.laws.room-raw (ty_struct ν fields) b o)

  pub node_made : (n : Ptr) (h : Hd E) (x : X E) (v hv : Val)
      → ent 𝓤 (sep 𝓤 (H.at full_share (ty_struct ν fields) b o (node_val n v hv)) (sep 𝓤 (sem 𝓛 (token E.al h (block_ty E) (block_ptr b o))) (sep 𝓤 (sem 𝓛 (E.al.row.own_val h (hv ∷ []))) (sem 𝓛 (own E x (v ∷ []))))))
      (sem 𝓛 (One E ((block_ptr b o, n), h) x))
  node_made n h x v hv =
      let vs : Vals = vcons (ptr_val n) (vcons v (vcons hv vnil)) in
      qed 𝓛 (‵ (fat full_share (ty_struct ν fields) b o (node_val n v hv)) ∷ ‵ (token E.al h (block_ty E) (block_ptr b o)) ∷ ‵ (E.al.row.own_val h (hv ∷ [])) ∷ ‵ (own E x (v ∷ [])) ∷ []) ∵
      use1 𝓛 ((‵ (pointer b (o + 0) n) ⊛ ‵ (fat full_share (τ E) b (o + io E) v) ⊛ ‵ (fat full_share (α E.al) b (o + ho E) hv) ⊛ ‵ ftrue) ⊛ raw Joins)
      (via 𝓤 _ (𝓛.laws.at_fields_free ν fields b o vs) (mono_r 𝓤 (fields_at 𝓤 H full_share fields 0 b o vs)
      (conj_r 𝓤 (all 𝓤 (λ (ws : Vals). wand 𝓤 (fields_at 𝓤 H full_share fields 0 b o ws) (H.at full_share (ty_struct ν fields) b o (vstruct ws)))) Joins))) $
      split ! $ split3 ! $ move ! (2 ∷ []) $ split ! $
      -- [the handle's cell; nothing; `next`; the item's cell; the way back; the token; what the handle owns; what the item owns]
      move ! (0 ∷ 6 ∷ []) $ use2 𝓛 (‵ (part_at (P E) full_share h b (o + ho E))) (part_in 𝓛 (P E) refl full_share h b (o + ho E) hv) $ move ! (4 ∷ []) $
      use1 𝓛 (‵ (fields_rejoin (R E) (P E) (block_ptr b o))) rejoins $ move ! (1 ∷ 5 ∷ 0 ∷ []) $ fjoin3 ! $ move ! (3 ∷ 4 ∷ []) $
      use2 𝓛 (‵ (part_at (R E) full_share x b (o + io E))) (el_in E 𝓛 x b (o + io E) v) $ keep ! (0 ∷ 3 ∷ 1 ∷ []) $ one_closes E ! b o n h x $ done !
