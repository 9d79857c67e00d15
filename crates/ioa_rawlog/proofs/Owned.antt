-- What a row of nodes owns is taken apart and put together, at any item and handle. Assumes `Logic`.
--     nodes_made, nodes_opens, nodes_closes      the two pointers by value, and behind a `&mut`
--     cons_out, cons_in, snoc_out, snoc_in       one node at an end, beside the others
--     one_opens, one_closes                      a node is [its item; `next`; what frees it]
use mathlib.Core.Path.{◌≡◌, refl, ap, ◌∙◌}
use Prim.Native.Nat.{ℕ, ◌+◌}
use native.Mathlib.Omega.{arith}
use mathlib.Core.List.{List, [], ◌∷◌, ◌++◌}
use lib.ListN.{length}
use seplogic.Ra.Ura.{Ura}
use base.Fraction.{full_share}
use base.Stored.{Gv}
use mir.Syntax.{Ty, ty_ptr}
use mir.Val.{Val, vstruct, vcons, vnil, of_list}
use base.Logic.{ent, sep, never, fst∗}
use base.Fml.{Fml, Lft, GName, Share, fsep, feq, fat, flft, fobs, fauth, fbor, fobor}
use types.Logic.{Logic, sem}
use types.Kit.{Item, Goal, Seq, Step, Soaks, step, ‵, some, ◌⊛◌, ◌$◌, ◌∵◌, !, qed, by, move, drop, use1, use2, pick, split, fsplit, fsplit3, fjoin, fjoin3, fpick, fpack, feq_i, feq_l, rewrite, done}
use types.SemTy.{Body as Borrowed}
use denote.RattleType.{RattleType, Valss}
use denote.Memory.{cell_at, part_at, mem}
use denote.RawPtr.{Ptr, RawPtr, block_ptr, null_ptr, ptr_val, lies_at, in_a_block, ◌+ₚ◌}
use denote.Steps.{nothing, only, opens, closes}
use denote.Struct.Struct.{within}
use denote.Struct.Owning.{Owning, shape}
use borrow.Table.OneValue.{part_in, part_out}
use Rattle.core.proofs.alloc.Calls.{token}
use Rattle.std_alloc.proofs.BoxSteps.Form.{Bx, X, R, P}
use Rattle.ioa_rawlog.specs.declared.nodes.Nodes.{Nodes}
use Rattle.ioa_rawlog.specs.contracts.nodes.Nodes as N
use Rattle.ioa_rawlog.specs.Links.{Link}
use Rattle.ioa_rawlog.specs.Ownership.{item_offset, handle_offset, node_type, frees, frame, nodes_own}

-- the machine's value of the nodes, of a node, and the cell of a pointer
abbrev pub ends : Ptr → Ptr → Val
ends p q = vstruct (vcons (ptr_val p) (vcons (ptr_val q) vnil))

abbrev pub node_val : Ptr → Val → Val → Val
node_val n v hv = vstruct (vcons (ptr_val n) (vcons v (vcons hv vnil)))

abbrev pub pointer : ℕ → ℕ → Ptr → Fml
pointer b o p = fat full_share ty_ptr b o (ptr_val p)

module _ (E : Bx) where
  abbrev pub Hd : Type 0
  Hd = E.al.row.Denot

  abbrev pub D : Type 0
  D = Nodes (X E) Hd

  abbrev pub owning : Owning
  owning = N.the_type (R E) (P E) E.al.g

  abbrev pub Nr : RattleType
  Nr = N.the_row (R E) (P E) E.al.g

  -- where the item and the handle lie in a node
  abbrev pub io : ℕ
  io = item_offset (R E)

  abbrev pub ho : ℕ
  ho = handle_offset (R E) (P E)

  abbrev pub block_ty : Ty
  block_ty = node_type (R E) (P E)

  abbrev pub Held : List (Link × Hd) → List (X E) → Fml
  Held = nodes_own (R E) (P E) (token E.al)

  abbrev pub Frees : Ptr → Hd → Fml
  Frees = frees (R E) (P E) (token E.al)

  abbrev pub Frame : Link × Hd → Fml
  Frame = frame (R E) (P E) (token E.al)

  -- a node with its item
  abbrev pub One : Link × Hd → X E → Fml
  One n x = fsep (lies_at (R E) full_share (n.0.0 +ₚ io) x) (Frame n)

module _ (E : Bx) {M : Type 1} {𝓤 : Ura M} (𝓛 : Logic 𝓤) where
  -- ---- one node beside the others
  pub cons_out : (n : Link × Hd E) (ns : List (Link × Hd E)) (x : X E) (xs : List (X E))
      → ent 𝓤 (sem 𝓛 (Held E (n ∷ ns) (x ∷ xs))) (sep 𝓤 (sem 𝓛 (One E n x)) (sem 𝓛 (Held E ns xs)))
  cons_out n ns x xs =
      qed 𝓛 (‵ (Held E (n ∷ ns) (x ∷ xs)) ∷ []) ∵
      -- [the item; the other items; the frame; the other frames]
      fsplit ! $ fsplit ! $ move ! (2 ∷ []) $ fsplit ! $
      move ! (3 ∷ 1 ∷ []) $ fjoin ! $ move ! (2 ∷ 1 ∷ []) $ fjoin ! $ done !

  pub cons_in : (n : Link × Hd E) (ns : List (Link × Hd E)) (x : X E) (xs : List (X E))
      → ent 𝓤 (sep 𝓤 (sem 𝓛 (One E n x)) (sem 𝓛 (Held E ns xs))) (sem 𝓛 (Held E (n ∷ ns) (x ∷ xs)))
  cons_in n ns x xs =
      qed 𝓛 (‵ (One E n x) ∷ ‵ (Held E ns xs) ∷ []) ∵
      fsplit ! $ move ! (2 ∷ []) $ fsplit ! $ move ! (3 ∷ 1 ∷ []) $ fjoin ! $ move ! (2 ∷ 1 ∷ []) $ fjoin ! $ fjoin ! $ done !

  pub snoc_out : (ns : List (Link × Hd E)) (n : Link × Hd E) (xs : List (X E)) (x : X E) → length ns ≡ length xs
      → ent 𝓤 (sem 𝓛 (Held E (ns ++ n ∷ []) (xs ++ x ∷ []))) (sep 𝓤 (sem 𝓛 (One E n x)) (sem 𝓛 (Held E ns xs)))
  snoc_out [] n [] x e = cons_out n [] x []
  snoc_out [] n (y ∷ xs) x e = absurd (omega arith)
  snoc_out (m ∷ ns) n [] x e = absurd (omega arith)
  snoc_out (m ∷ ns) n (y ∷ xs) x e =
      qed 𝓛 (‵ (Held E (m ∷ ns ++ n ∷ []) (y ∷ xs ++ x ∷ [])) ∷ []) ∵
      use1 𝓛 (‵ (One E m y) ⊛ ‵ (Held E (ns ++ n ∷ []) (xs ++ x ∷ []))) (cons_out m (ns ++ n ∷ []) y (xs ++ x ∷ [])) $ split ! $ move ! (1 ∷ []) $
      use1 𝓛 (‵ (One E n x) ⊛ ‵ (Held E ns xs)) (snoc_out ns n xs x (omega arith)) $ split ! $ move ! (2 ∷ 1 ∷ []) $
      use2 𝓛 (‵ (Held E (m ∷ ns) (y ∷ xs))) (cons_in m ns y xs) $ move ! (1 ∷ []) $ done !

  pub snoc_in : (ns : List (Link × Hd E)) (n : Link × Hd E) (xs : List (X E)) (x : X E) → length ns ≡ length xs
      → ent 𝓤 (sep 𝓤 (sem 𝓛 (One E n x)) (sem 𝓛 (Held E ns xs))) (sem 𝓛 (Held E (ns ++ n ∷ []) (xs ++ x ∷ [])))
  snoc_in [] n [] x e = cons_in n [] x []
  snoc_in [] n (y ∷ xs) x e = absurd (omega arith)
  snoc_in (m ∷ ns) n [] x e = absurd (omega arith)
  snoc_in (m ∷ ns) n (y ∷ xs) x e =
      qed 𝓛 (‵ (One E n x) ∷ ‵ (Held E (m ∷ ns) (y ∷ xs)) ∷ []) ∵ move ! (1 ∷ []) $
      use1 𝓛 (‵ (One E m y) ⊛ ‵ (Held E ns xs)) (cons_out m ns y xs) $ split ! $ move ! (2 ∷ 1 ∷ []) $
      use2 𝓛 (‵ (Held E (ns ++ n ∷ []) (xs ++ x ∷ []))) (snoc_in ns n xs x (omega arith)) $ move ! (1 ∷ []) $
      by ! (cons_in m (ns ++ n ∷ []) y (xs ++ x ∷ []))

module _ {M : Type 1} {𝓤 : Ura M} {𝓛 : Logic 𝓤} {K : Type 0} {Γ : List (Item 𝓤)} {G : Goal 𝓤 𝓛.H} where
  -- ---- a pointer that is owned, and its cell
  pub pointer_out : K → (p : Ptr) (b o : ℕ) → Step K 𝓛 (‵ (pointer b o p) ∷ Γ) G (‵ (part_at RawPtr full_share p b o) ∷ Γ) G
  pointer_out t p b o =
      use1 𝓛 (‵ (pointer b o p)) (qed 𝓛 (‵ (part_at RawPtr full_share p b o) ∷ []) {P = sem 𝓛 (pointer b o p)} (
      use1 𝓛 (some (λ (v : Val). ‵ (fat full_share ty_ptr b o v) ⊛ ‵ (feq (List Val) (v ∷ []) (ptr_val p ∷ [])))) (part_out 𝓛 RawPtr refl full_share p b o) $
      pick ! (λ v. split ! $ move ! (1 ∷ []) $ feq_l ! (λ e. rewrite ! 0 (λ (w : Val). ‵ (fat full_share ty_ptr b o w)) (ap only e) refl $ done !))))

  pub pointer_in : K → (p : Ptr) (b o : ℕ) → Step K 𝓛 (‵ (part_at RawPtr full_share p b o) ∷ Γ) G (‵ (pointer b o p) ∷ Γ) G
  pointer_in t p b o = step (λ s.
      feq_i t (List Val) (ptr_val p ∷ []) (ptr_val p ∷ []) refl $ move t (1 ∷ 0 ∷ []) $ use2 𝓛 (‵ (part_at RawPtr full_share p b o)) (part_in 𝓛 RawPtr refl full_share p b o (ptr_val p)) $ s)

module _ (E : Bx) {M : Type 1} {𝓤 : Ura M} {𝓛 : Logic 𝓤} {K : Type 0} {Γ : List (Item 𝓤)} {G : Goal 𝓤 𝓛.H} where
  -- ---- the two pointers by value
  nodes_had : K → (d : D E) (vs : List Val) → (vs ≡ ends d.first d.last ∷ [] → Seq K 𝓛 (‵ (Held E d.frames d.items) ∷ Γ) G) → Seq K 𝓛 (‵ ((Nr E).own_val d vs) ∷ Γ) G
  nodes_had t d vs k =
      fsplit t $ fpick t (λ vss. fsplit t $ feq_l t (λ all. fsplit t $ feq_l t (λ e₀. fsplit t $ feq_l t (λ e₁. drop t $
      k (all ∙ (λ i. vstruct (of_list (e₀ i ++ (e₁ i ++ []))) ∷ []))))))

  pub nodes_made : K → (d : D E) → Step K 𝓛 (‵ ((Nr E).own_val d (ends d.first d.last ∷ [])) ∷ Γ) G (‵ (Held E d.frames d.items) ∷ Γ) G
  nodes_made t d = step (λ s.
      let v = ends d.first d.last in
      nothing t $ feq_i t (List Val) (ptr_val d.last ∷ []) (ptr_val d.last ∷ []) refl $ fjoin t $
      feq_i t (List Val) (ptr_val d.first ∷ []) (ptr_val d.first ∷ []) refl $ fjoin t $ feq_i t (List Val) (v ∷ []) (v ∷ []) refl $ fjoin t $
      fpack t (Valss (shape (owning E)).fields) (within (shape (owning E)) (d.first, (d.last, tt)) (v ∷ [])) (ptr_val d.first ∷ [], (ptr_val d.last ∷ [], tt)) $ fjoin t $ s)

module _ (E : Bx) {M : Type 1} {𝓤 : Ura M} {𝓛 : Logic 𝓤} {K : Type 0} {Γ : List (Item 𝓤)} {G : Goal 𝓤 𝓛.H} where
  -- ---- behind a `&mut`: [the nodes; the pointers; the open borrow; obs; auth]
  pub nodes_opens : K → Soaks G → {κ : Lft} {q : Share} {γ : GName} (d : D E) (rb ro : ℕ)
      → Step K 𝓛 (‵ (Held E d.frames d.items) ∷ ‵ (cell_at full_share (Nr E).mir (ends d.first d.last ∷ []) rb ro) ∷ ‵ (fobor κ q (Borrowed (mem (Nr E)) rb ro γ)) ∷ ‵ (fobs γ ((Nr E).coded.code d)) ∷ ‵ (fauth γ ((Nr E).coded.code d)) ∷ Γ) G
      (‵ (fobs γ ((Nr E).coded.code d)) ∷ ‵ (fbor κ (Borrowed (mem (Nr E)) rb ro γ)) ∷ ‵ (flft κ q) ∷ Γ) G
  nodes_opens t z d rb ro = step (λ s.
      opens t z (Nr E) {h = d} rb ro (λ vs. move t (1 ∷ []) $ nodes_had E t d vs (λ is. rewrite t 1 (λ (ws : List Val). ‵ (cell_at full_share (Nr E).mir ws rb ro)) is refl $ s)))

  pub nodes_closes : K → Soaks G → {κ : Lft} {q : Share} {u v : Gv} {γ : GName} (d : D E) (rb ro : ℕ)
      → Step K 𝓛 (‵ (fobs γ ((Nr E).coded.code d)) ∷ ‵ (fbor κ (Borrowed (mem (Nr E)) rb ro γ)) ∷ ‵ (flft κ q) ∷ Γ) G
      (‵ (Held E d.frames d.items) ∷ ‵ (cell_at full_share (Nr E).mir (ends d.first d.last ∷ []) rb ro) ∷ ‵ (fobor κ q (Borrowed (mem (Nr E)) rb ro γ)) ∷ ‵ (fobs γ u) ∷ ‵ (fauth γ v) ∷ Γ) G
  nodes_closes t z d rb ro = step (λ s. nodes_made E t d $ move t (1 ∷ 0 ∷ []) $ closes t z (Nr E) d (ends d.first d.last ∷ []) rb ro $ s)

  -- ---- a node: [its item; `next`; what frees it]
  pub one_opens : K → (l : Link) (h : Hd E) (x : X E)
      → ((b o : ℕ) → l.0 ≡ block_ptr b o → Seq K 𝓛 (‵ (part_at (R E) full_share x b (o + io E)) ∷ ‵ (pointer b (o + 0) l.1) ∷ ‵ (Frees E (block_ptr b o) h) ∷ Γ) G)
      → Seq K 𝓛 (‵ (One E (l, h) x) ∷ Γ) G
  one_opens t l h x k =
      in_a_block t l.0 (λ p. One E ((p, l.1), h) x) (fst∗ 𝓤 (never 𝓤) (sem 𝓛 (Frame E ((null_ptr, l.1), h)))) (λ b o e.
      fsplit3 t $ move t (1 ∷ []) $ pointer_out t l.1 b (o + 0) $ move t (1 ∷ []) $ k b o e)

  pub one_closes : K → (b o : ℕ) (n : Ptr) (h : Hd E) (x : X E)
      → Step K 𝓛 (‵ (One E ((block_ptr b o, n), h) x) ∷ Γ) G (‵ (part_at (R E) full_share x b (o + io E)) ∷ ‵ (pointer b (o + 0) n) ∷ ‵ (Frees E (block_ptr b o) h) ∷ Γ) G
  one_closes t b o n h x = step (λ s. move t (1 ∷ []) $ pointer_in t n b (o + 0) $ move t (1 ∷ []) $ fjoin3 t $ s)
