-- `unlink_first` moves the item and the handle out of the first node. Assumes `Logic`.
use Rattle.ioa_rawlog.proofs.Walks.{uncons, ◌≡◌, refl, ap, subst, ◌∙◌, List, [], ◌∷◌, ℕ, ◌<◌, arith, length, Ura, SProp, ent, sep, Lft, GName, Share, flft, fobs, fbor, Env, Calls, Loops, WpFn, WpFn-mono, Logic, sem, fact, Borrowed, ⋆, ‵, ◌⊛◌, at_ret, ◌$◌, ◌∵◌, !, qed, by, move, keep, use1, use2, split, join, rewrite, fjoin, fjoin3, suffices, frame, done, whole, sub, look_in, stop, fld, load, of_opd, addr, first, blocks, exec, returns, enter, alloc_all, pass_all, free_all, look_at, get, through, sets, sets_last, is, env, after, mem, block_ptr, ptr_val, Val, vptr, RefMutOf, plain, nothing, Clauses, Ended, Meets, says, needs, Stays, walk_of, ends_at, walk_Meets, X, R, P, τ, feq_i, agg, store_in, look, and_then, no_more, assigns, yes, RattleType, stay_ref, Goes-ref, Ptr-Good, Vacant, vacant_val, vacant_ty, vacant_typed, Vacant-made, pair_val, pair_Typed, pair_of, Tuple, Fn, inst_fn, Tables, tables, tables_of, spared, entered, run_framed, triple_of, closing, Bx, args}
use Rattle.ioa_rawlog.specs.contracts.nodes.Node as Block
use Rattle.ioa_rawlog.specs.Links.{Link, links_of, IsChained}
use Rattle.ioa_rawlog.proofs.Chained.{chain_had, chain_rest}
use Rattle.ioa_rawlog.proofs.Owned.{Hd, D, Nr, Held, One, cons_out, nodes_opens, nodes_closes, one_opens}
use Rattle.ioa_rawlog.proofs.Written.{node_unmade, block_back}
use Rattle.ioa_rawlog.proofs.Entries.{held_self, Had, held}
use Rattle.ioa_rawlog.specs.contracts.nodes.Nodes.unlink_first.Key.{name as #self}
use Rattle.ioa_rawlog.proofs.nodes.Nodes.unlink_first.Statement as stated
use Rattle.ioa_rawlog.proofs.nodes.Nodes.unlink_first.Code as code

module _ (E : Bx) where
  abbrev function : Fn
  function = inst_fn (args E) code.function

  abbrev NodeRow : RattleType
  NodeRow = Block.the_row (R E) (P E)

  abbrev Room : RattleType
  Room = Vacant E.al NodeRow

  abbrev Out : RattleType
  Out = Tuple (R E ∷ Room ∷ [])

  abbrev ended : Ended
  ended = record { signature = record { lifetimes = 1; outlives = []; params = RefMutOf (0 ∷ []) tt (plain (λ _. Nr E)) (λ _. tt) ∷ []; result = plain (λ _. Out) }; kept = (yes, tt) }

  abbrev stayed : Stays ended.signature.params ended.kept
  stayed = (stay_ref (0 ∷ []) tt (plain (λ _. Nr E)), tt)

  abbrev spec : {M : Type 1} {𝓤 : Ura M} (𝓛 : Logic 𝓤) → Clauses 𝓤 ended
  spec {𝓤 = 𝓤} 𝓛 κs a = record { ghost = Unit {0}; requires = λ _. fact 𝓤 (0 < length a.0.now.items); ensures = λ _ r w. fact 𝓤 (a.0.now.items ≡ r.0 ∷ w.0.now.items) }

module _ (E : Bx) {M : Type 1} {𝓤 : Ura M} (𝓛 : Logic 𝓤) (C : Calls 𝓤 𝓛.H) (Λ : Loops 𝓤 𝓛.H) (κ : Lft) (q : Share) (rb ro : ℕ) (γ : GName) (d : D E) (ps : List Val) where
  open 𝓛 use {H, A}

  abbrev bound : (walk_of 𝓛 (ended E) (stayed E) (spec E 𝓛)).Ghost
  bound = (((κ, tt), (q, tt), tt, (held_self E κ q rb ro γ d, tt), (ps, tt)), tt)

  abbrev Post : Val → SProp 𝓤
  Post = (walk_of 𝓛 (ended E) (stayed E) (spec E 𝓛)).post bound

  exits : ps ≡ vptr rb ro ∷ [] → (r : (Out E).Denot) (v : Val) (new : D E) → d.items ≡ r.0 ∷ new.items
      → ent 𝓤 (sep 𝓤 (A.obs γ ((Nr E).coded.code new)) (sep 𝓤 (A.bor κ (Borrowed (mem (Nr E)) rb ro γ)) (sep 𝓤 (A.lft κ q) (sem 𝓛 ((Out E).own_val r (v ∷ [])))))) (Post v)
  exits passed r v new e =
      qed 𝓛 (‵ (fobs γ ((Nr E).coded.code new)) ∷ ‵ (fbor κ (Borrowed (mem (Nr E)) rb ro γ)) ∷ ‵ (flft κ q) ∷ ‵ ((Out E).own_val r (v ∷ [])) ∷ []) ∵
      suffices ! _ (ends_at 𝓛 (ended E) (stayed E) (spec E 𝓛) bound v r (new, tt) (tt, tt)) $ says ! e $
      nothing ! $ move ! (3 ∷ 0 ∷ []) $ join ! $ frame ! $ feq_i ! (List Val) ps (vptr rb ro ∷ []) passed $ fjoin3 ! $ nothing ! $ move ! (1 ∷ 0 ∷ []) $ fjoin ! $ done !

  walk : 0 < length d.items → ps ≡ vptr rb ro ∷ [] → ent 𝓤 (⋆ 𝓛 (Had E κ q 𝓛 rb ro γ d)) (WpFn 𝓤 H C Λ (function E) (vptr rb ro ∷ []) Post)
  walk asked passed =
      let matched = d.matched in
      let ns = uncons d.frames (omega arith) in
      let xs = uncons d.items asked in
      let m = ns.0 in
      let x = xs.0 in
      let long = ap length ns.2 in
      let many = ap length xs.2 in
      let linked : IsChained d.first d.last (m.0 ∷ links_of ns.1) = subst (IsChained d.first d.last) (ap links_of ns.2) (chain_had _ _ _ d.chained) in
      let new : D E = record { first = m.0.1; last = d.last; items = xs.1; frames = ns.1; matched = omega arith; chained = ∣ chain_rest d.first d.last m.0 (links_of ns.1) linked ∣₁ } in
      qed 𝓛 (Had E κ q 𝓛 rb ro γ d) ∵ enter ! C Λ (function E) (vptr rb ro ∷ []) _ $ alloc_all ! (λ l. pass_all ! refl ((tt, tt), tt) $
      let En : Env 𝓤 H = env (function E).locals l in
      nodes_opens E ! tt d rb ro $
      rewrite ! 0 (λ (ks : List (Link × Hd E)). ‵ (Held E ks d.items)) ns.2 refl $ rewrite ! 0 (λ (ys : List (X E)). ‵ (Held E (m ∷ ns.1) ys)) xs.2 refl $
      use1 𝓛 (‵ (One E m x) ⊛ ‵ (Held E ns.1 xs.1)) (cons_out E 𝓛 m ns.1 x xs.1) $ split ! $
      one_opens E ! m.0 m.1 x (λ b o e. node_unmade E ! b o m.0.1 m.1 x (λ v hv good fits.
      let room = vacant_typed E.al (NodeRow E) hv b o fits in
      let both = pair_Typed (τ E) (vacant_ty E.al (NodeRow E)) v (vacant_val hv b o) good room in
      let made : (Room E).Denot = record { ptr = block_ptr b o; alloc = m.1 } in
      -- [the node, in seven; the others; the pointers; the open borrow; obs; auth]
      sets ! (is ! (of_opd ! (load ! (through ! refl (fld ! refl (stop !))) (look_in ! 8 (sub ! 0 refl (whole !))))) (ap ptr_val (linked.0.0 ∙ e))) refl (tt, tt) $ sets ! (of_opd ! (get ! refl)) refl (tt, tt) $
      first ! $ blocks ! $ sets ! (of_opd ! (load ! (through ! refl (fld ! refl (stop !))) (look ! 0 refl))) refl (Ptr-Good m.0.1) $
      assigns ! (of_opd ! (get ! refl)) (through ! refl (fld ! refl (stop !))) (store_in ! 8 (sub ! 0 refl (whole !)) (Ptr-Good m.0.1)) $
      sets ! (addr ! (through ! refl (fld ! refl (stop !)))) refl (tt, tt) $ sets ! (of_opd ! (load ! (through ! refl (stop !)) (look ! 1 refl))) refl good $
      sets ! (addr ! (through ! refl (fld ! refl (stop !)))) refl (tt, tt) $ sets ! (of_opd ! (load ! (through ! refl (stop !)) (look ! 2 refl))) refl fits $
      sets ! (of_opd ! (get ! refl)) refl good $ sets ! (of_opd ! (get ! refl)) refl fits $ sets ! (agg ! (and_then ! (get ! refl) (and_then ! (get ! refl) (no_more !)))) refl room $
      sets_last ! (agg ! (and_then ! (get ! refl) (and_then ! (get ! refl) (no_more !)))) refl both $ exec ! C Λ En (after 3 (function E).body) (at_ret En Post) $ sets ! (of_opd ! (get ! refl)) refl both $
      block_back E ! b o m.0.1 v hv $ Vacant-made E.al (NodeRow E) ! m.1 b o $ move ! (1 ∷ 0 ∷ []) $
      use2 𝓛 (‵ ((Out E).own_val (x, made) (pair_val v (vacant_val hv b o) ∷ []))) (pair_of 𝓛 (R E) (Room E) x made v (vacant_val hv b o)) $
      move ! (1 ∷ 2 ∷ 3 ∷ 4 ∷ 5 ∷ []) $ nodes_closes E ! tt new rb ro $
      returns ! (look_at ! 0 refl) $ free_all ! refl $ keep ! (0 ∷ 1 ∷ 2 ∷ 3 ∷ []) $ by ! (exits passed (x, made) (pair_val v (vacant_val hv b o)) new xs.2))))

meets : (E : Bx) {M : Type 1} {𝓤 : Ura M} (𝓛 : Logic 𝓤) (𝓣 : Tables 𝓤 𝓛.H)
    → Meets 𝓛 (ended E).signature (WpFn 𝓤 𝓛.H 𝓣.C 𝓣.Λ (function E)) (closing 𝓛 (ended E) (spec E 𝓛))
meets E {𝓤 = 𝓤} 𝓛 𝓣 =
    walk_Meets 𝓛 (ended E) (stayed E) (Goes-ref 𝓛 1 0 tt (plain (λ _. Nr E)), tt) (spec E 𝓛) (WpFn 𝓤 𝓛.H 𝓣.C 𝓣.Λ (function E)) (WpFn-mono 𝓤 𝓛.H 𝓛.laws 𝓣 (function E))
    (λ z. let s = z.0.3.0 in let b = s.ref_ptr.0 in let o = s.ref_ptr.1 in needs 𝓤 (0 < length s.now.items) _ (λ asked.
    held E z.0.0.0 z.0.1.0 𝓛 (λ vs. WpFn 𝓤 𝓛.H 𝓣.C 𝓣.Λ (function E) vs (Post E 𝓛 𝓣.C 𝓣.Λ z.0.0.0 z.0.1.0 b o s.ghost_name s.now z.0.4.0)) b o s.now s.ghost_name z.0.4.0
    (walk E 𝓛 𝓣.C 𝓣.Λ z.0.0.0 z.0.1.0 b o s.ghost_name s.now z.0.4.0 asked)))

pub unlink_first_spec : {M : Type 1} → stated.statement M
unfolding tables_of
unlink_first_spec 𝓤 𝓛 𝓜 𝓡 wired Y Z L LZ g d dd met md y =
    let E : Bx = record { row = Y; laws = L; al = record { row = Z; laws = LZ; g = g; d = d; drops = dd } } in
    let A = 𝓛.A in
    let 𝓣 : Tables 𝓤 𝓛.H = tables_of 𝓤 𝓛.H 𝓜 (tables 𝓤 𝓛.H 𝓜 𝓡 𝓡.env) in
    let key = #self (args E) in
    let closed = closing 𝓛 (ended E) (spec E 𝓛) in
    spared 𝓛 (ended E).signature (𝓡.run (𝓡.env key)) (run_framed 𝓤 𝓛.H 𝓜 𝓡 (𝓡.env key)) 2 (Y.lives, (Z.lives, tt)) closed
    (entered 𝓤 𝓛.H (triple_of 𝓛 (ended E).signature closed) 𝓣.C 𝓣.Λ key (function E) (code.unfolded 𝓤 𝓛.H 𝓜 𝓡 wired (Y, (Z, tt)) d dd) (meets E 𝓛 𝓣))
    ((y.0.0, y.0.1, tt, y.0.3, y.0.4), y.1)
