-- `link_first` fills the block, which is then the only node. Assumes `Logic`.
use Rattle.ioa_rawlog.proofs.Walks.{◌≡◌, refl, List, [], ◌∷◌, ℕ, Ura, Lft, GName, Share, Env, WpFn, Logic, ‵, at_ret, ◌$◌, ◌∵◌, !, qed, by, move, keep, use1, use2, group, whole, sub, agg, store_in, init, stop, fld, unit_lit, of_opd, and_then, no_more, assigns, assigns_last, first, blocks, exec, returns, enter, alloc_all, pass_all, free_all, look_at, get, get_in, through, sets, env, after, lone, Ptr, block_ptr, ptr_val, ty_ptr, Val, vptr, nothing, as_fields, α, Good, Ptr-Good, X, τ, R, P, Meets, as_written, vacant_val, vacant_typed, drop, fjoin, Fn, inst_fn, Tables, tables, tables_of, spared, entered, run_framed, triple_of, closing, Bx, args}
use Rattle.ioa_rawlog.specs.contracts.nodes.Node as Block
use Rattle.ioa_rawlog.proofs.Owned.{node_val, D, Held, One, cons_in, nodes_opens, nodes_closes}
use Rattle.ioa_rawlog.proofs.Written.{node_made}
use Rattle.ioa_rawlog.proofs.Linking.{NodeRow, Room, ended, spec, Had, Post, Walk, exits, meets_by}
use Rattle.ioa_rawlog.specs.contracts.nodes.Nodes.link_first.Key.{name as #self}
use Rattle.ioa_rawlog.proofs.nodes.Nodes.link_first.Statement as stated
use Rattle.ioa_rawlog.proofs.nodes.Nodes.link_first.Code as code

module _ (E : Bx) where
  abbrev function : Fn
  function = inst_fn (args E) code.function

  abbrev Asks : D E → Type 0
  Asks d = d.items ≡ []

  abbrev Gives : D E → X E → D E → Type 0
  Gives d x new = new.items ≡ x ∷ []

module _ (E : Bx) {M : Type 1} {𝓤 : Ura M} (𝓛 : Logic 𝓤) (𝓣 : Tables 𝓤 𝓛.H) (κ : Lft) (q : Share) (rb ro : ℕ) (γ : GName) (d : D E) (room : (Room E).Denot) (x : X E) (ps us vs : List Val) where
  open 𝓛 use {H}

  walk : Walk E (Asks E) (Gives E) 𝓛 κ q rb ro γ d room x ps us vs (WpFn 𝓤 H 𝓣.C 𝓣.Λ (function E))
  walk passed asked b o hv v fits good =
      let had = Had E (Asks E) (Gives E) 𝓛 κ q rb ro γ d room x ps us vs b o hv v in
      let post = Post E (Asks E) (Gives E) 𝓛 κ q rb ro γ d room x ps us vs in
      let p : Ptr = block_ptr b o in
      let h = room.alloc in
      let typed : Good (lone (NodeRow E).mir) (node_val p v hv) = as_fields (ty_ptr ∷ τ E ∷ α E.al ∷ []) (ptr_val p ∷ v ∷ hv ∷ []) (Ptr-Good p, (good, (fits, tt))) in
      let new : D E = record { first = p; last = p; items = x ∷ []; frames = ((p, p), h) ∷ []; matched = refl; chained = ∣ ((refl, tt), refl) ∣₁ } in
      qed 𝓛 had ∵ enter ! 𝓣.C 𝓣.Λ (function E) (vptr rb ro ∷ vacant_val hv b o ∷ v ∷ []) _ $ alloc_all ! (λ l. pass_all ! refl ((tt, tt), (vacant_typed E.al (NodeRow E) hv b o fits, (good, tt))) $
      let En : Env 𝓤 H = env (function E).locals l in
      nodes_opens E ! tt d rb ro $ drop ! $ move ! (4 ∷ []) $ as_written ! (lone (NodeRow E).mir) b o $
      -- [the room; the pointers; the open borrow; obs; auth; the token; the handle; the item]
      sets ! (of_opd ! (get_in ! (fld ! refl (stop !)) (sub ! 0 refl (whole !)))) refl (tt, tt) $ sets ! (of_opd ! (get_in ! (fld ! refl (stop !)) (sub ! 1 refl (whole !)))) refl fits $
      first ! $ blocks ! $ sets ! (of_opd ! (get ! refl)) refl good $ sets ! (of_opd ! (get ! refl)) refl fits $
      sets ! (agg ! (and_then ! (get ! refl) (and_then ! (get ! refl) (and_then ! (get ! refl) (no_more !))))) refl typed $
      assigns_last ! (of_opd ! (get ! refl)) (through ! refl (stop !)) (init ! 0 refl typed) $ exec ! 𝓣.C 𝓣.Λ En (after 3 (function E).body) (at_ret En post) $
      assigns ! (of_opd ! (get ! refl)) (through ! refl (fld ! refl (stop !))) (store_in ! 1 (sub ! 0 refl (whole !)) (tt, tt)) $
      assigns ! (of_opd ! (get ! refl)) (through ! refl (fld ! refl (stop !))) (store_in ! 1 (sub ! 1 refl (whole !)) (tt, tt)) $
      sets ! (of_opd ! (unit_lit !)) refl (tt, tt) $ move ! (0 ∷ 5 ∷ 6 ∷ 7 ∷ []) $ group ! 4 $
      use1 𝓛 (‵ (One E ((p, p), h) x)) (node_made E 𝓛 (Block.the_type (R E) (P E)).name b o p h x v hv) $ nothing ! $ nothing ! $ fjoin ! $ move ! (1 ∷ 0 ∷ []) $
      use2 𝓛 (‵ (Held E new.frames new.items)) (cons_in E 𝓛 ((p, p), h) [] x []) $ nodes_closes E ! tt new rb ro $
      returns ! (look_at ! 0 refl) $ free_all ! refl $ keep ! (0 ∷ 1 ∷ 2 ∷ []) $ by ! (exits E (Asks E) (Gives E) 𝓛 κ q rb ro γ d room x ps us vs passed new refl))

meets : (E : Bx) {M : Type 1} {𝓤 : Ura M} (𝓛 : Logic 𝓤) (𝓣 : Tables 𝓤 𝓛.H)
    → Meets 𝓛 (ended E).signature (WpFn 𝓤 𝓛.H 𝓣.C 𝓣.Λ (function E)) (closing 𝓛 (ended E) (spec E (Asks E) (Gives E) 𝓛))
meets E 𝓛 𝓣 = meets_by E (Asks E) (Gives E) 𝓛 𝓣 (function E) (walk E 𝓛 𝓣)

pub link_first_spec : {M : Type 1} → stated.statement M
unfolding tables_of
link_first_spec 𝓤 𝓛 𝓜 𝓡 wired Y Z L LZ g d dd met md y =
    let E : Bx = record { row = Y; laws = L; al = record { row = Z; laws = LZ; g = g; d = d; drops = dd } } in
    let A = 𝓛.A in
    let 𝓣 : Tables 𝓤 𝓛.H = tables_of 𝓤 𝓛.H 𝓜 (tables 𝓤 𝓛.H 𝓜 𝓡 𝓡.env) in
    let key = #self (args E) in
    let closed = closing 𝓛 (ended E) (spec E (Asks E) (Gives E) 𝓛) in
    spared 𝓛 (ended E).signature (𝓡.run (𝓡.env key)) (run_framed 𝓤 𝓛.H 𝓜 𝓡 (𝓡.env key)) 2 (Y.lives, (Z.lives, tt)) closed
    (entered 𝓤 𝓛.H (triple_of 𝓛 (ended E).signature closed) 𝓣.C 𝓣.Λ key (function E) (code.unfolded 𝓤 𝓛.H 𝓜 𝓡 wired (Y, (Z, tt)) d dd) (meets E 𝓛 𝓣))
    ((y.0.0, y.0.1, tt, y.0.3, y.0.4), y.1)
