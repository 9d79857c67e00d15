-- `link_last` fills the block, and the last node points on to it. Assumes `Logic`.
use Rattle.ioa_rawlog.proofs.Walks.{unsnoc, ◌≡◌, refl, sym, ap, subst, ◌∙◌, List, [], ◌∷◌, ◌++◌, ℕ, ◌<◌, arith, length, Ura, Lft, GName, Share, Env, WpFn, Logic, ‵, at_ret, ◌$◌, ◌∵◌, !, qed, by, move, keep, use1, use2, group, whole, sub, agg, store_in, init, stop, fld, unit_lit, of_opd, and_then, no_more, assigns, assigns_last, first, blocks, exec, returns, enter, alloc_all, pass_all, free_all, look_at, get, get_in, through, sets, env, after, lone, Ptr, block_ptr, ptr_val, ty_ptr, Val, vptr, as_fields, α, Good, Ptr-Good, X, τ, R, P, Meets, as_written, vacant_val, vacant_typed, map-append, length-append, ◌⊛◌, split, rewrite, look_in, store, load, is, Fn, inst_fn, Tables, tables, tables_of, spared, entered, run_framed, triple_of, closing, Bx, args}
use Rattle.ioa_rawlog.specs.contracts.nodes.Node as Block
use Rattle.ioa_rawlog.specs.Links.{Link, links_of, IsChained}
use Rattle.ioa_rawlog.proofs.Chained.{chain_had, last_is, chain_longer}
use Rattle.ioa_rawlog.proofs.Owned.{node_val, Hd, D, Held, One, snoc_out, snoc_in, nodes_opens, nodes_closes, one_opens, one_closes}
use Rattle.ioa_rawlog.proofs.Written.{node_made}
use Rattle.ioa_rawlog.proofs.Linking.{NodeRow, Room, ended, spec, Had, Post, Walk, exits, meets_by}
use Rattle.ioa_rawlog.specs.contracts.nodes.Nodes.link_last.Key.{name as #self}
use Rattle.ioa_rawlog.proofs.nodes.Nodes.link_last.Statement as stated
use Rattle.ioa_rawlog.proofs.nodes.Nodes.link_last.Code as code

module _ (E : Bx) where
  abbrev function : Fn
  function = inst_fn (args E) code.function

  abbrev Asks : D E → Type 0
  Asks d = 0 < length d.items

  abbrev Gives : D E → X E → D E → Type 0
  Gives d x new = new.items ≡ d.items ++ x ∷ []

module _ (E : Bx) {M : Type 1} {𝓤 : Ura M} (𝓛 : Logic 𝓤) (𝓣 : Tables 𝓤 𝓛.H) (κ : Lft) (q : Share) (rb ro : ℕ) (γ : GName) (d : D E) (room : (Room E).Denot) (x : X E) (ps us vs : List Val) where
  open 𝓛 use {H}

  walk : Walk E (Asks E) (Gives E) 𝓛 κ q rb ro γ d room x ps us vs (WpFn 𝓤 H 𝓣.C 𝓣.Λ (function E))
  walk passed asked b o hv v fits good =
      let had = Had E (Asks E) (Gives E) 𝓛 κ q rb ro γ d room x ps us vs b o hv v in
      let post = Post E (Asks E) (Gives E) 𝓛 κ q rb ro γ d room x ps us vs in
      let p : Ptr = block_ptr b o in
      let h = room.alloc in
      let typed : Good (lone (NodeRow E).mir) (node_val p v hv) = as_fields (ty_ptr ∷ τ E ∷ α E.al ∷ []) (ptr_val p ∷ v ∷ hv ∷ []) (Ptr-Good p, (good, (fits, tt))) in
      let matched = d.matched in
      let ns = unsnoc d.frames (omega arith) in
      let xs = unsnoc d.items asked in
      let m = ns.1 in
      let long = ap length ns.2 ∙ length-append ns.0 (m ∷ []) in
      let many = ap length xs.2 ∙ length-append xs.0 (xs.1 ∷ []) in
      let alike : length ns.0 ≡ length xs.0 = omega arith in
      let linked : IsChained d.first d.last (links_of ns.0 ++ m.0 ∷ []) = subst (IsChained d.first d.last) (ap links_of ns.2 ∙ map-append (λ n. n.0) ns.0 (m ∷ [])) (chain_had _ _ _ d.chained) in
      qed 𝓛 had ∵ enter ! 𝓣.C 𝓣.Λ (function E) (vptr rb ro ∷ vacant_val hv b o ∷ v ∷ []) _ $ alloc_all ! (λ l. pass_all ! refl ((tt, tt), (vacant_typed E.al (NodeRow E) hv b o fits, (good, tt))) $
      let En : Env 𝓤 H = env (function E).locals l in
      nodes_opens E ! tt d rb ro $
      rewrite ! 0 (λ (ks : List (Link × Hd E)). ‵ (Held E ks d.items)) ns.2 refl $ rewrite ! 0 (λ (ys : List (X E)). ‵ (Held E (ns.0 ++ m ∷ []) ys)) xs.2 refl $
      use1 𝓛 (‵ (One E m xs.1) ⊛ ‵ (Held E ns.0 xs.0)) (snoc_out E 𝓛 ns.0 m xs.0 xs.1 alike) $ split ! $ one_opens E ! m.0 m.1 xs.1 (λ mb mo e.
      let a : Ptr = block_ptr mb mo in
      let at : IsChained d.first d.last (links_of ns.0 ++ (a, m.0.1) ∷ []) = subst (λ z. IsChained d.first d.last (links_of ns.0 ++ (z, m.0.1) ∷ [])) e linked in
      let was : Link × Hd E = ((a, p), m.1) in
      let now : Link × Hd E = ((p, p), h) in
      let front = ns.0 ++ was ∷ [] in
      let ys = xs.0 ++ xs.1 ∷ [] in
      let still = length-append ns.0 (was ∷ []) in
      let kept = length-append xs.0 (xs.1 ∷ []) in
      let links : (links_of ns.0 ++ was.0 ∷ []) ++ now.0 ∷ [] ≡ links_of (front ++ now ∷ []) =
      ap (λ ls. ls ++ now.0 ∷ []) (sym (map-append (λ n. n.0) ns.0 (was ∷ []))) ∙ sym (map-append (λ n. n.0) front (now ∷ [])) in
      let new : D E = record {
        first = d.first;
        last = p;
        items = ys ++ x ∷ [];
        frames = front ++ now ∷ [];
        matched = omega (arith, length-append ys (x ∷ []), length-append front (now ∷ []));
        chained = ∣ subst (IsChained d.first p) links (chain_longer d.first p (links_of ns.0) (a, m.0.1) at.0) ∣₁;
      } in
      move ! (8 ∷ []) $ as_written ! (lone (NodeRow E).mir) b o $
      -- [the room; the last node, in three; the others; the pointers; the open borrow; obs; auth; the token; the handle; the item]
      sets ! (of_opd ! (get_in ! (fld ! refl (stop !)) (sub ! 0 refl (whole !)))) refl (tt, tt) $ sets ! (of_opd ! (get_in ! (fld ! refl (stop !)) (sub ! 1 refl (whole !)))) refl fits $
      sets ! (is ! (of_opd ! (load ! (through ! refl (fld ! refl (stop !))) (look_in ! 5 (sub ! 1 refl (whole !))))) (ap ptr_val (last_is d.last (links_of ns.0) m.0 linked.1 ∙ e))) refl (tt, tt) $ sets ! (of_opd ! (get ! refl)) refl (tt, tt) $
      first ! $ blocks ! $ sets ! (of_opd ! (get ! refl)) refl good $ sets ! (of_opd ! (get ! refl)) refl fits $
      sets ! (agg ! (and_then ! (get ! refl) (and_then ! (get ! refl) (and_then ! (get ! refl) (no_more !))))) refl typed $
      assigns ! (of_opd ! (get ! refl)) (through ! refl (stop !)) (init ! 0 refl typed) $
      assigns_last ! (of_opd ! (get ! refl)) (through ! refl (fld ! refl (stop !))) (store ! 2 refl (tt, tt)) $ exec ! 𝓣.C 𝓣.Λ En (after 5 (function E).body) (at_ret En post) $
      assigns ! (of_opd ! (get ! refl)) (through ! refl (fld ! refl (stop !))) (store_in ! 5 (sub ! 1 refl (whole !)) (tt, tt)) $
      sets ! (of_opd ! (unit_lit !)) refl (tt, tt) $ move ! (0 ∷ 9 ∷ 10 ∷ 11 ∷ []) $ group ! 4 $
      use1 𝓛 (‵ (One E now x)) (node_made E 𝓛 (Block.the_type (R E) (P E)).name b o p h x v hv) $ move ! (1 ∷ 2 ∷ 3 ∷ []) $ one_closes E ! mb mo p m.1 xs.1 $ move ! (0 ∷ 2 ∷ []) $
      use2 𝓛 (‵ (Held E front ys)) (snoc_in E 𝓛 ns.0 was xs.0 xs.1 alike) $ move ! (1 ∷ 0 ∷ []) $
      use2 𝓛 (‵ (Held E new.frames new.items)) (snoc_in E 𝓛 front now ys x (omega arith)) $ nodes_closes E ! tt new rb ro $
      returns ! (look_at ! 0 refl) $ free_all ! refl $ keep ! (0 ∷ 1 ∷ 2 ∷ []) $
      by ! (exits E (Asks E) (Gives E) 𝓛 κ q rb ro γ d room x ps us vs passed new (ap (λ zs. zs ++ x ∷ []) (sym xs.2)))))

meets : (E : Bx) {M : Type 1} {𝓤 : Ura M} (𝓛 : Logic 𝓤) (𝓣 : Tables 𝓤 𝓛.H)
    → Meets 𝓛 (ended E).signature (WpFn 𝓤 𝓛.H 𝓣.C 𝓣.Λ (function E)) (closing 𝓛 (ended E) (spec E (Asks E) (Gives E) 𝓛))
meets E 𝓛 𝓣 = meets_by E (Asks E) (Gives E) 𝓛 𝓣 (function E) (walk E 𝓛 𝓣)

pub link_last_spec : {M : Type 1} → stated.statement M
unfolding tables_of
link_last_spec 𝓤 𝓛 𝓜 𝓡 wired Y Z L LZ g d dd met md y =
    let E : Bx = record { row = Y; laws = L; al = record { row = Z; laws = LZ; g = g; d = d; drops = dd } } in
    let A = 𝓛.A in
    let 𝓣 : Tables 𝓤 𝓛.H = tables_of 𝓤 𝓛.H 𝓜 (tables 𝓤 𝓛.H 𝓜 𝓡 𝓡.env) in
    let key = #self (args E) in
    let closed = closing 𝓛 (ended E) (spec E (Asks E) (Gives E) 𝓛) in
    spared 𝓛 (ended E).signature (𝓡.run (𝓡.env key)) (run_framed 𝓤 𝓛.H 𝓜 𝓡 (𝓡.env key)) 2 (Y.lives, (Z.lives, tt)) closed
    (entered 𝓤 𝓛.H (triple_of 𝓛 (ended E).signature closed) 𝓣.C 𝓣.Λ key (function E) (code.unfolded 𝓤 𝓛.H 𝓜 𝓡 wired (Y, (Z, tt)) d dd) (meets E 𝓛 𝓣))
    ((y.0.0, y.0.1, tt, y.0.3, y.0.4), y.1)
