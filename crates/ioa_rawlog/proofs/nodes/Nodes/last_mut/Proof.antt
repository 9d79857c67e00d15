-- `last_mut` lends the last item, and the nodes follow it. Assumes `Logic`.
use Rattle.ioa_rawlog.proofs.Walks.{unsnoc, ◌≡◌, refl, sym, ap, subst, ◌∙◌, List, [], ◌∷◌, ◌++◌, ℕ, ◌+◌, ◌<◌, arith, length, Ura, SProp, ent, sep, Lft, GName, Share, flft, Env, Calls, Loops, WpFn, WpFn-mono, Logic, sem, fact, ⋆, ‵, ◌⊛◌, at_ret, ◌$◌, ◌∵◌, !, qed, by, move, keep, use1, use2, split, join, rewrite, fjoin, fjoin3, suffices, frame, done, whole, sub, look_in, stop, fld, load, of_opd, addr, first, blocks, exec, returns, enter, alloc_all, pass_all, free_all, look_at, get, through, sets, sets_last, is, env, after, mem, block_ptr, ptr_val, MutRef, named, Val, vptr, RefMutOf, plain, nothing, Clauses, Ended, Meets, says, needs, Stays, walk_of, ends_at, walk_Meets, X, R, ◌-◌, map-append, length-append, get_or, set, full_share, Fml, fsep, Ptr, raw, some, later, await, pick, group, fsplit, fsplit3, fpack, cell_at, part_at, part_of, no, mut_ref_to, stay_dropped, Goes-spent_ref, follows, Part, lends_Part, Fn, inst_fn, Tables, tables, tables_of, spared, entered, run_framed, triple_of, closing, Bx, args}
use lib.Seq.{set_at, get_or_at}
use Rattle.ioa_rawlog.specs.Lending.{with_item}
use Rattle.ioa_rawlog.specs.Links.{Link, links_of, IsChained}
use Rattle.ioa_rawlog.proofs.Chained.{chain_had, last_is}
use Rattle.ioa_rawlog.proofs.Owned.{ends, Hd, D, Nr, io, Held, One, snoc_out, snoc_in, nodes_made, nodes_opens, one_opens, one_closes, pointer, Frees}
use Rattle.ioa_rawlog.proofs.Entries.{held_self, Had, held}
use Rattle.ioa_rawlog.specs.contracts.nodes.Nodes.last_mut.Key.{name as #self}
use Rattle.ioa_rawlog.proofs.nodes.Nodes.last_mut.Statement as stated
use Rattle.ioa_rawlog.proofs.nodes.Nodes.last_mut.Code as code

module _ (E : Bx) where
  abbrev function : Fn
  function = inst_fn (args E) code.function

  abbrev ended : Ended
  ended = record { signature = record { lifetimes = 1; outlives = []; params = RefMutOf (0 ∷ []) tt (plain (λ _. Nr E)) (λ _. tt) ∷ []; result = RefMutOf (0 ∷ []) tt (plain (λ _. R E)) (λ _. tt) }; kept = (no, tt) }

  abbrev stayed : Stays ended.signature.params ended.kept
  stayed = (stay_dropped (mut_ref_to (0 ∷ []) tt (plain (λ _. Nr E))) no, tt)

  abbrev index : D E → ℕ
  index d = length d.items - 1

  abbrev spec : {M : Type 1} {𝓤 : Ura M} (𝓛 : Logic 𝓤) → Clauses 𝓤 ended
  spec {𝓤 = 𝓤} 𝓛 κs a = record {
    ghost = Unit {0};
    requires = λ _. fact 𝓤 (0 < length a.0.now.items);
    ensures = λ _ r _. sep 𝓤 (sem 𝓛 (follows (Nr E) (R E) a.0.ghost_name r.ghost_name (with_item a.0.now (index a.0.now)))) (fact 𝓤 (r.now ≡ get_or a.0.now.items (index a.0.now) r.now));
  }

module _ (E : Bx) {M : Type 1} {𝓤 : Ura M} (𝓛 : Logic 𝓤) (C : Calls 𝓤 𝓛.H) (Λ : Loops 𝓤 𝓛.H) (κ : Lft) (q : Share) (rb ro : ℕ) (γ : GName) (d : D E) (ps : List Val) where
  open 𝓛 use {H, A}

  abbrev bound : (walk_of 𝓛 (ended E) (stayed E) (spec E 𝓛)).Ghost
  bound = (((κ, tt), (q, tt), tt, (held_self E κ q rb ro γ d, tt), (ps, tt)), tt)

  abbrev Post : Val → SProp 𝓤
  Post = (walk_of 𝓛 (ended E) (stayed E) (spec E 𝓛)).post bound

  abbrev new : X E → D E
  new = with_item d (index E d)

  module _ (m : Link × Hd E) (b o : ℕ) (Others : Fml) where
    -- all but the item
    abbrev Rest : Fml
    Rest = fsep (pointer b (o + 0) m.0.1) (fsep (Frees E (block_ptr b o) m.1) (fsep Others (cell_at full_share (Nr E).mir (ends d.first d.last ∷ []) rb ro)))

    -- with the item's last value it makes the nodes again
    back : m.0.0 ≡ block_ptr b o → ((w : X E) → ent 𝓤 (sep 𝓤 (sem 𝓛 (One E m w)) (sem 𝓛 Others)) (sem 𝓛 (Held E d.frames (new w).items)))
        → (w : X E) → ent 𝓤 (sep 𝓤 (sem 𝓛 ((mem (R E)).own_at w b (o + io E))) (sem 𝓛 Rest)) (sem 𝓛 ((mem (Nr E)).own_at (new w) rb ro))
    unfolding part_of
    back e mend w =
        qed 𝓛 (‵ (part_at (R E) full_share w b (o + io E)) ∷ ‵ Rest ∷ []) ∵ move ! (1 ∷ []) $ fsplit3 ! $ move ! (2 ∷ []) $ fsplit ! $ move ! (4 ∷ 2 ∷ 3 ∷ 0 ∷ []) $
        one_closes E ! b o m.0.1 m.1 w $ rewrite ! 0 (λ (p : Ptr). ‵ (One E ((p, m.0.1), m.1) w)) (sym e) refl $
        use2 𝓛 (‵ (Held E d.frames (new w).items)) (mend w) $ nodes_made E ! (new w) $ move ! (1 ∷ 0 ∷ []) $ fjoin ! $
        fpack ! (List Val) (λ vs. fsep (cell_at full_share (Nr E).mir vs rb ro) ((Nr E).own_val (new w) vs)) (ends d.first d.last ∷ []) $ done !

  exits : (b o : ℕ) (x : X E) → x ≡ get_or d.items (index E d) x → (δ : GName)
      → ent 𝓤 (sep 𝓤 (sem 𝓛 ((MutRef (named 0) κ (R E)).own_val (record { ref_ptr = (b, o); ghost_name = δ; now = x }) (vptr b o ∷ []))) (sep 𝓤 (A.lft κ q) (sem 𝓛 (follows (Nr E) (R E) γ δ new)))) (Post (vptr b o))
  exits b o x e δ =
      qed 𝓛 (‵ ((MutRef (named 0) κ (R E)).own_val (record { ref_ptr = (b, o); ghost_name = δ; now = x }) (vptr b o ∷ [])) ∷ ‵ (flft κ q) ∷ ‵ (follows (Nr E) (R E) γ δ new) ∷ []) ∵
      suffices ! _ (ends_at 𝓛 (ended E) (stayed E) (spec E 𝓛) bound (vptr b o) (record { ref_ptr = (b, o); ghost_name = δ; now = x }) (tt, tt) (tt, tt)) $
      nothing ! $ nothing ! $ fjoin ! $ join ! $ nothing ! $ move ! (2 ∷ 0 ∷ []) $ join ! $ join ! $ frame ! $ says ! e $ done !

  walk : 0 < length d.items → ent 𝓤 (⋆ 𝓛 (Had E κ q 𝓛 rb ro γ d)) (WpFn 𝓤 H C Λ (function E) (vptr rb ro ∷ []) Post)
  walk asked =
      let matched = d.matched in
      let ns = unsnoc d.frames (omega arith) in
      let xs = unsnoc d.items asked in
      let m = ns.1 in
      let x = xs.1 in
      let long = ap length ns.2 ∙ length-append ns.0 (m ∷ []) in
      let many = ap length xs.2 ∙ length-append xs.0 (x ∷ []) in
      let alike : length ns.0 ≡ length xs.0 = omega arith in
      let at : length xs.0 ≡ index E d = omega arith in
      let linked = subst (IsChained d.first d.last) (ap links_of ns.2 ∙ map-append (λ n. n.0) ns.0 (m ∷ [])) (chain_had _ _ _ d.chained) in
      let Others : Fml = Held E ns.0 xs.0 in
      let mend : (w : X E) → ent 𝓤 (sep 𝓤 (sem 𝓛 (One E m w)) (sem 𝓛 Others)) (sem 𝓛 (Held E d.frames (new w).items)) =
      λ w. subst (λ (F : Fml). ent 𝓤 (sep 𝓤 (sem 𝓛 (One E m w)) (sem 𝓛 Others)) (sem 𝓛 F)) (λ i. Held E (sym ns.2 i) (sym (ap (λ ys. set ys (index E d) w) xs.2 ∙ set_at xs.0 x [] w (index E d) at) i)) (snoc_in E 𝓛 ns.0 m xs.0 w alike) in
      qed 𝓛 (Had E κ q 𝓛 rb ro γ d) ∵ enter ! C Λ (function E) (vptr rb ro ∷ []) _ $ alloc_all ! (λ l. pass_all ! refl ((tt, tt), tt) $
      let En : Env 𝓤 H = env (function E).locals l in
      nodes_opens E ! tt d rb ro $
      rewrite ! 0 (λ (ks : List (Link × Hd E)). ‵ (Held E ks d.items)) ns.2 refl $ rewrite ! 0 (λ (ys : List (X E)). ‵ (Held E (ns.0 ++ m ∷ []) ys)) xs.2 refl $
      use1 𝓛 (‵ (One E m x) ⊛ ‵ (Held E ns.0 xs.0)) (snoc_out E 𝓛 ns.0 m xs.0 x alike) $ split ! $ one_opens E ! m.0 m.1 x (λ b o e.
      let code = (Nr E).coded.code d in
      -- [the node, in three; the others; the pointers; the open borrow; obs; auth]
      first ! $ blocks ! $ sets ! (is ! (of_opd ! (load ! (through ! refl (fld ! refl (stop !))) (look_in ! 4 (sub ! 1 refl (whole !))))) (ap ptr_val (last_is d.last (links_of ns.0) m.0 linked.1 ∙ e))) refl (tt, tt) $
      sets_last ! (addr ! (through ! refl (fld ! refl (stop !)))) refl (tt, tt) $ exec ! C Λ En (after 1 (function E).body) (at_ret En Post) $ sets ! (of_opd ! (get ! refl)) refl (tt, tt) $
      move ! (2 ∷ 3 ∷ 4 ∷ []) $ fjoin3 ! $ move ! (2 ∷ 0 ∷ []) $ fjoin ! $ move ! (2 ∷ 3 ∷ 4 ∷ 1 ∷ 0 ∷ []) $ group ! 5 $
      use1 𝓛 (later (some (λ (δ : GName). raw (Part 𝓛 (Nr E) (R E) new (named 0) κ q rb ro b (o + io E) γ (sem 𝓛 (Rest m b o Others)) (back m b o Others e mend) x δ))))
      (lends_Part 𝓛 (Nr E) (R E) new (named 0) κ q rb ro b (o + io E) γ (sem 𝓛 (Rest m b o Others)) (back m b o Others e mend) code code x) $ await ! tt $ pick ! (λ δ.
      returns ! (look_at ! 0 refl) $ free_all ! refl $ keep ! (0 ∷ []) $ by ! (exits b (o + io E) x (sym (ap (λ ys. get_or ys (index E d) x) xs.2 ∙ get_or_at xs.0 x [] x (index E d) at)) δ))))

meets : (E : Bx) {M : Type 1} {𝓤 : Ura M} (𝓛 : Logic 𝓤) (𝓣 : Tables 𝓤 𝓛.H)
    → Meets 𝓛 (ended E).signature (WpFn 𝓤 𝓛.H 𝓣.C 𝓣.Λ (function E)) (closing 𝓛 (ended E) (spec E 𝓛))
meets E {𝓤 = 𝓤} 𝓛 𝓣 =
    walk_Meets 𝓛 (ended E) (stayed E) (Goes-spent_ref 𝓛 1 (0 ∷ []) tt (plain (λ _. Nr E)), tt) (spec E 𝓛) (WpFn 𝓤 𝓛.H 𝓣.C 𝓣.Λ (function E)) (WpFn-mono 𝓤 𝓛.H 𝓛.laws 𝓣 (function E))
    (λ z. let s = z.0.3.0 in let b = s.ref_ptr.0 in let o = s.ref_ptr.1 in needs 𝓤 (0 < length s.now.items) _ (λ asked.
    held E z.0.0.0 z.0.1.0 𝓛 (λ vs. WpFn 𝓤 𝓛.H 𝓣.C 𝓣.Λ (function E) vs (Post E 𝓛 𝓣.C 𝓣.Λ z.0.0.0 z.0.1.0 b o s.ghost_name s.now z.0.4.0)) b o s.now s.ghost_name z.0.4.0
    (λ passed. walk E 𝓛 𝓣.C 𝓣.Λ z.0.0.0 z.0.1.0 b o s.ghost_name s.now z.0.4.0 asked)))

pub last_mut_spec : {M : Type 1} → stated.statement M
unfolding tables_of
last_mut_spec 𝓤 𝓛 𝓜 𝓡 wired Y Z L LZ g d dd met md y =
    let E : Bx = record { row = Y; laws = L; al = record { row = Z; laws = LZ; g = g; d = d; drops = dd } } in
    let A = 𝓛.A in
    let 𝓣 : Tables 𝓤 𝓛.H = tables_of 𝓤 𝓛.H 𝓜 (tables 𝓤 𝓛.H 𝓜 𝓡 𝓡.env) in
    let key = #self (args E) in
    let closed = closing 𝓛 (ended E) (spec E 𝓛) in
    spared 𝓛 (ended E).signature (𝓡.run (𝓡.env key)) (run_framed 𝓤 𝓛.H 𝓜 𝓡 (𝓡.env key)) 2 (Y.lives, (Z.lives, tt)) closed
    (entered 𝓤 𝓛.H (triple_of 𝓛 (ended E).signature closed) 𝓣.C 𝓣.Λ key (function E) (code.unfolded 𝓤 𝓛.H 𝓜 𝓡 wired (Y, (Z, tt)) d dd) (meets E 𝓛 𝓣))
    ((y.0.0, y.0.1, tt, y.0.3, y.0.4), y.1)
