-- `item` shows an item that is lent. Assumes `Logic`.
use Rattle.ioa_rawlog.proofs.Walks.{uncons, ◌≡◌, refl, ap, ◌∙◌, List, [], ◌∷◌, ℕ, ◌+◌, ◌<◌, ◌^◌, arith, length-map, Ura, SProp, ent, Lft, Share, Calls, Loops, WpFn, WpFn-mono, Logic, fact, ⋆, ◌$◌, ◌∵◌, !, qed, move, keep, join, fjoin, suffices, done, stop, fld, of_opd, returns, enter, alloc_all, pass_all, free_all, look_at, get, through, sets, yes, RefOf, plain, nothing, Clauses, Ended, Meets, says, Stays, stay_dropped, walk_of, ends_at, Goes-dropped, walk_Meets, word-Good, addr, feq_i, any-default, get_or, X, R, no, usize, never, fst∗, sem, ‵, use1, drop, fsplit, whole, sub, first, blocks, exec, after, at_ret, Env, env, get_in, sets_last, is, ptr_val, in_a_block, ◌+ₚ◌, shared_of, hide, lent_at, needs, Val, vint, vptr, w64, word, Fn, inst_fn, Tables, tables, tables_of, spared, entered, run_framed, triple_of, closing, Bx, args}
use Rattle.ioa_rawlog.specs.declared.nodes.Place.{Place}
use Rattle.ioa_rawlog.specs.contracts.nodes.Place as Pl
use Rattle.ioa_rawlog.specs.Links.{Link, links_of}
use Rattle.ioa_rawlog.specs.Places.{IsAt}
use Rattle.ioa_rawlog.specs.Ownership.{item_offset}
use Rattle.ioa_rawlog.proofs.Chained.{link_at, place_is}
use Rattle.ioa_rawlog.proofs.Owned.{D, Nr}
use Rattle.ioa_rawlog.proofs.Seen.{nodes_seen, item_at}
use Rattle.ioa_rawlog.proofs.Entries.{lent_self, Lent, lent_at_place}
use Rattle.ioa_rawlog.specs.contracts.nodes.Nodes.item.Key.{name as #self}
use Rattle.ioa_rawlog.proofs.nodes.Nodes.item.Statement as stated
use Rattle.ioa_rawlog.proofs.nodes.Nodes.item.Code as code

module _ (E : Bx) where
  abbrev function : Fn
  function = inst_fn (args E) code.function

  abbrev ended : Ended
  ended = record { signature = record { lifetimes = 1; outlives = []; params = RefOf (0 ∷ []) tt (plain (λ _. Nr E)) (λ _. tt) ∷ plain (λ _. Pl.the_row) ∷ plain (λ _. usize) ∷ []; result = RefOf (0 ∷ []) tt (plain (λ _. R E)) (λ _. tt) }; kept = (yes, (no, (no, tt))) }

  abbrev stayed : Stays ended.signature.params ended.kept
  stayed = (stay_dropped (RefOf (0 ∷ []) tt (plain (λ _. Nr E)) (λ _. tt)) yes, (stay_dropped (plain (λ _. Pl.the_row)) no, (stay_dropped (plain (λ _. usize)) no, tt)))

  abbrev spec : {M : Type 1} {𝓤 : Ura M} (𝓛 : Logic 𝓤) → Clauses 𝓤 ended
  spec {𝓤 = 𝓤} 𝓛 κs a = record {
    ghost = Unit {0};
    requires = λ _. fact 𝓤 (IsAt a.0.now a.1.1.0 a.1.0);
    ensures = λ _ r _. fact 𝓤 (r.now ≡ get_or a.0.now.items a.1.1.0 r.now);
  }

module _ (E : Bx) {M : Type 1} {𝓤 : Ura M} (𝓛 : Logic 𝓤) (C : Calls 𝓤 𝓛.H) (Λ : Loops 𝓤 𝓛.H) (κ : Lft) (q : Share) (b o : ℕ) (d : D E) (at : Place) (i : ℕ) (ps us vs : List Val) where
  abbrev bound : (walk_of 𝓛 (ended E) (stayed E) (spec E 𝓛)).Ghost
  bound = (((κ, tt), (q, tt), tt, (lent_self E κ q b o d, (at, (i, tt))), (ps, (us, (vs, tt)))), tt)

  abbrev Post : Val → SProp 𝓤
  Post = (walk_of 𝓛 (ended E) (stayed E) (spec E 𝓛)).post bound

  walk : i < 2 ^ 64 → IsAt d i at → ent 𝓤 (⋆ 𝓛 (Lent E κ q 𝓛 b o d)) (WpFn 𝓤 𝓛.H C Λ (function E) (vptr b o ∷ word at.pointer ∷ vint w64 i ∷ []) Post)
  walk fits asked =
      let ls : List Link = links_of d.frames in
      let same = length-map d.frames (λ n. n.0) in
      let matched = d.matched in
      let within = asked.0 in
      let n : Link = link_at ls i in
      let here : at.pointer ≡ n.0 = asked.1 ∙ place_is ls i in
      qed 𝓛 (Lent E κ q 𝓛 b o d) ∵ enter ! C Λ (function E) (vptr b o ∷ word at.pointer ∷ vint w64 i ∷ []) _ $
      alloc_all ! (λ l. pass_all ! refl ((tt, tt), (word-Good Pl.the_type.name at.pointer, ((tt, record { fits = fits }), tt))) $
      let En : Env 𝓤 𝓛.H = env (function E).locals l in
      -- [`first`; `last`; the items; the pointers; the token]
      nodes_seen ! E d b o $
      let y : X E = (uncons d.items (omega arith)).0 in
      let x : X E = get_or d.items i y in
      let k : ℕ = item_offset (R E) in
      move ! (2 ∷ []) $ use1 𝓛 (‵ (lent_at (R E) (n.0 +ₚ k) x κ)) (item_at 𝓛 κ (R E) ls d.items i y (omega arith) (omega arith)) $
      in_a_block ! n.0 (λ p. lent_at (R E) (p +ₚ k) x κ) (fst∗ 𝓤 (never 𝓤) (sem 𝓛 (shared_of (R E) x 0 0 κ))) (λ nb no e. fsplit ! $ drop ! $ hide ! $
      -- [the item; `first`; `last`; the pointers; the token]
      let r : Val = vptr nb (no + k) in
      sets ! (is ! (of_opd ! (get_in ! (fld ! refl (stop !)) (sub ! 0 refl (whole !)))) (ap ptr_val (here ∙ e))) refl (tt, tt) $ first ! $ blocks ! $
      sets_last ! (addr ! (through ! refl (fld ! refl (stop !)))) refl (tt, tt) $ exec ! C Λ En (after 2 (function E).body) (at_ret En Post) $ sets ! (of_opd ! (get ! refl)) refl (tt, tt) $
      feq_i ! (List Val) (r ∷ []) (r ∷ []) refl $ fjoin ! $ returns ! (look_at ! 0 refl) $ free_all ! refl $ keep ! (0 ∷ 4 ∷ []) $
      suffices ! _ (ends_at 𝓛 (ended E) (stayed E) (spec E 𝓛) bound r (record { ref_ptr = (nb, no + k); now = x }) (tt, (tt, (tt, tt))) (tt, (tt, (tt, tt)))) $
      says ! (any-default d.items i y x (omega arith)) $
      nothing ! $ nothing ! $ fjoin ! $ nothing ! $ fjoin ! $ nothing ! $ fjoin ! $ join ! $ nothing ! $ move ! (2 ∷ 0 ∷ []) $ join ! $ join ! $ done !))

meets : (E : Bx) {M : Type 1} {𝓤 : Ura M} (𝓛 : Logic 𝓤) (𝓣 : Tables 𝓤 𝓛.H)
    → Meets 𝓛 (ended E).signature (WpFn 𝓤 𝓛.H 𝓣.C 𝓣.Λ (function E)) (closing 𝓛 (ended E) (spec E 𝓛))
meets E {𝓤 = 𝓤} 𝓛 𝓣 =
    walk_Meets 𝓛 (ended E) (stayed E) (Goes-dropped 𝓛 1 (RefOf (0 ∷ []) tt (plain (λ _. Nr E)) (λ _. tt)) yes (λ κs x f. refl), (Goes-dropped 𝓛 1 (plain (λ _. Pl.the_row)) no (λ κs x f. refl), (Goes-dropped 𝓛 1 (plain (λ _. usize)) no (λ κs x f. refl), tt))) (spec E 𝓛) (WpFn 𝓤 𝓛.H 𝓣.C 𝓣.Λ (function E)) (WpFn-mono 𝓤 𝓛.H 𝓛.laws 𝓣 (function E))
    (λ z. let a = z.0.3 in let s = a.0 in let b = s.ref_ptr.0 in let o = s.ref_ptr.1 in let vss = z.0.4 in needs 𝓤 (IsAt s.now a.1.1.0 a.1.0) _ (λ asked.
    lent_at_place E z.0.0.0 z.0.1.0 𝓛 (λ vs. WpFn 𝓤 𝓛.H 𝓣.C 𝓣.Λ (function E) vs (Post E 𝓛 𝓣.C 𝓣.Λ z.0.0.0 z.0.1.0 b o s.now a.1.0 a.1.1.0 vss.0 vss.1.0 vss.1.1.0))
    b o s.now a.1.0 a.1.1.0 vss.0 vss.1.0 vss.1.1.0 (λ fits. walk E 𝓛 𝓣.C 𝓣.Λ z.0.0.0 z.0.1.0 b o s.now a.1.0 a.1.1.0 vss.0 vss.1.0 vss.1.1.0 fits asked)))

pub item_spec : {M : Type 1} → stated.statement M
unfolding tables_of
item_spec 𝓤 𝓛 𝓜 𝓡 wired Y Z L LZ g d dd met md y =
    let E : Bx = record { row = Y; laws = L; al = record { row = Z; laws = LZ; g = g; d = d; drops = dd } } in
    let A = 𝓛.A in
    let 𝓣 : Tables 𝓤 𝓛.H = tables_of 𝓤 𝓛.H 𝓜 (tables 𝓤 𝓛.H 𝓜 𝓡 𝓡.env) in
    let key = #self (args E) in
    let closed = closing 𝓛 (ended E) (spec E 𝓛) in
    spared 𝓛 (ended E).signature (𝓡.run (𝓡.env key)) (run_framed 𝓤 𝓛.H 𝓜 𝓡 (𝓡.env key)) 2 (Y.lives, (Z.lives, tt)) closed
    (entered 𝓤 𝓛.H (triple_of 𝓛 (ended E).signature closed) 𝓣.C 𝓣.Λ key (function E) (code.unfolded 𝓤 𝓛.H 𝓜 𝓡 wired (Y, (Z, tt)) d dd) (meets E 𝓛 𝓣))
    ((y.0.0, y.0.1, tt, y.0.3, y.0.4), y.1)
