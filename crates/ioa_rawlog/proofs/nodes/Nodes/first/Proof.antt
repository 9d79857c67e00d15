-- `first` reads a pointer through a `&`. Assumes `Logic`.
use Rattle.ioa_rawlog.proofs.Walks.{pointer_in, pointer_out, refl, sym, ◌∙◌, List, [], ◌∷◌, ℕ, ◌+◌, ◌<◌, arith, length, length-map, Ura, SProp, ent, Lft, Share, Calls, Loops, WpFn, WpFn-mono, Logic, fact, ⋆, ◌$◌, ◌∵◌, !, qed, move, keep, join, fjoin, suffices, done, stop, fld, of_opd, returns, enter, alloc_all, pass_all, free_all, look_at, get, through, sets, yes, RefOf, plain, nothing, Clauses, Ended, Meets, says, Stays, stay_dropped, walk_of, ends_at, Goes-dropped, walk_Meets, word-Good, emp, via, fst∗, Val, vptr, agg, look, load, and_then, no_more, Ptr-Good, word, word_made, Fn, inst_fn, Tables, tables, tables_of, spared, entered, run_framed, triple_of, closing, Bx, args}
use Rattle.ioa_rawlog.specs.contracts.nodes.Place as Pl
use Rattle.ioa_rawlog.specs.Links.{Link, links_of}
use Rattle.ioa_rawlog.specs.Places.{IsAt}
use Rattle.ioa_rawlog.proofs.Chained.{chain_had, place_is, first_is}
use Rattle.ioa_rawlog.proofs.Owned.{D, Nr}
use Rattle.ioa_rawlog.proofs.Seen.{nodes_seen}
use Rattle.ioa_rawlog.proofs.Entries.{lent_self, Lent, lent}
use Rattle.ioa_rawlog.specs.contracts.nodes.Nodes.first.Key.{name as #self}
use Rattle.ioa_rawlog.proofs.nodes.Nodes.first.Statement as stated
use Rattle.ioa_rawlog.proofs.nodes.Nodes.first.Code as code

module _ (E : Bx) where
  abbrev function : Fn
  function = inst_fn (args E) code.function

  abbrev ended : Ended
  ended = record { signature = record { lifetimes = 1; outlives = []; params = RefOf (0 ∷ []) tt (plain (λ _. Nr E)) (λ _. tt) ∷ []; result = plain (λ _. Pl.the_row) }; kept = (yes, tt) }

  abbrev stayed : Stays ended.signature.params ended.kept
  stayed = (stay_dropped (RefOf (0 ∷ []) tt (plain (λ _. Nr E)) (λ _. tt)) yes, tt)

  abbrev spec : {M : Type 1} {𝓤 : Ura M} (𝓛 : Logic 𝓤) → Clauses 𝓤 ended
  spec {𝓤 = 𝓤} 𝓛 κs a = record { ghost = Unit {0}; requires = λ _. emp 𝓤; ensures = λ _ r _. fact 𝓤 (0 < length a.0.now.items → IsAt a.0.now 0 r) }

module _ (E : Bx) {M : Type 1} {𝓤 : Ura M} (𝓛 : Logic 𝓤) (C : Calls 𝓤 𝓛.H) (Λ : Loops 𝓤 𝓛.H) (κ : Lft) (q : Share) (b o : ℕ) (d : D E) (ps : List Val) where
  abbrev bound : (walk_of 𝓛 (ended E) (stayed E) (spec E 𝓛)).Ghost
  bound = (((κ, tt), (q, tt), tt, (lent_self E κ q b o d, tt), (ps, tt)), tt)

  abbrev Post : Val → SProp 𝓤
  Post = (walk_of 𝓛 (ended E) (stayed E) (spec E 𝓛)).post bound

  walk : ent 𝓤 (⋆ 𝓛 (Lent E κ q 𝓛 b o d)) (WpFn 𝓤 𝓛.H C Λ (function E) (vptr b o ∷ []) Post)
  walk =
      let ls : List Link = links_of d.frames in
      let same = length-map d.frames (λ n. n.0) in
      let matched = d.matched in
      let linked = chain_had d.first d.last ls d.chained in
      qed 𝓛 (Lent E κ q 𝓛 b o d) ∵ enter ! C Λ (function E) (vptr b o ∷ []) _ $ alloc_all ! (λ l. pass_all ! refl ((tt, tt), tt) $
      -- [`first`; `last`; the items; the pointers; the token]
      nodes_seen ! E d b o $ move ! (0 ∷ 4 ∷ []) $ pointer_in ! tt d.first b (o + 0) (λ s.
      sets ! (of_opd ! (load ! (through ! refl (fld ! refl (stop !))) (look ! 0 refl))) refl (Ptr-Good d.first) $ sets ! (of_opd ! (get ! refl)) refl (Ptr-Good d.first) $
      sets ! (agg ! (and_then ! (get ! refl) (no_more !))) refl (word-Good Pl.the_type.name d.first) $ pointer_out ! tt d.first b (o + 0) $
      returns ! (look_at ! 0 refl) $ free_all ! refl $ keep ! (0 ∷ []) $
      suffices ! _ (ends_at 𝓛 (ended E) (stayed E) (spec E 𝓛) bound (word d.first) (record { pointer = d.first }) (tt, tt) (tt, tt)) $
      says ! (λ more. (more, first_is d.first ls (omega arith) linked.0 ∙ sym (place_is ls 0))) $
      word_made ! d.first $ nothing ! $ nothing ! $ fjoin ! $ join ! $ nothing ! $ move ! (2 ∷ 0 ∷ []) $ join ! $ join ! $ done !))

meets : (E : Bx) {M : Type 1} {𝓤 : Ura M} (𝓛 : Logic 𝓤) (𝓣 : Tables 𝓤 𝓛.H)
    → Meets 𝓛 (ended E).signature (WpFn 𝓤 𝓛.H 𝓣.C 𝓣.Λ (function E)) (closing 𝓛 (ended E) (spec E 𝓛))
meets E {𝓤 = 𝓤} 𝓛 𝓣 =
    walk_Meets 𝓛 (ended E) (stayed E) (Goes-dropped 𝓛 1 (RefOf (0 ∷ []) tt (plain (λ _. Nr E)) (λ _. tt)) yes (λ κs x f. refl), tt) (spec E 𝓛)
    (WpFn 𝓤 𝓛.H 𝓣.C 𝓣.Λ (function E)) (WpFn-mono 𝓤 𝓛.H 𝓛.laws 𝓣 (function E))
    (λ z. let s = z.0.3.0 in let b = s.ref_ptr.0 in let o = s.ref_ptr.1 in via 𝓤 _ (fst∗ 𝓤 _ (emp 𝓤))
    (lent E z.0.0.0 z.0.1.0 𝓛 (λ vs. WpFn 𝓤 𝓛.H 𝓣.C 𝓣.Λ (function E) vs (Post E 𝓛 𝓣.C 𝓣.Λ z.0.0.0 z.0.1.0 b o s.now z.0.4.0)) b o s.now z.0.4.0
    (walk E 𝓛 𝓣.C 𝓣.Λ z.0.0.0 z.0.1.0 b o s.now z.0.4.0)))

pub first_spec : {M : Type 1} → stated.statement M
unfolding tables_of
first_spec 𝓤 𝓛 𝓜 𝓡 wired Y Z L LZ g d dd met md y =
    let E : Bx = record { row = Y; laws = L; al = record { row = Z; laws = LZ; g = g; d = d; drops = dd } } in
    let A = 𝓛.A in
    let 𝓣 : Tables 𝓤 𝓛.H = tables_of 𝓤 𝓛.H 𝓜 (tables 𝓤 𝓛.H 𝓜 𝓡 𝓡.env) in
    let key = #self (args E) in
    let closed = closing 𝓛 (ended E) (spec E 𝓛) in
    spared 𝓛 (ended E).signature (𝓡.run (𝓡.env key)) (run_framed 𝓤 𝓛.H 𝓜 𝓡 (𝓡.env key)) 2 (Y.lives, (Z.lives, tt)) closed
    (entered 𝓤 𝓛.H (triple_of 𝓛 (ended E).signature closed) 𝓣.C 𝓣.Λ key (function E) (code.unfolded 𝓤 𝓛.H 𝓜 𝓡 wired (Y, (Z, tt)) d dd) (meets E 𝓛 𝓣))
    ((y.0.0, y.0.1, tt, y.0.3, y.0.4), y.1)
