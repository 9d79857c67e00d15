-- `new` owns nothing. Assumes `Logic`.
use Rattle.ioa_rawlog.proofs.Walks.{◌≡◌, refl, [], ◌∷◌, Ura, ent, emp, via, fst∗, ftrue, Calls, Loops, WpFn, WpFn-mono, Logic, fact, ‵, ◌$◌, ◌∵◌, !, qed, keep, join, fjoin, suffices, done, agg, stop, from, addr, and_then, no_more, returns, enter, alloc_all, pass_all, free_all, look_at, get, sets, Ptr, block_ptr, plain, nothing, Clauses, Ended, on_entry, Meets, says, Stays, walk_of, ends_at, walk_Meets, Fn, inst_fn, Tables, tables, tables_of, spared, entered, run_framed, triple_of, closing, Bx, args}
use Rattle.ioa_rawlog.proofs.Owned.{ends, D, Nr, nodes_made}
use Rattle.ioa_rawlog.specs.contracts.nodes.Nodes.new.Key.{name as #self}
use Rattle.ioa_rawlog.proofs.nodes.Nodes.new.Statement as stated
use Rattle.ioa_rawlog.proofs.nodes.Nodes.new.Code as code

module _ (E : Bx) where
  abbrev function : Fn
  function = inst_fn (args E) code.function

  abbrev ended : Ended
  ended = record { signature = record { lifetimes = 0; outlives = []; params = []; result = plain (λ _. Nr E) }; kept = tt }

  abbrev stayed : Stays ended.signature.params ended.kept
  stayed = tt

  abbrev spec : {M : Type 1} {𝓤 : Ura M} (𝓛 : Logic 𝓤) → Clauses 𝓤 ended
  spec {𝓤 = 𝓤} 𝓛 κs a = record { ghost = Unit {0}; requires = λ _. emp 𝓤; ensures = λ _ r _. fact 𝓤 (r.items ≡ []) }

module _ (E : Bx) {M : Type 1} {𝓤 : Ura M} (𝓛 : Logic 𝓤) (C : Calls 𝓤 𝓛.H) (Λ : Loops 𝓤 𝓛.H) where
  abbrev bound : (walk_of 𝓛 (ended E) (stayed E) (spec E 𝓛)).Ghost
  bound = ((tt, tt, tt, tt, tt), tt)

  walk : ent 𝓤 (on_entry 𝓛 (ended E).signature tt tt tt tt) (WpFn 𝓤 𝓛.H C Λ (function E) [] ((walk_of 𝓛 (ended E) (stayed E) (spec E 𝓛)).post bound))
  walk =
      qed 𝓛 (‵ ftrue ∷ ‵ ftrue ∷ []) ∵ enter ! C Λ (function E) [] _ $ alloc_all ! (λ l. pass_all ! refl tt $
      let p : Ptr = block_ptr (l 1) 0 in
      let new : D E = record { first = p; last = p; items = []; frames = []; matched = refl; chained = ∣ (tt, tt) ∣₁ } in
      sets ! (agg ! (no_more !)) refl (tt, tt) $ sets ! (addr ! (from ! (stop !))) refl (tt, tt) $
      sets ! (agg ! (and_then ! (get ! refl) (and_then ! (get ! refl) (no_more !)))) refl (tt, (tt, (tt, tt))) $
      returns ! (look_at ! 0 refl) $ free_all ! refl $ keep ! (0 ∷ 1 ∷ []) $ fjoin ! $ nodes_made E ! new $
      suffices ! _ (ends_at 𝓛 (ended E) (stayed E) (spec E 𝓛) bound (ends p p) new tt tt) $ says ! refl $ nothing ! $ join ! $ nothing ! $ join ! $ done !)

meets : (E : Bx) {M : Type 1} {𝓤 : Ura M} (𝓛 : Logic 𝓤) (𝓣 : Tables 𝓤 𝓛.H)
    → Meets 𝓛 (ended E).signature (WpFn 𝓤 𝓛.H 𝓣.C 𝓣.Λ (function E)) (closing 𝓛 (ended E) (spec E 𝓛))
meets E {𝓤 = 𝓤} 𝓛 𝓣 =
    walk_Meets 𝓛 (ended E) (stayed E) tt (spec E 𝓛) (WpFn 𝓤 𝓛.H 𝓣.C 𝓣.Λ (function E)) (WpFn-mono 𝓤 𝓛.H 𝓛.laws 𝓣 (function E))
    (λ z. via 𝓤 _ (fst∗ 𝓤 _ (emp 𝓤)) (walk E 𝓛 𝓣.C 𝓣.Λ))

pub new_spec : {M : Type 1} → stated.statement M
unfolding tables_of
new_spec 𝓤 𝓛 𝓜 𝓡 wired Y Z L LZ g d dd met md y =
    let E : Bx = record { row = Y; laws = L; al = record { row = Z; laws = LZ; g = g; d = d; drops = dd } } in
    let A = 𝓛.A in
    let 𝓣 : Tables 𝓤 𝓛.H = tables_of 𝓤 𝓛.H 𝓜 (tables 𝓤 𝓛.H 𝓜 𝓡 𝓡.env) in
    let key = #self (args E) in
    let closed = closing 𝓛 (ended E) (spec E 𝓛) in
    spared 𝓛 (ended E).signature (𝓡.run (𝓡.env key)) (run_framed 𝓤 𝓛.H 𝓜 𝓡 (𝓡.env key)) 2 (Y.lives, (Z.lives, tt)) closed
    (entered 𝓤 𝓛.H (triple_of 𝓛 (ended E).signature closed) 𝓣.C 𝓣.Λ key (function E) (code.unfolded 𝓤 𝓛.H 𝓜 𝓡 wired (Y, (Z, tt)) d dd) (meets E 𝓛 𝓣))
    ((y.0.0, y.0.1, tt, y.0.3, y.0.4), y.1)
