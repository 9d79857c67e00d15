-- A value goes behind the others, and its place is known.
use Rattle.ioa_sharing.proofs.Walk.{◌≡◌, ℕ, ◌+◌, List, [], ◌∷◌, ◌++◌, refl, length, leaves, proved, a_type, dnil}
use Rattle.ioa_sharing.proofs.Walk.{named, Val, vptr, inst_fn, SProp, emp, Gv, Fml, ftrue, fsep, flft, fact, fact_i}
use Rattle.ioa_sharing.proofs.Walk.{tables, ‵, raw, ◌⊛◌, later, ◌$◌, ◌∵◌, !, qed, by, move, keep, split, join, fsplit}
use Rattle.ioa_sharing.proofs.Walk.{fsplit3, fjoin, fjoin3, use0, use1, await, feq_i, no_more, and_then, returns}
use Rattle.ioa_sharing.proofs.Walk.{enter, alloc_all, pass_all, free_all, look_at, get, sets, agg, yes, RattleType}
use Rattle.ioa_sharing.proofs.Walk.{owns, types_at, plain, RefOf, mut_vals, mut_Tells, shr_vals, shr_Tells, nothing}
use Rattle.ioa_sharing.proofs.Walk.{opens, closes, param, bounded, Stays, walk_of, stay_dropped, stay_ref}
use Rattle.ioa_sharing.proofs.Walk.{Goes-dropped, Goes-ref, token, Token, token_made}
use Rattle.ioa_sharing.specs.Kept.{entry_owns, ledger_owns}
use Rattle.ioa_sharing.specs.contracts.tokens.Entry as Entry
use Rattle.ioa_sharing.specs.contracts.tokens.Ledger as Ledger
use Rattle.ioa_sharing.specs.contracts.tokens.Ledger.append.{ended, clauses}
use Rattle.ioa_sharing.specs.contracts.tokens.Ledger.append.Key.{name as #self}
use Rattle.ioa_sharing.proofs.Listed.{one_longer}
use Rattle.ioa_sharing.proofs.Steps as steps
use Rattle.ioa_sharing.proofs.tokens.Ledger.append.Statement.{statement}
use Rattle.ioa_sharing.proofs.tokens.Ledger.append.Code as code

pub append_spec : {M : Type 1} → statement M
append_spec 𝓤 𝓛 𝓜 𝓡 wired T _ =
    let 𝓣 = tables 𝓤 𝓛.H 𝓜 𝓡 𝓡.env in let T' : RattleType = param 0 T in let En = ended T in
    let c = clauses T 𝓛 𝓜.mem 𝓡.returns in let inst = bounded (a_type ∷ []) (T, tt) dnil in
    let fn = inst_fn inst code.function in let row : RattleType = Ledger.the_row in
    let hs : Stays En.signature.params En.kept = (
      stay_ref (0 ∷ []) tt (plain (λ _. row)),
      (stay_dropped (RefOf (1 ∷ []) tt (plain (λ _. T')) (λ _. tt)) yes, tt),
    ) in
    proved 𝓛 En hs c 𝓜 𝓡 (
      Goes-ref 𝓛 3 0 tt (plain (λ _. row)),
      (Goes-dropped 𝓛 3 (RefOf (1 ∷ []) tt (plain (λ _. T')) (λ _. tt)) yes (λ κs x f. refl), tt),
    )
    (#self inst) fn (code.unfolded 𝓤 𝓛.H 𝓜 𝓡 wired (T, tt))
    (λ κs. (mut_vals, (shr_vals, tt)))
    (λ κs. (mut_Tells (named 0) κs.0 row, (shr_Tells (named 1) κs.1.0 T', tt))) (λ κs qs bounds a gh are.
    let b : ℕ = a.0.ref_ptr.0 in let o : ℕ = a.0.ref_ptr.1 in let at : Val = vptr b o in
    let at' : Val = vptr a.1.0.ref_ptr.0 a.1.0.ref_ptr.1 in let me : row.Denot = a.0.now in let x = a.1.0.now in
    let longer : List Gv = me.log ++ T'.coded.code x ∷ [] in
    let me' : row.Denot = record { marker = me.marker; name = me.name; log = longer } in
    let r : (Entry.the_row T').Denot =
    record { marker = record {}; name = me.name; number = length me.log; value = x } in
    let A₁ : Type 0 = (me.name ≡ me.name) × (me.name ≡ me.name) in
    let A₂ : Type 0 = length longer ≡ length me.log + 1 in
    let A₃ : Type 0 = (length me.log ≡ length me.log) × (x ≡ x) in
    let y : (walk_of 𝓛 En hs c).Ghost = ((κs, qs, bounds, a, (at ∷ [], (at' ∷ [], tt))), gh) in
    let Post : Val → SProp 𝓤 = (walk_of 𝓛 En hs c).post y in
    let tokens : Fml = fsep (flft κs.0 qs.0) (fsep (flft κs.1.0 qs.1.0) (fsep (flft κs.1.1.0 qs.1.1.0) ftrue)) in
    qed 𝓛 ((‵ tokens ⊛ ‵ (owns (types_at En.signature.params κs) a y.0.4)) ∷ raw ((c κs a).requires gh) ∷ []) ∵
    keep ! (0 ∷ []) $ split ! $ fsplit ! $ move ! (2 ∷ []) $ fsplit ! $ fsplit3 ! $ keep ! (1 ∷ 2 ∷ 4 ∷ 5 ∷ []) $
    -- the borrow; the promise of its last value; its token; the other tokens
    enter ! 𝓣.C 𝓣.Λ fn (at ∷ at' ∷ []) Post $ alloc_all ! (λ l. pass_all ! refl ((tt, tt), ((tt, tt), tt)) $
    opens ! tt row b o (λ ts. move ! (1 ∷ []) $ fsplit ! $ move ! (1 ∷ []) $
    use1 𝓛 (later (‵ (ledger_owns me.name longer) ⊛ ‵ (entry_owns T'.coded.code me.name (length me.log) x)))
    (steps.appends 𝓛 T'.coded me.name me.log x) $ await ! tt $ split ! $
    move ! (2 ∷ 0 ∷ []) $ fjoin ! $ move ! (2 ∷ 0 ∷ 3 ∷ 4 ∷ 5 ∷ []) $
    closes ! tt row me' ts b o $ feq_i ! (List Val) (at ∷ []) (at ∷ []) refl $ fjoin3 ! $
    -- the ledger, given back; its token; the entry; the other tokens
    nothing ! $ nothing ! $ fjoin ! $ move ! (1 ∷ 0 ∷ []) $ fjoin ! $ move ! (1 ∷ 3 ∷ []) $ fjoin ! $ move ! (2 ∷ []) $
    use0 𝓛 (‵ ((Token T').own_val (record {}, tt) (token ∷ []))) (token_made T' 𝓛) $ fjoin ! $
    sets ! (agg ! (no_more !)) refl (tt, tt) $
    sets ! (agg ! (and_then ! (get ! refl) (no_more !))) refl (tt, (tt, tt)) $
    use0 𝓛 (raw (fact 𝓤 A₃)) (fact_i 𝓤 A₃ (emp 𝓤) (refl, refl)) $
    use0 𝓛 (raw (fact 𝓤 A₂)) (fact_i 𝓤 A₂ (emp 𝓤) (one_longer me.log (T'.coded.code x))) $ join ! $
    use0 𝓛 (raw (fact 𝓤 A₁)) (fact_i 𝓤 A₁ (emp 𝓤) (refl, refl)) $ join ! $
    returns ! (look_at ! 0 refl) $ free_all ! refl $ keep ! (2 ∷ 3 ∷ 1 ∷ 0 ∷ []) $
    by ! (leaves 𝓛 En hs c y token r (me', (tt, tt)) (tt, (tt, tt))))))
