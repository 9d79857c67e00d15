-- Two entries of one place have one value.
use Rattle.ioa_sharing.proofs.Walk.{◌≡◌, ℕ, List, [], ◌∷◌, refl, proved, a_type, dnil, named, Val, vunit, vptr}
use Rattle.ioa_sharing.proofs.Walk.{inst_fn, SProp, emp, Fml, ftrue, fsep, flft, fhide, fact, fact_i, tables, ‵, raw}
use Rattle.ioa_sharing.proofs.Walk.{◌⊛◌, given, ◌$◌, ◌∵◌, !, qed, by, move, keep, drop, split, fsplit, fjoin, learn}
use Rattle.ioa_sharing.proofs.Walk.{use1, use2, rewrite, feq_i, of_opd, unit_lit, returns, enter, alloc_all, pass_all}
use Rattle.ioa_sharing.proofs.Walk.{free_all, look_at, sets, yes, RattleType, owns, types_at, plain, RefOf, shr_vals}
use Rattle.ioa_sharing.proofs.Walk.{shr_Tells, hidden_shr, unhide, nothing, param, bounded, lent_out, Stays, walk_of}
use Rattle.ioa_sharing.proofs.Walk.{stay_dropped, Goes-dropped, Token, ends}
use Rattle.std.specs.contracts.marker.PhantomData as marker
use Rattle.ioa_sharing.specs.Kept.{entry_owns}
use Rattle.ioa_sharing.specs.contracts.tokens.Entry as Entry
use Rattle.ioa_sharing.specs.contracts.tokens.Entry.agree.{ended, clauses}
use Rattle.ioa_sharing.specs.contracts.tokens.Entry.agree.Key.{name as #self}
use Rattle.ioa_sharing.proofs.Steps as steps
use Rattle.ioa_sharing.proofs.tokens.Entry.agree.Statement.{statement}
use Rattle.ioa_sharing.proofs.tokens.Entry.agree.Code as code

pub agree_spec : {M : Type 1} → statement M
agree_spec 𝓤 𝓛 𝓜 𝓡 wired T _ =
    let 𝓣 = tables 𝓤 𝓛.H 𝓜 𝓡 𝓡.env in let T' : RattleType = param 0 T in let En = ended T in
    let c = clauses T 𝓛 𝓜.mem 𝓡.returns in let inst = bounded (a_type ∷ []) (T, tt) dnil in
    let fn = inst_fn inst code.function in let row : RattleType = Entry.the_row T' in
    let hs : Stays En.signature.params En.kept = (
      stay_dropped (RefOf (0 ∷ []) tt (plain (λ _. row)) (λ _. tt)) yes,
      (stay_dropped (RefOf (1 ∷ []) tt (plain (λ _. row)) (λ _. tt)) yes, tt),
    ) in
    proved 𝓛 En hs c 𝓜 𝓡 (
      Goes-dropped 𝓛 3 (RefOf (0 ∷ []) tt (plain (λ _. row)) (λ _. tt)) yes (λ κs x f. refl),
      (Goes-dropped 𝓛 3 (RefOf (1 ∷ []) tt (plain (λ _. row)) (λ _. tt)) yes (λ κs x f. refl), tt),
    )
    (#self inst) fn (code.unfolded 𝓤 𝓛.H 𝓜 𝓡 wired (T, tt))
    (λ κs. (shr_vals, (shr_vals, tt)))
    (λ κs. (shr_Tells (named 0) κs.0 row, (shr_Tells (named 1) κs.1.0 row, tt))) (λ κs qs bounds a gh are.
    let me = a.0.now in let other = a.1.0.now in
    let at : Val = vptr a.0.ref_ptr.0 a.0.ref_ptr.1 in let at' : Val = vptr a.1.0.ref_ptr.0 a.1.0.ref_ptr.1 in
    let known : Fml = entry_owns T'.coded.code me.name me.number me.value in
    let told : Fml = entry_owns T'.coded.code other.name other.number other.value in
    let codes = Entry.the_codes T.Denot T'.coded (marker.the_row T').coded in
    let y : (walk_of 𝓛 En hs c).Ghost = ((κs, qs, bounds, a, (at ∷ [], (at' ∷ [], tt))), gh) in
    let Post : Val → SProp 𝓤 = (walk_of 𝓛 En hs c).post y in
    let tokens : Fml = fsep (flft κs.0 qs.0) (fsep (flft κs.1.0 qs.1.0) (fsep (flft κs.1.1.0 qs.1.1.0) ftrue)) in
    qed 𝓛 ((‵ tokens ⊛ ‵ (owns (types_at En.signature.params κs) a y.0.4)) ∷ raw (fact 𝓤 _) ∷ given _ (‵ ftrue) ∷ []) ∵
    keep ! (2 ∷ 0 ∷ []) $ learn ! (λ asked. drop ! $ split ! $ move ! (1 ∷ []) $ fsplit ! $ fsplit ! $
    move ! (2 ∷ []) $ fsplit ! $ fsplit ! $ keep ! (1 ∷ 4 ∷ 5 ∷ []) $
    -- what the second reference holds; what the first one holds; the tokens
    enter ! 𝓣.C 𝓣.Λ fn (at ∷ at' ∷ []) Post $ alloc_all ! (λ l. pass_all ! refl ((tt, tt), ((tt, tt), tt)) $
    use1 𝓛 (‵ (hidden_shr (Token T') κs.1.0 (record {}, tt) a.1.0.ref_ptr.0 a.1.0.ref_ptr.1) ⊛ ‵ (fhide told))
    (lent_out 𝓛 (Entry.struct T') codes (Entry.the_heap T') (Entry.the_lent T') κs.1.0 other
    a.1.0.ref_ptr.0 a.1.0.ref_ptr.1) $ split ! $ drop ! $ unhide ! $ move ! (1 ∷ []) $
    use1 𝓛 (‵ (hidden_shr (Token T') κs.0 (record {}, tt) a.0.ref_ptr.0 a.0.ref_ptr.1) ⊛ ‵ (fhide known))
    (lent_out 𝓛 (Entry.struct T') codes (Entry.the_heap T') (Entry.the_lent T') κs.0 me
    a.0.ref_ptr.0 a.0.ref_ptr.1) $ split ! $ drop ! $ unhide ! $
    -- what the first one knows; what the second one knows; the tokens
    rewrite ! 1 (λ (k : ℕ). ‵ (entry_owns T'.coded.code k other.number other.value)) asked.0 refl $
    rewrite ! 1 (λ (k : ℕ). ‵ (entry_owns T'.coded.code me.name k other.value)) asked.1 refl $
    use2 𝓛 (given (me.value ≡ other.value) (‵ ftrue))
    (steps.agrees 𝓛 T'.coded me.name me.number me.value other.value) $ learn ! (λ same. drop ! $
    sets ! (of_opd ! (unit_lit !)) refl (tt, tt) $ feq_i ! (List Val) (vunit ∷ []) (vunit ∷ []) refl $
    nothing ! $ nothing ! $ fjoin ! $ nothing ! $ fjoin ! $
    returns ! (look_at ! 0 refl) $ free_all ! refl $ keep ! (2 ∷ 0 ∷ 1 ∷ []) $
    by ! (ends 𝓛 En hs c y vunit tt (tt, (tt, tt)) (tt, (tt, tt)) (fact_i 𝓤 _ (emp 𝓤) same))))))
