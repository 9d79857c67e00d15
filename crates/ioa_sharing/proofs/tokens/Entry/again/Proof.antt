-- A copy: what is known is had twice.
use Rattle.ioa_sharing.proofs.Walk.{[], ◌∷◌, refl, proved, a_type, dnil, named, Val, vptr, inst_fn, SProp, emp, Fml}
use Rattle.ioa_sharing.proofs.Walk.{ftrue, fsep, flft, fhide, fact_i, tables, ‵, raw, ◌⊛◌, ◌$◌, ◌∵◌, !, qed, by, move}
use Rattle.ioa_sharing.proofs.Walk.{keep, drop, split, fsplit, fjoin, use0, use1, no_more, and_then, returns, enter}
use Rattle.ioa_sharing.proofs.Walk.{alloc_all, pass_all, free_all, look_at, get, sets, agg, yes, RattleType, owns}
use Rattle.ioa_sharing.proofs.Walk.{types_at, plain, RefOf, shr_vals, shr_Tells, hidden_shr, unhide, nothing, param}
use Rattle.ioa_sharing.proofs.Walk.{bounded, lent_out, Stays, walk_of, stay_dropped, Goes-dropped, token, Token}
use Rattle.ioa_sharing.proofs.Walk.{token_made, ends}
use Rattle.std.specs.contracts.marker.PhantomData as marker
use Rattle.ioa_sharing.specs.Kept.{entry_owns}
use Rattle.ioa_sharing.specs.contracts.tokens.Entry as Entry
use Rattle.ioa_sharing.specs.contracts.tokens.Entry.again.{ended, clauses}
use Rattle.ioa_sharing.specs.contracts.tokens.Entry.again.Key.{name as #self}
use Rattle.ioa_sharing.proofs.tokens.Entry.again.Statement.{statement}
use Rattle.ioa_sharing.proofs.tokens.Entry.again.Code as code

pub again_spec : {M : Type 1} → statement M
again_spec 𝓤 𝓛 𝓜 𝓡 wired T _ =
    let 𝓣 = tables 𝓤 𝓛.H 𝓜 𝓡 𝓡.env in let T' : RattleType = param 0 T in let En = ended T in
    let c = clauses T 𝓛 𝓜.mem 𝓡.returns in let inst = bounded (a_type ∷ []) (T, tt) dnil in
    let fn = inst_fn inst code.function in let row : RattleType = Entry.the_row T' in
    let hs : Stays En.signature.params En.kept =
    (stay_dropped (RefOf (0 ∷ []) tt (plain (λ _. row)) (λ _. tt)) yes, tt) in
    proved 𝓛 En hs c 𝓜 𝓡
    (Goes-dropped 𝓛 2 (RefOf (0 ∷ []) tt (plain (λ _. row)) (λ _. tt)) yes (λ κs x f. refl), tt)
    (#self inst) fn (code.unfolded 𝓤 𝓛.H 𝓜 𝓡 wired (T, tt))
    (λ κs. (shr_vals, tt)) (λ κs. (shr_Tells (named 0) κs.0 row, tt)) (λ κs qs bounds a gh are.
    let me = a.0.now in let at : Val = vptr a.0.ref_ptr.0 a.0.ref_ptr.1 in
    let known : Fml = entry_owns T'.coded.code me.name me.number me.value in
    let y : (walk_of 𝓛 En hs c).Ghost = ((κs, qs, bounds, a, (at ∷ [], tt)), gh) in
    let Post : Val → SProp 𝓤 = (walk_of 𝓛 En hs c).post y in
    let tokens : Fml = fsep (flft κs.0 qs.0) (fsep (flft κs.1.0 qs.1.0) ftrue) in
    qed 𝓛 ((‵ tokens ⊛ ‵ (owns (types_at En.signature.params κs) a y.0.4)) ∷ raw ((c κs a).requires gh) ∷ []) ∵
    keep ! (0 ∷ []) $ split ! $ fsplit ! $ move ! (2 ∷ []) $ fsplit ! $ fsplit ! $ keep ! (1 ∷ 3 ∷ 4 ∷ []) $
    -- what the reference holds; the tokens
    enter ! 𝓣.C 𝓣.Λ fn (at ∷ []) Post $ alloc_all ! (λ l. pass_all ! refl ((tt, tt), tt) $
    use1 𝓛 (‵ (hidden_shr (Token T') κs.0 (record {}, tt) a.0.ref_ptr.0 a.0.ref_ptr.1) ⊛ ‵ (fhide known))
    (lent_out 𝓛 (Entry.struct T') (Entry.the_codes T.Denot T'.coded (marker.the_row T').coded) (Entry.the_heap T')
    (Entry.the_lent T') κs.0 me a.0.ref_ptr.0 a.0.ref_ptr.1) $ split ! $ drop ! $ unhide ! $
    use0 𝓛 (‵ ((Token T').own_val (record {}, tt) (token ∷ []))) (token_made T' 𝓛) $ fjoin ! $
    sets ! (agg ! (no_more !)) refl (tt, tt) $
    sets ! (agg ! (and_then ! (get ! refl) (no_more !))) refl (tt, (tt, tt)) $
    -- the copy, without its tie to the machine value; the tokens
    move ! (1 ∷ 2 ∷ []) $ fjoin ! $ nothing ! $ nothing ! $ fjoin ! $
    returns ! (look_at ! 0 refl) $ free_all ! refl $ keep ! (1 ∷ 0 ∷ 2 ∷ []) $
    by ! (ends 𝓛 En hs c y token me (tt, tt) (tt, tt) (fact_i 𝓤 _ (emp 𝓤) refl))))
