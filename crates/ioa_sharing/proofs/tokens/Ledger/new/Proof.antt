-- A list is begun.
use Rattle.ioa_sharing.proofs.Walk.{ℕ, [], ◌∷◌, refl, proved, Val, SProp, emp, ftrue, fact_i, tables, ‵, raw, ◌⊛◌}
use Rattle.ioa_sharing.proofs.Walk.{some, later, ◌$◌, ◌∵◌, !, qed, by, keep, split, fjoin, pick, use0, await, no_more}
use Rattle.ioa_sharing.proofs.Walk.{and_then, returns, enter, alloc_all, pass_all, free_all, look_at, get, sets, agg}
use Rattle.ioa_sharing.proofs.Walk.{owns, types_at, unit, nothing, Stays, walk_of, token, Token, token_made, ends}
use Rattle.ioa_sharing.specs.Kept.{ledger_owns}
use Rattle.ioa_sharing.specs.contracts.tokens.Ledger.new.{ended, clauses}
use Rattle.ioa_sharing.specs.contracts.tokens.Ledger.new.Key.{name as #self}
use Rattle.ioa_sharing.proofs.Steps as steps
use Rattle.ioa_sharing.proofs.tokens.Ledger.new.Statement.{statement}
use Rattle.ioa_sharing.proofs.tokens.Ledger.new.Code as code

pub new_spec : {M : Type 1} → statement M
new_spec 𝓤 𝓛 𝓜 𝓡 wired =
    let 𝓣 = tables 𝓤 𝓛.H 𝓜 𝓡 𝓡.env in let c = clauses 𝓛 𝓜.mem 𝓡.returns in let fn = code.function in
    let hs : Stays ended.signature.params ended.kept = tt in
    proved 𝓛 ended hs c 𝓜 𝓡 tt #self fn (code.unfolded 𝓤 𝓛.H 𝓜 𝓡 wired) (λ κs. tt) (λ κs. tt)
    (λ κs qs bounds a gh are.
    let y : (walk_of 𝓛 ended hs c).Ghost = ((κs, qs, bounds, a, tt), gh) in
    let Post : Val → SProp 𝓤 = (walk_of 𝓛 ended hs c).post y in
    qed 𝓛 ((‵ ftrue ⊛ ‵ (owns (types_at ended.signature.params κs) a y.0.4)) ∷ raw ((c κs a).requires gh) ∷ []) ∵
    keep ! (0 ∷ []) $ split ! $ keep ! (0 ∷ []) $
    enter ! 𝓣.C 𝓣.Λ fn [] Post $ alloc_all ! (λ l. pass_all ! refl tt $
    use0 𝓛 (later (some (λ (name : ℕ). ‵ (ledger_owns name [])))) (steps.begins 𝓛) $ await ! tt $ pick ! (λ name.
    use0 𝓛 (‵ ((Token unit).own_val (record {}, tt) (token ∷ []))) (token_made unit 𝓛) $ fjoin ! $
    sets ! (agg ! (no_more !)) refl (tt, tt) $
    sets ! (agg ! (and_then ! (get ! refl) (no_more !))) refl (tt, (tt, tt)) $
    nothing ! $ returns ! (look_at ! 0 refl) $ free_all ! refl $ keep ! (2 ∷ 0 ∷ 1 ∷ []) $
    by ! (ends 𝓛 ended hs c y token (record { marker = record {}; name = name; log = [] }) tt tt
    (fact_i 𝓤 _ (emp 𝓤) refl)))))
