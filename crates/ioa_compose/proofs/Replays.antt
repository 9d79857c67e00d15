-- Replays and projections.
use Rattle.std.proofs.Common.{◌≡◌, ℕ, zero, suc, ◌+◌, ◌∙◌, List, [], ◌∷◌, ◌++◌, Some, None, Result, Ok, Err, ◌⊎◌, inl, inr, refl, ap, take, slice_get, add-one}
use Rattle.std.specs.Result.{IfErr}
use Rattle.ioa_transitions.specs.Entries.{PlainEntry}
use Rattle.ioa_compose.specs.declared.configuration.Conf.{Conf}
use Rattle.ioa_actions.specs.declared.fault.StepFault.{StepFault}
use Rattle.ioa_actions.specs.declared.fault.StepFault.TheVariants.{Memory}
use Rattle.ioa_compose.specs.declared.replaying.ReplayFault.{ReplayFault}
use Rattle.ioa_compose.specs.Composition.{joint_answer}
use Rattle.ioa_compose.specs.Executions.{after_step, replay, IsFaultOf, StopsAt}

-- the replay of a list that begins with another goes on from the end of that one
pub replay-append : (entries more : List PlainEntry) (cs mid : List Conf) → replay entries cs ≡ Some mid → replay (entries ++ more) cs ≡ replay more mid
replay-append [] more cs mid h = let same_confs : cs ≡ mid = cc in rw same_confs refl
replay-append (entry ∷ entries) more cs mid h = at_step (joint_answer entry cs) h (λ next e. replay-append entries more next mid e)
  where
    at_step : (r : Result (List Conf) StepFault) → after_step (replay entries) r ≡ Some mid → ((next : List Conf) → replay entries next ≡ Some mid → replay (entries ++ more) next ≡ replay more mid) →
        after_step (replay (entries ++ more)) r ≡ replay more mid
    at_step (Ok next) h further = further next h
    at_step (Err f) h further = absurd (cc)

-- one more step at the end
pub replay-push : (entries : List PlainEntry) (entry : PlainEntry) (cs mid next : List Conf) → replay entries cs ≡ Some mid → joint_answer entry mid ≡ Ok next → replay (entries ++ entry ∷ []) cs ≡ Some next
replay-push entries entry cs mid next h e = replay-append entries (entry ∷ []) cs mid h ∙ rw e refl

-- the first entries and the next one
pub take-next : (n : ℕ) (xs : List PlainEntry) (entry : PlainEntry) → slice_get xs n ≡ Some entry → take (suc n) xs ≡ take n xs ++ entry ∷ []
take-next n [] entry h = absurd (cc)
take-next zero (x ∷ xs) entry h = let same_entry : x ≡ entry = cc in rw same_entry refl
take-next (suc n) (x ∷ xs) entry h = ap (λ (l : List PlainEntry). x ∷ l) (take-next n xs entry h)

-- one more step at a position
pub replay-next : (n : ℕ) (entries : List PlainEntry) (entry : PlainEntry) (cs mid next : List Conf) → slice_get entries n ≡ Some entry → replay (take n entries) cs ≡ Some mid → joint_answer entry mid ≡ Ok next → replay (take (n + 1) entries) cs ≡ Some next
replay-next n entries entry cs mid next at h e = rw (add-one, take-next n entries entry at) (replay-push (take n entries) entry cs mid next h e)

-- there is no replay beyond a fault
pub replay-fault : (n : ℕ) (f : StepFault) (entries : List PlainEntry) (cs mid : List Conf) → replay (take n entries) cs ≡ Some mid → IsFaultOf f (slice_get entries n) mid → replay entries cs ≡ None
replay-fault n f [] cs mid h e = absurd e
replay-fault zero f (entry ∷ more) cs mid h e = let same_confs : cs ≡ mid = cc in rw (same_confs, e) refl
replay-fault (suc n) f (entry ∷ more) cs mid h e = at_step (joint_answer entry cs) h (λ next further. replay-fault n f more next mid further e)
  where
    at_step : (r : Result (List Conf) StepFault) → after_step (replay (take n more)) r ≡ Some mid → ((next : List Conf) → replay (take n more) next ≡ Some mid → replay more next ≡ None) →
        after_step (replay more) r ≡ None
    at_step (Ok next) h further = further next h
    at_step (Err g) h further = refl

-- entries at which a replay stops have no replay, or it had no memory
pub StopsAt-no_replay : (start : List Conf) (entries : List PlainEntry) (e : ReplayFault) → StopsAt start entries e → (e.fault ≡ Memory) ⊎ (replay entries start ≡ None)
StopsAt-no_replay start entries e s = by_fault s.fault
  where
    by_fault : (e.fault ≡ Memory) ⊎ IsFaultOf e.fault (slice_get entries e.position) s.reached → (e.fault ≡ Memory) ⊎ (replay entries start ≡ None)
    by_fault (inl m) = inl m
    by_fault (inr f) = inr (replay-fault e.position e.fault entries start s.reached s.before f)

-- the same of a result
pub stopped-no_replay : {X : Type 0} (r : Result X ReplayFault) (start : List Conf) (entries : List PlainEntry) → IfErr r (StopsAt start entries) → IfErr r (λ e. (e.fault ≡ Memory) ⊎ (replay entries start ≡ None))
stopped-no_replay (Ok x) start entries h = tt
stopped-no_replay (Err e) start entries h = StopsAt-no_replay start entries e h
