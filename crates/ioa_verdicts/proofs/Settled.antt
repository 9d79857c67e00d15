-- Verdicts that are settled, pointwise.
use Rattle.std.proofs.Common.{◌≡◌, ℕ, zero, suc, Bool, true, false, List, [], ◌∷◌, Option, Some, None, refl, ap, sym, ◌∙◌, set, length, if◌then◌else◌}
use Rattle.std.specs.Prelude.{nat_eq, slice_get}
use Rattle.std.specs.List.{list_any}
use Rattle.std.proofs.lemmas.Bool.{eqb-true, eqb-false}
use Rattle.std.proofs.lemmas.List.{length-set}
use Rattle.ioa_actions.specs.declared.component.Component.{Component}
use Rattle.ioa_system.specs.Invariants.{InvariantParts}
use Rattle.ioa_compose.specs.declared.configuration.Conf.{Conf}
use Rattle.ioa_verdicts.specs.Readers.{is_among, noted_of, settled, settled_one, settled_parts}
use Rattle.ioa_verdicts.specs.Open.{is_open_at}
use Rattle.ioa_verdicts.specs.Verdicts.{answer_in, or_later, verdict_at}
use Rattle.ioa_verdicts.specs.declared.verdict.Verdict.{Verdict}
use Rattle.ioa_verdicts.specs.declared.verdict.Verdict.TheVariants.{Holds, Fails, Undefined, Range}
use Rattle.ioa_verdicts.proofs.Chosen.{chosen, chosen-again}

-- what is at a place after a write: what was written there
slice_get-set_same : {A : Type 0} (xs : List A) (i : ℕ) (x y : A) → slice_get xs i ≡ Some x → slice_get (set xs i y) i ≡ Some y
slice_get-set_same [] i x y h = absurd (cc)
slice_get-set_same (z ∷ xs) zero x y h = refl
slice_get-set_same (z ∷ xs) (suc i) x y h = slice_get-set_same xs i x y h

-- and at another place what was there
slice_get-set_other : {A : Type 0} (xs : List A) (i j : ℕ) (y : A) → (j ≡ i → ⊥) → slice_get (set xs i y) j ≡ slice_get xs j
slice_get-set_other [] i j y e = refl
slice_get-set_other (z ∷ xs) zero zero y e = absurd (e refl)
slice_get-set_other (z ∷ xs) zero (suc j) y e = refl
slice_get-set_other (z ∷ xs) (suc i) zero y e = refl
slice_get-set_other (z ∷ xs) (suc i) (suc j) y e = slice_get-set_other xs i j y (λ h. e (ap suc h))

-- the verdicts stay as many
pub length-settled_one : (k : ℕ) (cs : List Conf) (i : ℕ) (v : Option InvariantParts) (f : Option Verdict) (found : List Verdict) → length (settled_one k cs i v f found) ≡ length found
length-settled_one k cs i None f found = refl
length-settled_one k cs i (Some v) f found = by_test (is_open_at f)
  where
    by_test : (b : Bool) → length (if b then set found i (verdict_at k (answer_in v cs)) else found) ≡ length found
    by_test true = length-set found i (verdict_at k (answer_in v cs))
    by_test false = refl

pub length-settled : (k : ℕ) (cs : List Conf) (vs : List InvariantParts) (is : List ℕ) (found : List Verdict) → length (settled k cs vs is found) ≡ length found
unfolding settled
length-settled k cs vs [] found = refl
length-settled k cs vs (i ∷ is) found =
    length-settled k cs vs is (settled_one k cs i (slice_get vs i) (slice_get found i) found) ∙ length-settled_one k cs i (slice_get vs i) (slice_get found i) found

pub length-settled_parts : (k : ℕ) (cs : List Conf) (vs : List InvariantParts) (noted : List (List ℕ)) (names parts : List Component) (found : List Verdict) → length (settled_parts k cs vs noted names parts found) ≡ length found
unfolding settled_parts
length-settled_parts k cs vs noted names [] found = refl
length-settled_parts k cs vs noted names (c ∷ more) found =
    length-settled_parts k cs vs noted names more (settled k cs vs (noted_of noted names c) found) ∙ length-settled k cs vs (noted_of noted names c) found

-- at the number that is settled there is the verdict so far, or that in the state
at_number : (k : ℕ) (cs : List Conf) (i : ℕ) (v : InvariantParts) (f : Verdict) (found : List Verdict) → slice_get found i ≡ Some f →
    slice_get (settled_one k cs i (Some v) (Some f) found) i ≡ Some (or_later f (verdict_at k (answer_in v cs)))
at_number k cs i v Holds found h = slice_get-set_same found i Holds (verdict_at k (answer_in v cs)) h
at_number k cs i v (Fails m) found h = h
at_number k cs i v (Undefined m) found h = h
at_number k cs i v (Range m) found h = h

-- at another there is the verdict so far
at_other : (k : ℕ) (cs : List Conf) (i j : ℕ) (v : Option InvariantParts) (f : Option Verdict) (found : List Verdict) → (j ≡ i → ⊥) → slice_get (settled_one k cs i v f found) j ≡ slice_get found j
at_other k cs i j None f found e = refl
at_other k cs i j (Some v) f found e = by_test (is_open_at f)
  where
    by_test : (b : Bool) → slice_get (if b then set found i (verdict_at k (answer_in v cs)) else found) j ≡ slice_get found j
    by_test true = slice_get-set_other found i j (verdict_at k (answer_in v cs)) e
    by_test false = refl

-- after one number
settled_one-each : (k : ℕ) (cs : List Conf) (vs : List InvariantParts) (i : ℕ) (found : List Verdict) (j : ℕ) (v : InvariantParts) (f : Verdict) →
    slice_get vs j ≡ Some v → slice_get found j ≡ Some f →
    slice_get (settled_one k cs i (slice_get vs i) (slice_get found i) found) j ≡ Some (chosen (nat_eq j i) f (verdict_at k (answer_in v cs)))
settled_one-each k cs vs i found j v f hv hf = by_test (nat_eq j i) refl
  where
    by_test : (b : Bool) → nat_eq j i ≡ b → slice_get (settled_one k cs i (slice_get vs i) (slice_get found i) found) j ≡ Some (chosen b f (verdict_at k (answer_in v cs)))
    by_test true e =
        let same : i ≡ j = sym (eqb-true j i e) in
        rw (same, hv, hf) (at_number k cs j v f found hf)
    by_test false e = at_other k cs i j (slice_get vs i) (slice_get found i) found (eqb-false j i e) ∙ hf

-- after several numbers
pub settled-each : (k : ℕ) (cs : List Conf) (vs : List InvariantParts) (is : List ℕ) (found : List Verdict) (j : ℕ) (v : InvariantParts) (f : Verdict) →
    slice_get vs j ≡ Some v → slice_get found j ≡ Some f → slice_get (settled k cs vs is found) j ≡ Some (chosen (is_among j is) f (verdict_at k (answer_in v cs)))
unfolding settled
settled-each k cs vs [] found j v f hv hf = hf
settled-each k cs vs (i ∷ is) found j v f hv hf =
    settled-each k cs vs is (settled_one k cs i (slice_get vs i) (slice_get found i) found) j v (chosen (nat_eq j i) f (verdict_at k (answer_in v cs))) hv (settled_one-each k cs vs i found j v f hv hf)
    ∙ ap (λ (w : Verdict). Some w) (chosen-again (nat_eq j i) (is_among j is) f (verdict_at k (answer_in v cs)))

-- after what is noted of components
pub settled_parts-each : (k : ℕ) (cs : List Conf) (vs : List InvariantParts) (noted : List (List ℕ)) (names parts : List Component) (found : List Verdict) (j : ℕ) (v : InvariantParts) (f : Verdict) →
    slice_get vs j ≡ Some v → slice_get found j ≡ Some f →
    slice_get (settled_parts k cs vs noted names parts found) j ≡ Some (chosen (list_any (λ c. is_among j (noted_of noted names c)) parts) f (verdict_at k (answer_in v cs)))
unfolding settled_parts
settled_parts-each k cs vs noted names [] found j v f hv hf = hf
settled_parts-each k cs vs noted names (c ∷ more) found j v f hv hf =
    settled_parts-each k cs vs noted names more (settled k cs vs (noted_of noted names c) found) j v (chosen (is_among j (noted_of noted names c)) f (verdict_at k (answer_in v cs))) hv (settled-each k cs vs (noted_of noted names c) found j v f hv hf)
    ∙ ap (λ (w : Verdict). Some w) (chosen-again (is_among j (noted_of noted names c)) (list_any (λ l. is_among j (noted_of noted names l)) more) f (verdict_at k (answer_in v cs)))
