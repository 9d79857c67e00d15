-- What a verdict says of a schedule.
use Rattle.std.proofs.Common.{◌≡◌, ◌≢◌, ℕ, zero, suc, ◌+◌, ◌≤◌, Bool, true, false, List, [], ◌∷◌, Option, Some, None, Result, Ok, Err, refl, ap, sym, ◌∙◌, subst, length, take, arith, if◌then◌else◌}
use Rattle.ioa_values.specs.Data.{Data, number, truth, constant, tuple, sequence, finite_set, finite_map, is_within}
use Rattle.ioa_operators.specs.declared.fault.TermFault.{TermFault}
use Rattle.ioa_operators.specs.declared.fault.TermFault.TheVariants as fault
use Rattle.std.specs.List.{list_all}
use Rattle.std.specs.Option.{ok_or}
use Rattle.ioa_actions.specs.declared.fault.StepFault.{StepFault}
use Rattle.ioa_terms.specs.Bindings.{Bindings}
use Rattle.ioa_terms.specs.Meaning.{numbers_met, value}
use Rattle.ioa_system.specs.Invariants.{InvariantParts}
use Rattle.ioa_transitions.specs.Entries.{PlainEntry}
use Rattle.ioa_compose.specs.declared.configuration.Conf.{Conf}
use Rattle.ioa_compose.specs.Composition.{joint_answer}
use Rattle.ioa_compose.specs.Executions.{after_step, replay}
use Rattle.ioa_compose.specs.Readings.{invariant_reads}
use Rattle.ioa_verdicts.specs.Meant.{AnswersAfter, IsFaultAnswer, IsFirst, IsOtherAnswer, IsTrueAnswer, IsVerdictOf}
use Rattle.ioa_verdicts.specs.Verdicts.{answer_by, answer_in, if_step, is_true, or_later, verdict_at, verdict_from}
use Rattle.ioa_verdicts.specs.declared.verdict.Verdict.{Verdict}
use Rattle.ioa_verdicts.specs.declared.verdict.Verdict.TheVariants.{Holds, Fails, Undefined, Range}

-- a verdict with one entry more in front of it
abbrev one_later : Verdict → Verdict
one_later Holds = Holds
one_later (Fails k) = Fails (suc k)
one_later (Undefined k) = Undefined (suc k)
one_later (Range k) = Range (suc k)

or_later-one_later : (a w : Verdict) → or_later (one_later a) (one_later w) ≡ one_later (or_later a w)
or_later-one_later Holds w = refl
or_later-one_later (Fails k) w = refl
or_later-one_later (Undefined k) w = refl
or_later-one_later (Range k) w = refl

verdict_at-one_later : (k : ℕ) (r : Result Data TermFault) → verdict_at (suc k) r ≡ one_later (verdict_at k r)
verdict_at-one_later k (Ok d) = by_test (is_true d)
  where
    by_test : (b : Bool) → (if b then Holds else Fails (suc k)) ≡ one_later (if b then Holds else Fails k)
    by_test true = refl
    by_test false = refl
verdict_at-one_later k (Err fault.Undefined) = refl
verdict_at-one_later k (Err fault.Range) = refl
verdict_at-one_later k (Err fault.Memory) = refl

-- a state's number is counted on
verdict_from-one_later : (v : InvariantParts) (k : ℕ) (entries : List PlainEntry) (cs : List Conf) → verdict_from v (suc k) entries cs ≡ one_later (verdict_from v k entries cs)
verdict_from-one_later v k [] cs = verdict_at-one_later k (answer_in v cs)
verdict_from-one_later v k (e ∷ more) cs =
    let here : verdict_at (suc k) (answer_in v cs) ≡ one_later (verdict_at k (answer_in v cs)) = verdict_at-one_later k (answer_in v cs) in
    let number : suc k + 1 ≡ suc (k + 1) = omega arith in
    rw (here, number, by_answer (joint_answer e cs) (λ next. verdict_from-one_later v (k + 1) more next))
    (or_later-one_later (verdict_at k (answer_in v cs)) (if_step (verdict_from v (k + 1) more) (joint_answer e cs)))
  where
    by_answer : (r : Result (List Conf) StepFault) → ((next : List Conf) → verdict_from v (suc (k + 1)) more next ≡ one_later (verdict_from v (k + 1) more next)) →
        if_step (verdict_from v (suc (k + 1)) more) r ≡ one_later (if_step (verdict_from v (k + 1) more) r)
    by_answer (Ok next) further = further next
    by_answer (Err f) further = refl

-- the truth value true, by its test
true_is : (d : Data) → is_true d ≡ true → d ≡ truth true
true_is (truth b) h = ap (λ (a : Bool). truth a) h
true_is (number z) h = absurd (cc)
true_is (constant k) h = absurd (cc)
true_is (tuple ds) h = absurd (cc)
true_is (sequence ds) h = absurd (cc)
true_is (finite_set ds) h = absurd (cc)
true_is (finite_map es) h = absurd (cc)

other_is : (d : Data) → is_true d ≡ false → d ≢ truth true
other_is d h e = let test : is_true d ≡ true = rw e refl in absurd (cc)

other_test : (d : Data) (b : Bool) → is_true d ≡ b → d ≢ truth true → b ≡ false
other_test d true h ne = absurd (ne (true_is d h))
other_test d false h ne = refl

-- no term lacks memory
never_memory : (v : InvariantParts) (cs : List Conf) → answer_in v cs ≡ Err fault.Memory → ⊥
unfolding answer_in
never_memory v cs h = by_reads (invariant_reads v cs) h
  where
    by_value : (o : Option Data) → ok_or o fault.Undefined ≡ Err fault.Memory → ⊥
    by_value None h = absurd (cc)
    by_value (Some d) h = absurd (cc)

    by_test : (b : Bool) (o : Option Data) → (if b then ok_or o fault.Undefined else Err fault.Range) ≡ Err fault.Memory → ⊥
    by_test true o h = by_value o h
    by_test false o h = absurd (cc)

    by_reads : (o : Option Bindings) → answer_by v o ≡ Err fault.Memory → ⊥
    by_reads None h = absurd (cc)
    by_reads (Some e) h = by_test (list_all is_within (numbers_met v.term e)) (value v.term e) h

-- what the state at the start answers
at_start : (P : Result Data TermFault → Type 0) (v : InvariantParts) (entries : List PlainEntry) (from : List Conf) → P (answer_in v from) → AnswersAfter P v entries from 0
at_start P v [] from h = record { state = from; reached = refl; answers = h }
at_start P v (e ∷ more) from h = record { state = from; reached = refl; answers = h }

-- what a later state answers, with one entry more in front
at_later : (P : Result Data TermFault → Type 0) (v : InvariantParts) (e : PlainEntry) (more : List PlainEntry) (from next : List Conf) (n : ℕ) → joint_answer e from ≡ Ok next → AnswersAfter P v more next n →
    AnswersAfter P v (e ∷ more) from (suc n)
at_later P v e more from next n h a = record { state = a.state; reached = rw h a.reached; answers = a.answers }

-- the first state in which the answer is such a one is the start
first_now : (P : Result Data TermFault → Type 0) (v : InvariantParts) (entries : List PlainEntry) (from : List Conf) → P (answer_in v from) → IsFirst P v entries from 0
first_now P v entries from h = record {
  within = omega arith;
  here = at_start P v entries from h;
  before = λ n less. absurd (omega arith);
}

-- each state so far is one of a true answer, with one entry more in front
true_before : (v : InvariantParts) (e : PlainEntry) (more : List PlainEntry) (from next : List Conf) (n : ℕ) → joint_answer e from ≡ Ok next → answer_in v from ≡ Ok (truth true) →
    ((m : ℕ) → n ≡ suc m → AnswersAfter IsTrueAnswer v more next m) → AnswersAfter IsTrueAnswer v (e ∷ more) from n
true_before v e more from next zero h now before = at_start IsTrueAnswer v (e ∷ more) from now
true_before v e more from next (suc n) h now before = at_later IsTrueAnswer v e more from next n h (before n refl)

-- the first such state is one entry further on
first_later : (P : Result Data TermFault → Type 0) (v : InvariantParts) (e : PlainEntry) (more : List PlainEntry) (from next : List Conf) (k : ℕ) → joint_answer e from ≡ Ok next → answer_in v from ≡ Ok (truth true) →
    IsFirst P v more next k → IsFirst P v (e ∷ more) from (suc k)
first_later P v e more from next k h now x = record {
  within = omega (arith, x.within);
  here = at_later P v e more from next k h x.here;
  before = λ n less. true_before v e more from next n h now (λ m same. x.before m (omega arith));
}

-- a verdict is one entry further on
verdict_later : (v : InvariantParts) (e : PlainEntry) (more : List PlainEntry) (from next : List Conf) (w : Verdict) → joint_answer e from ≡ Ok next → answer_in v from ≡ Ok (truth true) →
    IsVerdictOf v more next w → IsVerdictOf v (e ∷ more) from (one_later w)
verdict_later v e more from next Holds h now x = λ n less. true_before v e more from next n h now (λ m same. x m (omega arith))
verdict_later v e more from next (Fails k) h now x = first_later IsOtherAnswer v e more from next k h now x
verdict_later v e more from next (Undefined k) h now x = first_later (IsFaultAnswer fault.Undefined) v e more from next k h now x
verdict_later v e more from next (Range k) h now x = first_later (IsFaultAnswer fault.Range) v e more from next k h now x

-- a verdict on the start, or a later one if the invariant is true there
verdict_now : (v : InvariantParts) (entries : List PlainEntry) (from : List Conf) (w : Verdict) → (answer_in v from ≡ Ok (truth true) → IsVerdictOf v entries from w) →
    IsVerdictOf v entries from (or_later (verdict_at 0 (answer_in v from)) w)
verdict_now v entries from w later = by_answer (answer_in v from) refl
  where
    by_test : (d : Data) (b : Bool) → answer_in v from ≡ Ok d → is_true d ≡ b → IsVerdictOf v entries from (or_later (if b then Holds else Fails 0) w)
    by_test d true e t = let this : d ≡ truth true = true_is d t in later (e ∙ ap (λ (x : Data). Ok x) this)
    by_test d false e t = first_now IsOtherAnswer v entries from (d, e, other_is d t)

    by_answer : (r : Result Data TermFault) → answer_in v from ≡ r → IsVerdictOf v entries from (or_later (verdict_at 0 r) w)
    by_answer (Ok d) e = by_test d (is_true d) e refl
    by_answer (Err fault.Undefined) e = first_now (IsFaultAnswer fault.Undefined) v entries from e
    by_answer (Err fault.Range) e = first_now (IsFaultAnswer fault.Range) v entries from e
    by_answer (Err fault.Memory) e = absurd (never_memory v from e)

-- the verdict on a schedule that replays is one
pub is_verdict : (v : InvariantParts) (entries : List PlainEntry) (from last : List Conf) → replay entries from ≡ Some last → IsVerdictOf v entries from (verdict_from v 0 entries from)
is_verdict v [] from last h =
    let ends : IsVerdictOf v [] from (or_later (verdict_at 0 (answer_in v from)) Holds) = verdict_now v [] from Holds (λ now n less. here now n less) in
    subst (λ (w : Verdict). IsVerdictOf v [] from w) (nothing_behind (verdict_at 0 (answer_in v from))) ends
  where
    nothing_behind : (w : Verdict) → or_later w Holds ≡ w
    nothing_behind Holds = refl
    nothing_behind (Fails k) = refl
    nothing_behind (Undefined k) = refl
    nothing_behind (Range k) = refl

    here : answer_in v from ≡ Ok (truth true) → (n : ℕ) → n ≤ 0 → AnswersAfter IsTrueAnswer v [] from n
    here now zero less = at_start IsTrueAnswer v [] from now
    here now (suc n) less = absurd (omega arith)
is_verdict v (e ∷ more) from last h = by_answer (joint_answer e from) refl h (λ next g. is_verdict v more next last g)
  where
    by_answer : (r : Result (List Conf) StepFault) → joint_answer e from ≡ r → after_step (replay more) r ≡ Some last → ((next : List Conf) → replay more next ≡ Some last → IsVerdictOf v more next (verdict_from v 0 more next)) →
        IsVerdictOf v (e ∷ more) from (or_later (verdict_at 0 (answer_in v from)) (if_step (verdict_from v (0 + 1) more) r))
    by_answer (Ok next) s g further =
        verdict_now v (e ∷ more) from (verdict_from v 1 more next)
        (λ now. subst (λ (w : Verdict). IsVerdictOf v (e ∷ more) from w) (sym (verdict_from-one_later v 0 more next)) (verdict_later v e more from next (verdict_from v 0 more next) s now (further next g)))
    by_answer (Err f) s g further = absurd (cc)

-- a kind of verdict: what answers it is given for, and that it says that the invariant does not hold
record IsKind (P : Result Data TermFault → Type 0) (of : ℕ → Verdict) : Type 0 where
  says : (n : ℕ) (r : Result Data TermFault) → P r → verdict_at n r ≡ of n
  closed : (n : ℕ) (w : Verdict) → or_later (of n) w ≡ of n
  counts : (n : ℕ) → one_later (of n) ≡ of (suc n)

-- a true answer says that the invariant holds
true_holds : (n : ℕ) (r : Result Data TermFault) → r ≡ Ok (truth true) → verdict_at n r ≡ Holds
true_holds n r e = rw e refl

-- what the state at the start answers, known of the state behind no entries
start_answers : (P : Result Data TermFault → Type 0) (v : InvariantParts) (entries : List PlainEntry) (from : List Conf) → AnswersAfter P v entries from 0 → P (answer_in v from)
start_answers P v [] from a = let same : a.state ≡ from = cc (a.reached) in subst (λ (cs : List Conf). P (answer_in v cs)) same a.answers
start_answers P v (e ∷ more) from a = let same : a.state ≡ from = cc (a.reached) in subst (λ (cs : List Conf). P (answer_in v cs)) same a.answers

-- and what the state behind one entry more answers
later_answers : (P : Result Data TermFault → Type 0) (v : InvariantParts) (e : PlainEntry) (more : List PlainEntry) (from next : List Conf) (n : ℕ) → joint_answer e from ≡ Ok next → AnswersAfter P v (e ∷ more) from (suc n) →
    AnswersAfter P v more next n
later_answers P v e more from next n h a = record { state = a.state; reached = rw h at a.reached; answers = a.answers }

-- what leads to a state behind an entry is a step
steps_first : (P : Result Data TermFault → Type 0) (v : InvariantParts) (e : PlainEntry) (more : List PlainEntry) (from : List Conf) (n : ℕ) → AnswersAfter P v (e ∷ more) from (suc n) → (next : List Conf) × (joint_answer e from ≡ Ok next)
steps_first P v e more from n a = by_answer (joint_answer e from) refl a.reached
  where
    by_answer : (r : Result (List Conf) StepFault) → joint_answer e from ≡ r → after_step (replay (take n more)) r ≡ Some a.state → (next : List Conf) × (joint_answer e from ≡ Ok next)
    by_answer (Ok next) s g = (next, s)
    by_answer (Err f) s g = absurd (cc)

-- the first state of such an answer gives the verdict
first_only : (P : Result Data TermFault → Type 0) (of : ℕ → Verdict) → IsKind P of → (v : InvariantParts) (entries : List PlainEntry) (from : List Conf) (k : ℕ) → IsFirst P v entries from k → verdict_from v 0 entries from ≡ of k
first_only P of kind v [] from zero x = kind.says 0 (answer_in v from) (start_answers P v [] from x.here)
first_only P of kind v [] from (suc k) x = absurd (omega (arith, x.within))
first_only P of kind v (e ∷ more) from zero x = rw (kind.says 0 (answer_in v from) (start_answers P v (e ∷ more) from x.here)) (kind.closed 0 (if_step (verdict_from v (0 + 1) more) (joint_answer e from)))
first_only P of kind v (e ∷ more) from (suc k) x =
    let now : answer_in v from ≡ Ok (truth true) = start_answers IsTrueAnswer v (e ∷ more) from (x.before 0 (omega arith)) in
    let holds : verdict_at 0 (answer_in v from) ≡ Holds = true_holds 0 (answer_in v from) now in
    let step = steps_first P v e more from k x.here in
    let further : verdict_from v 0 more step.0 ≡ of k = first_only P of kind v more step.0 k (record {
      within = omega (arith, x.within);
      here = later_answers P v e more from step.0 k step.1 x.here;
      before = λ n less. later_answers IsTrueAnswer v e more from step.0 n step.1 (x.before (suc n) (omega arith));
    }) in
    rw (holds, step.1) (verdict_from-one_later v 0 more step.0 ∙ (ap one_later further ∙ kind.counts k))

-- if it is true in each state, it holds
all_true : (v : InvariantParts) (entries : List PlainEntry) (from : List Conf) → ((n : ℕ) → n ≤ length entries → AnswersAfter IsTrueAnswer v entries from n) → verdict_from v 0 entries from ≡ Holds
all_true v [] from x = true_holds 0 (answer_in v from) (start_answers IsTrueAnswer v [] from (x 0 (omega arith)))
all_true v (e ∷ more) from x =
    let now : answer_in v from ≡ Ok (truth true) = start_answers IsTrueAnswer v (e ∷ more) from (x 0 (omega arith)) in
    let holds : verdict_at 0 (answer_in v from) ≡ Holds = true_holds 0 (answer_in v from) now in
    let step = steps_first IsTrueAnswer v e more from 0 (x 1 (omega arith)) in
    let further : verdict_from v 0 more step.0 ≡ Holds = all_true v more step.0 (λ n less. later_answers IsTrueAnswer v e more from step.0 n step.1 (x (suc n) (omega arith))) in
    rw (holds, step.1) (verdict_from-one_later v 0 more step.0 ∙ ap one_later further)

fails : IsKind IsOtherAnswer Fails
fails = record { says = λ n r p. other n r p.0 p.1 p.2; closed = λ n w. refl; counts = λ n. refl }
  where
    other : (n : ℕ) (r : Result Data TermFault) (d : Data) → r ≡ Ok d → d ≢ truth true → verdict_at n r ≡ Fails n
    other n r d e ne = let test : is_true d ≡ false = other_test d (is_true d) refl ne in rw (e, test) refl

undefined : IsKind (IsFaultAnswer fault.Undefined) Undefined
undefined = record { says = λ n r e. rw e refl; closed = λ n w. refl; counts = λ n. refl }

out_of_range : IsKind (IsFaultAnswer fault.Range) Range
out_of_range = record { says = λ n r e. rw e refl; closed = λ n w. refl; counts = λ n. refl }

-- whatever verdict says what is so is that on the schedule
pub one_verdict : (v : InvariantParts) (entries : List PlainEntry) (from : List Conf) (w : Verdict) → IsVerdictOf v entries from w → verdict_from v 0 entries from ≡ w
one_verdict v entries from Holds x = all_true v entries from x
one_verdict v entries from (Fails k) x = first_only IsOtherAnswer Fails fails v entries from k x
one_verdict v entries from (Undefined k) x = first_only (IsFaultAnswer fault.Undefined) Undefined undefined v entries from k x
one_verdict v entries from (Range k) x = first_only (IsFaultAnswer fault.Range) Range out_of_range v entries from k x
