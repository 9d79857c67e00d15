-- The verdicts on the invariants of a system along a schedule (profile): in which state each is first not true. A state
-- bears the number of the entries that lead to it, so the start has the number 0.
use Rattle.std.specs.Prelude.{ℕ, ◌+◌, Bool, true, false, if◌then◌else◌, List, [], ◌∷◌, ◌++◌, map, codes}
use Rattle.std.specs.Prelude.{Option, Some, None, Result, Ok, Err}
use Rattle.std.specs.Fmt.{decimal}
use Rattle.ioa_values.specs.Data.{Data, number, truth, constant, tuple, sequence, finite_set, finite_map}
use Rattle.ioa_operators.specs.declared.fault.TermFault.{TermFault}
use Rattle.ioa_operators.specs.declared.fault.TermFault.TheVariants as fault
use Rattle.ioa_actions.specs.declared.fault.StepFault.{StepFault}
use Rattle.ioa_terms.specs.Bindings.{Bindings}
use Rattle.ioa_terms.specs.Meaning.{answer}
use Rattle.ioa_system.specs.Invariants.{InvariantParts}
use Rattle.ioa_system.specs.Systems.{SystemParts}
use Rattle.ioa_transitions.specs.Entries.{PlainEntry}
use Rattle.ioa_compose.specs.declared.configuration.Conf.{Conf}
use Rattle.ioa_compose.specs.Composition.{joint_answer}
use Rattle.ioa_compose.specs.Readings.{invariant_reads}
use Rattle.ioa_compose.specs.Start.{start}
use Rattle.ioa_verdicts.specs.declared.verdict.Verdict.{Verdict}
use Rattle.ioa_verdicts.specs.declared.verdict.Verdict.TheVariants.{Holds, Fails, Undefined, Range}

-- what the term of an invariant gives if it reads this; no value if it can read nothing
abbrev pub answer_by : InvariantParts → Option Bindings → Result Data TermFault
answer_by v None = Err fault.Undefined
answer_by v (Some e) = answer v.term e

-- what the term of an invariant gives in a state
unfoldable pub answer_in : InvariantParts → List Conf → Result Data TermFault
answer_in v cs = answer_by v (invariant_reads v cs)

-- whether a value is the truth value true
abbrev pub is_true : Data → Bool
is_true (truth b) = b
is_true (number z) = false
is_true (constant k) = false
is_true (tuple ds) = false
is_true (sequence ds) = false
is_true (finite_set ds) = false
is_true (finite_map es) = false

-- what an answer in the state of a number says of the invariant
abbrev pub verdict_at : ℕ → Result Data TermFault → Verdict
verdict_at k (Ok d) = if is_true d then Holds else Fails k
verdict_at k (Err fault.Undefined) = Undefined k
verdict_at k (Err fault.Range) = Range k
verdict_at k (Err fault.Memory) = Undefined k

-- whether the invariant holds as far as a verdict says
abbrev pub is_open : Verdict → Bool
is_open Holds = true
is_open (Fails k) = false
is_open (Undefined k) = false
is_open (Range k) = false

-- the first of two verdicts that does not say that the invariant holds
abbrev pub or_later : Verdict → Verdict → Verdict
or_later Holds w = w
or_later (Fails k) w = Fails k
or_later (Undefined k) w = Undefined k
or_later (Range k) w = Range k

-- a verdict on what comes after a step: nothing if it is no step
abbrev pub if_step : (List Conf → Verdict) → Result (List Conf) StepFault → Verdict
if_step f (Ok next) = f next
if_step f (Err e) = Holds

-- the verdict on an invariant from the state of number k on, along these entries
abbrev pub verdict_from : InvariantParts → ℕ → List PlainEntry → List Conf → Verdict
verdict_from v k [] cs = verdict_at k (answer_in v cs)
verdict_from v k (e ∷ more) cs =
    or_later (verdict_at k (answer_in v cs)) (if_step (verdict_from v (k + 1) more) (joint_answer e cs))

-- the verdicts on the invariants of a system along a schedule from its start
abbrev pub verdicts_of : SystemParts → List PlainEntry → List Verdict
verdicts_of s entries = map (λ v. verdict_from v 0 entries (start s)) s.invariants

-- a verdict as text (profile)
abbrev pub verdict_text : Verdict → List ℕ
verdict_text Holds = codes "holds"
verdict_text (Fails k) = codes "fails at " ++ decimal k
verdict_text (Undefined k) = codes "undefined at " ++ decimal k
verdict_text (Range k) = codes "range at " ++ decimal k
