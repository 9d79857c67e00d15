-- What the report of a run tells may be told.
use Rattle.std.proofs.Common.{◌≡◌, ◌≤◌, ◌<◌, ◌+◌, ◌^◌, ℕ, List, [], ◌∷◌, length, map, sum, Ok, Err, refl, sym, ◌∙◌, arith}
use Rattle.std.specs.List.{AllByRecursion}
use Rattle.std.specs.Prelude.{Result, true, false, Bool, if◌then◌else◌}
use Rattle.std.proofs.lemmas.List.{length-map}
use Rattle.std.proofs.lemmas.List.Sums.{sum_by-cons}
use Rattle.ioa_values.specs.Data.{Data}
use Rattle.ioa_operators.specs.declared.fault.TermFault.{TermFault}
use Rattle.ioa_operators.specs.declared.fault.TermFault.TheVariants as term
use Rattle.ioa_actions.specs.declared.fault.StepFault.{StepFault}
use Rattle.ioa_tokens.specs.Lexeme.{greatest_number}
use Rattle.ioa_source.specs.Sides.{SourceText}
use Rattle.ioa_system.specs.Invariants.{InvariantParts}
use Rattle.ioa_system.specs.Systems.{SystemParts}
use Rattle.ioa_text_reader.specs.Texts.{TextSpells}
use Rattle.ioa_check.specs.Systems.{IsSystemOf}
use Rattle.ioa_transitions.specs.Entries.{PlainEntry}
use Rattle.ioa_compose.specs.Composition.{joint_answer}
use Rattle.ioa_compose.specs.Start.{start}
use Rattle.ioa_compose.specs.declared.configuration.Conf.{Conf}
use Rattle.ioa_record.specs.declared.ending.Ending.{Ending}
use Rattle.ioa_record.specs.declared.options.TheConstants.{GREATEST_STEPS}
use Rattle.ioa_record.specs.declared.record.Record.{Record}
use Rattle.ioa_verdicts.specs.Verdicts.{answer_in, if_step, is_true, or_later, verdict_at, verdict_from, verdicts_of}
use Rattle.ioa_verdicts.specs.declared.verdict.Verdict.{Verdict}
use Rattle.ioa_verdicts.specs.declared.verdict.Verdict.TheVariants.{Holds, Fails, Undefined, Range}
use Rattle.ioa_monitor.specs.Reports.{report_text}
use Rattle.ioa_runtime_values.specs.RuntimeValues.{AreRuntimeConfs, HasRuntimeValues}
use Rattle.ioa_report_laws.specs.Reported.{IsRunOfText}
use Rattle.ioa_report_laws.specs.Told.{IsPlaced, IsWord, MayBeTold, Told, told_by, telling}

-- no count is greater than the sum
counts_small : (cs : List ℕ) (n : ℕ) → sum cs ≤ n → n < 2 ^ 64 → AllByRecursion IsWord cs
counts_small [] n most small = tt
counts_small (c ∷ cs) n most small =
    let split = sum_by-cons (λ (x : ℕ). x) c cs in
    (omega (arith, split, most, small), counts_small cs n (omega (arith, split, most)) small)

-- the place of a verdict is that of an entry, or behind the last
abbrev IsWithin : ℕ → Verdict → Type 0
IsWithin n Holds = Unit {0}
IsWithin n (Fails k) = k ≤ n
IsWithin n (Undefined k) = k ≤ n
IsWithin n (Range k) = k ≤ n

if_true : (n k : ℕ) (b : Bool) → k ≤ n → IsWithin n (if b then Holds else Fails k)
if_true n k true low = tt
if_true n k false low = low

placed_at : (n k : ℕ) (a : Result Data TermFault) → k ≤ n → IsWithin n (verdict_at k a)
placed_at n k (Ok d) low = if_true n k (is_true d) low
placed_at n k (Err term.Undefined) low = low
placed_at n k (Err term.Range) low = low
placed_at n k (Err term.Memory) low = low

placed_later : (n : ℕ) (v w : Verdict) → IsWithin n v → IsWithin n w → IsWithin n (or_later v w)
placed_later n Holds w h g = g
placed_later n (Fails k) w h g = h
placed_later n (Undefined k) w h g = h
placed_later n (Range k) w h g = h

placed_step : (n : ℕ) (f : List Conf → Verdict) (r : Result (List Conf) StepFault) → ((cs : List Conf) → IsWithin n (f cs)) → IsWithin n (if_step f r)
placed_step n f (Ok next) h = h next
placed_step n f (Err e) h = tt

placed_from : (v : InvariantParts) (n k : ℕ) (entries : List PlainEntry) (cs : List Conf) → k + length entries ≤ n → IsWithin n (verdict_from v k entries cs)
placed_from v n k [] cs low = placed_at n k (answer_in v cs) (omega (arith, low))
placed_from v n k (e ∷ more) cs low =
    placed_later n (verdict_at k (answer_in v cs)) (if_step (verdict_from v (k + 1) more) (joint_answer e cs)) (placed_at n k (answer_in v cs) (omega (arith, low)))
    (placed_step n (verdict_from v (k + 1) more) (joint_answer e cs) (λ next. placed_from v n (k + 1) more next (omega (arith, low))))

small_place : (n : ℕ) (v : Verdict) → n < 2 ^ 64 → IsWithin n v → IsPlaced v
small_place n Holds small h = tt
small_place n (Fails k) small h = omega (arith, small, h)
small_place n (Undefined k) small h = omega (arith, small, h)
small_place n (Range k) small h = omega (arith, small, h)

all_placed : (vs : List InvariantParts) (entries : List PlainEntry) (cs : List Conf) → length entries < 2 ^ 64 → AllByRecursion IsPlaced (map (λ v. verdict_from v 0 entries cs) vs)
all_placed [] entries cs small = tt
all_placed (v ∷ vs) entries cs small =
    (small_place (length entries) (verdict_from v 0 entries cs) small (placed_from v (length entries) 0 entries cs (omega arith)), all_placed vs entries cs small)

few_entries : (n told steps : ℕ) → told ≡ steps → told ≤ GREATEST_STEPS → n ≤ steps → n ≤ greatest_number
few_entries n told steps same within low = omega (arith, same, within, low)

-- a run by options in their range
pub run_told : (text : List ℕ) (s : SystemParts) (r : Record) (endings : List Ending) (told steps : ℕ) → told ≡ steps → told ≤ GREATEST_STEPS → AllByRecursion HasRuntimeValues r.schedule → AreRuntimeConfs r.states.items → IsRunOfText text s steps r →
    MayBeTold s (told_by s r endings)
run_told text s r endings told steps same within values states run =
    let few = few_entries (length r.schedule) told steps same within run.run.left.replayed.within in
    let small : length r.schedule < 2 ^ 64 = omega (arith, few) in
    record {
      schedule = record { left = r.states.items; execution = run.run.execution; values = values; few = few };
      states = record { taken = r.schedule; execution = run.run.execution; values = states };
      commits = counts_small r.commits.items (length r.schedule) (omega (arith, r.complete)) small;
      verdicts = length-map s.invariants (λ v. verdict_from v 0 r.schedule (start s));
      places = all_placed s.invariants r.schedule (start s) small;
    }

-- two runs of one text with one report
abbrev pub WholeLaw : Type 0
WholeLaw = (s : SystemParts) (r : Record) (endings : List Ending) → report_text s r endings ≡ telling s (told_by s r endings)

abbrev pub TellsLaw : Type 0
TellsLaw = (p : SourceText) (text : List ℕ) (s : SystemParts) (t u : Told) → TextSpells p text → IsSystemOf p s → MayBeTold s t → MayBeTold s u → telling s t ≡ telling s u → t ≡ u

pub same_told : WholeLaw → TellsLaw → (text : List ℕ) (s : SystemParts) (r q : Record) (endings later : List Ending) (steps : ℕ) → IsRunOfText text s steps r → MayBeTold s (told_by s r endings) → MayBeTold s (told_by s q later) →
    report_text s r endings ≡ report_text s q later → told_by s r endings ≡ told_by s q later
same_told whole tells text s r q endings later steps run one other same =
    tells run.source text s (told_by s r endings) (told_by s q later) run.spelled run.system one other (sym (whole s r endings) ∙ same ∙ whole s q later)
