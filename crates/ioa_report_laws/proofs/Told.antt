-- A report tells one schedule, one list of states, one of endings, one of commits and one of verdicts.
use Rattle.std.proofs.Common.{◌≡◌, ℕ, List, [], ◌∷◌, ◌++◌, codes, decimal, length, sum, refl, sym, ap, ◌∙◌, append_assoc, arith}
use Rattle.std.specs.List.{AllByRecursion}
use Rattle.std.proofs.lemmas.List.{append_cancel_left}
use Rattle.ioa_source.specs.Sides.{SourceText}
use Rattle.ioa_system.specs.Systems.{SystemParts}
use Rattle.ioa_text_reader.specs.Texts.{TextSpells}
use Rattle.ioa_check.specs.Systems.{IsSystemOf}
use Rattle.ioa_check.proofs.Declared.{declared_once}
use Rattle.ioa_transitions.specs.Entries.{PlainEntry}
use Rattle.ioa_compose.specs.Automata.{IsExecution}
use Rattle.ioa_compose.specs.JointStep.{IsJointStep}
use Rattle.ioa_compose.specs.Start.{start}
use Rattle.ioa_compose.specs.Steps.{IsStep}
use Rattle.ioa_compose.specs.declared.configuration.Conf.{Conf}
use Rattle.ioa_record.specs.declared.ending.Ending.{Ending}
use Rattle.ioa_record.specs.declared.record.Record.{Record}
use Rattle.ioa_verdicts.specs.declared.verdict.Verdict.{Verdict}
use Rattle.ioa_verdicts.specs.Verdicts.{verdicts_of}
use Rattle.ioa_monitor.specs.Reports.{commit_lines, commits_text, ending_lines, invariant_lines, report_text, schedule_text, states_text}
use Rattle.ioa_printed_lines.specs.TextSystems.{IsTextSystem, MayTake}
use Rattle.ioa_run_laws.specs.Shaped.{AreShaped}
use Rattle.ioa_report_laws.specs.Taken.{IsTaken}
use Rattle.ioa_report_laws.specs.Told.{AreToldStates, HasPart, IsToldSchedule, MayBeTold, Told, told_by, telling, total_line}
use Rattle.ioa_report_laws.proofs.KeptParts.{all_of_start, names_of_start}
use Rattle.ioa_report_laws.proofs.LineTexts.{BeginsNotWith, heads}
use Rattle.ioa_report_laws.proofs.Schedules.{ReadLaw, TextLaw, joined, may_take}
use Rattle.ioa_report_laws.proofs.ToldEnds.{commits_told, counts_begin, endings_told, verdicts_told}
use Rattle.ioa_report_laws.proofs.ToldSchedules.{schedule_told}
use Rattle.ioa_report_laws.proofs.ToldStates.{states_told}

-- an execution takes the entries of its system
abbrev pub ExecutionLaw : Type 0
ExecutionLaw = (p : SourceText) (s : SystemParts) (es : List PlainEntry) (cs : List Conf) → IsSystemOf p s → IsExecution (IsJointStep IsStep) (start s) es cs → AllByRecursion (IsTaken s) es

-- it keeps the shapes
abbrev pub ShapesLaw : Type 0
ShapesLaw = (p : SourceText) (s : SystemParts) (es : List PlainEntry) (cs : List Conf) → IsSystemOf p s → IsExecution (IsJointStep IsStep) (start s) es cs → AreShaped s cs

-- a report is the text of what it tells
pub whole : (s : SystemParts) (r : Record) (endings : List Ending) → report_text s r endings ≡ telling s (told_by s r endings)
whole s r endings = refl

-- the total is that of the schedule
in_report : (a b c d e f : List ℕ) → (((a ++ b) ++ c) ++ (d ++ e)) ++ f ≡ ((a ++ (b ++ (c ++ d))) ++ e) ++ f
in_report a b c d e f = simp append_assoc

pub total_told : (s : SystemParts) (r : Record) (endings : List Ending) → HasPart (report_text s r endings) (total_line (length r.schedule))
total_told s r endings =
    let states = states_text s r.states.items in
    let ended = ending_lines 0 endings in
    let counts = commit_lines 0 r.commits.items in
    let verdicts = invariant_lines s.invariants (verdicts_of s r.schedule) in
    let front = schedule_text s.names r.schedule ++ (states ++ (ended ++ counts)) in
    (front, verdicts, in_report (schedule_text s.names r.schedule) states ended counts (total_line (sum r.commits.items)) verdicts ∙ ap (λ (n : ℕ). front ++ total_line n ++ verdicts) r.complete)

-- the lines of counts, and that of their sum
counted : (lines total number behind : List ℕ) → (lines ++ (total ++ (number ++ codes "\n"))) ++ behind ≡ lines ++ (total ++ ((number ++ codes "\n") ++ behind))
counted lines total number behind = simp append_assoc

sum_told : (m n : ℕ) (us vs : List ℕ) → m ≡ n → codes "total " ++ ((decimal m ++ codes "\n") ++ us) ≡ codes "total " ++ ((decimal n ++ codes "\n") ++ vs) → us ≡ vs
sum_told m n us vs same h =
    let behind = append_cancel_left (codes "total ") ((decimal m ++ codes "\n") ++ us) ((decimal n ++ codes "\n") ++ vs) h in
    append_cancel_left (decimal n ++ codes "\n") us vs (ap (λ (k : ℕ). (decimal k ++ codes "\n") ++ us) (sym same) ∙ behind)

total_begins : (us : List ℕ) → BeginsNotWith 119 (codes "total " ++ us)
total_begins us rest h = absurd (omega (arith, heads h))

module _ (of_text : TextLaw) (taken : ExecutionLaw) (shaped : ShapesLaw) (read : ReadLaw) (p : SourceText) (text : List ℕ) (s : SystemParts) (spelled : TextSpells p text) (h : IsSystemOf p s) where
  is : IsTextSystem s
  is = of_text p text s spelled h

  may_take_all : (es : List PlainEntry) → IsToldSchedule s es → AllByRecursion (MayTake s) es
  may_take_all es told = may_take s es (taken p s es told.left h told.execution) told.values

  -- states behind which other lines come
  same_states : (cs ds : List Conf) (us vs : List ℕ) → AreToldStates s cs → AreToldStates s ds → states_text s cs ++ us ≡ states_text s ds ++ vs → (cs ≡ ds) × (us ≡ vs)
  same_states cs ds us vs one other e =
      let well = declared_once p s h in
      states_told s is cs ds us vs
      (names_of_start s well one.taken cs one.execution ∙ sym (names_of_start s well other.taken ds other.execution))
      (all_of_start s well one.taken cs one.execution) (all_of_start s well other.taken ds other.execution)
      (shaped p s one.taken cs h one.execution) (shaped p s other.taken ds h other.execution) one.values other.values e

  pub told : (t u : Told) → MayBeTold s t → MayBeTold s u → telling s t ≡ telling s u → t ≡ u
  told t u one other e =
      let lines = λ (x : Told). invariant_lines s.invariants x.verdicts in
      let whole_of = λ (x : Told). joined (schedule_text s.names x.schedule) (states_text s x.states) (ending_lines 0 x.endings) (commits_text x.commits) (lines x) in
      let entries = schedule_told read s t.schedule u.schedule _ _ is (may_take_all t.schedule one.schedule) (may_take_all u.schedule other.schedule) one.schedule.few other.schedule.few (sym (whole_of t) ∙ e ∙ whole_of u) in
      let states = same_states t.states u.states _ _ one.states other.states entries.1 in
      let counts = λ (x : Told). counted (commit_lines 0 x.commits) (codes "total ") (decimal (sum x.commits)) (lines x) in
      let behind = λ (x : Told). (decimal (sum x.commits) ++ codes "\n") ++ lines x in
      let endings = endings_told 0 t.endings u.endings (commit_lines 0 t.commits ++ (codes "total " ++ behind t)) (commit_lines 0 u.commits ++ (codes "total " ++ behind u))
      (counts_begin t.commits (behind t) 101 (λ z. omega (arith, z)) (λ z. omega (arith, z))) (counts_begin u.commits (behind u) 101 (λ z. omega (arith, z)) (λ z. omega (arith, z)))
      (ap (λ (x : List ℕ). ending_lines 0 t.endings ++ x) (sym (counts t)) ∙ states.1 ∙ ap (λ (x : List ℕ). ending_lines 0 u.endings ++ x) (counts u)) in
      let commits = commits_told 0 t.commits u.commits (codes "total " ++ behind t) (codes "total " ++ behind u) one.commits other.commits (total_begins (behind t)) (total_begins (behind u)) endings.1 in
      let verdicts = verdicts_told s.invariants t.verdicts u.verdicts one.verdicts other.verdicts one.places other.places
      (sum_told (sum t.commits) (sum u.commits) (lines t) (lines u) (ap sum commits.0) commits.1) in
      λ i. record { schedule = entries.0 i; states = states.0 i; endings = endings.0 i; commits = commits.0 i; verdicts = verdicts i }
