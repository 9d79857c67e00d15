-- What a status says, whatever fault there was.
use Rattle.std.proofs.Common.{◌≡◌, ◌⊎◌, ◌∙◌, ℕ, zero, suc, Bool, true, false, if◌then◌else◌, List, Option, Some, None, Result, Ok, Err}
use Rattle.std.proofs.Common.{refl, subst, sym, inl, inr, arith}
use Rattle.std.specs.Io.KnownBytes.{Keeps}
use Rattle.clap.specs.Values.{kind_of}
use Rattle.clap.specs.Walk.{Text}
use Rattle.clap.specs.Kinds.{IsAmong}
use Rattle.clap.specs.Faults.{fault_of}
use Rattle.clap.specs.declared.error.Error.{Error}
use Rattle.clap.specs.declared.error.kind.ErrorKind.{ErrorKind}
use Rattle.clap.specs.declared.error.kind.ErrorKind.TheVariants.{DisplayHelp, DisplayVersion}
use Rattle.clap.specs.declared.error.kind.ErrorKind.TheVariants.{OutOfMemory, ValueValidation}
use Rattle.ioa_streams.specs.Parts.{lines_part, text_part}
use Rattle.ioa_streams.specs.ScheduleParts.{schedule_part}
use Rattle.ioa_streams.specs.declared.input.InputFault.{InputFault}
use Rattle.ioa_streams.specs.declared.input.InputFault.TheVariants as input
use Rattle.ioa_monitor.specs.declared.findings.Findings.{Findings}
use Rattle.ioa_explain.specs.declared.explaining.Finding.{Finding}
use Rattle.ioa_explain.specs.declared.explaining.Finding.TheVariants.{NothingWrong, Refused}
use Rattle.ioa_pipeline.specs.declared.printing.PrintFault.{PrintFault}
use Rattle.ioa_pipeline.specs.declared.printing.PrintFault.TheVariants as print
use Rattle.ioa_pipeline.specs.declared.tracing.TraceFault.{TraceFault}
use Rattle.ioa_pipeline.specs.declared.tracing.TraceFault.TheVariants as trace
use Rattle.ioa_pipeline.specs.declared.replaying.ReplayFault.{ReplayFault}
use Rattle.ioa_pipeline.specs.declared.replaying.ReplayFault.TheVariants as replay
use Rattle.ioa_pipeline.specs.declared.whole_run.RunFault.{RunFault}
use Rattle.ioa_pipeline.specs.declared.whole_run.RunFault.TheVariants as run
use Rattle.ioa_pipeline.specs.declared.schedule_check.CheckScheduleFault.{CheckScheduleFault}
use Rattle.ioa_pipeline.specs.declared.schedule_check.CheckScheduleFault.TheVariants as check
use Rattle.ioa_command.specs.declared.choice.InputName.{InputName}
use Rattle.ioa_command.specs.declared.choice.ExplainChoice.{ExplainChoice}
use Rattle.ioa_command.specs.declared.choice.RunChoice.{RunChoice}
use Rattle.ioa_command.specs.declared.choice.TraceChoice.{TraceChoice}
use Rattle.ioa_command.specs.declared.choice.ReplayChoice.{ReplayChoice}
use Rattle.ioa_command.specs.declared.choice.CheckChoice.{CheckChoice}
use Rattle.ioa_command.specs.declared.choice.Subcommand.TheVariants as subcommand
use Rattle.ioa_command.specs.declared.faults.TextFault.{TextFault}
use Rattle.ioa_command.specs.declared.faults.TextFault.TheVariants.{Input, Unread, Run, Explain, Trace, Replay, Check, Print}
use Rattle.ioa_pipeline.specs.declared.judging.Judging.{Judging}
use Rattle.ioa_command.specs.Command.{ChecksGivenIn, ChecksIn, IsFound, Judges, Replays, Traces}
use Rattle.ioa_command.specs.Command.{Ends, Executes, Follows, IsDone, IsTraced, Output, Prints, PrintsText, Reports}
use Rattle.ioa_command.specs.Command.{ExplainsAs, ExplainsInputs, IsExplained, RunsText, ShowsWords, Tells, TracesText}
use Rattle.ioa_command.specs.Command.{IsLinesRefusal, IsReplayed, ReplaysRefused, ReplaysSchedule}
use Rattle.ioa_command.specs.Command.{explained_status, found_status, no_finding}
use Rattle.ioa_command.specs.Faults.{check_status, fault_status, input_status, print_status, replay_status, run_status}
use Rattle.ioa_command.specs.Faults.{trace_status}
use Rattle.ioa_command.specs.FailOn.{meet}
use Rattle.ioa_command.specs.Inputs.{given_by}
use Rattle.ioa_command.specs.CommandLine.{AsksForText, Chooses, IsErrorOf, program_app, words_status}

-- ---- statuses of faults

-- a fault has status 1 or 3
abbrev IsOneOrThree : ℕ → Type 0
IsOneOrThree n = (n ≡ 1) ⊎ (n ≡ 3)

input_range : (f : InputFault) → IsOneOrThree (input_status f)
input_range input.Read = inr refl
input_range (input.TooLong limit) = inl refl
input_range (input.BadCharacter offset) = inl refl
input_range input.Memory = inr refl

run_range : (f : RunFault) → IsOneOrThree (run_status f)
run_range (run.Front f) = inl refl
run_range (run.Check f) = inl refl
run_range (run.Finish f) = inr refl
run_range run.Memory = inr refl
run_range run.Write = inr refl

check_range : (f : CheckScheduleFault) → IsOneOrThree (check_status f)
check_range (check.Front f) = inl refl
check_range (check.Check f) = inl refl
check_range (check.Schedule f) = inl refl
check_range check.Memory = inr refl
check_range check.Write = inr refl

print_range : (f : PrintFault) → IsOneOrThree (print_status f)
print_range (print.Front f) = inl refl
print_range print.Memory = inr refl
print_range print.Write = inr refl

trace_range : (f : TraceFault) → IsOneOrThree (trace_status f)
trace_range (trace.Run f) = run_range f
trace_range trace.Differs = inr refl

replay_range : (f : ReplayFault) → IsOneOrThree (replay_status f)
replay_range (replay.Check f) = check_range f
replay_range (replay.NoStep f why) = inl refl
replay_range replay.Differs = inr refl

fault_range : (f : TextFault) → IsOneOrThree (fault_status f)
fault_range (Input f) = input_range f
fault_range (Unread name) = inr refl
fault_range (Run f) = run_range f
fault_range (Explain f) = inr refl
fault_range (Trace f) = trace_range f
fault_range (Replay f) = replay_range f
fault_range (Check f) = check_range f
fault_range (Print f) = print_range f

-- a status that no fault has
abbrev IsOfNoFault : ℕ → Type 0
IsOfNoFault status = (status ≡ 1 → ⊥) × (status ≡ 3 → ⊥)

-- so it is that of what was done
done_of_told : {T : Type 0} (done : T → ℕ) (err : Output) (status : ℕ) (outcome : Result T TextFault)
    → Tells done err status outcome → IsOfNoFault status → (x : T) × (outcome ≡ Ok x) × (status ≡ done x)
done_of_told done err status (Ok x) told free = (x, refl, told.0)
done_of_told done err status (Err f) told free = absurd (elim told [
  | inl line ↦ elim (fault_range f) [
    | inl one ↦ free.0 (line.0 ∙ one)
    | inr three ↦ free.1 (line.0 ∙ three)
  ]
  | inr memory ↦ free.1 memory.0
])

none_is_one : (n : ℕ) → n ≡ 0 → IsOfNoFault n
none_is_one n none = ((λ e. absurd (omega arith)), (λ e. absurd (omega arith)))

four_is_none : (n : ℕ) → n ≡ 4 → IsOfNoFault n
four_is_none n four = ((λ e. absurd (omega arith)), (λ e. absurd (omega arith)))

-- ---- words that choose nothing

-- a kind whose status is 0 is that of a text that was asked for
is_asked : (k : ErrorKind) → words_status k ≡ 0 → (k ≡ DisplayHelp) ⊎ (k ≡ DisplayVersion)
is_asked DisplayHelp e = inl refl
is_asked DisplayVersion e = inr refl
is_asked k e = cc

-- so the words ask for it
asks : (words : List Text) (e : Error) → IsErrorOf words e → words_status (kind_of e) ≡ 0 → AsksForText words
asks words e (inr refused) none =
    let bad : words_status ValueValidation ≡ 0 = subst (λ k. words_status k ≡ 0) refused.0 none in
    cc
asks words e (inl (inl memory)) none =
    let bad : words_status OutOfMemory ≡ 0 = subst (λ k. words_status k ≡ 0) memory none in
    cc
asks words e (inl (inr among)) none = go (is_asked (kind_of e) none)
  where
    go : (kind_of e ≡ DisplayHelp) ⊎ (kind_of e ≡ DisplayVersion) → AsksForText words
    go (inl is) = inl (subst (λ k. IsAmong k (fault_of program_app words)) is among)
    go (inr is) = inr (subst (λ k. IsAmong k (fault_of program_app words)) is among)

-- status 0 comes from a text that was asked for
words_done : (words : List Text) (given : Option (List ℕ)) (out err : Output) (status : ℕ) (e : Error)
    → IsErrorOf words e → ShowsWords (kind_of e) status out err → status ≡ 0 → IsDone words given out
words_done words given out err status e error shows done = go (words_status (kind_of e)) refl
  where
    go : (n : ℕ) → words_status (kind_of e) ≡ n → IsDone words given out
    go zero is = elim (shows.asked is) [
      | inl whole ↦ inr (inr (inr (inr (inr (inr (asks words e error is, whole.2))))))
      | inr failed ↦ absurd (omega arith)
    ]
    go (suc n) is =
        let shown = shows.refused (λ none. let bad : suc n ≡ 0 = sym is ∙ none in cc) in
        elim shown.1 [
          | inl text ↦
              let bad : suc n ≡ 0 = sym is ∙ sym text.0 ∙ done in
              cc
          | inr memory ↦ absurd (omega arith)
        ]

-- no kind has a status above 3
at_most_three : (k : ErrorKind) → words_status k ≡ 4 → ⊥
at_most_three DisplayHelp e = cc
at_most_three DisplayVersion e = cc
at_most_three OutOfMemory e = cc
at_most_three k e = cc

-- so words that choose nothing have not status 4
words_find_none : (out err : Output) (status : ℕ) (e : Error) → ShowsWords (kind_of e) status out err → status ≡ 4 → ⊥
words_find_none out err status e shows four = go (words_status (kind_of e)) refl
  where
    go : (n : ℕ) → words_status (kind_of e) ≡ n → ⊥
    go zero is = elim (shows.asked is) [
      | inl whole ↦ absurd (omega arith)
      | inr failed ↦ absurd (omega arith)
    ]
    go (suc n) is =
        let shown = shows.refused (λ none. let bad : suc n ≡ 0 = sym is ∙ none in cc) in
        elim shown.1 [
          | inl text ↦ at_most_three (kind_of e) (sym text.0 ∙ four)
          | inr memory ↦ absurd (omega arith)
        ]

-- ---- what was done

-- a status that no fault has is that of a report, if the words choose `run`
reports : (words : List Text) (given : Option (List ℕ)) (out err : Output) (status : ℕ) (r : RunChoice)
    (outcome : Result Findings TextFault) → Chooses words (subcommand.Run r) → Executes r given out outcome
    → Tells (found_status r.fail_on) err status outcome → IsOfNoFault status → Reports words given out status
reports words given out err status r outcome chosen ran told free =
    let done = done_of_told (found_status r.fail_on) err status outcome told free in
    (r, chosen, (done.0, subst (Executes r given out) done.1 ran, done.2))

judges : (words : List Text) (given : Option (List ℕ)) (out err : Output) (status : ℕ) (c : CheckChoice)
    (outcome : Result Findings TextFault) → Chooses words (subcommand.Check c) → Follows c given out outcome
    → Tells (found_status c.fail_on) err status outcome → IsOfNoFault status → Judges words given out status
judges words given out err status c outcome chosen followed told free =
    let done = done_of_told (found_status c.fail_on) err status outcome told free in
    (c, chosen, (done.0, subst (Follows c given out) done.1 followed, done.2))

traces : (words : List Text) (given : Option (List ℕ)) (out err : Output) (status : ℕ) (t : TraceChoice)
    (outcome : Result Findings TextFault) → Chooses words (subcommand.Trace t) → IsTraced t given out outcome
    → Tells (found_status t.fail_on) err status outcome → IsOfNoFault status → Traces words given out status
traces words given out err status t outcome chosen traced told free =
    let done = done_of_told (found_status t.fail_on) err status outcome told free in
    (t, chosen, (done.0, subst (IsTraced t given out) done.1 traced, done.2))

replays : (words : List Text) (given : Option (List ℕ)) (out err : Output) (status : ℕ) (r : ReplayChoice)
    (outcome : Result Findings TextFault) → Chooses words (subcommand.Replay r) → IsReplayed r given out outcome
    → Tells (found_status r.fail_on) err status outcome → IsOfNoFault status → Replays words given out status
replays words given out err status r outcome chosen replayed told free =
    let done = done_of_told (found_status r.fail_on) err status outcome told free in
    (r, chosen, (done.0, subst (IsReplayed r given out) done.1 replayed, done.2))

-- a status that no fault has is that of what is told of a text, if the words choose `explain`
explain_done : (words : List Text) (given : Option (List ℕ)) (out err : Output) (status : ℕ) (c : ExplainChoice)
    (outcome : Result Finding TextFault) → Chooses words (subcommand.Explain c) → IsExplained c given out outcome
    → Tells explained_status err status outcome → status ≡ 0 → ExplainsAs NothingWrong words given out
explain_done words given out err status c outcome chosen explained told done =
    let what = done_of_told explained_status err status outcome told (none_is_one status done) in
    let found : explained_status what.0 ≡ 0 = sym what.2 ∙ done in
    (c, chosen, go what.0 found (subst (IsExplained c given out) what.1 explained))
  where
    go : (f : Finding) → explained_status f ≡ 0 → ExplainsInputs c given out (Ok f)
        → ExplainsInputs c given out (Ok NothingWrong)
    go NothingWrong none h = h
    go Refused none h =
        let bad : 1 ≡ 0 = none in
        absurd (omega arith)

print_done : (given : Option (List ℕ)) (out err : Output) (status : ℕ) (input : InputName)
    (outcome : Result (Unit {0}) TextFault) → Prints input given out outcome → Tells no_finding err status outcome
    → IsOfNoFault status → PrintsText (given_by input given) out (Ok tt)
print_done given out err status input outcome printed told free =
    let done = done_of_told no_finding err status outcome told free in
    subst (Prints input given out) done.1 printed

pub done_of : (words : List Text) (given : Option (List ℕ)) (out err : Output) (status : ℕ)
    → Ends words given out err status → status ≡ 0 → IsDone words given out
done_of words given out err status (inl (subcommand.Run r, chosen, (outcome, ran, told))) done =
    inl (subst (Reports words given out) done
    (reports words given out err status r outcome chosen ran told (none_is_one status done)))
done_of words given out err status (inl (subcommand.Explain c, chosen, (outcome, explained, told))) done =
    inr (inl (explain_done words given out err status c outcome chosen explained told done))
done_of words given out err status (inl (subcommand.Trace t, chosen, (outcome, traced, told))) done =
    inr (inr (inl (subst (Traces words given out) done
    (traces words given out err status t outcome chosen traced told (none_is_one status done)))))
done_of words given out err status (inl (subcommand.Replay r, chosen, (outcome, replayed, told))) done =
    inr (inr (inr (inl (subst (Replays words given out) done
    (replays words given out err status r outcome chosen replayed told (none_is_one status done))))))
done_of words given out err status (inl (subcommand.Check c, chosen, (outcome, followed, told))) done =
    inr (inr (inr (inr (inl (subst (Judges words given out) done
    (judges words given out err status c outcome chosen followed told (none_is_one status done)))))))
done_of words given out err status (inl (subcommand.Print input, chosen, (outcome, printed, told))) done =
    inr (inr (inr (inr (inr (inl (
      input,
      chosen,
      print_done given out err status input outcome printed told (none_is_one status done),
    ))))))
done_of words given out err status (inr said) done =
    words_done words given out err status said.0 said.1 said.2 done

-- what has no findings has not status 4
finds_none : {T : Type 0} (done : T → ℕ) (err : Output) (status : ℕ) (outcome : Result T TextFault)
    → ((x : T) → done x ≡ 0) → Tells done err status outcome → status ≡ 4 → ⊥
finds_none done err status outcome none told four =
    let what = done_of_told done err status outcome told (four_is_none status four) in
    let is : status ≡ 0 = what.2 ∙ none what.0 in
    absurd (omega arith)

-- and what is told of a text has another status
explained_none : (f : Finding) → explained_status f ≡ 4 → ⊥
explained_none NothingWrong four =
    let bad : 0 ≡ 4 = four in
    absurd (omega arith)
explained_none Refused four =
    let bad : 1 ≡ 4 = four in
    absurd (omega arith)

explain_finds_none : (err : Output) (status : ℕ) (outcome : Result Finding TextFault)
    → Tells explained_status err status outcome → status ≡ 4 → ⊥
explain_finds_none err status outcome told four =
    let what = done_of_told explained_status err status outcome told (four_is_none status four) in
    explained_none what.0 (sym what.2 ∙ four)

pub found_of : (words : List Text) (given : Option (List ℕ)) (out err : Output) (status : ℕ)
    → Ends words given out err status → status ≡ 4 → IsFound words given out
found_of words given out err status (inl (subcommand.Run r, chosen, (outcome, ran, told))) four =
    inl (subst (Reports words given out) four
    (reports words given out err status r outcome chosen ran told (four_is_none status four)))
found_of words given out err status (inl (subcommand.Explain c, chosen, (outcome, explained, told))) four =
    absurd (explain_finds_none err status outcome told four)
found_of words given out err status (inl (subcommand.Trace t, chosen, (outcome, traced, told))) four =
    inr (inl (subst (Traces words given out) four
    (traces words given out err status t outcome chosen traced told (four_is_none status four))))
found_of words given out err status (inl (subcommand.Replay r, chosen, (outcome, replayed, told))) four =
    inr (inr (inl (subst (Replays words given out) four
    (replays words given out err status r outcome chosen replayed told (four_is_none status four)))))
found_of words given out err status (inl (subcommand.Check c, chosen, (outcome, followed, told))) four =
    inr (inr (inr (subst (Judges words given out) four
    (judges words given out err status c outcome chosen followed told (four_is_none status four)))))
found_of words given out err status (inl (subcommand.Print input, chosen, (outcome, printed, told))) four =
    absurd (finds_none no_finding err status outcome (λ x. refl) told four)
found_of words given out err status (inr said) four =
    absurd (words_find_none out err status said.0 said.2 four)

-- ---- refusals

-- a refusal has status 1 or 2
abbrev Refuses : ℕ → Type 0
Refuses status = (status ≡ 1) ⊎ (status ≡ 2)

not_done : (n : ℕ) → Refuses n → n ≡ 0 → ⊥
not_done n (inl one) done = absurd (omega arith)
not_done n (inr two) done = absurd (omega arith)

not_failed : (n : ℕ) → Refuses n → n ≡ 3 → ⊥
not_failed n (inl one) failed = absurd (omega arith)
not_failed n (inr two) failed = absurd (omega arith)

not_found : (n : ℕ) → Refuses n → n ≡ 4 → ⊥
not_found n (inl one) found = absurd (omega arith)
not_found n (inr two) found = absurd (omega arith)

words_kept : (out err : Output) (status : ℕ) (e : Error) → ShowsWords (kind_of e) status out err → Refuses status
    → Keeps out.old out.new
words_kept out err status e shows refuses = go (words_status (kind_of e)) refl
  where
    go : (n : ℕ) → words_status (kind_of e) ≡ n → Keeps out.old out.new
    go zero is = elim (shows.asked is) [
      | inl whole ↦ absurd (not_done status refuses whole.0)
      | inr failed ↦ absurd (not_failed status refuses failed.0)
    ]
    go (suc n) is = (shows.refused (λ none. let bad : suc n ≡ 0 = sym is ∙ none in cc)).0.1

run_kept : (r : RunChoice) (given : Option (List ℕ)) (out : Output) (f : RunFault)
    → RunsText r.options (given_by r.input given) out (Err f) → Refuses (run_status f) → Keeps out.old out.new
run_kept r given out (run.Front f) ran refuses = ran.2.1
run_kept r given out (run.Check f) ran refuses = ran.2.1
run_kept r given out (run.Finish f) ran refuses = absurd (not_failed 3 refuses refl)
run_kept r given out run.Memory ran refuses = absurd (not_failed 3 refuses refl)
run_kept r given out run.Write ran refuses = absurd (not_failed 3 refuses refl)

print_kept : (given : Option (List ℕ)) (out : Output) (f : PrintFault)
    → PrintsText given out (Err f) → Refuses (print_status f) → Keeps out.old out.new
print_kept given out (print.Front f) printed refuses = printed.2.1
print_kept given out print.Memory printed refuses = absurd (not_failed 3 refuses refl)
print_kept given out print.Write printed refuses = absurd (not_failed 3 refuses refl)

trace_kept : (t : TraceChoice) (given : Option (List ℕ)) (out : Output) (f : TraceFault)
    → TracesText t given out (Err f) → Refuses (trace_status f) → Keeps out.old out.new
trace_kept t given out (trace.Run (run.Front f)) traced refuses = traced.2.1
trace_kept t given out (trace.Run (run.Check f)) traced refuses = traced.2.1
trace_kept t given out (trace.Run (run.Finish f)) traced refuses = absurd (not_failed 3 refuses refl)
trace_kept t given out (trace.Run run.Memory) traced refuses = absurd (not_failed 3 refuses refl)
trace_kept t given out (trace.Run run.Write) traced refuses = absurd (not_failed 3 refuses refl)
trace_kept t given out trace.Differs traced refuses = absurd (not_failed 3 refuses refl)

traced_kept : (t : TraceChoice) (given : Option (List ℕ)) (out : Output) (f : TextFault)
    → IsTraced t given out (Err f) → Refuses (fault_status f) → Keeps out.old out.new
traced_kept t given out (Input f) traced refuses = traced.1.1
traced_kept t given out (Unread name) traced refuses = traced.1.1
traced_kept t given out (Run f) traced refuses = absurd traced
traced_kept t given out (Explain f) traced refuses = absurd traced
traced_kept t given out (Trace f) traced refuses = trace_kept t given out f traced refuses
traced_kept t given out (Replay f) traced refuses = absurd traced
traced_kept t given out (Check f) traced refuses = absurd traced
traced_kept t given out (Print f) traced refuses = absurd traced

executed_kept : (r : RunChoice) (given : Option (List ℕ)) (out : Output) (f : TextFault)
    → Executes r given out (Err f) → Refuses (fault_status f) → Keeps out.old out.new
executed_kept r given out (Input f) ran refuses = ran.1.1
executed_kept r given out (Unread name) ran refuses = ran.1.1
executed_kept r given out (Run f) ran refuses = run_kept r given out f ran refuses
executed_kept r given out (Explain f) ran refuses = absurd ran
executed_kept r given out (Trace f) ran refuses = absurd ran
executed_kept r given out (Replay f) ran refuses = absurd ran
executed_kept r given out (Check f) ran refuses = absurd ran
executed_kept r given out (Print f) ran refuses = absurd ran

printed_kept : (input : InputName) (given : Option (List ℕ)) (out : Output) (f : TextFault)
    → Prints input given out (Err f) → Refuses (fault_status f) → Keeps out.old out.new
printed_kept input given out (Input f) printed refuses = printed.1.1
printed_kept input given out (Unread name) printed refuses = printed.1.1
printed_kept input given out (Run f) printed refuses = absurd printed
printed_kept input given out (Explain f) printed refuses = absurd printed
printed_kept input given out (Trace f) printed refuses = absurd printed
printed_kept input given out (Replay f) printed refuses = absurd printed
printed_kept input given out (Check f) printed refuses = absurd printed
printed_kept input given out (Print f) printed refuses = print_kept (given_by input given) out f printed refuses

in_kept : (judging : Judging) (text lines : List ℕ) (out : Output) (f : CheckScheduleFault)
    → ChecksIn judging text lines out (Err f) → Refuses (check_status f) → Keeps out.old out.new
in_kept judging text lines out (check.Front f) checks refuses = checks.0.1
in_kept judging text lines out (check.Check f) checks refuses = checks.0.1
in_kept judging text lines out (check.Schedule f) checks refuses = checks.0.1
in_kept judging text lines out check.Memory checks refuses = absurd (not_failed 3 refuses refl)
in_kept judging text lines out check.Write checks refuses = absurd (not_failed 3 refuses refl)

check_kept : (judging : Judging) (input : InputName) (schedule : Option InputName) (given : Option (List ℕ))
    (out : Output) (f : CheckScheduleFault)
    → ChecksGivenIn judging input schedule given out (Err f) → Refuses (check_status f) → Keeps out.old out.new
check_kept judging input None given out f checks refuses =
    in_kept judging (text_part checks.0) (lines_part checks.0) out f checks.2 refuses
check_kept judging input (Some s) given out f checks refuses =
    in_kept judging checks.0 (schedule_part checks.2.0) out f checks.2.2 refuses

followed_kept : (c : CheckChoice) (given : Option (List ℕ)) (out : Output) (f : TextFault)
    → Follows c given out (Err f) → Refuses (fault_status f) → Keeps out.old out.new
followed_kept c given out (Input f) followed refuses = followed.1.1
followed_kept c given out (Unread name) followed refuses = followed.1.1
followed_kept c given out (Run f) followed refuses = absurd followed
followed_kept c given out (Explain f) followed refuses = absurd followed
followed_kept c given out (Trace f) followed refuses = absurd followed
followed_kept c given out (Replay f) followed refuses = absurd followed
followed_kept c given out (Check f) followed refuses =
    check_kept c.judging c.input c.schedule given out f followed refuses
followed_kept c given out (Print f) followed refuses = absurd followed

-- nothing went out before a refusal
told_kept : {T : Type 0} (done : T → ℕ) (out err : Output) (status : ℕ) (outcome : Result T TextFault)
    → Tells done err status outcome → ((x : T) → Refuses (done x) → ⊥)
    → ((f : TextFault) → outcome ≡ Err f → Refuses (fault_status f) → Keeps out.old out.new) → Refuses status
    → Keeps out.old out.new
told_kept done out err status (Ok x) told free kept refuses = absurd (free x (subst Refuses told.0 refuses))
told_kept done out err status (Err f) told free kept refuses = elim told [
  | inl line ↦ kept f refl (subst Refuses line.0 refuses)
  | inr memory ↦ absurd (not_failed status refuses memory.0)
]

-- what was done is no refusal
found_free : (fail_on found : Findings) → Refuses (found_status fail_on found) → ⊥
found_free fail_on found refuses = by_test (meet fail_on found) refuses
  where
    by_test : (b : Bool) → Refuses (if b then 4 else 0) → ⊥
    by_test true r = not_found 4 r refl
    by_test false r = not_done 0 r refl

none_free : (x : Unit {0}) → Refuses (no_finding x) → ⊥
none_free x refuses = not_done 0 refuses refl

-- what a refusal leaves: nothing went out; or an explanation that says so of the text; or what is before the refused
-- part of a schedule
abbrev pub LeavesRefused : List Text → Option (List ℕ) → Output → Type 0
LeavesRefused words given out =
    Keeps out.old out.new ⊎ (ExplainsAs Refused words given out ⊎ ReplaysRefused words given out)

explained_kept : (c : ExplainChoice) (given : Option (List ℕ)) (out : Output) (f : TextFault)
    → IsExplained c given out (Err f) → Refuses (fault_status f) → Keeps out.old out.new
explained_kept c given out (Input f) explained refuses = explained.1.1
explained_kept c given out (Unread name) explained refuses = explained.1.1
explained_kept c given out (Run f) explained refuses = absurd explained
explained_kept c given out (Explain f) explained refuses = absurd (not_failed 3 refuses refl)
explained_kept c given out (Trace f) explained refuses = absurd explained
explained_kept c given out (Replay f) explained refuses = absurd explained
explained_kept c given out (Check f) explained refuses = absurd explained
explained_kept c given out (Print f) explained refuses = absurd explained

explain_leaves : (words : List Text) (given : Option (List ℕ)) (out err : Output) (status : ℕ) (c : ExplainChoice)
    (outcome : Result Finding TextFault) → Chooses words (subcommand.Explain c) → IsExplained c given out outcome
    → Tells explained_status err status outcome → Refuses status → LeavesRefused words given out
explain_leaves words given out err status c (Ok NothingWrong) chosen explained told refuses =
    absurd (not_done status refuses told.0)
explain_leaves words given out err status c (Ok Refused) chosen explained told refuses =
    inr (inl (c, chosen, explained))
explain_leaves words given out err status c (Err f) chosen explained told refuses = elim told [
  | inl line ↦ inl (explained_kept c given out f explained (subst Refuses line.0 refuses))
  | inr memory ↦ absurd (not_failed status refuses memory.0)
]

-- a refused replay of a text that was read: nothing went out, or the schedule is refused
abbrev IsRefusedReplay : ReplayChoice → Option (List ℕ) → Output → Type 0
IsRefusedReplay r given out =
    Keeps out.old out.new ⊎ ((f : ReplayFault) × IsLinesRefusal f × ReplaysSchedule r given out (Err f))

replay_refused : (r : ReplayChoice) (given : Option (List ℕ)) (out : Output) (f : ReplayFault)
    → ReplaysSchedule r given out (Err f) → Refuses (replay_status f) → IsRefusedReplay r given out
replay_refused r given out (replay.Check (check.Front f)) replayed refuses = inl (replayed.2.2.0.1)
replay_refused r given out (replay.Check (check.Check f)) replayed refuses = inl (replayed.2.2.0.1)
replay_refused r given out (replay.Check (check.Schedule f)) replayed refuses =
    inr (replay.Check (check.Schedule f), tt, replayed)
replay_refused r given out (replay.Check check.Memory) replayed refuses = absurd (not_failed 3 refuses refl)
replay_refused r given out (replay.Check check.Write) replayed refuses = absurd (not_failed 3 refuses refl)
replay_refused r given out (replay.NoStep f why) replayed refuses = inr (replay.NoStep f why, tt, replayed)
replay_refused r given out replay.Differs replayed refuses = absurd (not_failed 3 refuses refl)

replayed_refused : (r : ReplayChoice) (given : Option (List ℕ)) (out : Output) (f : TextFault)
    → IsReplayed r given out (Err f) → Refuses (fault_status f) → IsRefusedReplay r given out
replayed_refused r given out (Input f) replayed refuses = inl replayed.1.1
replayed_refused r given out (Unread name) replayed refuses = inl replayed.1.1
replayed_refused r given out (Run f) replayed refuses = absurd replayed
replayed_refused r given out (Explain f) replayed refuses = absurd replayed
replayed_refused r given out (Trace f) replayed refuses = absurd replayed
replayed_refused r given out (Replay f) replayed refuses = replay_refused r given out f replayed refuses
replayed_refused r given out (Check f) replayed refuses = absurd replayed
replayed_refused r given out (Print f) replayed refuses = absurd replayed

replay_leaves : (words : List Text) (given : Option (List ℕ)) (out err : Output) (status : ℕ) (r : ReplayChoice)
    (outcome : Result Findings TextFault) → Chooses words (subcommand.Replay r) → IsReplayed r given out outcome
    → Tells (found_status r.fail_on) err status outcome → Refuses status → LeavesRefused words given out
replay_leaves words given out err status r (Ok found) chosen replayed told refuses =
    absurd (found_free r.fail_on found (subst Refuses told.0 refuses))
replay_leaves words given out err status r (Err f) chosen replayed told refuses = elim told [
  | inl line ↦ elim (replayed_refused r given out f replayed (subst Refuses line.0 refuses)) [
    | inl kept ↦ inl kept
    | inr refused ↦ inr (inr (r, chosen, refused))
  ]
  | inr memory ↦ absurd (not_failed status refuses memory.0)
]

pub refused_of : (words : List Text) (given : Option (List ℕ)) (out err : Output) (status : ℕ)
    → Ends words given out err status → Refuses status → LeavesRefused words given out
refused_of words given out err status (inl (subcommand.Run r, chosen, (outcome, ran, told))) refuses =
    inl (told_kept (found_status r.fail_on) out err status outcome told (found_free r.fail_on)
    (λ f is. executed_kept r given out f (subst (Executes r given out) is ran)) refuses)
refused_of words given out err status (inl (subcommand.Explain c, chosen, (outcome, explained, told))) refuses =
    explain_leaves words given out err status c outcome chosen explained told refuses
refused_of words given out err status (inl (subcommand.Trace t, chosen, (outcome, traced, told))) refuses =
    inl (told_kept (found_status t.fail_on) out err status outcome told (found_free t.fail_on)
    (λ f is. traced_kept t given out f (subst (IsTraced t given out) is traced)) refuses)
refused_of words given out err status (inl (subcommand.Replay r, chosen, (outcome, replayed, told))) refuses =
    replay_leaves words given out err status r outcome chosen replayed told refuses
refused_of words given out err status (inl (subcommand.Check c, chosen, (outcome, followed, told))) refuses =
    inl (told_kept (found_status c.fail_on) out err status outcome told (found_free c.fail_on)
    (λ f is. followed_kept c given out f (subst (Follows c given out) is followed)) refuses)
refused_of words given out err status (inl (subcommand.Print input, chosen, (outcome, printed, told))) refuses =
    inl (told_kept no_finding out err status outcome told none_free
    (λ f is. printed_kept input given out f (subst (Prints input given out) is printed)) refuses)
refused_of words given out err status (inr said) refuses = inl (words_kept out err status said.0 said.2 refuses)
