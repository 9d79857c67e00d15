-- The steps that lines take, against their meaning.
use Rattle.std.proofs.Common.{◌≡◌, ℕ, zero, suc, ◌+◌, List, [], ◌∷◌, ◌++◌, Option, Some, None, Result, Ok, Err, refl, ap, sym, ◌∙◌}
use Rattle.std.specs.Prelude.{IfOk, slice_get, take}
use Rattle.ioa_values.specs.Outcome.{and_then}
use Rattle.ioa_actions.specs.declared.fault.StepFault.{StepFault}
use Rattle.ioa_transitions.specs.Entries.{PlainEntry}
use Rattle.ioa_system.specs.Systems.{SystemParts}
use Rattle.ioa_tokens.specs.LineTokens.{line_tokens}
use Rattle.ioa_compose.specs.declared.configuration.Conf.{Conf}
use Rattle.ioa_compose.specs.Composition.{joint_answer}
use Rattle.ioa_compose.specs.Executions.{after_step, replay}
use Rattle.ioa_compose.specs.Start.{start}
use Rattle.std.proofs.lemmas.List.{append_assoc}
use Rattle.ioa_compose.proofs.Replays.{replay-push}
use Rattle.ioa_lines.specs.Lines as lines
use Rattle.ioa_lines.specs.Lines.{Entries, Lines, cut_entry, entries_by, entries_from, lines_answer, lines_left, lines_of, with_entry}
use Rattle.ioa_lines.specs.declared.fault.LineFault.{LineFault}
use Rattle.ioa_lines.proofs.LinesLaw.{entries_complete, entries_sound}
use Rattle.ioa_schedule_check.specs.declared.fault.ScheduleFault.{ScheduleFault}
use Rattle.ioa_schedule_check.specs.declared.given.GivenSchedule.{GivenSchedule}
use Rattle.std.specs.declared.alloc.AllocError.{AllocError}
use Rattle.ioa_schedule_check.specs.Schedules.{IsExecutionSpelled, StopsAtStep, after_step_at, schedule_answer}
use Rattle.ioa_schedule_check.specs.Schedules.{steps_answer, steps_of_lines}
use Rattle.ioa_schedule_check.specs.Taken.{IsWholeIf, LeadsOn, answer_by, taken_at, taken_by, taken_from, taken_left, taken_of}
use Rattle.ioa_schedule_check.proofs.Meant.{Replays}

-- an entry more leads one step further
pub leads_further : (old taken log : List PlainEntry) (cs mid next : List Conf) (e : PlainEntry)
    → LeadsOn old cs taken mid → joint_answer e mid ≡ Ok next → log ≡ taken ++ e ∷ [] → LeadsOn old cs log next
leads_further old taken log cs mid next e leads step put =
    λ first before. rw put (replay-push taken e first mid next (leads first before) step)

-- an entry is taken, and then what is taken behind it
pub takes_further : (taken log rest more all : List PlainEntry) (e : PlainEntry) → log ≡ taken ++ e ∷ []
    → rest ≡ e ∷ more → taken ++ rest ≡ all → log ++ more ≡ all
takes_further taken log rest more all e put next before =
    rw put (append_assoc taken (e ∷ []) more) ∙ ap (λ (xs : List PlainEntry). taken ++ xs) (sym next) ∙ before

-- the steps that entries take one after another, as far as they take any
abbrev longest : List PlainEntry → List Conf → List PlainEntry
longest [] cs = []
longest (e ∷ more) cs = taken_by e (longest more) (joint_answer e cs)

-- lines that spell entries take those
taken_spelled : (s : SystemParts) (lines : List (List ℕ)) (k : ℕ) (cs : List Conf) (entries : List PlainEntry)
    → entries_from s lines k ≡ Ok entries → taken_from s lines k cs ≡ longest entries cs
taken_spelled s [] k cs entries h =
    let same : [] ≡ entries = cc in
    rw (← same) refl
taken_spelled s (line ∷ lines) k cs entries h =
    by_cut (cut_entry s k (line_tokens line)) h (λ n next es g. taken_spelled s lines n next es g)
  where
    by_step : (e : PlainEntry) (es : List PlainEntry) (r : Result (List Conf) StepFault)
        → ((next : List Conf) → taken_from s lines (k + 1) next ≡ longest es next)
        → taken_by e (taken_from s lines (k + 1)) r ≡ taken_by e (longest es) r
    by_step e es (Ok next) more = ap (λ (xs : List PlainEntry). e ∷ xs) (more next)
    by_step e es (Err f) more = refl

    by_rest : (e : PlainEntry) (r : Entries) → entries_from s lines (k + 1) ≡ r → with_entry e r ≡ Ok entries
        → ((n : ℕ) (next : List Conf) (es : List PlainEntry) → entries_from s lines n ≡ Ok es
        → taken_from s lines n next ≡ longest es next)
        → taken_by e (taken_from s lines (k + 1)) (joint_answer e cs) ≡ longest entries cs
    by_rest e (Ok es) is g more =
        let same : e ∷ es ≡ entries = cc in
        rw (← same) (by_step e es (joint_answer e cs) (λ next. more (k + 1) next es is))
    by_rest e (Err f) is g more = absurd (cc)

    by_cut : (r : Result (Option PlainEntry) LineFault) → and_then r (λ o. entries_by k o (entries_from s lines)) ≡ Ok entries
        → ((n : ℕ) (next : List Conf) (es : List PlainEntry) → entries_from s lines n ≡ Ok es
        → taken_from s lines n next ≡ longest es next)
        → taken_at r k (taken_from s lines) cs ≡ longest entries cs
    by_cut (Ok None) g more = more k cs entries g
    by_cut (Ok (Some e)) g more = by_rest e (entries_from s lines (k + 1)) refl g more
    by_cut (Err f) g more = absurd (cc)

-- what is taken replays
taken_replays : (s : SystemParts) (lines : List (List ℕ)) (k : ℕ) (cs : List Conf)
    → Replays (taken_from s lines k cs) cs
taken_replays s [] k cs = record { states = cs; replayed = refl }
taken_replays s (line ∷ lines) k cs =
    by_cut (cut_entry s k (line_tokens line)) (λ n next. taken_replays s lines n next)
  where
    by_step : (e : PlainEntry) (r : Result (List Conf) StepFault) → joint_answer e cs ≡ r
        → ((next : List Conf) → Replays (taken_from s lines (k + 1) next) next)
        → Replays (taken_by e (taken_from s lines (k + 1)) r) cs
    by_step e (Ok next) is more =
        let rest : Replays (taken_from s lines (k + 1) next) next = more next in
        record { states = rest.states; replayed = rw is rest.replayed }
    by_step e (Err f) is more = record { states = cs; replayed = refl }

    by_cut : (r : Result (Option PlainEntry) LineFault)
        → ((n : ℕ) (next : List Conf) → Replays (taken_from s lines n next) next)
        → Replays (taken_at r k (taken_from s lines) cs) cs
    by_cut (Ok None) more = more k cs
    by_cut (Ok (Some e)) more = by_step e (joint_answer e cs) refl (λ next. more (k + 1) next)
    by_cut (Err f) more = record { states = cs; replayed = refl }

-- entries that replay are all taken
longest_all : (entries : List PlainEntry) (cs states : List Conf) → replay entries cs ≡ Some states
    → longest entries cs ≡ entries
longest_all [] cs states h = refl
longest_all (e ∷ more) cs states h = by_step (joint_answer e cs) h (λ next g. longest_all more next states g)
  where
    by_step : (r : Result (List Conf) StepFault) → after_step (replay more) r ≡ Some states
        → ((next : List Conf) → replay more next ≡ Some states → longest more next ≡ more)
        → taken_by e (longest more) r ≡ e ∷ more
    by_step (Ok next) g further = ap (λ (xs : List PlainEntry). e ∷ xs) (further next g)
    by_step (Err f) g further = absurd (cc)

-- if they stop at an entry, those before it are
longest_before : (entries : List PlainEntry) (cs states : List Conf) (k : ℕ) (e : PlainEntry) (f : StepFault)
    → replay (take k entries) cs ≡ Some states → slice_get entries k ≡ Some e → joint_answer e states ≡ Err f
    → longest entries cs ≡ take k entries
longest_before [] cs states k e f before next fault = absurd (cc)
longest_before (x ∷ more) cs states zero e f before next fault =
    let here : x ≡ e = cc in
    let there : cs ≡ states = cc in
    rw (here, there, fault) refl
longest_before (x ∷ more) cs states (suc k) e f before next fault =
    by_step (joint_answer x cs) before (λ mid g. longest_before more mid states k e f g next fault)
  where
    by_step : (r : Result (List Conf) StepFault) → after_step (replay (take k more)) r ≡ Some states
        → ((mid : List Conf) → replay (take k more) mid ≡ Some states → longest more mid ≡ take k more)
        → taken_by x (longest more) r ≡ x ∷ take k more
    by_step (Ok mid) g further = ap (λ (xs : List PlainEntry). x ∷ xs) (further mid g)
    by_step (Err w) g further = absurd (cc)

-- the same of the lines of a text
taken_lines : (s : SystemParts) (text : List ℕ) (entries : List PlainEntry) → lines_answer s text ≡ Ok entries
    → taken_of s text ≡ longest entries (start s)
unfolding lines.entries_left taken_left taken_of
taken_lines s text entries h = taken_spelled s (lines_of text) 0 (start s) entries h

replays_of : (s : SystemParts) (text : List ℕ) → Replays (taken_of s text) (start s)
unfolding taken_left taken_of
replays_of s text = taken_replays s (lines_of text) 0 (start s)

pub taken_replayed : (s : SystemParts) (text : List ℕ)
    → (states : List Conf) × (replay (taken_of s text) (start s) ≡ Some states)
taken_replayed s text = ((replays_of s text).states, (replays_of s text).replayed)

spelled_answer : (s : SystemParts) (text : List ℕ) (entries : List PlainEntry) → Lines s text entries
    → lines_answer s text ≡ Ok entries
unfolding lines.entries_left
spelled_answer s text entries spelled = entries_complete spelled 0

pub taken_whole : (s : SystemParts) (text : List ℕ) → (execution : IsExecutionSpelled s text)
    → taken_of s text ≡ execution.entries
taken_whole s text h =
    taken_lines s text h.entries (spelled_answer s text h.entries h.spelled)
    ∙ longest_all h.entries (start s) h.states h.replayed

pub taken_before : (s : SystemParts) (text : List ℕ) (k : ℕ) (f : StepFault) → (stops : StopsAtStep s text k f)
    → taken_of s text ≡ take k stops.entries
taken_before s text k f h =
    taken_lines s text h.entries (spelled_answer s text h.entries h.spelled)
    ∙ longest_before h.entries (start s) h.states k h.entry f h.before h.next h.fault

steps_all : (k : ℕ) (entries : List PlainEntry) (cs : List Conf) → steps_answer k entries cs ≡ Ok tt
    → longest entries cs ≡ entries
steps_all k [] cs h = refl
steps_all k (e ∷ more) cs h = by_step (joint_answer e cs) h (λ next g. steps_all (k + 1) more next g)
  where
    by_step : (r : Result (List Conf) StepFault) → after_step_at k (steps_answer (k + 1) more) r ≡ Ok tt
        → ((next : List Conf) → steps_answer (k + 1) more next ≡ Ok tt → longest more next ≡ more)
        → taken_by e (longest more) r ≡ e ∷ more
    by_step (Ok next) g further = ap (λ (xs : List PlainEntry). e ∷ xs) (further next g)
    by_step (Err f) g further = absurd (cc)

accepted_spells : (s : SystemParts) (text : List ℕ) → schedule_answer s text ≡ Ok tt → Lines s text (taken_of s text)
unfolding lines.entries_left schedule_answer
accepted_spells s text h = by_lines (lines_answer s text) refl h
  where
    by_lines : (r : Result (List PlainEntry) LineFault) → lines_answer s text ≡ r → steps_of_lines 0 (start s) r ≡ Ok tt
        → Lines s text (taken_of s text)
    by_lines (Ok entries) e g =
        let same : taken_of s text ≡ entries = taken_lines s text entries e ∙ steps_all 0 entries (start s) g in
        rw same (entries_sound s (lines_of text) 0 entries e)
    by_lines (Err f) e g = absurd (cc)

whole_if : (s : SystemParts) (text : List ℕ) (refusal : Option ScheduleFault) (entries : List PlainEntry)
    → entries ≡ taken_of s text → answer_by refusal ≡ schedule_answer s text → IsWholeIf refusal s text entries
whole_if s text None entries taken told =
    let replays = replays_of s text in (
      record {
        entries = taken_of s text;
        spelled = accepted_spells s text (sym told);
        states = replays.states;
        replayed = replays.replayed;
      },
      sym taken,
    )
whole_if s text (Some f) entries taken told = tt

-- so what is given is whole unless it is refused
pub given_whole : (s : SystemParts) (text : List ℕ) (r : Result GivenSchedule AllocError)
    → IfOk r (λ g. g.taken ≡ taken_of s text) → IfOk r (λ g. answer_by g.refusal ≡ schedule_answer s text)
    → IfOk r (λ g. IsWholeIf g.refusal s text g.taken)
given_whole s text (Ok g) taken told = whole_if s text g.refusal g.taken taken told
given_whole s text (Err e) taken told = tt
