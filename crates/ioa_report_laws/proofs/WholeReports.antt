-- The lines behind a report's schedule begin with no digit, so the check of schedules takes the schedule's lines alone.
use Rattle.std.proofs.Common.{◌≡◌, ◌≤◌, ℕ, ℤ, false, List, [], ◌∷◌, ◌++◌, Some, Ok, refl, sym, ap, subst, ◌∙◌, append_assoc}
use Rattle.std.specs.List.{AllByRecursion}
use Rattle.std.specs.Prelude.{None, Option}
use Rattle.ioa_streams.specs.ScheduleParts.{begins_with_digit, schedule_part}
use Rattle.ioa_values.specs.Data.{Data}
use Rattle.ioa_actions.specs.declared.component.Component.{Component}
use Rattle.ioa_actions.specs.declared.component.Component.TheVariants as component
use Rattle.ioa_source.specs.Sides.{CheckedVariable}
use Rattle.ioa_system.specs.Systems.{ScriptParts, SystemParts, script_of}
use Rattle.ioa_channels.specs.declared.queue.Item.{Item}
use Rattle.ioa_compose.specs.declared.configuration.Conf.{Conf}
use Rattle.ioa_compose.specs.declared.configuration.Conf.TheVariants.{Node, Queue}
use Rattle.ioa_lines.specs.Lines.{Lines}
use Rattle.ioa_record.specs.declared.ending.Ending.{Ending}
use Rattle.ioa_record.specs.declared.record.Record.{Record}
use Rattle.ioa_schedule_check.specs.Schedules.{IsExecutionSpelled, schedule_answer}
use Rattle.ioa_verdicts.specs.Verdicts.{verdicts_of}
use Rattle.ioa_monitor.specs.Reports.{commits_text, component_lines, ending_lines, invariant_lines, queue_line, report_text, schedule_text, script_text, states_text, variable_lines}
use Rattle.ioa_report_laws.specs.Reported.{IsReported}
use Rattle.ioa_report_laws.proofs.CutLines.{part_taken}
use Rattle.ioa_report_laws.proofs.Schedules.{AcceptedLaw, IsPrinted, TakenLaw, TextLaw, joined, printed}

-- the lines of variables
variables_begin : (names : List (List ℕ)) (i : ℤ) (vs : List Data) (xs : List CheckedVariable) (us : List ℕ) → begins_with_digit us ≡ false → begins_with_digit (variable_lines names i vs xs ++ us) ≡ false
variables_begin names i [] xs us h = h
variables_begin names i (v ∷ vs) [] us h = h
variables_begin names i (v ∷ vs) (x ∷ xs) us h = refl

-- of a queue
script_begins : (o : Option ScriptParts) (k : ℤ) (n : ℕ) (us : List ℕ) → begins_with_digit us ≡ false → begins_with_digit (script_text o k n ++ us) ≡ false
script_begins None k n us h = h
script_begins (Some c) k n us h = refl

queue_begins : (s : SystemParts) (k : Component) (items : List Item) (us : List ℕ) → begins_with_digit us ≡ false → begins_with_digit (queue_line s k items ++ us) ≡ false
queue_begins s (component.Node i) items us h = h
queue_begins s (component.Channel i j) items us h = refl
queue_begins s (component.Script i) items us h = script_begins (script_of i s.scripts) i _ us h

component_begins : (s : SystemParts) (c : Conf) (us : List ℕ) → begins_with_digit us ≡ false → begins_with_digit (component_lines s c ++ us) ≡ false
component_begins s (Node c) us h = variables_begin s.names c.program.node c.variables c.program.automaton.variables us h
component_begins s (Queue q) us h = queue_begins s q.component q.items us h

-- of all components
states_begin : (s : SystemParts) (cs : List Conf) (us : List ℕ) → begins_with_digit us ≡ false → begins_with_digit (states_text s cs ++ us) ≡ false
states_begin s [] us h = h
states_begin s (c ∷ cs) us h = rw (append_assoc (component_lines s c) (states_text s cs) us) (component_begins s c (states_text s cs ++ us) (states_begin s cs us h))

-- of endings and counts
endings_begin : (es : List Ending) (us : List ℕ) → begins_with_digit us ≡ false → begins_with_digit (ending_lines 0 es ++ us) ≡ false
endings_begin [] us h = h
endings_begin (e ∷ es) us h = refl

counts_begin : (cs us : List ℕ) → begins_with_digit (commits_text cs ++ us) ≡ false
counts_begin [] us = refl
counts_begin (c ∷ cs) us = refl

-- a report
pub report_part : TakenLaw → TextLaw → (text : List ℕ) (s : SystemParts) (r : Record) (endings : List Ending) → IsReported text s r → Lines s (schedule_part (report_text s r endings)) r.schedule
report_part taken of_text text s r endings h =
    let p : IsPrinted s r.schedule = printed taken of_text text s r h in
    let states = states_text s r.states.items in
    let ended = ending_lines 0 endings in
    let commits = commits_text r.commits.items in
    let verdicts = invariant_lines s.invariants (verdicts_of s r.schedule) in
    let rest = states ++ (ended ++ (commits ++ verdicts)) in
    let no_digit : begins_with_digit rest ≡ false = states_begin s r.states.items (ended ++ (commits ++ verdicts)) (endings_begin endings (commits ++ verdicts) (counts_begin r.commits.items verdicts)) in
    subst (λ (l : List ℕ). Lines s (schedule_part l) r.schedule) (sym (joined (schedule_text s.names r.schedule) states ended commits verdicts))
    (part_taken s p.system r.schedule rest p.may p.few no_digit)

-- it passes the check of schedules
pub report_passes : TakenLaw → TextLaw → AcceptedLaw → (text : List ℕ) (s : SystemParts) (r : Record) (endings : List Ending) → IsReported text s r → schedule_answer s (schedule_part (report_text s r endings)) ≡ Ok tt
report_passes taken of_text accepted text s r endings h = accepted s (schedule_part (report_text s r endings)) (record {
  entries = r.schedule;
  spelled = report_part taken of_text text s r endings h;
  states = r.states.items;
  replayed = h.run.run.left.replayed.leads;
})
