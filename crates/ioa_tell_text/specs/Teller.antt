-- Who writes what is told of a run (form), and what each event makes of what is written.
use Rattle.std.specs.Prelude.{ℕ, ℤ, if◌then◌else◌, List, [], ◌∷◌, ◌++◌, Option, Some, None, codes, find}
use Rattle.std.specs.Fmt.{decimal}
use Rattle.ioa_actions.specs.ActionParts.{node_of}
use Rattle.ioa_monitor.specs.Reports.{invariant_lines}
use Rattle.ioa_paper.specs.Papers.{PlainPaper, and_text}
use Rattle.ioa_record.specs.Endings.{ending_text}
use Rattle.ioa_system.specs.Invariants.{InvariantParts}
use Rattle.ioa_transitions.specs.Entries.{PlainEntry}
use Rattle.ioa_verdicts.specs.declared.verdict.Verdict.{Verdict}
use Rattle.ioa_tell.specs.Events.{PlainEvent, taken, missed, faulted, unfit, stuck, idle, stopped, ended}
use Rattle.ioa_tell.specs.Refusals.{PlainRefusal}
use Rattle.ioa_tell_text.specs.Kept.{is_of, next_waiting, same_passing, why_of, without}
use Rattle.ioa_tell_text.specs.Lines.{fault_line, taken_line, waiting_text}
use Rattle.ioa_tell_text.specs.Refusals.{refusal_text, refused_line}
use Rattle.ioa_tell_text.specs.Stops.{stop_text, stuck_line, stuck_text, unfit_text}
use Rattle.ioa_tell_text.specs.Verdicts.{marks_text}
use Rattle.ioa_tell_text.specs.declared.verdicts.Moment.{Moment}
use Rattle.ioa_tell_text.specs.declared.verdicts.Moment.TheVariants.{Start, Behind}
use Rattle.ioa_tell_text.specs.declared.waiting.Passing.{Passing}
use Rattle.ioa_tell_text.specs.declared.waiting.Passing.TheVariants.{Idle, Missed}
use Rattle.ioa_tell_text.specs.declared.waiting.Waiting.{Waiting}

-- what was written, the names of constants, the invariants with their verdicts, and what waits to be written, one line
-- a node
pub record PlainTeller : Type 0 where
  pub paper : PlainPaper
  pub names : List (List ℕ)
  pub invariants : List InvariantParts
  pub verdicts : List Verdict
  pub waiting : List Waiting

-- more is written
abbrev pub and_written : PlainTeller → List ℕ → PlainTeller
and_written t text = record t { paper = and_text t.paper text }

-- one more waits
abbrev pub with_waiting : Waiting → PlainTeller → PlainTeller
with_waiting w t = record t { waiting = t.waiting ++ w ∷ [] }

-- what waits is written, if something does
abbrev pub and_waiting : List (List ℕ) → Option Waiting → PlainPaper → PlainPaper
and_waiting names None paper = paper
and_waiting names (Some w) paper = and_text paper (waiting_text names w)

-- the line of a node is written, if one waits
abbrev pub flushed : ℤ → PlainTeller → PlainTeller
flushed n t = record t {
  paper = and_waiting t.names (find (is_of n) t.waiting) t.paper;
  waiting = without (is_of n) t.waiting;
}

-- what waits is written, unless the node does the same again
abbrev pub and_other : List (List ℕ) → Passing → Option Waiting → PlainPaper → PlainPaper
and_other names p None paper = paper
and_other names p (Some w) paper =
    if same_passing w.passing p then paper else and_text paper (waiting_text names w)

-- a node does this, of which that waited: it waits now
abbrev pub waits_behind : ℤ → Passing → Option Waiting → PlainTeller → PlainTeller
waits_behind n p last t = record t {
  paper = and_other t.names p last t.paper;
  waiting = t.waiting ++ next_waiting n p last ∷ [];
}

-- a node does what takes no action: it waits until the node does something else
abbrev pub waits : ℤ → Passing → PlainTeller → PlainTeller
waits n p t =
    waits_behind n p (find (is_of n) t.waiting) (record t { waiting = without (is_of n) t.waiting })

-- the line of each invariant is written that is first not true at a moment
abbrev pub marked : Moment → PlainTeller → PlainTeller
marked m t = and_written t (marks_text m t.invariants t.verdicts)

-- before all events: which invariants are not true at the start
abbrev pub teller_begun : PlainTeller → PlainTeller
teller_begun t = marked Start t

-- after an event: the line of an action that was taken and the line of an ending are written at once, each action
-- behind what waits of its node, and so are those of faults; behind an action stand the invariants that are first not
-- true in the state that it leads to; what a node does that takes no action waits; and of a node that stopped nothing
-- waits
abbrev pub teller_after : PlainEvent → PlainTeller → PlainTeller
teller_after (taken k e before after queue) t =
    marked (Behind k) (and_written (flushed (node_of e.action) t) (taken_line t.names k e before after queue))
teller_after (missed k a r) t = waits (node_of a) (Missed a (why_of t.names r)) t
teller_after (faulted k a place f) t =
    and_written (flushed (node_of a) t) (fault_line t.names a (stop_text t.names place f))
teller_after (unfit k a w v) t =
    and_written (flushed (node_of a) t) (fault_line t.names a (unfit_text t.names w v))
teller_after (stuck k n place f) t = and_written (flushed n t) (stuck_line n (stuck_text t.names place f))
teller_after (idle k n) t = waits n Idle t
teller_after (stopped k n) t = flushed n t
teller_after (ended n e) t =
    and_written t (codes "ending " ++ (decimal n ++ (codes " " ++ (ending_text e ++ codes "\n"))))

-- after an entry of a schedule that is no step: its line is written at once, behind all that was told
abbrev pub teller_refused : ℕ → PlainEntry → PlainRefusal → PlainTeller → PlainTeller
teller_refused k e r t = and_written t (refused_line t.names k e (refusal_text t.names r))

-- behind all that is told: the invariants with their verdicts, as a report has them
abbrev pub teller_ended : PlainTeller → PlainTeller
teller_ended t = and_written t (invariant_lines t.invariants t.verdicts)
