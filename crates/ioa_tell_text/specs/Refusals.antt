-- An entry of a schedule that is no step, as text (form).
use Rattle.std.specs.Prelude.{ℕ, List, ◌++◌, codes}
use Rattle.std.specs.Fmt.{decimal}
use Rattle.ioa_values.specs.Text.{text}
use Rattle.ioa_actions.specs.declared.fault.StepFault.{StepFault}
use Rattle.ioa_actions.specs.declared.fault.StepFault.TheVariants as step
use Rattle.ioa_transitions.specs.Entries.{PlainEntry}
use Rattle.ioa_reasons.specs.declared.other_const.OtherConst.{OtherConst}
use Rattle.ioa_tell.specs.Refusals.{PlainRefusal, missed, faulted, unfit, other_const, plain}
use Rattle.ioa_tell_text.specs.Kept.{why_of}
use Rattle.ioa_tell_text.specs.Lines.{numbered_text, why_text}
use Rattle.ioa_tell_text.specs.Stops.{stop_text, unfit_text}

-- a fault of a step in words, where no more is told of it
abbrev pub fault_words : StepFault → List ℕ
fault_words step.Undefined = codes "undefined"
fault_words step.Range = codes "out of range"
fault_words step.Memory = codes "memory ran out"
fault_words step.NotEnabled = codes "not enabled"
fault_words step.NotMine = codes "the node has no such action"
fault_words step.NoChannel = codes "there is no such channel"
fault_words step.NoChoice = codes "its effect may not choose this"

-- `: argument k is v, and const is w`
abbrev pub argument_text : List (List ℕ) → OtherConst → List ℕ
argument_text names o =
    codes ": argument " ++ (decimal o.position ++ (codes " is " ++ (text names o.argument
    ++ (codes ", and const is " ++ text names o.constant))))

-- `the node has no such action: argument k is v, and const is w`
abbrev pub other_const_text : List (List ℕ) → OtherConst → List ℕ
other_const_text names o = fault_words step.NotMine ++ argument_text names o

-- why an entry is no step: what a run tells of a miss, of a part at which a step stops, and of an argument that is not
-- of its sort; or the argument that is another value than its `const`; or else the words of the fault
abbrev pub refusal_text : List (List ℕ) → PlainRefusal → List ℕ
refusal_text names (missed r) = why_text names (why_of names r)
refusal_text names (faulted place f) = stop_text names place f
refusal_text names (unfit w v) = unfit_text names w v
refusal_text names (other_const o) = other_const_text names o
refusal_text names (plain f) = fault_words f

-- `not a step: k action`, for an entry behind k that are steps, with what its effect is to choose
abbrev pub no_step_text : List (List ℕ) → ℕ → PlainEntry → List ℕ
no_step_text names k e = codes "not a step: " ++ numbered_text names k e

-- `not a step: k action: why`, the line of an entry that is no step
abbrev pub refused_line : List (List ℕ) → ℕ → PlainEntry → List ℕ → List ℕ
refused_line names k e why = no_step_text names k e ++ (codes ": " ++ (why ++ codes "\n"))
