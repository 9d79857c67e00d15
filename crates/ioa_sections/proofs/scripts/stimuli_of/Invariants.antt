use Rattle.std.proofs.Common.{◌≡◌, ◌++◌, Ok, map, drop}
use Rattle.ioa_values.specs.Outcome.{and_then}
use Rattle.ioa_source.specs.TextView.{call_of}
use Rattle.ioa_sections.specs.Grounds.{IsGrounded}
use Rattle.ioa_sections.specs.Scripts.{stimuli_at}
use Rattle.ioa_sections.proofs.scripts.stimuli_of.Given as goal

-- all stimuli are those so far and then those of the calls that are left
abbrev pub invariant-loop-call : goal.invariant-loop-call
invariant-loop-call l = record {
  grounded : IsGrounded l.types.constants l.automaton;
  all : stimuli_at l.types.constants l.number l.automaton (map call_of l.calls.items)
      ≡ and_then (stimuli_at l.types.constants l.number l.automaton (map call_of (drop l.call-index l.call-items))) (λ xs. Ok (l.stimuli.items ++ xs));
}
