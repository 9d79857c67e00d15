use Rattle.std.proofs.Common.{◌≡◌, take}
use Rattle.ioa_paper.specs.Papers.{and_text}
use Rattle.ioa_monitor.specs.Reports.{states_text}
use Rattle.ioa_monitor.proofs.reporting.put_states.Given as goal

-- what is written so far are the components gone by
abbrev pub invariant-loop-state : goal.invariant-loop-state
invariant-loop-state g l = l.paper ≡ and_text l.initial.paper (states_text l.system (take l.state-index l.states))
