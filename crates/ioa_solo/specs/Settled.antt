-- Nodes that are settled (form): on what the last look at them showed, an attempt does no more than use one attempt.
-- The action that they fire is not enabled there, or they idle, and then their block is again what it was.
use Rattle.std.specs.Prelude.{◌≡◌, ⊤, Option, Some, None, Result, Ok, Err}
use Rattle.ioa_actions.specs.declared.fault.StepFault.{StepFault}
use Rattle.ioa_commits.specs.Proposals.{PlainProposal}
use Rattle.ioa_commits.specs.Versions.{read_confs}
use Rattle.ioa_book.specs.Looks.{PlainSnapshot}
use Rattle.ioa_book.specs.Proposals.{proposal_answer}
use Rattle.ioa_record.specs.declared.ending.NodeFault.{NodeFault}
use Rattle.ioa_schedules.specs.States.{PlainState}
use Rattle.ioa_schedules.specs.Turns.{TurnEnd, fires, idle, done}
use Rattle.ioa_turns.specs.Faults.{fault_of_step}
use Rattle.ioa_turns.specs.Fired.{action_fired}
use Rattle.ioa_turns.specs.NodeTurns.{PlainProgress, block_of, past_fire, turn_at, with_block}

-- a block, unless a fault ends its node
abbrev pub unless_ended : Option NodeFault → PlainState → Option PlainState
unless_ended None s = Some s
unless_ended (Some f) s = None

-- a block that moves past a fire, unless a step is proposed or the node ends
abbrev pub left_by_answer : Result PlainProposal StepFault → PlainState → Option PlainState
left_by_answer (Ok x) s = None
left_by_answer (Err f) s = unless_ended (fault_of_step f) s

-- the block of a node after a turn that ends so, on a look, unless a step is proposed or the node ends
abbrev pub left_by_end : PlainSnapshot → PlainProgress → TurnEnd → Option PlainState
left_by_end s q (fires k w vs) =
    left_by_answer (proposal_answer (action_fired q.program w vs) s) (block_of (past_fire q))
left_by_end s q idle = Some (block_of q)
left_by_end s q done = None

-- the same by the result of the turn
abbrev pub left_by_turn : PlainSnapshot → Result (TurnEnd × PlainProgress) NodeFault → Option PlainState
left_by_turn s (Ok t) = left_by_end s t.1 t.0
left_by_turn s (Err f) = None

-- a node is settled on a look: its attempt proposes no step and ends nothing, and its block is then what it was
unfoldable pub IsSettled : PlainProgress → PlainSnapshot → Type 0
IsSettled p s = left_by_turn s (turn_at (read_confs s.reads) p) ≡ Some (block_of p)

-- the same on a look in its place, if there is one
unfoldable pub IsSettledIn : PlainProgress → Option PlainSnapshot → Type 0
IsSettledIn p None = ⊥
IsSettledIn p (Some s) = IsSettled p s

-- what the block before a node's last turn, if it is kept, tells of that turn: it was the turn of a node with that
-- block
unfoldable pub IsTurned : Option PlainState → PlainSnapshot → PlainProgress → TurnEnd → Type 0
IsTurned None s q e = ⊤
IsTurned (Some b) s q e = turn_at (read_confs s.reads) (with_block b q) ≡ Ok (e, q)

-- after a fault of a node's step the node goes on, and its block is what it was before the node's last turn, which is
-- kept
pub record HasComeBack (fault : Option NodeFault) (kept : Option PlainState) (p : PlainProgress) : Type 0 where
  pub goes_on : fault ≡ None
  pub back : kept ≡ Some (block_of p)
