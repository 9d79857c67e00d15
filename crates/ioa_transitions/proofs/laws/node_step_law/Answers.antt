use Rattle.ioa_transitions.proofs.NodeSignatures.{one_rule}
use Rattle.ioa_transitions.proofs.NodeSteps.{picked_again, is_node_step, node_answer_is, one_node_step, state_after}
use Rattle.ioa_transitions.proofs.laws.node_step_law.Goals as goal

pub returns : goal.returns
returns c = record { again = picked_again; step = is_node_step; answer = node_answer_is; one_rule = one_rule; one_step = one_node_step; state = state_after }
