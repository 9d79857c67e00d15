use Rattle.ioa_compose.proofs.JointSteps.{joint_answer-exists}
use Rattle.ioa_compose.proofs.Compositions.{is_joint_step, joint_answer-from, one_joint_step, joint_state_after}
use Rattle.ioa_compose.proofs.laws.joint_step_law.Goals as goal

pub returns : goal.returns
returns c = record { step = is_joint_step; answer = joint_answer-from; one = one_joint_step; state = joint_state_after; enabled = joint_answer-exists }
