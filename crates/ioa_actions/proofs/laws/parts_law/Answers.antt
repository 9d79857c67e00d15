use Rattle.ioa_actions.proofs.Parts.{input_named, input_kept, controlled_named, controlled_kept}
use Rattle.ioa_actions.proofs.laws.parts_law.Goals as goal

pub returns-clause-input_name : goal.returns-clause-input_name
returns-clause-input_name c = input_named

pub returns-clause-input_arguments : goal.returns-clause-input_arguments
returns-clause-input_arguments c = input_kept

pub returns-clause-controlled_name : goal.returns-clause-controlled_name
returns-clause-controlled_name c = controlled_named

pub returns-clause-controlled_arguments : goal.returns-clause-controlled_arguments
returns-clause-controlled_arguments c = controlled_kept
