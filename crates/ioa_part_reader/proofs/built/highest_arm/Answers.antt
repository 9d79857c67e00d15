use Rattle.std.proofs.Common.{◌∙◌, sym}
use Rattle.ioa_source.proofs.Heights.{arms_highest}
use Rattle.ioa_terms.specs.View.{arm_of}
use Rattle.ioa_part_reader.proofs.built.highest_arm.Goals as goal

pub returns-clause-exact : goal.returns-clause-exact
returns-clause-exact c = c.height.ensures.exact ∙ sym (arms_highest arm_of c.args.arms.now.tree.items)
