use Rattle.std.proofs.Common.{◌∙◌, sym}
use Rattle.ioa_commits.proofs.Raises.{not_raised}
use Rattle.ioa_commits.proofs.holding.raise_within.Goals as goal

pub returns-else-is_party : goal.returns-else-is_party
returns-else-is_party g c =
    not_raised c.args.action.now c.args.held.now.items c.args.slot c.index.result.now c.requires.within c.index.ensures
    (rw c.component.ensures at (sym c.is_party.ensures ∙ c.if-is_party.false))
