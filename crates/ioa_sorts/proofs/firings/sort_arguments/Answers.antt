use Rattle.std.proofs.Common.{map}
use Rattle.ioa_terms.specs.View.{term_of}
use Rattle.ioa_sorts.proofs.ArgumentLists.{arguments_listed}
use Rattle.ioa_sorts.proofs.firings.sort_arguments.Goals as goal

pub returns : goal.returns
returns c =
    rw (arguments_listed c.args.view.now c.args.shapes.now.items (map term_of c.args.arguments.now.items)) c.fit_each.ensures
