use Rattle.std.specs.Prelude.{codes}
use Rattle.std.specs.Fmt.{decimal}
use Rattle.ioa_show.specs.Judged.{numbered_state}
use Rattle.ioa_show.proofs.Puts.{two}
use Rattle.ioa_show.proofs.judged.put_number.Goals as goal

pub returns : goal.returns
unfolding numbered_state
returns g c =
    two c.args.paper.now c.put.new.self c.put_number.new.self (codes ",\"state\":") (decimal c.args.passed) c.put.ensures c.put_number.ensures
