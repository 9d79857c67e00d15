use Rattle.std.specs.Prelude.{codes}
use Rattle.std.specs.Fmt.{decimal}
use Rattle.ioa_show.specs.Sequences.{many_note}
use Rattle.ioa_show.proofs.Puts.{three}
use Rattle.ioa_show.proofs.sequence.put_many.Goals as goal

pub returns : goal.returns
unfolding many_note
returns g c =
    three c.args.paper.now c.put.new.self c.put_number.new.self c.put-2.new.self (codes "    Note over n0: ") (decimal c.args.count)
    (codes " actions, which viewers may refuse\n") c.put.ensures c.put_number.ensures c.put-2.ensures
