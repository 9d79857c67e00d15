use Rattle.std.specs.Prelude.{codes}
use Rattle.std.specs.Fmt.{decimal}
use Rattle.ioa_show.specs.Judged.{marks_at}
use Rattle.ioa_show.specs.States.{index_words}
use Rattle.ioa_show.proofs.Puts.{four}
use Rattle.ioa_show.proofs.states.put_index.Goals as goal

pub returns : goal.returns
unfolding index_words
returns g c =
    four c.args.paper.now c.put.new.self c.put_number.new.self c.put_marks.new.paper c.put-2.new.self (codes "{\"#meta\":{\"index\":")
    (decimal c.args.passed) (marks_at c.args.invariants.now c.args.verdicts.now c.args.passed) (codes "},\"action\":\"")
    c.put.ensures c.put_number.ensures c.put_marks.ensures c.put-2.ensures
