use Rattle.std.specs.Prelude.{codes}
use Rattle.ioa_show.specs.Sequences.{last_words}
use Rattle.ioa_show.specs.declared.memory.TheConstants.{RAN_OUT}
use Rattle.ioa_show.proofs.Puts.{three}
use Rattle.ioa_show.proofs.sequence.put_last_note.Goals as goal

pub returns : goal.returns
unfolding last_words
returns g c =
    three c.args.paper.now c.put.new.self c.put-2.new.self c.put-3.new.self (codes "    Note over n0: ") RAN_OUT.now
    (codes "\n") c.put.ensures c.put-2.ensures c.put-3.ensures
