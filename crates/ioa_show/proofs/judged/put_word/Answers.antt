use Rattle.std.specs.Prelude.{codes}
use Rattle.ioa_show.specs.Judged.{verdict_end, verdict_word}
use Rattle.ioa_show.proofs.Puts.{three}
use Rattle.ioa_show.proofs.judged.put_word.Goals as goal

pub returns : goal.returns
unfolding verdict_end
returns g c =
    three c.args.paper.now c.put.new.self c.put-2.new.self c.put-3.new.self (codes ",\"verdict\":\"") (verdict_word c.args.verdict) (codes "\"}")
    c.put.ensures (rw (← c.word_of.ensures) c.put-2.ensures) c.put-3.ensures
