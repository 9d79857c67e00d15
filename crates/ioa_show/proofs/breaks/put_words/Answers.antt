use Rattle.std.specs.Prelude.{codes}
use Rattle.ioa_verdicts.specs.Verdicts.{verdict_text}
use Rattle.ioa_show.specs.Marks.{break_words}
use Rattle.ioa_show.proofs.Puts.{five}
use Rattle.ioa_show.proofs.breaks.put_words.Goals as goal

pub returns : goal.returns
unfolding break_words
returns g c =
    five c.args.paper.now c.put.new.self c.put-2.new.self c.put-3.new.self c.put_verdict.new.paper c.put-4.new.self
    (codes ">invariant ") c.args.name.now (codes " ") (verdict_text c.args.verdict) (codes "</text>\n")
    c.put.ensures c.put-2.ensures c.put-3.ensures c.put_verdict.ensures c.put-4.ensures
