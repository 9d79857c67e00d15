use Rattle.std.specs.Prelude.{codes}
use Rattle.ioa_show.specs.Judged.{invariant_words, state_told, verdict_end, verdict_line}
use Rattle.ioa_show.proofs.Puts.{five}
use Rattle.ioa_show.proofs.judged.put_verdict.Goals as goal

pub returns : goal.returns
unfolding verdict_line
returns g c =
    five c.args.paper.now c.put_invariant.new.paper c.put.new.self c.put_state.new.paper c.put_word.new.paper c.put-2.new.self
    (invariant_words c.args.name.now) (codes ",\"kind\":\"verdict\"") (state_told c.args.verdict) (verdict_end c.args.verdict) (codes "\n")
    c.put_invariant.ensures c.put.ensures c.put_state.ensures c.put_word.ensures c.put-2.ensures
