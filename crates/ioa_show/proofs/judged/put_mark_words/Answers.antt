use Rattle.ioa_show.specs.Judged.{invariant_words, mark_words, verdict_end}
use Rattle.ioa_show.proofs.Puts.{two}
use Rattle.ioa_show.proofs.judged.put_mark_words.Goals as goal

pub returns : goal.returns
unfolding mark_words
returns g c =
    two c.args.paper.now c.put_invariant.new.paper c.put_word.new.paper (invariant_words c.args.name.now) (verdict_end c.args.verdict)
    c.put_invariant.ensures c.put_word.ensures
