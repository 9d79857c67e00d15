use Rattle.ioa_show.specs.Sequences.{title}
use Rattle.ioa_show.proofs.sequence.put_title.Goals as goal

pub returns : goal.returns
unfolding title
returns g c =
    c.put.ensures
