use Rattle.ioa_show.specs.States.{states_words}
use Rattle.ioa_show.proofs.states.put_between.Goals as goal

pub returns : goal.returns
unfolding states_words
returns g c =
    c.put.ensures
