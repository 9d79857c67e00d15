use Rattle.ioa_verdicts.proofs.places.place_of.Goals as goal

pub returns-in-Queue : goal.returns-in-Queue
returns-in-Queue c = rw (c.in-Queue.is, ← c.channel_between.ensures) c.queue_place.ensures

pub returns-in-Variable : goal.returns-in-Variable
returns-in-Variable c = rw (c.in-Variable.is, ← c.node_numbered.ensures) c.variable_place.ensures
