-- The first item of a queue (Lynch 14.1), lent (form).
use Rattle.ioa_channels.specs.declared.queue.Front.{Front}
use Rattle.ioa_channels.specs.declared.queue.Front.TheVariants as front
use Rattle.ioa_channels.specs.declared.queue.Item.{Item}
use Rattle.ioa_channels.specs.declared.queue.Item.TheVariants.{Message, Stimulus}

-- the item that is lent
abbrev pub front_item : Front → Item
front_item (front.Message m) = Message m.now
front_item (front.Stimulus a) = Stimulus a.now
