use Rattle.std.proofs.Common.{rules}
use Rattle.ioa_turns.proofs.LastFired.{same_ends}
use Rattle.ioa_turns.proofs.firing.has_arguments.Goals as goal

pub returns-in-Send : goal.returns-in-Send
returns-in-Send c =
    rw c.in-Send.is (same_ends _ c.in-Send.message _ _ c.in-Send.from c.in-Send.to c.args.arguments.now c.are_message.ensures (search rules) (search rules))

pub returns-in-Receive : goal.returns-in-Receive
returns-in-Receive c =
    rw c.in-Receive.is (same_ends _ c.in-Receive.message _ _ c.in-Receive.from c.in-Receive.to c.args.arguments.now c.are_message-in-Receive.ensures (search rules) (search rules))
