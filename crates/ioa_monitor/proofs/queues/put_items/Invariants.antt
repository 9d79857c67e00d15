use Rattle.std.proofs.Common.{◌≡◌, [], map, take}
use Rattle.ioa_values.specs.Text.{with_commas}
use Rattle.ioa_channels.specs.Queues.{queue_items}
use Rattle.ioa_paper.specs.Papers.{and_text}
use Rattle.ioa_monitor.specs.Reports.{item_text}
use Rattle.ioa_monitor.proofs.queues.put_items.Given as goal

-- what is written so far are the stimuli gone by
abbrev pub invariant-loop-position : goal.invariant-loop-position
invariant-loop-position g l =
    l.paper ≡ and_text l.initial.paper (with_commas (map (item_text l.names) (queue_items (take l.position l.stimuli) [])))

-- what is written so far are the stimuli and the messages gone by
abbrev pub invariant-loop-position-2 : goal.invariant-loop-position-2
invariant-loop-position-2 g l =
    l.paper ≡ and_text l.fn.paper (with_commas (map (item_text l.names) (queue_items l.stimuli (take l.position l.messages))))
