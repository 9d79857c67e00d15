use Rattle.std.proofs.Common.{◌∙◌, false, true, map, refl, sym, arith}
use Rattle.std.specs.Arc.{arc_value}
use lib.Pointwise.{pointwise}
use Rattle.ioa_compose.specs.SameConfs.{same_conf}
use Rattle.ioa_compose.specs.Start.{script_start}
use Rattle.ioa_starts.proofs.Starts.{queue_starts_by}
use Rattle.ioa_starts.proofs.starting.are_queue_starts.Goals as goal

-- the queues in front are those of the channels, so those behind decide
pub returns-then-are_channel_starts : goal.returns-then-are_channel_starts
returns-then-are_channel_starts c =
    queue_starts_by c.args.system.now c.args.confs.now c.split_at.result.0.now c.split_at.result.1.now
    c.channels-channels.result.now (map arc_value c.programs.result.now) true c.are_script_starts.result
    c.channels-channels.ensures c.programs.ensures (omega arith) c.split_at.ensures.front c.split_at.ensures.back
    (sym c.if-are_channel_starts.true ∙ c.are_channel_starts.ensures) c.are_script_starts.ensures

-- a queue in front decides
pub returns-else-are_channel_starts : goal.returns-else-are_channel_starts
returns-else-are_channel_starts c =
    c.if-are_channel_starts.false
    ∙ queue_starts_by c.args.system.now c.args.confs.now c.split_at.result.0.now c.split_at.result.1.now
    c.channels-channels.result.now c.args.system.now.programs false
    (pointwise same_conf c.split_at.result.1.now (map (script_start c.args.system.now.scripts) c.args.system.now.programs))
    c.channels-channels.ensures refl (omega arith) c.split_at.ensures.front c.split_at.ensures.back
    (sym c.if-are_channel_starts.false ∙ c.are_channel_starts.ensures) refl
