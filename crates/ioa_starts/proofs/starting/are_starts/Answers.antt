use Rattle.std.proofs.Common.{◌∙◌, false, true, length, map, refl, sym, arith}
use Rattle.std.specs.Arc.{arc_value}
use Rattle.std.proofs.lemmas.List.{length-map}
use lib.Pointwise.{pointwise}
use Rattle.ioa_compose.specs.SameConfs.{same_conf}
use Rattle.ioa_starts.specs.Queues.{queue_starts}
use Rattle.ioa_starts.proofs.Starts.{start_by}
use Rattle.ioa_starts.proofs.starting.are_starts.Goals as goal

-- the configurations in front are those of the nodes, so those behind decide
pub returns-then-are_node_starts : goal.returns-then-are_node_starts
returns-then-are_node_starts c =
    start_by c.args.system.now c.args.confs.now c.split_at.result.0.now c.split_at.result.1.now
    (map arc_value c.programs-programs.result.now) (length c.programs-programs.result.now) true c.are_queue_starts.result
    c.programs-programs.ensures (sym (length-map c.programs-programs.result.now arc_value)) (omega arith)
    c.split_at.ensures.front c.split_at.ensures.back (sym c.if-are_node_starts.true ∙ c.are_node_starts.ensures) c.are_queue_starts.ensures

-- a configuration in front decides
pub returns-else-are_node_starts : goal.returns-else-are_node_starts
returns-else-are_node_starts c =
    c.if-are_node_starts.false
    ∙ start_by c.args.system.now c.args.confs.now c.split_at.result.0.now c.split_at.result.1.now
    (map arc_value c.programs-programs.result.now) (length c.programs-programs.result.now)
    false (pointwise same_conf c.split_at.result.1.now (queue_starts c.args.system.now))
    c.programs-programs.ensures (sym (length-map c.programs-programs.result.now arc_value)) (omega arith)
    c.split_at.ensures.front c.split_at.ensures.back (sym c.if-are_node_starts.false ∙ c.are_node_starts.ensures) refl
