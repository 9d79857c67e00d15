use Rattle.std.proofs.Common.{◌∙◌, length, map, arith}
use Rattle.ioa_sections.specs.Sections.{node_at}
use Rattle.ioa_sections.proofs.Programs.{programs_more, programs_stop}
use Rattle.ioa_sections.proofs.nodes.programs_of.Goals as goal

pub returns-in-Err : goal.returns-in-Err
returns-in-Err c =
    programs_stop c.args.declared.now.types.constants c.args.declared.now.automata (map node_at c.args.nodes.now) (length c.args.nodes.now) c.loop-position.position c.loop-position.programs.items c.in-Err.refusal (omega arith) c.loop-position.invariant c.in-Err.ensures

pub loop-position-preserved : goal.loop-position-preserved
loop-position-preserved c =
    let ps = c.loop-position.programs.items in
    rw c.in_ok-push-in-Ok.ensures.items
    (c.loop-position.invariant ∙ programs_more c.args.declared.now.types.constants c.args.declared.now.automata (map node_at c.args.nodes.now) (length c.args.nodes.now) c.loop-position.position ps c.in-Ok.program (omega arith) c.in-Ok.ensures)
