use Rattle.std.proofs.Common.{◌≡◌, Some, rules, sym, ◌∙◌, ap, to_z, of_z, w64}
use Rattle.std.specs.Arc.{arc_value}
use Rattle.ioa_workers.proofs.Numbers.{number_past, number_there}
use Rattle.ioa_workers.proofs.slot.node_at.Goals as goal

pub returns-in-Some : goal.returns-in-Some
returns-in-Some c =
    let same : to_z w64 (of_z w64 c.node.result) ≡ (arc_value c.in-Some.program.now).node = search rules in
    ap Some same ∙ sym (number_there arc_value _ _ _ c.programs.ensures c.in-Some.program c.in-Some.ensures.lookup)

pub returns-in-None : goal.returns-in-None
returns-in-None c = sym (number_past arc_value _ _ _ c.programs.ensures c.in-None.ensures.lookup)
