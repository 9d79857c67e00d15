use Rattle.std.proofs.Common.{◌≡◌, [], map, take, drop}
use Rattle.ioa_sections.specs.Distinct.{differ_from}
use Rattle.ioa_sections.specs.Scripts.{same_node}
use Rattle.ioa_sections.specs.Sections.{script_behind}
use Rattle.ioa_sections.proofs.SeenScripts.{nodes_of}
use Rattle.ioa_sections.proofs.scripts.are_of_different_nodes.Given as goal

-- the numbers are those of the scripts so far, and the scripts that are left decide
abbrev pub invariant-loop-script : goal.invariant-loop-script
invariant-loop-script l = record {
  numbers : l.numbers.keys ≡ nodes_of (map script_behind (take l.script-index l.scripts));
  left : differ_from same_node [] (map script_behind l.scripts) ≡ differ_from same_node (map script_behind (take l.script-index l.scripts)) (map script_behind (drop l.script-index l.scripts));
}
