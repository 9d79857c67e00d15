use Rattle.std.proofs.Common.{sym}
use Rattle.ioa_automata.proofs.SoundRules.{automaton_sound}
use Rattle.ioa_automata.proofs.Complete.{automaton_found}
use Rattle.ioa_automata.proofs.CheckedAutomata.{automaton_checked}
use Rattle.ioa_automata.proofs.DeclaredShapes.{automaton_declared}
use Rattle.ioa_automata.proofs.laws.automata_law.Goals as goal

pub returns : goal.returns
returns c = record {
  sound = λ t a c text h. automaton_sound t text a c h;
  found = λ t a c h. sym (automaton_found t a c h);
  resolved = λ t a c alone h. automaton_checked t alone a c h;
  declared = λ t a c text h. automaton_declared t text a c h;
}
