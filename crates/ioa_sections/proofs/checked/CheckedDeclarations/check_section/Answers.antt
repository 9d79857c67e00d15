use Rattle.std.proofs.Common.{length, map, subst, sym}
use Rattle.ioa_types.specs.TextTypes.{PlainTextTypes}
use Rattle.ioa_sections.specs.Grounds.{AreGroundedPrograms}
use Rattle.ioa_sections.specs.Sections.{node_at}
use Rattle.ioa_sections.proofs.Grounds.{programs_grounded}
use Rattle.ioa_sections.proofs.SoundNodes.{programs_sound}
use Rattle.ioa_sections.proofs.checked.CheckedDeclarations.check_section.Goals as goal

-- the automata of the programs have declared shapes
pub invariant_of-ground : goal.invariant_of-ground
invariant_of-ground c =
    let names = c.args.self.now.types.constants in
    let automata = c.args.self.now.automata in
    let nodes = map node_at c.deref.result.now in
    let programs = c.in_ok-programs.programs.items in
    let sound = programs_sound names automata nodes c.grounded_law.ensures (length nodes) 0 programs c.in_ok-programs.ensures in
    subst (λ (t : PlainTextTypes). AreGroundedPrograms t.constants programs) (sym c.types.ensures) (programs_grounded names automata nodes c.grounded_law.ensures 0 programs sound.0)

pub returns-clause-grounded : goal.returns-clause-grounded
returns-clause-grounded c =
    let names = c.args.self.now.types.constants in
    let automata = c.args.self.now.automata in
    let nodes = map node_at c.deref.result.now in
    let programs = c.in_ok-programs.programs.items in
    let sound = programs_sound names automata nodes c.grounded_law.ensures (length nodes) 0 programs c.in_ok-programs.ensures in
    programs_grounded names automata nodes c.grounded_law.ensures 0 programs sound.0
