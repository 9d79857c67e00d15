use Rattle.std.proofs.Common.{◌≡◌, rules, subst, sym}
use Rattle.std.specs.Ordering.{int_eq}
use Rattle.ioa_system.specs.Parts.{Parts}
use Rattle.ioa_sections.proofs.Grounds.{program_grounded}
use Rattle.ioa_automata.proofs.Results.{result_is}
use Rattle.ioa_sections.specs.Channels.{program_or}
use Rattle.ioa_system.specs.Systems.{program_numbered}
use Rattle.ioa_sections.specs.Grounds.{IsGrounded}
use Rattle.ioa_sections.proofs.SoundChannels.{program_found}
use Rattle.ioa_sections.proofs.scripts.script_at.Goals as goal

-- the automaton of the program that is found has declared shapes
pub stimuli_of-requires : goal.stimuli_of-requires
stimuli_of-requires c =
    let names = c.ground.inside.types.now.constants in
    let programs = c.ground.inside.programs.now.items in
    let program = c.in_ok-program.program.now in
    let made : program_or (program_numbered c.args.number programs) ≡ result_is program = search rules in
    let found = program_found (program_numbered c.args.number programs) program made in
    let grounded = program_grounded names programs c.ground.invariant (λ (p : Parts). int_eq p.node c.args.number) program found in
    let same : c.automaton.result.now ≡ program.automaton = search rules in
    subst (IsGrounded names) (sym same) grounded
