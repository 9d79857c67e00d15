use Rattle.std.proofs.Common.{sym, subst}
use Rattle.ioa_source.specs.TextView.{call_of}
use Rattle.ioa_system.specs.Parts.{PlainRule}
use Rattle.ioa_sections.specs.Grounds.{HaveDeclaredShapes}
use Rattle.ioa_sections.proofs.Grounds.{rule_grounded}
use Rattle.ioa_sections.proofs.SoundScripts.{called_sound}
use Rattle.ioa_sections.proofs.scripts.stimulus_of.Goals as goal

-- the shapes of its arguments are declared ones
pub given_values-requires : goal.given_values-requires
given_values-requires c =
    let names = c.args.types.now.constants in
    let input = c.in_ok-input.input.now in
    let called = called_sound (call_of c.args.call.now).name c.args.automaton.now.rules input c.in_ok-input.ensures in
    let declared = rule_grounded names c.args.automaton.now c.requires (call_of c.args.call.now).name input called.found in
    subst (λ (q : PlainRule). HaveDeclaredShapes names q.shapes) (sym c.input.view_is) declared
