-- An automaton that was made is ready to step.
use Rattle.std.proofs.Common.{◌≡◌, ◌++◌, ℕ, List, ap, refl, ◌∙◌}
use Rattle.ioa_source.specs.Sides.{SourceAutomaton, CheckedSchedule}
use Rattle.ioa_system.specs.InView.{inbox_words, variable_names}
use Rattle.ioa_system.specs.Parts.{PlainRule, automaton_parts, message_shape}
use Rattle.ioa_system.specs.ResolvedPrograms.{IsCheckedAutomaton}
use Rattle.ioa_types.specs.Meanings.{AreTextTypes}
use Rattle.ioa_names.specs.NameTables.{words}
use Rattle.ioa_types.specs.TextTypes.{PlainTextTypes}
use Rattle.ioa_automata.specs.NamesInView.{parameter_shapes, variable_shapes}
use Rattle.ioa_automata.specs.Automata.{PlainHeading, automaton_at, heading_at}
use Rattle.ioa_automata.proofs.Results.{result_is}
use Rattle.ioa_names.proofs.Words.{words_joined}
use Rattle.ioa_automata.proofs.SoundRules.{automaton_sound, heading_outer}
use Rattle.ioa_automata.proofs.CheckedAutomata.{parameter_words, variable_words, automaton_checked}

-- with the names of its variables and parameters, and of its block's variables and the inboxes
pub automaton_ready : (t : PlainTextTypes) (text : AreTextTypes t) (a : SourceAutomaton) (h : PlainHeading) (w : List ℕ) (cs : List (List ℕ)) (rs : List PlainRule) (b : CheckedSchedule) → heading_at t a ≡ result_is h → automaton_at t a ≡ result_is (automaton_parts w cs h.parameters h.variables rs b) → IsCheckedAutomaton (words h.outer) (variable_names b.variables ++ inbox_words (message_shape rs)) (automaton_parts w cs h.parameters h.variables rs b)
automaton_ready t text a h w cs rs b heading made = record {
  named = ap words (heading_outer t text a h heading) ∙ words_joined (variable_shapes h.variables) (parameter_shapes h.parameters) ∙ (λ i. variable_words h.variables i ++ parameter_words h.parameters i);
  block = refl;
  resolved = automaton_checked t text.named a (automaton_parts w cs h.parameters h.variables rs b) (automaton_sound t text a (automaton_parts w cs h.parameters h.variables rs b) made);
}
