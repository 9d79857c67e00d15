-- The scripts of a text.
use Rattle.std.proofs.Common.{◌≡◌, ◌≢◌, ◌||◌, ℕ, ℤ, false, List, [], Option, Some, None, refl, sym, ap, subst, map}
use Rattle.std.specs.List.{AllZip, IsDistinct}
use Rattle.std.specs.Ordering.{int_eq}
use Rattle.std.proofs.lemmas.Bool.{or_parts}
use Rattle.std.proofs.lemmas.Slice.Eq.{bytes_eq-Decides}
use Rattle.ioa_values.specs.Outcome.{and_then}
use Rattle.ioa_terms.specs.Bindings.{same_word}
use Rattle.ioa_terms.specs.SameTerms.{same_kind}
use Rattle.ioa_terms.specs.Sorted.{NameShapes}
use Rattle.ioa_terms.specs.declared.tree.Kind.TheVariants.{Input}
use Rattle.ioa_terms.proofs.SameTerms.{kind_is}
use Rattle.ioa_actions.specs.ActionParts.{send_name, receive_name, node_action}
use Rattle.ioa_actions.specs.declared.action.NodeAction.{NodeAction}
use Rattle.ioa_source.specs.Sides.{SourceCall, SourcePlacement, SourceScript}
use Rattle.ioa_system.specs.Parts.{AutomatonParts, Parts, PlainRule, rule_named}
use Rattle.ioa_system.specs.Systems.{ScriptParts, script_parts}
use Rattle.ioa_refusals.specs.declared.refusal.Refusal.TheVariants.{Unknown, Twice, BadArgument}
use Rattle.ioa_sorts.specs.Statements.{all_ok}
use Rattle.ioa_sorts.specs.Firings.{arguments_at}
use Rattle.ioa_automata.proofs.Loops.{results_are}
use Rattle.ioa_automata.proofs.Results.{result_is, all_ok_each, zip_weaker}
use Rattle.ioa_sections.specs.Distinct.{differ_from}
use Rattle.ioa_sections.specs.Sections.{scripts_in}
use Rattle.ioa_sections.specs.Grounds.{IsGrounded, AreGroundedPrograms}
use Rattle.ioa_sections.specs.Nodes.{argument_values, constant_bindings, given_at}
use Rattle.ioa_sections.specs.Channels.{program_or}
use Rattle.ioa_system.specs.Systems.{program_numbered}
use Rattle.ioa_sections.specs.Scripts.{same_node, scripts_or, input_of, input_called, stimulus_at, stimuli_at, script_at, script_of, scripts_at}
use Rattle.ioa_sections.specs.Meant.{IsStimulusOf, IsScriptOf}
use Rattle.ioa_sections.proofs.Results.{first_of, is_passed, is_not_met, result_same}
use Rattle.ioa_sections.proofs.Apart.{new_differ}
use Rattle.ioa_sections.proofs.Grounds.{arguments_meant, as_many_arguments, program_grounded, rule_grounded}
use Rattle.ioa_sections.proofs.SoundNodes.{values_sound}
use Rattle.ioa_sections.proofs.SoundChannels.{program_found}

-- which scripts there are
scripts_differ : (ss ts : List SourceScript) → scripts_or ss ≡ result_is ts → (ss ≡ ts) × IsDistinct same_node ss
unfolding scripts_or
scripts_differ ss ts h =
    let test = is_passed (differ_from same_node [] ss) (result_is ss) Twice ts h in
    (result_same ss ts test.1, (new_differ same_node [] ss test.0).1)

-- the rule of an input that a call names
pub record IsCalled (w : List ℕ) (rs : List PlainRule) (r : PlainRule) : Type 0 where
  pub no_send : w ≢ send_name
  pub no_receive : w ≢ receive_name
  pub found : rule_named w rs ≡ Some r
  pub kind : r.entry.kind ≡ Input

words_apart : (w v : List ℕ) → same_word w v ≡ false → w ≢ v
words_apart w v h = λ e. let same = (bytes_eq-Decides w v).1 e in absurd (cc)

input_sound : (o : Option PlainRule) (r : PlainRule) → input_of o ≡ result_is r → (o ≡ Some r) × (r.entry.kind ≡ Input)
unfolding input_of
input_sound None r h = absurd (cc)
input_sound (Some s) r h =
    let test = is_passed (same_kind s.entry.kind Input) (result_is s) Unknown r h in
    let same : s ≡ r = result_same s r test.1 in
    (ap Some same, subst (λ (q : PlainRule). q.entry.kind ≡ Input) same ((kind_is s.entry.kind Input).0 test.0))

pub called_sound : (w : List ℕ) (rs : List PlainRule) (r : PlainRule) → input_called w rs ≡ result_is r → IsCalled w rs r
unfolding input_called
called_sound w rs r h =
    let test = is_not_met (same_word w send_name || same_word w receive_name) (input_of (rule_named w rs)) BadArgument r h in
    let apart = or_parts (same_word w send_name) (same_word w receive_name) test.0 in
    let input = input_sound (rule_named w rs) r test.1 in
    record {
      no_send = words_apart w send_name apart.0;
      no_receive = words_apart w receive_name apart.1;
      found = input.0;
      kind = input.1;
    }

-- a call, as a stimulus
module _ (names : NameShapes) (k : ℤ) (a : AutomatonParts) (ground : IsGrounded names a) where
  stimulus_sound : (c : SourceCall) (x : NodeAction) → stimulus_at names k a c ≡ result_is x → IsStimulusOf names k a c x
  unfolding stimulus_at given_at
  stimulus_sound c x h =
      let one = first_of (input_called c.name a.rules) (λ r. and_then (given_at names r.shapes c.arguments) (λ vs. result_is (node_action k c.name vs))) x h in
      let r = one.0 in
      let called = called_sound c.name a.rules r one.1 in
      let two = first_of (given_at names r.shapes c.arguments) (λ vs. result_is (node_action k c.name vs)) x one.2 in
      let three = first_of (arguments_at names r.shapes c.arguments) (argument_values (constant_bindings names) r.shapes) two.0 two.1 in
      let same : node_action k c.name two.0 ≡ x = cc in
      let declared = rule_grounded names a ground c.name r called.found in
      subst (IsStimulusOf names k a c) {x = node_action k c.name two.0} same (record {
        node = refl;
        name = refl;
        no_send = called.no_send;
        no_receive = called.no_receive;
        input = r;
        found = called.found;
        kind = called.kind;
        arguments = three.0;
        sorted = arguments_meant declared.types names declared.names_declared r.shapes c.arguments three.0 declared.shapes_declared three.1;
        given = values_sound (constant_bindings names) r.shapes three.0 two.0 (as_many_arguments names r.shapes c.arguments three.0 three.1) three.2;
      })

  stimuli_sound : (cs : List SourceCall) (xs : List NodeAction) → stimuli_at names k a cs ≡ results_are xs → AllZip (IsStimulusOf names k a) cs xs
  stimuli_sound cs xs h = zip_weaker (λ c x. stimulus_at names k a c ≡ result_is x) (IsStimulusOf names k a) stimulus_sound cs xs (all_ok_each (stimulus_at names k a) cs xs h)

-- scripts, whose nodes have these programs
pub record AreScriptsIn (names : NameShapes) (ps : List Parts) (placements : List SourcePlacement) (cs : List ScriptParts) : Type 0 where
  pub differ : IsDistinct same_node (scripts_in placements)
  pub made : AllZip (IsScriptOf names ps) (scripts_in placements) cs

module _ (names : NameShapes) (ps : List Parts) (ground : AreGroundedPrograms names ps) where
  script_sound : (s : SourceScript) (c : ScriptParts) → script_of names ps s ≡ result_is c → IsScriptOf names ps s c
  unfolding script_at
  script_sound s c h =
      let one = first_of (program_or (program_numbered s.node ps)) (λ p. and_then (stimuli_at names s.node p.automaton s.calls) (λ xs. result_is (script_parts s.node xs))) c h in
      let p = one.0 in
      let found = program_found (program_numbered s.node ps) p one.1 in
      let two = first_of (stimuli_at names s.node p.automaton s.calls) (λ xs. result_is (script_parts s.node xs)) c one.2 in
      let same : script_parts s.node two.0 ≡ c = cc in
      let grounded = program_grounded names ps ground (λ (q : Parts). int_eq q.node s.node) p found in
      subst (IsScriptOf names ps s) {x = script_parts s.node two.0} same (record {
        node = refl;
        program = p;
        of_node = found;
        stimuli = stimuli_sound names s.node p.automaton grounded s.calls two.0 two.1;
      })

  pub scripts_sound : (placements : List SourcePlacement) (cs : List ScriptParts) → scripts_at names ps placements ≡ results_are cs → AreScriptsIn names ps placements cs
  unfolding scripts_at
  scripts_sound placements cs h =
      let one = first_of (scripts_or (scripts_in placements)) (λ ss. all_ok (map (script_of names ps) ss)) cs h in
      let listed = scripts_differ (scripts_in placements) one.0 one.1 in
      let made = zip_weaker (λ s c. script_of names ps s ≡ result_is c) (IsScriptOf names ps) script_sound one.0 cs (all_ok_each (script_of names ps) one.0 cs one.2) in
      record { differ = listed.1; made = subst (λ (ss : List SourceScript). AllZip (IsScriptOf names ps) ss cs) (sym listed.0) made }
