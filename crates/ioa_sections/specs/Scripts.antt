-- The scripts of nodes (profile): the inputs that the environment has for them, in order.
use Rattle.std.specs.Prelude.{ℕ, ℤ, Bool, ◌||◌, if◌then◌else◌, List, [], Option, Some, None, Result, Ok, Err, map}
use Rattle.std.specs.Ordering.{int_eq}
use Rattle.ioa_values.specs.Outcome.{and_then}
use Rattle.ioa_terms.specs.Bindings.{same_word}
use Rattle.ioa_terms.specs.SameTerms.{same_kind}
use Rattle.ioa_terms.specs.Sorted.{NameShapes}
use Rattle.ioa_terms.specs.declared.tree.Kind.TheVariants.{Input}
use Rattle.ioa_actions.specs.ActionParts.{send_name, receive_name, node_action}
use Rattle.ioa_actions.specs.declared.action.NodeAction.{NodeAction}
use Rattle.ioa_source.specs.Sides.{SourceCall, SourcePlacement, SourceScript}
use Rattle.ioa_system.specs.Parts.{AutomatonParts, Parts, PlainRule, rule_named}
use Rattle.ioa_system.specs.Systems.{ScriptParts, script_parts}
use Rattle.ioa_refusals.specs.declared.refusal.Refusal.{Refusal}
use Rattle.ioa_refusals.specs.declared.refusal.Refusal.TheVariants.{Unknown, Twice, BadArgument}
use Rattle.ioa_sorts.specs.Statements.{all_ok}
use Rattle.ioa_sections.specs.Distinct.{differ_from}
use Rattle.ioa_sections.specs.Sections.{scripts_in}
use Rattle.ioa_sections.specs.Nodes.{given_at}
use Rattle.ioa_sections.specs.Channels.{program_or}
use Rattle.ioa_system.specs.Systems.{program_numbered}

-- whether two scripts are of one node
abbrev pub same_node : SourceScript → SourceScript → Bool
same_node s t = int_eq s.node t.node

-- scripts, if they are of different nodes
unfoldable pub scripts_or : List SourceScript → Result (List SourceScript) Refusal
scripts_or ss = if differ_from same_node [] ss then Ok ss else Err Twice

-- a rule, if it is there and its actions are inputs
unfoldable pub input_of : Option PlainRule → Result PlainRule Refusal
input_of None = Err Unknown
input_of (Some r) = if same_kind r.entry.kind Input then Ok r else Err Unknown

-- the rule of the input that has a name: no script has sends and receives
unfoldable pub input_called : List ℕ → List PlainRule → Result PlainRule Refusal
input_called w rs =
    if same_word w send_name || same_word w receive_name then Err BadArgument else input_of (rule_named w rs)

-- the stimulus of a call at node k, on which this automaton is placed, in a text of these constants
unfoldable pub stimulus_at : NameShapes → ℤ → AutomatonParts → SourceCall → Result NodeAction Refusal
stimulus_at names k a c = and_then (input_called c.name a.rules)
    (λ r. and_then (given_at names r.shapes c.arguments) (λ vs. Ok (node_action k c.name vs)))

abbrev pub stimuli_at : NameShapes → ℤ → AutomatonParts → List SourceCall → Result (List NodeAction) Refusal
stimuli_at names k a cs = all_ok (map (stimulus_at names k a) cs)

-- the script of node k with these calls, if the node has one of these programs
unfoldable pub script_at : NameShapes → List Parts → ℤ → List SourceCall → Result ScriptParts Refusal
script_at names ps k cs = and_then (program_or (program_numbered k ps))
    (λ p. and_then (stimuli_at names k p.automaton cs) (λ xs. Ok (script_parts k xs)))

-- a script
abbrev pub script_of : NameShapes → List Parts → SourceScript → Result ScriptParts Refusal
script_of names ps s = script_at names ps s.node s.calls

-- the scripts of a system section
unfoldable pub scripts_at : NameShapes → List Parts → List SourcePlacement → Result (List ScriptParts) Refusal
scripts_at names ps placements =
    and_then (scripts_or (scripts_in placements)) (λ ss. all_ok (map (script_of names ps) ss))
