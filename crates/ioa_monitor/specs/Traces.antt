-- The trace of a schedule (Lynch 8.1): its external actions.
use Rattle.std.specs.Prelude.{ℕ, Bool, true, false, not, List, Option, Some, None, filter}
use Rattle.ioa_actions.specs.declared.action.Action.{Action}
use Rattle.ioa_actions.specs.declared.action.Action.TheVariants.{Send, Receive, Local, Stimulus}
use Rattle.ioa_terms.specs.declared.tree.Kind.{Kind}
use Rattle.ioa_terms.specs.declared.tree.Kind.TheVariants.{Input, Output, Internal}
use Rattle.ioa_system.specs.Parts.{Parts, PlainRule, rule_named}
use Rattle.ioa_system.specs.Systems.{SystemParts, program_numbered}
use Rattle.ioa_transitions.specs.Entries.{PlainEntry}

-- whether actions of this kind are internal
abbrev pub is_internal_kind : Kind → Bool
is_internal_kind Input = false
is_internal_kind Output = false
is_internal_kind Internal = true

-- whether the actions of a rule are internal, if there is the rule
abbrev pub is_internal_rule : Option PlainRule → Bool
is_internal_rule None = false
is_internal_rule (Some r) = is_internal_kind r.entry.kind

-- whether a program has an internal rule of a name, if there is the program
abbrev pub has_internal : List ℕ → Option Parts → Bool
has_internal w None = false
has_internal w (Some p) = is_internal_rule (rule_named w p.automaton.rules)

-- whether an action is internal: a local one of its node, if the node's rule of its name is. The sends and the receives
-- between nodes are not hidden (Lynch 14.1)
abbrev pub is_internal : SystemParts → Action → Bool
is_internal s (Send m i j) = false
is_internal s (Receive m i j) = false
is_internal s (Local a) = has_internal a.name (program_numbered a.node s.programs)
is_internal s (Stimulus a) = false

-- the entries of the actions that are not internal, in order
abbrev pub trace_of : SystemParts → List PlainEntry → List PlainEntry
trace_of s entries = filter (λ e. not (is_internal s e.action)) entries
