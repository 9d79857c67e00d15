-- What a schedule block reads of the messages that wait for its node (profile).
use Rattle.std.specs.Prelude.{codes, ℕ, List}
use Rattle.ioa_values.specs.Data.{Data}
use Rattle.ioa_operators.specs.declared.shape.Shape.{Shape}
use Rattle.ioa_terms.specs.declared.callee.Callee.{Callee}
use Rattle.ioa_terms.specs.Bindings.{Bindings}
use Rattle.ioa_terms.specs.Inboxes.{inbox_values}
use Rattle.ioa_terms.specs.PlainTerm.{PlainTerm, call, term, no_terms}
use Rattle.ioa_system.specs.InView.{block_bindings}
use Rattle.ioa_system.specs.Parts.{Parts}
use Rattle.ioa_compose.specs.declared.configuration.Conf.{Conf}
use Rattle.ioa_turns.specs.Inboxes.{inboxes_seen}

-- the term `inbox(t)`, whatever the call bears (profile)
abbrev pub inbox_term : Callee → PlainTerm ℕ Callee Shape → PlainTerm ℕ Callee Shape
inbox_term c t = call (codes "inbox") c (term t no_terms)

-- what the block of a program reads on the configurations, if the state variables of its node and its own have these
-- values (profile)
abbrev pub block_reads : Parts → List Conf → (state own : List Data) → Bindings
block_reads p cs state own = block_bindings p.automaton p.arguments state (inbox_values (inboxes_seen p cs)) own
