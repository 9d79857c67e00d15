-- When a system declares each thing once (profile: row 21 of the refusals).
use Rattle.std.specs.Prelude.{◌≡◌, ℤ, Bool, true, ◌&&◌, List, map, length}
use Rattle.std.specs.List.{AllByRecursion, IsDistinct, list_any}
use Rattle.std.specs.Ordering.{int_eq}
use Rattle.ioa_terms.specs.Bindings.{same_word}
use Rattle.ioa_source.specs.declared.declaration.Channel.{Channel}
use Rattle.ioa_system.specs.InView.{variable_names}
use Rattle.ioa_system.specs.Parts.{Parts}
use Rattle.ioa_system.specs.Systems.{SystemParts}

-- whether two channels are between the same nodes, in the same direction
abbrev pub same_channel : Channel → Channel → Bool
same_channel c d = int_eq c.from d.from && int_eq c.to d.to

-- a program in which the names of the entries differ, and those of the state variables; each state variable has an
-- initial value
pub record DeclaresOnce (p : Parts) : Type 0 where
  pub entries : IsDistinct same_word (map (λ r. r.entry.name) p.automaton.rules)
  pub variables : IsDistinct same_word (variable_names p.automaton.variables)
  pub valued : length p.initial ≡ length p.automaton.variables

-- whether a number is that of a node that has one of these programs
abbrev pub has_node : List Parts → ℤ → Bool
has_node ps k = list_any (λ p. int_eq p.node k) ps

-- a system in which the numbers of the nodes differ, the channels, and the nodes of the scripts, which are nodes of the
-- system, and whose programs declare each thing once
pub record IsWellDeclared (s : SystemParts) : Type 0 where
  pub nodes : IsDistinct int_eq (map (λ p. p.node) s.programs)
  pub channels : IsDistinct same_channel s.channels
  pub scripts : IsDistinct int_eq (map (λ c. c.node) s.scripts)
  pub of_nodes : AllByRecursion (λ c. has_node s.programs c.node ≡ true) s.scripts
  pub programs : AllByRecursion DeclaresOnce s.programs
