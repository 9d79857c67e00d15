-- The start of an accepted system has the declared shapes.
use Rattle.std.proofs.Common.{zero, suc, List, [], ◌∷◌, ◌++◌, refl, map, arith}
use Rattle.std.specs.List.{AllByRecursion, AllZip, Contains}
use Rattle.ioa_values.specs.Data.{Data}
use Rattle.ioa_terms.specs.Bindings.{Bindings}
use Rattle.ioa_source.specs.declared.declaration.Channel.{Channel}
use Rattle.ioa_source.specs.Sides.{CheckedDeclared, CheckedTerm, CheckedVariable, SourceText}
use Rattle.ioa_system.specs.InView.{given_bindings}
use Rattle.ioa_system.specs.Parts.{Parts}
use Rattle.ioa_system.specs.Systems.{SystemParts}
use Rattle.ioa_sections.specs.Nodes.{constant_bindings}
use Rattle.ioa_sections.specs.Meant.{AreValuesFor, IsInitialValue}
use Rattle.ioa_check.specs.Systems.{IsSystemOf}
use Rattle.ioa_transitions.specs.NodeState.{node_state}
use Rattle.ioa_compose.specs.Start.{node_start, channel_start, script_start, start}
use Rattle.ioa_compose.specs.declared.configuration.Conf.{Conf}
use Rattle.ioa_run_laws.specs.Shaped.{FitsParameter, FitsVariable, IsShapedNode, IsShapedConf, AreShaped}
use Rattle.ioa_run_laws.proofs.Accepted.{is_accepted}

arguments_fit : (e : Bindings) (ps : List CheckedDeclared) (ts : List CheckedTerm) (vs : List Data) → AreValuesFor e (map (λ d. d.shape) ps) ts vs → AllZip FitsParameter ps vs
arguments_fit e [] [] [] h = tt
arguments_fit e [] [] (v ∷ vs) h = absurd h
arguments_fit e [] (t ∷ ts) vs h = absurd h
arguments_fit e (p ∷ ps) [] vs h = absurd h
arguments_fit e (p ∷ ps) (t ∷ ts) [] h = absurd h
arguments_fit e (p ∷ ps) (t ∷ ts) (v ∷ vs) h = (h.0.shape, arguments_fit e ps ts vs h.1)

pub initial_fit : (e : Bindings) (xs : List CheckedVariable) (vs : List Data) → AllZip (IsInitialValue e) xs vs → AllZip FitsVariable xs vs
initial_fit e [] [] h = tt
initial_fit e [] (v ∷ vs) h = absurd h
initial_fit e (x ∷ xs) [] h = absurd h
initial_fit e (x ∷ xs) (v ∷ vs) h = (h.0.2.shape, initial_fit e xs vs h.1)

-- the start of one node
pub node_shaped : (x : SourceText) (s : SystemParts) → IsSystemOf x s → (p : Parts) → Contains s.programs p → IsShapedNode s (node_state p p.initial)
node_shaped x s h p c =
    let accepted = is_accepted x s h p c in
    record {
      program = c;
      arguments = arguments_fit (constant_bindings h.types.constants) p.automaton.parameters accepted.program.arguments p.arguments accepted.program.given;
      variables = initial_fit (given_bindings p.automaton p.arguments) p.automaton.variables p.initial accepted.program.initial;
    }

-- what holds of all that a list contains holds of each
contained_further : {A : Type 0} (x : A) (xs : List A) (y : A) → Contains xs y → Contains (x ∷ xs) y
contained_further x xs y c = (suc c.0, omega (arith, c.1), c.2)

pub all_contained : {A : Type 0} (P : A → Type 0) (xs : List A) → ((x : A) → Contains xs x → P x) → AllByRecursion P xs
all_contained P [] h = tt
all_contained P (x ∷ xs) h = (h x (zero, omega arith, refl), all_contained P xs (λ y c. h y (contained_further x xs y c)))

module _ (s : SystemParts) where
  shaped_behind : (cs ds : List Conf) → AreShaped s cs → AreShaped s ds → AreShaped s (cs ++ ds)
  shaped_behind [] ds h g = g
  shaped_behind (c ∷ cs) ds h g = (h.0, shaped_behind cs ds h.1 g)

  nodes_shaped : (ps : List Parts) → AllByRecursion (λ p. IsShapedNode s (node_state p p.initial)) ps → AreShaped s (map node_start ps)
  nodes_shaped [] h = tt
  nodes_shaped (p ∷ ps) h = (h.0, nodes_shaped ps h.1)

  empty_shaped : (c : Channel) → Contains s.channels c → IsShapedConf s (channel_start c)
  empty_shaped c present = record { channel = c; declared = present; from = refl; to = refl; messages = tt }

  channels_shaped : (cs : List Channel) → AllByRecursion (λ c. IsShapedConf s (channel_start c)) cs → AreShaped s (map channel_start cs)
  channels_shaped [] h = tt
  channels_shaped (c ∷ cs) h = (h.0, channels_shaped cs h.1)

  scripts_shaped : (ps : List Parts) → AreShaped s (map (script_start s.scripts) ps)
  scripts_shaped [] = tt
  scripts_shaped (p ∷ ps) = (tt, scripts_shaped ps)

pub start_shaped : (x : SourceText) (s : SystemParts) → IsSystemOf x s → AreShaped s (start s)
start_shaped x s h =
    shaped_behind s (map node_start s.programs ++ map channel_start s.channels) (map (script_start s.scripts) s.programs)
    (shaped_behind s (map node_start s.programs) (map channel_start s.channels)
    (nodes_shaped s s.programs (all_contained (λ p. IsShapedNode s (node_state p p.initial)) s.programs (node_shaped x s h)))
    (channels_shaped s s.channels (all_contained (λ c. IsShapedConf s (channel_start c)) s.channels (empty_shaped s))))
    (scripts_shaped s s.programs)
