-- The programs of an accepted system.
use Rattle.std.proofs.Common.{◌≡◌, ◌+◌, ℕ, pos, List, [], ◌∷◌}
use Rattle.std.specs.List.{AllByRecursion, AllZip, Contains}
use Rattle.ioa_terms.specs.Bindings.{same_word}
use Rattle.ioa_source.specs.Sides.{SourceAutomaton, SourceNode, SourceTerm, SourceText}
use Rattle.ioa_system.specs.Parts.{AutomatonParts, Parts}
use Rattle.ioa_system.specs.Systems.{SystemParts}
use Rattle.ioa_types.specs.TextTypes.{PlainTextTypes}
use Rattle.ioa_automata.specs.SortedAutomata.{IsAutomatonOf}
use Rattle.ioa_sorts.proofs.Lookups.{contained_has, found_has}
use Rattle.ioa_sections.specs.Sections.{automata_in, nodes_in}
use Rattle.ioa_sections.specs.Meant.{AreNodesOf, IsNodeOf, IsProgramOf}
use Rattle.ioa_check.specs.Systems.{IsSystemOf}
use Rattle.ioa_run_laws.proofs.Numbered.{AreConstants, text_constants}

-- each of several is related to one of others
pub each_related : {A B : Type 0} (R : A → B → Type 0) (xs : List A) (ys : List B) → AllZip R xs ys → AllByRecursion (λ y. (x : A) × R x y) ys
each_related R [] [] h = tt
each_related R [] (y ∷ ys) h = absurd h
each_related R (x ∷ xs) [] h = absurd h
each_related R (x ∷ xs) (y ∷ ys) h = ((x, h.0), each_related R xs ys h.1)

-- a program of a text of these types: its node has a number, its automaton is one of the text's, and its node gives it
-- these terms
pub record IsAcceptedProgram (t : PlainTextTypes) (p : Parts) : Type 0 where
  pub position : ℕ
  pub number : p.node ≡ pos position
  pub source : SourceAutomaton
  pub automaton : IsAutomatonOf t source p.automaton
  pub given : List SourceTerm
  pub program : IsProgramOf t.constants given p

programs_accepted : (t : PlainTextTypes) (sources : List SourceAutomaton) (automata : List AutomatonParts) (ns : List SourceNode) (k : ℕ) (ps : List Parts) → AllZip (IsAutomatonOf t) sources automata → AreNodesOf t.constants automata ns k ps → AllByRecursion (IsAcceptedProgram t) ps
programs_accepted t sources automata ns k [] made nodes = tt
programs_accepted t sources automata ns k (p ∷ more) made nodes = (accepted nodes.0, programs_accepted t sources automata ns (k + 1) more made nodes.1)
  where
    accepted : IsNodeOf t.constants automata ns k p → IsAcceptedProgram t p
    accepted n =
        let one : (a : SourceAutomaton) × IsAutomatonOf t a p.automaton =
        found_has (λ (c : AutomatonParts). (a : SourceAutomaton) × IsAutomatonOf t a c) (λ (c : AutomatonParts). same_word c.name n.node.automaton) automata p.automaton (each_related (IsAutomatonOf t) sources automata made) n.automaton in
        record { position = k; number = n.number; source = one.0; automaton = one.1; given = n.node.arguments; program = n.program }

-- each program of an accepted system is such a program
pub all_accepted : (x : SourceText) (s : SystemParts) (h : IsSystemOf x s) → AllByRecursion (IsAcceptedProgram h.types) s.programs
all_accepted x s h = programs_accepted h.types (automata_in x.declarations) h.automata (nodes_in x.system) 0 s.programs h.made h.nodes

pub is_accepted : (x : SourceText) (s : SystemParts) (h : IsSystemOf x s) (p : Parts) → Contains s.programs p → IsAcceptedProgram h.types p
is_accepted x s h p c = contained_has (IsAcceptedProgram h.types) s.programs p (all_accepted x s h) c

-- and its constants are words with numbers
pub system_constants : (x : SourceText) (s : SystemParts) (h : IsSystemOf x s) → AreConstants h.types.constants
system_constants x s h = text_constants x.declarations h.types h.declared
