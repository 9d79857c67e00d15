-- A book that begins at the start of a system shows each node with the program that the system has for it, since no
-- step changes a node's program. So to meet such a node leaves it as it is.
use Rattle.std.proofs.Common.{◌≡◌, ◌∙◌, ◌++◌, ℤ, Bool, true, false, List, [], ◌∷◌, map, Some, Result, Ok, Err, refl, sym, ap, subst, append_assoc}
use Rattle.std.specs.Ordering.{int_eq}
use Rattle.std.proofs.lemmas.Bool.Decides.{Decides-int_eq}
use Rattle.ioa_actions.specs.declared.component.Component.TheVariants as component
use Rattle.ioa_actions.specs.declared.fault.StepFault.{StepFault}
use Rattle.ioa_commits.specs.Books.{PlainBook, states_held}
use Rattle.ioa_compose.specs.Automata.{IsExecution}
use Rattle.ioa_compose.specs.Composition.{conf_answer, find_conf}
use Rattle.ioa_compose.specs.Executions.{projection_of}
use Rattle.ioa_compose.specs.JointStep.{HasAnswer}
use Rattle.ioa_compose.specs.Start.{channel_start, node_start, script_start, start}
use Rattle.ioa_compose.specs.declared.configuration.Conf.{Conf}
use Rattle.ioa_compose.specs.declared.configuration.Conf.TheVariants.{Node, Queue}
use Rattle.ioa_held.specs.Openings.{BeginsAt}
use Rattle.ioa_system.specs.Parts.{Parts}
use Rattle.ioa_system.specs.SameParts.{same_program, same_program_is}
use Rattle.ioa_system.specs.Systems.{SystemParts}
use Rattle.ioa_transitions.specs.Entries.{PlainEntry}
use Rattle.ioa_transitions.specs.NodeAnswers.{redo_answer}
use Rattle.ioa_transitions.specs.NodeState.{NodeState}
use Rattle.ioa_transitions.proofs.NodeSteps.{program-redo_answer}
use Rattle.ioa_turns.specs.NodeTurns.{PlainProgress}
use Rattle.ioa_values.specs.Outcome.{and_then}
use Rattle.ioa_solo.specs.Meets.{met_in}
use Rattle.ioa_solo.specs.Works.{program_of}

-- a configuration of a node with this program
Shows : Parts → Conf → Type 0
Shows p (Node c) = c.program ≡ p
Shows p (Queue q) = ⊥

-- a step keeps it
step_shows : (p : Parts) (e : PlainEntry) (c d : Conf) → Shows p c → HasAnswer e c d → Shows p d
unfolding conf_answer Shows
step_shows p e (Node c) d same h = by_answer (redo_answer c e) (program-redo_answer c e) h
  where
    by_answer : (r : Result NodeState StepFault) → ((n : NodeState) → r ≡ Ok n → n.program ≡ c.program) → and_then r (λ n. Ok (Node n)) ≡ Ok d → Shows p d
    by_answer (Ok n) kept e =
        let one : Node n ≡ d = cc in
        subst (Shows p) one (kept n refl ∙ same)
    by_answer (Err f) kept e = absurd (cc)
step_shows p e (Queue q) d same h = absurd same

-- so an execution does
execution_shows : (p : Parts) (es : List PlainEntry) (c d : Conf) → Shows p c → IsExecution HasAnswer c es d → Shows p d
execution_shows p [] c d same h = subst (Shows p) h same
execution_shows p (e ∷ more) c d same h = execution_shows p more h.0 d (step_shows p e c h.0 same h.1) h.2

-- a test of two numbers does not depend on their order
int_eq-back : (i j : ℤ) → int_eq i j ≡ false → int_eq j i ≡ false
int_eq-back i j apart = by_test (int_eq j i) refl
  where
    by_test : (t : Bool) → int_eq j i ≡ t → int_eq j i ≡ false
    by_test true h =
        let one : j ≡ i = (Decides-int_eq j i).0 h in
        let no : true ≡ false = sym ((Decides-int_eq i i).1 refl) ∙ ap (int_eq i) (sym one) ∙ apart in
        absurd (cc)
    by_test false h = h

-- at the start of a system the node of each number has the first program of that number
start_found : (k : ℤ) (p : Parts) (ps : List Parts) (others : List Conf) → program_of k ps ≡ Some p → find_conf (component.Node k) (map node_start ps ++ others) ≡ Some (node_start p)
start_found k p [] others h = absurd (cc)
start_found k p (q ∷ ps) others h = by_test (int_eq q.node k) refl (start_found k p ps others)
  where
    by_test : (t : Bool) → int_eq q.node k ≡ t → (program_of k ps ≡ Some p → find_conf (component.Node k) (map node_start ps ++ others) ≡ Some (node_start p)) →
        find_conf (component.Node k) (map node_start (q ∷ ps) ++ others) ≡ Some (node_start p)
    by_test true e later =
        let same : q.node ≡ k = (Decides-int_eq q.node k).0 e in
        let first : Some q ≡ Some p = rw e at h in
        let one : q ≡ p = cc in
        let back : int_eq k q.node ≡ true = (Decides-int_eq k q.node).1 (sym same) in
        rw back (ap (λ (x : Parts). Some (node_start x)) one)
    by_test false e later = rw (int_eq-back q.node k e) (later (rw e at h))

-- the configurations at the start of a system are those of its nodes, and others
start_parts : (s : SystemParts) (k : ℤ) (p : Parts) → program_of k s.programs ≡ Some p → find_conf (component.Node k) (start s) ≡ Some (node_start p)
start_parts s k p h =
    let nodes : List Conf = map node_start s.programs in
    let channels : List Conf = map channel_start s.channels in
    let scripts : List Conf = map (script_start s.scripts) s.programs in
    ap (λ (cs : List Conf). find_conf (component.Node k) cs) (append_assoc nodes channels scripts)
    ∙ start_found k p s.programs (channels ++ scripts) h

-- where a node is shown with its program, it stays as it is
shown_met : (states : List Conf) (p : PlainProgress) (d : Conf) → find_conf (component.Node p.program.node) states ≡ Some d → Shows p.program d → met_in states p ≡ p
unfolding Shows
shown_met states p (Node c) there same =
    let alike : same_program p.program c.program ≡ true = (same_program_is p.program c.program).1 (sym same) in
    rw (there, alike) refl
shown_met states p (Queue q) there same = absurd same

-- to meet a node of a book that begins at the start of the system
pub met_opened : (s : SystemParts) (b : PlainBook) (p : PlainProgress) → BeginsAt s b → program_of p.program.node s.programs ≡ Some p.program → p ≡ met_in (states_held b) p
unfolding Shows
met_opened s b p begins own =
    let k = component.Node p.program.node in
    let first : find_conf k b.start ≡ Some (node_start p.program) = ap (find_conf k) begins.start ∙ start_parts s p.program.node p.program own in
    let end = begins.lawful.projections k (node_start p.program) first in
    sym (shown_met (states_held b) p end.0 end.1 (execution_shows p.program (projection_of k b.log) (node_start p.program) end.0 refl end.2))

-- a program that is found by a number has it
pub found_number : (k : ℤ) (ps : List Parts) (p : Parts) → program_of k ps ≡ Some p → p.node ≡ k
found_number k [] p h = absurd (cc)
found_number k (q ∷ ps) p h = by_test (int_eq q.node k) refl (found_number k ps p)
  where
    by_test : (t : Bool) → int_eq q.node k ≡ t → (program_of k ps ≡ Some p → p.node ≡ k) → p.node ≡ k
    by_test true e later =
        let first : Some q ≡ Some p = rw e at h in
        let one : q ≡ p = cc in
        ap (λ (x : Parts). x.node) (sym one) ∙ (Decides-int_eq q.node k).0 e
    by_test false e later = later (rw e at h)

-- so by its own number the same is found
pub found_own : (k : ℤ) (ps : List Parts) (p : Parts) → program_of k ps ≡ Some p → program_of p.node ps ≡ Some p
found_own k ps p h = subst (λ (i : ℤ). program_of i ps ≡ Some p) (sym (found_number k ps p h)) h
