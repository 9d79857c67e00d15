-- After each round of a run by one worker the variables of each block have values of their sorts.
use Rattle.std.proofs.Common.{◌≡◌, ℕ, ℤ, suc, Bool, true, false, List, [], ◌∷◌, ◌++◌, Option, Some, None, if◌then◌else◌, refl, sym, ap, subst, ◌∙◌, map, zip, take, length}
use Rattle.std.specs.Prelude.{Result, Ok, Err}
use Rattle.std.specs.Option.{ok_or}
use Rattle.std.specs.Ordering.{int_eq}
use Rattle.std.specs.List.{AllByRecursion, AllZip, Contains, list_all}
use Rattle.std.proofs.lemmas.Bool.Decides.{Decides-int_eq}
use Rattle.ioa_values.specs.Data.{Data, is_within}
use Rattle.ioa_operators.specs.RangeCheck.{range_check}
use Rattle.ioa_operators.specs.declared.fault.TermFault.{TermFault}
use Rattle.ioa_operators.specs.declared.fault.TermFault.TheVariants as term
use Rattle.ioa_terms.specs.declared.name.Name.{Name}
use Rattle.ioa_terms.specs.declared.name.Name.TheVariants.{Word}
use Rattle.ioa_terms.specs.Bindings.{Bindings, constants_from}
use Rattle.ioa_terms.specs.Inboxes.{PlainInboxes, inbox_values}
use Rattle.ioa_actions.specs.ComponentOrder.{same_component}
use Rattle.ioa_actions.specs.declared.component.Component.TheVariants as component
use Rattle.ioa_source.specs.Sides.{CheckedVariable, SourceText}
use Rattle.ioa_system.specs.InView.{block_bindings, inbox_words, parameter_names, variable_names}
use Rattle.ioa_system.specs.Parts.{Parts, message_shape}
use Rattle.ioa_system.specs.Systems.{SystemParts}
use Rattle.ioa_sorts.proofs.Lookups.{contained_found, found_has}
use Rattle.ioa_check.proofs.Declared.{declared_once}
use Rattle.ioa_system.specs.Systems.{program_numbered}
use Rattle.ioa_check.specs.Systems.{IsSystemOf}
use Rattle.ioa_transitions.specs.NodeState.{NodeState}
use Rattle.ioa_compose.specs.Composition.{component_of, find_conf}
use Rattle.ioa_compose.specs.declared.configuration.Conf.{Conf}
use Rattle.ioa_compose.specs.declared.configuration.Conf.TheVariants.{Node, Queue}
use Rattle.ioa_compose.specs.JointStep.{IsJointState}
use Rattle.ioa_compose.specs.Start.{start}
use Rattle.ioa_compose.proofs.Components.{name_found}
use Rattle.ioa_compose.proofs.Compositions.{is_joint_step, joint_state_after}
use Rattle.ioa_compose.proofs.Starts.{start_state}
use Rattle.ioa_record.specs.declared.ending.NodeFault.{NodeFault}
use Rattle.ioa_record.specs.declared.ending.NodeFault.TheVariants.{Differs}
use Rattle.ioa_schedules.specs.Turns.{TurnEnd, TurnResult, turn, turn_answer, turn_limit, numbers_met_by_turn}
use Rattle.ioa_turns.specs.Inboxes.{inboxes_seen}
use Rattle.ioa_turns.specs.NodeTurns.{progress_at, PlainProgress, own_values, reached, block_turn, shows_program, turn_on, turn_at}
use Rattle.ioa_solo.specs.Solo.{rounds}
use Rattle.ioa_solo.proofs.KeptByRuns.{AreKept, rounds_keep}
use Rattle.ioa_run_laws.specs.BlockStates.{IsBlockState, AreBlockStates}
use Rattle.ioa_run_laws.specs.Shaped.{FitsVariable, FitInboxes, IsShapedNode, IsShapedConf, AreShaped}
use Rattle.ioa_run_laws.proofs.BlockTurns.{bindings_read, block_starts, block_turns, block_passes}
use Rattle.ioa_run_laws.proofs.Runs.{joint_shaped}
use Rattle.ioa_run_laws.proofs.SeenInboxes.{seen_fit}
use Rattle.ioa_run_laws.proofs.Starts.{all_contained, start_shaped}

-- a value that passes the check is the value
of_checked : {A : Type 0} (ds : List Data) (o : Option A) (v : A) → range_check ds o ≡ Ok v → o ≡ Some v
of_checked {A = A} ds o v h = by_test (list_all is_within ds) o h
  where
    by_test : (b : Bool) (o : Option A) → (if b then ok_or o term.Undefined else Err term.Range) ≡ Ok v → o ≡ Some v
    by_test true None h = absurd (cc)
    by_test true (Some w) h = cc
    by_test false o h = absurd (cc)

of_ok : (r : Result (TurnEnd × PlainProgress) NodeFault) (a b : TurnEnd × PlainProgress) → r ≡ Ok a → r ≡ Ok b → a ≡ b
of_ok r a b e f = cc

-- the values of the block's own variables come first in what it reads
own_first_values : (xs : List CheckedVariable) (own : List Data) (rest : Bindings) → AllZip FitsVariable xs own → take (length own) (map (λ (b : Name × Data). b.1) (zip (map Word (variable_names xs)) own ++ rest)) ≡ own
own_first_values [] [] rest h = refl
own_first_values [] (v ∷ vs) rest h = absurd h
own_first_values (x ∷ xs) [] rest h = absurd h
own_first_values (x ∷ xs) (v ∷ vs) rest h = ap (λ (ws : List Data). v ∷ ws) (own_first_values xs vs rest h.1)

same_length : (xs : List CheckedVariable) (vs ws : List Data) → AllZip FitsVariable xs vs → AllZip FitsVariable xs ws → length vs ≡ length ws
same_length [] [] [] h g = refl
same_length [] [] (w ∷ ws) h g = absurd g
same_length [] (v ∷ vs) ws h g = absurd h
same_length (x ∷ xs) [] ws h g = absurd h
same_length (x ∷ xs) (v ∷ vs) [] h g = absurd g
same_length (x ∷ xs) (v ∷ vs) (w ∷ ws) h g = ap (λ n. suc n) (same_length xs vs ws h.1 g.1)

-- so they are what a turn leaves them
own_left : (p : Parts) (state inboxes own left : List Data) → AllZip FitsVariable p.automaton.schedule.variables own → AllZip FitsVariable p.automaton.schedule.variables left → own_values (length own) (block_bindings p.automaton p.arguments state inboxes left) ≡ left
own_left p state inboxes own left f g =
    let xs = p.automaton.schedule.variables in
    let ws = inbox_words (message_shape p.automaton.rules) ++ (variable_names p.automaton.variables ++ parameter_names p.automaton.parameters) in
    let others = inboxes ++ (state ++ p.arguments) in
    let constants = constants_from 0 p.automaton.constants in
    ap (λ (e : Bindings). own_values (length own) e) (bindings_read p state inboxes left g)
    ∙ (rw (same_length xs own left f g) (own_first_values xs left (zip (map Word ws) others ++ constants) g))

module _ (x : SourceText) (s : SystemParts) (h : IsSystemOf x s) where
  record HoldsStates (cs : List Conf) : Type 0 where
    joint : IsJointState cs
    shaped : AreShaped s cs

  pub record HoldsNode (cs : List Conf) (p : PlainProgress) : Type 0 where
    pub present : Contains s.programs p.program
    pub block : IsBlockState p.program p.todo p.own

  of_some : (p q : Parts) → Some p ≡ Some q → p ≡ q
  of_some p q e = cc

  numbered : (p : Parts) → Contains s.programs p → program_numbered p.node s.programs ≡ Some p
  numbered p c = contained_found int_eq (λ k. (Decides-int_eq k k).1 refl) (λ (q : Parts). q.node) s.programs (declared_once x s h).nodes p c

  -- the configuration of a node has values of their sorts for the node's state variables
  variables_fit : (cs : List Conf) (p : PlainProgress) (c : NodeState) → AreShaped s cs → HoldsNode cs p → find_conf (component.Node p.program.node) cs ≡ Some (Node c) → AllZip FitsVariable p.program.automaton.variables c.variables
  variables_fit cs p c k n found =
      let shaped : IsShapedNode s c = found_has (IsShapedConf s) (λ b. same_component (component.Node p.program.node) (component_of b)) cs (Node c) k found in
      let name : component.Node c.program.node ≡ component.Node p.program.node = name_found (component.Node p.program.node) cs (Node c) found in
      let number : c.program.node ≡ p.program.node = cc in
      let there : program_numbered p.program.node s.programs ≡ Some c.program = subst (λ (k : ℤ). program_numbered k s.programs ≡ Some c.program) number (numbered c.program shaped.program) in
      let same : c.program ≡ p.program = of_some c.program p.program (sym there ∙ numbered p.program n.present) in
      subst (λ (q : Parts). AllZip FitsVariable q.automaton.variables c.variables) same shaped.variables

  -- a turn of its block
  block_turned : (cs : List Conf) (p : PlainProgress) (c : NodeState) (is : Option PlainInboxes) (t : TurnEnd × PlainProgress) → AllZip FitsVariable p.program.automaton.variables c.variables → FitInboxes (message_shape p.program.automaton.rules) (inbox_values is) → HoldsNode cs p → block_turn p is c.variables ≡ Ok t → HoldsNode cs t.1
  block_turned cs p c is t fits seen n e = by_result (turn_answer p.todo turn_limit (block_bindings p.program.automaton p.program.arguments c.variables (inbox_values is) p.own)) refl e
    where
      at_end : (r : TurnResult) → turn p.todo turn_limit (block_bindings p.program.automaton p.program.arguments c.variables (inbox_values is) p.own) ≡ Some r → HoldsNode cs (record p { todo = r.todo; own = own_values (length p.own) r.bindings })
      at_end r e =
          let left = block_turns p.program c.variables (inbox_values is) p.own p.todo turn_limit r fits seen n.block e in
          let own : own_values (length p.own) r.bindings ≡ left.0 = ap (λ (b : Bindings). own_values (length p.own) b) left.1 ∙ own_left p.program c.variables (inbox_values is) p.own left.0 n.block.values left.2.values in
          record { present = n.present; block = subst (IsBlockState p.program r.todo) (sym own) left.2 }

      by_result : (r : Result TurnResult TermFault) → turn_answer p.todo turn_limit (block_bindings p.program.automaton p.program.arguments c.variables (inbox_values is) p.own) ≡ r → reached p r ≡ Ok t → HoldsNode cs t.1
      by_result (Ok r) e g =
          let same : (r.ending, record p { todo = r.todo; own = own_values (length p.own) r.bindings }) ≡ t = of_ok (reached p (Ok r)) (r.ending, record p { todo = r.todo; own = own_values (length p.own) r.bindings }) t refl g in
          subst (λ (q : TurnEnd × PlainProgress). HoldsNode cs q.1) same (at_end r (of_checked (numbers_met_by_turn p.todo turn_limit (block_bindings p.program.automaton p.program.arguments c.variables (inbox_values is) p.own)) (turn p.todo turn_limit (block_bindings p.program.automaton p.program.arguments c.variables (inbox_values is) p.own)) r e))
      by_result (Err f) e g = absurd (cc)

  pub turn_kept : (cs : List Conf) (p : PlainProgress) (t : TurnEnd × PlainProgress) → AreShaped s cs → HoldsNode cs p → turn_at cs p ≡ Ok t → HoldsNode cs t.1
  turn_kept cs p t k n e = by_conf (find_conf (component.Node p.program.node) cs) refl e
    where
      by_conf : (o : Option Conf) → find_conf (component.Node p.program.node) cs ≡ o → turn_on p (inboxes_seen p.program cs) o ≡ Ok t → HoldsNode cs t.1
      by_conf None found g = absurd (cc)
      by_conf (Some (Queue q)) found g = absurd (cc)
      by_conf (Some (Node c)) found g = by_program (shows_program p.program c) g
        where
          by_program : (b : Bool) → (if b then block_turn p (inboxes_seen p.program cs) c.variables else Err Differs) ≡ Ok t → HoldsNode cs t.1
          by_program true g = block_turned cs p c (inboxes_seen p.program cs) t (variables_fit cs p c k n found) (seen_fit x s h p.program n.present cs k) n g
          by_program false g = absurd (cc)

  blocks_are_kept : AreKept HoldsStates HoldsNode
  blocks_are_kept = record {
    step = λ entry cs ds k e. record {
      joint = joint_state_after entry cs ds k.joint (is_joint_step entry cs ds k.joint e).0;
      shaped = joint_shaped x s h entry cs ds k.joint k.shaped (is_joint_step entry cs ds k.joint e).0;
    };
    beside = λ entry cs ds p k e n. record { present = n.present; block = n.block };
    turn = λ cs p t k n e. turn_kept cs p t k.shaped n e;
    fault = λ cs p f k n e. record { present = n.present; block = n.block };
    past = λ cs p n. record { present = n.present; block = block_passes p.program p.todo p.own n.block };
    used = λ cs p m n. record { present = n.present; block = n.block };
    ended = λ cs p e other n. record { present = n.present; block = n.block };
  }

  start_nodes : (attempts : ℕ) (cs : List Conf) (ps : List Parts) → AllByRecursion (λ p. HoldsNode cs (progress_at attempts p)) ps → AllByRecursion (HoldsNode cs) (map (progress_at attempts) ps)
  start_nodes attempts cs [] g = tt
  start_nodes attempts cs (p ∷ ps) g = (g.0, start_nodes attempts cs ps g.1)

  block_states : (cs : List Conf) (ps : List PlainProgress) → AllByRecursion (HoldsNode cs) ps → AreBlockStates ps
  block_states cs [] g = tt
  block_states cs (p ∷ ps) g = (g.0.block, block_states cs ps g.1)

  after_rounds : (attempts limit n : ℕ) → AreBlockStates (rounds limit n (record { schedule = []; states = start s }) (map (progress_at attempts) s.programs)).1
  after_rounds attempts limit n =
      block_states _ _
      (rounds_keep HoldsStates HoldsNode blocks_are_kept limit n (record { schedule = []; states = start s }) (map (progress_at attempts) s.programs)
      (record { joint = start_state s (declared_once x s h); shaped = start_shaped x s h })
      (start_nodes attempts (start s) s.programs (all_contained (λ p. HoldsNode (start s) (progress_at attempts p)) s.programs (λ p c. record { present = c; block = block_starts x s p h c })))).1

pub blocks_kept : (x : SourceText) (s : SystemParts) (attempts limit n : ℕ) → IsSystemOf x s → AreBlockStates (rounds limit n (record { schedule = []; states = start s }) (map (progress_at attempts) s.programs)).1
blocks_kept x s attempts limit n h = after_rounds x s h attempts limit n
