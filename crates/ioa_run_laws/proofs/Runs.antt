-- A run of an accepted system keeps the shapes, and each entry of it is a step of its node.
use Rattle.std.proofs.Common.{◌≡◌, ℤ, Bool, true, false, List, [], ◌∷◌, Some, refl, sym, subst, ◌∙◌}
use Rattle.std.specs.List.{AllByRecursion, Contains, IsDistinct}
use Rattle.std.proofs.lemmas.Bool.Decides.{Decides-int_eq}
use Rattle.ioa_values.specs.Data.{Data}
use Rattle.ioa_actions.specs.declared.component.Component.{Component}
use Rattle.ioa_actions.specs.declared.component.Component.TheVariants as component
use Rattle.ioa_actions.specs.ActionParts.{node_of}
use Rattle.ioa_actions.specs.declared.action.Action.{Action}
use Rattle.ioa_actions.specs.declared.action.Action.TheVariants.{Send}
use Rattle.ioa_source.specs.declared.declaration.Channel as declaration
use Rattle.ioa_source.specs.Sides.{SourceText}
use Rattle.ioa_system.specs.Systems.{SystemParts}
use Rattle.ioa_check.specs.Systems.{IsSystemOf}
use Rattle.ioa_check.proofs.Declared.{declared_once}
use Rattle.ioa_transitions.specs.Entries.{PlainEntry}
use Rattle.ioa_transitions.specs.NodeState.{NodeState}
use Rattle.ioa_transitions.specs.NodeStep.{IsNodeStep}
use Rattle.ioa_compose.specs.Automata.{IsExecution}
use Rattle.ioa_compose.specs.Composition.{component_of, component_names, find_conf}
use Rattle.ioa_compose.specs.Executions.{replay}
use Rattle.ioa_compose.specs.JointStep.{IsJointState, IsJointStep, TakesStep}
use Rattle.ioa_compose.specs.Participants.{takes_part}
use Rattle.ioa_actions.specs.ComponentOrder.{same_component}
use Rattle.ioa_compose.specs.Start.{start}
use Rattle.ioa_compose.specs.Steps.{IsStep}
use Rattle.ioa_compose.specs.declared.configuration.Conf.{Conf}
use Rattle.ioa_compose.specs.declared.configuration.Conf.TheVariants.{Node, Queue}
use Rattle.ioa_compose.proofs.Components.{name_found}
use Rattle.ioa_actions.proofs.SameComponents.{Decides-same_component, same_component-itself}
use Rattle.ioa_compose.proofs.Compositions.{joint_state_after}
use Rattle.ioa_compose.proofs.Projections.{replays}
use Rattle.ioa_compose.proofs.Starts.{start_state}
use Rattle.ioa_run_laws.specs.Shaped.{IsShapedNode, IsMessageTo, IsShapedQueue, IsShapedConf, AreShaped}
use Rattle.ioa_sorts.proofs.Lookups.{found_has, keys_all}
use Rattle.ioa_run_laws.proofs.Messages.{message_fits, queue_shaped}
use Rattle.ioa_run_laws.proofs.NodeSteps.{step_shaped}
use Rattle.ioa_run_laws.proofs.Starts.{start_shaped}

-- names that differ do so whichever comes first
turned : (k l : Component) → same_component k l ≡ false → same_component l k ≡ false
turned k l h = by_test (same_component l k) refl
  where
    by_test : (b : Bool) → same_component l k ≡ b → same_component l k ≡ false
    by_test true e =
        let same : l ≡ k = (Decides-same_component l k).0 e in
        let other : same_component k l ≡ true = (Decides-same_component k l).1 (sym same) in
        absurd (cc)
    by_test false e = e

-- of configurations with different names, what holds of each that is found by its name holds of all
all_found : (P : Conf → Type 0) (cs : List Conf) → IsDistinct same_component (component_names cs) → ((c : Conf) → find_conf (component_of c) cs ≡ Some c → P c) → AllByRecursion P cs
unfolding IsDistinct
all_found P [] d f = tt
all_found P (c ∷ cs) d f = (f c (rw (same_component-itself (component_of c)) refl), all_found P cs d.1 (λ e found. f e (later e found)))
  where
    later : (e : Conf) → find_conf (component_of e) cs ≡ Some e → find_conf (component_of e) (c ∷ cs) ≡ Some e
    later e found =
        let apart : same_component (component_of c) (component_of e) ≡ false =
        found_has (λ b. same_component (component_of c) (component_of b) ≡ false) (λ b. same_component (component_of e) (component_of b)) cs e (keys_all (λ k. same_component (component_of c) k ≡ false) component_of cs d.0) found in
        rw (turned (component_of c) (component_of e) apart) found

-- a node has one number
one_number : (i j : ℤ) → component.Node i ≡ component.Node j → i ≡ j
one_number i j same = cc

-- an entry is a step of its node, from a configuration with its declared shapes
pub record IsOwnStep (s : SystemParts) (en : PlainEntry) : Type 0 where
  pub old : NodeState
  pub new : NodeState
  pub shaped : IsShapedNode s old
  pub number : old.program.node ≡ node_of en.action
  pub step : IsNodeStep en old new

module _ (x : SourceText) (s : SystemParts) (h : IsSystemOf x s) where
  module _ (entry : PlainEntry) (cs next : List Conf) (state : IsJointState cs) (g : AreShaped s cs) (step : IsJointStep IsStep entry cs next) where
    old_shaped : (k : Component) (c : Conf) → find_conf k cs ≡ Some c → IsShapedConf s c
    old_shaped k c found = found_has (IsShapedConf s) (λ b. same_component k (component_of b)) cs c g found

    -- the step of the entry's node
    own_step : IsOwnStep s entry
    own_step = by_step (step.participants own ((Decides-int_eq (node_of entry.action) (node_of entry.action)).1 refl))
      where
        own : Component
        own = component.Node (node_of entry.action)

        by_node : (o n : Conf) → component_of o ≡ own → IsShapedConf s o → IsStep entry o n → IsOwnStep s entry
        by_node (Node o) (Node n) name shaped taken = record { old = o; new = n; shaped = shaped; number = one_number o.program.node (node_of entry.action) name; step = taken }
        by_node (Node o) (Queue r) name shaped taken = absurd taken
        by_node (Queue q) n name shaped taken = absurd (subst (λ (k : Component). IsShapedQueue s k q.items) name shaped)

        by_step : TakesStep IsStep entry own cs next → IsOwnStep s entry
        by_step t = by_node t.old t.new (name_found own cs t.old t.before) (old_shaped own t.old t.before) t.step_of

    -- a message that is sent
    message_sent : (m : Data) (i j : ℤ) → entry.action ≡ Send m i j → (c : declaration.Channel) → Contains s.channels c → c.from ≡ i → c.to ≡ j → IsMessageTo s j m
    message_sent m i j e c present from to =
        let sent : IsOwnStep s (record entry { action = Send m i j }) = subst (λ (a : Action). IsOwnStep s (record entry { action = a })) e own_step in
        message_fits x s h m i j entry.chosen c present from to sent.old sent.new sent.shaped sent.number sent.step

    -- a step of any component
    conf_shaped : (c d : Conf) → takes_part (component_of c) entry.action ≡ true → IsShapedConf s c → IsStep entry c d → IsShapedConf s d
    conf_shaped (Node c) (Node d) part shaped taken = step_shaped x s entry c d h shaped taken
    conf_shaped (Node c) (Queue r) part shaped taken = absurd taken
    conf_shaped (Queue q) (Node d) part shaped taken = absurd taken
    conf_shaped (Queue q) (Queue r) part shaped taken = queue_shaped s entry.action q r part message_sent shaped taken

    -- a joint step
    pub joint_shaped : AreShaped s next
    joint_shaped = all_found (IsShapedConf s) next (joint_state_after entry cs next state step).once (λ d found. at d found (takes_part (component_of d) entry.action) refl)
      where
        of_some : (c d : Conf) → Some c ≡ Some d → c ≡ d
        of_some c d e = cc

        own : (d : Conf) → takes_part (component_of d) entry.action ≡ true → find_conf (component_of d) next ≡ Some d → TakesStep IsStep entry (component_of d) cs next → IsShapedConf s d
        own d part found t =
            let same : t.new ≡ d = of_some t.new d (sym t.after ∙ found) in
            let name : component_of t.old ≡ component_of d = name_found (component_of d) cs t.old t.before in
            subst (λ (c : Conf). IsShapedConf s c) same
            (conf_shaped t.old t.new (subst (λ (k : Component). takes_part k entry.action ≡ true) (sym name) part) (old_shaped (component_of d) t.old t.before) t.step_of)

        at : (d : Conf) → find_conf (component_of d) next ≡ Some d → (b : Bool) → takes_part (component_of d) entry.action ≡ b → IsShapedConf s d
        at d found true part = own d part found (step.participants (component_of d) part)
        at d found false apart = old_shaped (component_of d) d (sym (step.others (component_of d) apart) ∙ found)

  -- an execution
  pub execution_shaped : (entries : List PlainEntry) (cs next : List Conf) → IsJointState cs → AreShaped s cs → IsExecution (IsJointStep IsStep) cs entries next → AreShaped s next
  execution_shaped [] cs next state g e = subst (λ (ds : List Conf). AreShaped s ds) e g
  execution_shaped (entry ∷ more) cs next state g e =
      execution_shaped more e.0 next (joint_state_after entry cs e.0 state e.1) (joint_shaped entry cs e.0 state g e.1) e.2

  execution_steps : (entries : List PlainEntry) (cs next : List Conf) → IsJointState cs → AreShaped s cs → IsExecution (IsJointStep IsStep) cs entries next → AllByRecursion (IsOwnStep s) entries
  execution_steps [] cs next state g e = tt
  execution_steps (entry ∷ more) cs next state g e = (
    own_step entry cs e.0 state g e.1,
    execution_steps more e.0 next (joint_state_after entry cs e.0 state e.1) (joint_shaped entry cs e.0 state g e.1) e.2,
  )

-- a replay from the start
pub replay_shaped : (x : SourceText) (s : SystemParts) (entries : List PlainEntry) (cs : List Conf) → IsSystemOf x s → replay entries (start s) ≡ Some cs → AreShaped s cs
replay_shaped x s entries cs h e =
    let state = start_state s (declared_once x s h) in
    execution_shaped x s h entries (start s) cs state (start_shaped x s h) (replays entries (start s) cs state e)

-- and an execution from it
pub run_shaped : (x : SourceText) (s : SystemParts) (entries : List PlainEntry) (cs : List Conf) → IsSystemOf x s → IsExecution (IsJointStep IsStep) (start s) entries cs → AreShaped s cs
run_shaped x s entries cs h e = execution_shaped x s h entries (start s) cs (start_state s (declared_once x s h)) (start_shaped x s h) e

-- its entries
pub run_steps : (x : SourceText) (s : SystemParts) (entries : List PlainEntry) (cs : List Conf) → IsSystemOf x s → IsExecution (IsJointStep IsStep) (start s) entries cs → AllByRecursion (IsOwnStep s) entries
run_steps x s entries cs h e = execution_steps x s h entries (start s) cs (start_state s (declared_once x s h)) (start_shaped x s h) e
