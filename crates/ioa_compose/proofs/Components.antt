-- Names of components, and the configurations that bear them.
use Rattle.std.proofs.Common.{◌≡◌, Bool, true, false, ◌||◌, List, [], ◌∷◌, Some, Result, Ok, Err, refl, ap, sym, ◌∙◌, map, if◌then◌else◌}
use Rattle.std.specs.Prelude.{◌&&◌}
use Rattle.std.specs.Ordering.{int_eq}
use Rattle.std.specs.List.{list_any}
use Rattle.ioa_values.specs.Outcome.{and_then}
use Rattle.ioa_actions.specs.declared.component.Component.{Component}
use Rattle.ioa_actions.specs.declared.component.Component.TheVariants.{Node, Channel, Script}
use Rattle.ioa_actions.specs.declared.action.Action.{Action}
use Rattle.ioa_actions.specs.declared.action.Action.TheVariants.{Send, Receive, Local, Stimulus}
use Rattle.ioa_compose.specs.declared.configuration.Conf.{Conf}
use Rattle.ioa_compose.specs.declared.configuration.Conf.TheVariants as conf
use Rattle.ioa_actions.specs.declared.fault.StepFault.{StepFault}
use Rattle.ioa_system.specs.Parts.{Parts}
use Rattle.ioa_transitions.specs.Entries.{PlainEntry}
use Rattle.ioa_transitions.specs.NodeState.{NodeState}
use Rattle.ioa_transitions.specs.NodeAnswers.{redo_answer}
use Rattle.ioa_channels.specs.Queues.{QueueState, queue_answer}
use Rattle.ioa_actions.proofs.SameComponents.{Decides-same_component, same_component-itself}
use Rattle.ioa_transitions.proofs.NodeSteps.{program-redo_answer}
use Rattle.ioa_channels.proofs.Names.{component-queue_answer}
use Rattle.ioa_compose.specs.Participants.{participants_of, takes_part}
use Rattle.ioa_actions.specs.ComponentOrder.{same_component}
use Rattle.ioa_compose.specs.Composition.{component_of, component_names, conf_answer, find_conf, put_conf, put_confs}

or_false : (b : Bool) → (b || false) ≡ b
or_false true = refl
or_false false = refl

-- a component takes part in an action exactly if it is one of the participants
pub takes_part-is : (k : Component) (a : Action) → takes_part k a ≡ list_any (same_component k) (participants_of a)
takes_part-is (Node k) (Send m i j) = sym (or_false (int_eq k i))
takes_part-is (Node k) (Receive m i j) = sym (or_false (int_eq k j))
takes_part-is (Node k) (Local a) = sym (or_false (int_eq k a.node))
takes_part-is (Node k) (Stimulus a) = sym (or_false (int_eq k a.node))
takes_part-is (Channel i j) (Send m from to) = sym (or_false (int_eq i from && int_eq j to))
takes_part-is (Channel i j) (Receive m from to) = sym (or_false (int_eq i from && int_eq j to))
takes_part-is (Channel i j) (Local a) = refl
takes_part-is (Channel i j) (Stimulus a) = refl
takes_part-is (Script k) (Send m from to) = refl
takes_part-is (Script k) (Receive m from to) = refl
takes_part-is (Script k) (Local a) = refl
takes_part-is (Script k) (Stimulus a) = sym (or_false (int_eq k a.node))

-- a component's step keeps its name
pub component_of-conf_answer : (entry : PlainEntry) (c d : Conf) → conf_answer entry c ≡ Ok d → component_of d ≡ component_of c
unfolding conf_answer
component_of-conf_answer entry (conf.Node c) d h = kept (redo_answer c entry) refl h
  where
    kept : (r : Result NodeState StepFault) → redo_answer c entry ≡ r → and_then r (λ s. Ok (conf.Node s)) ≡ Ok d → component_of d ≡ Node c.program.node
    kept (Ok s) e h = let same_state : conf.Node s ≡ d = cc in rw (← same_state) (ap (λ (p : Parts). Node p.node) (program-redo_answer c entry s e))
    kept (Err f) e h = absurd (cc)
component_of-conf_answer entry (conf.Queue q) d h = kept (queue_answer q entry.action) refl h
  where
    kept : (r : Result QueueState StepFault) → queue_answer q entry.action ≡ r → and_then r (λ s. Ok (conf.Queue s)) ≡ Ok d → component_of d ≡ q.component
    kept (Ok s) e h = let same_state : conf.Queue s ≡ d = cc in rw (← same_state) (component-queue_answer q entry.action s e)
    kept (Err f) e h = absurd (cc)

-- the configuration that is found has the name
pub name_found : (k : Component) (cs : List Conf) (c : Conf) → find_conf k cs ≡ Some c → component_of c ≡ k
name_found k [] c h = absurd (cc)
name_found k (b ∷ cs) c h = by_test (same_component k (component_of b)) refl h (name_found k cs c)
  where
    by_test : (t : Bool) → same_component k (component_of b) ≡ t → (if t then Some b else find_conf k cs) ≡ Some c → (find_conf k cs ≡ Some c → component_of c ≡ k) → component_of c ≡ k
    by_test true e h further = let this : b ≡ c = cc in rw (← this) (sym ((Decides-same_component k (component_of b)).0 e))
    by_test false e h further = further h

-- a configuration that replaces one of its name is found by that name
pub find_conf-put_conf_same : (k : Component) (d : Conf) (cs : List Conf) (c : Conf) → component_of d ≡ k → find_conf k cs ≡ Some c → find_conf k (put_conf d cs) ≡ Some d
find_conf-put_conf_same k d [] c name h = absurd (cc)
find_conf-put_conf_same k d (b ∷ cs) c name h = by_test (same_component k (component_of b)) refl h (find_conf-put_conf_same k d cs c name)
  where
    by_test : (t : Bool) → same_component k (component_of b) ≡ t → (if t then Some b else find_conf k cs) ≡ Some c →
        (find_conf k cs ≡ Some c → find_conf k (put_conf d cs) ≡ Some d) →
        find_conf k (if same_component (component_of d) (component_of b) then d ∷ cs else b ∷ put_conf d cs) ≡ Some d
    by_test true e h further = rw (name, e, name, same_component-itself k) refl
    by_test false e h further = rw (name, e, e) (further h)

-- another's configuration is found as before
pub find_conf-put_conf_other : (k : Component) (d : Conf) (cs : List Conf) → same_component k (component_of d) ≡ false → find_conf k (put_conf d cs) ≡ find_conf k cs
find_conf-put_conf_other k d [] h = refl
find_conf-put_conf_other k d (b ∷ cs) h = by_test (same_component (component_of d) (component_of b)) refl (find_conf-put_conf_other k d cs h)
  where
    by_test : (t : Bool) → same_component (component_of d) (component_of b) ≡ t → find_conf k (put_conf d cs) ≡ find_conf k cs → find_conf k (if same_component (component_of d) (component_of b) then d ∷ cs else b ∷ put_conf d cs) ≡ find_conf k (b ∷ cs)
    by_test true e further =
        let one : component_of d ≡ component_of b = (Decides-same_component (component_of d) (component_of b)).0 e in
        let not_b : same_component k (component_of b) ≡ false = rw (← one) h in
        rw (e, h, not_b) refl
    by_test false e further = rw e (ap (λ o. if same_component k (component_of b) then Some b else o) further)

-- if neither of two tests is true, the first is false
first_false : (s t : Bool) → (s || t) ≡ false → s ≡ false
first_false true t h = absurd (cc)
first_false false t h = refl

-- and so is the second
second_false : (s t : Bool) → (s || t) ≡ false → t ≡ false
second_false true t h = absurd (cc)
second_false false t h = h

-- a configuration that replaces one of another name is not found
pub find_conf-put_confs_other : (k : Component) (ds cs : List Conf) → list_any (same_component k) (map component_of ds) ≡ false → find_conf k (put_confs ds cs) ≡ find_conf k cs
find_conf-put_confs_other k [] cs h = refl
find_conf-put_confs_other k (d ∷ ds) cs h =
    find_conf-put_confs_other k ds (put_conf d cs) (second_false (same_component k (component_of d)) (list_any (same_component k) (map component_of ds)) h)
    ∙ find_conf-put_conf_other k d cs (first_false (same_component k (component_of d)) (list_any (same_component k) (map component_of ds)) h)

-- a configuration that is put keeps the names
pub component_names-put_conf : (d : Conf) (cs : List Conf) → component_names (put_conf d cs) ≡ component_names cs
component_names-put_conf d [] = refl
component_names-put_conf d (b ∷ cs) = by_test (same_component (component_of d) (component_of b)) refl (component_names-put_conf d cs)
  where
    by_test : (t : Bool) → same_component (component_of d) (component_of b) ≡ t → component_names (put_conf d cs) ≡ component_names cs →
        component_names (if same_component (component_of d) (component_of b) then d ∷ cs else b ∷ put_conf d cs) ≡ component_of b ∷ component_names cs
    by_test true e further = rw e (ap (λ k. k ∷ component_names cs) ((Decides-same_component (component_of d) (component_of b)).0 e))
    by_test false e further = rw e (ap (λ ks. component_of b ∷ ks) further)

-- configurations that are put one after another keep the names
pub component_names-put_confs : (ds cs : List Conf) → component_names (put_confs ds cs) ≡ component_names cs
component_names-put_confs [] cs = refl
component_names-put_confs (d ∷ ds) cs = component_names-put_confs ds (put_conf d cs) ∙ component_names-put_conf d cs
