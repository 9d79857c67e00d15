-- Moves of one component and of two.
use Rattle.std.proofs.Common.{◌≡◌, ◌∙◌, ℕ, List, [], ◌∷◌, Option, Some, None, Result, Ok, Err, refl, ap}
use Rattle.std.specs.Prelude.{IfErr}
use Rattle.std.specs.List.{position_from}
use Rattle.ioa_values.specs.Outcome.{Answers, and_then}
use Rattle.ioa_actions.specs.ComponentOrder.{same_component}
use Rattle.ioa_actions.specs.declared.component.Component.{Component}
use Rattle.ioa_actions.specs.declared.fault.StepFault.{StepFault}
use Rattle.ioa_actions.specs.declared.fault.StepFault.TheVariants.{Memory, NoChannel}
use Rattle.ioa_transitions.specs.Entries.{PlainEntry}
use Rattle.ioa_compose.specs.Composition.{changes_of, component_names, component_of, conf_answer, find_conf, joint_answer, put_conf, put_confs}
use Rattle.ioa_compose.specs.declared.configuration.Conf.{Conf}
use Rattle.ioa_compose.proofs.Components.{component_of-conf_answer, name_found}
use Rattle.ioa_compose.proofs.JointSteps.{component_names-joint_answer}
use Rattle.ioa_course.specs.Courses.{moved}

-- a step keeps the names, and so does a fault
pub names_kept : {X : Type 0} (result : Result X StepFault) (e : PlainEntry) (cs next : List Conf) → Answers Memory (λ _. next) result (joint_answer e cs) → IfErr result (λ _. next ≡ cs) → component_names next ≡ component_names cs
names_kept (Ok x) e cs next answer kept = component_names-joint_answer e cs next answer
names_kept (Err f) e cs next answer kept = ap component_names kept

-- an own step keeps the slot
pub next_place : (e : PlainEntry) (k : Component) (m : ℕ) (ks : List Component) (cs held : List Conf) (c d : Conf) → ks ≡ component_names cs → Some m ≡ position_from (λ j. same_component k j) 0 ks → find_conf k cs ≡ Some c → conf_answer e c ≡ Ok d →
    component_names held ≡ component_names cs → Some m ≡ position_from (λ j. same_component (component_of d) j) 0 (component_names held)
next_place e k m ks cs held c d names place found step same_names =
    let name : component_of d ≡ k = component_of-conf_answer e c d step ∙ name_found k cs c found in
    rw (name, same_names, ← names) place

-- a node alone: it is not there, and its step
pub one_missing : (node : Component) (e : PlainEntry) (cs : List Conf) → find_conf node cs ≡ None → moved (node ∷ []) e cs ≡ Err NoChannel
one_missing node e cs none = rw none refl

pub one_moved : (node : Component) (e : PlainEntry) (cs : List Conf) (c d : Conf) → find_conf node cs ≡ Some c → conf_answer e c ≡ Ok d → moved (node ∷ []) e cs ≡ Ok (put_conf d cs)
one_moved node e cs c d found step = rw (found, step) refl

-- a queue and a node: the one is not there, or the other, and the steps of both
pub queue_missing : (queue node : Component) (e : PlainEntry) (cs : List Conf) → find_conf queue cs ≡ None → moved (queue ∷ node ∷ []) e cs ≡ Err NoChannel
queue_missing queue node e cs none = rw none refl

pub node_missing : (queue node : Component) (e : PlainEntry) (cs : List Conf) → find_conf node cs ≡ None → moved (queue ∷ node ∷ []) e cs ≡ Err NoChannel
node_missing queue node e cs none = by_queue (find_conf queue cs) (find_conf node cs) none
  where
    by_queue : (q n : Option Conf) → n ≡ None → and_then (changes_of e (q ∷ n ∷ [])) (λ ds. Ok (put_confs ds cs)) ≡ Err NoChannel
    by_queue None n h = refl
    by_queue (Some c) n h = rw h refl

pub both_moved : (queue node : Component) (e : PlainEntry) (cs : List Conf) (c d other next : Conf) → find_conf queue cs ≡ Some c → conf_answer e c ≡ Ok d → find_conf node cs ≡ Some other → conf_answer e other ≡ Ok next →
    moved (queue ∷ node ∷ []) e cs ≡ Ok (put_conf next (put_conf d cs))
both_moved queue node e cs c d other next found step found_node step_node = rw (found, found_node, step, step_node) refl
