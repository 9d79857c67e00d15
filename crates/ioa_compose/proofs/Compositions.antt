-- Steps of components and of their composition, by relation, and what the runtime returns for them.
use Rattle.std.proofs.Common.{◌≡◌, Bool, true, false, List, [], ◌∷◌, Some, None, Result, Ok, Err, refl, sym, ap, subst, ◌∙◌}
use Rattle.std.specs.List.{AllByRecursion, IsDistinct}
use Rattle.ioa_values.specs.Outcome.{and_then}
use Rattle.ioa_actions.specs.declared.component.Component.{Component}
use Rattle.ioa_transitions.specs.Entries.{PlainEntry}
use Rattle.ioa_compose.specs.declared.configuration.Conf.{Conf}
use Rattle.ioa_compose.specs.declared.configuration.Conf.TheVariants.{Node, Queue}
use Rattle.ioa_actions.specs.declared.fault.StepFault.{StepFault}
use Rattle.ioa_transitions.specs.NodeState.{NodeState}
use Rattle.ioa_transitions.specs.NodeAnswers.{redo_answer}
use Rattle.ioa_transitions.specs.NodeStep.{IsState, IsNodeStep}
use Rattle.ioa_channels.specs.Queues.{QueueState, queue_answer}
use Rattle.ioa_compose.specs.Participants.{takes_part}
use Rattle.ioa_actions.specs.ComponentOrder.{same_component}
use Rattle.ioa_compose.specs.Composition.{component_of, component_names, conf_answer, find_conf, joint_answer}
use Rattle.ioa_compose.specs.Steps.{IsStep, FitsStep}
use Rattle.ioa_compose.specs.JointStep.{IsJointState, HasStep, TakesStep, IsJointStep, HasAnswer, FitsJointStep}
use Rattle.ioa_actions.proofs.SameComponents.{Decides-same_component, same_component-itself}
use Rattle.ioa_channels.proofs.QueueSteps.{queue_answer-is, queue_answer-from}
use Rattle.ioa_compose.proofs.JointSteps.{joint_answer-is, joint_answer-exists}
use Rattle.ioa_transitions.proofs.NodeSteps.{is_node_step, node_answer_is, one_node_step, state_after}

-- a configuration of a node is a state of it
abbrev pub IsStateOf : Conf → Type 0
IsStateOf (Node c) = IsState c
IsStateOf (Queue q) = Unit {0}

-- each component of a state of the composition is in a state of its own
pub state_of : (cs : List Conf) → IsJointState cs → (k : Component) (c : Conf) → find_conf k cs ≡ Some c → IsStateOf c
state_of cs s k (Node c) h = s.nodes k c h
state_of cs s k (Queue q) h = tt

-- what the runtime returns for a component is its step, and what the step meets lies within 64 bits
pub is_step : (entry : PlainEntry) (c d : Conf) → IsStateOf c → conf_answer entry c ≡ Ok d → IsStep entry c d × FitsStep entry c
unfolding conf_answer
is_step entry (Node c) d state h = of_node (redo_answer c entry) refl d h
  where
    of_node : (r : Result NodeState StepFault) → redo_answer c entry ≡ r → (d : Conf) → and_then r (λ s. Ok (Node s)) ≡ Ok d → IsStep entry (Node c) d × FitsStep entry (Node c)
    of_node (Ok s) e (Node d) h =
        let same_state : s ≡ d = cc in
        let step = is_node_step c entry s state e in
        (subst (λ (x : NodeState). IsNodeStep entry c x) same_state step.0, step.1)
    of_node (Ok s) e (Queue r) h = absurd (cc)
    of_node (Err f) e d h = absurd (cc)
is_step entry (Queue q) d state h = of_queue (queue_answer q entry.action) refl d h
  where
    of_queue : (r : Result QueueState StepFault) → queue_answer q entry.action ≡ r → (d : Conf) → and_then r (λ s. Ok (Queue s)) ≡ Ok d → IsStep entry (Queue q) d × FitsStep entry (Queue q)
    of_queue (Ok s) e (Queue r) h =
        let same_state : s ≡ r = cc in
        (queue_answer-is q entry.action r (e ∙ ap Ok same_state), tt)
    of_queue (Ok s) e (Node d) h = absurd (cc)
    of_queue (Err f) e d h = absurd (cc)

-- and each step of a component is returned, if what it meets lies within 64 bits
pub conf_answer-from : (entry : PlainEntry) (c d : Conf) → IsStateOf c → IsStep entry c d → FitsStep entry c → conf_answer entry c ≡ Ok d
unfolding conf_answer
conf_answer-from entry (Node c) (Node d) state step fits = rw (node_answer_is c entry d state step fits) refl
conf_answer-from entry (Node c) (Queue r) state step fits = absurd step
conf_answer-from entry (Queue q) (Node d) state step fits = absurd step
conf_answer-from entry (Queue q) (Queue r) state step fits = rw (queue_answer-from q entry.action r step) refl

-- a component has one step by an entry
pub one_step : (entry : PlainEntry) (c d e : Conf) → IsStateOf c → IsStep entry c d → IsStep entry c e → d ≡ e
one_step entry (Node c) (Node d) (Node e) state p q = ap Node (one_node_step entry c d e state p q)
one_step entry (Node c) (Node d) (Queue s) state p q = absurd q
one_step entry (Node c) (Queue r) e state p q = absurd p
one_step entry (Queue c) (Node d) e state p q = absurd p
one_step entry (Queue c) (Queue r) (Node e) state p q = absurd q
one_step entry (Queue c) (Queue r) (Queue s) state p q =
    let both : Ok r ≡ Ok s = sym (queue_answer-from c entry.action r p) ∙ queue_answer-from c entry.action s q in
    let same_state : r ≡ s = cc in ap Queue same_state

-- a joint step by other steps of its participants
pub joint_step-map : (S T : PlainEntry → Conf → Conf → Type 0) (entry : PlainEntry) (cs next : List Conf) →
    ((k : Component) (c d : Conf) → takes_part k entry.action ≡ true → find_conf k cs ≡ Some c → S entry c d → T entry c d) → IsJointStep S entry cs next → IsJointStep T entry cs next
joint_step-map S T entry cs next f p = record {
  participants = λ k part. at k part (p.participants k part);
  others = p.others;
  same_names = p.same_names;
}
  where
    at : (k : Component) → takes_part k entry.action ≡ true → TakesStep S entry k cs next → TakesStep T entry k cs next
    at k part t = record { old = t.old; new = t.new; before = t.before; step_of = f k t.old t.new part t.before t.step_of; after = t.after }

-- what the runtime returns is a joint step
pub is_joint_step : (entry : PlainEntry) (cs next : List Conf) → IsJointState cs → joint_answer entry cs ≡ Ok next → IsJointStep IsStep entry cs next × FitsJointStep entry cs
is_joint_step entry cs next state h =
    let p : IsJointStep HasAnswer entry cs next = joint_answer-is entry cs next h in
    (joint_step-map HasAnswer IsStep entry cs next (λ k c d part found e. (is_step entry c d (state_of cs state k c found) e).0) p, λ k c part found. fits k c found (p.participants k part))
  where
    fits : (k : Component) (c : Conf) → find_conf k cs ≡ Some c → TakesStep HasAnswer entry k cs next → FitsStep entry c
    fits k c found t =
        let one : t.old ≡ c = of_some t.old c (sym t.before ∙ found) in
        subst (λ (x : Conf). FitsStep entry x) one (is_step entry t.old t.new (state_of cs state k t.old t.before) t.step_of).1
      where
        of_some : {A : Type 0} (x y : A) → Some x ≡ Some y → x ≡ y
        of_some x y h = cc

-- a name that differs from all others finds nothing
find_none : (k : Component) (cs : List Conf) → AllByRecursion (λ l. same_component k l ≡ false) (component_names cs) → find_conf k cs ≡ None
find_none k [] apart = refl
find_none k (c ∷ cs) apart = rw apart.0 (find_none k cs apart.1)

-- a name finds what bears it
find_first : (k : Component) (c : Conf) (cs : List Conf) → k ≡ component_of c → find_conf k (c ∷ cs) ≡ Some c
find_first k c cs e = rw (e, same_component-itself (component_of c)) refl

-- lists of one list of names, which differ, are equal if each name finds the same in both
pub same_lists : (cs ds : List Conf) → IsDistinct same_component (component_names cs) → component_names cs ≡ component_names ds → ((k : Component) → find_conf k cs ≡ find_conf k ds) → cs ≡ ds
unfolding IsDistinct
same_lists [] [] differ names found = refl
same_lists [] (d ∷ ds) differ names found = absurd (cc)
same_lists (c ∷ cs) [] differ names found = absurd (cc)
same_lists (c ∷ cs) (d ∷ ds) differ names found =
    let name : component_of c ≡ component_of d = cc in
    let behind : component_names cs ≡ component_names ds = cc in
    let both : Some c ≡ Some d = sym (find_first (component_of c) c cs refl) ∙ found (component_of c) ∙ find_first (component_of c) d ds name in
    let head : c ≡ d = of_some both in
    let further : cs ≡ ds = same_lists cs ds differ.1 behind (λ k. later name behind k (same_component k (component_of c)) refl) in
    cc
  where
    of_some : Some c ≡ Some d → c ≡ d
    of_some h = cc

    later : component_of c ≡ component_of d → component_names cs ≡ component_names ds → (k : Component) (t : Bool) → same_component k (component_of c) ≡ t → find_conf k cs ≡ find_conf k ds
    later name behind k true e =
        let one : k ≡ component_of c = (Decides-same_component k (component_of c)).0 e in
        let apart : AllByRecursion (λ l. same_component (component_of c) l ≡ false) (component_names cs) = differ.0 in
        let other : AllByRecursion (λ l. same_component (component_of c) l ≡ false) (component_names ds) = subst (λ (ks : List Component). AllByRecursion (λ l. same_component (component_of c) l ≡ false) ks) behind apart in
        rw one (find_none (component_of c) cs apart ∙ sym (find_none (component_of c) ds other))
    later name behind k false e =
        let at : find_conf k (c ∷ cs) ≡ find_conf k (d ∷ ds) = found k in
        let not_d : same_component k (component_of d) ≡ false = rw (← name) e in
        rw (e, not_d) at at

-- from a state there is one joint step by an entry
pub one_joint_step : (entry : PlainEntry) (cs next other : List Conf) → IsJointState cs → IsJointStep IsStep entry cs next → IsJointStep IsStep entry cs other → next ≡ other
one_joint_step entry cs next other state p q =
    same_lists next other (subst (λ (ks : List Component). IsDistinct same_component ks) (sym p.same_names) state.once) (p.same_names ∙ sym q.same_names) (λ k. at k (takes_part k entry.action) refl)
  where
    of_some : {A : Type 0} (x y : A) → Some x ≡ Some y → x ≡ y
    of_some x y h = cc

    own : (k : Component) → TakesStep IsStep entry k cs next → TakesStep IsStep entry k cs other → find_conf k next ≡ find_conf k other
    own k s t =
        let old : t.old ≡ s.old = of_some t.old s.old (sym t.before ∙ s.before) in
        let new : s.new ≡ t.new = one_step entry s.old s.new t.new (state_of cs state k s.old s.before) s.step_of (subst (λ (c : Conf). IsStep entry c t.new) old t.step_of) in
        s.after ∙ ap Some new ∙ sym t.after

    at : (k : Component) (t : Bool) → takes_part k entry.action ≡ t → find_conf k next ≡ find_conf k other
    at k true part = own k (p.participants k part) (q.participants k part)
    at k false apart = p.others k apart ∙ sym (q.others k apart)

-- from a state a joint step is returned if every number that it meets lies within 64 bits
pub joint_answer-from : (entry : PlainEntry) (cs next : List Conf) → IsJointState cs → IsJointStep IsStep entry cs next → FitsJointStep entry cs → joint_answer entry cs ≡ Ok next
joint_answer-from entry cs next state p fits =
    let answered : IsJointStep HasAnswer entry cs next = joint_step-map IsStep HasAnswer entry cs next (λ k c d part found step. conf_answer-from entry c d (state_of cs state k c found) step (fits k c part found)) p in
    let there = joint_answer-exists entry cs (λ k part. has (answered.participants k part)) in
    let same_next : there.0 ≡ next = one_joint_step entry cs there.0 next state (is_joint_step entry cs there.0 state there.1).0 p in
    there.1 ∙ ap Ok same_next
  where
    has : {k : Component} → TakesStep HasAnswer entry k cs next → HasStep HasAnswer entry k cs
    has t = record { old = t.old; new = t.new; before = t.before; step_of = t.step_of }

-- a joint step leads from a state to a state
pub joint_state_after : (entry : PlainEntry) (cs next : List Conf) → IsJointState cs → IsJointStep IsStep entry cs next → IsJointState next
joint_state_after entry cs next state p = record {
  once = subst (λ (ks : List Component). IsDistinct same_component ks) (sym p.same_names) state.once;
  nodes = λ k d found. at k d found (takes_part k entry.action) refl;
}
  where
    by_old : (k : Component) (c : Conf) (d : NodeState) → find_conf k cs ≡ Some c → IsStep entry c (Node d) → IsState d
    by_old k (Node c) d before step = state_after entry c d (state.nodes k c before) step
    by_old k (Queue q) d before step = absurd step

    own : (k : Component) (d : NodeState) → find_conf k next ≡ Some (Node d) → TakesStep IsStep entry k cs next → IsState d
    own k d found t =
        let new : t.new ≡ Node d = of_some t.new (Node d) (sym t.after ∙ found) in
        by_old k t.old d t.before (subst (λ (c : Conf). IsStep entry t.old c) new t.step_of)
      where
        of_some : (x y : Conf) → Some x ≡ Some y → x ≡ y
        of_some x y h = cc

    at : (k : Component) (d : NodeState) → find_conf k next ≡ Some (Node d) → (t : Bool) → takes_part k entry.action ≡ t → IsState d
    at k d found true part = own k d found (p.participants k part)
    at k d found false apart = state.nodes k d (sym (p.others k apart) ∙ found)
