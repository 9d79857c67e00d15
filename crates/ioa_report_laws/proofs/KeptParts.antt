-- What an execution keeps of each component: a node its program, a queue its component and its kind, and a script holds
-- the last part of what it held at the start.
use Rattle.std.proofs.Common.{◌≡◌, ℤ, Bool, true, false, if◌then◌else◌, List, [], ◌∷◌, ◌++◌, Some, map, refl, sym, ap, subst, ◌∙◌}
use Rattle.std.specs.List.{AllByRecursion, Contains, IsDistinct}
use Rattle.ioa_actions.specs.declared.component.Component.{Component}
use Rattle.ioa_actions.specs.declared.component.Component.TheVariants as component
use Rattle.ioa_actions.specs.declared.action.Action.{Action}
use Rattle.ioa_actions.specs.declared.action.Action.TheVariants as action
use Rattle.ioa_actions.specs.ComponentOrder.{same_component}
use Rattle.ioa_actions.proofs.SameComponents.{Decides-same_component, same_component-itself}
use Rattle.ioa_system.specs.Declarations.{IsWellDeclared}
use Rattle.ioa_system.specs.Systems.{SystemParts}
use Rattle.ioa_sorts.proofs.Lookups.{contained_found}
use Rattle.ioa_transitions.specs.Entries.{PlainEntry, actions_of}
use Rattle.ioa_channels.specs.QueueSteps.{IsQueueStep}
use Rattle.ioa_channels.specs.Queues.{QueueState}
use Rattle.ioa_channels.specs.declared.queue.Item.{Item}
use Rattle.ioa_channels.specs.declared.queue.Item.TheVariants.{Message, Stimulus}
use Rattle.ioa_compose.specs.Automata.{IsExecution}
use Rattle.ioa_compose.specs.Composition.{component_names, component_of, find_conf}
use Rattle.ioa_compose.specs.JointStep.{IsJointState, IsJointStep}
use Rattle.ioa_compose.specs.Scripts.{TakesInOrder, stimuli_taken}
use Rattle.ioa_compose.specs.Start.{start}
use Rattle.ioa_compose.specs.Steps.{IsStep}
use Rattle.ioa_compose.specs.declared.configuration.Conf.{Conf}
use Rattle.ioa_compose.specs.declared.configuration.Conf.TheVariants.{Node, Queue}
use Rattle.ioa_compose.proofs.Components.{name_found}
use Rattle.ioa_compose.proofs.Compositions.{joint_state_after}
use Rattle.ioa_compose.proofs.Deliveries.{takes_in_order}
use Rattle.ioa_compose.proofs.Projections.{projects}
use Rattle.ioa_compose.proofs.Starts.{start_state}
use Rattle.ioa_run_laws.proofs.Starts.{all_contained}

-- what steps of a component keep
abbrev pub IsKept : Conf → Conf → Type 0
IsKept (Node c) (Node d) = d.program ≡ c.program
IsKept (Node c) (Queue r) = ⊥
IsKept (Queue q) (Node d) = ⊥
IsKept (Queue q) (Queue r) = (r.component ≡ q.component) × (r.kind ≡ q.kind)

kept_itself : (c : Conf) → IsKept c c
kept_itself (Node c) = refl
kept_itself (Queue q) = (refl, refl)

kept_further : (c d e : Conf) → IsKept c d → IsKept d e → IsKept c e
kept_further (Node c) (Node d) (Node e) h g = g ∙ h
kept_further (Queue q) (Queue r) (Queue t) h g = (g.0 ∙ h.0, g.1 ∙ h.1)
kept_further (Node c) (Node d) (Queue t) h g = absurd g
kept_further (Node c) (Queue r) e h g = absurd h
kept_further (Queue q) (Node d) e h g = absurd h
kept_further (Queue q) (Queue r) (Node e) h g = absurd g

with_items : (q r : QueueState) (items : List Item) → r ≡ record q { items = items } → (r.component ≡ q.component) × (r.kind ≡ q.kind)
with_items q r items h = (ap (λ (p : QueueState). p.component) h, ap (λ (p : QueueState). p.kind) h)

queue_kept : (a : Action) (q r : QueueState) → IsQueueStep a q r → (r.component ≡ q.component) × (r.kind ≡ q.kind)
queue_kept (action.Send m i j) q r h = with_items q r (q.items ++ Message m ∷ []) h
queue_kept (action.Receive m i j) q r h = with_items q r r.items h.1
queue_kept (action.Local a) q r h = absurd h
queue_kept (action.Stimulus a) q r h = with_items q r r.items h.1

step_kept : (e : PlainEntry) (c d : Conf) → IsStep e c d → IsKept c d
step_kept e (Node c) (Node d) h = h.program
step_kept e (Node c) (Queue r) h = absurd h
step_kept e (Queue q) (Node d) h = absurd h
step_kept e (Queue q) (Queue r) h = queue_kept e.action q r h

steps_kept : (entries : List PlainEntry) (c d : Conf) → IsExecution IsStep c entries d → IsKept c d
steps_kept [] c d h = subst (IsKept c) h (kept_itself c)
steps_kept (e ∷ entries) c d h = kept_further c h.0 d (step_kept e c h.0 h.1) (steps_kept entries h.0 d h.2)

-- a script holds the last part of what it held
abbrev pub HoldsItems : Component → List Item → List Item → Type 0
HoldsItems (component.Node i) xs ys = Unit {0}
HoldsItems (component.Channel i j) xs ys = Unit {0}
HoldsItems (component.Script i) xs ys = (front : List Item) × (xs ≡ front ++ ys)

abbrev pub HoldsRest : Component → Conf → Conf → Type 0
HoldsRest k (Node c) d = Unit {0}
HoldsRest k (Queue q) (Node d) = Unit {0}
HoldsRest k (Queue q) (Queue r) = HoldsItems k q.items r.items

-- a configuration of a component that a system has at its start
pub record IsOfStart (s : SystemParts) (c : Conf) : Type 0 where
  pub first : Conf
  pub found : find_conf (component_of c) (start s) ≡ Some first
  pub kept : IsKept first c
  pub rest : HoldsRest (component_of c) first c

-- names that differ do so whichever comes first
turned : (k l : Component) → same_component k l ≡ false → same_component l k ≡ false
turned k l h = by_test (same_component l k) refl
  where
    by_test : (b : Bool) → same_component l k ≡ b → same_component l k ≡ false
    by_test true e =
        let other : same_component k l ≡ true = (Decides-same_component k l).1 (sym ((Decides-same_component l k).0 e)) in
        absurd (cc)
    by_test false e = e

abbrev found_first : Component → Component → Bool
found_first k l = same_component l k

all_turned : (k : Component) (ks : List Component) → AllByRecursion (λ l. same_component k l ≡ false) ks → AllByRecursion (λ l. found_first k l ≡ false) ks
all_turned k [] h = tt
all_turned k (l ∷ ks) h = (turned k l h.0, all_turned k ks h.1)

differ_turned : (ks : List Component) → IsDistinct same_component ks → IsDistinct found_first ks
unfolding IsDistinct
differ_turned [] d = tt
differ_turned (k ∷ ks) d = (all_turned k ks d.0, differ_turned ks d.1)

-- an execution keeps the names of the components, and leads to a state
names_kept : (entries : List PlainEntry) (cs next : List Conf) → IsExecution (IsJointStep IsStep) cs entries next → component_names next ≡ component_names cs
names_kept [] cs next e = ap component_names (sym e)
names_kept (entry ∷ more) cs next e = names_kept more e.0 next e.2 ∙ e.1.same_names

state_kept : (entries : List PlainEntry) (cs next : List Conf) → IsJointState cs → IsExecution (IsJointStep IsStep) cs entries next → IsJointState next
state_kept [] cs next state e = subst IsJointState e state
state_kept (entry ∷ more) cs next state e = state_kept more e.0 next (joint_state_after entry cs e.0 state e.1) e.2

-- what bears a name is found in each list of these names
there : (k : Component) (cs ds : List Conf) → component_names cs ≡ component_names ds → (c : Conf) → find_conf k cs ≡ Some c → (d : Conf) × (find_conf k ds ≡ Some d)
there k [] ds same c h = absurd (cc)
there k (b ∷ cs) [] same c h = absurd (cc)
there k (b ∷ cs) (d ∷ ds) same c h =
    let name : component_of b ≡ component_of d = cc in
    let behind : component_names cs ≡ component_names ds = cc in
    by_test (same_component k (component_of d)) refl (subst (λ (l : Component). (if same_component k l then Some b else find_conf k cs) ≡ Some c) name h) (λ g. there k cs ds behind c g)
  where
    by_test : (t : Bool) → same_component k (component_of d) ≡ t → (if t then Some b else find_conf k cs) ≡ Some c → (find_conf k cs ≡ Some c → (x : Conf) × (find_conf k ds ≡ Some x)) → (x : Conf) × (find_conf k (d ∷ ds) ≡ Some x)
    by_test true e g further = (d, rw e refl)
    by_test false e g further = let later = further g in (later.0, rw e later.1)

pub one_found : (o : List Conf) (k : Component) (c d : Conf) → find_conf k o ≡ Some c → find_conf k o ≡ Some d → c ≡ d
one_found o k c d h g = cc

-- each configuration that an execution reaches
module _ (s : SystemParts) (well : IsWellDeclared s) (entries : List PlainEntry) (cs : List Conf) (run : IsExecution (IsJointStep IsStep) (start s) entries cs) where
  of_start : (c : Conf) → find_conf (component_of c) cs ≡ Some c → IsOfStart s c
  of_start c found =
      let at_start = there (component_of c) cs (start s) (names_kept entries (start s) cs run) c found in
      let at_end = projects IsStep entries (start s) cs run (component_of c) at_start.0 at_start.1 in
      let same : at_end.0 ≡ c = one_found cs (component_of c) at_end.0 c at_end.1 found in
      record {
        first = at_start.0;
        found = at_start.1;
        kept = subst (IsKept at_start.0) same (steps_kept _ at_start.0 at_end.0 at_end.2);
        rest = rest_of (component_of c) at_start.0 c at_start.1 found;
      }
    where
      of_queue : (q r : QueueState) → Queue q ≡ Queue r → q ≡ r
      of_queue q r h = cc

      rest_of : (k : Component) (b d : Conf) → find_conf k (start s) ≡ Some b → find_conf k cs ≡ Some d → HoldsRest k b d
      rest_of k (Node b) d h g = tt
      rest_of k (Queue q) (Node d) h g = tt
      rest_of (component.Node i) (Queue q) (Queue r) h g = tt
      rest_of (component.Channel i j) (Queue q) (Queue r) h g = tt
      rest_of (component.Script k) (Queue q) (Queue r) h g =
          let taken = takes_in_order entries (start s) cs run k q h in
          let same : taken.0 ≡ r = of_queue taken.0 r (one_found cs (component.Script k) (Queue taken.0) (Queue r) taken.1 g) in
          (map Stimulus (stimuli_taken k (actions_of entries)), subst (λ (t : QueueState). q.items ≡ map Stimulus (stimuli_taken k (actions_of entries)) ++ t.items) same taken.2)

  pub all_of_start : AllByRecursion (IsOfStart s) cs
  all_of_start =
      let state = state_kept entries (start s) cs (start_state s well) run in
      all_contained (IsOfStart s) cs (λ c inside. of_start c (contained_found found_first same_component-itself component_of cs (differ_turned (component_names cs) state.once) c inside))

  pub names_of_start : component_names cs ≡ component_names (start s)
  names_of_start = names_kept entries (start s) cs run
