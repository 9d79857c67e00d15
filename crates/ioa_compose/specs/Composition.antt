-- The composition of a system's components (Lynch 8.2). A configuration bears its component's name, and a list of
-- configurations is the map from names to them: of two with one name the first counts. A step is by an entry, which
-- tells all that is to be taken again; an action alone is what an entry is picked for.
use Rattle.std.specs.Prelude.{if◌then◌else◌, List, [], ◌∷◌, map, find}
use Rattle.std.specs.Prelude.{Option, Some, None, Result, Ok, Err, is_none}
use Rattle.std.specs.List.{list_any}
use Rattle.ioa_values.specs.Outcome.{and_then}
use Rattle.ioa_actions.specs.declared.component.Component.{Component}
use Rattle.ioa_actions.specs.declared.component.Component.TheVariants as component
use Rattle.ioa_actions.specs.declared.action.Action.{Action}
use Rattle.ioa_compose.specs.declared.configuration.Conf.{Conf}
use Rattle.ioa_compose.specs.declared.configuration.Conf.TheVariants.{Node, Queue}
use Rattle.ioa_actions.specs.declared.fault.StepFault.{StepFault}
use Rattle.ioa_actions.specs.declared.fault.StepFault.TheVariants.{NoChannel}
use Rattle.ioa_transitions.specs.Entries.{PlainEntry, entry_of}
use Rattle.ioa_transitions.specs.NodeAnswers.{pick_answer, redo_answer}
use Rattle.ioa_channels.specs.Queues.{queue_answer}
use Rattle.ioa_compose.specs.Participants.{participants_of}
use Rattle.ioa_actions.specs.ComponentOrder.{same_component}

-- the name of a configuration's component
abbrev pub component_of : Conf → Component
component_of (Node c) = component.Node c.program.node
component_of (Queue q) = q.component

-- the names of components, in order
abbrev pub component_names : List Conf → List Component
component_names cs = map component_of cs

-- the result of an entry at a component: its configuration after its own step, or why there is no step (Lynch 8.1)
unfoldable pub conf_answer : PlainEntry → Conf → Result Conf StepFault
conf_answer e (Node c) = and_then (redo_answer c e) (λ d. Ok (Node d))
conf_answer e (Queue q) = and_then (queue_answer q e.action) (λ r. Ok (Queue r))

-- what a component picks for an action: the entry of its own step by it, and its configuration after that (form). A
-- queue chooses nothing.
unfoldable pub conf_pick : Action → Conf → Result (PlainEntry × Conf) StepFault
conf_pick a (Node c) = and_then (pick_answer c a) (λ t. Ok (t.0, Node t.1))
conf_pick a (Queue q) = and_then (queue_answer q a) (λ r. Ok (entry_of a, Queue r))

-- the configuration of a component, if there is one
abbrev pub find_conf : Component → List Conf → Option Conf
find_conf k cs = find (λ c. same_component k (component_of c)) cs

-- the map with another configuration of a component; the same map if there is no such component
abbrev pub put_conf : Conf → List Conf → List Conf
put_conf d [] = []
put_conf d (c ∷ cs) = if same_component (component_of d) (component_of c) then d ∷ cs else c ∷ put_conf d cs

-- the map with other configurations of components, put in one after another
abbrev pub put_confs : List Conf → List Conf → List Conf
put_confs [] cs = cs
put_confs (d ∷ ds) cs = put_confs ds (put_conf d cs)

-- what a joint step reads: the configuration of each of these components
abbrev pub find_confs : List Component → List Conf → List (Option Conf)
find_confs ks cs = map (λ k. find_conf k cs) ks

-- each component's own step by an entry, or the first fault among them
abbrev pub own_steps : PlainEntry → List (Option Conf) → Result (List Conf) StepFault
own_steps e [] = Ok []
own_steps e (None ∷ more) = Err NoChannel
own_steps e (Some c ∷ more) = and_then (conf_answer e c) (λ d. and_then (own_steps e more) (λ ds. Ok (d ∷ ds)))

-- the participants' new configurations; a missing component is the fault before any other
abbrev pub changes_of : PlainEntry → List (Option Conf) → Result (List Conf) StepFault
changes_of e rs = if list_any is_none rs then Err NoChannel else own_steps e rs

-- the result of an entry in the composition: each participant takes its own step, and all others stay (Lynch 8.2)
abbrev pub joint_answer : PlainEntry → List Conf → Result (List Conf) StepFault
joint_answer e cs = and_then (changes_of e (find_confs (participants_of e.action) cs)) (λ ds. Ok (put_confs ds cs))

-- what the participants of an action pick: the entry of a step by it, which has the values that the node chose, and
-- their new configurations; or the first fault among them (form)
abbrev pub own_picks : Action → List (Option Conf) → Result (PlainEntry × List Conf) StepFault
own_picks a [] = Ok (entry_of a, [])
own_picks a (None ∷ more) = Err NoChannel
own_picks a (Some (Queue q) ∷ more) =
    and_then (queue_answer q a) (λ r. and_then (own_picks a more) (λ t. Ok (t.0, Queue r ∷ t.1)))
own_picks a (Some (Node c) ∷ more) =
    and_then (pick_answer c a) (λ t. and_then (own_steps t.0 more) (λ ds. Ok (t.0, Node t.1 ∷ ds)))

-- the same; a missing component is the fault before any other
abbrev pub picks_of : Action → List (Option Conf) → Result (PlainEntry × List Conf) StepFault
picks_of a rs = if list_any is_none rs then Err NoChannel else own_picks a rs

-- what the composition picks for an action: the entry of a joint step by it, and the configurations after that (form)
abbrev pub joint_pick : Action → List Conf → Result (PlainEntry × List Conf) StepFault
joint_pick a cs = and_then (picks_of a (find_confs (participants_of a) cs)) (λ t. Ok (t.0, put_confs t.1 cs))
