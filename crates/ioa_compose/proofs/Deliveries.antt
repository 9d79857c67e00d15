-- What channels and scripts hand out in executions.
use Rattle.std.proofs.Common.{◌≡◌, ℤ, Bool, true, false, List, [], ◌∷◌, ◌++◌, Some, None, refl, ap, sym, subst, ◌∙◌, map, if◌then◌else◌}
use Rattle.std.specs.Prelude.{filter}
use Rattle.std.specs.List.{cons_option}
use Rattle.std.specs.Ordering.{int_eq}
use Rattle.ioa_values.specs.Data.{Data}
use Rattle.ioa_actions.specs.declared.component.Component.{Component}
use Rattle.ioa_actions.specs.declared.component.Component.TheVariants.{Channel, Script}
use Rattle.ioa_actions.specs.declared.action.Action.{Action}
use Rattle.ioa_actions.specs.declared.action.Action.TheVariants.{Send, Receive, Local, Stimulus}
use Rattle.ioa_transitions.specs.Entries.{PlainEntry, actions_of}
use Rattle.ioa_channels.specs.declared.queue.Item.{Item}
use Rattle.ioa_channels.specs.declared.queue.Item.TheVariants as item
use Rattle.ioa_compose.specs.declared.configuration.Conf.{Conf}
use Rattle.ioa_compose.specs.declared.configuration.Conf.TheVariants.{Node, Queue}
use Rattle.ioa_channels.specs.Queues.{QueueState}
use Rattle.ioa_channels.specs.QueueSteps.{IsQueueStep}
use Rattle.ioa_channels.specs.HandedOut.{IsHandedOut}
use Rattle.ioa_channels.proofs.HandedOut.{nothing_yet, receive_step, send_step}
use Rattle.ioa_actions.specs.ComponentOrder.{same_component}
use Rattle.ioa_compose.specs.Participants.{takes_part}
use Rattle.ioa_compose.specs.Executions.{projection_of}
use Rattle.ioa_compose.specs.Automata.{IsExecution}
use Rattle.ioa_compose.specs.JointStep.{IsJointStep}
use Rattle.ioa_compose.specs.Steps.{IsStep}
use Rattle.ioa_compose.specs.Channels.{messages_sent, messages_received, HandsOut, HandsOutFromEmpty}
use Rattle.ioa_compose.specs.Scripts.{stimuli_taken, TakesInOrder}
use Rattle.ioa_compose.proofs.Projections.{projects}

-- a step of a queue by an action; a node takes none
abbrev StepsBy : Action → Conf → Conf → Type 0
StepsBy a (Queue q) (Queue r) = IsQueueStep a q r
StepsBy a (Queue q) (Node d) = ⊥
StepsBy a (Node c) d = ⊥

-- the actions in which a component takes part
abbrev own_actions : Component → List Action → List Action
own_actions k actions = filter (takes_part k) actions

-- a queue's step by an entry is one by the entry's action, to a queue
queue_step : (entry : PlainEntry) (q : QueueState) (d : Conf) → IsStep entry (Queue q) d → (r : QueueState) × (d ≡ Queue r) × StepsBy entry.action (Queue q) (Queue r)
queue_step entry q (Queue r) step = (r, refl, step)
queue_step entry q (Node c) step = absurd step

-- a queue's own execution by entries is one by their actions
by_actions : (k : Component) (entries : List PlainEntry) (q : QueueState) (d : Conf) → IsExecution IsStep (Queue q) (projection_of k entries) d → IsExecution StepsBy (Queue q) (own_actions k (actions_of entries)) d
by_actions k [] q d h = h
by_actions k (entry ∷ more) q d h = by_test (takes_part k entry.action) h (λ r rest. by_actions k more r d rest)
  where
    by_test : (t : Bool) → IsExecution IsStep (Queue q) (if t then entry ∷ projection_of k more else projection_of k more) d →
        ((r : QueueState) → IsExecution IsStep (Queue r) (projection_of k more) d → IsExecution StepsBy (Queue r) (own_actions k (actions_of more)) d) →
        IsExecution StepsBy (Queue q) (if t then entry.action ∷ own_actions k (actions_of more) else own_actions k (actions_of more)) d
    by_test true h further =
        let step = queue_step entry q h.0 h.1 in
        (Queue step.0, step.2, further step.0 (subst (λ (c : Conf). IsExecution IsStep c (projection_of k more) d) step.1 h.2))
    by_test false h further = further q h

-- a queue in which messages were put, and which has handed messages out
record Handed (q : QueueState) (sent received : List Data) (d : Conf) : Type 0 where
  rest : QueueState
  held : d ≡ Queue rest
  handed_out : IsHandedOut q.kind q.items sent received rest.items

-- a send, before what comes later
sent_first : (m : Data) (i j : ℤ) (sent received : List Data) (q r : QueueState) (d : Conf) → IsQueueStep (Send m i j) q r → Handed r sent received d → Handed q (m ∷ sent) received d
sent_first m i j sent received q r d step p = record {
  rest = p.rest;
  held = p.held;
  handed_out = send_step q.kind m q.items sent received p.rest.items (subst (λ (s : QueueState). IsHandedOut s.kind s.items sent received p.rest.items) step p.handed_out);
}

-- a receive, before what comes later
received_first : (m : Data) (i j : ℤ) (sent received : List Data) (q r : QueueState) (d : Conf) → IsQueueStep (Receive m i j) q r → Handed r sent received d → Handed q sent (m ∷ received) d
received_first m i j sent received q r d step p = record {
  rest = p.rest;
  held = p.held;
  handed_out = receive_step q.kind m q.items r.items sent received p.rest.items step.0 (subst (λ (s : QueueState). IsHandedOut s.kind s.items sent received p.rest.items) step.1 p.handed_out);
}

-- a channel's own execution hands out what was in it and what is sent on it
hands_out : (i j : ℤ) (actions : List Action) (q : QueueState) (d : Conf) → IsExecution StepsBy (Queue q) (own_actions (Channel i j) actions) d → Handed q (messages_sent i j actions) (messages_received i j actions) d
hands_out i j [] q d h = record { rest = q; held = sym h; handed_out = nothing_yet q.kind q.items }
hands_out i j (Send m from to ∷ more) q d h = by_test (same_component (Channel i j) (Channel from to)) h (λ r e. hands_out i j more r d e)
  where
    Further : Type 0
    Further = (r : QueueState) → IsExecution StepsBy (Queue r) (own_actions (Channel i j) more) d → Handed r (messages_sent i j more) (messages_received i j more) d

    sends : (mid : Conf) → StepsBy (Send m from to) (Queue q) mid → IsExecution StepsBy mid (own_actions (Channel i j) more) d → Further → Handed q (m ∷ messages_sent i j more) (messages_received i j more) d
    sends (Node c) step rest further = absurd step
    sends (Queue r) step rest further = sent_first m from to (messages_sent i j more) (messages_received i j more) q r d step (further r rest)

    by_test : (t : Bool) → IsExecution StepsBy (Queue q) (if t then Send m from to ∷ own_actions (Channel i j) more else own_actions (Channel i j) more) d → Further →
        Handed q (cons_option (if t then Some m else None) (messages_sent i j more)) (messages_received i j more) d
    by_test true h further = sends h.0 h.1 h.2 further
    by_test false h further = further q h
hands_out i j (Receive m from to ∷ more) q d h = by_test (same_component (Channel i j) (Channel from to)) h (λ r e. hands_out i j more r d e)
  where
    Further : Type 0
    Further = (r : QueueState) → IsExecution StepsBy (Queue r) (own_actions (Channel i j) more) d → Handed r (messages_sent i j more) (messages_received i j more) d

    receives : (mid : Conf) → StepsBy (Receive m from to) (Queue q) mid → IsExecution StepsBy mid (own_actions (Channel i j) more) d → Further → Handed q (messages_sent i j more) (m ∷ messages_received i j more) d
    receives (Node c) step rest further = absurd step
    receives (Queue r) step rest further = received_first m from to (messages_sent i j more) (messages_received i j more) q r d step (further r rest)

    by_test : (t : Bool) → IsExecution StepsBy (Queue q) (if t then Receive m from to ∷ own_actions (Channel i j) more else own_actions (Channel i j) more) d → Further →
        Handed q (messages_sent i j more) (cons_option (if t then Some m else None) (messages_received i j more)) d
    by_test true h further = receives h.0 h.1 h.2 further
    by_test false h further = further q h
hands_out i j (Local a ∷ more) q d h = hands_out i j more q d h
hands_out i j (Stimulus a ∷ more) q d h = hands_out i j more q d h

-- in an execution each channel hands out what was in it and what is sent on it
pub hands_out_all : (entries : List PlainEntry) (start confs : List Conf) → IsExecution (IsJointStep IsStep) start entries confs → HandsOut start entries confs
hands_out_all entries start confs h i j q found =
    let end = projects IsStep entries start confs h (Channel i j) (Queue q) found in
    let actions = actions_of entries in
    let p : Handed q (messages_sent i j actions) (messages_received i j actions) end.0 = hands_out i j actions q end.0 (by_actions (Channel i j) entries q end.0 end.2) in
    (p.rest, end.1 ∙ ap Some p.held, p.handed_out)

-- in an execution each channel that was empty hands out what is sent on it
pub hands_out_from_empty : (entries : List PlainEntry) (start confs : List Conf) → IsExecution (IsJointStep IsStep) start entries confs → HandsOutFromEmpty start entries confs
hands_out_from_empty entries start confs h i j q found empty =
    let end = hands_out_all entries start confs h i j q found in
    let actions = actions_of entries in
    (end.0, end.1, subst (λ (items : List Item). IsHandedOut q.kind items (messages_sent i j actions) (messages_received i j actions) end.0.items) empty end.2)

-- a script that has given stimuli out, in order
record Given (q : QueueState) (outs : List Item) (d : Conf) : Type 0 where
  rest : QueueState
  held : d ≡ Queue rest
  order : q.items ≡ outs ++ rest.items

-- a stimulus, before what comes later
given_first : (x : Item) (outs : List Item) (q r : QueueState) (d : Conf) → q.items ≡ x ∷ r.items → Given r outs d → Given q (x ∷ outs) d
given_first x outs q r d e p = record {
  rest = p.rest;
  held = p.held;
  order = e ∙ ap (λ (items : List Item). x ∷ items) p.order;
}

-- a script's own execution hands out what it holds, in order
gives_out : (k : ℤ) (actions : List Action) (q : QueueState) (d : Conf) → IsExecution StepsBy (Queue q) (own_actions (Script k) actions) d → Given q (map item.Stimulus (stimuli_taken k actions)) d
gives_out k [] q d h = record { rest = q; held = sym h; order = refl }
gives_out k (Send m from to ∷ more) q d h = gives_out k more q d h
gives_out k (Receive m from to ∷ more) q d h = gives_out k more q d h
gives_out k (Local a ∷ more) q d h = gives_out k more q d h
gives_out k (Stimulus a ∷ more) q d h = by_test (int_eq k a.node) h (λ r e. gives_out k more r d e)
  where
    Further : Type 0
    Further = (r : QueueState) → IsExecution StepsBy (Queue r) (own_actions (Script k) more) d → Given r (map item.Stimulus (stimuli_taken k more)) d

    takes : (mid : Conf) → StepsBy (Stimulus a) (Queue q) mid → IsExecution StepsBy mid (own_actions (Script k) more) d → Further → Given q (item.Stimulus a ∷ map item.Stimulus (stimuli_taken k more)) d
    takes (Node c) step rest further = absurd step
    takes (Queue r) step rest further = given_first (item.Stimulus a) (map item.Stimulus (stimuli_taken k more)) q r d step.0 (further r rest)

    by_test : (t : Bool) → IsExecution StepsBy (Queue q) (if t then Stimulus a ∷ own_actions (Script k) more else own_actions (Script k) more) d → Further →
        Given q (map item.Stimulus (cons_option (if t then Some a else None) (stimuli_taken k more))) d
    by_test true h further = takes h.0 h.1 h.2 further
    by_test false h further = further q h

-- in an execution each script hands out what was in it, in order
pub takes_in_order : (entries : List PlainEntry) (start confs : List Conf) → IsExecution (IsJointStep IsStep) start entries confs → TakesInOrder start entries confs
takes_in_order entries start confs h k q found =
    let end = projects IsStep entries start confs h (Script k) (Queue q) found in
    let actions = actions_of entries in
    let p : Given q (map item.Stimulus (stimuli_taken k actions)) end.0 = gives_out k actions q end.0 (by_actions (Script k) entries q end.0 end.2) in
    (p.rest, end.1 ∙ ap Some p.held, p.order)
