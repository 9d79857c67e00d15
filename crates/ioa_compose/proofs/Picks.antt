-- What is picked for an action is what its entry comes to.
use Rattle.std.proofs.Common.{◌≡◌, ◌∙◌, ℤ, Bool, true, false, List, [], ◌∷◌, Option, Some, None, Result, Ok, Err, refl, sym, ap, subst, if◌then◌else◌}
use Rattle.std.specs.List.{list_any}
use Rattle.std.specs.Option.{is_none}
use Rattle.ioa_values.specs.Outcome.{and_then}
use Rattle.ioa_actions.specs.declared.action.Action.{Action}
use Rattle.ioa_actions.specs.declared.action.Action.TheVariants.{Send, Receive, Local, Stimulus}
use Rattle.ioa_actions.specs.declared.component.Component.{Component}
use Rattle.ioa_actions.specs.declared.component.Component.TheVariants as component
use Rattle.ioa_actions.specs.declared.fault.StepFault.{StepFault}
use Rattle.ioa_actions.specs.declared.fault.StepFault.TheVariants.{NoChannel}
use Rattle.ioa_channels.specs.Queues.{QueueState, queue_answer}
use Rattle.ioa_transitions.specs.Entries.{PlainEntry, entry_of}
use Rattle.ioa_transitions.specs.NodeState.{NodeState}
use Rattle.ioa_transitions.specs.NodeAnswers.{pick_answer, redo_answer}
use Rattle.ioa_transitions.proofs.NodeSteps.{picked_again}
use Rattle.ioa_compose.specs.declared.configuration.Conf.{Conf}
use Rattle.ioa_compose.specs.declared.configuration.Conf.TheVariants.{Node, Queue}
use Rattle.ioa_compose.specs.Participants.{participants_of}
use Rattle.ioa_compose.specs.Composition.{component_of, conf_answer, conf_pick, find_confs, put_confs, own_picks, own_steps, changes_of, joint_answer, picks_of, joint_pick}

-- what is picked is of the action, and comes to these if it is taken again
abbrev IsPicked : Action → List (Option Conf) → PlainEntry × List Conf → Type 0
IsPicked a rs t = (t.0.action ≡ a) × (own_steps t.0 rs ≡ Ok t.1)

of_ok : (s t : PlainEntry × List Conf) → ◌≡◌ {A = Result (PlainEntry × List Conf) StepFault} (Ok s) (Ok t) → s ≡ t
of_ok s t h = cc

-- before it a queue's step by the action
behind_queue : (a : Action) (q r : QueueState) (more : List (Option Conf)) (t : PlainEntry × List Conf) → queue_answer q a ≡ Ok r → IsPicked a more t → IsPicked a (Some (Queue q) ∷ more) (t.0, Queue r ∷ t.1)
unfolding conf_answer
behind_queue a q r more t step is =
    let with_more : Result Conf StepFault → Result (List Conf) StepFault = λ (x : Result Conf StepFault). and_then x (λ d. and_then (own_steps t.0 more) (λ ds. Ok (d ∷ ds))) in (
      is.0,
      ap (λ (b : Action). with_more (and_then (queue_answer q b) (λ s. Ok (Queue s)))) is.0
          ∙ ap (λ (x : Result QueueState StepFault). with_more (and_then x (λ s. Ok (Queue s)))) step
          ∙ ap (λ (x : Result (List Conf) StepFault). and_then x (λ ds. Ok (Queue r ∷ ds))) is.1,
    )

-- a node's pick, and behind it the steps by its entry
behind_node : (a : Action) (c d : NodeState) (e : PlainEntry) (more : List (Option Conf)) (ds : List Conf) → pick_answer c a ≡ Ok (e, d) → own_steps e more ≡ Ok ds → IsPicked a (Some (Node c) ∷ more) (e, Node d ∷ ds)
unfolding conf_answer
behind_node a c d e more ds pick steps =
    let again = picked_again c a e d pick in (
      again.0,
      ap (λ (x : Result NodeState StepFault). and_then {B = List Conf} (and_then {B = Conf} x (λ s. Ok (Node s))) (λ s. and_then (own_steps e more) (λ ss. Ok (s ∷ ss)))) again.1
          ∙ ap (λ (x : Result (List Conf) StepFault). and_then x (λ ss. Ok (Node d ∷ ss))) steps,
    )

own_picks-entry : (a : Action) (rs : List (Option Conf)) (t : PlainEntry × List Conf) → own_picks a rs ≡ Ok t → IsPicked a rs t
own_picks-entry a [] t h = subst (IsPicked a []) (of_ok (entry_of a, []) t h) (refl, refl)
own_picks-entry a (None ∷ more) t h = absurd (cc)
own_picks-entry a (Some (Queue q) ∷ more) t h = by_queue (queue_answer q a) refl h (own_picks-entry a more)
  where
    by_queue : (x : Result QueueState StepFault) → queue_answer q a ≡ x → and_then {B = PlainEntry × List Conf} x (λ r. and_then (own_picks a more) (λ s. Ok (s.0, Queue r ∷ s.1))) ≡ Ok t →
        ((s : PlainEntry × List Conf) → own_picks a more ≡ Ok s → IsPicked a more s) → IsPicked a (Some (Queue q) ∷ more) t
    by_queue (Ok r) step h further = by_more (own_picks a more) refl h
      where
        by_more : (x : Result (PlainEntry × List Conf) StepFault) → own_picks a more ≡ x → and_then {B = PlainEntry × List Conf} x (λ s. Ok (s.0, Queue r ∷ s.1)) ≡ Ok t → IsPicked a (Some (Queue q) ∷ more) t
        by_more (Ok s) picked h = subst (IsPicked a (Some (Queue q) ∷ more)) (of_ok (s.0, Queue r ∷ s.1) t h) (behind_queue a q r more s step (further s picked))
        by_more (Err f) picked h = absurd (cc)
    by_queue (Err f) step h further = absurd (cc)
own_picks-entry a (Some (Node c) ∷ more) t h = by_node (pick_answer c a) refl h
  where
    by_node : (x : Result (PlainEntry × NodeState) StepFault) → pick_answer c a ≡ x → and_then {B = PlainEntry × List Conf} x (λ s. and_then (own_steps s.0 more) (λ ds. Ok (s.0, Node s.1 ∷ ds))) ≡ Ok t → IsPicked a (Some (Node c) ∷ more) t
    by_node (Ok s) pick h = by_more (own_steps s.0 more) refl h
      where
        by_more : (x : Result (List Conf) StepFault) → own_steps s.0 more ≡ x → and_then {B = PlainEntry × List Conf} x (λ ds. Ok (s.0, Node s.1 ∷ ds)) ≡ Ok t → IsPicked a (Some (Node c) ∷ more) t
        by_more (Ok ds) steps h = subst (IsPicked a (Some (Node c) ∷ more)) (of_ok (s.0, Node s.1 ∷ ds) t h) (behind_node a c s.1 s.0 more ds pick steps)
        by_more (Err f) steps h = absurd (cc)
    by_node (Err f) pick h = absurd (cc)

-- of the participants
pub picks_of-entry : (a : Action) (rs : List (Option Conf)) (entry : PlainEntry) (ds : List Conf) → picks_of a rs ≡ Ok (entry, ds) → (entry.action ≡ a) × (changes_of entry rs ≡ Ok ds)
picks_of-entry a rs entry ds h = by_none (list_any is_none rs) h
  where
    by_none : (b : Bool) → (if b then Err NoChannel else own_picks a rs) ≡ Ok (entry, ds) → (entry.action ≡ a) × ((if b then Err NoChannel else own_steps entry rs) ≡ Ok ds)
    by_none true h = absurd (cc)
    by_none false h = own_picks-entry a rs (entry, ds) h

-- of the whole composition
pub joint_pick-entry : (a : Action) (cs : List Conf) (entry : PlainEntry) (next : List Conf) → joint_pick a cs ≡ Ok (entry, next) → (entry.action ≡ a) × (joint_answer entry cs ≡ Ok next)
joint_pick-entry a cs entry next h = by_picks (picks_of a (find_confs (participants_of a) cs)) refl h
  where
    IsJoint : PlainEntry × List Conf → Type 0
    IsJoint t = (t.0.action ≡ a) × (joint_answer t.0 cs ≡ Ok t.1)

    by_picks : (x : Result (PlainEntry × List Conf) StepFault) → picks_of a (find_confs (participants_of a) cs) ≡ x → and_then {B = PlainEntry × List Conf} x (λ t. Ok (t.0, put_confs t.1 cs)) ≡ Ok (entry, next) → IsJoint (entry, next)
    by_picks (Ok t) picked h =
        let is = picks_of-entry a (find_confs (participants_of a) cs) t.0 t.1 picked in
        subst IsJoint (of_ok (t.0, put_confs t.1 cs) (entry, next) h) (
          is.0,
          ap (λ (b : Action). and_then (changes_of t.0 (find_confs (participants_of b) cs)) (λ ds. Ok (put_confs ds cs))) is.0
              ∙ ap (λ (x : Result (List Conf) StepFault). and_then x (λ ds. Ok (put_confs ds cs))) is.1,
        )
    by_picks (Err f) picked h = absurd (cc)

-- what one participant picks
pub one_pick : (a : Action) (c : Conf) → picks_of a (Some c ∷ []) ≡ and_then (conf_pick a c) (λ t. Ok (t.0, t.1 ∷ []))
unfolding conf_pick
one_pick a (Queue q) = by_queue (queue_answer q a)
  where
    by_queue : (x : Result QueueState StepFault) → and_then {B = PlainEntry × List Conf} x (λ r. Ok (entry_of a, Queue r ∷ []))
        ≡ and_then {B = PlainEntry × List Conf} (and_then {B = PlainEntry × Conf} x (λ r. Ok (entry_of a, Queue r))) (λ t. Ok (t.0, t.1 ∷ []))
    by_queue (Ok r) = refl
    by_queue (Err f) = refl
one_pick a (Node c) = by_node (pick_answer c a)
  where
    by_node : (x : Result (PlainEntry × NodeState) StepFault) → and_then {B = PlainEntry × List Conf} x (λ t. Ok (t.0, Node t.1 ∷ []))
        ≡ and_then {B = PlainEntry × List Conf} (and_then {B = PlainEntry × Conf} x (λ t. Ok (t.0, Node t.1))) (λ t. Ok (t.0, t.1 ∷ []))
    by_node (Ok t) = refl
    by_node (Err f) = refl

-- the first of two participants is no node
no_node : (a : Action) (k : ℤ) (l : Component) → participants_of a ≡ component.Node k ∷ l ∷ [] → ⊥
no_node (Send m i j) k l h = absurd (cc)
no_node (Receive m i j) k l h = absurd (cc)
no_node (Local b) k l h = absurd (cc)
no_node (Stimulus b) k l h = absurd (cc)

-- what two participants pick
pub two_picks : (a : Action) (c d : Conf) → participants_of a ≡ component_of c ∷ component_of d ∷ [] →
    picks_of a (Some c ∷ Some d ∷ []) ≡ and_then (conf_pick a c) (λ s. and_then (conf_pick a d) (λ t. Ok (t.0, s.1 ∷ t.1 ∷ [])))
unfolding conf_pick
two_picks a (Node c) d h = absurd (no_node a c.program.node (component_of d) h)
two_picks a (Queue q) d h = by_queue (queue_answer q a)
  where
    by_node : (r : QueueState) (x : Result (PlainEntry × Conf) StepFault) →
        and_then {B = PlainEntry × List Conf} (and_then {B = PlainEntry × List Conf} x (λ t. Ok (t.0, t.1 ∷ []))) (λ t. Ok (t.0, Queue r ∷ t.1))
        ≡ and_then {B = PlainEntry × List Conf} x (λ t. Ok (t.0, Queue r ∷ t.1 ∷ []))
    by_node r (Ok t) = refl
    by_node r (Err f) = refl

    by_queue : (x : Result QueueState StepFault) →
        and_then {B = PlainEntry × List Conf} x (λ r. and_then (own_picks a (Some d ∷ [])) (λ t. Ok (t.0, Queue r ∷ t.1)))
        ≡ and_then {B = PlainEntry × List Conf} (and_then {B = PlainEntry × Conf} x (λ r. Ok (entry_of a, Queue r))) (λ s. and_then (conf_pick a d) (λ t. Ok (t.0, s.1 ∷ t.1 ∷ [])))
    by_queue (Ok r) = ap (λ (x : Result (PlainEntry × List Conf) StepFault). and_then {B = PlainEntry × List Conf} x (λ t. Ok (t.0, Queue r ∷ t.1))) (one_pick a d) ∙ by_node r (conf_pick a d)
    by_queue (Err f) = refl
