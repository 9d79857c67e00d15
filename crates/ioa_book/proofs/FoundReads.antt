-- What is found among what was read.
use Rattle.std.proofs.Common.{◌≡◌, Bool, true, false, List, [], ◌∷◌, Some, None, refl, sym, ap, ◌∙◌}
use Rattle.std.specs.Prelude.{cond, Ok, Err}
use Rattle.std.specs.Option.{option_map}
use Rattle.ioa_values.specs.Outcome.{and_then}
use Rattle.ioa_actions.specs.ComponentOrder.{same_component}
use Rattle.ioa_actions.specs.declared.action.Action.{Action}
use Rattle.ioa_actions.specs.declared.component.Component.{Component}
use Rattle.ioa_actions.specs.declared.fault.StepFault.TheVariants.{NoChannel}
use Rattle.ioa_actions.proofs.SameComponents.{Decides-same_component}
use Rattle.ioa_compose.specs.Composition.{conf_pick, find_conf, picks_of}
use Rattle.ioa_compose.specs.Participants.{participants_of}
use Rattle.ioa_book.specs.Looks.{PlainSnapshot}
use Rattle.ioa_book.proofs.PickedParts.{one_proposed, two_proposed}
use Rattle.ioa_commits.specs.Proposals.{plain_proposal}
use Rattle.ioa_book.specs.Proposals.{find_read, step_answer}
use Rattle.ioa_commits.specs.Versions.{PlainVersionedConf, read_component, read_confs}

-- what was read of a component is of that component
pub found_component : (k : Component) (rs : List PlainVersionedConf) (r : PlainVersionedConf) → find_read k rs ≡ Some r → read_component r ≡ k
found_component k [] r h = absurd (cc)
found_component k (x ∷ rs) r h = by_test (same_component k (read_component x)) refl h (λ g. found_component k rs r g)
  where
    by_test : (b : Bool) → same_component k (read_component x) ≡ b → cond b (Some x) (find_read k rs) ≡ Some r → (find_read k rs ≡ Some r → read_component r ≡ k) → read_component r ≡ k
    by_test true e g further = let this : x ≡ r = cc in rw (← this) (sym ((Decides-same_component k (read_component x)).0 e))
    by_test false e g further = further g

-- its configuration is the one that is found
pub found_conf : (k : Component) (rs : List PlainVersionedConf) → find_conf k (read_confs rs) ≡ option_map (λ r. r.conf) (find_read k rs)
found_conf k [] = refl
found_conf k (x ∷ rs) = by_test (same_component k (read_component x)) (found_conf k rs)
  where
    by_test : (b : Bool) → find_conf k (read_confs rs) ≡ option_map (λ r. r.conf) (find_read k rs) → cond b (Some x.conf) (find_conf k (read_confs rs)) ≡ option_map (λ r. r.conf) (cond b (Some x) (find_read k rs))
    by_test true further = refl
    by_test false further = further

-- what was read of the participants bears their names
pub found_part : (a : Action) (k : Component) (rs : List PlainVersionedConf) (r : PlainVersionedConf) → participants_of a ≡ k ∷ [] → Some r ≡ find_read k rs → participants_of a ≡ read_component r ∷ []
found_part a k rs r parts found = parts ∙ ap (λ (j : Component). j ∷ []) (sym (found_component k rs r (sym found)))

pub found_first : (a : Action) (k j : Component) (rs : List PlainVersionedConf) (q : PlainVersionedConf) → participants_of a ≡ k ∷ j ∷ [] → Some q ≡ find_read k rs → participants_of a ≡ read_component q ∷ j ∷ []
found_first a k j rs q parts found = parts ∙ ap (λ (i : Component). i ∷ j ∷ []) (sym (found_component k rs q (sym found)))

pub found_second : (a : Action) (k j : Component) (rs : List PlainVersionedConf) (r : PlainVersionedConf) → participants_of a ≡ k ∷ j ∷ [] → Some r ≡ find_read j rs → participants_of a ≡ k ∷ read_component r ∷ []
found_second a k j rs r parts found = parts ∙ ap (λ (i : Component). k ∷ i ∷ []) (sym (found_component j rs r (sym found)))

-- and is found by its own name
pub found_queue : (k : Component) (rs : List PlainVersionedConf) (q : PlainVersionedConf) → Some q ≡ find_read k rs → Some q ≡ find_read (read_component q) rs
found_queue k rs q found = found ∙ ap (λ (i : Component). find_read i rs) (sym (found_component k rs q (sym found)))

module _ (a : Action) (s : PlainSnapshot) where
  -- the proposal of an action in which a node alone takes part
  pub alone : (k : Component) (r : PlainVersionedConf) → participants_of a ≡ k ∷ [] → find_read k s.reads ≡ Some r →
      step_answer a s ≡ and_then (conf_pick a r.conf) (λ t. Ok (plain_proposal t.0 s.length (r ∷ [])))
  alone k r parts found =
      let picked : step_answer a s ≡ and_then (picks_of a (Some r.conf ∷ [])) (λ t. Ok (plain_proposal t.0 s.length (r ∷ []))) = rw (parts, found_conf k s.reads, found) refl in
      picked ∙ one_proposed a r.conf s.length (r ∷ [])

  pub alone_missing : (k : Component) → participants_of a ≡ k ∷ [] → find_read k s.reads ≡ None → step_answer a s ≡ Err NoChannel
  alone_missing k parts found = rw (parts, found_conf k s.reads, found) refl

  -- and of one in which a queue and a node take part
  pub with_queue : (k j : Component) (q r : PlainVersionedConf) → participants_of a ≡ k ∷ j ∷ [] → find_read k s.reads ≡ Some q → find_read j s.reads ≡ Some r →
      step_answer a s ≡ and_then (conf_pick a q.conf) (λ _. and_then (conf_pick a r.conf) (λ t. Ok (plain_proposal t.0 s.length (q ∷ r ∷ []))))
  with_queue k j q r parts first second =
      let picked : step_answer a s ≡ and_then (picks_of a (Some q.conf ∷ Some r.conf ∷ [])) (λ t. Ok (plain_proposal t.0 s.length (q ∷ r ∷ []))) =
      rw (parts, found_conf k s.reads, found_conf j s.reads, first, second) refl in
      let named : participants_of a ≡ read_component q ∷ read_component r ∷ [] =
      found_second a (read_component q) j s.reads r (found_first a k j s.reads q parts (sym first)) (sym second) in
      picked ∙ two_proposed a q.conf r.conf s.length (q ∷ r ∷ []) named

  pub queue_missing : (k j : Component) → participants_of a ≡ k ∷ j ∷ [] → find_read k s.reads ≡ None → step_answer a s ≡ Err NoChannel
  queue_missing k j parts first = rw (parts, found_conf k s.reads, found_conf j s.reads, first) refl

  pub node_missing : (k j : Component) (q : PlainVersionedConf) → participants_of a ≡ k ∷ j ∷ [] → find_read k s.reads ≡ Some q → find_read j s.reads ≡ None → step_answer a s ≡ Err NoChannel
  node_missing k j q parts first second = rw (parts, found_conf k s.reads, found_conf j s.reads, first, second) refl
