-- What a block reads as the inbox from a node is what waits on the channel from there.
use Rattle.std.proofs.Common.{◌≡◌, ℤ, Bool, true, false, List, [], ◌∷◌, ◌++◌, Option, Some, None, if◌then◌else◌, refl, sym, subst, ◌∙◌}
use Rattle.std.specs.Prelude.{◌&&◌}
use Rattle.std.specs.Ordering.{int_eq}
use Rattle.std.proofs.lemmas.Bool.Decides.{Decides-int_eq}
use Rattle.ioa_values.specs.Collections.{value_at}
use Rattle.ioa_values.specs.Data.{Data, number, sequence, items_of}
use Rattle.ioa_values.specs.DataOrder.{same}
use Rattle.ioa_values.proofs.Equality.{same_equal, same_itself}
use Rattle.ioa_values.proofs.Members.{value_with}
use Rattle.ioa_actions.specs.ComponentOrder.{same_component}
use Rattle.ioa_actions.specs.declared.component.Component.{Component}
use Rattle.ioa_actions.specs.declared.component.Component.TheVariants as component
use Rattle.ioa_actions.proofs.SameComponents.{Decides-same_component}
use Rattle.ioa_terms.specs.Inboxes.{PlainInboxes, inbox_entries}
use Rattle.ioa_channels.specs.Queues.{QueueState, messages_of}
use Rattle.ioa_compose.specs.Composition.{component_of, find_conf}
use Rattle.ioa_compose.specs.declared.configuration.Conf.{Conf}
use Rattle.ioa_compose.specs.declared.configuration.Conf.TheVariants.{Node, Queue}
use Rattle.ioa_turns.specs.Inboxes.{inbox_of, inbox_at, inboxes_in}

-- the inbox from node i, of the inboxes of node j
module _ (i j : ℤ) where
  abbrev from_sender : PlainInboxes → Option Data
  from_sender is = value_at (number i) (inbox_entries is)

  abbrev the_channel : Component
  the_channel = component.Channel i j

  -- a queue of another name is no inbox from node i
  other_sender : (from : ℤ) → (int_eq i from && int_eq j j) ≡ false → same (number i) (number from) ≡ false
  other_sender from h = by_test (same (number i) (number from)) refl
    where
      by_test : (b : Bool) → same (number i) (number from) ≡ b → b ≡ false
      by_test true e =
          let equal : number i ≡ number from = same_equal (number i) (number from) e in
          let one : i ≡ from = cc in
          let is : int_eq i from ≡ true = (Decides-int_eq i from).1 one in
          let itself : int_eq j j ≡ true = (Decides-int_eq j j).1 refl in
          absurd (cc)
      by_test false e = refl

  other_channel : (from to : ℤ) (ms : List Data) (more : PlainInboxes) → same_component the_channel (component.Channel from to) ≡ false →
      from_sender (inbox_of j (Some ms) (component.Channel from to) ++ more) ≡ from_sender more
  other_channel from to ms more h = by_test (int_eq to j) refl
    where
      by_test : (b : Bool) → int_eq to j ≡ b → from_sender ((if b then (from, ms) ∷ [] else []) ++ more) ≡ from_sender more
      by_test true e =
          let this : to ≡ j = (Decides-int_eq to j).0 e in
          let apart : (int_eq i from && int_eq j j) ≡ false = rw this at h in
          value_with (number i) (number from) (sequence (items_of ms)) (inbox_entries more) ∙ (rw (other_sender from apart) refl)
      by_test false e = refl

  other_queue : (k : Component) (o : Option (List Data)) (more : PlainInboxes) → same_component the_channel k ≡ false → from_sender (inbox_of j o k ++ more) ≡ from_sender more
  other_queue k None more h = refl
  other_queue (component.Node l) (Some ms) more h = refl
  other_queue (component.Channel from to) (Some ms) more h = other_channel from to ms more h
  other_queue (component.Script l) (Some ms) more h = refl

  other : (c : Conf) (more : PlainInboxes) → same_component the_channel (component_of c) ≡ false → from_sender (inbox_at j c ++ more) ≡ from_sender more
  other (Node c) more h = refl
  other (Queue q) more h = other_queue q.component (messages_of q.items) more h

  -- the messages of the channel are
  first_inbox : (ms : List Data) (more : PlainInboxes) → from_sender (inbox_of j (Some ms) the_channel ++ more) ≡ Some (sequence (items_of ms))
  first_inbox ms more =
      rw ((Decides-int_eq j j).1 refl)
      (value_with (number i) (number i) (sequence (items_of ms)) (inbox_entries more) ∙ (rw (same_itself (number i)) refl))

  this_queue : (q : QueueState) (ms : List Data) (more : PlainInboxes) → same_component the_channel q.component ≡ true → messages_of q.items ≡ Some ms →
      from_sender (inbox_of j (messages_of q.items) q.component ++ more) ≡ Some (sequence (items_of ms))
  this_queue q ms more k e = rw (← (Decides-same_component the_channel q.component).0 k, e) (first_inbox ms more)

  pub inbox_waits : (cs : List Conf) (q : QueueState) (ms : List Data) → find_conf the_channel cs ≡ Some (Queue q) → messages_of q.items ≡ Some ms → from_sender (inboxes_in j cs) ≡ Some (sequence (items_of ms))
  inbox_waits [] q ms found e = absurd (cc)
  inbox_waits (c ∷ cs) q ms found e = by_test (same_component the_channel (component_of c)) refl found (inbox_waits cs q ms)
    where
      by_test : (b : Bool) → same_component the_channel (component_of c) ≡ b → (if b then Some c else find_conf the_channel cs) ≡ Some (Queue q) →
          (find_conf the_channel cs ≡ Some (Queue q) → messages_of q.items ≡ Some ms → from_sender (inboxes_in j cs) ≡ Some (sequence (items_of ms))) → from_sender (inbox_at j c ++ inboxes_in j cs) ≡ Some (sequence (items_of ms))
      by_test true k g further =
          let this : Queue q ≡ c = cc in
          subst (λ (d : Conf). from_sender (inbox_at j d ++ inboxes_in j cs) ≡ Some (sequence (items_of ms))) this
          (this_queue q ms (inboxes_in j cs) (subst (λ (d : Conf). same_component the_channel (component_of d) ≡ true) (sym this) k) e)
      by_test false k g further = other c (inboxes_in j cs) k ∙ further g e

  pub no_inbox : (cs : List Conf) → find_conf the_channel cs ≡ None → from_sender (inboxes_in j cs) ≡ None
  no_inbox [] found = refl
  no_inbox (c ∷ cs) found = by_test (same_component the_channel (component_of c)) refl found (no_inbox cs)
    where
      by_test : (b : Bool) → same_component the_channel (component_of c) ≡ b → (if b then Some c else find_conf the_channel cs) ≡ None →
          (find_conf the_channel cs ≡ None → from_sender (inboxes_in j cs) ≡ None) → from_sender (inbox_at j c ++ inboxes_in j cs) ≡ None
      by_test true k g further = absurd (cc)
      by_test false k g further = other c (inboxes_in j cs) k ∙ further g
