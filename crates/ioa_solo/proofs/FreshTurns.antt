-- A turn on a look at a node is one on the present configurations.
use Rattle.std.proofs.Common.{◌≡◌, ℤ, Bool, true, false, List, [], ◌∷◌, ◌++◌, Option, Some, None, if◌then◌else◌, refl, ap, ◌∙◌}
use Rattle.std.specs.Prelude.{◌||◌, filter}
use Rattle.std.specs.Ordering.{int_eq}
use Rattle.ioa_values.specs.Data.{Data}
use Rattle.ioa_actions.specs.declared.component.Component.{Component}
use Rattle.ioa_actions.specs.declared.component.Component.TheVariants as component
use Rattle.ioa_actions.proofs.SameComponents.{same_component-itself}
use Rattle.ioa_index.specs.Own.{concerns}
use Rattle.ioa_terms.specs.Inboxes.{PlainInboxes}
use Rattle.ioa_channels.specs.Queues.{messages_of}
use Rattle.ioa_compose.specs.Composition.{component_of, find_conf}
use Rattle.ioa_compose.specs.declared.configuration.Conf.{Conf}
use Rattle.ioa_compose.specs.declared.configuration.Conf.TheVariants.{Node, Queue}
use Rattle.ioa_commits.specs.Books.{PlainBook, states_held}
use Rattle.ioa_book.specs.Looks.{IsLookAt, PlainSnapshot, snapshot_after}
use Rattle.ioa_commits.specs.Versions.{read_confs}
use Rattle.ioa_book.proofs.FreshLooks.{conf_seen, confs_shown}
use Rattle.ioa_turns.specs.Inboxes.{inbox_at, inbox_of, inboxes_in}
use Rattle.ioa_turns.specs.NodeTurns.{PlainProgress, turn_at}

right_false : (s t : Bool) → (s || t) ≡ false → t ≡ false
right_false true t h = absurd (cc)
right_false false t h = h

-- a component that the node has nothing to do with is no inbox of it
no_inbox_of : (n : ℤ) (o : Option (List Data)) (k : Component) → concerns n k ≡ false → inbox_of n o k ≡ []
no_inbox_of n None k h = refl
no_inbox_of n (Some ms) (component.Node i) h = refl
no_inbox_of n (Some ms) (component.Channel i j) h = rw (right_false (int_eq i n) (int_eq j n) h) refl
no_inbox_of n (Some ms) (component.Script i) h = refl

no_inbox_at : (n : ℤ) (c : Conf) → concerns n (component_of c) ≡ false → inbox_at n c ≡ []
no_inbox_at n (Node c) h = refl
no_inbox_at n (Queue q) h = no_inbox_of n (messages_of q.items) q.component h

-- so its inboxes are among what it has to do with
inboxes_own : (n : ℤ) (cs : List Conf) → inboxes_in n (filter (λ c. concerns n (component_of c)) cs) ≡ inboxes_in n cs
inboxes_own n [] = refl
inboxes_own n (c ∷ cs) = by_test (concerns n (component_of c)) refl (inboxes_own n cs)
  where
    own : List Conf
    own = filter (λ d. concerns n (component_of d)) cs

    by_test : (b : Bool) → concerns n (component_of c) ≡ b → inboxes_in n own ≡ inboxes_in n cs → inboxes_in n (if b then c ∷ own else own) ≡ inbox_at n c ++ inboxes_in n cs
    by_test true e further = ap (λ (is : PlainInboxes). inbox_at n c ++ is) further
    by_test false e further = rw (no_inbox_at n c e) further

-- a turn on what a look shows
pub turn_seen : (b : PlainBook) (p : PlainProgress) (s : PlainSnapshot) → IsLookAt b p.program.node s → turn_at (read_confs s.reads) p ≡ turn_at (states_held b) p
turn_seen b p s fresh =
    let n = p.program.node in
    let shown : inboxes_in n (read_confs (snapshot_after n b.start b.log).reads) ≡ inboxes_in n (states_held b) = ap (λ (cs : List Conf). inboxes_in n cs) (confs_shown b n) ∙ inboxes_own n (states_held b) in
    let own : find_conf (component.Node n) (read_confs (snapshot_after n b.start b.log).reads) ≡ find_conf (component.Node n) (states_held b) = conf_seen b n (component.Node n) (same_component-itself (component.Node n)) in
    rw (fresh, shown, own) refl
