-- Commits of what stands by what can be told quickly.
use Rattle.std.proofs.Common.{◌≡◌, ◌≤◌, ◌<◌, ◌%◌, IfSome, IsTrue, ℕ, zero, suc, Bool, true, false, List, [], ◌∷◌, Option, Some, None, refl, sym, ap, subst, ◌∙◌, map, length, arith}
use Rattle.std.specs.Prelude.{nat_lt, slice_get}
use Rattle.std.specs.Option.{option_map}
use Rattle.ioa_actions.specs.ActionParts.{node_of}
use Rattle.ioa_actions.specs.declared.component.Component.{Component}
use Rattle.ioa_index.specs.Own.{own_slots}
use Rattle.ioa_transitions.specs.Entries.{PlainEntry}
use Rattle.ioa_compose.specs.Composition.{component_names, component_of}
use Rattle.ioa_compose.specs.declared.configuration.Conf.{Conf}
use Rattle.ioa_commits.specs.Books.{IsKept, PlainBook, held_of, holdings, plain_book, states_after, states_held}
use Rattle.ioa_commits.specs.Commits.{StandsQuickly, refusal_of}
use Rattle.ioa_commits.specs.Proposals.{IsTrueProposal, PlainParticipant, node_read, participants_next, participants_read, queue_read, reads_of}
use Rattle.ioa_commits.specs.Slots.{AreDistinct, AreHeldIn, advance_both, put_all_held, raise_at}
use Rattle.ioa_commits.specs.Versions.{PlainVersionedConf, read_component, read_confs, with_version}
use Rattle.ioa_commits.proofs.Advances.{advanced, first, kept_names, of_conf}
use Rattle.ioa_commits.proofs.Commits.{held_is, held_stands}
use Rattle.ioa_commits.proofs.Lookups.{found_at}
use Rattle.ioa_commits.proofs.Raises.{raised}

-- what is held in a slot is what is held of its component
held_in_slot : (b : PlainBook) → AreDistinct (component_names (states_held b)) → (m : ℕ) (r : PlainVersionedConf) → slice_get (holdings b) m ≡ Some r → held_of b (read_component r) ≡ Some r
held_in_slot b distinct m r h =
    let c = of_conf b.log (states_held b) m r h in
    let position = first (states_held b) distinct m c.conf c.there in
    ap (λ (k : Component). held_of b k) (ap read_component c.read)
    ∙ sym (found_at b.log (component_of c.conf) (states_held b) m position)
    ∙ h

-- so a proposal all of whose reads are held in slots stands, if there is room
pub quick_stands : (b : PlainBook) (queue : Option PlainVersionedConf) (node : PlainVersionedConf) (at slot : ℕ) → AreDistinct (component_names (states_held b)) → AreHeldIn (holdings b) at slot queue node → nat_lt (length b.log) b.limit ≡ true → refusal_of b (reads_of queue node) ≡ None
quick_stands b None node at slot distinct held room = held_stands b (node ∷ []) (held_in_slot b distinct slot node held, tt) room
quick_stands b (Some queue) node at slot distinct held room =
    held_stands b (queue ∷ node ∷ []) (held_in_slot b distinct at queue held.0, (held_in_slot b distinct slot node held.1, tt)) room

-- a log that needs no spare has room in its last block
pub room_behind : (needs : Bool) (log : List PlainEntry) → (length log % 64 ≡ 0 → IsTrue needs) → needs ≡ false → 0 < length log % 64
room_behind needs log h e = by_rest (length log % 64) h
  where
    by_rest : (n : ℕ) → (n ≡ 0 → IsTrue needs) → 0 < n
    by_rest zero h = let none : IsTrue false = rw e at (h refl) in absurd (cc)
    by_rest (suc n) h = omega arith

-- the slots of a proposal that stands by what can be told quickly
pub standing : {S : Type 0} (at slot : S → ℕ) (o : Option S) (b : PlainBook) (rs : List PlainVersionedConf) (node : PlainVersionedConf) → Some node ≡ node_read rs → reads_of (queue_read rs) node ≡ rs → AreDistinct (component_names (states_held b)) → nat_lt (length b.log) b.limit ≡ true → 0 < length b.log % 64 →
    IfSome o (λ s. (r : PlainVersionedConf) → node_read rs ≡ Some r → AreHeldIn (holdings b) (at s) (slot s) (queue_read rs) r) → IfSome o (λ s. StandsQuickly b rs (at s) (slot s))
standing at slot None b rs node is all distinct free room held = tt
standing at slot (Some s) b rs node is all distinct free room held =
    record {
      distinct = distinct;
      held = held;
      accepted = subst (λ (xs : List PlainVersionedConf). refusal_of b xs ≡ None) all (quick_stands b (queue_read rs) node (at s) (slot s) distinct (held node (sym is)) free);
      room = room;
    }

module _ (start : List Conf) (held : List PlainVersionedConf) (indexed : List Component) (log : List PlainEntry) (limit : ℕ) (kept : IsKept start held indexed log limit)
    (e again : PlainEntry) (queue : Option PlainParticipant) (node : PlainParticipant)
    (true_proposal : IsTrueProposal e again (participants_read queue node) (participants_next queue node)) (at slot : ℕ)
    (stands : StandsQuickly (plain_book start log limit) (participants_read queue node) at slot) where
  -- what was read, by participants
  node_is : (queue : Option PlainParticipant) → node_read (participants_read queue node) ≡ Some node.read
  node_is None = refl
  node_is (Some queue) = refl

  queue_is : (queue : Option PlainParticipant) → queue_read (participants_read queue node) ≡ option_map (λ p. p.read) queue
  queue_is None = refl
  queue_is (Some queue) = refl

  abbrev confs : List Conf
  confs = read_confs held

  states : states_after start log ≡ confs
  states = held_is start confs log kept.replayed

  -- the steps that the participants take where they are held are what a commit leaves
  pub advanced_kept : advance_both (option_map (λ p. p.next) queue) at node.next slot held ≡ put_all_held (participants_next queue node) (raise_at e.action (own_slots (node_of e.action) 0 indexed) held)
  advanced_kept =
      let small : length log ≤ 1000000 = omega (arith, kept.within, kept.limited) in
      let distinct : AreDistinct (component_names confs) = subst (λ (cs : List Conf). AreDistinct (component_names cs)) states stands.distinct in
      let here : AreHeldIn (map (with_version log) confs) at slot (option_map (λ p. p.read) queue) node.read =
      subst (λ (o : Option PlainVersionedConf). AreHeldIn (map (with_version log) confs) at slot o node.read) (queue_is queue)
      (subst (λ (cs : List Conf). AreHeldIn (map (with_version log) cs) at slot (queue_read (participants_read queue node)) node.read) states (stands.held node.read (node_is queue))) in
      let names : map component_of (participants_next queue node) ≡ map read_component (participants_read queue node) =
      kept_names e (read_confs (participants_read queue node)) (participants_next queue node) true_proposal.steps ∙ names_of (participants_read queue node) in
      ap (λ (hs : List PlainVersionedConf). advance_both (option_map (λ p. p.next) queue) at node.next slot hs) kept.versions
      ∙ advanced e log small confs distinct queue node at slot here true_proposal.participants names
      ∙ sym (ap (λ (hs : List PlainVersionedConf). put_all_held (participants_next queue node) hs)
      (ap (λ (hs : List PlainVersionedConf). raise_at e.action (own_slots (node_of e.action) 0 indexed) hs) kept.versions
      ∙ ap (λ (ks : List Component). raise_at e.action (own_slots (node_of e.action) 0 ks) (map (with_version log) confs)) kept.components
      ∙ raised e log small confs))
    where
      names_of : (rs : List PlainVersionedConf) → map component_of (read_confs rs) ≡ map read_component rs
      names_of [] = refl
      names_of (r ∷ rs) = λ i. read_component r ∷ names_of rs i
