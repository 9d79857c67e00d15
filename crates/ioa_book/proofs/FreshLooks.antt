-- What a look shows of a book as it is.
use Rattle.std.proofs.Common.{◌≡◌, ℤ, Bool, true, false, List, [], ◌∷◌, ◌++◌, Option, Some, None, Ok, if◌then◌else◌, refl, ap, subst, ◌∙◌, map, length}
use Rattle.std.specs.Prelude.{◌||◌, cond, filter}
use Rattle.std.specs.List.{AllByRecursion}
use Rattle.std.specs.Option.{option_map}
use Rattle.std.specs.Ordering.{int_eq}
use Rattle.std.proofs.lemmas.Cmp.{nat_eq_equiv}
use Rattle.ioa_values.specs.Outcome.{and_then}
use Rattle.ioa_actions.specs.ActionParts.{node_of}
use Rattle.ioa_actions.specs.ComponentOrder.{same_component}
use Rattle.ioa_actions.specs.declared.action.Action.{Action}
use Rattle.ioa_actions.specs.declared.action.Action.TheVariants.{Send, Receive, Local, Stimulus}
use Rattle.ioa_actions.specs.declared.component.Component.{Component}
use Rattle.ioa_actions.specs.declared.component.Component.TheVariants as component
use Rattle.ioa_actions.proofs.SameComponents.{Decides-same_component, same_component-itself}
use Rattle.ioa_transitions.specs.Entries.{PlainEntry}
use Rattle.ioa_compose.specs.Composition.{component_of, find_conf, find_confs, picks_of}
use Rattle.ioa_compose.specs.Participants.{participants_of}
use Rattle.ioa_compose.specs.declared.configuration.Conf.{Conf}
use Rattle.ioa_compose.proofs.Components.{name_found}
use Rattle.ioa_compose.proofs.SameConfs.{same_conf_is}
use Rattle.ioa_commits.specs.Books.{PlainBook, held_of, states_held}
use Rattle.ioa_book.specs.Looks.{snapshot_after}
use Rattle.ioa_commits.specs.Commits.{first_refusal, full, refusal_by, refusal_of}
use Rattle.ioa_index.specs.Own.{concerns}
use Rattle.ioa_commits.specs.Proposals.{plain_proposal}
use Rattle.ioa_book.specs.Proposals.{find_read, one_or_none, proposal_answer, reads_at, reads_held}
use Rattle.ioa_commits.specs.Versions.{PlainVersionedConf, read_confs, with_version}
use Rattle.ioa_commits.specs.declared.standing.Test.{Test}
use Rattle.ioa_commits.specs.declared.standing.Test.TheVariants.{Known, Current, Same}
use Rattle.ioa_commits.proofs.Commits.{confs_among}
use Rattle.ioa_book.proofs.FoundReads.{found_conf}

-- the configurations that a look shows are those that the node has to do with
pub confs_shown : (b : PlainBook) (n : ℤ) → read_confs (snapshot_after n b.start b.log).reads ≡ filter (λ c. concerns n (component_of c)) (states_held b)
confs_shown b n = confs_among b.log (filter (λ c. concerns n (component_of c)) (states_held b))

-- each component that the node has to do with is read as it is
read_seen : (n : ℤ) (log : List PlainEntry) (k : Component) (cs : List Conf) → concerns n k ≡ true → find_read k (map (with_version log) (filter (λ c. concerns n (component_of c)) cs)) ≡ option_map (with_version log) (find_conf k cs)
read_seen n log k [] own = refl
read_seen n log k (c ∷ cs) own = by_own (concerns n (component_of c)) refl (read_seen n log k cs own)
  where
    rest : List Conf
    rest = filter (λ d. concerns n (component_of d)) cs

    by_name : (b : Bool) → find_read k (map (with_version log) rest) ≡ option_map (with_version log) (find_conf k cs) →
        cond b (Some (with_version log c)) (find_read k (map (with_version log) rest)) ≡ option_map (with_version log) (cond b (Some c) (find_conf k cs))
    by_name true further = refl
    by_name false further = further

    by_own : (t : Bool) → concerns n (component_of c) ≡ t → find_read k (map (with_version log) rest) ≡ option_map (with_version log) (find_conf k cs) →
        find_read k (map (with_version log) (if t then c ∷ rest else rest)) ≡ option_map (with_version log) (cond (same_component k (component_of c)) (Some c) (find_conf k cs))
    by_own true e further = by_name (same_component k (component_of c)) further
    by_own false e further = by_other (same_component k (component_of c)) refl
      where
        by_other : (b : Bool) → same_component k (component_of c) ≡ b → find_read k (map (with_version log) rest) ≡ option_map (with_version log) (cond b (Some c) (find_conf k cs))
        by_other true same = let one : k ≡ component_of c = (Decides-same_component k (component_of c)).0 same in let owned : concerns n (component_of c) ≡ true = rw (← one) own in absurd (cc)
        by_other false same = further

-- the configuration is that of what was read
conf_of_read : (log : List PlainEntry) (o : Option Conf) → option_map (λ r. r.conf) (option_map (with_version log) o) ≡ o
conf_of_read log None = refl
conf_of_read log (Some c) = refl

pub conf_seen : (b : PlainBook) (n : ℤ) (k : Component) → concerns n k ≡ true → find_conf k (read_confs (snapshot_after n b.start b.log).reads) ≡ find_conf k (states_held b)
conf_seen b n k own =
    found_conf k (snapshot_after n b.start b.log).reads
    ∙ ap (λ (o : Option PlainVersionedConf). option_map (λ r. r.conf) o) (read_seen n b.log k (states_held b) own)
    ∙ conf_of_read b.log (find_conf k (states_held b))

or_true : (s t : Bool) → t ≡ true → (s || t) ≡ true
or_true true t h = refl
or_true false t h = h

-- the node of an action has to do with each participant
own_parts : (a : Action) → AllByRecursion (λ k. concerns (node_of a) k ≡ true) (participants_of a)
own_parts (Send m i j) = (rw (same_component-itself (component.Node i)) refl, (same_component-itself (component.Node i), tt))
own_parts (Receive m i j) = (or_true (int_eq i j) (int_eq j j) (same_component-itself (component.Node j)), (same_component-itself (component.Node j), tt))
own_parts (Local a) = (same_component-itself (component.Node a.node), tt)
own_parts (Stimulus a) = (same_component-itself (component.Node a.node), (same_component-itself (component.Node a.node), tt))

all_seen : (b : PlainBook) (n : ℤ) (ks : List Component) → AllByRecursion (λ k. concerns n k ≡ true) ks → find_confs ks (read_confs (snapshot_after n b.start b.log).reads) ≡ find_confs ks (states_held b)
all_seen b n [] own = refl
all_seen b n (k ∷ ks) own = λ i. conf_seen b n k own.0 i ∷ all_seen b n ks own.1 i

all_read : (b : PlainBook) (n : ℤ) (ks : List Component) → AllByRecursion (λ k. concerns n k ≡ true) ks → reads_at ks (snapshot_after n b.start b.log).reads ≡ reads_held b ks
all_read b n [] own = refl
all_read b n (k ∷ ks) own = λ i. one_or_none (read_seen n b.log k (states_held b) own.0 i) ++ all_read b n ks own.1 i

-- so a proposal is made of what the book holds
pub fresh_proposal : (b : PlainBook) (n : ℤ) (a : Action) → int_eq (node_of a) n ≡ true →
    proposal_answer a (snapshot_after n b.start b.log) ≡ and_then (picks_of a (find_confs (participants_of a) (states_held b))) (λ t. Ok (plain_proposal t.0 (length b.log) (reads_held b (participants_of a))))
fresh_proposal b n a h =
    let one : node_of a ≡ n = by_node ((Decides-same_component (component.Node (node_of a)) (component.Node n)).0 h) in
    let own : AllByRecursion (λ k. concerns n k ≡ true) (participants_of a) = subst (λ (m : ℤ). AllByRecursion (λ k. concerns m k ≡ true) (participants_of a)) one (own_parts a) in
    rw (h, all_seen b n (participants_of a) own, all_read b n (participants_of a) own) refl
  where
    by_node : component.Node (node_of a) ≡ component.Node n → node_of a ≡ n
    by_node e = cc

-- what is held stands
one_stands : (test : Test) (log : List PlainEntry) (c : Conf) → refusal_by test (with_version log c) (Some (with_version log c)) ≡ None
one_stands Known log c = refl
one_stands Current log c = rw (nat_eq_equiv.refl (with_version log c).version) refl
one_stands Same log c = rw ((same_conf_is c c).1 refl) refl

test_stands : (test : Test) (b : PlainBook) (ks : List Component) → first_refusal test b (reads_held b ks) ≡ None
test_stands test b [] = refl
test_stands test b (k ∷ ks) = by_found (find_conf k (states_held b)) refl (test_stands test b ks)
  where
    by_found : (o : Option Conf) → find_conf k (states_held b) ≡ o → first_refusal test b (reads_held b ks) ≡ None → first_refusal test b (one_or_none (option_map (with_version b.log) o) ++ reads_held b ks) ≡ None
    by_found None e further = further
    by_found (Some c) e further =
        let named : component_of c ≡ k = name_found k (states_held b) c e in
        let there : held_of b (component_of c) ≡ Some (with_version b.log c) =
        ap (λ (j : Component). option_map (with_version b.log) (find_conf j (states_held b))) named
        ∙ ap (λ (o : Option Conf). option_map (with_version b.log) o) e in
        rw (there, one_stands test b.log c) further

pub held_stands : (b : PlainBook) (ks : List Component) → refusal_of b (reads_held b ks) ≡ full b
held_stands b ks = rw (test_stands Known b ks, test_stands Current b ks, test_stands Same b ks) refl
