-- A proposal is refused for no reason exactly if what was read stands.
use Rattle.std.proofs.Common.{◌≡◌, ◌<◌, ℕ, Bool, true, false, List, [], ◌∷◌, Option, Some, None, if◌then◌else◌, refl, sym, ap, ◌∙◌, length}
use Rattle.std.specs.Prelude.{◌↔◌, nat_eq}
use Rattle.std.specs.List.{AllByRecursion}
use Rattle.std.specs.Option.{option_map, option_or}
use Rattle.std.proofs.lemmas.Bool.{lt-ltb}
use Rattle.std.proofs.lemmas.Bool.Decides.{Decides-eqb}
use Rattle.ioa_actions.specs.declared.component.Component.{Component}
use Rattle.ioa_compose.specs.Composition.{component_of, find_conf}
use Rattle.ioa_compose.specs.SameConfs.{same_conf}
use Rattle.ioa_compose.specs.declared.configuration.Conf.{Conf}
use Rattle.ioa_compose.proofs.Components.{name_found}
use Rattle.ioa_compose.proofs.SameConfs.{same_conf_is}
use Rattle.ioa_commits.specs.Books.{PlainBook, held_of, states_held}
use Rattle.ioa_commits.specs.Commits.{StandsIn, differs_by, first_refusal, full, refusal_by, refusal_of, stale_by, unknown_by}
use Rattle.ioa_commits.specs.Versions.{PlainVersionedConf, read_component, version, with_version}
use Rattle.ioa_commits.specs.declared.outcome.CommitRefusal.TheVariants.{Differs, Stale}
use Rattle.ioa_commits.specs.declared.standing.Test.{Test}
use Rattle.ioa_commits.specs.declared.standing.Test.TheVariants.{Known, Current, Same}
use Rattle.ioa_commits.proofs.Commits.{none_first, room_left}

-- the three tests have nothing against what was read
record ArePassed (b : PlainBook) (r : PlainVersionedConf) : Type 0 where
  known : refusal_by Known r (held_of b (read_component r)) ≡ None
  current : refusal_by Current r (held_of b (read_component r)) ≡ None
  same : refusal_by Same r (held_of b (read_component r)) ≡ None

-- so it stands
stands_passed : (b : PlainBook) (r : PlainVersionedConf) → ArePassed b r → StandsIn b r
stands_passed b r passed = by_found (find_conf (read_component r) (states_held b)) refl passed.known passed.current passed.same
  where
    same_by : (c : Conf) (t : Bool) → same_conf r.conf c ≡ t → (if t then None else Some (Differs (read_component r))) ≡ None → r.conf ≡ c
    same_by c true e h = (same_conf_is r.conf c).0 e
    same_by c false e h = absurd (cc)

    version_by : (v : ℕ) (t : Bool) → nat_eq r.version v ≡ t → (if t then None else Some (Stale (read_component r) r.version v)) ≡ None → r.version ≡ v
    version_by v true e h = (Decides-eqb r.version v).0 e
    version_by v false e h = absurd (cc)

    by_found : (o : Option Conf) → find_conf (read_component r) (states_held b) ≡ o → unknown_by r (option_map (with_version b.log) o) ≡ None → stale_by r (option_map (with_version b.log) o) ≡ None →
        differs_by r (option_map (with_version b.log) o) ≡ None → StandsIn b r
    by_found None e known current same = absurd (cc)
    by_found (Some c) e known current same =
        let one : r.conf ≡ c = same_by c (same_conf r.conf c) refl same in
        let held : r.version ≡ version (component_of c) b.log = version_by (version (component_of c) b.log) (nat_eq r.version (version (component_of c) b.log)) refl current in
        record { held = c; there = e; version_read = held ∙ ap (λ (d : Conf). version (component_of d) b.log) (sym one); conf_read = one }

-- and what stands passes the tests
passed_stands : (b : PlainBook) (r : PlainVersionedConf) → StandsIn b r → (test : Test) → refusal_by test r (held_of b (read_component r)) ≡ None
passed_stands b r s Known = rw s.there refl
passed_stands b r s Current =
    let named : component_of s.held ≡ read_component r = name_found (read_component r) (states_held b) s.held s.there in
    let held : r.version ≡ version (component_of s.held) b.log = s.version_read ∙ ap (λ (k : Component). version k b.log) (sym named) in
    let equal : nat_eq r.version (version (component_of s.held) b.log) ≡ true = (Decides-eqb r.version (version (component_of s.held) b.log)).1 held in
    rw (s.there, equal) refl
passed_stands b r s Same = rw (s.there, (same_conf_is r.conf s.held).1 s.conf_read) refl

all_pass : (b : PlainBook) (rs : List PlainVersionedConf) → AllByRecursion (StandsIn b) rs → (test : Test) → first_refusal test b rs ≡ None
all_pass b [] all test = refl
all_pass b (r ∷ rs) all test = rw (passed_stands b r all.0 test, all_pass b rs all.1 test) refl

all_stand : (b : PlainBook) (rs : List PlainVersionedConf) → first_refusal Known b rs ≡ None → first_refusal Current b rs ≡ None → first_refusal Same b rs ≡ None → AllByRecursion (StandsIn b) rs
all_stand b [] h k l = tt
all_stand b (r ∷ rs) h k l =
    let known = none_first (refusal_by Known r (held_of b (read_component r))) (first_refusal Known b rs) h in
    let current = none_first (refusal_by Current r (held_of b (read_component r))) (first_refusal Current b rs) k in
    let same = none_first (refusal_by Same r (held_of b (read_component r))) (first_refusal Same b rs) l in
    (stands_passed b r (record { known = known.0; current = current.0; same = same.0 }), all_stand b rs known.1 current.1 same.1)

-- a book with room is not full
not_full : (b : PlainBook) → length b.log < b.limit → full b ≡ None
not_full b room = rw (lt-ltb (length b.log) b.limit room) refl

pub stands_exactly : (b : PlainBook) (rs : List PlainVersionedConf) → (refusal_of b rs ≡ None) ↔ (AllByRecursion (StandsIn b) rs × (length b.log < b.limit))
stands_exactly b rs = (forth, back)
  where
    forth : refusal_of b rs ≡ None → AllByRecursion (StandsIn b) rs × (length b.log < b.limit)
    forth accepted =
        let first = none_first (first_refusal Known b rs) (option_or (first_refusal Current b rs) (option_or (first_refusal Same b rs) (full b))) accepted in
        let second = none_first (first_refusal Current b rs) (option_or (first_refusal Same b rs) (full b)) first.1 in
        let third = none_first (first_refusal Same b rs) (full b) second.1 in
        (all_stand b rs first.0 second.0 third.0, room_left b third.1)

    back : AllByRecursion (StandsIn b) rs × (length b.log < b.limit) → refusal_of b rs ≡ None
    back all = rw (all_pass b rs all.0 Known, all_pass b rs all.0 Current, all_pass b rs all.0 Same) (not_full b all.1)
