-- What a look reads by slots.
use Rattle.std.proofs.Common.{◌≡◌, ◌+◌, ◌<◌, ◌≤◌, ℕ, ℤ, suc, Bool, true, false, List, [], ◌∷◌, ◌++◌, Option, Some, if◌then◌else◌, refl, sym, ap, ◌∙◌, map, take, drop, get_or, length, append_assoc, arith}
use Rattle.std.specs.Prelude.{◌&&◌, filter, slice_get}
use Rattle.std.proofs.Math.Seq.{drop-cons}
use Rattle.std.proofs.lemmas.List.{take_more}
use Rattle.std.proofs.lemmas.Option.{get_or_from_slice_get, slice_get_within}
use Rattle.ioa_transitions.specs.Entries.{PlainEntry}
use Rattle.ioa_compose.specs.Composition.{component_names, component_of}
use Rattle.ioa_compose.specs.declared.configuration.Conf.{Conf}
use Rattle.ioa_commits.specs.Books.{PlainBook, states_held}
use Rattle.ioa_index.specs.Own.{concerns, own_slots}
use Rattle.ioa_commits.specs.Versions.{PlainVersionedConf, read_confs, with_version}
use Rattle.ioa_commits.proofs.Commits.{confs_among}
use Rattle.ioa_index.proofs.Slots.{get_behind, one_more}
use Rattle.ioa_book.specs.Looks.{IsLookAt, PlainSnapshot, plain_snapshot}
use Rattle.ioa_book.specs.Slots.{items_at, places_at}

-- what is in the slots of a node is what the node has to do with
own_items : (n : ℤ) (log : List PlainEntry) (front : List PlainVersionedConf) (cs : List Conf) → items_at (own_slots n (length front) (component_names cs)) (front ++ map (with_version log) cs) ≡ map (with_version log) (filter (λ c. concerns n (component_of c)) cs)
own_items n log front [] = refl
own_items n log front (c ∷ cs) = by_test (concerns n (component_of c)) (own_items n log (front ++ with_version log c ∷ []) cs)
  where
    all : List PlainVersionedConf
    all = front ++ with_version log c ∷ map (with_version log) cs

    rest : List PlainVersionedConf
    rest = map (with_version log) (filter (λ d. concerns n (component_of d)) cs)

    slots : List ℕ
    slots = own_slots n (suc (length front)) (component_names cs)

    by_test : (b : Bool) →
        items_at (own_slots n (length (front ++ with_version log c ∷ [])) (component_names cs)) ((front ++ with_version log c ∷ []) ++ map (with_version log) cs) ≡ rest →
        items_at (if b then length front ∷ slots else slots) all ≡ map (with_version log) (if b then c ∷ filter (λ d. concerns n (component_of d)) cs else filter (λ d. concerns n (component_of d)) cs)
    by_test b further =
        let moved : items_at slots all ≡ rest = rw (one_more front (with_version log c), append_assoc front (with_version log c ∷ []) (map (with_version log) cs)) at further in
        by_case b moved
      where
        by_case : (b : Bool) → items_at slots all ≡ rest →
            items_at (if b then length front ∷ slots else slots) all ≡ map (with_version log) (if b then c ∷ filter (λ d. concerns n (component_of d)) cs else filter (λ d. concerns n (component_of d)) cs)
        by_case true moved = rw (get_behind front (with_version log c) (map (with_version log) cs)) (ap (λ (rs : List PlainVersionedConf). with_version log c ∷ rs) moved)
        by_case false moved = moved

pub own_read : (n : ℤ) (log : List PlainEntry) (cs : List Conf) → items_at (own_slots n 0 (component_names cs)) (map (with_version log) cs) ≡ map (with_version log) (filter (λ c. concerns n (component_of c)) cs)
own_read n log cs = own_items n log [] cs

-- so a look is made of what is in the slots of its node
pub look_made : (b : PlainBook) (n : ℤ) (s : PlainSnapshot) (slots : List ℕ) (held : List PlainVersionedConf) → slots ≡ own_slots n 0 (component_names (states_held b)) →
    held ≡ map (with_version b.log) (states_held b) → s ≡ plain_snapshot n (length b.log) (items_at slots held) → IsLookAt b n s
look_made b n s slots held own is made = rw (made, own, is, own_read n b.log (states_held b)) refl

-- the configurations of all that is held
pub confs_held : (b : PlainBook) (held : List PlainVersionedConf) → held ≡ map (with_version b.log) (states_held b) → read_confs held ≡ states_held b
confs_held b held is = rw is (confs_among b.log (states_held b))

-- one slot after another is read: what comes into place i, in front of what is left to read
pub next_place : {A : Type 0} (slots : List ℕ) (i slot : ℕ) (held : List A) (old new : List (Option A)) (o : Option A) → i < length slots → slot ≡ get_or slots i slot →
    take i new ≡ take i old → slice_get new i ≡ Some o → o ≡ slice_get held slot → take i old ++ places_at (drop i slots) held ≡ places_at slots held →
    (i + 1 ≤ length new) × (take (i + 1) new ++ places_at (drop (i + 1) slots) held ≡ places_at slots held)
next_place slots i slot held old new o within is before here found so_far =
    let there : i < length new = slice_get_within new i o here in
    let one : i + 1 ≡ suc i = omega arith in
    let item : get_or new i o ≡ o = get_or_from_slice_get new i o o here in
    let next : drop i slots ≡ slot ∷ drop (suc i) slots = drop-cons slots i slot within ∙ ap (λ (n : ℕ). n ∷ drop (suc i) slots) (sym is) in
    let all : take i old ++ slice_get held slot ∷ places_at (drop (suc i) slots) held ≡ places_at slots held = rw next at so_far in
    (omega (arith, there), rw (take_more new i o there, item, found, one, before) (append_assoc (take i old) (slice_get held slot ∷ []) (places_at (drop (suc i) slots) held) ∙ all))

-- what stayed so far and stays in one more place is as it was
pub same_so_far : {A : Type 0} (so_far here : Bool) (xs ys zs : List A) → (so_far ≡ true → ys ≡ zs) → (here ≡ true → xs ≡ ys) → (so_far && here) ≡ true → xs ≡ zs
same_so_far true true xs ys zs h k e = k refl ∙ h refl
same_so_far true false xs ys zs h k e = absurd (cc)
same_so_far false here xs ys zs h k e = absurd (cc)
