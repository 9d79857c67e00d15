-- What a pass finds and raises by the slot in which a component stands.
use Rattle.std.proofs.Common.{◌≡◌, ◌+◌, ◌<◌, ℕ, zero, suc, Bool, true, false, List, [], ◌∷◌, ◌++◌, Option, Some, None, refl, sym, ap, subst, ◌∙◌, length, append_assoc, arith}
use Rattle.std.specs.Prelude.{cond, if◌then◌else◌, pos, set, slice_get}
use Rattle.std.specs.List.{position_from}
use Rattle.std.specs.Option.{option_map}
use Rattle.std.proofs.lemmas.Bool.{le-ltb}
use Rattle.std.proofs.lemmas.List.{length-append, set-get_or}
use Rattle.std.proofs.lemmas.Option.{get_or_from_slice_get, slice_get-map}
use Rattle.ioa_actions.specs.ComponentOrder.{same_component}
use Rattle.ioa_actions.specs.declared.component.Component.{Component}
use Rattle.ioa_actions.specs.declared.component.Component.TheVariants as variant
use Rattle.ioa_index.specs.Indexes.{IsFirst}
use Rattle.ioa_commits.specs.Versions.{PlainVersionedConf, read_component}
use Rattle.ioa_passes.specs.Passes.{IsSeen, PlainPass, components_seen, older_read, plain_pass, raise_place, raise_seen}
use Rattle.ioa_passes.specs.Passes.{risen, seen_at, seen_in, seen_of, unseen}
use Rattle.ioa_passes.specs.declared.pass.Seen.{Seen}

-- an item behind others is in the slot of their number
get_behind : (front : List Seen) (s : Seen) (more : List Seen) → seen_in (front ++ s ∷ more) (length front) ≡ s
get_behind [] s more = refl
get_behind (t ∷ front) s more = get_behind front s more

set_behind : (front : List Seen) (s t : Seen) (more : List Seen) → set (front ++ s ∷ more) (length front) t ≡ front ++ t ∷ more
set_behind [] s t more = refl
set_behind (u ∷ front) s t more = λ i. u ∷ set_behind front s t more i

-- one more in front is one slot more
one_more : (front : List Seen) (s : Seen) → length front + 1 ≡ length (front ++ s ∷ [])
one_more front s = omega (arith, length-append front (s ∷ []))

module _ (k : Component) where
  -- the slot in which the component stands first, behind others
  found_behind : (front seen : List Seen) (m : ℕ) → position_from (λ j. same_component k j) (length front) (components_seen seen) ≡ Some m → seen_of k seen ≡ (seen_in (front ++ seen) m).version
  found_behind front [] m h = absurd (cc)
  found_behind front (s ∷ more) m h = by_test (same_component k s.component) h (found_behind (front ++ s ∷ []) more m)
    where
      by_test : (b : Bool) → cond b (Some (length front)) (position_from (λ j. same_component k j) (length front + 1) (components_seen more)) ≡ Some m →
          (position_from (λ j. same_component k j) (length (front ++ s ∷ [])) (components_seen more) ≡ Some m → seen_of k more ≡ (seen_in ((front ++ s ∷ []) ++ more) m).version) →
          (if b then s.version else seen_of k more) ≡ (seen_in (front ++ s ∷ more) m).version
      by_test true g further = let here : length front ≡ m = cc in rw (← here, get_behind front s more) refl
      by_test false g further =
          let split : (front ++ s ∷ []) ++ more ≡ front ++ s ∷ more = append_assoc front (s ∷ []) more in
          subst (λ (ss : List Seen). seen_of k more ≡ (seen_in ss m).version) split
          (further (subst (λ (n : ℕ). position_from (λ j. same_component k j) n (components_seen more) ≡ Some m) (one_more front s) g))

  raised_behind : (v : ℕ) (front seen : List Seen) (m : ℕ) → position_from (λ j. same_component k j) (length front) (components_seen seen) ≡ Some m → raise_place v m (front ++ seen) ≡ front ++ raise_seen k v seen
  raised_behind v front [] m h = absurd (cc)
  raised_behind v front (s ∷ more) m h = by_test (same_component k s.component) h (raised_behind v (front ++ s ∷ []) more m)
    where
      by_test : (b : Bool) → cond b (Some (length front)) (position_from (λ j. same_component k j) (length front + 1) (components_seen more)) ≡ Some m →
          (position_from (λ j. same_component k j) (length (front ++ s ∷ [])) (components_seen more) ≡ Some m →
          raise_place v m ((front ++ s ∷ []) ++ more) ≡ (front ++ s ∷ []) ++ raise_seen k v more) →
          raise_place v m (front ++ s ∷ more) ≡ front ++ (if b then risen v s ∷ more else s ∷ raise_seen k v more)
      by_test true g further =
          let here : length front ≡ m = cc in
          rw (← here, get_behind front s more) (set_behind front s (risen v s) more)
      by_test false g further =
          let split : (front ++ s ∷ []) ++ more ≡ front ++ s ∷ more = append_assoc front (s ∷ []) more in
          subst (λ (ss : List Seen). raise_place v m ss ≡ front ++ s ∷ raise_seen k v more) split
          (further (subst (λ (n : ℕ). position_from (λ j. same_component k j) n (components_seen more) ≡ Some m) (one_more front s) g)
          ∙ append_assoc front (s ∷ []) (raise_seen k v more))

  -- one that stands nowhere
  none_from : (n : ℕ) (v : ℕ) (seen : List Seen) → position_from (λ j. same_component k j) n (components_seen seen) ≡ None → (seen_of k seen ≡ 0) × (raise_seen k v seen ≡ seen)
  none_from n v [] h = (refl, refl)
  none_from n v (s ∷ more) h = by_test (same_component k s.component) h (none_from (n + 1) v more)
    where
      by_test : (b : Bool) → cond b (Some n) (position_from (λ j. same_component k j) (n + 1) (components_seen more)) ≡ None →
          (position_from (λ j. same_component k j) (n + 1) (components_seen more) ≡ None → (seen_of k more ≡ 0) × (raise_seen k v more ≡ more)) →
          ((if b then s.version else seen_of k more) ≡ 0) × ((if b then risen v s ∷ more else s ∷ raise_seen k v more) ≡ s ∷ more)
      by_test true g further = absurd (cc)
      by_test false g further = ((further g).0, λ i. s ∷ (further g).1 i)

  -- a slot is one of the list
  within_from : (n m : ℕ) (seen : List Seen) → position_from (λ j. same_component k j) n (components_seen seen) ≡ Some m → m < n + length seen
  within_from n m [] h = absurd (cc)
  within_from n m (s ∷ more) h = by_test (same_component k s.component) h (within_from (n + 1) m more)
    where
      by_test : (b : Bool) → cond b (Some n) (position_from (λ j. same_component k j) (n + 1) (components_seen more)) ≡ Some m →
          (position_from (λ j. same_component k j) (n + 1) (components_seen more) ≡ Some m → m < (n + 1) + length more) → m < n + suc (length more)
      by_test true g further = let here : n ≡ m = cc in omega (arith, here)
      by_test false g further = let behind : m < (n + 1) + length more = further g in omega (arith, behind)

  -- what an index of the components tells of the component
  module _ (seen : List Seen) (ks : List Component) (indexed : ks ≡ components_seen seen) (r : Option ℕ) (told : r ≡ position_from (λ j. same_component k j) 0 ks) where
    stands : position_from (λ j. same_component k j) 0 (components_seen seen) ≡ r
    stands = rw (← indexed) (sym told)

    pub found_within : (m : ℕ) → r ≡ Some m → m < length seen
    found_within m is = let within : m < 0 + length seen = within_from 0 m seen (stands ∙ is) in omega (arith, within)

    pub found_seen : (m : ℕ) → r ≡ Some m → (seen_in seen m).version ≡ seen_of k seen
    found_seen m is = sym (found_behind [] seen m (stands ∙ is))

    pub found_raised : (m v n : ℕ) → r ≡ Some m → plain_pass (raise_place v m seen) n ≡ plain_pass (raise_seen k v seen) n
    found_raised m v n is = ap (λ (ss : List Seen). plain_pass ss n) (raised_behind v [] seen m (stands ∙ is))

    pub lost_seen : r ≡ None → 0 ≡ seen_of k seen
    lost_seen is = sym (none_from 0 0 seen (stands ∙ is)).0

    pub lost_raised : (v n : ℕ) → r ≡ None → plain_pass seen n ≡ plain_pass (raise_seen k v seen) n
    lost_raised v n is = ap (λ (ss : List Seen). plain_pass ss n) (sym (none_from 0 v seen (stands ∙ is)).1)

-- what was seen in a slot that is its component's first, if that is what was read, is all that was seen of it
pub seen_here : (seen : List Seen) (ks : List Component) (r : PlainVersionedConf) (slot : ℕ) →
    ks ≡ components_seen seen → IsFirst ks slot → slice_get seen slot ≡ Some (seen_at (read_component r) r.version) → IsSeen seen r
seen_here seen ks r slot indexed first here =
    let k = read_component r in
    let s = seen_at k r.version in
    let none = unseen (variant.Node (pos 0)) in
    let named : slice_get ks slot ≡ Some k =
    rw indexed (slice_get-map (λ x. x.component) seen slot ∙ ap (λ o. option_map (λ x. x.component) o) here) in
    let at : position_from (λ j. same_component k j) 0 ks ≡ Some slot = first k named in
    let told : position_from (λ j. same_component k j) 0 ks ≡ position_from (λ j. same_component k j) 0 ks = refl in
    let stands : seen_in seen slot ≡ s = get_or_from_slice_get seen slot s none here in
    let version : seen_of k seen ≡ r.version =
    sym (found_seen k seen ks indexed _ told slot at) ∙ ap (λ (x : Seen). x.version) stands in
    let raised : raise_place r.version slot seen ≡ raise_seen k r.version seen =
    ap (λ (p : PlainPass). p.seen) (found_raised k seen ks indexed _ told slot r.version 0 at) in
    let same : risen r.version (seen_in seen slot) ≡ seen_in seen slot =
    rw stands (ap (λ (v : ℕ). seen_at k v) (omega arith)) in
    let kept : raise_place r.version slot seen ≡ seen =
    ap (λ (x : Seen). set seen slot x) same ∙ set-get_or seen slot none in
    record { fresh = not_older version; same = sym raised ∙ kept }
  where
    not_older : seen_of (read_component r) seen ≡ r.version → older_read seen r ≡ None
    not_older version = rw (version, le-ltb r.version r.version (omega arith)) refl

-- the components stay
pub same_components : (v i : ℕ) (seen : List Seen) → components_seen (raise_place v i seen) ≡ components_seen seen
same_components v i [] = refl
same_components v zero (s ∷ more) = refl
same_components v (suc i) (s ∷ more) = λ j. s.component ∷ same_components v i more j
