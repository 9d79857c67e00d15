-- Versions rise as a component takes part in an action.
use Rattle.std.proofs.Common.{◌≡◌, ◌+◌, ◌≤◌, ◌<◌, ℕ, suc, Bool, true, false, List, [], ◌∷◌, ◌++◌, Option, if◌then◌else◌, refl, sym, ap, subst, ◌∙◌, map, length, set, get_or, append_assoc, arith}
use Rattle.std.specs.Prelude.{◌&&◌, ◌||◌, filter, slice_get}
use Rattle.std.specs.Ordering.{int_eq}
use Rattle.std.proofs.Math.Seq.{set-append_seam}
use Rattle.std.proofs.lemmas.List.{length-append, set-get_or}
use Rattle.std.proofs.lemmas.Option.{slice_get_past, slice_get_read}
use Rattle.std.proofs.lemmas.List.Elements.{filter-append}
use Rattle.ioa_actions.specs.ActionParts.{node_of}
use Rattle.ioa_actions.specs.declared.action.Action.{Action}
use Rattle.ioa_actions.specs.declared.action.Action.TheVariants.{Send, Receive, Local, Stimulus}
use Rattle.ioa_actions.specs.declared.component.Component.{Component}
use Rattle.ioa_actions.specs.declared.component.Component.TheVariants.{Node, Channel, Script}
use Rattle.ioa_index.specs.Own.{concerns, own_slots}
use Rattle.ioa_transitions.specs.Entries.{PlainEntry}
use Rattle.ioa_compose.specs.Composition.{component_names, component_of}
use Rattle.ioa_compose.specs.Participants.{takes_part}
use Rattle.ioa_compose.specs.declared.configuration.Conf.{Conf}
use Rattle.ioa_commits.specs.Slots.{next_version, raise_at, raise_found, raise_one}
use Rattle.ioa_commits.specs.Versions.{PlainVersionedConf, read_component, version, with_version}
use Rattle.ioa_index.proofs.Slots.{get_behind, one_more}

-- the version after one more entry
pub version_push : (k : Component) (log : List PlainEntry) (e : PlainEntry) → version k (log ++ e ∷ []) ≡ (if takes_part k e.action then version k log + 1 else version k log)
version_push k log e =
    ap length (filter-append (λ d. takes_part k d.action) log (e ∷ []))
    ∙ length-append (filter (λ d. takes_part k d.action) log) (filter (λ d. takes_part k d.action) (e ∷ []))
    ∙ by_test (takes_part k e.action)
  where
    by_test : (b : Bool) → length (filter (λ d. takes_part k d.action) log) + length (if b then e ∷ [] else []) ≡ (if b then version k log + 1 else version k log)
    by_test true = refl
    by_test false = omega arith

-- no version is above the length of the log
filter_within : (p : PlainEntry → Bool) (log : List PlainEntry) → length (filter p log) ≤ length log
filter_within p [] = omega arith
filter_within p (e ∷ log) = by_test (p e) (filter_within p log)
  where
    by_test : (b : Bool) → length (filter p log) ≤ length log → length (if b then e ∷ filter p log else filter p log) ≤ suc (length log)
    by_test true h = omega (arith, h)
    by_test false h = omega (arith, h)

-- so the next one is one more
next_is : (v n : ℕ) → v ≤ n → n ≤ 1000000 → next_version v ≡ v + 1
next_is v n h k = omega (arith, h, k)

left_true : (s t : Bool) → (s && t) ≡ true → s ≡ true
left_true true t h = refl
left_true false t h = absurd (cc)

right_true : (s t : Bool) → (s && t) ≡ true → t ≡ true
right_true true t h = h
right_true false t h = absurd (cc)

or_left : (s t : Bool) → s ≡ true → (s || t) ≡ true
or_left true t h = refl
or_left false t h = absurd (cc)

or_right : (s t : Bool) → t ≡ true → (s || t) ≡ true
or_right true t h = refl
or_right false t h = h

-- the node of an action has to do with each component that takes part
part_concerns : (k : Component) (a : Action) → takes_part k a ≡ true → concerns (node_of a) k ≡ true
part_concerns (Node k) a h = h
part_concerns (Channel i j) (Send m from to) h = or_left (int_eq i from) (int_eq j from) (left_true (int_eq i from) (int_eq j to) h)
part_concerns (Channel i j) (Receive m from to) h = or_right (int_eq i to) (int_eq j to) (right_true (int_eq i from) (int_eq j to) h)
part_concerns (Channel i j) (Local a) h = absurd (cc)
part_concerns (Channel i j) (Stimulus a) h = absurd (cc)
part_concerns (Script k) (Send m from to) h = absurd (cc)
part_concerns (Script k) (Receive m from to) h = absurd (cc)
part_concerns (Script k) (Local a) h = absurd (cc)
part_concerns (Script k) (Stimulus a) h = h

module _ (entry : PlainEntry) (log : List PlainEntry) (small : length log ≤ 1000000) where
  abbrev pub after : List PlainEntry
  after = log ++ entry ∷ []

  -- a component that takes part gets its version, and one that does not keeps it
  pub raised_one : (c : Conf) → raise_one entry.action (with_version log c) ≡ with_version after c
  raised_one c = by_test (takes_part (component_of c) entry.action) (version_push (component_of c) log entry)
    where
      by_test : (b : Bool) → version (component_of c) after ≡ (if b then version (component_of c) log + 1 else version (component_of c) log) →
          (if b then record { conf = c; version = next_version (version (component_of c) log) } else with_version log c) ≡ with_version after c
      by_test true e = ap (λ (v : ℕ). record { conf = c; version = v }) (next_is (version (component_of c) log) (length log) (filter_within (λ d. takes_part (component_of c) d.action) log) small ∙ sym e)
      by_test false e = ap (λ (v : ℕ). record { conf = c; version = v }) (sym e)

  unconcerned : (c : Conf) → concerns (node_of entry.action) (component_of c) ≡ false → with_version log c ≡ with_version after c
  unconcerned c h = by_test (takes_part (component_of c) entry.action) refl (version_push (component_of c) log entry)
    where
      by_test : (b : Bool) → takes_part (component_of c) entry.action ≡ b → version (component_of c) after ≡ (if b then version (component_of c) log + 1 else version (component_of c) log) → with_version log c ≡ with_version after c
      by_test true t e = let own = part_concerns (component_of c) entry.action t in absurd (cc)
      by_test false t e = ap (λ (v : ℕ). record { conf = c; version = v }) (sym e)

  -- the versions of all components rise as they should, if those of the entry's node are raised
  own_raised : (front : List PlainVersionedConf) (cs : List Conf) → raise_at entry.action (own_slots (node_of entry.action) (length front) (component_names cs)) (front ++ map (with_version log) cs) ≡ front ++ map (with_version after) cs
  own_raised front [] = refl
  own_raised front (c ∷ cs) = by_test (concerns (node_of entry.action) (component_of c)) refl (own_raised (front ++ with_version after c ∷ []) cs)
    where
      slots : List ℕ
      slots = own_slots (node_of entry.action) (suc (length front)) (component_names cs)

      all : List PlainVersionedConf
      all = front ++ with_version log c ∷ map (with_version log) cs

      by_test : (b : Bool) → concerns (node_of entry.action) (component_of c) ≡ b →
          raise_at entry.action (own_slots (node_of entry.action) (length (front ++ with_version after c ∷ [])) (component_names cs)) ((front ++ with_version after c ∷ []) ++ map (with_version log) cs) ≡ (front ++ with_version after c ∷ []) ++ map (with_version after) cs →
          raise_at entry.action (if b then length front ∷ slots else slots) all ≡ front ++ with_version after c ∷ map (with_version after) cs
      by_test b e further =
          by_case b e (rw (one_more front (with_version after c), append_assoc front (with_version after c ∷ []) (map (with_version log) cs), append_assoc front (with_version after c ∷ []) (map (with_version after) cs)) at further)
        where
          by_case : (b : Bool) → concerns (node_of entry.action) (component_of c) ≡ b → raise_at entry.action slots (front ++ with_version after c ∷ map (with_version log) cs) ≡ front ++ with_version after c ∷ map (with_version after) cs →
              raise_at entry.action (if b then length front ∷ slots else slots) all ≡ front ++ with_version after c ∷ map (with_version after) cs
          by_case true e moved =
              ap (λ (o : Option PlainVersionedConf). raise_at entry.action slots (raise_found entry.action (length front) o all)) (get_behind front (with_version log c) (map (with_version log) cs))
              ∙ ap (λ (hs : List PlainVersionedConf). raise_at entry.action slots hs) (ap (λ (h : PlainVersionedConf). set all (length front) h) (raised_one c) ∙ set-append_seam front (with_version log c) (map (with_version log) cs) (with_version after c))
              ∙ moved
          by_case false e moved = subst (λ (h : PlainVersionedConf). raise_at entry.action slots (front ++ h ∷ map (with_version log) cs) ≡ front ++ with_version after c ∷ map (with_version after) cs) (sym (unconcerned c e)) moved

  pub raised : (cs : List Conf) → raise_at entry.action (own_slots (node_of entry.action) 0 (component_names cs)) (map (with_version log) cs) ≡ map (with_version after) cs
  raised cs = own_raised [] cs

-- a slot that is not there is not raised
pub nothing_there : (a : Action) (held : List PlainVersionedConf) (slot : ℕ) → length held ≤ slot → held ≡ raise_found a slot (slice_get held slot) held
nothing_there a held slot past = rw (slice_get_past held slot past) refl

-- nor is a component that takes no part
pub not_raised : (a : Action) (held : List PlainVersionedConf) (slot : ℕ) (h : PlainVersionedConf) → slot < length held → h ≡ get_or held slot h → takes_part (read_component h) a ≡ false → held ≡ raise_found a slot (slice_get held slot) held
not_raised a held slot h within is e =
    rw (slice_get_read held (length held) slot h refl within is, e)
    (subst (λ (x : PlainVersionedConf). held ≡ set held slot x) (sym is) (sym (set-get_or held slot h)))
