-- Configurations that are put in place of others, with the versions that are there.
use Rattle.std.proofs.Common.{◌≡◌, ◌+◌, ◌<◌, ℕ, Bool, true, false, List, [], ◌∷◌, ◌++◌, Some, None, if◌then◌else◌, refl, sym, ap, subst, ◌∙◌, map, length, set, append_assoc, arith}
use Rattle.std.specs.Prelude.{cond, slice_get}
use Rattle.std.specs.List.{position_from}
use Rattle.std.proofs.Math.Seq.{set-append_seam}
use Rattle.std.proofs.lemmas.List.{length-append}
use Rattle.ioa_actions.specs.ComponentOrder.{same_component}
use Rattle.ioa_actions.specs.declared.component.Component.{Component}
use Rattle.ioa_actions.proofs.SameComponents.{Decides-same_component}
use Rattle.ioa_transitions.specs.Entries.{PlainEntry}
use Rattle.ioa_compose.specs.Composition.{component_of, put_conf, put_confs}
use Rattle.ioa_compose.specs.declared.configuration.Conf.{Conf}
use Rattle.ioa_commits.specs.Slots.{put_all_held, put_held}
use Rattle.ioa_commits.specs.Versions.{PlainVersionedConf, read_component, version, with_version}
use Rattle.ioa_index.proofs.Slots.{get_behind, one_more}

-- a configuration is put at the slot of its component
pub record IsPutAt (d : Conf) (held : List PlainVersionedConf) (m : ℕ) (left : List PlainVersionedConf) : Type 0 where
  pub within : m < length held
  pub at : (h : PlainVersionedConf) → slice_get held m ≡ Some h → set held m (record { conf = d; version = h.version }) ≡ left

put_position : (d : Conf) (front held : List PlainVersionedConf) (m : ℕ) → position_from (λ k. same_component (component_of d) k) (length front) (map read_component held) ≡ Some m → IsPutAt d (front ++ held) m (front ++ put_held d held)
put_position d front [] m h = absurd (cc)
put_position d front (x ∷ held) m h = by_test (same_component (component_of d) (read_component x)) refl h (put_position d (front ++ x ∷ []) held m)
  where
    put : PlainVersionedConf
    put = record { conf = d; version = x.version }

    by_test : (b : Bool) → same_component (component_of d) (read_component x) ≡ b → cond b (Some (length front)) (position_from (λ k. same_component (component_of d) k) (length front + 1) (map read_component held)) ≡ Some m →
        (position_from (λ k. same_component (component_of d) k) (length (front ++ x ∷ [])) (map read_component held) ≡ Some m → IsPutAt d ((front ++ x ∷ []) ++ held) m ((front ++ x ∷ []) ++ put_held d held)) →
        IsPutAt d (front ++ x ∷ held) m (front ++ (if b then put ∷ held else x ∷ put_held d held))
    by_test true e g further =
        let here : length front ≡ m = cc in
        record {
          within = rw (← here) (omega (arith, length-append front (x ∷ held)));
          at = λ h found. let found_here : slice_get (front ++ x ∷ held) (length front) ≡ Some h = rw here found in let same : x ≡ h = by_get h found_here in rw (← same, ← here) (set-append_seam front x held put);
        }
      where
        by_get : (h : PlainVersionedConf) → slice_get (front ++ x ∷ held) (length front) ≡ Some h → x ≡ h
        by_get h found = let twice : Some x ≡ Some h = sym (get_behind front x held) ∙ found in cc
    by_test false e g further =
        let next : length front + 1 ≡ length (front ++ x ∷ []) = omega (arith, one_more front x) in
        let last = further (subst (λ (n : ℕ). position_from (λ k. same_component (component_of d) k) n (map read_component held) ≡ Some m) next g) in
        subst (λ (ys : List PlainVersionedConf). IsPutAt d ys m (front ++ x ∷ put_held d held)) (append_assoc front (x ∷ []) held)
        (subst (λ (ys : List PlainVersionedConf). IsPutAt d ((front ++ x ∷ []) ++ held) m ys) (append_assoc front (x ∷ []) (put_held d held)) last)

pub put_at : (d : Conf) (held : List PlainVersionedConf) (m : ℕ) → position_from (λ k. same_component (component_of d) k) 0 (map read_component held) ≡ Some m → IsPutAt d held m (put_held d held)
put_at d held m h = put_position d [] held m h

-- one that has no slot is put nowhere
pub put_nowhere : (d : Conf) (n : ℕ) (held : List PlainVersionedConf) → position_from (λ k. same_component (component_of d) k) n (map read_component held) ≡ None → put_held d held ≡ held
put_nowhere d n [] h = refl
put_nowhere d n (x ∷ held) h = by_test (same_component (component_of d) (read_component x)) h (λ g. put_nowhere d (n + 1) held g)
  where
    by_test : (b : Bool) → cond b (Some n) (position_from (λ k. same_component (component_of d) k) (n + 1) (map read_component held)) ≡ None →
        (position_from (λ k. same_component (component_of d) k) (n + 1) (map read_component held) ≡ None → put_held d held ≡ held) →
        (if b then record { conf = d; version = x.version } ∷ held else x ∷ put_held d held) ≡ x ∷ held
    by_test true g further = absurd (cc)
    by_test false g further = ap (λ (hs : List PlainVersionedConf). x ∷ hs) (further g)

-- the components stay
pub put_components : (d : Conf) (held : List PlainVersionedConf) → map read_component (put_held d held) ≡ map read_component held
put_components d [] = refl
put_components d (x ∷ held) = by_test (same_component (component_of d) (read_component x)) refl (put_components d held)
  where
    by_test : (b : Bool) → same_component (component_of d) (read_component x) ≡ b → map read_component (put_held d held) ≡ map read_component held → map read_component (if b then record { conf = d; version = x.version } ∷ held else x ∷ put_held d held) ≡ read_component x ∷ map read_component held
    by_test true e further = ap (λ (k : Component). k ∷ map read_component held) ((Decides-same_component (component_of d) (read_component x)).0 e)
    by_test false e further = ap (λ (ks : List Component). read_component x ∷ ks) further

-- one more is put after the others
pub put_all-push : (ds : List Conf) (d : Conf) (held : List PlainVersionedConf) → put_all_held (ds ++ d ∷ []) held ≡ put_held d (put_all_held ds held)
put_all-push [] d held = refl
put_all-push (e ∷ ds) d held = put_all-push ds d (put_held e held)

-- a configuration that is put has the version of its component
put_version : (log : List PlainEntry) (d : Conf) (cs : List Conf) → put_held d (map (with_version log) cs) ≡ map (with_version log) (put_conf d cs)
put_version log d [] = refl
put_version log d (c ∷ cs) = by_test (same_component (component_of d) (component_of c)) refl (put_version log d cs)
  where
    by_test : (b : Bool) → same_component (component_of d) (component_of c) ≡ b → put_held d (map (with_version log) cs) ≡ map (with_version log) (put_conf d cs) →
        (if b then record { conf = d; version = version (component_of c) log } ∷ map (with_version log) cs else with_version log c ∷ put_held d (map (with_version log) cs))
        ≡ map (with_version log) (if b then d ∷ cs else c ∷ put_conf d cs)
    by_test true e further = ap (λ (k : Component). record { conf = d; version = version k log } ∷ map (with_version log) cs) (sym ((Decides-same_component (component_of d) (component_of c)).0 e))
    by_test false e further = ap (λ (hs : List PlainVersionedConf). with_version log c ∷ hs) further

pub put_all_versions : (log : List PlainEntry) (ds cs : List Conf) → put_all_held ds (map (with_version log) cs) ≡ map (with_version log) (put_confs ds cs)
put_all_versions log [] cs = refl
put_all_versions log (d ∷ ds) cs = ap (λ (hs : List PlainVersionedConf). put_all_held ds hs) (put_version log d cs) ∙ put_all_versions log ds (put_conf d cs)

-- the slot of a component's name, and none
pub put_slot : (d : Conf) (k : Component) (held : List PlainVersionedConf) (ks : List Component) (m : ℕ) → k ≡ component_of d → ks ≡ map read_component held → Some m ≡ position_from (λ j. same_component k j) 0 ks → IsPutAt d held m (put_held d held)
put_slot d k held ks m name components found = put_at d held m (rw (name, components) at (sym found))

pub put_none : (d : Conf) (k : Component) (held : List PlainVersionedConf) (ks : List Component) → k ≡ component_of d → ks ≡ map read_component held → None ≡ position_from (λ j. same_component k j) 0 ks → held ≡ put_held d held
put_none d k held ks name components found = sym (put_nowhere d 0 held (rw (name, components) at (sym found)))
