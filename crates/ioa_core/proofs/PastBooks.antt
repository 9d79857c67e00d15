-- What a commit meets of what was read in the past: exactly what was touched since.
use Rattle.std.proofs.Common.{◌≡◌, ◌+◌, ◌<◌, ℕ, Bool, true, false, ◌||◌, List, [], ◌∷◌, ◌++◌, Option, Some, None}
use Rattle.std.proofs.Common.{if◌then◌else◌, refl, sym, ap, subst, ◌∙◌, take, drop, arith}
use Rattle.std.specs.Prelude.{cond, find, is_some, nat_eq}
use Rattle.std.specs.List.{list_any}
use Rattle.std.specs.Option.{is_none, option_map, option_or}
use Rattle.std.proofs.lemmas.Bool.{ne_eqb}
use Rattle.std.proofs.lemmas.Bool.Decides.{Decides-eqb}
use Rattle.ioa_lemmas.proofs.Filters.{length-filter-none, length-filter-some, length-filter-split}
use Rattle.ioa_actions.specs.declared.component.Component.{Component}
use Rattle.ioa_compose.specs.Composition.{component_of, find_conf, find_confs}
use Rattle.ioa_compose.specs.Executions.{replay}
use Rattle.ioa_compose.specs.Participants.{takes_part}
use Rattle.ioa_compose.specs.SameConfs.{same_conf}
use Rattle.ioa_compose.specs.declared.configuration.Conf.{Conf}
use Rattle.ioa_compose.proofs.Components.{name_found}
use Rattle.ioa_compose.proofs.SameConfs.{same_conf_is}
use Rattle.ioa_commits.specs.Books.{PlainBook, held_of, states_held}
use Rattle.ioa_commits.specs.Commits.{differs_by, first_refusal, full, refusal_of, stale_by, unknown_by}
use Rattle.ioa_commits.specs.Versions.{PlainVersionedConf, read_component, version, with_version}
use Rattle.ioa_commits.specs.declared.outcome.CommitRefusal.{CommitRefusal}
use Rattle.ioa_commits.specs.declared.outcome.CommitRefusal.TheVariants.{Stale}
use Rattle.ioa_commits.specs.declared.standing.Test.TheVariants.{Known, Current, Same}
use Rattle.ioa_commits.proofs.Commits.{held_is}
use Rattle.ioa_book.specs.Proposals.{one_or_none, reads_held}
use Rattle.ioa_core.specs.CommitLaws.{stale_at}
use Rattle.ioa_core.specs.Cores.{touched}
use Rattle.ioa_core.specs.Hands.{book_at}
use Rattle.ioa_core.proofs.Moments.{GoesBy, found_alike, goes_by, untouched_conf}

-- a component that has another version now, by its name and its versions
stale_named : (r h : PlainVersionedConf) (k : Component) (v u : ℕ) → read_component r ≡ k → r.version ≡ v → h.version ≡ u →
    stale_by r (Some h) ≡ (if nat_eq v u then None else Some (Stale k v u))
stale_named r h k v u name read held = rw (name, read, held) refl

none_of_two : {A : Type 0} (x y : Option A) → x ≡ None → y ≡ None → option_or x y ≡ None
none_of_two x y h g = rw (h, g) refl

-- the first of the reasons, if nothing is unknown, and nothing differs unless it is stale
first_reason : {A B : Type 0} (at : B → A) (x y z w : Option A) (o : Option B) → x ≡ None → y ≡ option_map at o → (o ≡ None → z ≡ None) →
    option_or x (option_or y (option_or z w)) ≡ option_or (option_map at o) w
first_reason at x y z w (Some k) h g s = rw (h, g) refl
first_reason at x y z w None h g s = rw (h, g, s refl) refl

module _ (b : PlainBook) (n : ℕ) (leads : replay b.log b.start ≡ Some (states_held b)) where
  passed : GoesBy n b.log b.start (states_held b)
  passed = goes_by n b.log b.start (states_held b) leads

  -- the configurations then, and what happened to them
  later : replay (drop n b.log) (states_held (book_at b n)) ≡ Some (states_held b)
  later =
      subst (λ (cs : List Conf). replay (drop n b.log) cs ≡ Some (states_held b))
      (sym (held_is b.start passed.mid (take n b.log) passed.before)) passed.behind

  still_there : (k : Component) (c : Conf) → find_conf k (states_held (book_at b n)) ≡ Some c → is_some (find_conf k (states_held b)) ≡ true
  still_there k c e = found_alike k (drop n b.log) (states_held (book_at b n)) (states_held b) later ∙ ap (λ (o : Option Conf). is_some o) e

  -- what is untouched has the version that it had
  unmoved : (k : Component) → touched b.log n k ≡ false → nat_eq (version k (take n b.log)) (version k b.log) ≡ true
  unmoved k apart =
      let split : version k b.log ≡ version k (take n b.log) + version k (drop n b.log) = length-filter-split (λ e. takes_part k e.action) n b.log in
      let none : version k (drop n b.log) ≡ 0 = length-filter-none (λ e. takes_part k e.action) (drop n b.log) apart in
      (Decides-eqb (version k (take n b.log)) (version k b.log)).1 (omega (arith, split, none))

  -- and what was touched has another
  moved : (k : Component) → touched b.log n k ≡ true → nat_eq (version k (take n b.log)) (version k b.log) ≡ false
  moved k part =
      let split : version k b.log ≡ version k (take n b.log) + version k (drop n b.log) = length-filter-split (λ e. takes_part k e.action) n b.log in
      let some : 0 < version k (drop n b.log) = length-filter-some (λ e. takes_part k e.action) (drop n b.log) part in
      ne_eqb (version k (take n b.log)) (version k b.log) (λ same. omega (arith, split, some, same))

  module _ (k : Component) (c : Conf) (found : find_conf k (states_held (book_at b n)) ≡ Some c) where
    abbrev read : PlainVersionedConf
    read = with_version (take n b.log) c

    named : component_of c ≡ k
    named = name_found k (states_held (book_at b n)) c found

    known_one : unknown_by read (held_of b (component_of c)) ≡ None
    known_one = subst (λ (j : Component). unknown_by read (held_of b j) ≡ None) (sym named) (by_now (find_conf k (states_held b)) (still_there k c found))
      where
        by_now : (o : Option Conf) → is_some o ≡ true → unknown_by read (option_map (with_version b.log) o) ≡ None
        by_now None h = absurd (cc)
        by_now (Some d) h = refl

    by_touched : (t : Bool) → touched b.log n k ≡ t →
        (if nat_eq (version k (take n b.log)) (version k b.log) then None else Some (stale_at b n k)) ≡ (if t then Some (stale_at b n k) else None)
    by_touched true e = rw (moved k e) refl
    by_touched false e = rw (unmoved k e) refl

    current_one : stale_by read (held_of b (component_of c)) ≡ (if touched b.log n k then Some (stale_at b n k) else None)
    current_one =
        subst (λ (j : Component). stale_by read (held_of b j) ≡ (if touched b.log n k then Some (stale_at b n k) else None)) (sym named)
        (by_now (find_conf k (states_held b)) refl (still_there k c found))
      where
        by_now : (o : Option Conf) → find_conf k (states_held b) ≡ o → is_some o ≡ true →
            stale_by read (option_map (with_version b.log) o) ≡ (if touched b.log n k then Some (stale_at b n k) else None)
        by_now None e h = absurd (cc)
        by_now (Some d) e h =
            stale_named read (with_version b.log d) k (version k (take n b.log)) (version k b.log) named
            (ap (λ (j : Component). version j (take n b.log)) named)
            (ap (λ (j : Component). version j b.log) (name_found k (states_held b) d e))
            ∙ by_touched (touched b.log n k) refl

    same_one : touched b.log n k ≡ false → differs_by read (held_of b (component_of c)) ≡ None
    same_one apart =
        let now : find_conf k (states_held b) ≡ Some c = untouched_conf k (drop n b.log) (states_held (book_at b n)) (states_held b) later apart ∙ found in
        let held : held_of b (component_of c) ≡ Some (with_version b.log c) =
        ap (λ (j : Component). held_of b j) named ∙ ap (λ (o : Option Conf). option_map (with_version b.log) o) now in
        subst (λ (o : Option PlainVersionedConf). differs_by read o ≡ None) (sym held) (by_same (same_conf c c) ((same_conf_is c c).1 refl))
      where
        by_same : (t : Bool) → same_conf c c ≡ true → differs_by read (Some (with_version b.log c)) ≡ None
        by_same t h = rw h refl

  all_known : (ks : List Component) → list_any is_none (find_confs ks (states_held (book_at b n))) ≡ false →
      first_refusal Known b (reads_held (book_at b n) ks) ≡ None
  all_known [] h = refl
  all_known (k ∷ ks) h = by_found (find_conf k (states_held (book_at b n))) refl h (all_known ks)
    where
      by_found : (o : Option Conf) → find_conf k (states_held (book_at b n)) ≡ o →
          (is_none o || list_any is_none (find_confs ks (states_held (book_at b n)))) ≡ false →
          (list_any is_none (find_confs ks (states_held (book_at b n))) ≡ false → first_refusal Known b (reads_held (book_at b n) ks) ≡ None) →
          first_refusal Known b (one_or_none (option_map (with_version (take n b.log)) o) ++ reads_held (book_at b n) ks) ≡ None
      by_found None e h further = absurd (cc)
      by_found (Some c) e h further =
          none_of_two (unknown_by (with_version (take n b.log) c) (held_of b (component_of c))) (first_refusal Known b (reads_held (book_at b n) ks))
          (known_one k c e) (further h)

  -- one of two, by what was touched
  touched_first : (t : Bool) (k : Component) (x y : Option CommitRefusal) (o : Option Component) → x ≡ (if t then Some (stale_at b n k) else None) →
      y ≡ option_map (stale_at b n) o → option_or x y ≡ option_map (stale_at b n) (cond t (Some k) o)
  touched_first true k x y o h g = rw h refl
  touched_first false k x y o h g = rw h g

  all_current : (ks : List Component) → list_any is_none (find_confs ks (states_held (book_at b n))) ≡ false →
      first_refusal Current b (reads_held (book_at b n) ks) ≡ option_map (stale_at b n) (find (touched b.log n) ks)
  all_current [] h = refl
  all_current (k ∷ ks) h = by_found (find_conf k (states_held (book_at b n))) refl h (all_current ks)
    where
      by_found : (o : Option Conf) → find_conf k (states_held (book_at b n)) ≡ o →
          (is_none o || list_any is_none (find_confs ks (states_held (book_at b n)))) ≡ false →
          (list_any is_none (find_confs ks (states_held (book_at b n))) ≡ false →
          first_refusal Current b (reads_held (book_at b n) ks) ≡ option_map (stale_at b n) (find (touched b.log n) ks)) →
          first_refusal Current b (one_or_none (option_map (with_version (take n b.log)) o) ++ reads_held (book_at b n) ks)
          ≡ option_map (stale_at b n) (cond (touched b.log n k) (Some k) (find (touched b.log n) ks))
      by_found None e h further = absurd (cc)
      by_found (Some c) e h further =
          touched_first (touched b.log n k) k
          (stale_by (with_version (take n b.log) c) (held_of b (component_of c))) (first_refusal Current b (reads_held (book_at b n) ks))
          (find (touched b.log n) ks) (current_one k c e) (further h)

  all_same : (ks : List Component) → list_any is_none (find_confs ks (states_held (book_at b n))) ≡ false → find (touched b.log n) ks ≡ None →
      first_refusal Same b (reads_held (book_at b n) ks) ≡ None
  all_same [] h none = refl
  all_same (k ∷ ks) h none = by_found (find_conf k (states_held (book_at b n))) refl h (touched b.log n k) refl none (all_same ks)
    where
      by_found : (o : Option Conf) → find_conf k (states_held (book_at b n)) ≡ o →
          (is_none o || list_any is_none (find_confs ks (states_held (book_at b n)))) ≡ false →
          (t : Bool) → touched b.log n k ≡ t → cond t (Some k) (find (touched b.log n) ks) ≡ None →
          (list_any is_none (find_confs ks (states_held (book_at b n))) ≡ false → find (touched b.log n) ks ≡ None →
          first_refusal Same b (reads_held (book_at b n) ks) ≡ None) →
          first_refusal Same b (one_or_none (option_map (with_version (take n b.log)) o) ++ reads_held (book_at b n) ks) ≡ None
      by_found None e h t apart none further = absurd (cc)
      by_found (Some c) e h true apart none further = absurd (cc)
      by_found (Some c) e h false apart none further =
          none_of_two (differs_by (with_version (take n b.log) c) (held_of b (component_of c))) (first_refusal Same b (reads_held (book_at b n) ks))
          (same_one k c e apart) (further h none)

  -- so a commit of what was read then is refused exactly if a participant was touched since, or there is no room
  pub refusal_then : (ks : List Component) → list_any is_none (find_confs ks (states_held (book_at b n))) ≡ false →
      refusal_of b (reads_held (book_at b n) ks) ≡ option_or (option_map (stale_at b n) (find (touched b.log n) ks)) (full b)
  refusal_then ks there =
      first_reason (stale_at b n) (first_refusal Known b (reads_held (book_at b n) ks)) (first_refusal Current b (reads_held (book_at b n) ks))
      (first_refusal Same b (reads_held (book_at b n) ks)) (full b) (find (touched b.log n) ks)
      (all_known ks there) (all_current ks there) (all_same ks there)
