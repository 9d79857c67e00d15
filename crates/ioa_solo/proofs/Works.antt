-- The nodes of a worker before its rounds, and their endings.
use Rattle.std.proofs.Common.{◌≡◌, ◌⊎◌, inl, inr, ℕ, ℤ, ◌+◌, ◌≤◌, ◌<◌, true, false, List, [], ◌∷◌, ◌++◌, map, length, drop, get_or, Some, refl, sym, ap, subst, ◌∙◌, append_assoc, arith}
use Rattle.std.specs.Prelude.{find, flat_map, slice_get}
use Rattle.std.specs.List.{AllByRecursion, IsDistinct, list_all}
use Rattle.std.specs.Option.{option_map, unwrap_or}
use Rattle.std.specs.Ordering.{int_eq}
use Rattle.std.proofs.lemmas.List.{append-nil, drop_all, drop_more}
use Rattle.std.proofs.lemmas.Bool.Decides.{Decides-int_eq}
use Rattle.ioa_commits.specs.Books.{PlainBook, plain_book, states_held}
use Rattle.ioa_compose.specs.IsStart.{StartsInitial}
use Rattle.ioa_compose.specs.Start.{start}
use Rattle.ioa_compose.specs.declared.configuration.Conf.{Conf}
use Rattle.ioa_compose.proofs.Starts.{is_start}
use Rattle.ioa_record.specs.declared.ending.Ending.{Ending}
use Rattle.ioa_record.specs.declared.ending.Ending.TheVariants.{Fault}
use Rattle.ioa_record.specs.declared.ending.NodeFault.TheVariants.{Memory}
use Rattle.ioa_sharing.specs.declared.named.Origin as Origin
use Rattle.ioa_system.specs.Declarations.{IsWellDeclared}
use Rattle.ioa_system.specs.Parts.{Parts}
use Rattle.ioa_system.specs.Systems.{SystemParts}
use Rattle.ioa_turns.specs.NodeTurns.{PlainProgress, progress_at}
use Rattle.ioa_solo.specs.Solo.{IsCutShort, IsRoundCut, IsSoloCut, PlainCourse, course_of, ending_of, ending_then, has_ended, rounds, solo, solo_begin}
use Rattle.ioa_solo.specs.Visits.{PlainVisited, numbers_of, progress_in, visited_of}
use Rattle.ioa_solo.specs.Works.{IsHeldOf, IsSoloWork, all_met, ending_at, ending_unvisited, met_first, program_of}
use Rattle.ioa_solo.specs.declared.visited.Visited.{Visited}
use Rattle.ioa_solo.proofs.Beginnings.{none_cut, rounds_of_none}
use Rattle.ioa_solo.proofs.Meets.{met_at_start}
use Rattle.ioa_solo.proofs.Rounds.{no_round}
use Rattle.ioa_solo.proofs.Termination.{solo_ends, told_endings}

-- no number is left
pub met_all : (first : ℤ → List PlainVisited) (ks : List ℤ) (i : ℕ) (vs : List PlainVisited) → length ks ≤ i →
    vs ++ flat_map first (drop i ks) ≡ flat_map first ks → vs ≡ flat_map first ks
met_all first ks i vs past h =
    sym (append-nil vs)
    ∙ ap (λ (rest : List ℤ). vs ++ flat_map first rest) (sym (drop_all i ks past))
    ∙ h

-- one number less is left
pub more_met : (first : ℤ → List PlainVisited) (ks : List ℤ) (i : ℕ) (k : ℤ) (vs ws : List PlainVisited) → i < length ks → ws ≡ vs ++ first (get_or ks i k) →
    vs ++ flat_map first (drop i ks) ≡ flat_map first ks → ws ++ flat_map first (drop (i + 1) ks) ≡ flat_map first ks
more_met first ks i k vs ws within more h =
    ap (λ (l : List PlainVisited). l ++ flat_map first (drop (i + 1) ks)) more
    ∙ append_assoc vs (first (get_or ks i k)) (flat_map first (drop (i + 1) ks))
    ∙ ap (λ (l : List ℤ). vs ++ flat_map first l) (sym (drop_more ks i k within))
    ∙ h

-- two maps that are the same on each element
map_same : {A B : Type 0} (f g : A → B) (xs : List A) → AllByRecursion (λ x. f x ≡ g x) xs → map f xs ≡ map g xs
map_same f g [] h = refl
map_same f g (x ∷ xs) h = λ j. h.0 j ∷ map_same f g xs h.1 j

all_weaken : {A : Type 0} (P Q : A → Type 0) → ((x : A) → P x → Q x) → (xs : List A) → AllByRecursion P xs → AllByRecursion Q xs
all_weaken P Q f [] h = tt
all_weaken P Q f (x ∷ xs) h = (f x h.0, all_weaken P Q f xs h.1)

int_itself : (i : ℤ) → int_eq i i ≡ true
int_itself i = (Decides-int_eq i i).1 refl

-- if the numbers of some nodes differ, what is found by each number is the node's own
pub each_own : {V : Type 0} (number : V → ℤ) (ending : V → Ending) (other : ℤ → Ending) (vs : List V) → IsDistinct int_eq (map number vs) →
    map (λ k. unwrap_or (option_map ending (find (λ v. int_eq (number v) k) vs)) (other k)) (map number vs) ≡ map ending vs
unfolding IsDistinct
each_own number ending other [] d = refl
each_own {V} number ending other (v ∷ more) d =
    let first : own (v ∷ more) (number v) ≡ ending v = rw (int_itself (number v)) refl in
    let others : map (own (v ∷ more)) (map number more) ≡ map (own more) (map number more) =
    map_same (own (v ∷ more)) (own more) (map number more)
    (all_weaken (λ k. int_eq (number v) k ≡ false) (λ k. own (v ∷ more) k ≡ own more k) (λ k apart. rw apart refl) (map number more) d.0) in
    (λ j. first j ∷ others j)
    ∙ ap (λ (es : List Ending). ending v ∷ es) (each_own number ending other more d.1)
  where
    own : List V → ℤ → Ending
    own vs k = unwrap_or (option_map ending (find (λ v. int_eq (number v) k) vs)) (other k)

-- if the numbers of the nodes differ, the program of each number is the node's own
own_program : (ps : List Parts) → IsDistinct int_eq (map (λ p. p.node) ps) → AllByRecursion (λ p. program_of p.node ps ≡ Some p) ps
unfolding IsDistinct
own_program [] d = tt
own_program (p ∷ ps) d = (rw (int_itself p.node) refl, later ps ps d.0 (own_program ps d.1))
  where
    later : (all qs : List Parts) → AllByRecursion (λ k. int_eq p.node k ≡ false) (map (λ q. q.node) qs) → AllByRecursion (λ q. program_of q.node all ≡ Some q) qs →
        AllByRecursion (λ q. program_of q.node (p ∷ all) ≡ Some q) qs
    later all [] apart own = tt
    later all (q ∷ qs) apart own = (rw apart.0 own.0, later all qs apart.1 own.1)

-- a node before the first visit
abbrev first_visited : ℕ → Parts → PlainVisited
first_visited attempts p = record { number = p.node; progress = progress_at attempts p }

-- on the start of the system of the programs each node is as it was
started_all : (ps : List Parts) (attempts : ℕ) (states : List Conf) (qs : List Parts) → AllByRecursion (λ q. program_of q.node ps ≡ Some q) qs → AllByRecursion (StartsInitial states) qs →
    all_met ps attempts states (map (λ q. q.node) qs) ≡ map (first_visited attempts) qs
started_all ps attempts states [] own there = refl
started_all ps attempts states (q ∷ qs) own there =
    let first : met_first attempts states (program_of q.node ps) ≡ first_visited attempts q ∷ [] = rw (own.0, met_at_start states q attempts there.0) refl in
    λ j. first j ++ started_all ps attempts states qs own.1 there.1 j

pub all_started : (s : SystemParts) (attempts : ℕ) → IsWellDeclared s → all_met s.programs attempts (start s) (map (λ q. q.node) s.programs) ≡ map (first_visited attempts) s.programs
all_started s attempts w = started_all s.programs attempts (start s) s.programs (own_program s.programs w.nodes) (is_start s w).nodes

-- the parts of nodes
parts_map : {A B C : Type 0} (f : B → C) (g : A → B) (xs : List A) → map f (map g xs) ≡ map (λ x. f (g x)) xs
parts_map f g [] = refl
parts_map f g (x ∷ xs) = ap (λ ys. f (g x) ∷ ys) (parts_map f g xs)

none_visited : {A : Type 0} (f : A → ℤ) (xs : List A) → map f xs ≡ [] → xs ≡ []
none_visited f [] h = refl
none_visited f (x ∷ xs) h = absurd (cc)

-- if memory runs out before the first visit, each node ends so
all_short : {O : Type 0} {g : Origin.Ghosts O} (all qs : List Parts) (attempts : ℕ) (after : List (Visited O g)) → after ≡ [] → AllByRecursion (λ q. program_of q.node all ≡ Some q) qs →
    map (ending_at all after) (map (λ q. q.node) qs) ≡ map ending_then (map (progress_at attempts) qs)
all_short all [] attempts after none own = refl
all_short all (q ∷ qs) attempts after none own =
    let first : ending_at all after q.node ≡ Fault Memory = rw (none, own.0) refl in
    λ j. first j ∷ all_short all qs attempts after none own.1 j

-- what a worker alone comes to
module _ {O : Type 0} {g : Origin.Ghosts O} (s : SystemParts) (attempts : ℕ) (old new : PlainBook) (before after : List (Visited O g)) (endings : List Ending) (w : IsWellDeclared s)
    (fresh : old ≡ plain_book (start s) [] old.limit) (numbers : numbers_of after ≡ numbers_of before) (each : endings ≡ map (ending_at s.programs after) (map (λ q. q.node) s.programs))
    (came : IsCutShort old.limit (attempts + 1) (course_of old) (map progress_in before) (course_of new) (map ending_of (map progress_in after))
    ⊎ ((course_of new, map progress_in after) ≡ rounds old.limit (attempts + 1) (course_of old) (map progress_in before))) where
  -- if it has met all nodes
  module _ (met : map visited_of before ≡ map (first_visited attempts) s.programs) where
    whole_numbers : numbers_of after ≡ map (λ q. q.node) s.programs
    whole_numbers =
        numbers
        ∙ sym (parts_map (λ (v : PlainVisited). v.number) visited_of before)
        ∙ ap (λ (vs : List PlainVisited). map (λ v. v.number) vs) met
        ∙ parts_map (λ (v : PlainVisited). v.number) (first_visited attempts) s.programs

    whole_progress : map progress_in before ≡ map (progress_at attempts) s.programs
    whole_progress =
        sym (parts_map (λ (v : PlainVisited). v.progress) visited_of before)
        ∙ ap (λ (vs : List PlainVisited). map (λ v. v.progress) vs) met
        ∙ parts_map (λ (v : PlainVisited). v.progress) (first_visited attempts) s.programs

    -- each ending is that of its node
    own_endings : endings ≡ map ending_of (map progress_in after)
    own_endings =
        let differ : IsDistinct int_eq (numbers_of after) = subst (λ (ks : List ℤ). IsDistinct int_eq ks) (sym whole_numbers) w.nodes in
        each
        ∙ ap (λ (ks : List ℤ). map (ending_at s.programs after) ks) (sym whole_numbers)
        ∙ each_own (λ (v : Visited O g). v.number) (λ v. ending_of (progress_in v)) (λ k. ending_unvisited (program_of k s.programs)) after differ
        ∙ sym (parts_map ending_of progress_in after)

    begun : course_of old ≡ solo_begin s
    begun = ap course_of fresh

    -- rounds from the start of the system
    whole : rounds old.limit (attempts + 1) (course_of old) (map progress_in before) ≡ solo s attempts old.limit
    whole = λ j. rounds old.limit (attempts + 1) (begun j) (whole_progress j)

    as_solo : IsCutShort old.limit (attempts + 1) (course_of old) (map progress_in before) (course_of new) (map ending_of (map progress_in after))
        ⊎ ((course_of new, map progress_in after) ≡ rounds old.limit (attempts + 1) (course_of old) (map progress_in before)) → IsSoloWork s attempts old.limit new endings
    as_solo (inl short) =
        inl
        (subst (λ (es : List Ending). IsSoloCut s attempts old.limit (course_of new) es) (sym own_endings)
        (subst (λ (ps : List PlainProgress). IsCutShort old.limit (attempts + 1) (solo_begin s) ps (course_of new) (map ending_of (map progress_in after))) whole_progress
        (subst (λ (c : PlainCourse). IsCutShort old.limit (attempts + 1) c (map progress_in before) (course_of new) (map ending_of (map progress_in after))) begun short)))
    as_solo (inr e) =
        let run : (course_of new, map progress_in after) ≡ solo s attempts old.limit = e ∙ whole in
        let ended = subst (λ (left : PlainCourse × List PlainProgress). list_all has_ended left.1 ≡ true) (sym run) (solo_ends s attempts old.limit) in
        inr (subst (λ (left : PlainCourse × List PlainProgress). IsHeldOf left new endings) run
        (record { course = refl; each = rw own_endings (told_endings (map progress_in after) ended) }))

  -- or memory ran out before: then nothing is added
  no_rounds : before ≡ [] → rounds old.limit (attempts + 1) (course_of old) (map progress_in before) ≡ (course_of old, [])
  no_rounds none = rw none (rounds_of_none old.limit (attempts + 1) (course_of old))

  nothing_added : before ≡ [] → IsCutShort old.limit (attempts + 1) (course_of old) (map progress_in before) (course_of new) (map ending_of (map progress_in after))
      ⊎ ((course_of new, map progress_in after) ≡ rounds old.limit (attempts + 1) (course_of old) (map progress_in before)) → course_of new ≡ course_of old
  nothing_added none (inl short) =
      let cut : IsCutShort old.limit (attempts + 1) (course_of old) [] (course_of new) (map ending_of (map progress_in after)) = rw none at short in
      absurd (none_cut old.limit (attempts + 1) (course_of old) (course_of new) (map ending_of (map progress_in after)) cut)
  nothing_added none (inr e) = ap (λ (left : PlainCourse × List PlainProgress). left.0) (e ∙ no_rounds none)

  -- which is the cut before the first visit
  cut_first : before ≡ [] → (p : Parts) (ps : List Parts) → s.programs ≡ p ∷ ps → IsSoloCut s attempts old.limit (course_of new) endings
  cut_first none p ps e =
      let nobody : after ≡ [] = none_visited (λ (v : Visited O g). v.number) after (numbers ∙ ap numbers_of none) in
      let nodes : List PlainProgress = map (progress_at attempts) s.programs in
      let cut : IsRoundCut old.limit (solo_begin s) nodes (course_of new) endings =
      record {
        visits = 0;
        cut = record {
          node = progress_at attempts p;
          visited = ap (λ (qs : List Parts). slice_get (map (progress_at attempts) qs) 0) e;
          under_way = refl;
          course = nothing_added none came ∙ ap course_of fresh;
          each = each ∙ all_short s.programs s.programs attempts after nobody (own_program s.programs w.nodes);
        };
      } in
      record {
        whole = 0;
        within = omega arith;
        cut = subst (λ (t : PlainCourse × List PlainProgress). IsRoundCut old.limit t.0 t.1 (course_of new) endings) (sym (no_round old.limit (solo_begin s) nodes)) cut;
      }

  when_none : before ≡ [] → (ps : List Parts) → s.programs ≡ ps → IsSoloWork s attempts old.limit new endings
  when_none none [] e =
      let met : map visited_of before ≡ map (first_visited attempts) s.programs = rw (none, e) refl in
      as_solo met came
  when_none none (p ∷ ps) e = inl (cut_first none p ps e)

  by_met : (before ≡ []) ⊎ (map visited_of before ≡ all_met s.programs attempts (states_held old) (map (λ q. q.node) s.programs)) → IsSoloWork s attempts old.limit new endings
  by_met (inl none) = when_none none s.programs refl
  by_met (inr met) =
      as_solo (met ∙ (λ j. all_met s.programs attempts (states_held (fresh j)) (map (λ q. q.node) s.programs)) ∙ all_started s attempts w) came

-- the same as the calls say it, which lend the nodes
module _ {O : Type 0} {g : Origin.Ghosts O} (s : SystemParts) (attempts : ℕ) (old new : PlainBook) (nodes : List ℤ) (before lent after seen : List (Visited O g)) (endings : List Ending) where
  pub works_alone : IsWellDeclared s → old ≡ plain_book (start s) [] old.limit → nodes ≡ map (λ q. q.node) s.programs →
      (before ≡ []) ⊎ (map visited_of before ≡ all_met s.programs attempts (states_held old) nodes) → lent ≡ before → numbers_of after ≡ numbers_of lent →
      IsCutShort old.limit (attempts + 1) (course_of old) (map progress_in lent) (course_of new) (map ending_of (map progress_in after))
      ⊎ ((course_of new, map progress_in after) ≡ rounds old.limit (attempts + 1) (course_of old) (map progress_in lent)) →
      seen ≡ after → endings ≡ map (ending_at s.programs seen) nodes → IsSoloWork s attempts old.limit new endings
  works_alone w fresh all met lending numbers came seeing each =
      by_met s attempts old new before after endings w fresh (numbers ∙ ap numbers_of lending) (each ∙ (λ j. map (ending_at s.programs (seeing j)) (all j))) (rw lending at came) (rw all at met)
