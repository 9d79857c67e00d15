-- Rounds on a book that its board tells, node by node and one after another.
use Rattle.std.proofs.Common.{◌≡◌, ◌+◌, ◌-◌, ◌<◌, ◌≤◌, ℕ, zero, suc, List, [], ◌∷◌, ◌++◌, get_or, take, drop, map, length, refl, sym, ap, subst, ◌∙◌, arith}
use Rattle.std.specs.Prelude.{OnErr, OnOk, Result, Ok, Err, None, Some, slice_get, slice_set, true}
use Rattle.std.specs.List.{list_all}
use Rattle.std.specs.Option.{option_map}
use Rattle.std.proofs.lemmas.List.{drop_all, drop_more, drop-set-lt, map-append, take_all, take_more_set, take-append-drop}
use Rattle.std.proofs.lemmas.Option.{slice_get-get_or, slice_get-map}
use Rattle.ioa_commits.specs.Books.{PlainBook}
use Rattle.ioa_receipts.specs.declared.receipts.Receipt.{Receipt}
use Rattle.ioa_record.specs.declared.ending.Ending.{Ending}
use Rattle.ioa_record.specs.declared.ending.Ending.TheVariants.{Fault}
use Rattle.ioa_record.specs.declared.ending.NodeFault.TheVariants.{Memory}
use Rattle.ioa_passes.specs.Passes.{PlainPass}
use Rattle.ioa_turns.specs.NodeTurns.{PlainProgress}
use Rattle.ioa_solo.specs.Fires.{Comes}
use Rattle.ioa_solo.specs.Solo.{IsCutShort, IsRoundCut, PlainCourse, course_of, ending_then, first_visits, has_ended, round, rounds, visit_unless_ended}
use Rattle.ioa_solo.specs.Told.{GoesOn, IsUpTo}
use Rattle.ioa_solo.proofs.GoesOn.{goes_further, goes_nowhere}
use Rattle.ioa_solo.proofs.Rounds.{no_round, one_more, round_append, rounds_ended, rounds_further, same_set}

-- a round of these nodes under way: so many are gone by, and the others are as they were
pub record IsInRound (old new : PlainBook) (had has : List Receipt) (q : PlainPass) (i : ℕ) (ps gone left : List PlainProgress) : Type 0 where
  pub goes : GoesOn old new had has q
  pub first : (course_of new, gone) ≡ round old.limit (course_of old) (take i ps)
  pub others : left ≡ drop i ps

-- before the first node
pub round_begins : (b : PlainBook) (had : List Receipt) (q : PlainPass) (ps : List PlainProgress) → IsUpTo b q → IsInRound b b had had q 0 ps [] ps
round_begins b had q ps up = record { goes = goes_nowhere b b had had q refl refl up; first = refl; others = refl }

-- what comes behind the first items
pub next_taken : {A : Type 0} (i : ℕ) (xs : List A) (x : A) (more : List A) → x ∷ more ≡ drop i xs → take (suc i) xs ≡ take i xs ++ x ∷ []
next_taken zero [] x more h = absurd (cc)
next_taken {A} zero (y ∷ ys) x more h = let same : x ≡ y = cc in ap (λ (z : A). z ∷ []) (sym same)
next_taken (suc i) [] x more h = absurd (cc)
next_taken {A} (suc i) (y ∷ ys) x more h = ap (λ (zs : List A). y ∷ zs) (next_taken i ys x more h)

pub next_dropped : {A : Type 0} (i : ℕ) (xs : List A) (x : A) (more : List A) → x ∷ more ≡ drop i xs → more ≡ drop (suc i) xs
next_dropped zero [] x more h = absurd (cc)
next_dropped zero (y ∷ ys) x more h = cc
next_dropped (suc i) [] x more h = absurd (cc)
next_dropped (suc i) (y ∷ ys) x more h = next_dropped i ys x more h

-- if nothing does, they are all
pub all_taken : {A : Type 0} (i : ℕ) (xs : List A) → [] ≡ drop i xs → take i xs ≡ xs
all_taken zero [] h = refl
all_taken zero (y ∷ ys) h = absurd (cc)
all_taken (suc i) [] h = refl
all_taken {A} (suc i) (y ∷ ys) h = ap (λ (zs : List A). y ∷ zs) (all_taken i ys h)

-- the nodes of a round, and one more visit
abbrev with_visit : ℕ → PlainProgress → PlainCourse × List PlainProgress → PlainCourse × List PlainProgress
with_visit limit p t = ((visit_unless_ended limit t.0 p).0, t.1 ++ (visit_unless_ended limit t.0 p).1 ∷ [])

-- one node more
pub round_goes_on : {V : Type 0} (f : V → PlainProgress) (nodes : List V) (i : ℕ) (v w : V) (old mid new : PlainBook) (had mids has : List Receipt) (q r : PlainPass) (ps : List PlainProgress) → i < length nodes →
    IsInRound old mid had mids q i ps (map f (take i nodes)) (map f (drop i nodes)) → GoesOn mid new mids has r → Comes visit_unless_ended mid (f (get_or nodes i v)) new (f w) →
    IsInRound old new had has r (i + 1) ps (map f (take (i + 1) (slice_set nodes i w))) (map f (drop (i + 1) (slice_set nodes i w)))
round_goes_on {V} f nodes i v w old mid new had mids has q r ps within h goes came =
    let x : PlainProgress = f (get_or nodes i v) in
    let done : List PlainProgress = map f (take i nodes) in
    let others : List PlainProgress = map f (drop (i + 1) nodes) in
    let gone : map f (take (i + 1) (slice_set nodes i w)) ≡ done ++ f w ∷ [] = ap (λ (l : List V). map f l) (take_more_set nodes i w within) ∙ map-append f (take i nodes) (w ∷ []) in
    let behind : map f (drop (i + 1) (slice_set nodes i w)) ≡ others = ap (λ (l : List V). map f l) (drop-set-lt (i + 1) nodes i w (omega arith)) in
    let here : visit_unless_ended old.limit (course_of mid) x ≡ (course_of new, f w) = ap (λ (l : ℕ). visit_unless_ended l (course_of mid) x) (sym h.goes.limit) ∙ came in
    let head : x ∷ others ≡ drop i ps = sym (ap (λ (l : List V). map f l) (drop_more nodes i v within)) ∙ h.others in
    let next : i + 1 ≡ suc i = omega arith in
    let begun : round old.limit (course_of old) (take (i + 1) ps) ≡ with_visit old.limit x (round old.limit (course_of old) (take i ps)) =
    ap (λ (l : List PlainProgress). round old.limit (course_of old) l) (ap (λ (n : ℕ). take n ps) next ∙ next_taken i ps x others head)
    ∙ round_append old.limit (course_of old) (take i ps) (x ∷ []) in
    record {
      goes = goes_further old mid new had mids has q r h.goes goes;
      first =
          (λ j. (course_of new, gone j))
          ∙ sym (begun
          ∙ ap (λ (t : PlainCourse × List PlainProgress). with_visit old.limit x t) (sym h.first)
          ∙ ap (λ (t : PlainCourse × PlainProgress). (t.0, done ++ t.1 ∷ [])) here);
      others = behind ∙ next_dropped i ps x others head ∙ ap (λ (n : ℕ). drop n ps) (sym next);
    }

-- behind the last node
pub round_ends : {V : Type 0} (f : V → PlainProgress) (nodes : List V) (i : ℕ) (old new : PlainBook) (had has : List Receipt) (q : PlainPass) (ps : List PlainProgress) → length nodes ≤ i →
    IsInRound old new had has q i ps (map f (take i nodes)) (map f (drop i nodes)) → (course_of new, map f nodes) ≡ round old.limit (course_of old) ps
round_ends {V} f nodes i old new had has q ps past h =
    let none : [] ≡ drop i ps = sym (ap (λ (l : List V). map f l) (drop_all i nodes past)) ∙ h.others in
    (λ j. (course_of new, map f (sym (take_all i nodes past) j)))
    ∙ h.first
    ∙ ap (λ (l : List PlainProgress). round old.limit (course_of old) l) (all_taken i ps none)

-- a node without an ending ends for want of memory
ends_then : (p : PlainProgress) → p.ending ≡ None → ending_then p ≡ Fault Memory
ends_then p h = rw h refl

-- a round that is cut short in the visit of a node, at whose end the book is as it was
module _ {V : Type 0} (f : V → PlainProgress) (nodes : List V) (i : ℕ) (v w : V) (old mid new : PlainBook) (had has : List Receipt) (q : PlainPass) (ps : List PlainProgress) (within : i < length nodes)
    (h : IsInRound old mid had has q i ps (map f (take i nodes)) (map f (drop i nodes))) where
  there : (first_visits old.limit i (course_of old) ps).1 ≡ map f nodes
  there =
      (λ j. (sym h.first j).1 ++ sym h.others j)
      ∙ sym (map-append f (take i nodes) (drop i nodes))
      ∙ ap (λ (l : List V). map f l) (take-append-drop i nodes)

  here : slice_get (map f nodes) i ≡ Some (f (get_or nodes i v))
  here = slice_get-map f nodes i ∙ ap (λ o. option_map f o) (slice_get-get_or nodes i v within)

  pub round_cut : new ≡ mid → (f (get_or nodes i v)).ending ≡ None → (f w).ending ≡ None → IsRoundCut old.limit (course_of old) ps (course_of new) (map ending_then (map f (slice_set nodes i w)))
  round_cut same before after =
      let alike : ending_then (f w) ≡ ending_then (f (get_or nodes i v)) = ends_then (f w) after ∙ sym (ends_then (f (get_or nodes i v)) before) in
      record {
        visits = i;
        cut = record {
          node = f (get_or nodes i v);
          visited = ap (λ (l : List PlainProgress). slice_get l i) there ∙ here;
          under_way = before;
          course = ap course_of same ∙ ap (λ (t : PlainCourse × List PlainProgress). t.0) h.first;
          each = endings alike ∙ ap (λ (l : List PlainProgress). map ending_then l) (sym there);
        };
      }
    where
      endings : ending_then (f w) ≡ ending_then (f (get_or nodes i v)) → map ending_then (map f (slice_set nodes i w)) ≡ map ending_then (map f nodes)
      endings alike = map_twice (slice_set nodes i w) ∙ same_set (λ n. ending_then (f n)) nodes i v w within alike ∙ sym (map_twice nodes)
        where
          map_twice : (xs : List V) → map ending_then (map f xs) ≡ map (λ n. ending_then (f n)) xs
          map_twice [] = refl
          map_twice (x ∷ xs) = ap (λ (l : List Ending). ending_then (f x) ∷ l) (map_twice xs)

-- rounds under way, of which so many are gone
pub record AreInRounds (old new : PlainBook) (had has : List Receipt) (q : PlainPass) (turn : ℕ) (ps qs : List PlainProgress) : Type 0 where
  pub goes : GoesOn old new had has q
  pub gone : (course_of new, qs) ≡ rounds old.limit turn (course_of old) ps

-- before the first
pub rounds_begin : (b : PlainBook) (had : List Receipt) (q : PlainPass) (ps : List PlainProgress) → IsUpTo b q → AreInRounds b b had had q 0 ps ps
rounds_begin b had q ps up = record { goes = goes_nowhere b b had had q refl refl up; gone = sym (no_round b.limit (course_of b) ps) }

module _ (old mid new : PlainBook) (had mids has : List Receipt) (q r : PlainPass) (turn whole : ℕ) (ps qs rs : List PlainProgress) (within : turn < whole)
    (h : AreInRounds old mid had mids q turn ps qs) (goes : GoesOn mid new mids has r) (gone : (course_of new, rs) ≡ round mid.limit (course_of mid) qs) where
  -- one round more
  pub rounds_go_on : AreInRounds old new had has r (turn + 1) ps rs
  rounds_go_on = record {
    goes = goes_further old mid new had mids has q r h.goes goes;
    gone =
        gone
        ∙ ap (λ (l : ℕ). round l (course_of mid) qs) h.goes.limit
        ∙ ap (λ (t : PlainCourse × List PlainProgress). round old.limit t.0 t.1) h.gone
        ∙ sym (one_more old.limit turn (course_of old) ps);
  }

  -- no more is left
  pub rounds_over : whole ≤ turn + 1 → (course_of new, rs) ≡ rounds old.limit whole (course_of old) ps
  rounds_over past =
      let last : turn + 1 ≡ whole = omega (arith, within, past) in
      rounds_go_on.gone ∙ ap (λ (n : ℕ). rounds old.limit n (course_of old) ps) last

  -- or each node has an ending
  pub rounds_enough : list_all has_ended rs ≡ true → (course_of new, rs) ≡ rounds old.limit whole (course_of old) ps
  rounds_enough all =
      let left : ℕ = whole - (turn + 1) in
      let all_rounds : (turn + 1) + left ≡ whole = omega (arith, within) in
      sym (rounds_ended old.limit left (course_of new) rs all)
      ∙ ap (λ (t : PlainCourse × List PlainProgress). rounds old.limit left t.0 t.1) rounds_go_on.gone
      ∙ sym (rounds_further old.limit (turn + 1) left (course_of old) ps)
      ∙ ap (λ (n : ℕ). rounds old.limit n (course_of old) ps) all_rounds

-- rounds of which one is cut short
pub rounds_cut : (old mid : PlainBook) (had has : List Receipt) (q : PlainPass) (turn whole : ℕ) (ps qs : List PlainProgress) (left : PlainCourse) (endings : List Ending) → turn < whole →
    AreInRounds old mid had has q turn ps qs → IsRoundCut mid.limit (course_of mid) qs left endings → IsCutShort old.limit whole (course_of old) ps left endings
rounds_cut old mid had has q turn whole ps qs left endings within h cut = record {
  whole = turn;
  within = within;
  cut =
      subst (λ (t : PlainCourse × List PlainProgress). IsRoundCut old.limit t.0 t.1 left endings) h.gone
      (subst (λ (l : ℕ). IsRoundCut l (course_of mid) qs left endings) h.goes.limit cut);
}

-- the last round, if it passes
pub last_round : {X E : Type 0} (result : Result X E) (old mid new : PlainBook) (had mids has : List Receipt) (q r : PlainPass) (turn whole : ℕ) (ps qs rs : List PlainProgress) → turn < whole → whole ≤ turn + 1 →
    AreInRounds old mid had mids q turn ps qs → GoesOn mid new mids has r → OnOk result ((course_of new, rs) ≡ round mid.limit (course_of mid) qs) →
    OnOk result ((course_of new, rs) ≡ rounds old.limit whole (course_of old) ps)
last_round (Ok x) old mid new had mids has q r turn whole ps qs rs within past h goes gone = rounds_over old mid new had mids has q r turn whole ps qs rs within h goes gone past
last_round (Err e) old mid new had mids has q r turn whole ps qs rs within past h goes gone = tt

-- and if it is cut short
pub last_cut : {X E : Type 0} (result : Result X E) (old mid : PlainBook) (had has : List Receipt) (q : PlainPass) (turn whole : ℕ) (ps qs : List PlainProgress) (left : PlainCourse) (endings : List Ending) → turn < whole →
    AreInRounds old mid had has q turn ps qs → OnErr result (IsRoundCut mid.limit (course_of mid) qs left endings) → OnErr result (IsCutShort old.limit whole (course_of old) ps left endings)
last_cut (Ok x) old mid had has q turn whole ps qs left endings within h cut = tt
last_cut (Err e) old mid had has q turn whole ps qs left endings within h cut = rounds_cut old mid had has q turn whole ps qs left endings within h cut
