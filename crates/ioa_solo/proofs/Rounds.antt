-- Rounds that are gone node by node.
use Rattle.std.proofs.Common.{◌≡◌, refl, sym, ap, ◌∙◌, ℕ, zero, suc, ◌+◌, ◌-◌, ◌<◌, List, [], ◌∷◌, ◌++◌, map, take, drop, get_or, Bool, true, false, Option, Some, None, length, slice_set, append_assoc, arith}
use Rattle.std.specs.Prelude.{◌||◌, is_some, Result, Ok, Err, OnOk, OnErr}
use Rattle.std.specs.Result.{is_err}
use Rattle.std.specs.List.{list_all, list_any}
use Rattle.std.proofs.lemmas.List.{drop_more, drop-set-lt, map-append, take_more_set}
use Rattle.ioa_record.specs.declared.ending.Ending.{Ending}
use Rattle.ioa_turns.specs.NodeTurns.{PlainProgress}
use Rattle.ioa_solo.specs.Solo.{PlainCourse, round, rounds, has_ended, is_under_way, ending_of, ending_then, short_of_memory, visit_unless_ended}

-- a round of nodes that have endings changes nothing
round_ended : (limit : ℕ) (s : PlainCourse) (ps : List PlainProgress) → list_all has_ended ps ≡ true → round limit s ps ≡ (s, ps)
round_ended limit s [] all = refl
round_ended limit s (p ∷ more) all = at_head (is_some p.ending) refl (λ h. round_ended limit s more h)
  where
    at_head : (b : Bool) → is_some p.ending ≡ b → (list_all has_ended more ≡ true → round limit s more ≡ (s, more)) →
        round limit s (p ∷ more) ≡ (s, p ∷ more)
    at_head true e others =
        let same = others (rw e at all) in
        rw (e, same) refl
    at_head false e others =
        let no : false ≡ true = rw e at all in
        absurd (cc)

-- further rounds of nodes that have endings change nothing
pub rounds_ended : (limit n : ℕ) (s : PlainCourse) (ps : List PlainProgress) → list_all has_ended ps ≡ true → rounds limit n s ps ≡ (s, ps)
unfolding rounds
rounds_ended limit zero s ps all = refl
rounds_ended limit (suc n) s ps all = rw (round_ended limit s ps all) (rounds_ended limit n s ps all)

-- no round is gone
pub no_round : (limit : ℕ) (s : PlainCourse) (ps : List PlainProgress) → rounds limit zero s ps ≡ (s, ps)
unfolding rounds
no_round limit s ps = refl

-- some rounds, and then one more
next_round : (limit n : ℕ) (s : PlainCourse) (ps : List PlainProgress) → rounds limit (suc n) s ps ≡ round limit (rounds limit n s ps).0 (rounds limit n s ps).1
unfolding rounds
next_round limit zero s ps = refl
next_round limit (suc n) s ps = next_round limit n (round limit s ps).0 (round limit s ps).1

pub one_more : (limit n : ℕ) (s : PlainCourse) (ps : List PlainProgress) → rounds limit (n + 1) s ps ≡ round limit (rounds limit n s ps).0 (rounds limit n s ps).1
one_more limit n s ps =
    let next : n + 1 ≡ suc n = omega arith in
    rw next (next_round limit n s ps)

-- and then others
pub rounds_further : (limit m n : ℕ) (s : PlainCourse) (ps : List PlainProgress) → rounds limit (m + n) s ps ≡ rounds limit n (rounds limit m s ps).0 (rounds limit m s ps).1
unfolding rounds
rounds_further limit zero n s ps =
    let none : zero + n ≡ n = omega arith in
    ap (λ (k : ℕ). rounds limit k s ps) none
rounds_further limit (suc m) n s ps =
    let one : suc m + n ≡ suc (m + n) = omega arith in
    ap (λ (k : ℕ). rounds limit k s ps) one ∙ rounds_further limit m n (round limit s ps).0 (round limit s ps).1

-- a round of some nodes, and then of others
pub round_append : (limit : ℕ) (s : PlainCourse) (ps qs : List PlainProgress) →
    round limit s (ps ++ qs) ≡ ((round limit (round limit s ps).0 qs).0, (round limit s ps).1 ++ (round limit (round limit s ps).0 qs).1)
round_append limit s [] qs = refl
round_append limit s (p ∷ ps) qs =
    let first = visit_unless_ended limit s p in
    ap (λ (t : PlainCourse × List PlainProgress). (t.0, first.1 ∷ t.1)) (round_append limit first.0 ps qs)

-- what a call promises if it passes, and if it fails
pub on_ok : {T E P : Type 0} (r : Result T E) → is_err r ≡ false → OnOk r P → P
on_ok (Ok x) passed p = p
on_ok (Err e) passed p = absurd (cc)

pub on_err : {T E P : Type 0} (r : Result T E) → is_err r ≡ true → OnErr r P → P
on_err (Ok x) failed p = absurd (cc)
on_err (Err e) failed p = p

-- the endings that are reported once memory has run out
pub told_then : (ps : List PlainProgress) → map ending_of (map short_of_memory ps) ≡ map ending_then ps
told_then [] = refl
told_then (p ∷ more) = λ j. by_ending p.ending refl j ∷ told_then more j
  where
    by_ending : (o : Option Ending) → p.ending ≡ o → ending_of (short_of_memory p) ≡ ending_then p
    by_ending (Some e) h = rw h refl
    by_ending None h = rw h refl

-- what holds anyway holds if a call fails
pub if_failed : {T E P : Type 0} (r : Result T E) → P → OnErr r P
if_failed (Ok x) p = tt
if_failed (Err e) p = p

-- a node that has no ending is under way
pub under_way_at : {A : Type 0} (f : A → PlainProgress) (nodes : List A) (n : ℕ) (p : A) → n < length nodes → (f p).ending ≡ None → list_any is_under_way (map f (slice_set nodes n p)) ≡ true
under_way_at f [] n p within e = absurd (omega arith)
under_way_at f (q ∷ qs) zero p within e = rw e refl
under_way_at f (q ∷ qs) (suc n) p within e = later (is_under_way (f q)) (under_way_at f qs n p (omega arith) e)
  where
    later : (a : Bool) {b : Bool} → b ≡ true → a || b ≡ true
    later true e = refl
    later false e = e

-- a node that is put in a place has what the one has that was there
pub same_set : {V A : Type 0} (f : V → A) (nodes : List V) (i : ℕ) (v w : V) → i < length nodes → f w ≡ f (get_or nodes i v) → map f (slice_set nodes i w) ≡ map f nodes
same_set f [] i v w within same = refl
same_set {V} {A} f (x ∷ xs) zero v w within same = ap (λ (y : A). y ∷ map f xs) same
same_set {V} {A} f (x ∷ xs) (suc i) v w within same = ap (λ (ys : List A). f x ∷ ys) (same_set f xs i v w (omega arith) same)

-- one node more has ended for want of memory
pub ended_more : {V : Type 0} (f : V → PlainProgress) (nodes : List V) (i : ℕ) (v w : V) (whole : List PlainProgress) → i < length nodes → f w ≡ short_of_memory (f (get_or nodes i v)) →
    map f (take i nodes) ++ map short_of_memory (map f (drop i nodes)) ≡ whole →
    map f (take (i + 1) (slice_set nodes i w)) ++ map short_of_memory (map f (drop (i + 1) (slice_set nodes i w))) ≡ whole
ended_more {V} f nodes i v w whole within short h =
    let done : List PlainProgress = map f (take i nodes) in
    let others : List PlainProgress = map short_of_memory (map f (drop (i + 1) nodes)) in
    let gone : map f (take (i + 1) (slice_set nodes i w)) ≡ done ++ f w ∷ [] = ap (λ (l : List V). map f l) (take_more_set nodes i w within) ∙ map-append f (take i nodes) (w ∷ []) in
    let behind : map short_of_memory (map f (drop (i + 1) (slice_set nodes i w))) ≡ others = ap (λ (l : List V). map short_of_memory (map f l)) (drop-set-lt (i + 1) nodes i w (omega arith)) in
    (λ j. gone j ++ behind j)
    ∙ append_assoc done (f w ∷ []) others
    ∙ ap (λ (p : PlainProgress). done ++ p ∷ others) short
    ∙ ap (λ (l : List V). done ++ map short_of_memory (map f l)) (sym (drop_more nodes i v within))
    ∙ h
