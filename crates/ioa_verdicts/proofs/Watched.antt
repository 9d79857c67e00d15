-- What is kept along a schedule: what was found stands, or is still to be found from here on.
use Rattle.std.proofs.Common.{◌≡◌, ℕ, zero, suc, ◌+◌, Bool, true, false, List, [], ◌∷◌, Some, Result, Ok, Err, refl, ap, sym, ◌∙◌, map, length, arith}
use Rattle.std.specs.Prelude.{slice_get, IsErr}
use Rattle.std.specs.List.{list_any}
use Rattle.ioa_actions.specs.declared.fault.StepFault.{StepFault}
use Rattle.ioa_system.specs.Invariants.{InvariantParts}
use Rattle.ioa_transitions.specs.Entries.{PlainEntry}
use Rattle.ioa_compose.specs.declared.configuration.Conf.{Conf}
use Rattle.ioa_compose.specs.Composition.{component_names, joint_answer}
use Rattle.ioa_compose.specs.Participants.{participants_of}
use Rattle.ioa_compose.proofs.JointSteps.{component_names-joint_answer}
use Rattle.ioa_verdicts.specs.Readers.{GoesOn, is_among, noted_of, readers_from, settled_parts}
use Rattle.ioa_verdicts.specs.Verdicts.{answer_in, if_step, is_open, or_later, verdict_at, verdict_from}
use Rattle.ioa_verdicts.specs.declared.verdict.Verdict.{Verdict}
use Rattle.ioa_verdicts.specs.declared.verdict.Verdict.TheVariants.{Holds, Fails, Undefined, Range}
use Rattle.ioa_verdicts.proofs.Chosen.{chosen, first_now, holds_at, or_later-assoc, or_later-between, or_later-end, or_later-holds, or_later-second}
use Rattle.ioa_verdicts.proofs.Settled.{length-settled_parts, settled_parts-each}
use Rattle.ioa_verdicts.proofs.Touched.{answer_in-untouched, or_first, or_second}

-- a verdict found in the state of number k, with the rest of a schedule before it: it is the verdict on the whole, or
-- that on the rest is; and if it holds so far, the invariant is true in this state
pub record IsWatched (v : InvariantParts) (all : List PlainEntry) (from : List Conf) (k : ℕ) (rest : List PlainEntry) (cs : List Conf) (f : Verdict) : Type 0 where
  pub due : verdict_from v 0 all from ≡ or_later f (verdict_from v k rest cs)
  pub true_now : f ≡ Holds → verdict_at k (answer_in v cs) ≡ Holds

-- the same of all invariants, of which it is noted which read of which component
pub record AreWatched (vs : List InvariantParts) (noted : List (List ℕ)) (all : List PlainEntry) (from : List Conf) (k : ℕ) (rest : List PlainEntry) (cs : List Conf) (found : List Verdict) : Type 0 where
  pub readers : noted ≡ map (λ c. readers_from c 0 vs) (component_names cs)
  pub many : length found ≡ length vs
  pub each : (i : ℕ) (v : InvariantParts) (f : Verdict) → slice_get vs i ≡ Some v → slice_get found i ≡ Some f → IsWatched v all from k rest cs f

-- of two lists of one length, both have an item in a place or none
there_too : {A B : Type 0} (xs : List A) (ys : List B) (i : ℕ) (x : A) → length ys ≡ length xs → slice_get xs i ≡ Some x → (y : B) × (slice_get ys i ≡ Some y)
there_too [] ys i x e h = absurd (cc)
there_too (u ∷ xs) [] i x e h = absurd (omega arith)
there_too (u ∷ xs) (y ∷ ys) zero x e h = (y, refl)
there_too (u ∷ xs) (y ∷ ys) (suc i) x e h = there_too xs ys i x (omega arith) h

-- a list that has the image of each item in its place
map-each : {A B : Type 0} (g : A → B) (xs : List A) (ys : List B) → length ys ≡ length xs → ((i : ℕ) (x : A) (y : B) → slice_get xs i ≡ Some x → slice_get ys i ≡ Some y → g x ≡ y) → ys ≡ map g xs
map-each g [] [] e h = refl
map-each g [] (y ∷ ys) e h = absurd (omega arith)
map-each g (x ∷ xs) [] e h = absurd (omega arith)
map-each g (x ∷ xs) (y ∷ ys) e h =
    let first : g x ≡ y = h 0 x y refl refl in
    let more : ys ≡ map g xs = map-each g xs ys (omega arith) (λ i u w a b. h (suc i) u w a b) in
    cc

-- the image of an item
mapped_at : {A B : Type 0} (g : A → B) (xs : List A) (i : ℕ) (x : A) (y : B) → slice_get xs i ≡ Some x → slice_get (map g xs) i ≡ Some y → g x ≡ y
mapped_at g [] i x y h e = absurd (cc)
mapped_at g (u ∷ xs) zero x y h e = let this : u ≡ x = cc in let that : g u ≡ y = cc in cc
mapped_at g (u ∷ xs) (suc i) x y h e = mapped_at g xs i x y h e

length-mapped : {A B : Type 0} (g : A → B) (xs : List A) → length (map g xs) ≡ length xs
length-mapped g [] = refl
length-mapped g (x ∷ xs) = ap suc (length-mapped g xs)

-- the verdicts at the start are watched
pub watched_first : (vs : List InvariantParts) (noted : List (List ℕ)) (all : List PlainEntry) (from : List Conf) (found : List Verdict) → noted ≡ map (λ c. readers_from c 0 vs) (component_names from) →
    found ≡ map (λ v. verdict_at 0 (answer_in v from)) vs → AreWatched vs noted all from 0 all from found
watched_first vs noted all from found readers are = record {
  readers = readers;
  many = rw are (length-mapped (λ v. verdict_at 0 (answer_in v from)) vs);
  each = λ i v f a b. first v f (mapped_at (λ u. verdict_at 0 (answer_in u from)) vs i v f a (rw are at b));
}
  where
    first : (v : InvariantParts) (f : Verdict) → verdict_at 0 (answer_in v from) ≡ f → IsWatched v all from 0 all from f
    first v f e = record {
      due = rw (← e) (sym (first_now v 0 all from));
      true_now = λ h. e ∙ h;
    }

-- after a step the verdict is that so far, or that in the new state if the invariant reads of a participant
step_one : (v : InvariantParts) (all : List PlainEntry) (from : List Conf) (k : ℕ) (e : PlainEntry) (rest : List PlainEntry) (cs next : List Conf) (f : Verdict) (b : Bool) →
    IsWatched v all from k (e ∷ rest) cs f → joint_answer e cs ≡ Ok next → (b ≡ false → answer_in v next ≡ answer_in v cs) →
    IsWatched v all from (k + 1) rest next (chosen b f (verdict_at (k + 1) (answer_in v next)))
step_one v all from k e rest cs next f b w h untouched = by_test b untouched
  where
    stepped : verdict_from v 0 all from ≡ or_later f (verdict_from v (k + 1) rest next)
    stepped =
        let due : verdict_from v 0 all from ≡ or_later f (or_later (verdict_at k (answer_in v cs)) (if_step (verdict_from v (k + 1) rest) (joint_answer e cs))) = w.due in
        let there : verdict_from v 0 all from ≡ or_later f (or_later (verdict_at k (answer_in v cs)) (verdict_from v (k + 1) rest next)) = rw h at due in
        there ∙ or_later-between f (verdict_at k (answer_in v cs)) (verdict_from v (k + 1) rest next) w.true_now

    by_test : (b : Bool) → (b ≡ false → answer_in v next ≡ answer_in v cs) → IsWatched v all from (k + 1) rest next (chosen b f (verdict_at (k + 1) (answer_in v next)))
    by_test true untouched = record {
      due = stepped ∙ (sym (ap (λ (u : Verdict). or_later f u) (first_now v (k + 1) rest next)) ∙ sym (or_later-assoc f (verdict_at (k + 1) (answer_in v next)) (verdict_from v (k + 1) rest next)));
      true_now = λ g. or_later-second f (verdict_at (k + 1) (answer_in v next)) g;
    }
    by_test false untouched = record {
      due = stepped;
      true_now = λ g. rw (untouched refl) (holds_at k (k + 1) (answer_in v cs) (w.true_now g));
    }

-- what is watched is so after a step
watched_step : (vs : List InvariantParts) (noted : List (List ℕ)) (all : List PlainEntry) (from : List Conf) (k : ℕ) (e : PlainEntry) (rest : List PlainEntry) (cs next : List Conf) (found : List Verdict) →
    AreWatched vs noted all from k (e ∷ rest) cs found → joint_answer e cs ≡ Ok next →
    AreWatched vs noted all from (k + 1) rest next (settled_parts (k + 1) next vs noted (component_names next) (participants_of e.action) found)
watched_step vs noted all from k e rest cs next found w h = record {
  readers = readers;
  many = length-settled_parts (k + 1) next vs noted (component_names next) (participants_of e.action) found ∙ w.many;
  each = λ i v f a b. one i v f a b (there_too vs found i v w.many a);
}
  where
    readers : noted ≡ map (λ c. readers_from c 0 vs) (component_names next)
    readers = rw (component_names-joint_answer e cs next h) w.readers

    one : (i : ℕ) (v : InvariantParts) (f : Verdict) → slice_get vs i ≡ Some v → slice_get (settled_parts (k + 1) next vs noted (component_names next) (participants_of e.action) found) i ≡ Some f →
        (g : Verdict) × (slice_get found i ≡ Some g) → IsWatched v all from (k + 1) rest next f
    one i v f a b before =
        let touched : Bool = list_any (λ c. is_among i (noted_of noted (component_names next) c)) (participants_of e.action) in
        let after : slice_get (settled_parts (k + 1) next vs noted (component_names next) (participants_of e.action) found) i ≡ Some (chosen touched before.0 (verdict_at (k + 1) (answer_in v next))) =
        settled_parts-each (k + 1) next vs noted (component_names next) (participants_of e.action) found i v before.0 a before.1 in
        let same : chosen touched before.0 (verdict_at (k + 1) (answer_in v next)) ≡ f = cc in
        rw (← same) (step_one v all from k e rest cs next before.0 touched (w.each i v before.0 a before.1) h (λ apart. answer_in-untouched i vs v e cs next a h (rw readers at apart)))

-- and so it is where the code goes on
pub watched_on : (vs : List InvariantParts) (noted : List (List ℕ)) (all : List PlainEntry) (from : List Conf) (k : ℕ) (e : PlainEntry) (whole rest : List PlainEntry) (cs next : List Conf) (found new : List Verdict) (b : Bool) →
    AreWatched vs noted all from k whole cs found → whole ≡ e ∷ rest → b ≡ true →
    GoesOn b (joint_answer e cs) next found new (settled_parts (k + 1) next vs noted (component_names next) (participants_of e.action) found) → AreWatched vs noted all from (k + 1) rest next new
watched_on vs noted all from k e whole rest cs next found new false w is on goes = absurd (cc)
watched_on vs noted all from k e whole rest cs next found new true w is on goes = rw goes.1 (watched_step vs noted all from k e rest cs next found (rw is at w) goes.0)

-- each of these verdicts is closed if none is open
closed_at : (found : List Verdict) (i : ℕ) (f : Verdict) → list_any is_open found ≡ false → slice_get found i ≡ Some f → is_open f ≡ false
closed_at [] i f h e = absurd (cc)
closed_at (g ∷ found) zero f h e = let this : g ≡ f = cc in rw (← this) (or_first (is_open g) (list_any is_open found) h)
closed_at (g ∷ found) (suc i) f h e = closed_at found i f (or_second (is_open g) (list_any is_open found) h) e

-- nothing is said behind a verdict that is closed
or_later-closed : (f w : Verdict) → is_open f ≡ false → or_later f w ≡ f
or_later-closed Holds w h = absurd (cc)
or_later-closed (Fails k) w h = refl
or_later-closed (Undefined k) w h = refl
or_later-closed (Range k) w h = refl

-- at the end what was found are the verdicts
pub watched_end : (vs : List InvariantParts) (noted : List (List ℕ)) (all : List PlainEntry) (from : List Conf) (k : ℕ) (whole : List PlainEntry) (cs : List Conf) (found : List Verdict) →
    AreWatched vs noted all from k whole cs found → whole ≡ [] → found ≡ map (λ v. verdict_from v 0 all from) vs
watched_end vs noted all from k whole cs found w is = map-each (λ v. verdict_from v 0 all from) vs found w.many (λ i v f a b. one v f (rw is at (w.each i v f a b)))
  where
    one : (v : InvariantParts) (f : Verdict) → IsWatched v all from k [] cs f → verdict_from v 0 all from ≡ f
    one v f x = x.due ∙ or_later-end f (verdict_at k (answer_in v cs)) x.true_now

-- and so they are at an entry that is no step
watched_stop : (vs : List InvariantParts) (noted : List (List ℕ)) (all : List PlainEntry) (from : List Conf) (k : ℕ) (e : PlainEntry) (rest : List PlainEntry) (cs : List Conf) (found : List Verdict) →
    AreWatched vs noted all from k (e ∷ rest) cs found → IsErr (joint_answer e cs) → found ≡ map (λ v. verdict_from v 0 all from) vs
watched_stop vs noted all from k e rest cs found w stops = map-each (λ v. verdict_from v 0 all from) vs found w.many (λ i v f a b. one v f (w.each i v f a b))
  where
    by_answer : (v : InvariantParts) (f : Verdict) (r : Result (List Conf) StepFault) → IsErr r → verdict_from v 0 all from ≡ or_later f (or_later (verdict_at k (answer_in v cs)) (if_step (verdict_from v (k + 1) rest) r)) →
        (f ≡ Holds → verdict_at k (answer_in v cs) ≡ Holds) → verdict_from v 0 all from ≡ f
    by_answer v f (Ok next) stops due true_now = absurd (cc)
    by_answer v f (Err g) stops due true_now = due ∙ (or_later-between f (verdict_at k (answer_in v cs)) Holds true_now ∙ or_later-holds f)

    one : (v : InvariantParts) (f : Verdict) → IsWatched v all from k (e ∷ rest) cs f → verdict_from v 0 all from ≡ f
    one v f x = by_answer v f (joint_answer e cs) stops x.due x.true_now

pub watched_off : (vs : List InvariantParts) (noted : List (List ℕ)) (all : List PlainEntry) (from : List Conf) (k : ℕ) (e : PlainEntry) (whole rest : List PlainEntry) (cs next : List Conf) (found new there : List Verdict) (b : Bool) →
    AreWatched vs noted all from k whole cs found → whole ≡ e ∷ rest → b ≡ false → GoesOn b (joint_answer e cs) next found new there → new ≡ map (λ v. verdict_from v 0 all from) vs
watched_off vs noted all from k e whole rest cs next found new there true w is off goes = absurd (cc)
watched_off vs noted all from k e whole rest cs next found new there false w is off goes = rw goes.1 (watched_stop vs noted all from k e rest cs found (rw is at w) goes.0)

-- and so they are where none is open
pub watched_closed : (vs : List InvariantParts) (noted : List (List ℕ)) (all : List PlainEntry) (from : List Conf) (k : ℕ) (whole : List PlainEntry) (cs : List Conf) (found : List Verdict) →
    AreWatched vs noted all from k whole cs found → list_any is_open found ≡ false → found ≡ map (λ v. verdict_from v 0 all from) vs
watched_closed vs noted all from k whole cs found w closed = map-each (λ v. verdict_from v 0 all from) vs found w.many (λ i v f a b. one v f (w.each i v f a b) (closed_at found i f closed b))
  where
    one : (v : InvariantParts) (f : Verdict) → IsWatched v all from k whole cs f → is_open f ≡ false → verdict_from v 0 all from ≡ f
    one v f x shut = x.due ∙ or_later-closed f (verdict_from v k whole cs) shut
