-- What is under way on a channel, by the place at which its traffic is noted.
use Rattle.std.proofs.Common.{◌≡◌, ◌∙◌, ℕ, ℤ, suc, ◌+◌, ◌-◌, ◌<◌, ◌≤◌, Bool, true, false, if◌then◌else◌, List, [], ◌∷◌, ◌++◌, Some, None, Result, Ok, Err, OnOk, refl, sym, ap, length, get_or, set, arith}
use Rattle.std.specs.Prelude.{Decides}
use Rattle.std.specs.List.{position_from}
use Rattle.std.proofs.lemmas.Bool.Decides.{Decides-and, Decides-int_eq}
use Rattle.ioa_values.specs.Data.{Data}
use Rattle.ioa_show.specs.Matching.{rest_of, same_ends, with_queue}
use Rattle.ioa_show.specs.Traffics.{is_on, waits, waiting_on}
use Rattle.ioa_show.specs.declared.partners.Traffic.{Traffic}

-- the test of two channels says so exactly if their ends are the same
ends_decide : (i j a b : ℤ) → Decides (same_ends i j a b) ((i ≡ a) × (j ≡ b))
ends_decide i j a b = Decides-and _ _ (Decides-int_eq i a) (Decides-int_eq j b)

-- two channels are not one and the same third one
ends_apart : (i j : ℤ) (c : Traffic) (a b : ℤ) → is_on i j c ≡ false → same_ends c.from c.to a b ≡ true → same_ends i j a b ≡ true → ⊥
ends_apart i j c a b other first second =
    let p : (c.from ≡ a) × (c.to ≡ b) = (ends_decide c.from c.to a b).0 first in
    let q : (i ≡ a) × (j ≡ b) = (ends_decide i j a b).0 second in
    let one : is_on i j c ≡ true = (ends_decide c.from c.to i j).1 (p.0 ∙ sym q.0, p.1 ∙ sym q.1) in
    absurd (cc)

-- a choice behind the same choice, and two choices of which one at most is made
same_choice : {X : Type 0} (s : Bool) (x y z : X) → (if s then x else y) ≡ (if s then x else (if s then z else y))
same_choice true x y z = refl
same_choice false x y z = refl

other_choice : {X : Type 0} (p q : Bool) (x y z w : X) → (p ≡ true → q ≡ true → ⊥) → w ≡ (if q then y else z)
    → (if p then x else w) ≡ (if q then y else (if p then x else z))
other_choice true true x y z w apart e = absurd (apart refl refl)
other_choice true false x y z w apart e = refl
other_choice false q x y z w apart e = e

-- the traffic of the channel from i to j is `m - n` places on
record IsPlace (i j : ℤ) (ts : List Traffic) (n m : ℕ) : Type 0 where
  behind : n ≤ m
  within : m - n < length ts
  ends : (d : Traffic) → ((get_or ts (m - n) d).from ≡ i) × ((get_or ts (m - n) d).to ≡ j)
  here : (d : Traffic) → waiting_on ts i j ≡ waits (get_or ts (m - n) d)
  changed : (t : Traffic) → t.from ≡ i → t.to ≡ j → (a b : ℤ)
      → waiting_on (set ts (m - n) t) a b ≡ with_queue i j (waits t) (waiting_on ts) a b

-- behind other traffic the place is one further on
next_place : (i j : ℤ) (c : Traffic) (cs : List Traffic) (n m : ℕ) → is_on i j c ≡ false → IsPlace i j cs (n + 1) m → IsPlace i j (c ∷ cs) n m
next_place i j c cs n m e p =
    let further : m - n ≡ suc (m - (n + 1)) = omega (arith, p.behind) in
    record {
      behind = omega (arith, p.behind);
      within = rw further (omega (arith, p.within));
      ends = λ d. rw further (p.ends d);
      here = λ d. rw (further, e) (p.here d);
      changed = λ t f g a b. rw further
          (other_choice (same_ends c.from c.to a b) (same_ends i j a b) (waits c) (waits t) (waiting_on cs a b)
          (waiting_on (set cs (m - (n + 1)) t) a b) (ends_apart i j c a b e) (p.changed t f g a b));
    }

-- the first place is that of traffic with these ends
first_place : (i j : ℤ) (c : Traffic) (cs : List Traffic) (n m : ℕ) → n ≡ m → is_on i j c ≡ true → IsPlace i j (c ∷ cs) n m
first_place i j c cs n m s e =
    let first : m - n ≡ 0 = omega (arith, s) in
    let own : (c.from ≡ i) × (c.to ≡ j) = (ends_decide c.from c.to i j).0 e in
    record {
      behind = omega (arith, s);
      within = rw first (omega arith);
      ends = λ d. rw first own;
      here = λ d. rw (first, e) refl;
      changed = λ t f g a b. rw (first, f, g, own.0, own.1)
          (same_choice (same_ends i j a b) (waits t) (waiting_on cs a b) (waits c));
    }

-- what is found by its ends is the place
place : (i j : ℤ) (ts : List Traffic) (n m : ℕ) → position_from (λ t. is_on i j t) n ts ≡ Some m → IsPlace i j ts n m
place i j [] n m h = absurd (cc)
place i j (c ∷ cs) n m h = by_test (is_on i j c) refl h (λ k. place i j cs (n + 1) m k)
  where
    by_test : (b : Bool) → is_on i j c ≡ b → (if b then Some n else position_from (λ t. is_on i j t) (n + 1) cs) ≡ Some m →
        (position_from (λ t. is_on i j t) (n + 1) cs ≡ Some m → IsPlace i j cs (n + 1) m) → IsPlace i j (c ∷ cs) n m
    by_test true e h more = first_place i j c cs n m (cc) e
    by_test false e h more = next_place i j c cs n m e (more h)

-- no traffic is that of the channel from i to j
record IsNowhere (i j : ℤ) (ts : List Traffic) : Type 0 where
  nothing : waiting_on ts i j ≡ []
  added : (t : Traffic) → t.from ≡ i → t.to ≡ j → (a b : ℤ)
      → waiting_on (ts ++ t ∷ []) a b ≡ with_queue i j (waits t) (waiting_on ts) a b

nowhere : (i j : ℤ) (ts : List Traffic) (n : ℕ) → None ≡ position_from (λ t. is_on i j t) n ts → IsNowhere i j ts
nowhere i j [] n h = record { nothing = refl; added = λ t f g a b. rw (f, g) refl }
nowhere i j (c ∷ cs) n h = by_test (is_on i j c) refl h (λ k. nowhere i j cs (n + 1) k)
  where
    by_test : (b : Bool) → is_on i j c ≡ b → None ≡ (if b then Some n else position_from (λ t. is_on i j t) (n + 1) cs) →
        (None ≡ position_from (λ t. is_on i j t) (n + 1) cs → IsNowhere i j cs) → IsNowhere i j (c ∷ cs)
    by_test true e h more = absurd (cc)
    by_test false e h more =
        let rest : IsNowhere i j cs = more h in
        record {
          nothing = rw e rest.nothing;
          added = λ t f g a b.
              other_choice (same_ends c.from c.to a b) (same_ends i j a b) (waits c) (waits t)
              (waiting_on cs a b) (waiting_on (cs ++ t ∷ []) a b) (ends_apart i j c a b e) (rest.added t f g a b);
        }

-- where nothing is under way, nothing is taken
nothing_taken : (i j : ℤ) (w : ℤ → ℤ → List (ℕ × Data)) → w i j ≡ [] → (a b : ℤ) → w a b ≡ with_queue i j [] w a b
nothing_taken i j w none a b = by_test (same_ends i j a b) refl
  where
    by_test : (t : Bool) → same_ends i j a b ≡ t → w a b ≡ (if t then [] else w a b)
    by_test true e =
        let p : (i ≡ a) × (j ≡ b) = (ends_decide i j a b).0 e in
        rw (← p.0, ← p.1) none
    by_test false e = refl

module _ (ts : List Traffic) (i j : ℤ) where
  -- the place is one of the list
  pub place-within : (m : ℕ) → Some m ≡ position_from (λ t. is_on i j t) 0 ts → m < length ts
  place-within m h = let p : IsPlace i j ts 0 m = place i j ts 0 m (sym h) in omega (arith, p.within)

  -- what stands at the place has these ends, and what is under way on the channel
  pub ends_at : (m : ℕ) (d : Traffic) → Some m ≡ position_from (λ t. is_on i j t) 0 ts → ((get_or ts m d).from ≡ i) × ((get_or ts m d).to ≡ j)
  ends_at m d h = let p : IsPlace i j ts 0 m = place i j ts 0 m (sym h) in let same : m ≡ m - 0 = omega arith in rw same (p.ends d)

  pub waits_at : (m : ℕ) (d : Traffic) → Some m ≡ position_from (λ t. is_on i j t) 0 ts → waiting_on ts i j ≡ waits (get_or ts m d)
  waits_at m d h = let p : IsPlace i j ts 0 m = place i j ts 0 m (sym h) in let same : m ≡ m - 0 = omega arith in rw same (p.here d)

  -- other traffic at the place changes what is under way on this channel alone
  pub put_at : (m : ℕ) (t : Traffic) (ws : List (ℕ × Data)) → Some m ≡ position_from (λ t. is_on i j t) 0 ts → t.from ≡ i → t.to ≡ j
      → waits t ≡ ws → waiting_on (set ts m t) ≡ with_queue i j ws (waiting_on ts)
  put_at m t ws h f g w =
      let p : IsPlace i j ts 0 m = place i j ts 0 m (sym h) in
      let same : m ≡ m - 0 = omega arith in
      let each : (a b : ℤ) → waiting_on (set ts m t) a b ≡ with_queue i j ws (waiting_on ts) a b = λ a b. rw (same, ← w) (p.changed t f g a b) in
      λ x a b. each a b x

  -- and so does traffic that is new
  pub put_behind : (t : Traffic) (ws : List (ℕ × Data)) → None ≡ position_from (λ t. is_on i j t) 0 ts → t.from ≡ i → t.to ≡ j
      → waits t ≡ ws → waiting_on (ts ++ t ∷ []) ≡ with_queue i j ws (waiting_on ts)
  put_behind t ws h f g w =
      let p : IsNowhere i j ts = nowhere i j ts 0 h in
      let each : (a b : ℤ) → waiting_on (ts ++ t ∷ []) a b ≡ with_queue i j ws (waiting_on ts) a b = λ a b. rw (← w) (p.added t f g a b) in
      λ x a b. each a b x

  -- without a place nothing is under way, and nothing is taken
  pub nothing_waits : None ≡ position_from (λ t. is_on i j t) 0 ts → waiting_on ts i j ≡ []
  nothing_waits h = (nowhere i j ts 0 h).nothing

  pub nothing_changes : (m : Data) → None ≡ position_from (λ t. is_on i j t) 0 ts → waiting_on ts ≡ with_queue i j (rest_of m (waiting_on ts i j)) (waiting_on ts)
  nothing_changes m h =
      let none : waiting_on ts i j ≡ [] = nothing_waits h in
      let each : (a b : ℤ) → waiting_on ts a b ≡ with_queue i j (rest_of m (waiting_on ts i j)) (waiting_on ts) a b =
      λ a b. rw none (nothing_taken i j (waiting_on ts) none a b) in
      λ x a b. each a b x

  -- what is read at the place has these ends, and what is under way on the channel
  pub waits_here : (m : ℕ) (c : Traffic) → Some m ≡ position_from (λ t. is_on i j t) 0 ts → c ≡ get_or ts m c
      → (c.from ≡ i) × (c.to ≡ j) × (waiting_on ts i j ≡ waits c)
  waits_here m c h is =
      let own : ((get_or ts m c).from ≡ i) × ((get_or ts m c).to ≡ j) = ends_at m c h in
      (ap (λ (t : Traffic). t.from) is ∙ own.0, ap (λ (t : Traffic). t.to) is ∙ own.1, waits_at m c h ∙ ap waits (sym is))

  -- one more send is put behind what is read at the place
  pub put_at_ok : {X Y : Type 0} (m : ℕ) (c t : Traffic) (ws : List (ℕ × Data)) (r : Result X Y) → Some m ≡ position_from (λ t. is_on i j t) 0 ts
      → c ≡ get_or ts m c → t.from ≡ c.from → t.to ≡ c.to → OnOk r (waits t ≡ waits c ++ ws)
      → OnOk r (waiting_on (set ts m t) ≡ with_queue i j (waiting_on ts i j ++ ws) (waiting_on ts))
  put_at_ok m c t ws (Ok x) h is f g w =
      let here : (c.from ≡ i) × (c.to ≡ j) × (waiting_on ts i j ≡ waits c) = waits_here m c h is in
      put_at m t (waiting_on ts i j ++ ws) h (f ∙ here.0) (g ∙ here.1) (w ∙ ap (λ (x : List (ℕ × Data)). x ++ ws) (sym here.2))
  put_at_ok m c t ws (Err e) h is f g w = tt
