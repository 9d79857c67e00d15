-- Names in view, as the code finds them.
use Rattle.std.proofs.Common.{◌≡◌, ◌+◌, ◌<◌, ◌≤◌, ◌^◌, ℕ, ℤ, zero, suc, Bool, true, false, if◌then◌else◌, List, [], ◌∷◌, ◌++◌, Option, Some, None, length, map, nat_lt, take, slice_get, refl, ◌∙◌, ap, sym, subst, arith}
use Rattle.std.specs.List.{zip}
use Rattle.std.proofs.lemmas.Bool.Decides.{nat_tests}
use Rattle.std.proofs.lemmas.List.{length-append, append_assoc}
use Rattle.std.specs.Option.{is_some, option_map, option_and_then, option_or}
use Rattle.ioa_operators.specs.Shapes.{PlainShape}
use Rattle.ioa_terms.specs.declared.name.Name.{Name}
use Rattle.ioa_terms.specs.declared.name.Name.TheVariants.{Word, Variable, Queue}
use Rattle.ioa_terms.specs.Bindings.{same_name, slot_in}
use Rattle.ioa_terms.specs.Sorted.{NameShapes, shape_named}
use Rattle.ioa_names.specs.NameTables.{declared_names, word_in, words}
use Rattle.ioa_names.specs.Views.{AreWords, at_slot, behind, declared_at}

abbrev next : ℕ × PlainShape → ℕ × PlainShape
next p = (p.0 + 1, p.1)

-- behind one more name the slots are one more
later_at : (s : PlainShape) (ss : List PlainShape) (o : Option ℕ) → option_map next (option_and_then (at_slot ss) o) ≡ option_and_then (at_slot (s ∷ ss)) (option_map (λ k. k + 1) o)
later_at s ss None = refl
later_at s ss (Some k) = let e : k + 1 ≡ suc k = omega arith in rw e (by_shape (slice_get ss k))
  where
    by_shape : (o : Option PlainShape) → option_map next (option_map (λ s. (k, s)) o) ≡ option_map (λ s. (suc k, s)) o
    by_shape None = refl
    by_shape (Some s) = let e : k + 1 ≡ suc k = omega arith in ap (λ m. Some (m, s)) e

none_at_slot : (o : Option ℕ) → None ≡ option_and_then (at_slot []) o
none_at_slot None = refl
none_at_slot (Some k) = refl

-- the slot of a name and its declared shape, by the names and by the shapes
pub declared_zip : (x : Name) (ns : List Name) (ss : List PlainShape) → declared_at x (zip ns ss) ≡ option_and_then (at_slot ss) (slot_in x ns)
declared_zip x [] ss = refl
declared_zip x (y ∷ ns) [] = none_at_slot (slot_in x (y ∷ ns))
declared_zip x (y ∷ ns) (s ∷ ss) = by_test (ap (option_map next) (declared_zip x ns ss) ∙ later_at s ss (slot_in x ns)) (same_name x y)
  where
    by_test : option_map next (declared_at x (zip ns ss)) ≡ option_and_then (at_slot (s ∷ ss)) (option_map (λ k. k + 1) (slot_in x ns)) → (b : Bool) → (if b then Some (0, s) else option_map next (declared_at x (zip ns ss))) ≡ option_and_then (at_slot (s ∷ ss)) (if b then Some 0 else option_map (λ k. k + 1) (slot_in x ns))
    by_test rest true = refl
    by_test rest false = rest

-- a name has a slot if and only if it has a shape
pub slot_or_shape : (x : Name) (ns : NameShapes) → is_some (declared_at x ns) ≡ is_some (shape_named x ns)
slot_or_shape x [] = refl
slot_or_shape x (n ∷ ns) = by_test (declared_at x ns) (slot_or_shape x ns) (same_name x n.0)
  where
    by_test : (o : Option (ℕ × PlainShape)) → is_some o ≡ is_some (shape_named x ns) → (b : Bool) → is_some (if b then Some (0, n.1) else option_map next o) ≡ is_some (if b then Some n.1 else shape_named x ns)
    by_test o rest true = refl
    by_test None rest false = rest
    by_test (Some p) rest false = rest

abbrev IsBelow : ℕ → Option (ℕ × PlainShape) → Type 0
IsBelow many None = Unit {0}
IsBelow many (Some p) = p.0 < many

below_next : (many : ℕ) (o : Option (ℕ × PlainShape)) → IsBelow many o → IsBelow (suc many) (option_map next o)
below_next many None h = tt
below_next many (Some p) h = omega arith

-- the slot of a name is below their number
below_many : (x : Name) (ns : NameShapes) → IsBelow (length ns) (declared_at x ns)
below_many x [] = tt
below_many x (n ∷ ns) = by_test (below_next (length ns) (declared_at x ns) (below_many x ns)) (same_name x n.0)
  where
    by_test : IsBelow (suc (length ns)) (option_map next (declared_at x ns)) → (b : Bool) → IsBelow (suc (length ns)) (if b then Some (0, n.1) else option_map next (declared_at x ns))
    by_test rest true = omega arith
    by_test rest false = rest

pub slot_below : (x : Name) (ns : NameShapes) (slot : ℕ) (s : PlainShape) → Some (slot, s) ≡ declared_at x ns → slot < length ns
slot_below x ns slot s e = subst (IsBelow (length ns)) (sym e) (below_many x ns)

behind_none : (o : Option (ℕ × PlainShape)) → o ≡ behind 0 o
behind_none None = refl
behind_none (Some p) = let e : p.0 ≡ 0 + p.0 = omega arith in ap (λ m. Some (m, p.1)) e

behind_more : (many : ℕ) (o : Option (ℕ × PlainShape)) → option_map next (behind many o) ≡ behind (suc many) o
behind_more many None = refl
behind_more many (Some p) = let e : many + p.0 + 1 ≡ suc many + p.0 = omega arith in ap (λ m. Some (m, p.1)) e

-- of two numbers of names in front the sum counts
behind_both : (a b : ℕ) (o : Option (ℕ × PlainShape)) → behind a (behind b o) ≡ behind (a + b) o
behind_both a b None = refl
behind_both a b (Some p) = let e : a + (b + p.0) ≡ a + b + p.0 = omega arith in ap (λ m. Some (m, p.1)) e

next_or : (o p : Option (ℕ × PlainShape)) → option_map next (option_or o p) ≡ option_or (option_map next o) (option_map next p)
next_or None p = refl
next_or (Some q) p = refl

-- a name of two lists is in the first, or else in the second and behind all names of the first
pub in_two : (x : Name) (ns ms : NameShapes) → declared_at x (ns ++ ms) ≡ option_or (declared_at x ns) (behind (length ns) (declared_at x ms))
in_two x [] ms = behind_none (declared_at x ms)
in_two x (n ∷ ns) ms =
    by_test (ap (option_map next) (in_two x ns ms)
    ∙ next_or (declared_at x ns) (behind (length ns) (declared_at x ms))
    ∙ ap (option_or (option_map next (declared_at x ns))) (behind_more (length ns) (declared_at x ms))) (same_name x n.0)
  where
    by_test : option_map next (declared_at x (ns ++ ms)) ≡ option_or (option_map next (declared_at x ns)) (behind (suc (length ns)) (declared_at x ms)) → (b : Bool) → (if b then Some (0, n.1) else option_map next (declared_at x (ns ++ ms))) ≡ option_or (if b then Some (0, n.1) else option_map next (declared_at x ns)) (behind (suc (length ns)) (declared_at x ms))
    by_test rest true = refl
    by_test rest false = rest

behind_or : (k : ℕ) (o p : Option (ℕ × PlainShape)) → behind k (option_or o p) ≡ option_or (behind k o) (behind k p)
behind_or k None p = refl
behind_or k (Some q) p = refl

-- the same of three lists
pub in_three : (x : Name) (outer own constants : NameShapes) → declared_at x (outer ++ (own ++ constants)) ≡ option_or (declared_at x outer) (option_or (behind (length outer) (declared_at x own)) (behind (length outer + length own) (declared_at x constants)))
in_three x outer own constants =
    in_two x outer (own ++ constants)
    ∙ ap (λ o. option_or (declared_at x outer) (behind (length outer) o)) (in_two x own constants)
    ∙ ap (option_or (declared_at x outer)) (behind_or (length outer) (declared_at x own) (behind (length own) (declared_at x constants)))
    ∙ ap (λ o. option_or (declared_at x outer) (option_or (behind (length outer) (declared_at x own)) o)) (behind_both (length outer) (length own) (declared_at x constants))

-- a name that is no word is none of those that are words
no_word_at : (x : Name) (ns : NameShapes) (ws : List (List ℕ)) → word_in x ≡ [] → declared_names ns ≡ map Word ws → None ≡ declared_at x ns
no_word_at x [] ws e h = refl
no_word_at x (n ∷ ns) [] e h = absurd (cc)
no_word_at (Word y) (n ∷ ns) (w ∷ ws) e h = absurd (cc)
no_word_at (Variable y k) ((Word v, s) ∷ ns) (w ∷ ws) e h = ap (option_map next) (no_word_at (Variable y k) ns ws e (cc))
no_word_at (Variable y k) ((Variable v l, s) ∷ ns) (w ∷ ws) e h = absurd (cc)
no_word_at (Variable y k) ((Queue i j, s) ∷ ns) (w ∷ ws) e h = absurd (cc)
no_word_at (Queue a b) ((Word v, s) ∷ ns) (w ∷ ws) e h = ap (option_map next) (no_word_at (Queue a b) ns ws e (cc))
no_word_at (Queue a b) ((Variable v l, s) ∷ ns) (w ∷ ws) e h = absurd (cc)
no_word_at (Queue a b) ((Queue i j, s) ∷ ns) (w ∷ ws) e h = absurd (cc)

pub no_variable : (w : List ℕ) (k : ℤ) (ns : NameShapes) → AreWords ns → None ≡ declared_at (Variable w k) ns
no_variable w k ns h = no_word_at (Variable w k) ns (words ns) refl h

pub no_queue : (i j : ℤ) (ns : NameShapes) → AreWords ns → None ≡ declared_at (Queue i j) ns
no_queue i j ns h = no_word_at (Queue i j) ns (words ns) refl h

pub ruleset no_word = (no_variable, no_queue)

-- so in view it is one of the first names
first_alone : (x : Name) (outer own constants : NameShapes) → None ≡ declared_at x own → None ≡ declared_at x constants → declared_at x outer ≡ declared_at x (outer ++ (own ++ constants))
first_alone x outer own constants h g = sym (in_three x outer own constants ∙ rw (← h, ← g) (or_none (declared_at x outer)))
  where
    or_none : (o : Option (ℕ × PlainShape)) → option_or o (option_or None None) ≡ o
    or_none None = refl
    or_none (Some p) = refl

pub first_variable : (w : List ℕ) (k : ℤ) (outer own constants : NameShapes) → AreWords own → AreWords constants → declared_at (Variable w k) outer ≡ declared_at (Variable w k) (outer ++ (own ++ constants))
first_variable w k outer own constants h g = first_alone (Variable w k) outer own constants (no_variable w k own h) (no_variable w k constants g)

pub first_queue : (i j : ℤ) (outer own constants : NameShapes) → AreWords own → AreWords constants → declared_at (Queue i j) outer ≡ declared_at (Queue i j) (outer ++ (own ++ constants))
first_queue i j outer own constants h g = first_alone (Queue i j) outer own constants (no_queue i j own h) (no_queue i j constants g)

pub ruleset in_first = (first_variable, first_queue)

-- two lists of names are as many as both together
pub both_many : (ns ms : NameShapes) → length ns + length ms ≡ length (ns ++ ms)
both_many ns ms = sym (length-append ns ms)

pub both_fit : (ns ms : NameShapes) → length (ns ++ ms) < 2 ^ 64 → length ns + length ms < 2 ^ 64
both_fit ns ms h = subst (λ many. many < 2 ^ 64) (sym (both_many ns ms)) h

pub ruleset both = (both_many, both_fit)

-- a name that is no word is in neither of two lists of words
in_neither : (x : Name) (ns ms : NameShapes) → None ≡ declared_at x ns → None ≡ declared_at x ms → None ≡ declared_at x (ns ++ ms)
in_neither x ns ms h g = sym (in_two x ns ms ∙ rw (← h, ← g) refl)

pub neither_variable : (w : List ℕ) (k : ℤ) (ns ms : NameShapes) → AreWords ns → AreWords ms → None ≡ declared_at (Variable w k) (ns ++ ms)
neither_variable w k ns ms h g = in_neither (Variable w k) ns ms (no_variable w k ns h) (no_variable w k ms g)

pub neither_queue : (i j : ℤ) (ns ms : NameShapes) → AreWords ns → AreWords ms → None ≡ declared_at (Queue i j) (ns ++ ms)
neither_queue i j ns ms h g = in_neither (Queue i j) ns ms (no_queue i j ns h) (no_queue i j ms g)

pub ruleset no_word_in_two = (neither_variable, neither_queue)

-- names in front of others
pub in_front : (front outer rest : NameShapes) → front ++ outer ++ rest ≡ front ++ (outer ++ rest)
in_front front outer rest = append_assoc front outer rest

-- the slot of a name, if it is below a number
abbrev below : ℕ → Option (ℕ × PlainShape) → Option (ℕ × PlainShape)
below many None = None
below many (Some p) = if nat_lt p.0 many then Some p else None

none_below : (o : Option (ℕ × PlainShape)) → None ≡ below 0 o
none_below None = refl
none_below (Some p) = let e : nat_lt p.0 0 ≡ false = grind (arith, nat_tests) in rw e refl

next_below : (many : ℕ) (o : Option (ℕ × PlainShape)) → option_map next (below many o) ≡ below (suc many) (option_map next o)
next_below many None = refl
next_below many (Some p) =
    let e : nat_lt (p.0 + 1) (suc many) ≡ nat_lt p.0 many = grind (arith, nat_tests) in
    rw e (by_test (nat_lt p.0 many))
  where
    by_test : (b : Bool) → option_map next (if b then Some p else None) ≡ (if b then Some (next p) else None)
    by_test true = refl
    by_test false = refl

-- the slot of a name among the first ones
among_first : (many : ℕ) (x : Name) (ns : NameShapes) → declared_at x (take many ns) ≡ below many (declared_at x ns)
among_first zero x [] = refl
among_first zero x (n ∷ ns) = none_below (declared_at x (n ∷ ns))
among_first (suc many) x [] = refl
among_first (suc many) x (n ∷ ns) =
    by_test (ap (option_map next) (among_first many x ns) ∙ next_below many (declared_at x ns)) (same_name x n.0)
  where
    by_test : option_map next (declared_at x (take many ns)) ≡ below (suc many) (option_map next (declared_at x ns)) → (b : Bool) → (if b then Some (0, n.1) else option_map next (declared_at x (take many ns))) ≡ below (suc many) (if b then Some (0, n.1) else option_map next (declared_at x ns))
    by_test rest true = let e : nat_lt 0 (suc many) ≡ true = grind (arith, nat_tests) in rw e refl
    by_test rest false = rest

pub first_slot : (many : ℕ) (x : Name) (ns : NameShapes) (slot : ℕ) (s : PlainShape) → slot < many → Some (slot, s) ≡ declared_at x ns → Some (slot, s) ≡ declared_at x (take many ns)
first_slot many x ns slot s h e =
    let f : nat_lt slot many ≡ true = grind (arith, nat_tests) in
    rw (among_first many x ns, ← e, f) refl

pub later_slot : (many : ℕ) (x : Name) (ns : NameShapes) (slot : ℕ) (s : PlainShape) → many ≤ slot → Some (slot, s) ≡ declared_at x ns → None ≡ declared_at x (take many ns)
later_slot many x ns slot s h e =
    let f : nat_lt slot many ≡ false = grind (arith, nat_tests) in
    rw (among_first many x ns, ← e, f) refl

pub no_slot : (many : ℕ) (x : Name) (ns : NameShapes) → None ≡ declared_at x ns → None ≡ declared_at x (take many ns)
no_slot many x ns e = rw (among_first many x ns, ← e) refl

pub ruleset first_slots = (first_slot, later_slot, no_slot)
