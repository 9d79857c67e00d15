-- The parts of a tuple, read shape by shape: one part more, the end, and no part if one has to come.
use Rattle.std.proofs.Common.{◌≡◌, ℕ, zero, suc, ◌+◌, ◌<◌, ◌≤◌, List, [], ◌∷◌, ◌++◌, None, length, drop, get_or, refl, arith, add-one, drop-cons}
use Rattle.ioa_tokens.specs.declared.token.Token.{Token}
use Rattle.ioa_cursor.specs.Reading.{bind}
use Rattle.ioa_cursor.proofs.Steps.{read_next}
use Rattle.ioa_values.specs.Data.{Data}
use Rattle.ioa_operators.specs.Shapes.{PlainShape, shapes_of}
use Rattle.ioa_operators.specs.ShapeHeight.{height, heights}
use Rattle.ioa_value_reader.specs.Reading.{between, read_value, read_parts}

-- a shape of a list is no higher than all of them
pub part_height : (ss : List PlainShape) (i : ℕ) (s : PlainShape) → i < length ss → s ≡ get_or ss i s → height s ≤ heights (shapes_of ss)
part_height [] i s h e = absurd (omega arith)
part_height (t ∷ ts) zero s h e = rw e (omega arith)
part_height (t ∷ ts) (suc i) s h e = let low = part_height ts i s (omega arith) e in omega arith

module _ (names : List (List ℕ)) (ss : List PlainShape) (i : ℕ) (s : PlainShape) (h : i < length ss) (e : s ≡ get_or ss i s) (done : List Data) where
  left : drop i ss ≡ s ∷ drop (i + 1) ss
  left = rw (add-one, drop-cons ss i s, ← e) refl

  pub no_comma : (xs : List Token) → between done xs ≡ None → read_parts names (shapes_of (drop i ss)) done xs ≡ None
  unfolding read_parts bind
  no_comma xs n = rw left (rw n refl)

  pub no_part : (xs ys : List Token) (u : Unit {0}) → between done xs ≡ read_next u ys → read_value names s ys ≡ None → read_parts names (shapes_of (drop i ss)) done xs ≡ None
  unfolding read_parts bind
  no_part xs ys u b n = rw left (rw b (rw n refl))

  pub one_part : (xs ys zs : List Token) (u : Unit {0}) (d : Data) → between done xs ≡ read_next u ys → read_value names s ys ≡ read_next d zs →
      read_parts names (shapes_of (drop i ss)) done xs ≡ read_parts names (shapes_of (drop (i + 1) ss)) (done ++ d ∷ []) zs
  unfolding read_parts bind
  one_part xs ys zs u d b r = rw left (rw b (rw r refl))

all_gone : {A : Type 0} (xs : List A) (i : ℕ) → length xs ≤ i → drop i xs ≡ []
all_gone [] zero h = refl
all_gone [] (suc i) h = refl
all_gone (x ∷ xs) zero h = absurd (omega arith)
all_gone (x ∷ xs) (suc i) h = all_gone xs i (omega arith)

pub all_parts : (names : List (List ℕ)) (ss : List PlainShape) (i : ℕ) (done : List Data) (xs : List Token) → length ss ≤ i → read_parts names (shapes_of (drop i ss)) done xs ≡ read_next done xs
unfolding read_parts
all_parts names ss i done xs h = rw (all_gone ss i h) refl
