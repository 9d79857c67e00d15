-- A term that is read in a number of turns: one turn more, and the end.
use Rattle.std.proofs.Common.{◌≡◌, ℕ, suc, ◌+◌, ◌-◌, ◌<◌, ◌≤◌, List, Option, Some, None, refl, ap, ◌∙◌, arith}
use Rattle.ioa_tokens.specs.declared.token.Token.{Token}
use Rattle.ioa_source.specs.Sides.{SourceTerm}
use Rattle.ioa_cursor.specs.Reading.{bind, advance}
use Rattle.ioa_cursor.proofs.Lists.{left_less, none_left}
use Rattle.ioa_cursor.proofs.Steps.{read_next}
use Rattle.ioa_term_reader.specs.Reading.{accepted_after, extended_term, climb, level_of, operand, read}
use Rattle.ioa_source.specs.Heights.{height_limit}
use Rattle.ioa_term_reader.specs.declared.after.After.{After}

bound_is : {A B : Type 0} {o : Option A} {x : A} → o ≡ Some x → (f : A → Option B) → bind o f ≡ f x
unfolding bind
bound_is e f = rw e refl

bound_none : {A B : Type 0} {o : Option A} → o ≡ None → (f : A → Option B) → bind o f ≡ None
unfolding bind
bound_none e f = rw e refl

module _ (next : ℕ → ℕ → List Token → Option (SourceTerm × List Token)) where
  -- a turn, by what the term goes on with
  abbrev turned : ℕ → ℕ → ℕ → SourceTerm → List Token → List Token → Option After → Option (SourceTerm × List Token)
  turned turns room least left xs ys o =
      elim o [
        | None ↦ Some (left, xs)
        | Some a ↦ bind (extended_term next room left a ys) (λ s. climb next turns room least (level_of a) s.0 s.1)
      ]

  turn_is : (turns room least most : ℕ) (left : SourceTerm) (xs : List Token) →
      climb next (suc turns) room least most left xs ≡ turned turns room least left xs (advance xs) (accepted_after least most xs)
  unfolding climb
  turn_is turns room least most left xs = refl

  at_turn : (turns turn room least most : ℕ) (left : SourceTerm) (xs ys : List Token) (o : Option After) → turn < turns →
      o ≡ accepted_after least most xs → ys ≡ advance xs →
      climb next (turns - turn) room least most left xs ≡ turned (turns - (turn + 1)) room least left xs ys o
  at_turn turns turn room least most left xs ys o h e b = rw (left_less turns turn h) (rw (e, b) (turn_is _ _ _ _ _ _))

  pub climb_more : (turns turn room least most : ℕ) (left t : SourceTerm) (xs ys zs : List Token) (a : After) → turn < turns →
      Some a ≡ accepted_after least most xs → ys ≡ advance xs → extended_term next room left a ys ≡ read_next t zs →
      climb next (turns - turn) room least most left xs ≡ climb next (turns - (turn + 1)) room least (level_of a) t zs
  climb_more turns turn room least most left t xs ys zs a h e b g =
      at_turn turns turn room least most left xs ys (Some a) h e b
      ∙ bound_is g (λ s. climb next (turns - (turn + 1)) room least (level_of a) s.0 s.1)

  pub climb_none : (turns turn room least most : ℕ) (left : SourceTerm) (xs ys : List Token) (a : After) → turn < turns →
      Some a ≡ accepted_after least most xs → ys ≡ advance xs → extended_term next room left a ys ≡ None →
      climb next (turns - turn) room least most left xs ≡ None
  climb_none turns turn room least most left xs ys a h e b g =
      at_turn turns turn room least most left xs ys (Some a) h e b
      ∙ bound_none g (λ s. climb next (turns - (turn + 1)) room least (level_of a) s.0 s.1)

  pub climb_done : (turns turn room least most : ℕ) (left : SourceTerm) (xs : List Token) → turn < turns →
      None ≡ accepted_after least most xs → climb next (turns - turn) room least most left xs ≡ read_next left xs
  climb_done turns turn room least most left xs h e = at_turn turns turn room least most left xs (advance xs) None h e refl

  pub climb_all : (turns turn room least most : ℕ) (left : SourceTerm) (xs : List Token) → turns ≤ turn →
      climb next (turns - turn) room least most left xs ≡ read_next left xs
  unfolding climb
  climb_all turns turn room least most left xs h = rw (none_left turns turn h) refl

pub above_zero : (n : ℕ) → (n ≡ 0 → ⊥) → n ≡ suc (n - 1)
above_zero n h = omega arith

abbrev pub deeper : ℕ → ℕ → ℕ → List Token → Option (SourceTerm × List Token)
deeper depth room least xs = bind (operand (read depth) room least xs) (λ o. climb (read depth) height_limit room least o.0.0 o.0.1 o.1)

at_depth : (depth room least : ℕ) (xs : List Token) → read (suc depth) room least xs ≡ deeper depth room least xs
unfolding read
at_depth depth room least xs = refl

pub read_deeper : (depth room least : ℕ) (xs : List Token) → (depth ≡ 0 → ⊥) → read depth room least xs ≡ deeper (depth - 1) room least xs
read_deeper depth room least xs h = ap (λ n. read n room least xs) (above_zero depth h) ∙ at_depth (depth - 1) room least xs

pub some_same : {A : Type 0} {a b : A} → Some a ≡ Some b → a ≡ b
some_same e = cc
