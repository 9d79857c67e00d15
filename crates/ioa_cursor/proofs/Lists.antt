-- A list that is read item by item: one turn more, the end, and no item if one has to come.
use Rattle.std.proofs.Common.{◌≡◌, ℕ, zero, suc, ◌+◌, ◌-◌, ◌<◌, ◌≤◌, Bool, true, false, List, [], ◌∷◌, ◌++◌, Option, None, refl, sym, ap, arith}
use Rattle.ioa_tokens.specs.declared.token.Token.{Token}
use Rattle.ioa_cursor.specs.Reading.{collect, collect_lists, begins_with, bind, choose}
use Rattle.ioa_cursor.proofs.Steps.{read_next, stays}

pub left_less : (turns turn : ℕ) → turn < turns → turns - turn ≡ suc (turns - (turn + 1))
left_less turns turn h = omega arith

pub none_left : (turns turn : ℕ) → turns ≤ turn → turns - turn ≡ zero
none_left turns turn h = omega arith

module _ {A : Type 0} (next : List Token → Bool × List Token) (read : List Token → Option (A × List Token)) where
  pub collected_more : (turns turn : ℕ) (done : List A) (xs ys zs : List Token) (x : A) → turn < turns →
      next xs ≡ stays true ys → read ys ≡ read_next x zs →
      collect next read (turns - turn) done xs ≡ collect next read (turns - (turn + 1)) (done ++ x ∷ []) zs
  unfolding collect bind choose
  collected_more turns turn done xs ys zs x h e r = rw (left_less turns turn h) (rw e (rw r refl))

  pub collected_done : (turns turn : ℕ) (done : List A) (xs ys : List Token) → turn < turns →
      next xs ≡ stays false ys → collect next read (turns - turn) done xs ≡ read_next done ys
  unfolding collect bind choose
  collected_done turns turn done xs ys h e = rw (left_less turns turn h) (rw e refl)

  pub collected_none : (turns turn : ℕ) (done : List A) (xs ys : List Token) → turn < turns →
      next xs ≡ stays true ys → read ys ≡ None → collect next read (turns - turn) done xs ≡ None
  unfolding collect bind choose
  collected_none turns turn done xs ys h e r = rw (left_less turns turn h) (rw e (rw r refl))

  pub collected_all : (turns turn : ℕ) (done : List A) (xs : List Token) → turns ≤ turn →
      collect next read (turns - turn) done xs ≡ read_next done xs
  unfolding collect bind choose
  collected_all turns turn done xs h = rw (none_left turns turn h) refl

-- the same if each item is a list
module _ {A : Type 0} (next : List Token → Bool × List Token) (read : List Token → Option (List A × List Token)) where
  pub gathered_turn : (turns turn : ℕ) (done items : List A) (xs ys zs : List Token) → turn < turns →
      next xs ≡ stays true ys → read ys ≡ read_next items zs →
      collect_lists next read (turns - turn) done xs ≡ collect_lists next read (turns - (turn + 1)) (done ++ items) zs
  unfolding collect_lists bind choose
  gathered_turn turns turn done items xs ys zs h e r = rw (left_less turns turn h) (rw e (rw r refl))

  pub gathered_done : (turns turn : ℕ) (done : List A) (xs ys : List Token) → turn < turns →
      next xs ≡ stays false ys → collect_lists next read (turns - turn) done xs ≡ read_next done ys
  unfolding collect_lists bind choose
  gathered_done turns turn done xs ys h e = rw (left_less turns turn h) (rw e refl)

  pub gathered_none : (turns turn : ℕ) (done : List A) (xs ys : List Token) → turn < turns →
      next xs ≡ stays true ys → read ys ≡ None → collect_lists next read (turns - turn) done xs ≡ None
  unfolding collect_lists bind choose
  gathered_none turns turn done xs ys h e r = rw (left_less turns turn h) (rw e (rw r refl))

  pub gathered_all : (turns turn : ℕ) (done : List A) (xs : List Token) → turns ≤ turn →
      collect_lists next read (turns - turn) done xs ≡ read_next done xs
  unfolding collect_lists bind choose
  gathered_all turns turn done xs h = rw (none_left turns turn h) refl

-- a list goes on if its items begin so
pub begun_is : (begins : List Token → Bool) (xs : List Token) (b : Bool) → b ≡ begins xs → begins_with begins xs ≡ stays b xs
begun_is begins xs b e = ap (λ a. stays a xs) (sym e)
