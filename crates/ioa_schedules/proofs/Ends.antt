-- Lists that are the end of others, and where a block stands in its own list.
use Rattle.std.proofs.Common.{◌≡◌, ℕ, List, [], ◌∷◌, ◌++◌, ◌-◌, map, drop, take, length, refl, sym, ap, ◌∙◌, arith}
use Rattle.std.specs.Prelude.{IsTrue}
use lib.Pointwise.{pointwise}
use Rattle.std.specs.Borrow.{Bor}
use Rattle.std.proofs.lemmas.List.{append_assoc, drop_at, length-append, length-map, take-append-drop}
use Rattle.std.proofs.lemmas.Slice.Eq.{slice_eq-Decides}
use Rattle.ioa_values.specs.Data.{Data}
use Rattle.ioa_values.specs.DataOrder.{same}
use Rattle.ioa_values.proofs.Equality.{same_is}
use Rattle.ioa_operators.specs.declared.shape.Shape.{Shape}
use Rattle.ioa_terms.specs.declared.callee.Callee.{Callee}
use Rattle.ioa_terms.specs.declared.tree.Statement.{Statement}
use Rattle.ioa_terms.specs.PlainTerm.{PlainStatement, no_statements, statements_of}
use Rattle.ioa_terms.specs.View.{statement_of}
use Rattle.ioa_schedules.specs.Turns.{joined_statements}
use Rattle.ioa_schedules.specs.Positions.{IsEndOf, below_of, bottom_by, statements_in}
use Rattle.ioa_schedules.specs.States.{PlainState}

module _ {A : Type 0} where
  -- a list is an end of what it is put behind
  pub end_by : (front xs ys : List A) → ys ≡ front ++ xs → IsEndOf xs ys
  end_by front xs ys h =
      let many = ap (λ (l : List A). length l) h ∙ length-append front xs in
      let left : length front ≡ length ys - length xs = omega arith in
      ap (λ (l : List A). drop (length ys - length xs) l) h ∙ drop_at front xs (length ys - length xs) left

  -- what stands before an end
  abbrev pub front_of : List A → List A → List A
  front_of xs ys = take (length ys - length xs) ys

  pub with_front : (xs ys : List A) → IsEndOf xs ys → ys ≡ front_of xs ys ++ xs
  with_front xs ys h = sym (rw h at (take-append-drop (length ys - length xs) ys))

  -- a list is its own end
  pub own_end : (xs : List A) → IsEndOf xs xs
  own_end xs = end_by [] xs xs refl

  -- an end of an end is an end
  pub end_of_end : (xs ys zs : List A) → IsEndOf xs ys → IsEndOf ys zs → IsEndOf xs zs
  end_of_end xs ys zs h k =
      let whole : zs ≡ front_of ys zs ++ (front_of xs ys ++ xs) =
      with_front ys zs k ∙ ap (λ (l : List A). front_of ys zs ++ l) (with_front xs ys h) in
      end_by (front_of ys zs ++ front_of xs ys) xs zs (whole ∙ sym (append_assoc (front_of ys zs) (front_of xs ys) xs))

  -- two ends of one length are one
  pub one_end : (xs ys : List A) → IsEndOf xs ys → length xs ≡ length ys → xs ≡ ys
  one_end xs ys h same =
      let none : length ys - length xs ≡ 0 = omega arith in
      sym (rw none at h)

abbrev Block : Type 0
Block = List (Statement ℕ Callee Shape)

abbrev Lists : Type 0
Lists = List (Bor (List (Statement ℕ Callee Shape)))

abbrev plain : Block → List (PlainStatement ℕ Callee Shape)
plain ss = map statement_of ss

-- behind its first statement, a block's own list is an end of what it was
pub behind_first : (s : Statement ℕ Callee Shape) (rest : Block) (fs : Lists) →
    IsEndOf (plain (bottom_by rest fs)) (plain (bottom_by (s ∷ rest) fs))
behind_first s rest [] = end_by (statement_of s ∷ []) (plain rest) (plain (s ∷ rest)) refl
behind_first s rest (f ∷ fs) = own_end (plain f.now)

-- a body in the place of the first statement
pub in_place : (s : Statement ℕ Callee Shape) (rest body : Block) (f : Bor (List (Statement ℕ Callee Shape))) (fs : Lists) → f.now ≡ rest →
    IsEndOf (plain (bottom_by body (fs ++ f ∷ []))) (plain (bottom_by (s ∷ rest) fs))
in_place s rest body f [] e = end_by (statement_of s ∷ []) (plain f.now) (plain (s ∷ rest)) (ap (λ (l : Block). plain (s ∷ l)) (sym e))
in_place s rest body f (g ∷ fs) e = own_end (plain g.now)

-- a body in front of the first statement
pub in_front : (top body : Block) (f : Bor (List (Statement ℕ Callee Shape))) (fs : Lists) → f.now ≡ top →
    IsEndOf (plain (bottom_by body (fs ++ f ∷ []))) (plain (bottom_by top fs))
in_front top body f [] e = rw e (own_end (plain top))
in_front top body f (g ∷ fs) e = own_end (plain g.now)

-- the list that is taken from below leaves the one at the bottom
pub same_bottom : (top : Block) (old new : Lists) (f : Bor (List (Statement ℕ Callee Shape))) → length top ≡ 0 → old ≡ new ++ f ∷ [] →
    bottom_by f.now new ≡ bottom_by top old
same_bottom top old [] f h k = rw k refl
same_bottom top old (g ∷ new) f h k = rw k refl

-- where nothing is below, as much that is left of one list is the same
pub same_end : (top other : Block) (fs gs : Lists) → length fs ≡ 0 → length gs ≡ 0 → length top ≡ length other →
    IsEndOf (plain (bottom_by top fs)) (plain (bottom_by other gs)) →
    joined_statements (statements_in top) (below_of fs) ≡ joined_statements (statements_in other) (below_of gs)
same_end top other [] [] h k same e =
    let as_many : length (plain top) ≡ length (plain other) = length-map top statement_of ∙ same ∙ sym (length-map other statement_of) in
    ap (λ (l : List (PlainStatement ℕ Callee Shape)). joined_statements (statements_of l) no_statements) (one_end (plain top) (plain other) e as_many)
same_end top other [] (g ∷ gs) h k same e = absurd (omega arith)
same_end top other (f ∷ fs) gs h k same e = absurd (omega arith)

-- values that are the same one by one
pub same_values : (vs ws : List Data) → IsTrue (pointwise same vs ws) → vs ≡ ws
same_values vs ws = (slice_eq-Decides same_is vs ws _ refl).0

-- a block of the same statements to do and the same values
pub same_state : (s t : PlainState) → s.todo ≡ t.todo → s.own ≡ t.own → s ≡ t
same_state s t h k = λ i. record { todo = h i; own = k i }
