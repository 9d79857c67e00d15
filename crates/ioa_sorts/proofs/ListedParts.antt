-- Parts of calls and displays, as lists.
use Rattle.std.proofs.Common.{◌≡◌, ℕ, zero, suc, min, List, [], ◌∷◌, Ok, Err, length, map, drop, get_or, refl, ap, arith}
use Rattle.ioa_values.specs.Outcome.{and_then}
use Rattle.ioa_operators.specs.Shapes.{PlainShape}
use Rattle.ioa_terms.specs.declared.callee.Callee.{Callee}
use Rattle.ioa_terms.specs.PlainTerm.{call, no_terms, term, terms_of}
use Rattle.ioa_terms.specs.Sorted.{NameShapes, shape_in_terms}
use Rattle.ioa_source.specs.Sides.{SourceTerm}
use Rattle.ioa_refusals.specs.declared.refusal.Refusal.TheVariants.{Sorts}
use Rattle.ioa_sort_rules.specs.declared.kinds.Single.{Single}
use Rattle.ioa_sort_rules.specs.declared.kinds.Pairing.{Pairing}
use Rattle.ioa_sort_rules.specs.Rows.{PlainSides}
use Rattle.ioa_typed.specs.Parts.{typed}
use Rattle.ioa_sorts.specs.Sorting.{fit, inbox_of, one_part, two_parts, three_parts, call_one, call_two, call_three, each_fit, sorting, sortings}

module _ {A : Type 0} (source : A → SourceTerm) (names : NameShapes) (w : List ℕ) (c : Callee) where
  -- a call of one part
  pub one_listed : (k : Single) (ps : List A) (a : A) → length ps ≡ 1 → a ≡ get_or ps 0 a → call_one w c k (sortings names (terms_of (map source ps))) ≡ and_then (one_part k (sorting names (source a))) (λ t. Ok (typed (call w c (term t.tree no_terms)) t.shape))
  unfolding call_one
  one_listed k [] a many first = absurd (omega arith)
  one_listed k (p ∷ []) a many first = rw first refl
  one_listed k (p ∷ q ∷ ps) a many first = absurd (omega arith)

  pub other_than_one : (k : Single) (ps : List A) → (length ps ≡ 1 → ⊥) → call_one w c k (sortings names (terms_of (map source ps))) ≡ Err Sorts
  unfolding call_one
  other_than_one k [] other = refl
  other_than_one k (p ∷ []) other = absurd (other refl)
  other_than_one k (p ∷ q ∷ ps) other = refl

  -- a call of `inbox`
  pub inbox_listed : (p : PlainSides) (ps : List A) (a : A) → length ps ≡ 1 → a ≡ get_or ps 0 a → inbox_of w c (sortings names (terms_of (map source ps))) p ≡ and_then (fit (sorting names (source a)) p.other) (λ t. Ok (typed (call w c (term t no_terms)) p.whole))
  unfolding inbox_of
  inbox_listed p [] a many first = absurd (omega arith)
  inbox_listed p (b ∷ []) a many first = rw first refl
  inbox_listed p (b ∷ d ∷ ps) a many first = absurd (omega arith)

  pub inbox_of_others : (p : PlainSides) (ps : List A) → (length ps ≡ 1 → ⊥) → inbox_of w c (sortings names (terms_of (map source ps))) p ≡ Err Sorts
  unfolding inbox_of
  inbox_of_others p [] other = refl
  inbox_of_others p (b ∷ []) other = absurd (other refl)
  inbox_of_others p (b ∷ d ∷ ps) other = refl

  -- a call of two parts
  pub two_listed : (k : Pairing) (ps : List A) (a b : A) → length ps ≡ 2 → a ≡ get_or ps 0 a → b ≡ get_or ps 1 b → call_two w c k (sortings names (terms_of (map source ps))) ≡ and_then (two_parts k (sorting names (source a)) (sorting names (source b))) (λ p. Ok (typed (call w c (term p.left (term p.right no_terms))) p.whole))
  unfolding call_two
  two_listed k [] a b many first second = absurd (omega arith)
  two_listed k (p ∷ []) a b many first second = absurd (omega arith)
  two_listed k (p ∷ q ∷ []) a b many first second = rw (first, second) refl
  two_listed k (p ∷ q ∷ r ∷ ps) a b many first second = absurd (omega arith)

  pub other_than_two : (k : Pairing) (ps : List A) → (length ps ≡ 2 → ⊥) → call_two w c k (sortings names (terms_of (map source ps))) ≡ Err Sorts
  unfolding call_two
  other_than_two k [] other = refl
  other_than_two k (p ∷ []) other = refl
  other_than_two k (p ∷ q ∷ []) other = absurd (other refl)
  other_than_two k (p ∷ q ∷ r ∷ ps) other = refl

  -- a call of three parts
  pub three_listed : (ps : List A) (a b d : A) → length ps ≡ 3 → a ≡ get_or ps 0 a → b ≡ get_or ps 1 b → d ≡ get_or ps 2 d → call_three w c (sortings names (terms_of (map source ps))) ≡ and_then (three_parts (sorting names (source a)) (sorting names (source b)) (sorting names (source d))) (λ u. Ok (typed (call w c (term u.map (term u.key (term u.value no_terms)))) u.whole))
  unfolding call_three
  three_listed [] a b d many first second third = absurd (omega arith)
  three_listed (p ∷ []) a b d many first second third = absurd (omega arith)
  three_listed (p ∷ q ∷ []) a b d many first second third = absurd (omega arith)
  three_listed (p ∷ q ∷ r ∷ []) a b d many first second third = rw (first, second, third) refl
  three_listed (p ∷ q ∷ r ∷ s ∷ ps) a b d many first second third = absurd (omega arith)

  pub other_than_three : (ps : List A) → (length ps ≡ 3 → ⊥) → call_three w c (sortings names (terms_of (map source ps))) ≡ Err Sorts
  unfolding call_three
  other_than_three [] other = refl
  other_than_three (p ∷ []) other = refl
  other_than_three (p ∷ q ∷ []) other = refl
  other_than_three (p ∷ q ∷ r ∷ []) other = absurd (other refl)
  other_than_three (p ∷ q ∷ r ∷ s ∷ ps) other = refl

-- parts and fields of which one are more than the others
pub uneven : {A : Type 0} (source : A → SourceTerm) (names : NameShapes) (ps : List A) (ss : List PlainShape) (k : ℕ) → k ≡ min (length ps) (length ss) → (length ps ≡ length ss → ⊥) → each_fit (sortings names (terms_of (map source (drop k ps)))) (map shape_in_terms (drop k ss)) ≡ Err Sorts
uneven source names [] [] k at other = absurd (other refl)
uneven source names [] (s ∷ ss) zero at other = refl
uneven source names [] (s ∷ ss) (suc k) at other = absurd (omega arith)
uneven source names (p ∷ ps) [] zero at other = refl
uneven source names (p ∷ ps) [] (suc k) at other = absurd (omega arith)
uneven source names (p ∷ ps) (s ∷ ss) zero at other = absurd (omega arith)
uneven source names (p ∷ ps) (s ∷ ss) (suc k) at other = uneven source names ps ss k (omega arith) (λ e. other (ap suc e))
