-- The values that an effect leaves to the state variables, by name and by position.
use Rattle.std.proofs.Common.{◌≡◌, ℕ, Bool, true, false, List, [], ◌∷◌, ◌++◌, Some, refl, sym, ap, subst, ◌∙◌, map, take, length, arith}
use Rattle.std.specs.List.{AllByRecursion, IsDistinct}
use Rattle.std.specs.Cmp.Lexicographic.{bytes_decides}
use Rattle.ioa_values.specs.Data.{Data}
use Rattle.ioa_terms.specs.declared.name.Name.{Name}
use Rattle.ioa_terms.specs.declared.name.Name.TheVariants.{Word}
use Rattle.ioa_terms.specs.Bindings.{Bindings, lookup, names_of, same_word, environment}

-- the first names of an environment are those of its first values
pub first_names : (ws rest : List (List ℕ)) (vs more : List Data) (cs : List (List ℕ)) → length vs ≡ length ws →
    (others : List Name) × (names_of (environment (map Word (ws ++ rest)) (vs ++ more) cs) ≡ map Word ws ++ others)
first_names [] rest [] more cs h = (names_of (environment (map Word rest) more cs), refl)
first_names [] rest (v ∷ vs) more cs h = absurd (omega arith)
first_names (w ∷ ws) rest [] more cs h = absurd (omega arith)
first_names (w ∷ ws) rest (v ∷ vs) more cs h =
    let further = first_names ws rest vs more cs (omega arith) in
    (further.0, ap (λ (ns : List Name). Word w ∷ ns) further.1)

-- names that differ from the first one find nothing there
later_names : (w : List ℕ) (v : Data) (e : Bindings) (ws : List (List ℕ)) → AllByRecursion (λ x. same_word w x ≡ false) ws → map (λ x. lookup (Word x) ((Word w, v) ∷ e)) ws ≡ map (λ x. lookup (Word x) e) ws
later_names w v e [] differ = refl
later_names w v e (x ∷ ws) differ =
    let apart : same_word x w ≡ false = other_way (same_word x w) refl in
    rw apart (ap (λ os. lookup (Word x) e ∷ os) (later_names w v e ws differ.1))
  where
    other_way : (t : Bool) → same_word x w ≡ t → t ≡ false
    other_way true h =
        let one : x ≡ w = (bytes_decides x w).0 h in
        let same_words : same_word w x ≡ true = (bytes_decides w x).1 (sym one) in
        let wrong : true ≡ false = sym same_words ∙ differ.0 in absurd (cc)
    other_way false h = refl

-- if the first names differ, each finds its value by its position
by_name : (ws : List (List ℕ)) (e : Bindings) (others : List Name) → IsDistinct same_word ws → names_of e ≡ map Word ws ++ others → map (λ x. lookup (Word x) e) ws ≡ map Some (take (length ws) (map (λ b. b.1) e))
unfolding IsDistinct
by_name [] e others d names = refl
by_name (w ∷ ws) [] others d names = absurd (cc)
by_name (w ∷ ws) ((n, v) ∷ e) others d names =
    let name : n ≡ Word w = cc in
    let further : names_of e ≡ map Word ws ++ others = cc in
    let own : same_word w w ≡ true = (bytes_decides w w).1 refl in
    let later = later_names w v e ws d.0 ∙ by_name ws e others d.1 further in
    subst At (sym name) (rw own (ap (λ os. Some v ∷ os) later))
  where
    At : Name → Type 0
    At m = map (λ x. lookup (Word x) ((m, v) ∷ e)) (w ∷ ws) ≡ map Some (take (length (w ∷ ws)) (map (λ b. b.1) ((m, v) ∷ e)))

-- the values that an effect leaves the variables, by name, are the first ones
pub variables_left : (n : ℕ) (ws : List (List ℕ)) (left : Bindings) (others : List Name) → n ≡ length ws → IsDistinct same_word ws → names_of left ≡ map Word ws ++ others →
    map (λ x. lookup (Word x) left) ws ≡ map Some (take n (map (λ b. b.1) left))
variables_left n ws left others many d names = rw many (by_name ws left others d names)

-- lists of values that are there are equal
pub values_equal : {A : Type 0} (xs ys : List A) → map Some xs ≡ map Some ys → xs ≡ ys
values_equal [] [] h = refl
values_equal [] (y ∷ ys) h = absurd (cc)
values_equal (x ∷ xs) [] h = absurd (cc)
values_equal (x ∷ xs) (y ∷ ys) h =
    let first : x ≡ y = cc in
    let others : map Some xs ≡ map Some ys = cc in
    let further : xs ≡ ys = values_equal xs ys others in cc
