-- Tests of lists of things that differ, of numbers, words, channels and messages, from what they decide.
use Rattle.std.proofs.Common.{◌≡◌, ◌≤◌, ◌||◌, not, ℕ, ℤ, Bool, true, false, List, [], ◌∷◌, ◌++◌, Option, Some, None, refl, sym, subst, slice_get, length, append_assoc}
use Rattle.std.specs.List.{AllByRecursion, IsDistinct, list_any}
use Rattle.std.specs.Ordering.{int_eq}
use Rattle.std.proofs.lemmas.Bool.{le-leb}
use Rattle.std.proofs.lemmas.Bool.Decides.{Decides-int_eq}
use Rattle.std.proofs.lemmas.Slice.Eq.{bytes_eq-Decides}
use Rattle.ioa_operators.specs.Shapes.{PlainShape}
use Rattle.ioa_sort_rules.specs.SameSorts.{same_sort}
use Rattle.ioa_terms.specs.Bindings.{Bindings, same_word}
use Rattle.ioa_actions.specs.ActionParts.{send_name, receive_name}
use Rattle.ioa_source.specs.PlainText.{const, named}
use Rattle.ioa_source.specs.Sides.{CheckedParameter}
use Rattle.ioa_system.specs.Parts.{PlainRule}
use Rattle.ioa_automata.proofs.Results.{result_is}
use Rattle.ioa_sections.specs.Distinct.{differ_from}
use Rattle.ioa_sections.specs.Nodes.{at_most, is_constant_of, is_at_home}
use Rattle.ioa_sections.specs.Channels.{takes_number, same_message}
use Rattle.ioa_sections.specs.Meant.{IsConstantOf, IsEntryOn, TakesNumber, HaveOneMessage}

-- of elements none of which passes
pub none_passes : {A : Type 0} (test : A → Bool) (xs : List A) → AllByRecursion (λ x. test x ≡ false) xs → list_any test xs ≡ false
none_passes test [] h = refl
none_passes test (x ∷ xs) h = rw h.0 (none_passes test xs h.1)

-- of elements that differ each differs from those before it
holds_at : {A : Type 0} (P : A → Type 0) (xs : List A) (y : A) (ys : List A) → AllByRecursion P (xs ++ y ∷ ys) → P y
holds_at P [] y ys h = h.0
holds_at P (x ∷ xs) y ys h = holds_at P xs y ys h.1

pub new_behind : {A : Type 0} (e : A → A → Bool) (xs : List A) (y : A) (ys : List A) → IsDistinct e (xs ++ y ∷ ys) → AllByRecursion (λ x. e x y ≡ false) xs
unfolding IsDistinct
new_behind e [] y ys d = tt
new_behind e (x ∷ xs) y ys d = (holds_at (λ z. e x z ≡ false) xs y ys d.0, new_behind e xs y ys d.1)

-- and so do the rest, behind it
one_further : {A : Type 0} (e : A → A → Bool) (xs : List A) (y : A) (ys : List A) → IsDistinct e (xs ++ y ∷ ys) → IsDistinct e ((xs ++ y ∷ []) ++ ys)
one_further e xs y ys d = subst (IsDistinct e) (sym (append_assoc xs (y ∷ []) ys)) d

-- words that differ do so whichever comes first
pub word_turned : (x y : List ℕ) → same_word x y ≡ false → same_word y x ≡ false
word_turned x y h = by_test (same_word y x) refl
  where
    by_test : (b : Bool) → same_word y x ≡ b → same_word y x ≡ false
    by_test true e =
        let same : y ≡ x = (bytes_eq-Decides y x).0 e in
        let other : same_word x y ≡ true = (bytes_eq-Decides x y).1 (sym same) in
        absurd (cc)
    by_test false e = e

pub words_turned : (w : List ℕ) (xs : List (List ℕ)) → AllByRecursion (λ x. same_word x w ≡ false) xs → AllByRecursion (λ x. same_word w x ≡ false) xs
words_turned w [] h = tt
words_turned w (x ∷ xs) h = (word_turned x w h.0, words_turned w xs h.1)

-- a word that none before it is
pub new_word : (before : List (List ℕ)) (w : List ℕ) (ws : List (List ℕ)) → IsDistinct same_word (before ++ w ∷ ws) → (list_any (same_word w) before ≡ false) × IsDistinct same_word ((before ++ w ∷ []) ++ ws)
new_word before w ws d =
    (none_passes (same_word w) before (words_turned w before (new_behind same_word before w ws d)), one_further same_word before w ws d)

-- things that differ
pub differ_anew : {A : Type 0} (same : A → A → Bool) (before xs : List A) → IsDistinct same (before ++ xs) → differ_from same before xs ≡ true
differ_anew same before [] d = refl
differ_anew same before (x ∷ xs) d =
    rw (none_passes (λ b. same b x) before (new_behind same before x xs d)) (differ_anew same (before ++ x ∷ []) xs (one_further same before x xs d))

-- a list that is not too long
pub few_found : {A : Type 0} (most : ℕ) (xs : List A) → length xs ≤ most → result_is xs ≡ at_most most xs
unfolding at_most
few_found most xs h = rw (le-leb (length xs) most h) refl

-- two numbers that are not the same
pub numbers_apart : (j k : ℤ) → (j ≡ k → ⊥) → int_eq j k ≡ false
numbers_apart j k f = by_test (int_eq j k) refl
  where
    by_test : (b : Bool) → int_eq j k ≡ b → int_eq j k ≡ false
    by_test true e = absurd (f ((Decides-int_eq j k).0 e))
    by_test false e = e

-- a parameter that takes a number
pub takes_back : (e : Bindings) (k : ℤ) (o : Option CheckedParameter) → TakesNumber e k o → takes_number e k o ≡ true
takes_back e k None h = absurd h
takes_back e k (Some (const t)) h = rw h ((Decides-int_eq k k).1 refl)
takes_back e k (Some (named d)) h = refl

-- the constant of a number
constant_back : (e : Bindings) (k : ℤ) (o : Option CheckedParameter) → IsConstantOf e k o → is_constant_of e k o ≡ true
constant_back e k o h = rw (h.1, h.2) ((Decides-int_eq k k).1 refl)

-- an entry on its own node
only_if : (a b : Bool) → (a ≡ true → b ≡ true) → not a || b ≡ true
only_if true b f = f refl
only_if false b f = refl

pub home_back : (e : Bindings) (k : ℤ) (r : PlainRule) → IsEntryOn e k r → is_at_home e k r ≡ true
home_back e k r h =
    rw (only_if (same_word r.entry.name send_name) (is_constant_of e k (slice_get r.entry.parameters 1)) (λ t. constant_back e k (slice_get r.entry.parameters 1) (h.send ((bytes_eq-Decides r.entry.name send_name).0 t))))
    (only_if (same_word r.entry.name receive_name) (is_constant_of e k (slice_get r.entry.parameters 2)) (λ t. constant_back e k (slice_get r.entry.parameters 2) (h.receive ((bytes_eq-Decides r.entry.name receive_name).0 t))))

-- messages of one sort
pub message_back : (ss ts : List PlainShape) → HaveOneMessage ss ts → same_message ss ts ≡ true
message_back [] ts h = let none = h.2 in absurd (cc)
message_back (s ∷ ss) [] h = let none = h.3 in absurd (cc)
message_back (s ∷ ss) (t ∷ ts) h = by_parts s t h.0 h.1 h.2 h.3 h.4
  where
    by_parts : (s t m n : PlainShape) → Some s ≡ Some m → Some t ≡ Some n → same_sort m n ≡ true → same_sort s t ≡ true
    by_parts s t m n a b same = let one : s ≡ m = cc in let other : t ≡ n = cc in rw (one, other) same
