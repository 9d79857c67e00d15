-- The words among names.
use Rattle.std.proofs.Common.{◌≡◌, ℕ, List, [], ◌∷◌, ◌++◌, map, refl, sym, ap, ◌∙◌}
use Rattle.std.proofs.lemmas.List.{append_assoc, map-append}
use Rattle.ioa_operators.specs.Shapes.{PlainShape}
use Rattle.ioa_terms.specs.declared.name.Name.{Name}
use Rattle.ioa_terms.specs.declared.name.Name.TheVariants.{Word}
use Rattle.ioa_terms.specs.Sorted.{NameShapes}
use Rattle.ioa_names.specs.NameTables.{declared_names, word_in, words}
use Rattle.ioa_names.specs.Views.{AreWords}

-- of two lists of names behind each other
pub words_joined : (xs ys : NameShapes) → words (xs ++ ys) ≡ words xs ++ words ys
words_joined [] ys = refl
words_joined (x ∷ xs) ys = ap (λ ws. word_in x.0 ++ ws) (words_joined xs ys) ∙ sym (append_assoc (word_in x.0) (words xs) (words ys))

pub names_joined : (xs ys : NameShapes) → declared_names (xs ++ ys) ≡ declared_names xs ++ declared_names ys
names_joined xs ys = map-append (λ (n : Name × PlainShape). n.0) xs ys

-- if each name is one of these words, they are the words
pub words_listed : (names : NameShapes) (ws : List (List ℕ)) → declared_names names ≡ map Word ws → words names ≡ ws
words_listed [] [] h = refl
words_listed [] (w ∷ ws) h = absurd (cc)
words_listed (n ∷ names) [] h = absurd (cc)
words_listed (n ∷ names) (w ∷ ws) h =
    let first : n.0 ≡ Word w = cc in
    let rest : declared_names names ≡ map Word ws = cc in
    ap (λ x. word_in x ++ words names) first ∙ ap (λ vs. w ∷ vs) (words_listed names ws rest)

pub words_alone : (names : NameShapes) (ws : List (List ℕ)) → declared_names names ≡ map Word ws → AreWords names
words_alone names ws h = h ∙ ap (map Word) (sym (words_listed names ws h))

-- names that are words, of two lists behind each other
pub words_both : (xs ys : NameShapes) → AreWords xs → AreWords ys → AreWords (xs ++ ys)
words_both xs ys h g =
    names_joined xs ys
    ∙ ap (λ ns. ns ++ declared_names ys) h
    ∙ ap (λ ns. map Word (words xs) ++ ns) g
    ∙ sym (map-append Word (words xs) (words ys))
    ∙ ap (map Word) (sym (words_joined xs ys))

-- the names of things that each have a word
pub words_of_each : {A : Type 0} (w : A → List ℕ) (s : A → PlainShape) (xs : List A) → words (map (λ x. (Word (w x), s x)) xs) ≡ map w xs
words_of_each w s [] = refl
words_of_each w s (x ∷ xs) = ap (λ ws. w x ∷ ws) (words_of_each w s xs)

pub names_of_each : {A : Type 0} (w : A → List ℕ) (s : A → PlainShape) (xs : List A) → declared_names (map (λ x. (Word (w x), s x)) xs) ≡ map Word (map w xs)
names_of_each w s [] = refl
names_of_each w s (x ∷ xs) = ap (λ ns. Word (w x) ∷ ns) (names_of_each w s xs)
