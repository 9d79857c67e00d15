-- The types of a text have shapes of a text, and so has what its sorts mean.
use Rattle.std.proofs.Common.{◌≡◌, ◌≤◌, ◌+◌, ℕ, Bool, true, false, if◌then◌else◌, List, [], ◌∷◌, Some, refl, sym, ap, subst, ◌∙◌, arith, length, map}
use Rattle.std.specs.List.{AllByRecursion, AllZip, IsDistinct}
use Rattle.std.proofs.lemmas.List.{length-append, length-map}
use Rattle.ioa_values.proofs.AllOf.{all_appended}
use Rattle.ioa_operators.specs.Shapes.{PlainShape, PlainShapes, truths, integers, naturals, constants, tuples, sequences, sets, maps, no_shapes, shape, shapes_of}
use Rattle.ioa_terms.specs.Bindings.{same_name, same_word}
use Rattle.ioa_terms.specs.declared.name.Name.{Name}
use Rattle.ioa_terms.specs.declared.name.Name.TheVariants.{Word}
use Rattle.ioa_terms.specs.PlainSort as sort
use Rattle.ioa_terms.specs.PlainSort.{PlainSort}
use Rattle.ioa_terms.specs.Sorted.{NameShapes, shape_named}
use Rattle.ioa_tokens.specs.Written.{IsName}
use Rattle.ioa_source.specs.PlainText.{enumeration, tuple_of, type_named, automaton}
use Rattle.ioa_source.specs.Sides.{SourceDeclaration, SourceDeclared, SourceForm, SourceType}
use Rattle.ioa_names.specs.NameTables.{AreDistinct, declared_names, words}
use Rattle.ioa_names.specs.Views.{AreWords}
use Rattle.ioa_names.proofs.Words.{words_alone, words_both, words_joined, words_listed}
use Rattle.ioa_types.specs.Meanings.{Means}
use Rattle.ioa_types.specs.TextTypes.{PlainTextTypes, no_types}
use Rattle.ioa_types.specs.TypeDeclarations.{DeclaresType, IsShapeOf, constants_of}
use Rattle.ioa_types.specs.TypeTables.{TypeTable}
use Rattle.ioa_sections.specs.Meant.{AreTypesOf}
use Rattle.ioa_front.proofs.PrintedGroups.{IsFilled}
use Rattle.ioa_printed_lines.specs.TextSystems.{AreConstantNames, AreTextShapes, IsTextShape}
use Rattle.ioa_text_laws.proofs.DeclaredNames.{IsNamedDeclaration, IsNamedForm}

-- numbers that stay in a range
within : (from many m n : ℕ) → m ≤ n → from + many ≤ m → from + many ≤ n
within from many m n more h = omega (arith, more, h)

counted : (from many count most : ℕ) → count ≡ many → from + count ≤ most → from + many ≤ most
counted from many count most same h = omega (arith, same, h)

-- a part of a sum
part_less : (m n whole : ℕ) → whole ≡ m + n → m ≤ whole
part_less m n whole same = omega (arith, same)

sum_within : (m n whole : ℕ) → whole ≡ m + n → m + n ≤ whole
sum_within m n whole same = omega (arith, same)

-- what is as many as something else
as_many : (listed named worded many : ℕ) → named ≡ listed → named ≡ worded → worded ≡ many → many ≡ listed
as_many listed named worded many first same last = omega (arith, first, same, last)

-- what is a shape of a text is one of a text with more constants
mutual
  still : (m n : ℕ) → m ≤ n → (s : PlainShape) → IsTextShape m s → IsTextShape n s
  still m n more truths h = tt
  still m n more integers h = tt
  still m n more naturals h = tt
  still m n more (constants w from many) h = within from many m n more h
  still m n more (tuples w names no_shapes) h = absurd h
  still m n more (tuples w names (shape s ss)) h = (still m n more s h.0, all_still m n more ss h.1)
  still m n more (sequences s) h = still m n more s h
  still m n more (sets s) h = still m n more s h
  still m n more (maps k v) h = (still m n more k h.0, still m n more v h.1)

  all_still : (m n : ℕ) → m ≤ n → (ss : PlainShapes) → AreTextShapes m ss → AreTextShapes n ss
  all_still m n more no_shapes h = tt
  all_still m n more (shape s ss) h = (still m n more s h.0, all_still m n more ss h.1)

-- names whose shapes are those of a text
abbrev pub AreTextNames : ℕ → NameShapes → Type 0
AreTextNames many names = AllByRecursion (λ n. IsTextShape many n.1) names

names_still : (m n : ℕ) → m ≤ n → (names : NameShapes) → AreTextNames m names → AreTextNames n names
names_still m n more [] h = tt
names_still m n more (x ∷ names) h = (still m n more x.1 h.0, names_still m n more names h.1)

module _ (many : ℕ) where
  -- the shape of a name
  pub named_text : (names : NameShapes) (x : Name) (s : PlainShape) → AreTextNames many names → shape_named x names ≡ Some s → IsTextShape many s
  named_text [] x s all h = absurd (cc)
  named_text (n ∷ names) x s all h = by_test (same_name x n.0) h (named_text names x s all.1)
    where
      by_test : (b : Bool) → (if b then Some n.1 else shape_named x names) ≡ Some s → (shape_named x names ≡ Some s → IsTextShape many s) → IsTextShape many s
      by_test true e further = let same : n.1 ≡ s = cc in subst (IsTextShape many) same all.0
      by_test false e further = further e

  -- the shape that a sort means
  pub means_text : (types : TypeTable) → AreTextNames many types → (s : PlainSort) (x : PlainShape) → Means types s x → IsTextShape many x
  means_text types all sort.booleans x h = subst (IsTextShape many) (sym h) tt
  means_text types all sort.integers x h = subst (IsTextShape many) (sym h) tt
  means_text types all sort.naturals x h = subst (IsTextShape many) (sym h) tt
  means_text types all (sort.sequences s) x h = subst (IsTextShape many) (sym h.2) (means_text types all s h.0 h.1)
  means_text types all (sort.sets s) x h = subst (IsTextShape many) (sym h.2) (means_text types all s h.0 h.1)
  means_text types all (sort.maps k v) x h = subst (IsTextShape many) (sym h.4) (means_text types all k h.0 h.2, means_text types all v h.1 h.3)
  means_text types all (sort.named_type w) x h = named_text types (Word w) x all h

  -- the shapes of fields
  fields_text : (types : TypeTable) → AreTextNames many types → (fs : List SourceDeclared) (xs : List PlainShape) → AllZip (λ f x. Means types f.sort x) fs xs → AreTextShapes many (shapes_of xs)
  fields_text types all [] [] h = tt
  fields_text types all [] (x ∷ xs) h = absurd h
  fields_text types all (f ∷ fs) [] h = absurd h
  fields_text types all (f ∷ fs) (x ∷ xs) h = (means_text types all f.sort x h.0, fields_text types all fs xs h.1)

  tuple_text : (types : TypeTable) → AreTextNames many types → (w : List ℕ) (names : List (List ℕ)) (fs : List SourceDeclared) (xs : List PlainShape) → IsFilled fs → AllZip (λ f x. Means types f.sort x) fs xs → IsTextShape many (tuples w names (shapes_of xs))
  tuple_text types all w names [] xs filled h = absurd filled
  tuple_text types all w names (f ∷ fs) [] filled h = absurd h
  tuple_text types all w names (f ∷ fs) (x ∷ xs) filled h = fields_text types all (f ∷ fs) (x ∷ xs) h

-- the types and the constants of a text
pub record AreTextual (t : PlainTextTypes) : Type 0 where
  pub types : AreTextNames (length t.constants) t.types
  pub constants : AreTextNames (length t.constants) t.constants
  pub all_words : AreWords t.constants
  pub all_names : AllByRecursion IsName (words t.constants)
  pub differ : AreDistinct t.constants

-- one more type
form_text : (t : PlainTextTypes) (many : ℕ) → AreTextNames many t.types → (w : List ℕ) (f : SourceForm) (s : PlainShape) → length t.constants + length (constants_of f s) ≤ many → IsNamedForm f → IsShapeOf t w f s → IsTextShape many s
form_text t many all w (enumeration ws) s low named h =
    subst (IsTextShape many) (sym h) (counted (length t.constants) (length ws) (length (constants_of (enumeration ws) s)) many (length-map ws (λ (v : List ℕ). (Word v, s))) low)
form_text t many all w (tuple_of fs) s low named h =
    subst (IsTextShape many) (sym h.same) (tuple_text many t.types all w (map (λ f. f.name) fs) fs h.shapes named h.fields)

of_shape : (P : PlainShape → Type 0) (s : PlainShape) → P s → (ws : List (List ℕ)) → AllByRecursion (λ (n : Name × PlainShape). P n.1) (map (λ w. (Word w, s)) ws)
of_shape P s h [] = tt
of_shape P s h (w ∷ ws) = (h, of_shape P s h ws)

constants_text : (many : ℕ) (f : SourceForm) (s : PlainShape) → IsTextShape many s → AreTextNames many (constants_of f s)
constants_text many (enumeration ws) s h = of_shape (IsTextShape many) s h ws
constants_text many (tuple_of fs) s h = tt

words_of : (s : PlainShape) (ws : List (List ℕ)) → declared_names (map (λ w. (Word w, s)) ws) ≡ map Word ws
words_of s [] = refl
words_of s (w ∷ ws) = ap (λ ns. Word w ∷ ns) (words_of s ws)

constants_words : (f : SourceForm) (s : PlainShape) → AreWords (constants_of f s)
constants_words (enumeration ws) s = words_alone (map (λ w. (Word w, s)) ws) ws (words_of s ws)
constants_words (tuple_of fs) s = refl

constants_names : (f : SourceForm) (s : PlainShape) → IsNamedForm f → AllByRecursion IsName (words (constants_of f s))
constants_names (enumeration ws) s h = subst (AllByRecursion IsName) (sym (words_listed (map (λ w. (Word w, s)) ws) ws (words_of s ws))) h
constants_names (tuple_of fs) s h = tt

type_textual : (t u : PlainTextTypes) (d : SourceType) → AreTextual t → IsNamedForm d.form → DeclaresType t d u → AreTextual u
type_textual t u d textual named h = record {
  types = subst (AreTextNames many) (sym h.types) (all_appended (λ (n : Name × PlainShape). IsTextShape many n.1) t.types ((Word d.name, h.shape) ∷ []) before (own, tt));
  constants = subst (AreTextNames many) (sym h.constants) (all_appended (λ (n : Name × PlainShape). IsTextShape many n.1) t.constants more (names_still (length t.constants) many less t.constants textual.constants) (constants_text many d.form h.shape own));
  all_words = subst AreWords (sym h.constants) (words_both t.constants more textual.all_words (constants_words d.form h.shape));
  all_names = subst (λ (ns : NameShapes). AllByRecursion IsName (words ns)) (sym h.constants)
      (subst (AllByRecursion IsName) (sym (words_joined t.constants more)) (all_appended IsName (words t.constants) (words more) textual.all_names (constants_names d.form h.shape named)));
  differ = h.constants_differ;
}
  where
    many : ℕ
    many = length u.constants

    more : NameShapes
    more = constants_of d.form h.shape

    count : many ≡ length t.constants + length more
    count = ap length h.constants ∙ length-append t.constants more

    less : length t.constants ≤ many
    less = part_less (length t.constants) (length more) many count

    before : AreTextNames many t.types
    before = names_still (length t.constants) many less t.types textual.types

    own : IsTextShape many h.shape
    own = form_text t many before d.name d.form h.shape (sum_within (length t.constants) (length more) many count) named h.form

types_textual : (ds : List SourceDeclaration) (t u : PlainTextTypes) → AreTextual t → AllByRecursion IsNamedDeclaration ds → AreTypesOf ds t u → AreTextual u
types_textual [] t u textual named h = subst AreTextual (sym h) textual
types_textual (type_named d ∷ more) t u textual named h = types_textual more h.0 u (type_textual t h.0 d textual named.0 h.1) named.1 h.2
types_textual (automaton a ∷ more) t u textual named h = types_textual more t u textual named.1 h

no_textual : AreTextual no_types
unfolding IsDistinct
no_textual = record { types = tt; constants = tt; all_words = refl; all_names = tt; differ = tt }

pub text_types : (ds : List SourceDeclaration) (t : PlainTextTypes) → AllByRecursion IsNamedDeclaration ds → AreTypesOf ds no_types t → AreTextual t
text_types ds t named h = types_textual ds no_types t no_textual named h

-- the names of its constants
words_apart : (w : List ℕ) (ws : List (List ℕ)) → AllByRecursion (λ n. same_name (Word w) n ≡ false) (map Word ws) → AllByRecursion (λ v. same_word w v ≡ false) ws
words_apart w [] d = tt
words_apart w (v ∷ ws) d = (d.0, words_apart w ws d.1)

words_differ : (ws : List (List ℕ)) → IsDistinct same_name (map Word ws) → IsDistinct same_word ws
unfolding IsDistinct
words_differ [] d = tt
words_differ (w ∷ ws) d = (words_apart w ws d.0, words_differ ws d.1)

pub constant_names : (t : PlainTextTypes) → AreTextual t → AreConstantNames (words t.constants)
constant_names t textual = record {
  words = textual.all_names;
  differ = words_differ (words t.constants) (subst (λ (ns : List Name). IsDistinct same_name ns) textual.all_words textual.differ);
}

pub as_many_words : (t : PlainTextTypes) → AreTextual t → length (words t.constants) ≡ length t.constants
as_many_words t textual =
    let named = length-map t.constants (λ (n : Name × PlainShape). n.0) in
    let worded = length-map (words t.constants) Word in
    let same = ap length textual.all_words in
    as_many (length t.constants) (length (declared_names t.constants)) (length (map Word (words t.constants))) (length (words t.constants)) named same worded
