-- The types of a text, and its constants: each constant, with its number, has the shape of its enumeration.
use Rattle.std.proofs.Common.{◌≡◌, ◌<◌, ◌≤◌, ◌+◌, ℕ, Bool, true, false, nat_le, nat_lt, ◌&&◌, List, [], ◌∷◌, ◌++◌, Some, refl, sym, subst, map, length, arith, if◌then◌else◌, le-leb, lt-ltb}
use Rattle.ioa_values.specs.Data.{Data, constant}
use Rattle.ioa_operators.specs.Shapes.{PlainShape, constants, has_shape}
use Rattle.ioa_terms.specs.declared.name.Name.{Name}
use Rattle.ioa_terms.specs.declared.name.Name.TheVariants.{Word}
use Rattle.ioa_terms.specs.Bindings.{Bindings, same_name, lookup, constants_from}
use Rattle.ioa_terms.specs.Sorted.{NameShapes, shape_named, IsShaped}
use Rattle.ioa_source.specs.PlainText.{type_named, automaton, enumeration, tuple_of}
use Rattle.ioa_source.specs.Sides.{SourceDeclaration, SourceForm, SourceType}
use Rattle.ioa_names.specs.NameTables.{declared_names}
use Rattle.ioa_names.specs.Views.{AreWords}
use Rattle.ioa_types.specs.Meanings.{AreTextTypes}
use Rattle.ioa_types.specs.TextTypes.{PlainTextTypes, no_types}
use Rattle.ioa_types.specs.TypeDeclarations.{IsShapeOf, constants_of, DeclaresType}
use Rattle.ioa_types.proofs.Meant.{no_text_types, type_added}
use Rattle.ioa_types.proofs.TypeDeclarations.{type_found}
use Rattle.ioa_sections.specs.Meant.{AreTypesOf}

-- the types of declarations
types_of : (ds : List SourceDeclaration) (t u : PlainTextTypes) → AreTextTypes t → AreTypesOf ds t u → AreTextTypes u
types_of [] t u types h = subst AreTextTypes (sym h) types
types_of (type_named d ∷ more) t u types h = types_of more h.0 u (type_added t h.0 d types (type_found t h.0 d h.1)) h.2
types_of (automaton a ∷ more) t u types h = types_of more t u types h

pub text_types_of : (ds : List SourceDeclaration) (t : PlainTextTypes) → AreTypesOf ds no_types t → AreTextTypes t
text_types_of ds t h = types_of ds no_types t no_text_types h

-- names that have the numbers from one on: each number has the shape of its name
abbrev pub AreNumbered : ℕ → NameShapes → Type 0
AreNumbered k [] = Unit {0}
AreNumbered k (n ∷ ns) = (has_shape n.1 (constant k) ≡ true) × AreNumbered (k + 1) ns

numbered_behind : (k : ℕ) (xs ys : NameShapes) → AreNumbered k xs → AreNumbered (k + length xs) ys → AreNumbered k (xs ++ ys)
numbered_behind k [] ys h g = let none : k + 0 ≡ k = omega arith in subst (λ j. AreNumbered j ys) none g
numbered_behind k (x ∷ xs) ys h g =
    let one : k + length (x ∷ xs) ≡ k + 1 + length xs = omega arith in
    (h.0, numbered_behind (k + 1) xs ys h.1 (subst (λ j. AreNumbered j ys) one g))

-- each has one of the enumeration's numbers
inside : (from many k : ℕ) → from ≤ k → k < from + many → nat_le from k && nat_lt k (from + many) ≡ true
inside from many k low high = rw (le-leb from k low, lt-ltb k (from + many) high) refl

enumeration_numbered : (w : List ℕ) (from many k : ℕ) (ws : List (List ℕ)) → from ≤ k → k + length ws ≤ from + many → AreNumbered k (map (λ v. (Word v, constants w from many)) ws)
enumeration_numbered w from many k [] low high = tt
enumeration_numbered w from many k (v ∷ ws) low high =
    (inside from many k low (omega arith), enumeration_numbered w from many (k + 1) ws (omega arith) (omega arith))

-- the constants of one more type
shape_numbered : (t : PlainTextTypes) (w : List ℕ) (f : SourceForm) (s : PlainShape) → IsShapeOf t w f s → AreNumbered (0 + length t.constants) (constants_of f s)
shape_numbered t w (enumeration ws) s h =
    let from = length t.constants in
    subst (λ x. AreNumbered (0 + from) (constants_of (enumeration ws) x)) (sym h) (enumeration_numbered w from (length ws) (0 + from) ws (omega arith) (omega arith))
shape_numbered t w (tuple_of fs) s h = tt

type_numbered : (t u : PlainTextTypes) (d : SourceType) → AreNumbered 0 t.constants → DeclaresType t d u → AreNumbered 0 u.constants
type_numbered t u d numbered h =
    subst (AreNumbered 0) (sym h.constants) (numbered_behind 0 t.constants (constants_of d.form h.shape) numbered (shape_numbered t d.name d.form h.shape h.form))

types_numbered : (ds : List SourceDeclaration) (t u : PlainTextTypes) → AreNumbered 0 t.constants → AreTypesOf ds t u → AreNumbered 0 u.constants
types_numbered [] t u numbered h = subst (λ (v : PlainTextTypes). AreNumbered 0 v.constants) (sym h) numbered
types_numbered (type_named d ∷ more) t u numbered h = types_numbered more h.0 u (type_numbered t h.0 d numbered h.1) h.2
types_numbered (automaton a ∷ more) t u numbered h = types_numbered more t u numbered h

-- the constants of a text: each is a word, and has its number
pub record AreConstants (ns : NameShapes) : Type 0 where
  pub named : AreWords ns
  pub numbered : AreNumbered 0 ns

pub text_constants : (ds : List SourceDeclaration) (t : PlainTextTypes) → AreTypesOf ds no_types t → AreConstants t.constants
text_constants ds t h = record { named = (text_types_of ds t h).named; numbered = types_numbered ds no_types t tt h }

-- one more name in front, with its value
pub shaped_more : (n : Name) (s : PlainShape) (v : Data) (ns : NameShapes) (e : Bindings) → has_shape s v ≡ true → IsShaped ns e → IsShaped ((n, s) ∷ ns) ((n, v) ∷ e)
shaped_more n s v ns e h g = λ x t u named found. by_same x t u (same_name x n) named found
  where
    by_same : (x : Name) (t : PlainShape) (u : Data) (b : Bool) → (if b then Some s else shape_named x ns) ≡ Some t → (if b then Some v else lookup x e) ≡ Some u → has_shape t u ≡ true
    by_same x t u true p q =
        let shape : s ≡ t = cc in
        let same : v ≡ u = cc in
        rw (← shape, ← same) h
    by_same x t u false p q = g x t u p q

-- what the constants mean, if their names are these words
pub constants_shaped : (k : ℕ) (ns : NameShapes) (ws : List (List ℕ)) → declared_names ns ≡ map Word ws → AreNumbered k ns → IsShaped ns (constants_from k ws)
constants_shaped k [] ws same h = λ x s v named found. absurd (cc)
constants_shaped k (n ∷ ns) [] same h = absurd (cc)
constants_shaped k (n ∷ ns) (w ∷ ws) same h =
    let first : n.0 ≡ Word w = cc in
    let others : declared_names ns ≡ map Word ws = cc in
    subst (λ (x : Name). IsShaped ((x, n.1) ∷ ns) (constants_from k (w ∷ ws))) (sym first)
    (shaped_more (Word w) n.1 (constant k) ns (constants_from (k + 1) ws) h.0 (constants_shaped (k + 1) ns ws others h.1))
