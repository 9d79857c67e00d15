-- The types after a declaration are found exactly if it declares them.
use Rattle.std.proofs.Common.{◌≡◌, ◌<◌, ◌&&◌, ◌||◌, not, ℕ, Bool, true, false, nat_lt, if◌then◌else◌, List, [], ◌∷◌, ◌++◌, Result, Ok, Err, refl, sym, ap, subst, ◌∙◌, arith, length, map, append_assoc}
use Rattle.std.specs.List.{AllByRecursion, AllZip, IsDistinct, list_any}
use Rattle.std.proofs.lemmas.Bool.{ltb-true, lt-ltb}
use Rattle.std.proofs.lemmas.List.{append-nil}
use Rattle.std.proofs.lemmas.Slice.Eq.{bytes_eq-Decides}
use Rattle.ioa_values.specs.Outcome.{and_then}
use Rattle.ioa_values.proofs.AllOf.{all_pushed}
use Rattle.ioa_operators.specs.Shapes.{PlainShape, constants, tuples, shapes_of}
use Rattle.ioa_operators.specs.ShapeHeight.{height, heights}
use Rattle.ioa_terms.specs.declared.name.Name.TheVariants.{Word}
use Rattle.ioa_terms.specs.Bindings.{same_word}
use Rattle.ioa_terms.specs.Sorted.{NameShapes}
use Rattle.ioa_source.specs.PlainText.{enumeration, tuple_of}
use Rattle.ioa_source.specs.Sides.{SourceDeclared, SourceForm, SourceType}
use Rattle.ioa_refusals.specs.declared.refusal.Refusal.{Refusal}
use Rattle.ioa_refusals.specs.declared.refusal.Refusal.TheVariants.{Limit, Twice}
use Rattle.ioa_types.specs.declared.height.TheConstants.{SHAPE_LIMIT}
use Rattle.ioa_names.specs.NameTables.{AreDistinct, with_name, with_names}
use Rattle.ioa_types.specs.TypeTables.{TypeTable, limited, shape_of_sort, field_shapes, are_new, field_names, tuple_shape}
use Rattle.ioa_types.specs.Meanings.{Means, IsTypeTable, AreTextTypes}
use Rattle.ioa_types.specs.TextTypes.{PlainTextTypes, text_types, with_constants, with_form}
use Rattle.ioa_types.specs.TypeDeclarations.{IsTupleOf, IsShapeOf, constants_of, DeclaresType}
use Rattle.ioa_names.proofs.Tables.{table_is}
use Rattle.ioa_names.proofs.Names.{all_behind, all_differ, all_found, first_of}
use Rattle.ioa_types.proofs.Meant.{shape_is, sort_found, sort_means}

-- two words differ whichever comes first
turned : (x w : List ℕ) → same_word w x ≡ false → same_word x w ≡ false
turned x w h = by_test (same_word x w) refl
  where
    by_test : (b : Bool) → same_word x w ≡ b → same_word x w ≡ false
    by_test true e =
        let same : x ≡ w = (bytes_eq-Decides x w).0 e in
        let other : same_word w x ≡ true = (bytes_eq-Decides w x).1 (sym same) in
        absurd (cc)
    by_test false e = e

-- words that are new one after another differ
neither : (a b : Bool) → a || b ≡ false → (a ≡ false) × (b ≡ false)
neither true b h = absurd (cc)
neither false b h = (refl, h)

first_false : (a b : Bool) → not a && b ≡ true → (a ≡ false) × (b ≡ true)
first_false true b h = absurd (cc)
first_false false b h = (refl, h)

differ_pushed : (before : List (List ℕ)) (w : List ℕ) → IsDistinct same_word before → list_any (same_word w) before ≡ false → IsDistinct same_word (before ++ w ∷ [])
unfolding IsDistinct
differ_pushed [] w d h = (tt, tt)
differ_pushed (x ∷ before) w d h =
    let both = neither (same_word w x) (list_any (same_word w) before) h in
    (all_pushed (λ y. same_word x y ≡ false) before w d.0 (turned x w both.0), differ_pushed before w d.1 both.1)

words_differ : (before ws : List (List ℕ)) → IsDistinct same_word before → are_new before ws ≡ true → IsDistinct same_word (before ++ ws)
words_differ before [] d h = subst (IsDistinct same_word) (sym (append-nil before)) d
words_differ before (w ∷ ws) d h =
    let both = first_false (list_any (same_word w) before) (are_new (before ++ w ∷ []) ws) h in
    subst (IsDistinct same_word) (append_assoc before (w ∷ []) ws) (words_differ (before ++ w ∷ []) ws (differ_pushed before w d both.0) both.1)

pub new_differ : (ws : List (List ℕ)) → are_new [] ws ≡ true → IsDistinct same_word ws
unfolding IsDistinct
new_differ ws h = words_differ [] ws tt h

-- and words that differ are new one after another
holds_at : (P : List ℕ → Type 0) (xs : List (List ℕ)) (y : List ℕ) (ys : List (List ℕ)) → AllByRecursion P (xs ++ y ∷ ys) → P y
holds_at P [] y ys h = h.0
holds_at P (x ∷ xs) y ys h = holds_at P xs y ys h.1

none_before : (before : List (List ℕ)) (w : List ℕ) (ws : List (List ℕ)) → IsDistinct same_word (before ++ w ∷ ws) → list_any (same_word w) before ≡ false
unfolding IsDistinct
none_before [] w ws d = refl
none_before (x ∷ before) w ws d =
    rw (turned w x (holds_at (λ y. same_word x y ≡ false) before w ws d.0)) (none_before before w ws d.1)

differ_words : (before ws : List (List ℕ)) → IsDistinct same_word (before ++ ws) → are_new before ws ≡ true
differ_words before [] d = refl
differ_words before (w ∷ ws) d =
    rw (none_before before w ws d) (differ_words (before ++ w ∷ []) ws (subst (IsDistinct same_word) (sym (append_assoc before (w ∷ []) ws)) d))

pub differ_new : (ws : List (List ℕ)) → IsDistinct same_word ws → are_new [] ws ≡ true
differ_new ws d = differ_words [] ws d

-- a shape that is not too high
limit_met : (s x : PlainShape) → limited s ≡ shape_is x → (s ≡ x) × (height s < SHAPE_LIMIT)
unfolding limited
limit_met s x h = by_test (nat_lt (height s) SHAPE_LIMIT) (ltb-true (height s) SHAPE_LIMIT) h
  where
    by_test : (b : Bool) → (b ≡ true → height s < SHAPE_LIMIT) → (if b then shape_is s else Err Limit) ≡ shape_is x → (s ≡ x) × (height s < SHAPE_LIMIT)
    by_test true low h = let same : s ≡ x = cc in (same, low refl)
    by_test false low h = absurd (cc)

limit_passed : (s : PlainShape) → height s < SHAPE_LIMIT → shape_is s ≡ limited s
unfolding limited
limit_passed s h = rw (lt-ltb (height s) SHAPE_LIMIT h) refl

-- the names of fields
abbrev names_are : List (List ℕ) → Result (List (List ℕ)) Refusal
names_are ns = Ok ns

names_met : (fs : List SourceDeclared) (ns : List (List ℕ)) → field_names fs ≡ names_are ns → (map (λ f. f.name) fs ≡ ns) × IsDistinct same_word (map (λ f. f.name) fs)
names_met fs ns h = by_test (are_new [] (map (λ f. f.name) fs)) (new_differ (map (λ f. f.name) fs)) h
  where
    by_test : (b : Bool) → (b ≡ true → IsDistinct same_word (map (λ f. f.name) fs)) → (if b then names_are (map (λ f. f.name) fs) else Err Twice) ≡ names_are ns → (map (λ f. f.name) fs ≡ ns) × IsDistinct same_word (map (λ f. f.name) fs)
    by_test true differ h = let same : map (λ f. f.name) fs ≡ ns = cc in (same, differ refl)
    by_test false differ h = absurd (cc)

names_found : (fs : List SourceDeclared) → IsDistinct same_word (map (λ f. f.name) fs) → names_are (map (λ f. f.name) fs) ≡ field_names fs
names_found fs d = rw (differ_new (map (λ f. f.name) fs) d) refl

-- the shapes of fields
abbrev shapes_are : List PlainShape → Result (List PlainShape) Refusal
shapes_are ss = Ok ss

abbrev FieldsMean : TypeTable → List SourceDeclared → List PlainShape → Type 0
FieldsMean types fs ss = AllZip (λ f x. Means types f.sort x) fs ss

fields_met : (types : TypeTable) → IsTypeTable types → (fs : List SourceDeclared) (ss : List PlainShape) → field_shapes types fs ≡ shapes_are ss → FieldsMean types fs ss
fields_met types table [] ss h = let same : [] ≡ ss = cc in subst (FieldsMean types []) same tt
fields_met types table (f ∷ fs) ss h =
    let one = first_of (shape_of_sort types f.sort) (λ s. and_then (field_shapes types fs) (λ more. shapes_are (s ∷ more))) ss h in
    let two = first_of (field_shapes types fs) (λ more. shapes_are (one.0 ∷ more)) ss one.2 in
    let same : one.0 ∷ two.0 ≡ ss = cc in
    subst (FieldsMean types (f ∷ fs)) same ((sort_means types table f.sort one.0 (sym one.1)).0, fields_met types table fs two.0 two.1)

fields_found : (types : TypeTable) (fs : List SourceDeclared) (ss : List PlainShape) → FieldsMean types fs ss → heights (shapes_of ss) < SHAPE_LIMIT → shapes_are ss ≡ field_shapes types fs
fields_found types [] [] h low = refl
fields_found types [] (s ∷ ss) h low = absurd h
fields_found types (f ∷ fs) [] h low = absurd h
fields_found types (f ∷ fs) (s ∷ ss) h low =
    rw (← sort_found types f.sort s h.0 (omega (arith, low)), ← fields_found types fs ss h.1 (omega (arith, low))) refl

-- a tuple type
tuple_met : (types : TypeTable) → IsTypeTable types → (w : List ℕ) (fs : List SourceDeclared) (s : PlainShape) → tuple_shape types w fs ≡ shape_is s → IsTupleOf types w fs s
tuple_met types table w fs s h =
    let one = first_of (field_names fs) (λ ns. and_then (field_shapes types fs) (λ ss. limited (tuples w ns (shapes_of ss)))) s h in
    let two = first_of (field_shapes types fs) (λ ss. limited (tuples w one.0 (shapes_of ss))) s one.2 in
    let names = names_met fs one.0 one.1 in
    let met = limit_met (tuples w one.0 (shapes_of two.0)) s two.2 in
    record {
      shapes = two.0;
      fields = fields_met types table fs two.0 two.1;
      names_differ = names.1;
      same = sym met.0 ∙ ap (λ ns. tuples w ns (shapes_of two.0)) (sym names.0);
      low = subst (λ x. height x < SHAPE_LIMIT) met.0 met.1;
    }

tuple_found : (types : TypeTable) (w : List ℕ) (fs : List SourceDeclared) (s : PlainShape) → IsTupleOf types w fs s → shape_is s ≡ tuple_shape types w fs
tuple_found types w fs s h =
    let low : height (tuples w (map (λ f. f.name) fs) (shapes_of h.shapes)) < SHAPE_LIMIT = subst (λ x. height x < SHAPE_LIMIT) h.same h.low in
    rw (h.same, ← names_found fs h.names_differ, ← fields_found types fs h.shapes h.fields (omega (arith, low))) (limit_passed (tuples w (map (λ f. f.name) fs) (shapes_of h.shapes)) low)

-- names that are put behind others one by one
then_same : {A B : Type 0} (r : Result A Refusal) (f g : A → Result B Refusal) → ((x : A) → f x ≡ g x) → and_then r f ≡ and_then r g
then_same (Ok x) f g h = h x
then_same (Err e) f g h = refl

one_name : (names : NameShapes) (w : List ℕ) (s : PlainShape) → with_names names ((Word w, s) ∷ []) ≡ with_name names w s
one_name names w s = by_result (with_name names w s)
  where
    by_result : (r : Result NameShapes Refusal) → and_then r table_is ≡ r
    by_result (Ok ns) = refl
    by_result (Err e) = refl

all_constants : (names : NameShapes) (s : PlainShape) (ws : List (List ℕ)) → with_names names (constants_of (enumeration ws) s) ≡ with_constants names s ws
all_constants names s [] = refl
all_constants names s (w ∷ ws) = then_same (with_name names w s) (λ ns. with_names ns (constants_of (enumeration ws) s)) (λ ns. with_constants ns s ws) (λ ns. all_constants ns s ws)

-- a declaration, whatever its form: the shape, the constants, the type
abbrev shape_at : PlainTextTypes → List ℕ → SourceForm → Result PlainShape Refusal
shape_at t w (enumeration ws) = Ok (constants w (length t.constants) (length ws))
shape_at t w (tuple_of fs) = tuple_shape t.types w fs

abbrev text_is : PlainTextTypes → Result PlainTextTypes Refusal
text_is t = Ok t

abbrev with_shape : PlainTextTypes → List ℕ → SourceForm → PlainShape → Result PlainTextTypes Refusal
with_shape t w f s = and_then (with_names t.constants (constants_of f s)) (λ cs. and_then (with_names t.types ((Word w, s) ∷ [])) (λ ts. text_is (text_types ts cs)))

in_one_form : (t : PlainTextTypes) (w : List ℕ) (f : SourceForm) → with_form t w f ≡ and_then (shape_at t w f) (with_shape t w f)
in_one_form t w (enumeration ws) =
    let s : PlainShape = constants w (length t.constants) (length ws) in
    rw (all_constants t.constants s ws, one_name t.types w s) refl
in_one_form t w (tuple_of fs) =
    then_same (tuple_shape t.types w fs) (λ s. and_then (with_name t.types w s) (λ ts. text_is (text_types ts t.constants))) (with_shape t w (tuple_of fs))
    (λ s. ap (λ r. and_then r (λ ts. text_is (text_types ts t.constants))) (sym (one_name t.types w s)))

-- sound
shape_met : (t : PlainTextTypes) → AreTextTypes t → (w : List ℕ) (f : SourceForm) (s : PlainShape) → shape_at t w f ≡ shape_is s → IsShapeOf t w f s
shape_met t text w (enumeration ws) s h = cc
shape_met t text w (tuple_of fs) s h = tuple_met t.types text.types w fs s h

pub type_sound : (t u : PlainTextTypes) (d : SourceType) → AreTextTypes t → AreDistinct t.types → with_form t d.name d.form ≡ text_is u → DeclaresType t d u
type_sound t u d text differ h =
    let one = first_of (shape_at t d.name d.form) (with_shape t d.name d.form) u (sym (in_one_form t d.name d.form) ∙ h) in
    let s : PlainShape = one.0 in
    let two = first_of (with_names t.constants (constants_of d.form s)) (λ cs. and_then (with_names t.types ((Word d.name, s) ∷ [])) (λ ts. text_is (text_types ts cs))) u one.2 in
    let three = first_of (with_names t.types ((Word d.name, s) ∷ [])) (λ ts. text_is (text_types ts two.0)) u two.2 in
    let same : text_types three.0 two.0 ≡ u = cc in
    subst (DeclaresType t d) {x = text_types three.0 two.0} same (record {
      shape = s;
      form = shape_met t text d.name d.form s one.1;
      types = all_behind t.types ((Word d.name, s) ∷ []) three.0 three.1;
      constants = all_behind t.constants (constants_of d.form s) two.0 two.1;
      types_differ = all_differ t.types ((Word d.name, s) ∷ []) three.0 differ three.1;
      constants_differ = all_differ t.constants (constants_of d.form s) two.0 text.differ two.1;
    })

-- found
shape_found : (t : PlainTextTypes) (w : List ℕ) (f : SourceForm) (s : PlainShape) → IsShapeOf t w f s → shape_is s ≡ shape_at t w f
shape_found t w (enumeration ws) s h = ap shape_is h
shape_found t w (tuple_of fs) s h = tuple_found t.types w fs s h

pub type_found : (t u : PlainTextTypes) (d : SourceType) → DeclaresType t d u → with_form t d.name d.form ≡ text_is u
type_found t u d h =
    let types = subst AreDistinct h.types h.types_differ in
    let constants = subst AreDistinct h.constants h.constants_differ in
    in_one_form t d.name d.form ∙ rw (← shape_found t d.name d.form h.shape h.form, ← all_found t.constants (constants_of d.form h.shape) constants, ← all_found t.types ((Word d.name, h.shape) ∷ []) types) (ap text_is (sym rebuilt))
  where
    rebuilt : u ≡ text_types (t.types ++ (Word d.name, h.shape) ∷ []) (t.constants ++ constants_of d.form h.shape)
    rebuilt = λ i. record { types = h.types i; constants = h.constants i }
