-- The shapes of sorts, against what sorts mean, and tables of types.
use Rattle.std.proofs.Common.{◌≡◌, ◌<◌, ℕ, Bool, true, false, nat_lt, if◌then◌else◌, IfOk, List, [], ◌∷◌, ◌++◌, Option, Some, None, Result, Ok, Err, refl, sym, ap, subst, ◌∙◌, arith, length}
use Rattle.std.specs.List.{AllByRecursion, IsDistinct}
use Rattle.std.proofs.lemmas.Bool.{ltb-true, lt-ltb}
use Rattle.std.proofs.lemmas.Slice.Eq.{bytes_eq-Decides}
use Rattle.ioa_values.specs.Outcome.{and_then}
use Rattle.ioa_values.proofs.AllOf.{all_appended}
use Rattle.ioa_operators.specs.Shapes.{PlainShape, PlainShapes, truths, integers, naturals, constants, tuples, sequences, sets, maps, no_shapes, shape, shapes_of}
use Rattle.ioa_operators.specs.ShapeHeight.{height}
use Rattle.ioa_terms.specs.declared.name.Name.{Name}
use Rattle.ioa_terms.specs.declared.name.Name.TheVariants.{Word}
use Rattle.ioa_terms.specs.Bindings.{same_name}
use Rattle.ioa_terms.specs.Sorted.{NameShapes, shape_named}
use Rattle.ioa_terms.specs.PlainSort as sort
use Rattle.ioa_terms.specs.PlainSort.{PlainSort}
use Rattle.ioa_source.specs.PlainText.{enumeration, tuple_of}
use Rattle.ioa_source.specs.Sides.{SourceDeclared, SourceForm, SourceType}
use Rattle.ioa_sort_rules.specs.DeclaredTypes.{TupleTypes, IsDeclared, AreDeclared, AreAllDeclared}
use Rattle.ioa_refusals.specs.declared.refusal.Refusal.{Refusal}
use Rattle.ioa_refusals.specs.declared.refusal.Refusal.TheVariants.{Limit}
use Rattle.ioa_types.specs.declared.height.TheConstants.{SHAPE_LIMIT}
use Rattle.ioa_names.specs.NameTables.{AreDistinct, with_name}
use Rattle.ioa_types.specs.TypeTables.{TypeTable, limited, known_type, shape_of_sort, field_shapes, field_names, tuple_shape}
use Rattle.ioa_types.specs.Meanings.{Means, tuple_types, IsTypeTable, AreTextTypes}
use Rattle.ioa_types.specs.TextTypes.{PlainTextTypes, text_types, with_constants, with_form}
use Rattle.ioa_types.specs.TextTypes as text
use Rattle.ioa_names.proofs.Tables.{table_is}
use Rattle.ioa_names.specs.Views.{AreWords}
use Rattle.ioa_names.proofs.Names.{added_name, first_of, name_differs}
use Rattle.ioa_names.proofs.Words.{words_both}

abbrev pub shape_is : PlainShape → Result PlainShape Refusal
shape_is s = Ok s

abbrev shapes_are : List PlainShape → Result (List PlainShape) Refusal
shapes_are ss = Ok ss

-- what results hold, one after another
chain : {A B E : Type 0} (P : A → Type 0) (Q : B → Type 0) (f : A → Result B E) (r : Result A E) → IfOk r P → ((x : A) → P x → IfOk (f x) Q) → IfOk (and_then r f) Q
chain P Q f (Ok x) h g = g x h
chain P Q f (Err e) h g = tt

-- a shape that is not too high
limit_kept : (P : PlainShape → Type 0) (s : PlainShape) → P s → IfOk (limited s) (λ x. P x × (height x < SHAPE_LIMIT))
unfolding limited
limit_kept P s h = by_test (nat_lt (height s) SHAPE_LIMIT) (ltb-true (height s) SHAPE_LIMIT)
  where
    by_test : (b : Bool) → (b ≡ true → height s < SHAPE_LIMIT) → IfOk (if b then shape_is s else Err Limit) (λ x. P x × (height x < SHAPE_LIMIT))
    by_test true low = (h, low refl)
    by_test false low = tt

limit_passed : (s : PlainShape) → height s < SHAPE_LIMIT → shape_is s ≡ limited s
unfolding limited
limit_passed s h = rw (lt-ltb (height s) SHAPE_LIMIT h) refl

-- what holds of all types holds of the one of a name
abbrev IfNamed : (PlainShape → Type 0) → Option PlainShape → Type 0
IfNamed P None = Unit {0}
IfNamed P (Some s) = P s

all_named : (P : PlainShape → Type 0) (types : TypeTable) (x : Name) → AllByRecursion (λ t. P t.1) types → IfNamed P (shape_named x types)
all_named P [] x h = tt
all_named P (t ∷ types) x h = by_test (all_named P types x h.1) (same_name x t.0)
  where
    by_test : IfNamed P (shape_named x types) → (b : Bool) → IfNamed P (if b then Some t.1 else shape_named x types)
    by_test rest true = h.0
    by_test rest false = rest

module _ (types : TypeTable) (table : IsTypeTable types) where
  -- what is found of a sort
  record IsFound (s : PlainSort) (x : PlainShape) : Type 0 where
    means : Means types s x
    declared : IsDeclared (tuple_types types) x
    low : height x < SHAPE_LIMIT

  abbrev IsMeant : PlainSort → PlainShape → Type 0
  IsMeant s x = Means types s x × IsDeclared (tuple_types types) x

  named_kept : (w : List ℕ) (o : Option PlainShape) → shape_named (Word w) types ≡ o → IfNamed (IsDeclared (tuple_types types)) o → IfNamed (λ s. height s < SHAPE_LIMIT) o → IfOk (known_type o) (IsFound (sort.named_type w))
  named_kept w None e d l = tt
  named_kept w (Some s) e d l = record { means = e; declared = d; low = l }

  kept : (s : PlainSort) (r : Result PlainShape Refusal) → IfOk r (λ x. IsMeant s x × (height x < SHAPE_LIMIT)) → IfOk r (IsFound s)
  kept s (Ok x) h = record { means = h.0.0; declared = h.0.1; low = h.1 }
  kept s (Err e) h = tt

  sort_kept : (s : PlainSort) → IfOk (shape_of_sort types s) (IsFound s)
  sort_kept sort.booleans = record { means = refl; declared = tt; low = omega arith }
  sort_kept sort.integers = record { means = refl; declared = tt; low = omega arith }
  sort_kept sort.naturals = record { means = refl; declared = tt; low = omega arith }
  sort_kept (sort.sequences s) = chain (IsFound s) (IsFound (sort.sequences s)) (λ x. limited (sequences x)) (shape_of_sort types s) (sort_kept s)
      (λ x h. kept (sort.sequences s) (limited (sequences x)) (limit_kept (IsMeant (sort.sequences s)) (sequences x) ((x, h.means, refl), h.declared)))
  sort_kept (sort.sets s) = chain (IsFound s) (IsFound (sort.sets s)) (λ x. limited (sets x)) (shape_of_sort types s) (sort_kept s)
      (λ x h. kept (sort.sets s) (limited (sets x)) (limit_kept (IsMeant (sort.sets s)) (sets x) ((x, h.means, refl), h.declared)))
  sort_kept (sort.maps k v) = chain (IsFound k) (IsFound (sort.maps k v)) (λ x. and_then (shape_of_sort types v) (λ y. limited (maps x y))) (shape_of_sort types k) (sort_kept k)
      (λ x h. chain (IsFound v) (IsFound (sort.maps k v)) (λ y. limited (maps x y)) (shape_of_sort types v) (sort_kept v)
      (λ y g. kept (sort.maps k v) (limited (maps x y)) (limit_kept (IsMeant (sort.maps k v)) (maps x y) ((x, y, h.means, g.means, refl), (h.declared, g.declared)))))
  sort_kept (sort.named_type w) = named_kept w (shape_named (Word w) types) refl (all_named (IsDeclared (tuple_types types)) types (Word w) table.declared) (all_named (λ s. height s < SHAPE_LIMIT) types (Word w) table.low)

  fields_kept : (fs : List SourceDeclared) → IfOk (field_shapes types fs) (λ ss. AreDeclared (tuple_types types) (shapes_of ss))
  fields_kept [] = tt
  fields_kept (f ∷ fs) = chain (IsFound f.sort) (λ ss. AreDeclared (tuple_types types) (shapes_of ss)) (λ s. and_then (field_shapes types fs) (λ ss. Ok (s ∷ ss))) (shape_of_sort types f.sort) (sort_kept f.sort)
      (λ s h. chain (λ ss. AreDeclared (tuple_types types) (shapes_of ss)) (λ ss. AreDeclared (tuple_types types) (shapes_of ss)) (λ ss. Ok (s ∷ ss)) (field_shapes types fs) (fields_kept fs) (λ ss g. (h.declared, g)))

  -- a tuple type of these types
  record IsTuple (w : List ℕ) (s : PlainShape) : Type 0 where
    names : List (List ℕ)
    fields : PlainShapes
    same : s ≡ tuples w names fields
    declared : AreDeclared (tuple_types types) fields

  tuple_kept : (w : List ℕ) (fs : List SourceDeclared) → IfOk (tuple_shape types w fs) (λ s. IsTuple w s × (height s < SHAPE_LIMIT))
  tuple_kept w fs = chain (λ ns. Unit {0}) (λ s. IsTuple w s × (height s < SHAPE_LIMIT)) (λ ns. and_then (field_shapes types fs) (λ ss. limited (tuples w ns (shapes_of ss)))) (field_names fs) (anything (field_names fs))
      (λ ns _. chain (λ ss. AreDeclared (tuple_types types) (shapes_of ss)) (λ s. IsTuple w s × (height s < SHAPE_LIMIT)) (λ ss. limited (tuples w ns (shapes_of ss))) (field_shapes types fs) (fields_kept fs)
      (λ ss d. limit_kept (IsTuple w) (tuples w ns (shapes_of ss)) (record { names = ns; fields = shapes_of ss; same = refl; declared = d })))
    where
      anything : {A : Type 0} (r : Result A Refusal) → IfOk r (λ x. Unit {0})
      anything (Ok x) = tt
      anything (Err e) = tt

-- a sort that means a shape has it, if it is not too high
pub sort_found : (types : TypeTable) (s : PlainSort) (x : PlainShape) → Means types s x → height x < SHAPE_LIMIT → shape_is x ≡ shape_of_sort types s
sort_found types sort.booleans x h l = ap shape_is h
sort_found types sort.integers x h l = ap shape_is h
sort_found types sort.naturals x h l = ap shape_is h
sort_found types (sort.sequences s) x h l =
    let low : height (sequences h.0) < SHAPE_LIMIT = subst (λ y. height y < SHAPE_LIMIT) h.2 l in
    rw (h.2, ← sort_found types s h.0 h.1 (omega (arith, low))) (limit_passed (sequences h.0) low)
sort_found types (sort.sets s) x h l =
    let low : height (sets h.0) < SHAPE_LIMIT = subst (λ y. height y < SHAPE_LIMIT) h.2 l in
    rw (h.2, ← sort_found types s h.0 h.1 (omega (arith, low))) (limit_passed (sets h.0) low)
sort_found types (sort.maps k v) x h l =
    let low : height (maps h.0 h.1) < SHAPE_LIMIT = subst (λ y. height y < SHAPE_LIMIT) h.4 l in
    rw (h.4, ← sort_found types k h.0 h.2 (omega (arith, low)), ← sort_found types v h.1 h.3 (omega (arith, low))) (limit_passed (maps h.0 h.1) low)
sort_found types (sort.named_type w) x h l = rw h refl

pub sort_means : (types : TypeTable) → IsTypeTable types → (s : PlainSort) (x : PlainShape) → shape_is x ≡ shape_of_sort types s → Means types s x × (height x < SHAPE_LIMIT)
sort_means types t s x e = let h : IsFound types t s x = subst (λ r. IfOk r (IsFound types t s)) (sym e) (sort_kept types t s) in (h.means, h.low)

pub sort_declared : (types : TypeTable) → IsTypeTable types → (s : PlainSort) (x : PlainShape) → shape_is x ≡ shape_of_sort types s → IsDeclared (tuple_types types) x
sort_declared types t s x e = let h : IsFound types t s x = subst (λ r. IfOk r (IsFound types t s)) (sym e) (sort_kept types t s) in h.declared

-- what is declared stays declared if more types are
mutual
  still : (d e : TupleTypes) → ((w : List ℕ) (x : PlainShape) → d w ≡ Some x → e w ≡ Some x) → (s : PlainShape) → IsDeclared d s → IsDeclared e s
  still d e more truths h = tt
  still d e more integers h = tt
  still d e more naturals h = tt
  still d e more (constants w k n) h = tt
  still d e more (tuples w ns fs) h = (more w (tuples w ns fs) h.0, all_still d e more fs h.1)
  still d e more (sequences s) h = still d e more s h
  still d e more (sets s) h = still d e more s h
  still d e more (maps k v) h = (still d e more k h.0, still d e more v h.1)

  all_still : (d e : TupleTypes) → ((w : List ℕ) (x : PlainShape) → d w ≡ Some x → e w ≡ Some x) → (ss : PlainShapes) → AreDeclared d ss → AreDeclared e ss
  all_still d e more no_shapes h = tt
  all_still d e more (shape s ss) h = (still d e more s h.0, all_still d e more ss h.1)

weaker : {A : Type 0} (P Q : A → Type 0) → ((x : A) → P x → Q x) → (xs : List A) → AllByRecursion P xs → AllByRecursion Q xs
weaker P Q f [] h = tt
weaker P Q f (x ∷ xs) h = (f x h.0, weaker P Q f xs h.1)

named_more : (types more : TypeTable) (x : Name) (s : PlainShape) → shape_named x types ≡ Some s → shape_named x (types ++ more) ≡ Some s
named_more [] more x s h = absurd (cc)
named_more (t ∷ types) more x s h = by_test (named_more types more x s) (same_name x t.0) h
  where
    by_test : (shape_named x types ≡ Some s → shape_named x (types ++ more) ≡ Some s) → (b : Bool) → (if b then Some t.1 else shape_named x types) ≡ Some s → (if b then Some t.1 else shape_named x (types ++ more)) ≡ Some s
    by_test rest true h = h
    by_test rest false h = rest h

named_new : (types : TypeTable) (w : List ℕ) (s : PlainShape) → shape_named (Word w) types ≡ None → shape_named (Word w) (types ++ (Word w, s) ∷ []) ≡ Some s
named_new [] w s h = rw ((bytes_eq-Decides w w).1 refl) refl
named_new (t ∷ types) w s h = by_test (named_new types w s) (same_name (Word w) t.0) h
  where
    by_test : (shape_named (Word w) types ≡ None → shape_named (Word w) (types ++ (Word w, s) ∷ []) ≡ Some s) → (b : Bool) → (if b then Some t.1 else shape_named (Word w) types) ≡ None → (if b then Some t.1 else shape_named (Word w) (types ++ (Word w, s) ∷ [])) ≡ Some s
    by_test rest true h = absurd (cc)
    by_test rest false h = rest h

-- one more type
extended : (types : TypeTable) (w : List ℕ) (s : PlainShape) → IsTypeTable types → height s < SHAPE_LIMIT → IsDeclared (tuple_types (types ++ (Word w, s) ∷ [])) s → IsTypeTable (types ++ (Word w, s) ∷ [])
extended types w s t low d =
    let more = types ++ (Word w, s) ∷ [] in
    record {
      declared = all_appended (λ n. IsDeclared (tuple_types more) n.1) types ((Word w, s) ∷ []) (weaker (λ n. IsDeclared (tuple_types types) n.1) (λ n. IsDeclared (tuple_types more) n.1) (λ n h. still (tuple_types types) (tuple_types more) (λ v x e. named_more types ((Word w, s) ∷ []) (Word v) x e) n.1 h) types t.declared) (d, tt);
      low = all_appended (λ n. height n.1 < SHAPE_LIMIT) types ((Word w, s) ∷ []) t.low (low, tt);
    }

pub no_types : IsTypeTable []
no_types = record { declared = tt; low = tt }

pub enumeration_added : (types more : TypeTable) (w : List ℕ) (from many : ℕ) → IsTypeTable types → with_name types w (constants w from many) ≡ table_is more → IsTypeTable more
enumeration_added types more w from many t h =
    let a = added_name types more (Word w) (constants w from many) h in
    subst IsTypeTable a.1 (extended types w (constants w from many) t (omega arith) tt)

pub tuple_added : (types more : TypeTable) (w : List ℕ) (fs : List SourceDeclared) (s : PlainShape) → IsTypeTable types → shape_is s ≡ tuple_shape types w fs → with_name types w s ≡ table_is more → IsTypeTable more
tuple_added types more w fs s t e h =
    let a = added_name types more (Word w) s h in
    let p : IsTuple types t w s × (height s < SHAPE_LIMIT) = subst (λ r. IfOk r (λ x. IsTuple types t w x × (height x < SHAPE_LIMIT))) (sym e) (tuple_kept types t w fs) in
    let longer = types ++ (Word w, s) ∷ [] in
    let named : tuple_types longer w ≡ Some (tuples w p.0.names p.0.fields) = named_new types w s a.0 ∙ ap Some p.0.same in
    let fields = all_still (tuple_types types) (tuple_types longer) (λ v x g. named_more types ((Word w, s) ∷ []) (Word v) x g) p.0.fields p.0.declared in
    subst IsTypeTable a.1 (extended types w s t p.1 (subst (IsDeclared (tuple_types longer)) (sym p.0.same) (named, fields)))

-- constants with one shape, put behind others
constants_behind : (types : TupleTypes) (cs : NameShapes) (s : PlainShape) (ws : List (List ℕ)) (ds : NameShapes) → IsDeclared types s → AreAllDeclared types cs → with_constants cs s ws ≡ table_is ds → AreAllDeclared types ds
constants_behind types cs s [] ds i h e = let same : cs ≡ ds = cc in subst (AreAllDeclared types) same h
constants_behind types cs s (w ∷ ws) ds i h e =
    let one = first_of (with_name cs w s) (λ ns. with_constants ns s ws) ds e in
    let a = added_name cs one.0 (Word w) s one.1 in
    constants_behind types one.0 s ws ds i (subst (AreAllDeclared types) a.1 (all_appended (λ n. IsDeclared types n.1) cs ((Word w, s) ∷ []) h (i, tt))) one.2

constants_differ : (cs : NameShapes) (s : PlainShape) (ws : List (List ℕ)) (ds : NameShapes) → AreDistinct cs → with_constants cs s ws ≡ table_is ds → AreDistinct ds
constants_differ cs s [] ds d e = let same : cs ≡ ds = cc in subst AreDistinct same d
constants_differ cs s (w ∷ ws) ds d e =
    let one = first_of (with_name cs w s) (λ ns. with_constants ns s ws) ds e in
    constants_differ one.0 s ws ds (name_differs cs one.0 (Word w) s d one.1) one.2

constants_named : (cs : NameShapes) (s : PlainShape) (ws : List (List ℕ)) (ds : NameShapes) → AreWords cs → with_constants cs s ws ≡ table_is ds → AreWords ds
constants_named cs s [] ds n e = let same : cs ≡ ds = cc in subst AreWords same n
constants_named cs s (w ∷ ws) ds n e =
    let one = first_of (with_name cs w s) (λ ns. with_constants ns s ws) ds e in
    let a = added_name cs one.0 (Word w) s one.1 in
    constants_named one.0 s ws ds (subst AreWords a.1 (words_both cs ((Word w, s) ∷ []) n refl)) one.2

-- what is declared stays declared if one more type is
all_still_named : (types : TypeTable) (w : List ℕ) (s : PlainShape) (cs : NameShapes) → AreAllDeclared (tuple_types types) cs → AreAllDeclared (tuple_types (types ++ (Word w, s) ∷ [])) cs
all_still_named types w s cs h =
    let more = types ++ (Word w, s) ∷ [] in
    weaker (λ n. IsDeclared (tuple_types types) n.1) (λ n. IsDeclared (tuple_types more) n.1) (λ n g. still (tuple_types types) (tuple_types more) (λ v x e. named_more types ((Word w, s) ∷ []) (Word v) x e) n.1 g) cs h

pub no_text_types : AreTextTypes text.no_types
unfolding IsDistinct
no_text_types = record { types = no_types; constants = tt; named = refl; differ = tt }

abbrev text_is : PlainTextTypes → Result PlainTextTypes Refusal
text_is t = Ok t

pub type_added : (t more : PlainTextTypes) (d : SourceType) → AreTextTypes t → with_form t d.name d.form ≡ text_is more → AreTextTypes more
type_added t more d h e = by_form d.form e
  where
    by_form : (f : SourceForm) → with_form t d.name f ≡ text_is more → AreTextTypes more
    by_form (enumeration ws) e =
        let s : PlainShape = constants d.name (length t.constants) (length ws) in
        let one = first_of (with_constants t.constants s ws) (λ cs. and_then (with_name t.types d.name s) (λ ts. text_is (text_types ts cs))) more e in
        let two = first_of (with_name t.types d.name s) (λ ts. text_is (text_types ts one.0)) more one.2 in
        let a = added_name t.types two.0 (Word d.name) s two.1 in
        let same : text_types two.0 one.0 ≡ more = cc in
        subst AreTextTypes same (record {
          types = enumeration_added t.types two.0 d.name (length t.constants) (length ws) h.types two.1;
          constants = constants_behind (tuple_types two.0) t.constants s ws one.0 tt (subst (λ ts. AreAllDeclared (tuple_types ts) t.constants) a.1 (all_still_named t.types d.name s t.constants h.constants)) one.1;
          named = constants_named t.constants s ws one.0 h.named one.1;
          differ = constants_differ t.constants s ws one.0 h.differ one.1;
        })
    by_form (tuple_of fs) e =
        let one = first_of (tuple_shape t.types d.name fs) (λ s. and_then (with_name t.types d.name s) (λ ts. text_is (text_types ts t.constants))) more e in
        let two = first_of (with_name t.types d.name one.0) (λ ts. text_is (text_types ts t.constants)) more one.2 in
        let a = added_name t.types two.0 (Word d.name) one.0 two.1 in
        let same : text_types two.0 t.constants ≡ more = cc in
        subst AreTextTypes same (record {
          types = tuple_added t.types two.0 d.name fs one.0 h.types (sym one.1) two.1;
          constants = subst (λ ts. AreAllDeclared (tuple_types ts) t.constants) a.1 (all_still_named t.types d.name one.0 t.constants h.constants);
          named = h.named;
          differ = h.differ;
        })
