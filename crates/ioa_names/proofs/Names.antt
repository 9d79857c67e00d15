-- Names that are put behind others, and whether they differ.
use Rattle.std.proofs.Common.{◌≡◌, Bool, true, false, List, [], ◌∷◌, ◌++◌, Option, Some, None, Result, Ok, Err, refl, sym, ap, subst, ◌∙◌, if◌then◌else◌}
use Rattle.std.specs.Prelude.{not, ◌&&◌, ◌||◌}
use Rattle.std.specs.List.{AllByRecursion, IsDistinct, list_all}
use Rattle.std.specs.Option.{is_some}
use Rattle.std.proofs.lemmas.List.{append_assoc}
use Rattle.ioa_values.specs.Outcome.{and_then}
use Rattle.ioa_operators.specs.Shapes.{PlainShape}
use Rattle.ioa_terms.specs.declared.name.Name.{Name}
use Rattle.ioa_terms.specs.Bindings.{same_name}
use Rattle.ioa_terms.specs.SameNames.{same_name_is}
use Rattle.ioa_terms.specs.Sorted.{NameShapes, shape_named}
use Rattle.ioa_refusals.specs.declared.refusal.Refusal.{Refusal}
use Rattle.ioa_refusals.specs.declared.refusal.Refusal.TheVariants.{Twice}
use Rattle.ioa_names.specs.NameTables.{declared_names, with_named, with_names, named_newly, is_new, new_or, AreDistinct}
use Rattle.ioa_names.proofs.Tables.{table_is}

-- what one more name did
pub added_name : (names all : NameShapes) (x : Name) (s : PlainShape) → with_named names x s ≡ table_is all → (shape_named x names ≡ None) × (names ++ (x, s) ∷ [] ≡ all)
added_name names all x s h = by_found (shape_named x names) refl h
  where
    by_found : (o : Option PlainShape) → shape_named x names ≡ o → named_newly names x s o ≡ table_is all → (shape_named x names ≡ None) × (names ++ (x, s) ∷ [] ≡ all)
    by_found None e h = let f : names ++ (x, s) ∷ [] ≡ all = cc in (e, f)
    by_found (Some t) e h = absurd (cc)

-- of two results the second is there only if the first is
pub first_of : {A B : Type 0} (r : Result A Refusal) (f : A → Result B Refusal) (y : B) → and_then r f ≡ Ok y → (x : A) × (r ≡ Ok x) × (f x ≡ Ok y)
first_of (Ok x) f y h = (x, refl, h)
first_of (Err e) f y h = absurd (cc)

nothing_behind : (xs : NameShapes) → xs ≡ xs ++ []
nothing_behind [] = refl
nothing_behind (x ∷ xs) = ap (λ ys. x ∷ ys) (nothing_behind xs)

pub all_behind : (names more all : NameShapes) → with_names names more ≡ table_is all → all ≡ names ++ more
all_behind names [] all h = let e : names ≡ all = cc in sym e ∙ nothing_behind names
all_behind names (n ∷ more) all h =
    let one = first_of (with_named names n.0 n.1) (λ ns. with_names ns more) all h in
    let a = added_name names one.0 n.0 n.1 one.1 in
    all_behind one.0 more all one.2 ∙ ap (λ ns. ns ++ more) (sym a.1) ∙ append_assoc names ((n.0, n.1) ∷ []) more

-- two names differ whichever comes first
pub turned : (y x : Name) → same_name x y ≡ false → same_name y x ≡ false
turned y x h = by_test (same_name y x) refl
  where
    by_test : (b : Bool) → same_name y x ≡ b → same_name y x ≡ false
    by_test true e =
        let same : y ≡ x = (same_name_is y x).0 e in
        let other : same_name x y ≡ true = (same_name_is x y).1 (sym same) in
        absurd (cc)
    by_test false e = e

abbrev Differs : Name → NameShapes → Type 0
Differs x names = AllByRecursion (λ y. same_name x y ≡ false) (declared_names names)

differs_pushed : (y : Name) (names : NameShapes) (x : Name) (s : PlainShape) → Differs y names → same_name y x ≡ false → Differs y (names ++ (x, s) ∷ [])
differs_pushed y [] x s h e = (e, tt)
differs_pushed y (n ∷ names) x s h e = (h.0, differs_pushed y names x s h.1 e)

-- a name that no other has
abbrev Lacks : Name → NameShapes → Type 0
Lacks x names = shape_named x names ≡ None

lacks_first : (x y : Name) (t : PlainShape) (names : NameShapes) → Lacks x ((y, t) ∷ names) → (same_name x y ≡ false) × Lacks x names
lacks_first x y t names h = by_test (same_name x y) refl h
  where
    by_test : (b : Bool) → same_name x y ≡ b → (if b then Some t else shape_named x names) ≡ None → (same_name x y ≡ false) × Lacks x names
    by_test true e h = absurd (cc)
    by_test false e h = (e, h)

distinct_pushed : (names : NameShapes) (x : Name) (s : PlainShape) → AreDistinct names → Lacks x names → AreDistinct (names ++ (x, s) ∷ [])
unfolding IsDistinct
distinct_pushed [] x s d h = (tt, tt)
distinct_pushed ((y, t) ∷ names) x s d h =
    let first = lacks_first x y t names h in
    (differs_pushed y names x s d.0 (turned y x first.0), distinct_pushed names x s d.1 first.1)

-- names that differ and one more that is new
pub name_differs : (names all : NameShapes) (x : Name) (s : PlainShape) → AreDistinct names → with_named names x s ≡ table_is all → AreDistinct all
name_differs names all x s d h = let a = added_name names all x s h in subst AreDistinct a.1 (distinct_pushed names x s d a.0)

pub all_differ : (names more all : NameShapes) → AreDistinct names → with_names names more ≡ table_is all → AreDistinct all
all_differ names [] all d h = let e : names ≡ all = cc in subst AreDistinct e d
all_differ names (n ∷ more) all d h =
    let one = first_of (with_named names n.0 n.1) (λ ns. with_names ns more) all h in
    all_differ one.0 more all (name_differs names one.0 n.0 n.1 d one.1) one.2

-- of names that differ each is new
differs_at : (y x : Name) (s : PlainShape) (names more : NameShapes) → Differs y (names ++ (x, s) ∷ more) → same_name y x ≡ false
differs_at y x s [] more h = h.0
differs_at y x s (n ∷ names) more h = differs_at y x s names more h.1

lacks_new : (names : NameShapes) (x : Name) (s : PlainShape) (more : NameShapes) → AreDistinct (names ++ (x, s) ∷ more) → Lacks x names
unfolding IsDistinct
lacks_new [] x s more d = refl
lacks_new ((y, t) ∷ names) x s more d = rw (turned x y (differs_at y x s names more d.0)) (lacks_new names x s more d.1)

pub all_found : (names more : NameShapes) → AreDistinct (names ++ more) → table_is (names ++ more) ≡ with_names names more
all_found names [] d = ap table_is (sym (nothing_behind names))
all_found names ((x, s) ∷ more) d =
    rw (lacks_new names x s more d)
    (ap table_is (sym (append_assoc names ((x, s) ∷ []) more)) ∙ all_found (names ++ (x, s) ∷ []) more (subst AreDistinct (sym (append_assoc names ((x, s) ∷ []) more)) d))

-- names that differ still do if some are left away, behind or in front
first_all : (P : Name → Type 0) (xs ys : NameShapes) → AllByRecursion P (declared_names (xs ++ ys)) → AllByRecursion P (declared_names xs)
first_all P [] ys h = tt
first_all P (x ∷ xs) ys h = (h.0, first_all P xs ys h.1)

second_all : (P : Name → Type 0) (xs ys : NameShapes) → AllByRecursion P (declared_names (xs ++ ys)) → AllByRecursion P (declared_names ys)
second_all P [] ys h = h
second_all P (x ∷ xs) ys h = second_all P xs ys h.1

both_all : (P : Name → Type 0) (xs ys : NameShapes) → AllByRecursion P (declared_names xs) → AllByRecursion P (declared_names ys) → AllByRecursion P (declared_names (xs ++ ys))
both_all P [] ys h g = g
both_all P (x ∷ xs) ys h g = (h.0, both_all P xs ys h.1 g)

pub first_differ : (xs ys : NameShapes) → AreDistinct (xs ++ ys) → AreDistinct xs
unfolding IsDistinct
first_differ [] ys d = tt
first_differ (x ∷ xs) ys d = (first_all _ xs ys d.0, first_differ xs ys d.1)

pub second_differ : (xs ys : NameShapes) → AreDistinct (xs ++ ys) → AreDistinct ys
unfolding IsDistinct
second_differ [] ys d = d
second_differ (x ∷ xs) ys d = second_differ xs ys d.1

-- a name that no other has differs from each
lacks_differs : (x : Name) (names : NameShapes) → Lacks x names → Differs x names
lacks_differs x [] h = tt
lacks_differs x ((y, t) ∷ names) h = let first = lacks_first x y t names h in (first.0, lacks_differs x names first.1)

differs_lacks : (x : Name) (names : NameShapes) → Differs x names → Lacks x names
differs_lacks x [] h = refl
differs_lacks x ((y, t) ∷ names) h = rw h.0 (differs_lacks x names h.1)

-- names that are neither in one list nor in another
abbrev AreNew : NameShapes → NameShapes → List Name → Type 0
AreNew outer constants xs = AllByRecursion (λ x. Lacks x outer × Lacks x constants) xs

new_lacks : (outer constants : NameShapes) (x : Name) → is_new outer constants x ≡ true → Lacks x outer × Lacks x constants
new_lacks outer constants x h = by_found (shape_named x outer) (shape_named x constants) refl refl h
  where
    by_found : (o p : Option PlainShape) → shape_named x outer ≡ o → shape_named x constants ≡ p → not (is_some o || is_some p) ≡ true → Lacks x outer × Lacks x constants
    by_found None None e f h = (e, f)
    by_found None (Some t) e f h = absurd (cc)
    by_found (Some s) p e f h = absurd (cc)

lacks_new_of : (outer constants : NameShapes) (x : Name) → Lacks x outer → Lacks x constants → is_new outer constants x ≡ true
lacks_new_of outer constants x h g = rw (h, g) refl

all_new : (outer constants : NameShapes) (xs : List Name) → list_all (is_new outer constants) xs ≡ true → AreNew outer constants xs
all_new outer constants [] h = tt
all_new outer constants (x ∷ xs) h = by_first (is_new outer constants x) refl h (all_new outer constants xs)
  where
    by_first : (b : Bool) → is_new outer constants x ≡ b → b && list_all (is_new outer constants) xs ≡ true → (list_all (is_new outer constants) xs ≡ true → AreNew outer constants xs) → AreNew outer constants (x ∷ xs)
    by_first true e h more = (new_lacks outer constants x e, more h)
    by_first false e h more = absurd (cc)

new_all : (outer constants : NameShapes) (xs : List Name) → AreNew outer constants xs → list_all (is_new outer constants) xs ≡ true
new_all outer constants [] h = refl
new_all outer constants (x ∷ xs) h = rw (lacks_new_of outer constants x h.0.0 h.0.1, new_all outer constants xs h.1) refl

-- names that are new differ also between the others
before_constants : (own constants : NameShapes) → AreDistinct constants → AreDistinct own → AllByRecursion (λ x. Lacks x constants) (declared_names own) → AreDistinct (own ++ constants)
unfolding IsDistinct
before_constants [] constants d e h = d
before_constants ((y, t) ∷ own) constants d e h =
    (both_all (λ x. same_name y x ≡ false) own constants e.0 (lacks_differs y constants h.0), before_constants own constants d e.1 h.1)

differs_each : (y : Name) (t : PlainShape) (outer : NameShapes) (xs : List Name) → AllByRecursion (λ x. Lacks x ((y, t) ∷ outer)) xs → AllByRecursion (λ x. same_name y x ≡ false) xs × AllByRecursion (λ x. Lacks x outer) xs
differs_each y t outer [] h = (tt, tt)
differs_each y t outer (x ∷ xs) h =
    let first = lacks_first x y t outer h.0 in
    let rest = differs_each y t outer xs h.1 in
    ((turned y x first.0, rest.0), (first.1, rest.1))

between : (outer own constants : NameShapes) → AreDistinct (outer ++ constants) → AreDistinct own → AllByRecursion (λ x. Lacks x outer) (declared_names own) → AllByRecursion (λ x. Lacks x constants) (declared_names own) → AreDistinct (outer ++ (own ++ constants))
unfolding IsDistinct
between [] own constants d e h g = before_constants own constants d e g
between ((y, t) ∷ outer) own constants d e h g =
    let each = differs_each y t outer (declared_names own) h in
    let first = first_all (λ x. same_name y x ≡ false) outer constants d.0 in
    let last = second_all (λ x. same_name y x ≡ false) outer constants d.0 in
    (both_all (λ x. same_name y x ≡ false) outer (own ++ constants) first (both_all (λ x. same_name y x ≡ false) own constants each.0 last), between outer own constants d.1 e each.1 g)

parts_new : (outer constants : NameShapes) (xs : List Name) → AreNew outer constants xs → AllByRecursion (λ x. Lacks x outer) xs × AllByRecursion (λ x. Lacks x constants) xs
parts_new outer constants [] h = (tt, tt)
parts_new outer constants (x ∷ xs) h = let rest = parts_new outer constants xs h.1 in ((h.0.0, rest.0), (h.0.1, rest.1))

pub new_differ_between : (outer constants names n : NameShapes) → new_or outer constants names ≡ table_is n → AreDistinct (outer ++ constants) → AreDistinct names → (names ≡ n) × AreDistinct (outer ++ (names ++ constants))
unfolding new_or
new_differ_between outer constants names n h d e = by_test (list_all (is_new outer constants) (declared_names names)) refl h
  where
    by_test : (b : Bool) → list_all (is_new outer constants) (declared_names names) ≡ b → (if b then table_is names else Err Twice) ≡ table_is n → (names ≡ n) × AreDistinct (outer ++ (names ++ constants))
    by_test true f h =
        let parts = parts_new outer constants (declared_names names) (all_new outer constants (declared_names names) f) in
        let same : names ≡ n = cc in
        (same, between outer names constants d e parts.0 parts.1)
    by_test false f h = absurd (cc)

-- of names that differ those in the middle are new
middle_new : (outer own constants : NameShapes) → AreDistinct (outer ++ (own ++ constants)) → AllByRecursion (λ x. Lacks x outer) (declared_names own)
unfolding IsDistinct
middle_new [] own constants d = none own
  where
    none : (own : NameShapes) → AllByRecursion (λ x. Lacks x []) (declared_names own)
    none [] = tt
    none (n ∷ own) = (refl, none own)
middle_new ((y, t) ∷ outer) own constants d =
    each (declared_names own) (first_all (λ x. same_name y x ≡ false) own constants (second_all (λ x. same_name y x ≡ false) outer (own ++ constants) d.0)) (middle_new outer own constants d.1)
  where
    each : (xs : List Name) → AllByRecursion (λ x. same_name y x ≡ false) xs → AllByRecursion (λ x. Lacks x outer) xs → AllByRecursion (λ x. Lacks x ((y, t) ∷ outer)) xs
    each [] h g = tt
    each (x ∷ xs) h g = (rw (turned x y h.0) g.0, each xs h.1 g.1)

front_new : (own constants : NameShapes) → AreDistinct (own ++ constants) → AllByRecursion (λ x. Lacks x constants) (declared_names own)
unfolding IsDistinct
front_new [] constants d = tt
front_new ((y, t) ∷ own) constants d =
    (differs_lacks y constants (second_all (λ x. same_name y x ≡ false) own constants d.0), front_new own constants d.1)

both_new : (outer constants : NameShapes) (xs : List Name) → AllByRecursion (λ x. Lacks x outer) xs → AllByRecursion (λ x. Lacks x constants) xs → AreNew outer constants xs
both_new outer constants [] h g = tt
both_new outer constants (x ∷ xs) h g = ((h.0, g.0), both_new outer constants xs h.1 g.1)

pub new_found : (outer constants names : NameShapes) → AreDistinct (outer ++ (names ++ constants)) → table_is names ≡ new_or outer constants names
unfolding new_or
new_found outer constants names d =
    let behind = second_differ outer (names ++ constants) d in
    rw (new_all outer constants (declared_names names) (both_new outer constants (declared_names names) (middle_new outer names constants d) (front_new names constants behind))) refl
