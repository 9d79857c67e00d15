-- Tables of types, as the code keeps them.
use Rattle.std.proofs.Common.{◌≡◌, ◌+◌, ℕ, suc, Bool, true, false, not, ◌||◌, if◌then◌else◌, MatchBool, List, [], ◌∷◌, ◌++◌, Option, Some, None, Result, Ok, Err, map, length, slice_get, refl, ◌∙◌, ap, arith}
use Rattle.std.specs.List.{zip, list_any}
use Rattle.std.specs.Option.{option_map, option_and_then}
use Rattle.ioa_operators.specs.Shapes.{PlainShape}
use Rattle.ioa_terms.specs.declared.name.Name.{Name}
use Rattle.ioa_terms.specs.declared.name.Name.TheVariants.{Word}
use Rattle.ioa_terms.specs.Bindings.{same_name, same_word, slot_in}
use Rattle.ioa_terms.specs.Sorted.{NameShapes, shape_named}
use Rattle.ioa_refusals.specs.declared.refusal.Refusal.{Refusal}
use Rattle.ioa_refusals.specs.declared.refusal.Refusal.TheVariants.{Twice}
use Rattle.ioa_names.specs.NameTables.{declared_names, named_newly, with_name, words}

-- no shapes
abbrev nothing : List PlainShape
nothing = []

none_at : (o : Option ℕ) → None ≡ option_and_then (slice_get nothing) o
none_at None = refl
none_at (Some k) = refl

later : (s : PlainShape) (ss : List PlainShape) (o : Option ℕ) → option_and_then (slice_get ss) o ≡ option_and_then (slice_get (s ∷ ss)) (option_map (λ k. k + 1) o)
later s ss None = refl
later s ss (Some k) = let e : k + 1 ≡ suc k = omega arith in rw e refl

pub named_zip : (x : Name) (ns : List Name) (ss : List PlainShape) → shape_named x (zip ns ss) ≡ option_and_then (slice_get ss) (slot_in x ns)
named_zip x [] ss = refl
named_zip x (n ∷ ns) [] = none_at (slot_in x (n ∷ ns))
named_zip x (n ∷ ns) (s ∷ ss) = by_test (named_zip x ns ss ∙ later s ss (slot_in x ns)) (same_name x n)
  where
    by_test : shape_named x (zip ns ss) ≡ option_and_then (slice_get (s ∷ ss)) (option_map (λ k. k + 1) (slot_in x ns)) → (b : Bool) → (if b then Some s else shape_named x (zip ns ss)) ≡ option_and_then (slice_get (s ∷ ss)) (if b then Some 0 else option_map (λ k. k + 1) (slot_in x ns))
    by_test rest true = refl
    by_test rest false = rest

-- one more name with its shape
more_zip : (ns : List (List ℕ)) (ss : List PlainShape) (w : List ℕ) (s : PlainShape) → length ns ≡ length ss → zip (map Word (ns ++ w ∷ [])) (ss ++ s ∷ []) ≡ zip (map Word ns) ss ++ (Word w, s) ∷ []
more_zip [] [] w s h = refl
more_zip [] (x ∷ ss) w s h = absurd (omega arith)
more_zip (n ∷ ns) [] w s h = absurd (omega arith)
more_zip (n ∷ ns) (x ∷ ss) w s h = ap (λ more. (Word n, x) ∷ more) (more_zip ns ss w s (omega arith))

-- the names of such a table
pub words_zip : (ns : List (List ℕ)) (ss : List PlainShape) → length ns ≡ length ss → ns ≡ words (zip (map Word ns) ss)
words_zip [] ss h = refl
words_zip (n ∷ ns) [] h = absurd (omega arith)
words_zip (n ∷ ns) (s ∷ ss) h = ap (λ more. n ∷ more) (words_zip ns ss (omega arith))

-- each name of such a table is a word
pub named_by_words : (ns : List (List ℕ)) (ss : List PlainShape) → length ns ≡ length ss → declared_names (zip (map Word ns) ss) ≡ map Word (words (zip (map Word ns) ss))
named_by_words [] ss h = refl
named_by_words (n ∷ ns) [] h = absurd (omega arith)
named_by_words (n ∷ ns) (s ∷ ss) h = ap (λ more. Word n ∷ more) (named_by_words ns ss (omega arith))

-- and their number
pub many_zip : (ns : List (List ℕ)) (ss : List PlainShape) → length ns ≡ length ss → length ss ≡ length (zip (map Word ns) ss)
many_zip [] [] h = refl
many_zip [] (s ∷ ss) h = absurd (omega arith)
many_zip (n ∷ ns) [] h = absurd (omega arith)
many_zip (n ∷ ns) (s ∷ ss) h = ap suc (many_zip ns ss (omega arith))

-- the same of a table of any names
pub names_zip : (ns : List Name) (ss : List PlainShape) → length ns ≡ length ss → ns ≡ declared_names (zip ns ss)
names_zip [] ss h = refl
names_zip (n ∷ ns) [] h = absurd (omega arith)
names_zip (n ∷ ns) (s ∷ ss) h = ap (λ more. n ∷ more) (names_zip ns ss (omega arith))

pub many_named : (ns : List Name) (ss : List PlainShape) → length ns ≡ length ss → length ss ≡ length (zip ns ss)
many_named [] [] h = refl
many_named [] (s ∷ ss) h = absurd (omega arith)
many_named (n ∷ ns) [] h = absurd (omega arith)
many_named (n ∷ ns) (s ∷ ss) h = ap suc (many_named ns ss (omega arith))

-- a name that is not among the names has no shape, and one that is has a shape
abbrev IsNamedIf : Bool → Option PlainShape → Type 0
IsNamedIf true o = (s : PlainShape) × (o ≡ Some s)
IsNamedIf false o = o ≡ None

among : (w : List ℕ) (ns : List (List ℕ)) (ss : List PlainShape) → length ns ≡ length ss → IsNamedIf (list_any (same_word w) ns) (shape_named (Word w) (zip (map Word ns) ss))
among w [] [] h = refl
among w [] (s ∷ ss) h = absurd (omega arith)
among w (n ∷ ns) [] h = absurd (omega arith)
among w (n ∷ ns) (s ∷ ss) h = by_test (same_word w n) (among w ns ss (omega arith))
  where
    by_test : (b : Bool) → IsNamedIf (list_any (same_word w) ns) (shape_named (Word w) (zip (map Word ns) ss)) → IsNamedIf (b || list_any (same_word w) ns) (if b then Some s else shape_named (Word w) (zip (map Word ns) ss))
    by_test true rest = (s, refl)
    by_test false rest = rest

abbrev pub table_is : NameShapes → Result NameShapes Refusal
table_is t = Ok t

-- a type of a new name is put behind the others
pub with_new : (w : List ℕ) (s : PlainShape) (ns ms : List (List ℕ)) (ss ts : List PlainShape) (fresh : Bool) → length ns ≡ length ss → fresh ≡ true → fresh ≡ not (list_any (same_word w) ns) → MatchBool fresh (ms ≡ ns ++ w ∷ []) (ms ≡ ns) → ts ≡ ss ++ s ∷ [] → with_name (zip (map Word ns) ss) w s ≡ table_is (zip (map Word ms) ts)
with_new w s ns ms ss ts true many is new added pushed = rw (added, pushed, more_zip ns ss w s many) (by_found (list_any (same_word w) ns) new (among w ns ss many))
  where
    by_found : (b : Bool) → true ≡ not b → IsNamedIf b (shape_named (Word w) (zip (map Word ns) ss)) → named_newly (zip (map Word ns) ss) (Word w) s (shape_named (Word w) (zip (map Word ns) ss)) ≡ table_is (zip (map Word ns) ss ++ (Word w, s) ∷ [])
    by_found true e h = absurd (cc)
    by_found false e h = rw h refl
with_new w s ns ms ss ts false many is new added pushed = absurd (cc)

-- one of a name that is there is refused
abbrev pub twice : Result NameShapes Refusal
twice = Err Twice

pub with_old : (w : List ℕ) (s : PlainShape) (ns : List (List ℕ)) (ss : List PlainShape) (fresh : Bool) → length ns ≡ length ss → fresh ≡ false → fresh ≡ not (list_any (same_word w) ns) → with_name (zip (map Word ns) ss) w s ≡ twice
with_old w s ns ss true many is new = absurd (cc)
with_old w s ns ss false many is new = by_found (list_any (same_word w) ns) new (among w ns ss many)
  where
    by_found : (b : Bool) → false ≡ not b → IsNamedIf b (shape_named (Word w) (zip (map Word ns) ss)) → named_newly (zip (map Word ns) ss) (Word w) s (shape_named (Word w) (zip (map Word ns) ss)) ≡ twice
    by_found true e h = rw h.1 refl
    by_found false e h = absurd (cc)
