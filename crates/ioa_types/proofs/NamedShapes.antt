-- Types by their names, as the code finds them and declares them.
use Rattle.std.proofs.Common.{◌≡◌, ℕ, Bool, true, false, cond, List, [], ◌∷◌, ◌++◌, Some, None, Result, Ok, Err, refl, ap}
use Rattle.std.specs.Map.{lookup}
use Rattle.indexmap.specs.IndexMap.{insert_entry}
use Rattle.ioa_operators.specs.Shapes.{PlainShape}
use Rattle.ioa_terms.specs.declared.name.Name.TheVariants.{Word}
use Rattle.ioa_terms.specs.Bindings.{same_word}
use Rattle.ioa_terms.specs.Sorted.{NameShapes, shape_named}
use Rattle.ioa_refusals.specs.declared.refusal.Refusal.{Refusal}
use Rattle.ioa_refusals.specs.declared.refusal.Refusal.TheVariants.{Twice}
use Rattle.ioa_names.specs.NameTables.{with_name}
use Rattle.ioa_types.specs.TypeTables.{named_shapes}

-- the shape of a word is found by the word
pub found_word : (w : List ℕ) (ts : List (List ℕ × PlainShape)) → shape_named (Word w) (named_shapes ts) ≡ lookup (same_word w) ts
found_word w [] = refl
found_word w (t ∷ ts) = ap (λ o. cond (same_word w t.0) (Some t.1) o) (found_word w ts)

-- a word that is not there is put behind the others
abbrev new_behind : (w : List ℕ) (s : PlainShape) (ts : List (List ℕ × PlainShape)) → Type 0
new_behind w s ts = insert_entry same_word ts w s ≡ ts ++ (w, s) ∷ []

pub put_behind : (w : List ℕ) (s : PlainShape) (ts : List (List ℕ × PlainShape)) → lookup (same_word w) ts ≡ None → new_behind w s ts
put_behind w s [] h = refl
put_behind w s (t ∷ ts) h = by_test (put_behind w s ts) (same_word w t.0) h
  where
    by_test : (lookup (same_word w) ts ≡ None → new_behind w s ts) → (b : Bool) → cond b (Some t.1) (lookup (same_word w) ts) ≡ None → cond b ((t.0, s) ∷ ts) (t ∷ insert_entry same_word ts w s) ≡ t ∷ (ts ++ (w, s) ∷ [])
    by_test rest true e = absurd (cc)
    by_test rest false e = ap (λ more. t ∷ more) (rest e)

behind_named : (w : List ℕ) (s : PlainShape) (ts : List (List ℕ × PlainShape)) → named_shapes (ts ++ (w, s) ∷ []) ≡ named_shapes ts ++ (Word w, s) ∷ []
behind_named w s [] = refl
behind_named w s (t ∷ ts) = ap (λ more. (Word t.0, t.1) ∷ more) (behind_named w s ts)

abbrev table_is : NameShapes → Result NameShapes Refusal
table_is t = Ok t

abbrev twice : Result NameShapes Refusal
twice = Err Twice

-- a type of a new name is put behind the others
pub with_new : (w : List ℕ) (s : PlainShape) (ts us : List (List ℕ × PlainShape)) → lookup (same_word w) ts ≡ None → us ≡ insert_entry same_word ts w s → with_name (named_shapes ts) w s ≡ table_is (named_shapes us)
with_new w s ts us none put =
    rw (put, put_behind w s ts none, behind_named w s ts, found_word w ts, none) refl

-- one of a name that is there is refused
pub with_old : (w : List ℕ) (s t : PlainShape) (ts : List (List ℕ × PlainShape)) → lookup (same_word w) ts ≡ Some t → with_name (named_shapes ts) w s ≡ twice
with_old w s t ts there = rw (found_word w ts, there) refl

pub ruleset found_by_word = (found_word)
