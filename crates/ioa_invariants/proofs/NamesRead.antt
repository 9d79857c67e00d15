-- The names that are read one after another are the names of the term, each once.
use Rattle.std.proofs.Common.{◌≡◌, Bool, true, false, ◌||◌, if◌then◌else◌, List, [], ◌∷◌, ◌++◌, Result, Ok, Err, refl, sym, ap, ◌∙◌}
use Rattle.ioa_values.specs.Outcome.{and_then}
use Rattle.ioa_terms.specs.declared.name.Name.{Name}
use Rattle.ioa_terms.specs.declared.name.Name.TheVariants.{Word, Variable, Queue}
use Rattle.ioa_terms.specs.PlainTerm.{number, truth, name, one, two, call, display, field, no_terms, term}
use Rattle.ioa_source.specs.Sides.{SourceTerm, SourceTerms}
use Rattle.ioa_refusals.specs.declared.refusal.Refusal.{Refusal}
use Rattle.ioa_refusals.specs.declared.refusal.Refusal.TheVariants.{Sorts}
use Rattle.ioa_invariants.specs.ReadNames.{reading_in, names_in, all_names_in, with_new, with_all_new, is_queue, calls_queue, call_queue, read_name, read_in, read_all_in}

-- names, if no call of `queue` is left
abbrev pub read_or : Bool → List Name → Result (List Name) Refusal
read_or left ns = if left then Err Sorts else Ok ns

with_both : (ns xs ys : List Name) → with_all_new ns (xs ++ ys) ≡ with_all_new (with_all_new ns xs) ys
with_both ns [] ys = refl
with_both ns (x ∷ xs) ys = with_both (with_new ns x) xs ys

one_read : (ns : List Name) (x : Name) → read_name ns x ≡ with_all_new ns (reading_in x)
one_read ns (Word w) = refl
one_read ns (Variable x k) = refl
one_read ns (Queue i j) = refl

then_read : (b c : Bool) (ms ks : List Name) (f : List Name → Result (List Name) Refusal) → f ms ≡ read_or c ks → and_then (read_or b ms) f ≡ read_or (b || c) ks
then_read true c ms ks f h = refl
then_read false c ms ks f h = h

tested : (b c : Bool) (ks : List Name) (r : Result (List Name) Refusal) → r ≡ read_or c ks → (if b then Err Sorts else r) ≡ read_or (b || c) ks
tested true c ks r h = refl
tested false c ks r h = h

mutual
  pub read_is : (ns : List Name) (t : SourceTerm) → read_in ns t ≡ read_or (calls_queue t) (with_all_new ns (names_in t))
  read_is ns (number n) = refl
  read_is ns (truth b) = refl
  read_is ns (name x at) = ap (read_or false) (one_read ns x)
  read_is ns (one op a) = read_is ns a
  read_is ns (two op a b) =
      ap (λ r. and_then r (λ ms. read_in ms b)) (read_is ns a)
      ∙ then_read (calls_queue a) (calls_queue b) (with_all_new ns (names_in a)) (with_all_new ns (names_in a ++ names_in b)) (λ ms. read_in ms b)
      (read_is (with_all_new ns (names_in a)) b ∙ ap (read_or (calls_queue b)) (sym (with_both ns (names_in a) (names_in b))))
  read_is ns (call w c ts) = tested (is_queue w) (call_queue ts) (with_all_new ns (all_names_in ts)) (read_all_in ns ts) (all_read ns ts)
  read_is ns (display form d ts) = all_read ns ts
  read_is ns (field a w d) = read_is ns a

  all_read : (ns : List Name) (ts : SourceTerms) → read_all_in ns ts ≡ read_or (call_queue ts) (with_all_new ns (all_names_in ts))
  all_read ns no_terms = refl
  all_read ns (term t more) =
      ap (λ r. and_then r (λ ms. read_all_in ms more)) (read_is ns t)
      ∙ then_read (calls_queue t) (call_queue more) (with_all_new ns (names_in t)) (with_all_new ns (names_in t ++ all_names_in more)) (λ ms. read_all_in ms more)
      (all_read (with_all_new ns (names_in t)) more ∙ ap (read_or (call_queue more)) (sym (with_both ns (names_in t) (all_names_in more))))
