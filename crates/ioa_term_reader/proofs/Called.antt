-- A word with terms in brackets behind it is the name of a queue or a call: it is as high as the call, and is printed
-- as the call is.
use Rattle.std.proofs.Common.{◌≡◌, ◌≢◌, ℕ, suc, ℤ, Bool, true, false, List, [], ◌∷◌, length, map, None, if◌then◌else◌, refl}
use Rattle.std.proofs.lemmas.Slice.Eq.{bytes_eq-Decides}
use Rattle.ioa_terms.specs.declared.name.Name.TheVariants.{Queue}
use Rattle.ioa_terms.specs.PlainTerm as plain
use Rattle.ioa_terms.specs.PlainTerm.{no_terms, term, terms_of}
use Rattle.ioa_source.specs.Sides.{SourceTerm, SourceTerms}
use Rattle.ioa_source.specs.Heights.{height, heights}
use Rattle.ioa_term_reader.specs.Grammar.{queue_word, is_queue_word, both_numbers, two_numbers, queue_or_call, called}
use Rattle.ioa_term_reader.specs.Spelling.{is_operation, spelling}

-- two numbers as terms
abbrev numbers : ℤ → ℤ → SourceTerms
numbers i j = term (plain.number i) (term (plain.number j) no_terms)

-- terms that are not two are no two numbers
pub no_two_numbers : {A : Type 0} (f : A → SourceTerm) (xs : List A) → length xs ≢ 2 → two_numbers (terms_of (map f xs)) ≡ None
no_two_numbers f [] other = refl
no_two_numbers f (x ∷ []) other = refl
no_two_numbers f (x ∷ y ∷ []) other = absurd (other refl)
no_two_numbers f (x ∷ y ∷ z ∷ xs) other = refl

by_both : (P : SourceTerm → Type 0) (w : List ℕ) (ts : SourceTerms) (t u : SourceTerm) → P (plain.call w tt ts) →
    ((i j : ℤ) → t ≡ plain.number i → u ≡ plain.number j → P (plain.name (Queue i j) tt)) → P (queue_or_call w ts (both_numbers t u))
by_both P w ts (plain.number i) (plain.number j) is_call is_name = is_name i j refl refl
by_both P w ts t u is_call is_name = is_call

by_numbers : (P : SourceTerm → Type 0) (w : List ℕ) (ts : SourceTerms) → P (plain.call w tt ts) →
    ((i j : ℤ) → ts ≡ numbers i j → P (plain.name (Queue i j) tt)) → P (queue_or_call w ts (two_numbers ts))
by_numbers P w (term t (term u no_terms)) is_call is_name = by_both P w (term t (term u no_terms)) t u is_call (λ i j first second. is_name i j (rw (first, second) refl))
by_numbers P w ts is_call is_name = is_call

-- what holds of a call and of the names of queues that are spelled so
pub called_cases : (P : SourceTerm → Type 0) (w : List ℕ) (ts : SourceTerms) → P (plain.call w tt ts) →
    ((i j : ℤ) → w ≡ queue_word → ts ≡ numbers i j → P (plain.name (Queue i j) tt)) → P (called w ts)
unfolding called
called_cases P w ts is_call is_name = by_word (is_queue_word w) refl
  where
    by_word : (b : Bool) → is_queue_word w ≡ b → P (if b then queue_or_call w ts (two_numbers ts) else plain.call w tt ts)
    by_word true same = by_numbers P w ts is_call (λ i j two. is_name i j ((bytes_eq-Decides w queue_word).0 same) two)
    by_word false other = is_call

pub called_height : (w : List ℕ) (ts : SourceTerms) → height (called w ts) ≡ suc (heights ts)
called_height w ts = called_cases (λ t. height t ≡ suc (heights ts)) w ts refl (λ i j word two. rw two refl)

pub called_plain : (w : List ℕ) (ts : SourceTerms) → is_operation (called w ts) ≡ false
called_plain w ts = called_cases (λ t. is_operation t ≡ false) w ts refl (λ i j word two. refl)

pub called_spelling : (w : List ℕ) (ts : SourceTerms) → spelling (called w ts) ≡ spelling (plain.call w tt ts)
called_spelling w ts = called_cases (λ t. spelling t ≡ spelling (plain.call w tt ts)) w ts refl (λ i j word two. rw (word, two) refl)
