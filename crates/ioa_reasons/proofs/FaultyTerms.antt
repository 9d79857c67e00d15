-- A term that has no value.
use Rattle.std.proofs.Common.{◌≡◌, ℕ, Bool, true, false, if◌then◌else◌, Option, Some, None, refl, subst}
use Rattle.std.specs.Option.{option_or}
use Rattle.ioa_operators.specs.declared.shape.Shape.{Shape}
use Rattle.ioa_terms.specs.Bindings.{Bindings}
use Rattle.ioa_terms.specs.Meaning.{answer}
use Rattle.ioa_terms.specs.PlainTerm as plain
use Rattle.ioa_terms.specs.PlainTerm.{PlainTerms, name, one, two, call, display, field, no_terms, term}
use Rattle.ioa_terms.specs.declared.callee.Callee.{Callee}
use Rattle.ioa_source.specs.Sides.{CheckedTerm}
use Rattle.ioa_reasons.specs.Faulty.{faulty_part, faulty_within, first_faulty, if_faulty, is_fault}

-- it is the part, unless something within it is
pub within_is : (t : CheckedTerm) (e : Bindings) → if_faulty t e (faulty_within t e) ≡ faulty_part t e
within_is (plain.number n) e = refl
within_is (plain.truth b) e = refl
within_is (name x at) e = refl
within_is (one op a) e = refl
within_is (two op a b) e = refl
within_is (call w c ts) e = refl
within_is (display form d ts) e = refl
within_is (field a w d) e = refl

-- the part that is found has no value
by_answer : (b : Bool) (t u : CheckedTerm) (e : Bindings) (part : Option CheckedTerm) → is_fault (answer t e) ≡ b → (part ≡ Some u → is_fault (answer u e) ≡ true) →
    (if b then option_or part (Some t) else None) ≡ Some u → is_fault (answer u e) ≡ true
by_answer true t u e None h f g = let same : t ≡ u = cc in subst (λ (x : CheckedTerm). is_fault (answer x e) ≡ true) same h
by_answer true t u e (Some p) h f g = f g
by_answer false t u e part h f g = absurd (cc)

here : (t u : CheckedTerm) (e : Bindings) (part : Option CheckedTerm) → (part ≡ Some u → is_fault (answer u e) ≡ true) → if_faulty t e part ≡ Some u → is_fault (answer u e) ≡ true
here t u e part f g = by_answer (is_fault (answer t e)) t u e part refl f g

nothing : (u : CheckedTerm) (e : Bindings) → None ≡ Some u → is_fault (answer u e) ≡ true
nothing u e h = absurd (cc)

one_of : (a b : Option CheckedTerm) (u : CheckedTerm) (e : Bindings) → (a ≡ Some u → is_fault (answer u e) ≡ true) → (b ≡ Some u → is_fault (answer u e) ≡ true) → option_or a b ≡ Some u → is_fault (answer u e) ≡ true
one_of None b u e f g h = g h
one_of (Some t) b u e f g h = f h

mutual
  pub part_is_faulty : (t u : CheckedTerm) (e : Bindings) → faulty_part t e ≡ Some u → is_fault (answer u e) ≡ true
  part_is_faulty (plain.number n) u e h = here (plain.number n) u e None (nothing u e) h
  part_is_faulty (plain.truth b) u e h = here (plain.truth b) u e None (nothing u e) h
  part_is_faulty (name x at) u e h = here (name x at) u e None (nothing u e) h
  part_is_faulty (one op a) u e h = here (one op a) u e (faulty_part a e) (λ g. part_is_faulty a u e g) h
  part_is_faulty (two op a b) u e h = here (two op a b) u e (option_or (faulty_part a e) (faulty_part b e)) (one_of (faulty_part a e) (faulty_part b e) u e (λ g. part_is_faulty a u e g) (λ g. part_is_faulty b u e g)) h
  part_is_faulty (call w c ts) u e h = here (call w c ts) u e (first_faulty ts e) (λ g. first_is_faulty ts u e g) h
  part_is_faulty (display form d ts) u e h = here (display form d ts) u e (first_faulty ts e) (λ g. first_is_faulty ts u e g) h
  part_is_faulty (field a w d) u e h = here (field a w d) u e (faulty_part a e) (λ g. part_is_faulty a u e g) h

  first_is_faulty : (ts : PlainTerms ℕ Callee Shape) (u : CheckedTerm) (e : Bindings) → first_faulty ts e ≡ Some u → is_fault (answer u e) ≡ true
  first_is_faulty no_terms u e h = absurd (cc)
  first_is_faulty (term t more) u e h = one_of (faulty_part t e) (first_faulty more e) u e (λ g. part_is_faulty t u e g) (λ g. first_is_faulty more u e g) h
