-- The digits of the amount of the least number, told by their last digit and by those before it.
use Rattle.std.proofs.Common.{◌≡◌, ℕ, ◌<◌, ◌≤◌, ◌+◌, ◌*◌, ◌-◌, ℤ, pos, nat_eq, List, [], ◌∷◌, ◌++◌, Option, Some, None, SomeIff, arith, int_eq, All, length, get_or, length-append}
use Rattle.std.specs.Char.{IsAsciiDigit}
use Rattle.std.specs.Option.{option_eq}
use Rattle.std.specs.Str.Parse.{digits_value}
use Rattle.std.proofs.lemmas.Bool.Decides.{nat_tests, same_from_decides, Decides-like, Decides-eqb, Decides-int_eq}
use Rattle.std.proofs.lemmas.Int.Digits.{digits_value_push}
use Rattle.std.proofs.Math.Seq.{get_or-append_seam}
use Rattle.ioa_tokens.specs.Lexeme.{greatest_number}
use Rattle.ioa_tokens.specs.LineTokens.{is_least_amount}
use Rattle.ioa_tokens.proofs.Numbers.{digit_value_is}

-- one more digit at the end
value_behind : (front : List ℕ) (last : ℕ) → IsAsciiDigit last → digits_value 10 (front ++ last ∷ []) ≡ 10 * digits_value 10 front + (last - 48)
value_behind front last digit = omega (arith, digits_value_push 10 front last, digit_value_is last digit)

-- the last digit is an 8, and those before it are told by their value, if they have one
pub least_by_front : (front : List ℕ) (last : ℕ) (found : Option ℤ) → last ≡ 56 → SomeIff found (digits_value 10 front ≤ greatest_number) (pos (digits_value 10 front)) → option_eq int_eq found (Some (pos 922337203685477580)) ≡ is_least_amount (front ++ last ∷ [])
least_by_front front last (Some z) eight is =
    let value = value_behind front last (omega arith, omega arith) in
    let v = digits_value 10 front in
    same_from_decides _ _ (Decides-int_eq z (pos 922337203685477580))
    (Decides-like _ (λ same. let w : v ≡ 922337203685477580 = omega arith in let whole : pos v ≡ pos 922337203685477580 = cc in cc) (λ same. let whole : pos v ≡ pos 922337203685477580 = cc in let w : v ≡ 922337203685477580 = cc in omega arith) (Decides-eqb (digits_value 10 (front ++ last ∷ [])) (greatest_number + 1)))
least_by_front front last None eight is =
    let value = value_behind front last (omega arith, omega arith) in
    let v = digits_value 10 front in
    let above : greatest_number < v = omega (arith, is) in
    grind (arith, nat_tests)

-- the last digit is another one
pub not_least : (front : List ℕ) (last : ℕ) → IsAsciiDigit last → (last ≡ 56 → ⊥) → nat_eq last 56 ≡ is_least_amount (front ++ last ∷ [])
not_least front last digit other =
    let value = value_behind front last digit in
    grind (arith, nat_tests)

-- the last of some digits is a digit
pub last_is_digit : (front : List ℕ) (last : ℕ) (digits : List ℕ) → digits ≡ front ++ last ∷ [] → All IsAsciiDigit digits → IsAsciiDigit last
last_is_digit front last digits is all =
    let seam : get_or (front ++ last ∷ []) (length front) 0 ≡ last = get_or-append_seam front last [] 0 in
    let here : get_or digits (length front) 0 ≡ last = rw is seam in
    let within : length front < length digits = rw (is, length-append front (last ∷ [])) (omega arith) in
    rw here at (all (length front) 0 within)
