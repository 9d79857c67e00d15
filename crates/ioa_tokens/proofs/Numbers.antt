-- The value of digits only grows with more of them.
use Rattle.std.proofs.Common.{◌≡◌, ℕ, ◌<◌, ◌≤◌, ◌+◌, ◌*◌, ◌-◌, List, [], ◌∷◌, ◌++◌, length, take, drop, get_or, arith, sym, ap, refl, ◌∙◌}
use Rattle.std.specs.Char.{digit_value, IsAsciiDigit}
use Rattle.std.specs.Str.Parse.{digits_value, digits_value_after}
use Rattle.std.proofs.lemmas.Int.Digits.{digits_value_more}
use Rattle.std.proofs.lemmas.List.{take-append-drop}
use Rattle.std.proofs.lemmas.Bool.Decides.{nat_tests}

-- a digit's value
pub digit_value_is : (c : ℕ) → IsAsciiDigit c → digit_value c ≡ c - 48
digit_value_is c digit = grind (arith, nat_tests, digit)

-- digits leave a value no less than the one before them
digits_value_after-ge : (ds : List ℕ) (n : ℕ) → n ≤ digits_value_after 10 n ds
digits_value_after-ge [] n = omega arith
digits_value_after-ge (d ∷ ds) n = omega (arith, digits_value_after-ge ds (n * 10 + digit_value d))

-- digits and more digits
digits_value_after-append : (xs ys : List ℕ) (n : ℕ) → digits_value_after 10 n (xs ++ ys) ≡ digits_value_after 10 (digits_value_after 10 n xs) ys
digits_value_after-append [] ys n = refl
digits_value_after-append (x ∷ xs) ys n = digits_value_after-append xs ys (n * 10 + digit_value x)

-- a front of digits has no greater value
digits_value-take : (n : ℕ) (ds : List ℕ) → digits_value 10 (take n ds) ≤ digits_value 10 ds
digits_value-take n ds =
    let joined : digits_value 10 ds ≡ digits_value_after 10 (digits_value 10 (take n ds)) (drop n ds) = ap (digits_value 10) (sym (take-append-drop n ds)) ∙ digits_value_after-append (take n ds) (drop n ds) 0 in
    omega (arith, digits_value_after-ge (drop n ds) (digits_value 10 (take n ds)))

-- one more digit
pub digits_value_next : (ds : List ℕ) (i : ℕ) → i < length ds → IsAsciiDigit (get_or ds i 0) → digits_value 10 (take (i + 1) ds) ≡ 10 * digits_value 10 (take i ds) + (get_or ds i 0 - 48)
digits_value_next ds i within digit = omega (arith, digits_value_more 10 ds i within, digit_value_is (get_or ds i 0) digit)

-- and the value of all is no less
pub digits_value_least : (ds : List ℕ) (i : ℕ) → i < length ds → IsAsciiDigit (get_or ds i 0) → 10 * digits_value 10 (take i ds) + (get_or ds i 0 - 48) ≤ digits_value 10 ds
digits_value_least ds i within digit = omega (arith, digits_value_next ds i within digit, digits_value-take (i + 1) ds)
