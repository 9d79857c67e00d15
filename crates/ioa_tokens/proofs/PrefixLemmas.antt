-- The longest front of a text whose characters pass a test.
use Rattle.std.proofs.Common.{◌≡◌, ℕ, ◌<◌, Bool, true, List, get_or, get_or-take, subst, sym, arith}
use Rattle.std.specs.Prelude.{All}
use Rattle.std.specs.List.{prefix_len, take_while}
use Rattle.std.specs.Char.{is_ascii_digit, IsAsciiDigit}
use Rattle.std.proofs.lemmas.List.Sums.{prefix_len_passes, prefix_len-le-length}
use Rattle.std.proofs.lemmas.List.Folds.{length-prefix_len}
use Rattle.std.proofs.lemmas.Bool.Decides.{nat_tests}
use Rattle.std.proofs.lemmas.List.{length-drop}
use Rattle.ioa_tokens.specs.Lexeme.{is_in_word}

-- what follows from the test holds of each character of the front
All-take_while : {X : Type 0} (P : X → Type 0) (p : X → Bool) (xs : List X) → ((x : X) → p x ≡ true → P x) → All P (take_while p xs)
All-take_while P p xs says = λ k d within.
    let below : k < prefix_len p xs = rw length-prefix_len at within in
    subst P (sym (get_or-take (prefix_len p xs) xs k d below)) (says (get_or xs k d) (prefix_len_passes p xs k d below))

-- the characters of a word are ASCII
pub All-is_in_word : (text : List ℕ) → All (λ c. c < 128) (take_while is_in_word text)
All-is_in_word text = All-take_while (λ c. c < 128) is_in_word text (λ c passes. grind (arith, nat_tests))

-- the characters of a number are digits
pub All-is_ascii_digit : (text : List ℕ) → All IsAsciiDigit (take_while is_ascii_digit text)
All-is_ascii_digit text = All-take_while IsAsciiDigit is_ascii_digit text (λ c passes. grind (arith, nat_tests))

-- what the code's fronts need
pub ruleset prefix_lemmas = (All-is_in_word, All-is_ascii_digit, prefix_len-le-length, length-drop)
