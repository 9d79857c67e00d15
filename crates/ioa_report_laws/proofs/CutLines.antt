-- What the check of schedules takes out of a report is the lines of its schedule, without the last line feed.
use Rattle.std.proofs.Common.{◌≡◌, ◌≤◌, ◌<◌, ◌+◌, ◌^◌, ◌==◌, ℕ, zero, suc, Bool, true, false, not, ◌&&◌, if◌then◌else◌, true≢false, List, [], ◌∷◌, ◌++◌, Some, Ok, codes, decimal, length, take, drop, inl, inr, refl, sym, ap, subst, ◌∙◌, append_assoc, append-nil, arith}
use Rattle.std.specs.Prelude.{◌⊎◌}
use Rattle.std.specs.Char.{is_ascii_digit}
use Rattle.std.specs.List.{AllByRecursion, after_first, list_all, position_or_len, slice_split}
use Rattle.std.proofs.lemmas.Bool.{and_parts}
use Rattle.std.proofs.lemmas.Bool.Decides.{nat_tests}
use Rattle.std.proofs.lemmas.Fmt.{decimal_is_IsNumeral}
use Rattle.std.proofs.lemmas.List.Elements.{All-from_recursion}
use Rattle.std.proofs.lemmas.List.Splits.{slice_split_at, slice_split_none}
use Rattle.ioa_streams.specs.ScheduleParts.{before_end, begins_with_digit, behind_first_line, end_from, end_in, schedule_part, up_to}
use Rattle.ioa_tokens.specs.Lexeme.{greatest_number}
use Rattle.ioa_tokens.proofs.Lexemes.{digits_by_code}
use Rattle.ioa_actions.specs.ActionText.{entry_text}
use Rattle.ioa_system.specs.Systems.{SystemParts}
use Rattle.ioa_transitions.specs.Entries.{PlainEntry}
use Rattle.ioa_lines.specs.Lines.{Lines, blank, entry_line, no_line}
use Rattle.ioa_monitor.specs.Reports.{entry_lines, schedule_text}
use Rattle.ioa_printed_lines.specs.TextSystems.{IsTextSystem, MayTake}
use Rattle.ioa_printed_lines.proofs.LineFeeds.{IsOneLine, decimal_line, joined_line}
use Rattle.ioa_printed_lines.proofs.LinesRead.{empty_cut, line_of, line_of_entry, line_read, one_more}
use Rattle.ioa_report_laws.proofs.LineTexts.{tested_line}

-- the lines of entries, with line feeds between them
cut_lines : List (List ℕ) → ℕ → List PlainEntry → List ℕ
cut_lines names k [] = []
cut_lines names k (e ∷ []) = line_of names k e
cut_lines names k (e ∷ f ∷ more) = line_of names k e ++ 10 ∷ cut_lines names (k + 1) (f ∷ more)

-- and one behind them
fed : (names : List (List ℕ)) (k : ℕ) (e : PlainEntry) (more : List PlainEntry) → entry_lines names k (e ∷ more) ≡ cut_lines names k (e ∷ more) ++ 10 ∷ []
unfolding cut_lines
fed names k e [] = one_more names k e []
fed names k e (f ∷ more) =
    one_more names k e (entry_lines names (k + 1) (f ∷ more))
    ∙ ap (λ (l : List ℕ). line_of names k e ++ 10 ∷ l) (fed names (k + 1) f more)
    ∙ sym (append_assoc (line_of names k e) (10 ∷ cut_lines names (k + 1) (f ∷ more)) (10 ∷ []))

-- each of its line feeds stands before a digit
abbrev FeedsBeforeDigits : List ℕ → Type 0
FeedsBeforeDigits [] = Unit {0}
FeedsBeforeDigits (c ∷ more) = ((c == 10) ≡ false ⊎ begins_with_digit more ≡ true) × FeedsBeforeDigits more

one_line_feeds : (line behind : List ℕ) → IsOneLine line → FeedsBeforeDigits behind → FeedsBeforeDigits (line ++ behind)
one_line_feeds [] behind one h = h
one_line_feeds (c ∷ line) behind one h = (inl one.0, one_line_feeds line behind one.1 h)

-- a number begins with a digit
digit_first : (c : ℕ) (more : List ℕ) → is_ascii_digit c ≡ true → begins_with_digit (c ∷ more) ≡ true
digit_first c more is = grind (arith, nat_tests)

digits_first : (ds more : List ℕ) → 0 < length ds → list_all is_ascii_digit ds ≡ true → begins_with_digit (ds ++ more) ≡ true
digits_first [] more some all = absurd (omega (arith, some))
digits_first (d ∷ ds) more some all = digit_first d (ds ++ more) (and_parts (is_ascii_digit d) (list_all is_ascii_digit ds) all).0

number_first : (n : ℕ) (more : List ℕ) → n < 2 ^ 64 → begins_with_digit (decimal n ++ more) ≡ true
number_first n more small =
    let numeral = decimal_is_IsNumeral n small in
    digits_first (decimal n) more numeral.0.0 (digits_by_code (decimal n) numeral.0.1)

front_digit : (xs ys : List ℕ) → begins_with_digit (xs ++ 10 ∷ []) ≡ true → begins_with_digit (xs ++ ys) ≡ true
front_digit [] ys h = absurd (true≢false (sym h))
front_digit (x ∷ xs) ys h = h

line_first : (names : List (List ℕ)) (k : ℕ) (e : PlainEntry) (more : List ℕ) → k ≤ greatest_number → begins_with_digit (line_of names k e ++ more) ≡ true
line_first names k e more low =
    let number : begins_with_digit ((decimal k ++ (codes " " ++ (entry_text names e.action e.chosen ++ codes "\n"))) ++ []) ≡ true =
    rw (append_assoc (decimal k) (codes " " ++ (entry_text names e.action e.chosen ++ codes "\n")) []) (number_first k _ (omega (arith, low))) in
    front_digit (line_of names k e) more (subst (λ (l : List ℕ). begins_with_digit l ≡ true) (one_more names k e []) number)

lines_first : (names : List (List ℕ)) (k : ℕ) (e : PlainEntry) (es : List PlainEntry) (more : List ℕ) → k ≤ greatest_number → begins_with_digit (cut_lines names k (e ∷ es) ++ more) ≡ true
unfolding cut_lines
lines_first names k e [] more low = line_first names k e more low
lines_first names k e (f ∷ es) more low = rw (append_assoc (line_of names k e) (10 ∷ cut_lines names (k + 1) (f ∷ es)) more) (line_first names k e _ low)

-- all lines
module _ (s : SystemParts) (is : IsTextSystem s) where
  lines_feed : (k : ℕ) (es : List PlainEntry) → AllByRecursion (MayTake s) es → k + length es ≤ greatest_number → FeedsBeforeDigits (cut_lines s.names k es)
  unfolding cut_lines
  lines_feed k [] may low = tt
  lines_feed k (e ∷ []) may low =
      rw (← append-nil (line_of s.names k e)) (one_line_feeds (line_of s.names k e) [] (line_of_entry s k e is (omega (arith, low)) may.0) tt)
  lines_feed k (e ∷ f ∷ more) may low =
      let next : begins_with_digit (cut_lines s.names (k + 1) (f ∷ more)) ≡ true = rw (← append-nil (cut_lines s.names (k + 1) (f ∷ more))) (lines_first s.names (k + 1) f more [] (omega (arith, low))) in
      one_line_feeds (line_of s.names k e) (10 ∷ cut_lines s.names (k + 1) (f ∷ more)) (line_of_entry s k e is (omega (arith, low)) may.0) (inr next, lines_feed (k + 1) (f ∷ more) may.1 (omega (arith, low)))

  -- they spell the entries
  lines_spelled : (k : ℕ) (es : List PlainEntry) → AllByRecursion (MayTake s) es → k + length es ≤ greatest_number → Lines s (cut_lines s.names k es) es
  unfolding cut_lines
  lines_spelled k [] may low = blank empty_cut no_line
  lines_spelled k (e ∷ []) may low =
      let line = line_of s.names k e in
      let one : IsOneLine line = line_of_entry s k e is (omega (arith, low)) may.0 in
      rw (slice_split_none (λ b. b == 10) line (All-from_recursion (λ c. (c == 10) ≡ false) line one)) (entry_line (line_read s k e is (omega (arith, low)) may.0) no_line)
  lines_spelled k (e ∷ f ∷ more) may low =
      let line = line_of s.names k e in
      let behind = cut_lines s.names (k + 1) (f ∷ more) in
      let one : IsOneLine line = line_of_entry s k e is (omega (arith, low)) may.0 in
      rw (slice_split_at (λ b. b == 10) line 10 behind (All-from_recursion (λ c. (c == 10) ≡ false) line one) refl)
      (entry_line (line_read s k e is (omega (arith, low)) may.0) (lines_spelled (k + 1) (f ∷ more) may.1 (omega (arith, low))))

-- where they end
digit_stays : (xs ys : List ℕ) → begins_with_digit xs ≡ true → begins_with_digit (xs ++ ys) ≡ true
digit_stays [] ys h = absurd (true≢false (sym h))
digit_stays (x ∷ xs) ys h = h

passed : (place c : ℕ) (more : List ℕ) → (c == 10) ≡ false ⊎ begins_with_digit more ≡ true → end_from place (c ∷ more) ≡ end_from (place + 1) more
passed place c more (inl other) = rw other refl
passed place c more (inr digit) = rw digit (no_end (c == 10))
  where
    no_end : (b : Bool) → (if b && false then Some place else end_from (place + 1) more) ≡ end_from (place + 1) more
    no_end true = refl
    no_end false = refl

feeds_behind : (xs ys : List ℕ) (c : ℕ) → (c == 10) ≡ false ⊎ begins_with_digit xs ≡ true → (c == 10) ≡ false ⊎ begins_with_digit (xs ++ ys) ≡ true
feeds_behind xs ys c (inl other) = inl other
feeds_behind xs ys c (inr digit) = inr (digit_stays xs ys digit)

ends_at : (place : ℕ) (xs rest : List ℕ) → FeedsBeforeDigits xs → begins_with_digit rest ≡ false → end_from place (xs ++ 10 ∷ rest) ≡ Some (place + length xs)
ends_at place [] rest feeds apart = rw apart (ap Some (omega arith))
ends_at place (c ∷ xs) rest feeds apart =
    passed place c (xs ++ 10 ∷ rest) (feeds_behind xs (10 ∷ rest) c feeds.0) ∙ ends_at (place + 1) xs rest feeds.1 apart ∙ ap Some (omega arith)

taken_front : (xs ys : List ℕ) → take (length xs) (xs ++ ys) ≡ xs
taken_front [] ys = refl
taken_front (x ∷ xs) ys = ap (λ (l : List ℕ). x ∷ l) (taken_front xs ys)

before_rest : (xs rest : List ℕ) → FeedsBeforeDigits xs → begins_with_digit rest ≡ false → before_end (xs ++ 10 ∷ rest) ≡ xs
before_rest xs rest feeds apart = ap (λ o. up_to o (xs ++ 10 ∷ rest)) (ends_at 0 xs rest feeds apart ∙ ap Some (omega arith)) ∙ taken_front xs (10 ∷ rest)

-- the first line of a report
feed_place : (xs ys : List ℕ) → IsOneLine xs → position_or_len (λ c. c == 10) (xs ++ 10 ∷ ys) ≡ length xs
feed_place [] ys one = refl
feed_place (x ∷ xs) ys one = rw one.0 (omega (arith, feed_place xs ys one.1))

behind_one : (xs : List ℕ) (c : ℕ) (ys : List ℕ) → drop (length xs + 1) (xs ++ c ∷ ys) ≡ ys
behind_one [] c ys = refl
behind_one (x ∷ xs) c ys =
    let longer : length (x ∷ xs) + 1 ≡ suc (length xs + 1) = omega arith in
    rw longer (behind_one xs c ys)

behind_feed : (xs ys : List ℕ) → IsOneLine xs → after_first (λ c. c == 10) (xs ++ 10 ∷ ys) ≡ ys
behind_feed xs ys one = ap (λ (n : ℕ). drop (n + 1) (xs ++ 10 ∷ ys)) (feed_place xs ys one) ∙ behind_one xs 10 ys

begins : (number behind rest : List ℕ) → ((codes "schedule " ++ (number ++ codes "\n")) ++ behind) ++ rest ≡ (codes "schedule " ++ number) ++ 10 ∷ (behind ++ rest)
begins number behind rest = simp append_assoc

behind_first : (number behind rest : List ℕ) → IsOneLine number → schedule_part (((codes "schedule " ++ (number ++ codes "\n")) ++ behind) ++ rest) ≡ (if begins_with_digit (behind ++ rest) then before_end (behind ++ rest) else [])
behind_first number behind rest one =
    ap (λ (l : List ℕ). if begins_with_digit l then before_end l else [])
    (ap (after_first (λ c. c == 10)) (begins number behind rest)
    ∙ behind_feed (codes "schedule " ++ number) (behind ++ rest) (joined_line (codes "schedule ") number (tested_line (codes "schedule ") refl) one))

small : (n : ℕ) → 0 + n ≤ greatest_number → n < 2 ^ 64
small n low = omega (arith, low)

-- the lines of a schedule, taken out of a report
pub part_taken : (s : SystemParts) → IsTextSystem s → (es : List PlainEntry) (rest : List ℕ) → AllByRecursion (MayTake s) es → 0 + length es ≤ greatest_number → begins_with_digit rest ≡ false → Lines s (schedule_part (schedule_text s.names es ++ rest)) es
part_taken s is [] rest may low apart =
    let empty : schedule_part (schedule_text s.names [] ++ rest) ≡ [] = behind_first (decimal 0) [] rest (decimal_line 0 (omega arith)) ∙ rw apart refl in
    subst (λ (l : List ℕ). Lines s l []) (sym empty) (blank empty_cut no_line)
part_taken s is (e ∷ es) rest may low apart =
    let cut = cut_lines s.names 0 (e ∷ es) in
    let behind : entry_lines s.names 0 (e ∷ es) ++ rest ≡ cut ++ 10 ∷ rest = ap (λ (l : List ℕ). l ++ rest) (fed s.names 0 e es) ∙ append_assoc cut (10 ∷ []) rest in
    let first : begins_with_digit (cut ++ 10 ∷ rest) ≡ true = lines_first s.names 0 e es (10 ∷ rest) (omega arith) in
    let whole : schedule_part (schedule_text s.names (e ∷ es) ++ rest) ≡ cut =
    behind_first (decimal (length (e ∷ es))) (entry_lines s.names 0 (e ∷ es)) rest (decimal_line (length (e ∷ es)) (small (length (e ∷ es)) low))
    ∙ rw (behind, first) (before_rest cut rest (lines_feed s is 0 (e ∷ es) may (omega (arith, low))) apart) in
    subst (λ (l : List ℕ). Lines s l (e ∷ es)) (sym whole) (lines_spelled s is 0 (e ∷ es) may (omega (arith, low)))
