-- The lines of a schedule tell its entries.
use Rattle.std.proofs.Common.{◌≡◌, ◌≤◌, ◌<◌, ◌+◌, ◌^◌, ℕ, suc, List, [], ◌∷◌, ◌++◌, Ok, codes, decimal, length, refl, sym, ap, ◌∙◌, append_assoc, arith}
use Rattle.std.specs.List.{AllByRecursion}
use Rattle.std.specs.Prelude.{Result}
use Rattle.std.proofs.lemmas.Fmt.{decimal_injective}
use Rattle.ioa_tokens.specs.Lexeme.{greatest_number}
use Rattle.ioa_system.specs.Systems.{SystemParts}
use Rattle.ioa_transitions.specs.Entries.{PlainEntry}
use Rattle.ioa_lines.specs.Lines.{lines_answer}
use Rattle.ioa_lines.specs.declared.fault.LineFault.{LineFault}
use Rattle.ioa_monitor.specs.Reports.{entry_lines, schedule_text}
use Rattle.ioa_printed_lines.specs.TextSystems.{IsTextSystem, MayTake}
use Rattle.ioa_printed_lines.proofs.LineFeeds.{decimal_line}
use Rattle.ioa_printed_lines.proofs.LinesRead.{line_of, line_of_entry, one_more}
use Rattle.ioa_report_laws.proofs.LineTexts.{same_line, same_rest}
use Rattle.ioa_report_laws.proofs.Schedules.{ReadLaw, same_lines}

small : (n : ℕ) → n ≤ greatest_number → n < 2 ^ 64
small n low = omega (arith, low)

-- the lines of as many entries, in front of others
lines_told : (s : SystemParts) (k : ℕ) (es fs : List PlainEntry) (us vs : List ℕ) → IsTextSystem s → AllByRecursion (MayTake s) es → AllByRecursion (MayTake s) fs → length es ≡ length fs → k + length es ≤ greatest_number →
    entry_lines s.names k es ++ us ≡ entry_lines s.names k fs ++ vs → (entry_lines s.names k es ≡ entry_lines s.names k fs) × (us ≡ vs)
lines_told s k [] [] us vs is may also many low h = (refl, h)
lines_told s k [] (f ∷ fs) us vs is may also many low h = absurd (omega (arith, many))
lines_told s k (e ∷ es) [] us vs is may also many low h = absurd (omega (arith, many))
lines_told s k (e ∷ es) (f ∷ fs) us vs is may also many low h =
    let front = entry_lines s.names (k + 1) es in
    let other = entry_lines s.names (k + 1) fs in
    let first = same_line (line_of s.names k e) (line_of s.names k f) (front ++ us) (other ++ vs) (line_of_entry s k e is (omega (arith, low)) may.0) (line_of_entry s k f is (omega (arith, low)) also.0)
    (sym (one_more s.names k e (front ++ us)) ∙ sym (append_assoc _ front us) ∙ h ∙ append_assoc _ other vs ∙ one_more s.names k f (other ++ vs)) in
    let more = lines_told s (k + 1) es fs us vs is may.1 also.1 (omega (arith, many)) (omega (arith, low)) first.1 in
    (one_more s.names k e front ∙ rw (first.0, more.0) refl ∙ sym (one_more s.names k f other), more.1)

-- how many there are is told by the first line, and which they are, since they are read back
one_answer : (es fs : List PlainEntry) (x : Result (List PlainEntry) LineFault) → x ≡ Ok es → x ≡ Ok fs → es ≡ fs
one_answer es fs x h g = cc

pub schedule_told : ReadLaw → (s : SystemParts) (es fs : List PlainEntry) (us vs : List ℕ) → IsTextSystem s → AllByRecursion (MayTake s) es → AllByRecursion (MayTake s) fs → length es ≤ greatest_number → length fs ≤ greatest_number →
    schedule_text s.names es ++ us ≡ schedule_text s.names fs ++ vs → (es ≡ fs) × (us ≡ vs)
schedule_told read s es fs us vs is may also few low h =
    let lines = entry_lines s.names 0 es in
    let others = entry_lines s.names 0 fs in
    let first = same_rest (codes "schedule ") (decimal (length es)) (decimal (length fs)) (lines ++ us) (others ++ vs)
    (decimal_line (length es) (small (length es) few)) (decimal_line (length fs) (small (length fs) low))
    (sym (append_assoc (codes "schedule " ++ (decimal (length es) ++ codes "\n")) lines us) ∙ h ∙ append_assoc (codes "schedule " ++ (decimal (length fs) ++ codes "\n")) others vs) in
    let many : length es ≡ length fs = decimal_injective (length es) (length fs) (small (length es) few) (small (length fs) low) first.0 in
    let told = lines_told s 0 es fs us vs is may also many (omega (arith, few)) first.1 in
    let one : lines_answer s others ≡ Ok es = ap (lines_answer s) (sym told.0 ∙ same_lines s.names 0 es) ∙ read s 0 es is may (omega (arith, few)) in
    let other : lines_answer s others ≡ Ok fs = ap (lines_answer s) (same_lines s.names 0 fs) ∙ read s 0 fs is also (omega (arith, low)) in
    (one_answer es fs (lines_answer s others) one other, told.1)
