-- The lines of a report behind its states tell the endings, the commits and the verdicts.
use Rattle.std.proofs.Common.{◌≡◌, ◌≢◌, ◌<◌, ◌+◌, ◌^◌, ℕ, suc, List, [], ◌∷◌, ◌++◌, Option, Some, None, cond, codes, decimal, length, sum, refl, sym, ap, ◌∙◌, append_assoc, arith}
use Rattle.std.specs.List.{AllByRecursion}
use Rattle.std.specs.Str.{bytes_eq}
use Rattle.std.proofs.lemmas.List.{append_cancel_left}
use Rattle.std.proofs.lemmas.Fmt.{decimal_injective}
use Rattle.ioa_system.specs.Invariants.{InvariantParts}
use Rattle.ioa_record.specs.declared.ending.NodeFault.{NodeFault}
use Rattle.ioa_record.specs.declared.ending.NodeFault.TheVariants as fault
use Rattle.ioa_record.specs.declared.ending.Ending.{Ending}
use Rattle.ioa_record.specs.declared.ending.Ending.TheVariants.{Done, Spent, Fault}
use Rattle.ioa_record.specs.Endings.{ending_text}
use Rattle.ioa_verdicts.specs.declared.verdict.Verdict.{Verdict}
use Rattle.ioa_verdicts.specs.declared.verdict.Verdict.TheVariants.{Holds, Fails, Undefined, Range}
use Rattle.ioa_verdicts.specs.Verdicts.{verdict_text}
use Rattle.ioa_monitor.specs.Reports.{commit_lines, ending_lines, invariant_lines}
use Rattle.ioa_printed_lines.proofs.LineFeeds.{IsOneLine, decimal_line, joined_line}
use Rattle.ioa_report_laws.specs.Told.{IsPlaced, IsWord}
use Rattle.ioa_report_laws.proofs.LineTexts.{BeginsNotWith, heads, same_rest, tested_line}

-- all endings
endings : List Ending
endings =
    Done ∷ Spent ∷ Fault fault.Undefined ∷ Fault fault.Range ∷ Fault fault.Memory ∷ Fault fault.NotMine ∷ Fault fault.NoChannel
    ∷ Fault fault.NoChoice ∷ Fault fault.Differs ∷ Fault fault.Full ∷ Fault fault.Unknown ∷ Fault fault.Older
    ∷ Fault fault.NoThread ∷ []

-- the first of some endings that has a text
ending_read : List ℕ → List Ending → Option Ending
ending_read text [] = None
ending_read text (e ∷ es) = cond (bytes_eq text (ending_text e)) (Some e) (ending_read text es)

-- each ending is read from its text
ending_found : (e : Ending) → ending_read (ending_text e) endings ≡ Some e
unfolding endings ending_read
ending_found Done = refl
ending_found Spent = refl
ending_found (Fault fault.Undefined) = refl
ending_found (Fault fault.Range) = refl
ending_found (Fault fault.Memory) = refl
ending_found (Fault fault.NotMine) = refl
ending_found (Fault fault.NoChannel) = refl
ending_found (Fault fault.NoChoice) = refl
ending_found (Fault fault.Differs) = refl
ending_found (Fault fault.Full) = refl
ending_found (Fault fault.Unknown) = refl
ending_found (Fault fault.Older) = refl
ending_found (Fault fault.NoThread) = refl

same_found : (e f : Ending) → Some e ≡ Some f → e ≡ f
same_found e f h = cc

one_ending : (e f : Ending) → ending_text e ≡ ending_text f → e ≡ f
one_ending e f h = same_found e f (sym (ending_found e) ∙ ap (λ text. ending_read text endings) h ∙ ending_found f)

-- its text is in one line
ending_line : (e : Ending) → IsOneLine (ending_text e)
ending_line Done = tested_line (ending_text Done) refl
ending_line Spent = tested_line (ending_text Spent) refl
ending_line (Fault fault.Undefined) = tested_line (ending_text (Fault fault.Undefined)) refl
ending_line (Fault fault.Range) = tested_line (ending_text (Fault fault.Range)) refl
ending_line (Fault fault.Memory) = tested_line (ending_text (Fault fault.Memory)) refl
ending_line (Fault fault.NotMine) = tested_line (ending_text (Fault fault.NotMine)) refl
ending_line (Fault fault.NoChannel) = tested_line (ending_text (Fault fault.NoChannel)) refl
ending_line (Fault fault.NoChoice) = tested_line (ending_text (Fault fault.NoChoice)) refl
ending_line (Fault fault.Differs) = tested_line (ending_text (Fault fault.Differs)) refl
ending_line (Fault fault.Full) = tested_line (ending_text (Fault fault.Full)) refl
ending_line (Fault fault.Unknown) = tested_line (ending_text (Fault fault.Unknown)) refl
ending_line (Fault fault.Older) = tested_line (ending_text (Fault fault.Older)) refl
ending_line (Fault fault.NoThread) = tested_line (ending_text (Fault fault.NoThread)) refl

-- a line that begins with three texts, in front of others
three_texts : (a b c x more us : List ℕ) → ((a ++ (b ++ (c ++ (x ++ codes "\n")))) ++ more) ++ us ≡ ((a ++ (b ++ c)) ++ (x ++ codes "\n")) ++ (more ++ us)
three_texts a b c x more us = simp append_assoc

-- the lines of endings, in front of what is no such line
pub endings_told : (i : ℕ) (es fs : List Ending) (us vs : List ℕ) → BeginsNotWith 101 us → BeginsNotWith 101 vs → ending_lines i es ++ us ≡ ending_lines i fs ++ vs → (es ≡ fs) × (us ≡ vs)
endings_told i [] [] us vs apart other h = (refl, h)
endings_told i [] (f ∷ fs) us vs apart other h = absurd (apart _ h)
endings_told i (e ∷ es) [] us vs apart other h = absurd (other _ (sym h))
endings_told i (e ∷ es) (f ∷ fs) us vs apart other h =
    let first = same_rest (codes "ending " ++ (decimal i ++ codes " ")) (ending_text e) (ending_text f) (ending_lines (i + 1) es ++ us) (ending_lines (i + 1) fs ++ vs)
    (ending_line e) (ending_line f)
    (sym (three_texts (codes "ending ") (decimal i) (codes " ") (ending_text e) (ending_lines (i + 1) es) us)
    ∙ h ∙ three_texts (codes "ending ") (decimal i) (codes " ") (ending_text f) (ending_lines (i + 1) fs) vs) in
    let more = endings_told (i + 1) es fs us vs apart other first.1 in
    (rw (one_ending e f first.0, more.0) refl, more.1)

-- the lines of counts, in front of what is no such line
pub commits_told : (w : ℕ) (cs ds us vs : List ℕ) → AllByRecursion IsWord cs → AllByRecursion IsWord ds → BeginsNotWith 119 us → BeginsNotWith 119 vs → commit_lines w cs ++ us ≡ commit_lines w ds ++ vs → (cs ≡ ds) × (us ≡ vs)
commits_told w [] [] us vs small low apart other h = (refl, h)
commits_told w [] (d ∷ ds) us vs small low apart other h = absurd (apart _ h)
commits_told w (c ∷ cs) [] us vs small low apart other h = absurd (other _ (sym h))
commits_told w (c ∷ cs) (d ∷ ds) us vs small low apart other h =
    let first = same_rest (codes "worker " ++ (decimal w ++ codes " commits ")) (decimal c) (decimal d) (commit_lines (w + 1) cs ++ us) (commit_lines (w + 1) ds ++ vs)
    (decimal_line c small.0) (decimal_line d low.0)
    (sym (three_texts (codes "worker ") (decimal w) (codes " commits ") (decimal c) (commit_lines (w + 1) cs) us)
    ∙ h ∙ three_texts (codes "worker ") (decimal w) (codes " commits ") (decimal d) (commit_lines (w + 1) ds) vs) in
    let more = commits_told (w + 1) cs ds us vs small.1 low.1 apart other first.1 in
    (rw (decimal_injective c d small.0 low.0 first.0, more.0) refl, more.1)

-- such a line begins with `w`, the line of their sum with `t`, and neither with `e`
pub counts_begin : (cs us : List ℕ) (c : ℕ) → c ≢ 119 → c ≢ 116 → BeginsNotWith c (commit_lines 0 cs ++ (codes "total " ++ us))
counts_begin [] us c worker total = λ rest h. total (sym (heads h))
counts_begin (n ∷ cs) us c worker total = λ rest h. worker (sym (heads h))

-- verdicts
one_verdict : (v w : Verdict) → IsPlaced v → IsPlaced w → verdict_text v ≡ verdict_text w → v ≡ w
one_verdict Holds Holds h g e = refl
one_verdict Holds (Fails l) h g e = absurd (omega (arith, heads e))
one_verdict Holds (Undefined l) h g e = absurd (omega (arith, heads e))
one_verdict Holds (Range l) h g e = absurd (omega (arith, heads e))
one_verdict (Fails k) Holds h g e = absurd (omega (arith, heads e))
one_verdict (Fails k) (Fails l) h g e = ap Fails (decimal_injective k l h g (append_cancel_left (codes "fails at ") (decimal k) (decimal l) e))
one_verdict (Fails k) (Undefined l) h g e = absurd (omega (arith, heads e))
one_verdict (Fails k) (Range l) h g e = absurd (omega (arith, heads e))
one_verdict (Undefined k) Holds h g e = absurd (omega (arith, heads e))
one_verdict (Undefined k) (Fails l) h g e = absurd (omega (arith, heads e))
one_verdict (Undefined k) (Undefined l) h g e = ap Undefined (decimal_injective k l h g (append_cancel_left (codes "undefined at ") (decimal k) (decimal l) e))
one_verdict (Undefined k) (Range l) h g e = absurd (omega (arith, heads e))
one_verdict (Range k) Holds h g e = absurd (omega (arith, heads e))
one_verdict (Range k) (Fails l) h g e = absurd (omega (arith, heads e))
one_verdict (Range k) (Undefined l) h g e = absurd (omega (arith, heads e))
one_verdict (Range k) (Range l) h g e = ap Range (decimal_injective k l h g (append_cancel_left (codes "range at ") (decimal k) (decimal l) e))

verdict_line : (v : Verdict) → IsPlaced v → IsOneLine (verdict_text v)
verdict_line Holds h = tested_line (verdict_text Holds) refl
verdict_line (Fails k) h = joined_line (codes "fails at ") (decimal k) (tested_line (codes "fails at ") refl) (decimal_line k h)
verdict_line (Undefined k) h = joined_line (codes "undefined at ") (decimal k) (tested_line (codes "undefined at ") refl) (decimal_line k h)
verdict_line (Range k) h = joined_line (codes "range at ") (decimal k) (tested_line (codes "range at ") refl) (decimal_line k h)

-- the lines of verdicts on the same invariants
last_line : (a b c x more : List ℕ) → (a ++ (b ++ (c ++ (x ++ codes "\n")))) ++ more ≡ ((a ++ (b ++ c)) ++ (x ++ codes "\n")) ++ more
last_line a b c x more = simp append_assoc

pub verdicts_told : (vs : List InvariantParts) (fs gs : List Verdict) → length fs ≡ length vs → length gs ≡ length vs → AllByRecursion IsPlaced fs → AllByRecursion IsPlaced gs → invariant_lines vs fs ≡ invariant_lines vs gs → fs ≡ gs
verdicts_told [] [] [] many as_many low small h = refl
verdicts_told [] [] (g ∷ gs) many as_many low small h = absurd (omega (arith, as_many))
verdicts_told [] (f ∷ fs) gs many as_many low small h = absurd (omega (arith, many))
verdicts_told (v ∷ vs) [] gs many as_many low small h = absurd (omega (arith, many))
verdicts_told (v ∷ vs) (f ∷ fs) [] many as_many low small h = absurd (omega (arith, as_many))
verdicts_told (v ∷ vs) (f ∷ fs) (g ∷ gs) many as_many low small h =
    let first = same_rest (codes "invariant " ++ (v.name ++ codes " ")) (verdict_text f) (verdict_text g) (invariant_lines vs fs) (invariant_lines vs gs)
    (verdict_line f low.0) (verdict_line g small.0)
    (sym (last_line (codes "invariant ") v.name (codes " ") (verdict_text f) (invariant_lines vs fs))
    ∙ h ∙ last_line (codes "invariant ") v.name (codes " ") (verdict_text g) (invariant_lines vs gs)) in
    rw (one_verdict f g low.0 small.0 first.0, verdicts_told vs fs gs (omega (arith, many)) (omega (arith, as_many)) low.1 small.1 first.1) refl
