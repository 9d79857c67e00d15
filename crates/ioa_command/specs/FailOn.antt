-- Findings by their names (profile).
use Rattle.std.specs.Prelude.{ℕ, ◌==◌, Bool, true, false, ◌&&◌, ◌||◌, if◌then◌else◌, List, [], ◌∷◌, codes}
use Rattle.std.specs.Prelude.{Option, Some, None, option_and_then}
use Rattle.std.specs.Str.{bytes_eq}
use Rattle.ioa_monitor.specs.declared.findings.Findings.{Findings}

abbrev pub no_findings : Findings
no_findings = record { fault = false; spent = false; invariant = false }

-- a byte in front of the first of some words
abbrev pub in_front : ℕ → List (List ℕ) → List (List ℕ)
in_front c [] = (c ∷ []) ∷ []
in_front c (w ∷ ws) = (c ∷ w) ∷ ws

-- the words between the commas of a text: one more than it has commas
abbrev pub words_between : List ℕ → List (List ℕ)
words_between [] = [] ∷ []
words_between (c ∷ more) = if c == 44 then [] ∷ words_between more else in_front c (words_between more)

-- some findings, and that of a name; nothing if it is no name of one
abbrev pub with_finding : List ℕ → Findings → Option Findings
with_finding name before =
    if bytes_eq name (codes "fault") then Some (record before { fault = true })
    else (if bytes_eq name (codes "spent") then Some (record before { spent = true })
    else (if bytes_eq name (codes "invariant") then Some (record before { invariant = true }) else None))

-- and those of several names
abbrev pub findings_of_all : List (List ℕ) → Findings → Option Findings
findings_of_all [] before = Some before
findings_of_all (name ∷ more) before = option_and_then (λ f. findings_of_all more f) (with_finding name before)

-- the findings that a text has the names of, with commas between; nothing if it has another word
abbrev pub findings_named : List ℕ → Option Findings
findings_named names = findings_of_all (words_between names) no_findings

-- two of them have a finding in common
abbrev pub meet : Findings → Findings → Bool
meet fail_on found =
    (fail_on.fault && found.fault) || ((fail_on.spent && found.spent) || (fail_on.invariant && found.invariant))
