-- What `trace` is asked to do.
use Rattle.std.proofs.Common.{◌≡◌, ◌∙◌, true, false, List, Some, Result, Ok, Err, ap, codes, refl, sym}
use Rattle.std.specs.Str.{bytes_eq}
use Rattle.clap.specs.Walk.{Row, Text}
use Rattle.ioa_command.specs.declared.choice.ChoiceFault.{ChoiceFault}
use Rattle.ioa_command.specs.declared.choice.ChoiceFault.TheVariants.{Memory, Nothing}
use Rattle.ioa_command.specs.declared.choice.Subcommand.{Subcommand}
use Rattle.ioa_command.specs.declared.choice.Subcommand.TheVariants.{Run, Explain, Trace, Replay, Check, Print}
use Rattle.ioa_command.specs.Choices.{Settles}
use Rattle.ioa_command.specs.CommandLine.{IsChosenBy, IsOfTrace}

-- `trace` is the name of no other subcommand
apart : true ≡ false → ⊥
apart bad = cc

is_not : (word : Text) → bytes_eq word word ≡ true → bytes_eq (codes "trace") word ≡ false → codes "trace" ≡ word → ⊥
is_not word same other is = apart (sym same ∙ ap (λ s. bytes_eq s word) (sym is) ∙ other)

-- so what is chosen by that name is what its matches choose
named : (name : Text) (rows : List Row) (choice : Subcommand) → name ≡ codes "trace" → IsOfTrace rows choice
    → IsChosenBy (Some (name, rows)) choice
named name rows (Run r) is h = absurd h
named name rows (Explain c) is h = absurd h
named name rows (Trace t) is h = (is, h)
named name rows (Replay r) is h = (is, h)
named name rows (Check c) is h = absurd h
named name rows (Print input) is h = absurd h

of_trace : (name : Text) (rows : List Row) (choice : Subcommand) → name ≡ codes "trace"
    → IsChosenBy (Some (name, rows)) choice → IsOfTrace rows choice
of_trace name rows (Run r) is h = absurd (is_not (codes "run") refl refl (sym is ∙ h.0))
of_trace name rows (Explain c) is h = absurd (is_not (codes "explain") refl refl (sym is ∙ h.0))
of_trace name rows (Trace t) is h = h.1
of_trace name rows (Replay r) is h = h.1
of_trace name rows (Check c) is h = absurd (is_not (codes "check") refl refl (sym is ∙ h.0))
of_trace name rows (Print input) is h = absurd (is_not (codes "print") refl refl (sym is ∙ h.0))

pub trace_named : (name : Text) (rows : List Row) (r : Result Subcommand ChoiceFault) → name ≡ codes "trace"
    → Settles (IsOfTrace rows) r → Settles (IsChosenBy (Some (name, rows))) r
trace_named name rows (Ok choice) is h = named name rows choice is h
trace_named name rows (Err (Memory error)) is h = tt
trace_named name rows (Err (Nothing why)) is h = λ choice chosen. h choice (of_trace name rows choice is chosen)
