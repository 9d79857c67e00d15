-- A run of a text, by options in their range, has a report that is read back.
use Rattle.std.proofs.Common.{◌≡◌, ◌≤◌, ℕ, List, arith}
use Rattle.std.specs.List.{AllByRecursion}
use Rattle.ioa_tokens.specs.Lexeme.{greatest_number}
use Rattle.ioa_system.specs.Systems.{SystemParts}
use Rattle.ioa_record.specs.declared.options.TheConstants.{GREATEST_STEPS}
use Rattle.ioa_record.specs.declared.record.Record.{Record}
use Rattle.ioa_report_laws.specs.Reported.{IsReported, IsRunOfText}
use Rattle.ioa_runtime_values.specs.RuntimeValues.{HasRuntimeValues}

few_steps : (told steps : ℕ) → told ≡ steps → told ≤ GREATEST_STEPS → steps ≤ greatest_number
few_steps told steps same within = omega (arith, same, within)

pub reported : (text : List ℕ) (s : SystemParts) (r : Record) (told steps : ℕ) → told ≡ steps → told ≤ GREATEST_STEPS → AllByRecursion HasRuntimeValues r.schedule → IsRunOfText text s steps r → IsReported text s r
reported text s r told steps same within values run = record { limit = steps; run = run; low = few_steps told steps same within; values = values }
