-- What a check promises of its result.
use Rattle.std.proofs.Common.{◌≡◌, inl, inr, Result, Ok, Err, sym, ◌∙◌}
use Rattle.std.specs.Prelude.{IfOk, IfErr}
use Rattle.ioa_values.specs.Outcome.{Answers}
use Rattle.ioa_source.specs.Sides.{SourceText}
use Rattle.ioa_system.specs.Declarations.{IsWellDeclared}
use Rattle.ioa_system.specs.Systems.{SystemParts}
use Rattle.ioa_sections.specs.declared.fault.CheckFault.{CheckFault}
use Rattle.ioa_sections.specs.declared.fault.CheckFault.TheVariants.{Refused, Memory}
use Rattle.ioa_sections.proofs.Results.{checked_is}
use Rattle.ioa_check.specs.Checking.{system_of}
use Rattle.ioa_check.specs.Systems.{IsSystemOf, SaysNoSystem}
use Rattle.ioa_check.proofs.SoundSystems.{system_sound}
use Rattle.ioa_check.proofs.Complete.{system_found}
use Rattle.ioa_check.proofs.Declared.{declared_once}

pub promised_system : (x : SourceText) (r : Result SystemParts CheckFault) → Answers Memory (λ s. s) r (system_of x) → IfOk r (IsSystemOf x)
promised_system x (Ok s) h = system_sound x s h
promised_system x (Err f) h = tt

pub promised_once : (x : SourceText) (r : Result SystemParts CheckFault) → Answers Memory (λ s. s) r (system_of x) → IfOk r IsWellDeclared
promised_once x (Ok s) h = declared_once x s (system_sound x s h)
promised_once x (Err f) h = tt

pub promised_none : (x : SourceText) (r : Result SystemParts CheckFault) → Answers Memory (λ s. s) r (system_of x) → IfErr r (λ f. SaysNoSystem f x)
promised_none x (Ok s) h = tt
promised_none x (Err Memory) h = tt
promised_none x (Err (Refused r index)) h = λ s is. elim h [
  | inl lacks ↦ absurd (cc)
  | inr refused ↦ let both : checked_is s ≡ Err (Refused r index) = sym (system_found x s is) ∙ refused in absurd (cc)
]
