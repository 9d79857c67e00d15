-- Why an entry of a schedule is no step, as text (profile).
use Rattle.std.specs.Prelude.{◌≡◌, ⊤, ℕ, List, Option, Some, None}
use Rattle.ioa_transitions.specs.Entries.{PlainEntry}
use Rattle.ioa_compose.specs.declared.configuration.Conf.{Conf}
use Rattle.ioa_tell.specs.Refusals.{PlainRefusal}
use Rattle.ioa_tell.specs.Schedules.{IsRefusalIn}
use Rattle.ioa_tell_text.specs.Refusals.{refusal_text}

-- the words of a refusal that is true of an entry in these configurations
pub record IsReasonFor (cs : List Conf) (names : List (List ℕ)) (e : PlainEntry) (why : List ℕ) : Type 0 where
  pub refusal : PlainRefusal
  pub is : IsRefusalIn cs e refusal
  pub told : why ≡ refusal_text names refusal

-- a reason, if one is told, is of the entry that is refused
abbrev pub IsReasonIf : List Conf → List (List ℕ) → Option PlainEntry → Option (List ℕ) → Type 0
IsReasonIf cs names refused None = ⊤
IsReasonIf cs names None (Some why) = ⊥
IsReasonIf cs names (Some e) (Some why) = IsReasonFor cs names e why
