-- Reasons that are told once.
use Rattle.std.proofs.Common.{◌≡◌, ℕ, List, Option, Some, refl, subst, sym}
use Rattle.ioa_transitions.specs.Entries.{PlainEntry}
use Rattle.ioa_compose.specs.declared.configuration.Conf.{Conf}
use Rattle.ioa_tell.specs.Refusals.{PlainRefusal}
use Rattle.ioa_tell.specs.Schedules.{IsRefusalIn}
use Rattle.ioa_tell_text.specs.Refusals.{refusal_text}
use Rattle.ioa_explain_schedule.specs.Reasons.{IsReasonIf}

-- what is kept of a refusal that was told
pub reason_kept : (cs : List Conf) (names : List (List ℕ)) (e : PlainEntry) (r : PlainRefusal) (why : Option (List ℕ))
    → why ≡ Some (refusal_text names r) → IsRefusalIn cs e r → IsReasonIf cs names (Some e) why
reason_kept cs names e r why is h =
    subst (IsReasonIf cs names (Some e)) (sym is) (record { refusal = r; is = h; told = refl })
