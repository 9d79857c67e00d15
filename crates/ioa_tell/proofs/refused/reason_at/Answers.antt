use Rattle.std.proofs.Common.{Option, subst}
use Rattle.ioa_compose.specs.declared.configuration.Conf.{Conf}
use Rattle.ioa_reasons.specs.PlainReasons as told
use Rattle.ioa_reasons.specs.Reasons.{IsReason}
use Rattle.ioa_tell.proofs.refused.reason_at.Goals as goal

pub returns : goal.returns
returns c =
    subst (λ (o : Option Conf). IsReason o c.args.entry.now.action (told.reason_of c.reason_with.result))
    c.queue_at.ensures (rw (← c.action.ensures) c.reason_with.ensures)
