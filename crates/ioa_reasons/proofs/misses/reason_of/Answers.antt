use Rattle.std.proofs.Common.{Option, subst}
use Rattle.ioa_compose.specs.declared.configuration.Conf.{Conf}
use Rattle.ioa_reasons.specs.PlainReasons as told
use Rattle.ioa_reasons.specs.Reasons.{IsReason}
use Rattle.ioa_reasons.proofs.misses.reason_of.Goals as goal

pub returns : goal.returns
returns g c =
    subst (λ (o : Option Conf). IsReason o c.args.action.now (told.reason_of c.reason_with.result)) c.queue_of.ensures
    c.reason_with.ensures
