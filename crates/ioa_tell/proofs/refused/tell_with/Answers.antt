use Rattle.ioa_tell.specs.Refusals.{refusal_of}
use Rattle.ioa_tell.proofs.Tellings.{on_from}
use Rattle.ioa_tell.proofs.refused.tell_with.Goals as goal

pub returns : goal.returns
returns g c =
    on_from c.refused.result c.refused.ensures (λ h. record {
      refusal = refusal_of c.args.refusal;
      is = record { fault = c.args._fault; no_step = c.requires.fault; told = c.requires.told };
      heard = h;
    })
