use Rattle.ioa_reasons.specs.PlainReasons.{statement_place_of}
use Rattle.ioa_reasons.specs.FoundFaults.{fault_found}
use Rattle.ioa_reasons.proofs.FaultParts.{found_then}
use Rattle.ioa_reasons.proofs.faulted.fault_then.Goals as goal

pub returns : goal.returns
returns c = found_then (λ f. statement_place_of f.place) (λ f. fault_found f.fault) c.args.view.now c.args.values.now c.requires.named c.fault_by.result c.fault_by.ensures
