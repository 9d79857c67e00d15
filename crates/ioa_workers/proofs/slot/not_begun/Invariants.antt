use Rattle.std.proofs.Common.{◌≡◌, replicate}
use Rattle.ioa_record.specs.declared.ending.Ending.TheVariants.{Fault}
use Rattle.ioa_record.specs.declared.ending.NodeFault.TheVariants.{NoThread}
use Rattle.ioa_workers.proofs.slot.not_begun.Given as goal

-- there is an ending for each node gone by
abbrev pub invariant-loop : goal.invariant-loop
invariant-loop l = l.endings ≡ replicate l.counter (Fault NoThread)
