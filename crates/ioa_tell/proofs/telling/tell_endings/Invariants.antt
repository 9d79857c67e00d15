use Rattle.std.proofs.Common.{drop}
use Rattle.ioa_tell.proofs.Tellings.{LeadsOn}
use Rattle.ioa_tell.proofs.telling.tell_endings.Given as goal

-- the endings that are left go on from those that were told
abbrev pub invariant-loop-node : goal.invariant-loop-node
invariant-loop-node g l = LeadsOn g.T.Tells.hears l.node (drop l.node l.endings) l.endings l.initial.out l.out
