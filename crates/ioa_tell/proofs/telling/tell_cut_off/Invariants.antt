use Rattle.std.proofs.Common.{drop}
use Rattle.ioa_tell.specs.Nodes.{progress_in}
use Rattle.ioa_tell.proofs.Visiting.{CutsOn}
use Rattle.ioa_tell.proofs.telling.tell_cut_off.Given as goal

-- what is told of the nodes that are left goes on from what was told of those gone by
abbrev pub invariant-loop-node : goal.invariant-loop-node
invariant-loop-node g l =
    CutsOn g.T.Tells.hears l.book progress_in (drop l.node-index l.nodes) l.nodes l.initial.out l.out
