use Rattle.std.proofs.Common.{◌≡◌, take}
use Rattle.ioa_compose.proofs.composition.copy_confs.Given as goal

-- the copies so far are the configurations gone by
abbrev pub invariant-loop-conf : goal.invariant-loop-conf
invariant-loop-conf l = l.copied.items ≡ take l.conf-index l.confs
