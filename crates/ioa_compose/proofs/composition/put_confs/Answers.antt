use Rattle.std.proofs.Common.{refl}
use Rattle.ioa_compose.proofs.Positions.{put_confs-push}
use Rattle.ioa_compose.proofs.composition.put_confs.Goals as goal

pub loop-conf-preserved : goal.loop-conf-preserved
loop-conf-preserved c = rw (c.put_conf.ensures, c.loop-conf.invariant, put_confs-push) refl
