use Rattle.std.proofs.Common.{sym}
use Rattle.ioa_compose.proofs.SameConfs.{same_conf_is}
use Rattle.ioa_commits.proofs.SameConfs.{same_by}
use Rattle.ioa_commits.proofs.standing.is_same.Goals as goal

pub returns-then-shares_conf : goal.returns-then-shares_conf
returns-then-shares_conf g c =
    sym ((same_conf_is c.args.read.now.conf c.args.held.now.conf).1 (c.shares_conf.ensures c.if-shares_conf.true))

pub returns : goal.returns
returns g c =
    rw (c.conf.ensures, c.conf-2.ensures) at (same_by c.equals.result c.conf.result.now c.conf-2.result.now c.equals.ensures.equality)
