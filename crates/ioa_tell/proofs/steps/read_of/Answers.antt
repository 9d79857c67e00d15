use Rattle.std.proofs.Common.{sym, ap, Some, ◌∙◌}
use Rattle.ioa_commits.specs.Versions.{PlainVersionedConf}
use Rattle.ioa_tell.proofs.Taking.{conf_read}
use Rattle.ioa_tell.proofs.steps.read_of.Goals as goal

pub returns-in_ok-try_copy-in-Some : goal.returns-in_ok-try_copy-in-Some
returns-in_ok-try_copy-in-Some g c =
    conf_read c.args.component c.args.look.now.reads c.in-Some.read.now (sym c.in-Some.ensures)
    ∙ ap (λ (r : PlainVersionedConf). Some r.conf) (sym c.in_ok-try_copy-in-Some.ensures)
