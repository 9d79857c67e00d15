use Rattle.std.proofs.Common.{◌≡◌, ◌∙◌, None, Option, Some, ap, rules}
use Rattle.ioa_actions.specs.declared.component.Component.TheVariants.{Node}
use Rattle.ioa_book.specs.Proposals.{find_read}
use Rattle.ioa_commits.specs.Versions.{PlainVersionedConf}
use Rattle.ioa_compose.specs.declared.configuration.Conf.{Conf}
use Rattle.ioa_solo.specs.Meets.{fault_of_conf}
use Rattle.ioa_solo.proofs.Meets.{fault_read}
use Rattle.ioa_solo.proofs.meeting.fault_shown.Goals as goal

pub returns-in-Some : goal.returns-in-Some
returns-in-Some g c =
    let p = c.args.program.now in
    let found : Some c.in-Some.read.now ≡ find_read (Node p.node) c.args.snapshot.now.reads = search rules in
    c.fault_of_conf.ensures
    ∙ ap (λ (k : Conf). fault_of_conf p (Some k)) c.conf.ensures
    ∙ fault_read p (Node p.node) c.args.snapshot.now.reads (Some c.in-Some.read.now) found

pub returns-in-None : goal.returns-in-None
returns-in-None g c =
    let p = c.args.program.now in
    let none : Option PlainVersionedConf = None in
    let missing : none ≡ find_read (Node p.node) c.args.snapshot.now.reads = search rules in
    fault_read p (Node p.node) c.args.snapshot.now.reads none missing
