use Rattle.ioa_schedule_check.proofs.Refused.{given_refused}
use Rattle.ioa_schedule_check.proofs.Taken.{given_whole}
use Rattle.ioa_schedule_check.proofs.given.given_schedule.Goals as goal

pub returns-clause-whole : goal.returns-clause-whole
returns-clause-whole c =
    given_whole c.args.system.now c.args.text.now c.gather.result c.gather.ensures.taken c.gather.ensures.answer

pub returns-clause-refused : goal.returns-clause-refused
returns-clause-refused c =
    given_refused c.args.system.now c.args.text.now c.gather.result c.gather.ensures.taken c.gather.ensures.answer
    c.gather.ensures.refused
