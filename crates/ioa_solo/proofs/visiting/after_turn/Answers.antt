use Rattle.ioa_solo.proofs.visiting.after_turn.Goals as goal

pub returns-in-Fire-clause-settled : goal.returns-in-Fire-clause-settled
returns-in-Fire-clause-settled g c = c.go_past.ensures.settled
