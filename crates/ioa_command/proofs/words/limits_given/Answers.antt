use Rattle.ioa_command.proofs.words.limits_given.Goals as goal

pub returns-in_err-steps : goal.returns-in_err-steps
returns-in_err-steps c = rw c.from_residual.ensures (λ o are. c.in_err-steps.ensures o.steps are.steps)

pub returns-in_err-attempts : goal.returns-in_err-attempts
returns-in_err-attempts c =
    rw c.from_residual-in_err-attempts.ensures (λ o are. c.in_err-attempts.ensures o.attempts are.attempts)
