use Rattle.std.proofs.Common.{inl, inr}
use Rattle.ioa_command.proofs.CommandLine.{chosen_is, kinds_are, nothing_is, takes_are}
use Rattle.ioa_command.proofs.words.options.Goals as goal

pub returns-in-Err-clause-refused : goal.returns-in-Err-clause-refused
returns-in-Err-clause-refused c =
    inl (kinds_are _ _ c.in-Err.error c.in_ok-command.ensures.0 c.in-Err.ensures.kinds)

pub returns-clause-refused : goal.returns-clause-refused
returns-clause-refused c =
    let told = c.in_ok-command.ensures.0 in
    let taken = c.in-Ok.ensures in
    let why = c.in-Err-Nothing in
    inr (
      c.in_ok-error-in-Err-Nothing.ensures.kind,
      takes_are _ _ told taken.kinds,
      nothing_is _ _ c.in-Ok.matches _ _ told taken.ok.2 why.ensures why.field-0-is,
    )

pub returns-in-Ok-choice_of-clause-chosen : goal.returns-in-Ok-choice_of-clause-chosen
returns-in-Ok-choice_of-clause-chosen c =
    chosen_is _ _ c.in-Ok.matches c.in-Ok-choice_of.subcommand c.in_ok-command.ensures.0 c.in-Ok.ensures.ok.2
    c.in-Ok-choice_of.ensures
