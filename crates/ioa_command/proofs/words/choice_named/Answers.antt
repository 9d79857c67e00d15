use Rattle.std.proofs.Common.{rules, ◌≡◌, codes}
use Rattle.clap.specs.Matches.{found_of}
use Rattle.clap.specs.Walk.{rows_of}
use Rattle.ioa_command.proofs.Chosen.{trace_named}
use Rattle.ioa_command.proofs.words.choice_named.Goals as goal

pub returns-then-eq-3 : goal.returns-then-eq-3
returns-then-eq-3 c =
    let is : c.args.name.now ≡ codes "trace" = search rules in
    trace_named c.args.name.now (rows_of (found_of c.args.matches.now)) c.shown_choice.result is c.shown_choice.ensures
