use Rattle.ioa_commits.specs.Versions.{read_confs}
use Rattle.ioa_turns.specs.NodeTurns.{arguments_in, end_of, progress_of}
use Rattle.ioa_solo.proofs.FreshTurns.{turn_seen}
use Rattle.ioa_solo.proofs.Turns.{turn_keeps}
use Rattle.ioa_solo.proofs.visiting.turn_on.Goals as goal

pub returns-clause-told : goal.returns-clause-told
returns-clause-told g c = λ b fresh. rw (← turn_seen b (progress_of c.args.node.now) c.args.snapshot.now fresh) c.turn_of.ensures.turn

pub returns-clause-kept : goal.returns-clause-kept
returns-clause-kept g c =
    turn_keeps (end_of (arguments_in c.turn_of.new.node)) (read_confs c.args.snapshot.now.reads) (progress_of c.args.node.now) (progress_of c.turn_of.new.node) c.turn_of.result c.turn_of.ensures.turn c.turn_of.ensures.unchanged
