use Rattle.std.proofs.Common.{ap, List, map, subst, false, ◌++◌}
use Rattle.ioa_commits.specs.Books.{PlainBook}
use Rattle.ioa_transitions.specs.Entries.{PlainEntry}
use Rattle.ioa_tell.specs.Nodes.{progress_in}
use Rattle.ioa_tell.specs.Told.{TellsSuch}
use Rattle.ioa_tell.specs.Visits.{AreGoneRound}
use Rattle.ioa_tell.proofs.Tellings.{on_map}
use Rattle.ioa_tell.proofs.Visiting.{run_told}
use Rattle.ioa_tell.proofs.telling.tell_nodes.Goals as goal

pub returns-in_ok-tell_cut_off-in-None : goal.returns-in_ok-tell_cut_off-in-None
returns-in_ok-tell_cut_off-in-None g c =
    let begins = ap (λ (b : PlainBook). b.start) c.requires.fresh in
    let nothing = ap (λ (b : PlainBook). b.log) c.requires.fresh in
    let told = subst (λ (l : List PlainEntry). TellsSuch g.T.Tells.hears c.args.book.now c.go_rounds.new.book l c.go_rounds.new.left c.args.out.now c.go_rounds.new.out
    (AreGoneRound false c.args.book.now.start (c.args.book.now.log ++ l) c.args.endings.now c.args.book.now.log (map progress_in c.args.nodes.now) (map progress_in c.go_rounds.new.nodes))) c.walk-left.ensures.rest c.in_ok-go_rounds.ensures in
    let ended = c.have_ended_as-have_ended.ensures c.if-have_ended.true in
    record { told = on_map c.tell_endings.result (λ h. run_told g.T.Tells.hears c.args.endings.now _ _ c.args._system.now c.args.attempts _ _ _ _ _ _ _ _ begins nothing c.in-None.ensures.steps.0 c.requires.before told ended c.in_ok-tell_cut_off-in-None.ensures h) c.tell_endings.ensures }
