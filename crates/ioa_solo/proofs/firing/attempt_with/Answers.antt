use Rattle.ioa_solo.proofs.ToldFires.{entry_taken}
use Rattle.ioa_solo.proofs.SomeVisits.{misses_some, takes_some}
use Rattle.ioa_solo.proofs.firing.attempt_with.Goals as goal

pub returns-clause-entry : goal.returns-clause-entry
returns-clause-entry g c = entry_taken g.B.Board.opened c.attempt-result.result.0 (λ t. t.receipt.index) (λ t. t.receipt.entry) _ _ _ c.attempt-result.ensures.taken

pub returns-clause-takes : goal.returns-clause-takes
returns-clause-takes g c = takes_some g.B.Board.opened c.attempt-result.result.0 (λ t. t.receipt.index) (λ t. t.receipt.entry) _ _ _ c.attempt-result.ensures.taken

pub returns-clause-misses : goal.returns-clause-misses
returns-clause-misses g c = misses_some g.B.Board.opened c.attempt-result.result.0 (λ m. m.why) (λ m. m.proposal) _ _ _ c.attempt-result.ensures.missed
