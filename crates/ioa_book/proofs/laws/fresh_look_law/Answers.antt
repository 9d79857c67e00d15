use Rattle.ioa_book.proofs.FreshLooks.{conf_seen, confs_shown, fresh_proposal, held_stands}
use Rattle.ioa_book.proofs.laws.fresh_look_law.Goals as goal

pub returns : goal.returns
returns c = record { shown = confs_shown; seen = conf_seen; proposal = fresh_proposal; stands = held_stands }
