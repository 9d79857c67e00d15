use Rattle.std.proofs.Common.{◌≡◌, rules}
use Rattle.std.specs.Prelude.{codes}
use Rattle.ioa_actions.specs.ActionText.{entry_text}
use Rattle.ioa_paper.specs.Papers.{and_text}
use Rattle.ioa_show.specs.Steps.{end_told}
use Rattle.ioa_show.proofs.Puts.{three}
use Rattle.ioa_show.proofs.steps.put_end.Goals as goal

pub returns : goal.returns
unfolding end_told
returns g c =
    let words = entry_text c.args.names.now c.args.entry.now.action c.args.entry.now.chosen in
    let told : c.put_entry.new.paper ≡ and_text c.put.new.self words = search rules in
    three c.args.paper.now c.put.new.self c.put_entry.new.paper c.put-2.new.self (codes "],\"text\":\"") words
    (codes "\"}\n") c.put.ensures told c.put-2.ensures
