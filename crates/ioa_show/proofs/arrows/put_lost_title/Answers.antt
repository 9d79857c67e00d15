use Rattle.std.proofs.Common.{◌≡◌, rules}
use Rattle.std.specs.Prelude.{codes}
use Rattle.std.specs.Fmt.{decimal}
use Rattle.ioa_actions.specs.ActionText.{entry_text}
use Rattle.ioa_paper.specs.Papers.{and_text}
use Rattle.ioa_show.specs.Arrows.{lost_title}
use Rattle.ioa_show.proofs.Puts.{five}
use Rattle.ioa_show.proofs.arrows.put_lost_title.Goals as goal

pub returns : goal.returns
unfolding lost_title
returns g c =
    let words = entry_text c.args.names.now c.args.entry.now.action c.args.entry.now.chosen in
    let told : c.put_entry.new.paper ≡ and_text c.put-2.new.self words = search rules in
    five c.args.paper.now c.put.new.self c.put_number.new.self c.put-2.new.self c.put_entry.new.paper c.put-3.new.self
    (codes "><title>") (decimal c.args.position) (codes " ") words
    (codes " ; not received</title></line>\n") c.put.ensures c.put_number.ensures c.put-2.ensures told
    c.put-3.ensures
