use Rattle.std.proofs.Common.{◌≡◌, ◌+◌, ◌*◌, rules}
use Rattle.std.specs.Prelude.{codes}
use Rattle.ioa_paper.specs.Papers.{and_text}
use Rattle.ioa_show.specs.Frames.{capped}
use Rattle.ioa_show.specs.Marks.{attribute, last_start}
use Rattle.ioa_show.specs.declared.frame.TheConstants.{LINE}
use Rattle.ioa_show.proofs.breaks.put_last_start.Goals as goal

pub returns : goal.returns
unfolding last_start
returns g c =
    let below = capped (c.args.frame.base + capped (c.args.position * LINE)) in
    let down : c.put_number.new.paper ≡ and_text c.args.paper.now (attribute (codes "<text class=\"b\" x=\"72\" y=\"") below) = search rules in
    down
