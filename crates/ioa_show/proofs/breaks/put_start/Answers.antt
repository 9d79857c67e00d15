use Rattle.std.proofs.Common.{◌≡◌, ◌+◌, ◌*◌, rules}
use Rattle.std.specs.Prelude.{codes}
use Rattle.ioa_paper.specs.Papers.{and_text}
use Rattle.ioa_show.specs.Frames.{capped}
use Rattle.ioa_show.specs.Marks.{attribute, break_start, verdict_class}
use Rattle.ioa_show.specs.declared.frame.TheConstants.{LINE}
use Rattle.ioa_show.proofs.Puts.{three}
use Rattle.ioa_show.proofs.breaks.put_start.Goals as goal

pub returns : goal.returns
unfolding break_start
returns g c =
    let below = capped (c.args.frame.base + capped (c.args.position * LINE)) in
    let down : c.put_number.new.paper ≡ and_text c.put-2.new.self (attribute (codes "\" x=\"72\" y=\"") below) = search rules in
    three c.args.paper.now c.put.new.self c.put-2.new.self c.put_number.new.paper (codes "<text class=\"")
    (verdict_class c.args.verdict) (attribute (codes "\" x=\"72\" y=\"") below) c.put.ensures
    (rw (← c.class_of.ensures) c.put-2.ensures) down
