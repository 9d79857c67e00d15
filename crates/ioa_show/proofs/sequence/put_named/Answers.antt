use Rattle.std.proofs.Common.{◌≡◌, rules}
use Rattle.std.specs.Prelude.{codes}
use Rattle.std.specs.Fmt.{signed_decimal}
use Rattle.ioa_show.specs.Sequences.{participant_text}
use Rattle.ioa_paper.specs.Papers.{and_text}
use Rattle.ioa_show.proofs.Puts.{seven}
use Rattle.ioa_show.proofs.sequence.put_named.Goals as goal

pub returns : goal.returns
unfolding participant_text
returns g c =
    let first : c.put_number.new.self ≡ and_text c.put.new.self (signed_decimal c.args.node) = search rules in
    let second : c.put_number-2.new.self ≡ and_text c.put-2.new.self (signed_decimal c.args.node) = search rules in
    seven c.args.paper.now c.put.new.self c.put_number.new.self c.put-2.new.self c.put_number-2.new.self c.put-3.new.self
    c.put-4.new.self c.put-5.new.self (codes "    participant n") (signed_decimal c.args.node) (codes " as node ")
    (signed_decimal c.args.node) (codes ": ") c.args.name.now (codes "\n") c.put.ensures first
    c.put-2.ensures second c.put-3.ensures c.put-4.ensures c.put-5.ensures
