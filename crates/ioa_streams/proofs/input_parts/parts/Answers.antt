use Rattle.std.proofs.Common.{◌≡◌, Some, rules}
use Rattle.ioa_streams.specs.Parts.{mark_in}
use Rattle.ioa_streams.proofs.Marks.{mark_hyphen, mark_within}
use Rattle.ioa_streams.proofs.input_parts.parts.Goals as goal

pub parts_at-requires-clause-within : goal.parts_at-requires-clause-within
parts_at-requires-clause-within c =
    let found : mark_in c.args.input.now ≡ Some c.in-Some.place = search rules in
    mark_within c.in-Some.place c.args.input.now found

pub parts_at-requires-clause-hyphen : goal.parts_at-requires-clause-hyphen
parts_at-requires-clause-hyphen c =
    let found : mark_in c.args.input.now ≡ Some c.in-Some.place = search rules in
    mark_hyphen c.in-Some.place c.args.input.now found
