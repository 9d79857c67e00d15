use Rattle.std.proofs.Common.{◌≡◌, Some, rules}
use Rattle.ioa_streams.specs.ScheduleParts.{end_in}
use Rattle.ioa_streams.proofs.Ends.{end_feed, end_within}
use Rattle.ioa_streams.proofs.schedule_lines.before_end.Goals as goal

pub before-requires-clause-within : goal.before-requires-clause-within
before-requires-clause-within c =
    let found : end_in c.args.lines.now ≡ Some c.in-Some.place = search rules in
    end_within c.in-Some.place c.args.lines.now found

pub before-requires-clause-feed : goal.before-requires-clause-feed
before-requires-clause-feed c =
    let found : end_in c.args.lines.now ≡ Some c.in-Some.place = search rules in
    end_feed c.in-Some.place c.args.lines.now found
