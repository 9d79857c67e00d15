use Rattle.std.proofs.Common.{rules}
use Rattle.ioa_part_reader.proofs.Depths.{sort_deeper}
use Rattle.ioa_part_reader.proofs.sort.+sort.Goals as goal

pub inner_sort-returns : goal.inner_sort-returns
inner_sort-returns t c = rw (sort_deeper c.args.room c.args.tokens.now c.if-room-eq0.false) (search rules)
