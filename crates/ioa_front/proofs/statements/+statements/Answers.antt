use Rattle.std.proofs.Common.{◌≤◌, length, append_assoc}
use Rattle.ioa_front.proofs.Elses.{else_spelled}
use Rattle.ioa_front.proofs.statements.+statements.Goals as goal

pub put_else-returns-in_ok-put_mark-in-len1-up : goal.put_else-returns-in_ok-put_mark-in-len1-up
put_else-returns-in_ok-put_mark-in-len1-up t c =
    let least : 1 ≤ length c.args.rest.now.items = rw c.as_slice.ensures.value at c.in-len1-up.len_at_least in
    rw (else_spelled c.args.rest.now.items _ least) (rw (c.in_ok-put_mark-in-len1-up.ensures, append_assoc) at c.put_statements.ensures)
