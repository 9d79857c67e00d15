use Rattle.std.proofs.Common.{arith}
use Rattle.ioa_compose.proofs.Positions.{position-within, put_conf-position, put_conf-no_position}
use Rattle.ioa_compose.proofs.composition.put_conf.Goals as goal

pub index_mut-requires : goal.index_mut-requires
index_mut-requires c =
    let all = c.as_slice.result.now in
    omega (arith, position-within c.args.conf all c.component.result c.in-Some.position c.component.ensures c.in-Some.ensures, c.as_slice.ensures.len)

pub returns-in-Some : goal.returns-in-Some
returns-in-Some c = rw (← c.as_slice.ensures.value) (put_conf-position c.args.conf _ c.component.result c.in-Some.position c.component.ensures c.in-Some.ensures)

pub returns-in_default : goal.returns-in_default
returns-in_default c = rw (← c.as_slice.ensures.value) (put_conf-no_position c.args.conf _ c.component.result c.component.ensures c.in_default.ensures)
