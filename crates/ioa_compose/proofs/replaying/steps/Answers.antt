use Rattle.std.proofs.Common.{◌≡◌, Ok, arith, length, refl}
use Rattle.std.proofs.lemmas.Option.{slice_get_read}
use Rattle.ioa_compose.specs.Composition.{joint_answer}
use Rattle.ioa_compose.proofs.Replays.{replay-next}
use Rattle.ioa_compose.proofs.replaying.steps.Goals as goal

pub loop-position-preserved : goal.loop-position-preserved
loop-position-preserved c =
    let entries = c.args.entries.now in
    let position = c.loop-position.position in
    let entry = c.index-entries-position.result in
    let stepped : joint_answer entry c.loop-position.confs.items ≡ Ok c.in-Ok.next.items = cc (c.as_slice.ensures.value, c.in-Ok.ensures) in
    replay-next position entries entry c.args.start.items c.loop-position.confs.items c.in-Ok.next.items
    (slice_get_read entries (length entries) position entry refl (omega arith) (cc c.index-entries-position.is))
    c.loop-position.invariant
    stepped
