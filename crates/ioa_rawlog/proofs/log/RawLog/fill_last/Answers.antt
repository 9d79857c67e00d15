use Rattle.std.proofs.Common.{◌<◌, ◌%◌, ◌++◌, [], ◌∷◌, ap, ◌∙◌, length, arith}
use lib.ListN.{length-append}
use Rattle.ioa_rawlog.specs.Blocks.{joined}
use Rattle.ioa_rawlog.proofs.Laying.{last_room, grown}
use Rattle.ioa_rawlog.proofs.log.RawLog.fill_last.Goals as goal

pub fill-requires : goal.fill-requires
fill-requires g c =
    let laid = c.self.invariant in
    let last = c.last_mut.result.now in
    let room = last_room c.self.inside.nodes.items last laid.0 c.last_mut.ensures.value (omega (arith, ap length c.self.view_is, c.requires.room)) in
    omega (arith, last.ok.0, room)

pub invariant_of-self : goal.invariant_of-self
invariant_of-self g c =
    let laid = c.self.invariant in
    let bs = c.self.inside.nodes.items in
    let x = c.args.item in
    let left : 0 < length (joined bs) % 64 = omega (arith, ap length c.self.view_is, c.requires.room) in
    let more = grown bs c.last_mut.result.now c.fill.new.block x laid.0 c.last_mut.ensures.value left c.fill.ensures.items c.fill.ensures.room in
    (more.0, omega (arith, laid.1, ap length more.1, length-append (joined bs) (x ∷ [])))

pub returns : goal.returns
returns g c =
    let laid = c.self.invariant in
    let bs = c.self.inside.nodes.items in
    let x = c.args.item in
    let left : 0 < length (joined bs) % 64 = omega (arith, ap length c.self.view_is, c.requires.room) in
    let more = grown bs c.last_mut.result.now c.fill.new.block x laid.0 c.last_mut.ensures.value left c.fill.ensures.items c.fill.ensures.room in
    more.1 ∙ ap (λ ys. ys ++ x ∷ []) c.self.view_is
