use Rattle.std.proofs.Common.{arith, refl}
use Rattle.ioa_compose.specs.Composition.{component_names, component_of}
use Rattle.ioa_course.proofs.Standing.{put_at, stands_in}
use Rattle.ioa_course.proofs.moving.put_in.Goals as goal

pub index_mut-requires : goal.index_mut-requires
index_mut-requires c =
    let all = c.args.confs.now.items in
    let there = stands_in (component_of c.args.conf) c.args.slot (component_names all) all refl c.requires in
    omega (arith, there.within, c.args.confs.now.ok.0)

pub returns : goal.returns
returns c = put_at c.args.conf c.args.slot c.args.confs.now.items c.requires
