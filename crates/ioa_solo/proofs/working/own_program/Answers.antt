use Rattle.std.proofs.Common.{◌≡◌, Some, rules}
use Rattle.ioa_sharing.specs.Named.{shared_of_value}
use Rattle.ioa_solo.specs.Works as spec
use Rattle.ioa_solo.proofs.OwnPrograms.{found_own}
use Rattle.ioa_solo.proofs.working.own_program.Goals as goal

pub returns-in-Some-clause-own : goal.returns-in-Some-clause-own
returns-in-Some-clause-own g c =
    let programs = (shared_of_value c.args.system.now).programs in
    let found : spec.program_of c.args.node programs ≡ Some c.in-Some.program.now = search rules in
    found_own c.args.node programs c.in-Some.program.now found
