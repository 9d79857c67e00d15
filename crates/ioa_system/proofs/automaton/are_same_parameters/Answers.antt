use Rattle.std.proofs.Common.{◌≡◌, min, length, map, refl, arith}
use Rattle.ioa_operators.proofs.SameLists.{same_ended}
use Rattle.ioa_source.specs.TextView.{declared_of}
use Rattle.ioa_system.specs.SameParts.{same_parameters}
use Rattle.ioa_system.proofs.automaton.are_same_parameters.Goals as goal

-- the shorter list has ended
pub returns : goal.returns
returns c =
    let at_end : c.loop-position.position ≡ min (length c.args.parameters.now.items) (length c.args.others.now.items) = omega arith in
    let ended = same_ended (λ vs ws. same_parameters (map declared_of vs) (map declared_of ws)) refl (λ w ws. refl) (λ v vs. refl) c.args.parameters.now.items c.args.others.now.items c.loop-position.position at_end in
    cc (c.args.parameters.now.ok.0, c.args.others.now.ok.0)
