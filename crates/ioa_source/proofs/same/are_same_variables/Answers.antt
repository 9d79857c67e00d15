use Rattle.std.proofs.Common.{◌≡◌, min, length, map, refl, arith}
use lib.Pointwise.{pointwise}
use Rattle.ioa_operators.proofs.SameLists.{same_ended}
use Rattle.ioa_source.specs.SameTexts.{same_variable}
use Rattle.ioa_source.specs.TextView.{variable_of}
use Rattle.ioa_source.proofs.same.are_same_variables.Goals as goal

-- the shorter list has ended
pub returns : goal.returns
returns g c =
    let at_end : c.loop-position.position ≡ min (length c.args.variables.now.items) (length c.args.others.now.items) = omega arith in
    let ended = same_ended (λ ps qs. pointwise (same_variable g.N.PartialEq.eq g.C.PartialEq.eq g.D.PartialEq.eq) (map variable_of ps) (map variable_of qs)) refl (λ q qs. refl) (λ p ps. refl) c.args.variables.now.items c.args.others.now.items c.loop-position.position at_end in
    cc (c.args.variables.now.ok.0, c.args.others.now.ok.0)
