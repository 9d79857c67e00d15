use Rattle.std.proofs.Common.{◌≡◌, ◌∙◌, min, length, map, refl, arith}
use Rattle.std.specs.Arc.{arc_value}
use lib.Pointwise.{pointwise}
use Rattle.ioa_operators.proofs.SameLists.{same_ended}
use Rattle.ioa_compose.specs.SameConfs.{same_conf}
use Rattle.ioa_compose.specs.Start.{script_start}
use Rattle.ioa_starts.proofs.starting.are_script_starts.Goals as goal

-- the shorter list has ended
pub returns : goal.returns
returns c =
    let at_end : c.loop-position.position ≡ min (length c.args.confs.now) (length c.args.programs.now) = omega arith in
    same_ended (λ cs xs. pointwise same_conf cs (map (script_start c.args.system.now.scripts) (map arc_value xs)))
    refl (λ x xs. refl) (λ k cs. refl)
    c.args.confs.now c.args.programs.now c.loop-position.position at_end
    ∙ c.loop-position.invariant
