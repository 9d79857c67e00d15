use Rattle.std.proofs.Common.{◌≡◌, ◌++◌, map, drop}
use Rattle.ioa_source.specs.TextView.{declared_of}
use Rattle.ioa_sections.proofs.nodes.shapes_of.Given as goal

-- the shapes so far, and then those that are left
abbrev pub invariant-loop-parameter : goal.invariant-loop-parameter
invariant-loop-parameter l =
    l.shapes.items ++ map (λ d. d.shape) (map declared_of (drop l.parameter-index l.parameters)) ≡ map (λ d. d.shape) (map declared_of l.parameters)
