use Rattle.std.proofs.Common.{◌≡◌, ◌++◌, map, drop}
use Rattle.ioa_source.specs.TextView.{declared_of}
use Rattle.ioa_types.proofs.types.names_of.Given as goal

-- the names so far, and then those that are left
abbrev pub invariant-loop-field : goal.invariant-loop-field
invariant-loop-field l =
    l.names.items ++ map (λ f. f.name) (map declared_of (drop l.field-index l.field-items)) ≡ map (λ f. f.name) (map declared_of l.fields.items)
