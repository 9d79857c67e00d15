use Rattle.std.proofs.Common.{◌≡◌, [], map, drop}
use Rattle.ioa_source.specs.TextView.{declared_of}
use Rattle.ioa_types.specs.TypeTables.{are_new}
use Rattle.ioa_types.proofs.types.field_names.Given as goal

-- whether all names differ is whether those that are left do, from each other and from those before
abbrev pub invariant-loop-field : goal.invariant-loop-field
invariant-loop-field l =
    are_new [] (map (λ f. f.name) (map declared_of l.fields.items))
    ≡ are_new l.before (map (λ f. f.name) (map declared_of (drop l.field-index l.field-items)))
