-- Calls, firings and choices whose terms are kept with their heights, as plain data (view).
use Rattle.std.specs.Prelude.{map}
use Rattle.ioa_terms.specs.PlainTerm.{firing, choice_with}
use Rattle.ioa_terms.specs.SortView.{sort_of}
use Rattle.ioa_terms.specs.View.{term_of, target_of}
use Rattle.ioa_source.specs.Sides.{SourceCall, SourceChoice, SourceFiring}
use Rattle.ioa_part_reader.specs.declared.built.BuiltChoice.{BuiltChoice}
use Rattle.ioa_part_reader.specs.declared.call.BuiltCall.{BuiltCall}
use Rattle.ioa_part_reader.specs.declared.call.BuiltFiring.{BuiltFiring}

abbrev pub built_call_of : BuiltCall → SourceCall
built_call_of c = record { name = c.name; arguments = map term_of c.arguments.tree.items }

abbrev pub built_firing_of : BuiltFiring → SourceFiring
built_firing_of f = firing f.kind f.call.name tt (map term_of f.call.arguments.tree.items)

abbrev pub built_choice_of : BuiltChoice → SourceChoice
built_choice_of c =
    choice_with (target_of c.target.tree) c.name (sort_of c.sort) tt (term_of c.condition.tree) (term_of c.yields.tree)
