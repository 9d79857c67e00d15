-- A part at which a step or a turn stops, as the code finds it (view).
use Rattle.std.specs.Prelude.{map}
use Rattle.ioa_terms.specs.View.{term_of}
use Rattle.ioa_reasons.specs.PlainReasons.{PlainFault, named_value}
use Rattle.ioa_reasons.specs.declared.found.FoundFault.{FoundFault}

abbrev pub fault_found : FoundFault → PlainFault
fault_found f = record { part = term_of f.part.now; values = map named_value f.values.items; value = f.value }
