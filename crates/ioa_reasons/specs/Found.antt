-- A part of a test that is false, as the code finds it (view).
use Rattle.std.specs.Prelude.{map}
use Rattle.ioa_terms.specs.View.{term_of}
use Rattle.ioa_reasons.specs.PlainReasons.{named_value}
use Rattle.ioa_reasons.specs.Tests.{FalsePart}
use Rattle.ioa_reasons.specs.declared.falsified.Falsified.{Falsified}

abbrev pub false_part_found : Falsified → FalsePart
false_part_found f = record { test = f.test; part = term_of f.part.now; values = map named_value f.values.items }
