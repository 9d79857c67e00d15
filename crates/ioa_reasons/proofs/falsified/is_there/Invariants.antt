use Rattle.std.proofs.Common.{◌≡◌, map, drop}
use Rattle.std.specs.List.{list_any}
use Rattle.ioa_terms.specs.Bindings.{same_name}
use Rattle.ioa_reasons.specs.PlainReasons.{named_value}
use Rattle.ioa_reasons.proofs.falsified.is_there.Given as goal

-- no name gone by is it
abbrev pub invariant-loop-known : goal.invariant-loop-known
invariant-loop-known l =
    list_any (λ n. same_name n.0 l.name) (map named_value (drop l.known-index l.values))
    ≡ list_any (λ n. same_name n.0 l.name) (map named_value l.values)
