-- Configurations that are moved along a schedule (form).
use Rattle.std.specs.Prelude.{◌≡◌, List, Result, Ok}
use Rattle.ioa_values.specs.Outcome.{and_then}
use Rattle.ioa_actions.specs.declared.component.Component.{Component}
use Rattle.ioa_actions.specs.declared.fault.StepFault.{StepFault}
use Rattle.ioa_transitions.specs.Entries.{PlainEntry}
use Rattle.ioa_compose.specs.declared.configuration.Conf.{Conf}
use Rattle.ioa_compose.specs.Composition.{changes_of, component_names, find_confs, put_confs}

-- the law of a course: its index is of the components whose configurations it has
abbrev pub IsIndexOf : List Component → List Conf → Type 0
IsIndexOf ks cs = ks ≡ component_names cs

-- the configurations after the own steps of these components by an entry, all others as they were, or the first fault
-- (Lynch 8.2)
abbrev pub moved : List Component → PlainEntry → List Conf → Result (List Conf) StepFault
moved ks e cs = and_then (changes_of e (find_confs ks cs)) (λ ds. Ok (put_confs ds cs))
