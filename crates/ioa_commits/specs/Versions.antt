-- Versions of components (profile): how often a component has taken a step.
use Rattle.std.specs.Prelude.{ℕ, List, length, map, refl}
use Rattle.std.specs.Coded.{Coded, code_by, coded×, coded_ℕ}
use Rattle.ioa_actions.specs.declared.component.Component.{Component}
use Rattle.ioa_transitions.specs.Entries.{PlainEntry}
use Rattle.ioa_compose.specs.Composition.{component_of}
use Rattle.ioa_compose.specs.Executions.{projection_of}
use Rattle.ioa_compose.specs.contracts.configuration.Conf as conf
use Rattle.ioa_compose.specs.declared.configuration.Conf.{Conf}

-- a configuration, with the version of its component
pub record PlainVersionedConf : Type 0 where
  pub conf : Conf
  pub version : ℕ

abbrev pub versioned_conf : Conf → ℕ → PlainVersionedConf
versioned_conf c v = record { conf = c; version = v }

abbrev pub versioned_conf_code : Coded PlainVersionedConf
versioned_conf_code =
    code_by (Conf × ℕ) (coded× conf.the_row.coded coded_ℕ)
    (λ r. (r.conf, r.version)) (λ t. versioned_conf t.0 t.1) (λ _. refl)

-- the version of a component after a schedule: the length of the schedule's projection on it (Lynch 8.2)
abbrev pub version : Component → List PlainEntry → ℕ
version k log = length (projection_of k log)

-- a configuration with the version that its component has after a schedule
abbrev pub with_version : List PlainEntry → Conf → PlainVersionedConf
with_version log c = record { conf = c; version = version (component_of c) log }

-- the component of what was read
abbrev pub read_component : PlainVersionedConf → Component
read_component r = component_of r.conf

-- the configurations among what was read
abbrev pub read_confs : List PlainVersionedConf → List Conf
read_confs rs = map (λ r. r.conf) rs
