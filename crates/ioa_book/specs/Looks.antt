-- Looks at a node (profile): what a node has to do with, as a book holds it.
use Rattle.std.specs.Prelude.{◌≡◌, ℕ, ℤ, if◌then◌else◌, List, length, map, filter, is_some, Result, Ok, Err, refl}
use Rattle.std.specs.Coded.{Coded, code_by, coded×, coded_ℕ, coded_ℤ, coded_list}
use Rattle.ioa_actions.specs.declared.component.Component.TheVariants.{Node}
use Rattle.ioa_transitions.specs.Entries.{PlainEntry}
use Rattle.ioa_compose.specs.Composition.{component_of}
use Rattle.ioa_compose.specs.declared.configuration.Conf.{Conf}
use Rattle.ioa_commits.specs.Books.{PlainBook, held_of, states_after}
use Rattle.ioa_index.specs.Own.{concerns}
use Rattle.ioa_commits.specs.Versions.{PlainVersionedConf, versioned_conf_code, with_version}
use Rattle.ioa_book.specs.declared.outcome.LookFault.{LookFault}
use Rattle.ioa_book.specs.declared.outcome.LookFault.TheVariants.{Unknown}

-- a look at a node: the node, the length of the log, and the configurations that it has to do with
pub record PlainSnapshot : Type 0 where
  pub node : ℤ
  pub length : ℕ
  pub reads : List PlainVersionedConf

abbrev pub plain_snapshot : ℤ → ℕ → List PlainVersionedConf → PlainSnapshot
plain_snapshot n l rs = record { node = n; length = l; reads = rs }

abbrev pub plain_snapshot_code : Coded PlainSnapshot
plain_snapshot_code =
    code_by (ℤ × (ℕ × List PlainVersionedConf)) (coded× coded_ℤ (coded× coded_ℕ (coded_list versioned_conf_code)))
    (λ s. (s.node, (s.length, s.reads))) (λ t. plain_snapshot t.0 t.1.0 t.1.1) (λ _. refl)

-- the configurations after a schedule that a node has to do with, with their versions
abbrev pub reads_after : ℤ → List Conf → List PlainEntry → List PlainVersionedConf
reads_after n start log = map (with_version log) (filter (λ c. concerns n (component_of c)) (states_after start log))

-- the look at a node after a schedule
abbrev pub snapshot_after : ℤ → List Conf → List PlainEntry → PlainSnapshot
snapshot_after n start log = plain_snapshot n (length log) (reads_after n start log)

-- a look at a node of a book as it is
abbrev pub IsLookAt : PlainBook → ℤ → PlainSnapshot → Type 0
IsLookAt b n s = s ≡ snapshot_after n b.start b.log

-- the result of a look at a node: there may be no such node
abbrev pub look_answer : PlainBook → ℤ → Result PlainSnapshot LookFault
look_answer b n =
    if is_some (held_of b (Node n)) then Ok (snapshot_after n b.start b.log) else Err Unknown
