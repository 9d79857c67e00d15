-- A book of commits (profile): where a run began, what was recorded since, and how much may be recorded.
use Rattle.std.specs.Prelude.{◌≡◌, ℕ, ◌≤◌, List, [], length, map, Option, Some, refl}
use Rattle.std.specs.Coded.{Coded, code_by, coded×, coded_ℕ, coded_list}
use Rattle.std.specs.Option.{option_map, unwrap_or}
use Rattle.ioa_actions.specs.declared.component.Component.{Component}
use Rattle.ioa_transitions.specs.Entries.{PlainEntry, entry_code}
use Rattle.ioa_compose.specs.Composition.{component_names, find_conf}
use Rattle.ioa_compose.specs.Executions.{replay}
use Rattle.ioa_compose.specs.contracts.configuration.Conf as conf
use Rattle.ioa_compose.specs.declared.configuration.Conf.{Conf}
use Rattle.ioa_commits.specs.Versions.{PlainVersionedConf, read_confs, with_version}

-- a book: the configurations at the start, the entries recorded since, and how many there may be
pub record PlainBook : Type 0 where
  pub start : List Conf
  pub log : List PlainEntry
  pub limit : ℕ

abbrev pub plain_book : List Conf → List PlainEntry → ℕ → PlainBook
plain_book start log limit = record { start = start; log = log; limit = limit }

abbrev pub plain_book_code : Coded PlainBook
plain_book_code =
    code_by (List Conf × (List PlainEntry × ℕ))
    (coded× (coded_list conf.the_row.coded) (coded× (coded_list entry_code) coded_ℕ))
    (λ b. (b.start, (b.log, b.limit))) (λ t. plain_book t.0 t.1.0 t.1.1) (λ _. refl)

-- the configurations after a schedule; the type of a book keeps that its log is one (Lynch 8.1)
abbrev pub states_after : List Conf → List PlainEntry → List Conf
states_after start log = unwrap_or (replay log start) []

-- the configurations that a book holds
abbrev pub states_held : PlainBook → List Conf
states_held b = states_after b.start b.log

-- the same with their versions
abbrev pub holdings : PlainBook → List PlainVersionedConf
holdings b = map (with_version b.log) (states_held b)

-- what a book holds of a component: its configuration, with its version
abbrev pub held_of : PlainBook → Component → Option PlainVersionedConf
held_of b k = option_map (with_version b.log) (find_conf k (states_held b))

-- the law of a book: its log replays from the start to the configurations held (Lynch 8.1), each has its version, the
-- index is of their components, and the log is no longer than the limit, which is at most a million
pub record IsKept (start : List Conf) (held : List PlainVersionedConf) (indexed : List Component)
    (log : List PlainEntry) (limit : ℕ) : Type 0 where
  pub replayed : replay log start ≡ Some (read_confs held)
  pub versions : held ≡ map (with_version log) (read_confs held)
  pub components : indexed ≡ component_names (read_confs held)
  pub within : length log ≤ limit
  pub limited : limit ≤ 1000000
