-- Why the turn of a block meets a fault: the part of it at which it stops (profile).
use Rattle.std.specs.Prelude.{◌≡◌, ℤ, List, Some}
use Rattle.ioa_values.specs.Data.{Data}
use Rattle.ioa_system.specs.Parts.{Parts}
use Rattle.ioa_transitions.specs.Entries.{PlainEntry}
use Rattle.ioa_book.specs.Looks.{snapshot_after}
use Rattle.ioa_commits.specs.Versions.{read_confs}
use Rattle.ioa_compose.specs.declared.configuration.Conf.{Conf}
use Rattle.ioa_turns.specs.Sights.{Sight, bindings_in, sight_on}
use Rattle.ioa_reasons.specs.PlainReasons.{PlainFault, PlainStatementPlace}
use Rattle.ioa_reasons.specs.Stopping.{StopsAt}

-- a statement of a block stops at a part in what the block sees, when its own variables have some values
abbrev pub IsStuckIn : Sight → PlainStatementPlace → PlainFault → Type 0
IsStuckIn s place f = (own : List Data) × StopsAt place (bindings_in s own) f

-- the same of the block of a node with this program, among configurations
abbrev pub IsStuckOn : Parts → List Conf → PlainStatementPlace → PlainFault → Type 0
IsStuckOn p states place f = (s : Sight) × ((sight_on p states ≡ Some s) × IsStuckIn s place f)

-- the same of the block of a node, in what a look at the node reads after a schedule
pub record IsStuckTold (n : ℤ) (start : List Conf) (log : List PlainEntry) (place : PlainStatementPlace)
    (f : PlainFault) : Type 0 where
  pub program : Parts
  pub own : program.node ≡ n
  pub stuck : IsStuckOn program (read_confs (snapshot_after n start log).reads) place f
