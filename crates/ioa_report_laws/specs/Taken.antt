-- The entries that a system takes (profile).
use Rattle.std.specs.Prelude.{length}
use Rattle.ioa_system.specs.Systems.{SystemParts}
use Rattle.ioa_lines.specs.Lines.{IsActionOf}
use Rattle.ioa_printed_lines.specs.TextSystems.{IsNoMessage}
use Rattle.ioa_run_laws.specs.SimpleValues.{AreSimpleValues}
use Rattle.ioa_transitions.specs.Entries.{PlainEntry}

-- an entry that a node of a system takes: its action is one of the system's, sends and receives alone have the names of
-- messages, and each chosen value is a number, a truth value, or one of the constants of the system's text
pub record IsTaken (s : SystemParts) (e : PlainEntry) : Type 0 where
  pub action : IsActionOf s e.action
  pub message : IsNoMessage e.action
  pub chosen : AreSimpleValues (length s.names) e.chosen
