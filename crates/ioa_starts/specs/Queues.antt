-- The queues among the start configurations of a system.
use Rattle.std.specs.Prelude.{List, ◌++◌, map}
use Rattle.ioa_system.specs.Systems.{SystemParts}
use Rattle.ioa_compose.specs.declared.configuration.Conf.{Conf}
use Rattle.ioa_compose.specs.Start.{channel_start, script_start}

-- those of the channels, and behind them those of the scripts (form)
abbrev pub queue_starts : SystemParts → List Conf
queue_starts s = map channel_start s.channels ++ map (script_start s.scripts) s.programs
