use Rattle.std.proofs.Common.{◌≡◌, drop, false}
use Rattle.ioa_paper.specs.Papers.{and_text}
use Rattle.ioa_show.specs.Behind.{told_behind}
use Rattle.ioa_show.specs.Start.{conf_variables}
use Rattle.ioa_show.proofs.start.put_variables.Given as goal

-- what is written so far, and then what is left
abbrev pub invariant-loop-conf : goal.invariant-loop-conf
invariant-loop-conf g l =
    and_text l.paper (told_behind (conf_variables l.names) l.behind (drop l.conf-index l.confs))
    ≡ and_text l.initial.paper (told_behind (conf_variables l.names) false l.confs)
