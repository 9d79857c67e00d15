use Rattle.std.proofs.Common.{◌≡◌, take}
use Rattle.std.specs.List.{flat_map}
use Rattle.ioa_paper.specs.Papers.{and_text}
use Rattle.ioa_show.specs.States.{conf_fields}
use Rattle.ioa_show.proofs.state_parts.put_confs.Given as goal

-- what is written so far are the components gone by
abbrev pub invariant-loop-conf : goal.invariant-loop-conf
invariant-loop-conf g l = l.paper ≡ and_text l.initial.paper (flat_map (conf_fields l.names l.course) (take l.conf-index l.confs))
