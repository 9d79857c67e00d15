-- What a queue has in front of its messages (form).
use Rattle.std.specs.Prelude.{◌≡◌, List, [], drop}
use Rattle.ioa_actions.specs.declared.action.NodeAction.{NodeAction}
use Rattle.ioa_actions.specs.declared.component.ChannelKind.{ChannelKind}
use Rattle.ioa_actions.specs.declared.component.ChannelKind.TheVariants.{Ordered}
use Rattle.ioa_channels.specs.declared.head.Head.{Head}
use Rattle.ioa_channels.specs.declared.head.Head.TheVariants.{Nothing, Stimuli}

-- whether the queue keeps its order: that of a script does
abbrev pub kind_in : Head → ChannelKind
kind_in (Nothing kind) = kind
kind_in (Stimuli stimuli) = Ordered

-- the stimuli that are left
abbrev pub stimuli_in : Head → List NodeAction
stimuli_in (Nothing kind) = []
stimuli_in (Stimuli stimuli) = stimuli

-- the first stimulus has come out of the one, which leaves the other
pub record IsBehind (head rest : Head) : Type 0 where
  pub kind : kind_in rest ≡ kind_in head
  pub stimuli : stimuli_in rest ≡ drop 1 (stimuli_in head)
