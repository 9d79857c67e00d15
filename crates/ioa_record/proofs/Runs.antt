-- Executions that go on by one more entry, and what a schedule that replays says of a run.
use Rattle.std.proofs.Common.{◌≡◌, ℕ, ◌<◌, List, [], ◌∷◌, ◌++◌, Ok, map, length, length-append, refl, arith}
use Rattle.std.specs.List.{AllByRecursion}
use Rattle.ioa_transitions.specs.Entries.{PlainEntry}
use Rattle.ioa_actions.specs.declared.component.Component.TheVariants as component
use Rattle.ioa_actions.specs.declared.component.ChannelKind.TheVariants.{Ordered}
use Rattle.ioa_source.specs.declared.declaration.Channel.{Channel}
use Rattle.ioa_system.specs.Declarations.{IsWellDeclared}
use Rattle.ioa_system.specs.Systems.{ScriptParts, SystemParts}
use Rattle.ioa_channels.specs.declared.queue.Item.TheVariants.{Stimulus}
use Rattle.ioa_channels.specs.Queues.{queue_state}
use Rattle.ioa_compose.specs.declared.configuration.Conf.{Conf}
use Rattle.ioa_compose.specs.Composition.{joint_answer}
use Rattle.ioa_compose.specs.Start.{start}
use Rattle.ioa_compose.specs.IsStart.{IsStart, StartsEmpty, StartsScripted}
use Rattle.ioa_compose.specs.Automata.{IsExecution}
use Rattle.ioa_compose.specs.JointStep.{IsJointStep}
use Rattle.ioa_compose.specs.Steps.{IsStep}
use Rattle.ioa_compose.specs.Channels.{Delivers}
use Rattle.ioa_compose.specs.Scripts.{TakesBeginning}
use Rattle.ioa_compose.proofs.Replays.{replay-push}
use Rattle.ioa_compose.proofs.Projections.{projects, replays}
use Rattle.ioa_compose.proofs.Deliveries.{hands_out_from_empty, takes_in_order}
use Rattle.ioa_compose.proofs.Starts.{is_start, start_state}
use Rattle.ioa_record.specs.declared.ending.Ending.{Ending}
use Rattle.ioa_record.specs.declared.record.Record.{Record}
use Rattle.ioa_record.specs.Recorded.{ReplaysWithin, IsRecordOf, IsRunOf}

-- an execution that is shorter than the limit goes on by a step
pub ReplaysWithin-push : (limit : ℕ) (from : List Conf) (entries : List PlainEntry) (entry : PlainEntry) (states next : List Conf) → ReplaysWithin limit from entries states → joint_answer entry states ≡ Ok next → length entries < limit → ReplaysWithin limit from (entries ++ entry ∷ []) next
ReplaysWithin-push limit from entries entry states next x e room = record {
  leads = replay-push entries entry from states next x.leads e;
  within = omega (arith, length-append entries (entry ∷ []));
}

-- in an execution each channel that was empty at the start delivers what is sent on it
each_channel : (entries : List PlainEntry) (from confs : List Conf) → IsExecution (IsJointStep IsStep) from entries confs → (cs : List Channel) →
    AllByRecursion (StartsEmpty from) cs → AllByRecursion (Delivers entries confs) cs
each_channel entries from confs h [] empty = tt
each_channel entries from confs h (c ∷ cs) empty =
    let end = hands_out_from_empty entries from confs h c.from c.to (queue_state (component.Channel c.from c.to) c.kind []) empty.0 refl in
    (record { queue = end.0; held = end.1; handed_out = end.2 }, each_channel entries from confs h cs empty.1)

-- and each script that had stimuli at the start hands out a beginning of them
each_script : (entries : List PlainEntry) (from confs : List Conf) → IsExecution (IsJointStep IsStep) from entries confs → (cs : List ScriptParts) →
    AllByRecursion (StartsScripted from) cs → AllByRecursion (TakesBeginning entries confs) cs
each_script entries from confs h [] starts = tt
each_script entries from confs h (c ∷ cs) starts =
    let end = takes_in_order entries from confs h c.node (queue_state (component.Script c.node) Ordered (map Stimulus c.stimuli)) starts.0 in
    (record { queue = end.0; held = end.1; order = end.2 }, each_script entries from confs h cs starts.1)

-- what a run of a system leaves, if that declares each thing once
pub is_run_of : (s : SystemParts) (limit : ℕ) (r : Record) (endings : List Ending) → IsWellDeclared s → IsRecordOf s limit r endings → IsRunOf s limit r endings
is_run_of s limit r endings w left =
    let begins : IsStart s (start s) = is_start s w in
    let execution : IsExecution (IsJointStep IsStep) (start s) r.schedule r.states.items = replays r.schedule (start s) r.states.items (start_state s w) left.replayed.leads in
    record {
      begins = begins;
      execution = execution;
      projections = projects IsStep r.schedule (start s) r.states.items execution;
      channels = each_channel r.schedule (start s) r.states.items execution s.channels begins.channels;
      scripts = each_script r.schedule (start s) r.states.items execution s.scripts begins.scripts;
      left = left;
    }
