-- The tests of starts find out what they are to find out.
use Rattle.std.proofs.Common.{◌≡◌, ◌∙◌, ◌≤◌, ℕ, Bool, ◌&&◌, List, [], ◌∷◌, ◌++◌, ◌==◌, length, take, drop, map, refl, ap, arith, append_assoc}
use Rattle.std.specs.Bool.{Decides}
use Rattle.std.proofs.lemmas.Bool.Decides.{nat_tests}
use Rattle.std.proofs.lemmas.List.{length-map}
use Rattle.std.proofs.lemmas.Slice.Eq.{slice_eq-Decides}
use Rattle.std.proofs.Math.Bool.{and_assoc}
use lib.Pointwise.{pointwise}
use Rattle.ioa_values.specs.Data.{Data}
use Rattle.ioa_actions.specs.Actions.{same_node_action}
use Rattle.ioa_actions.specs.declared.action.NodeAction.{NodeAction}
use Rattle.ioa_source.specs.declared.declaration.Channel.{Channel}
use Rattle.ioa_system.specs.Parts.{Parts}
use Rattle.ioa_system.specs.Systems.{SystemParts}
use Rattle.ioa_channels.specs.Queues.{queue_items, same_item}
use Rattle.ioa_channels.specs.declared.queue.Item.{Item}
use Rattle.ioa_channels.specs.declared.queue.Item.TheVariants.{Stimulus}
use Rattle.ioa_compose.specs.declared.configuration.Conf.{Conf}
use Rattle.ioa_compose.specs.SameConfs.{same_conf}
use Rattle.ioa_compose.specs.Start.{start, node_start, channel_start, script_start}
use Rattle.ioa_compose.proofs.SameConfs.{same_conf_is}
use Rattle.ioa_starts.specs.Queues.{queue_starts}
use Rattle.ioa_starts.proofs.Halves.{compared_in_halves}

-- configurations that are the same as those of the start, one by one, are the start
pub same_start_is : (cs : List Conf) (s : SystemParts) → Decides (pointwise same_conf cs (start s)) (cs ≡ start s)
same_start_is cs s = slice_eq-Decides same_conf_is cs (start s) _ refl

-- the items of a queue are the same as some stimuli if its stimuli are, and it has no message
same_stimuli : (s t : List NodeAction) (ms : List Data) →
    (pointwise same_node_action s t && (length ms == 0)) ≡ pointwise same_item (queue_items s ms) (map Stimulus t)
same_stimuli [] [] [] = refl
same_stimuli [] [] (m ∷ ms) = grind (arith, nat_tests)
same_stimuli [] (b ∷ t) [] = refl
same_stimuli [] (b ∷ t) (m ∷ ms) = refl
same_stimuli (a ∷ s) [] ms = refl
same_stimuli (a ∷ s) (b ∷ t) ms =
    and_assoc (same_node_action a b) (pointwise same_node_action s t) (length ms == 0)
    ∙ ap (λ (x : Bool). same_node_action a b && x) (same_stimuli s t ms)

-- the same of a queue whose items are these stimuli and messages
pub same_stimuli_by : (items : List Item) (s t : List NodeAction) (ms : List Data) (first second : Bool) →
    items ≡ queue_items s ms → first ≡ pointwise same_node_action s t → second ≡ (length ms == 0) →
    (first && second) ≡ pointwise same_item items (map Stimulus t)
same_stimuli_by items s t ms first second are_parts is_first is_second =
    let whole = same_stimuli s t ms in
    cc

-- queues are those of a start if those in front are of its channels, and those behind them its scripts
pub queue_starts_by : (s : SystemParts) (cs front back : List Conf) (ds : List Channel) (ps : List Parts) (first second : Bool) →
    ds ≡ s.channels → ps ≡ s.programs → length ds ≤ length cs → front ≡ take (length ds) cs → back ≡ drop (length ds) cs →
    first ≡ pointwise same_conf front (map channel_start ds) → second ≡ pointwise same_conf back (map (script_start s.scripts) ps) →
    (first && second) ≡ pointwise same_conf cs (queue_starts s)
queue_starts_by s cs front back ds ps first second of_channels of_programs within is_front is_back is_first is_second =
    let length_of : length (map channel_start ds) ≡ length ds = length-map ds channel_start in
    let halves = compared_in_halves same_conf cs (map channel_start ds) (map (script_start s.scripts) ps) (omega arith) in
    cc

-- configurations are a start if those in front are of its nodes, and those behind them its queues
pub start_by : (s : SystemParts) (cs front back : List Conf) (ps : List Parts) (n : ℕ) (first second : Bool) →
    ps ≡ s.programs → n ≡ length ps → n ≤ length cs → front ≡ take n cs → back ≡ drop n cs →
    first ≡ pointwise same_conf front (map node_start ps) → second ≡ pointwise same_conf back (queue_starts s) →
    (first && second) ≡ pointwise same_conf cs (start s)
start_by s cs front back ps n first second of_programs count within is_front is_back is_first is_second =
    let length_of : length (map node_start ps) ≡ length ps = length-map ps node_start in
    let halves = compared_in_halves same_conf cs (map node_start ps) (queue_starts s) (omega arith) in
    let whole : start s ≡ map node_start s.programs ++ queue_starts s =
    append_assoc (map node_start s.programs) (map channel_start s.channels) (map (script_start s.scripts) s.programs) in
    cc
