-- Which nodes a worker has, and which ending is whose (profile): node k belongs to worker k mod N.
use Rattle.std.specs.Prelude.{◌≡◌, ℕ, ◌/◌, ◌%◌, ◌<◌, ◌≤◌, ℤ, List, length, map, replicate, Some}
use Rattle.std.specs.List.{slice_get}
use Rattle.std.specs.Option.{option_and_then, unwrap_or}
use Rattle.ioa_record.specs.declared.ending.Ending.{Ending}
use Rattle.ioa_record.specs.declared.ending.Ending.TheVariants.{Fault}
use Rattle.ioa_record.specs.declared.ending.NodeFault.TheVariants.{Memory, NoThread}
use Rattle.ioa_system.specs.Systems.{SystemParts}
use Rattle.ioa_solo.specs.declared.endings.TheConstants.{GREATEST_NODES}

-- a worker's nodes and how they ended, as contracts see its slot
pub record PlainSlot : Type 0 where
  pub nodes : List ℤ
  pub endings : List Ending

-- the numbers of a system's nodes
abbrev pub node_numbers : SystemParts → List ℤ
node_numbers s = map (λ p. p.node) s.programs

-- the nodes of a worker: node k of all belongs to worker k mod N, which has it at place k / N, as long as there is room
pub record AreNodesOf (all : List ℤ) (worker workers room : ℕ) (nodes : List ℤ) : Type 0 where
  pub few : length nodes ≤ room
  pub each : (k : ℕ) → k % workers ≡ worker → k / workers < room → slice_get nodes (k / workers) ≡ slice_get all k

-- the slot of a worker whose thread has not begun
pub record IsUnbegun (all : List ℤ) (worker workers : ℕ) (slot : PlainSlot) : Type 0 where
  pub nodes : AreNodesOf all worker workers GREATEST_NODES slot.nodes
  pub endings : slot.endings ≡ replicate (length slot.nodes) (Fault NoThread)

-- the slots of workers whose threads have not begun, worker 0 first
abbrev pub AreUnbegun : List ℤ → ℕ → List PlainSlot → Type 0
AreUnbegun all workers slots =
    (worker : ℕ) (slot : PlainSlot) → slice_get slots worker ≡ Some slot → IsUnbegun all worker workers slot

-- the ending of node k, which its worker has at place k / N: want of memory, if there was no room for it
abbrev pub ending_in : List PlainSlot → ℕ → Ending
ending_in slots k =
    unwrap_or
    (option_and_then (λ s. slice_get s.endings (k / length slots)) (slice_get slots (k % length slots)))
    (Fault Memory)

-- the endings of so many nodes, node 0 first
pub record AreEndingsIn (slots : List PlainSlot) (count : ℕ) (endings : List Ending) : Type 0 where
  pub many : length endings ≡ count
  pub each : (k : ℕ) → k < count → slice_get endings k ≡ Some (ending_in slots k)
