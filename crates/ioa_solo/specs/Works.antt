-- What a worker does with nodes that it is given by their numbers (profile).
use Rattle.std.specs.Prelude.{◌≡◌, ◌⊎◌, ℕ, ℤ, Bool, List, [], ◌∷◌, map, flat_map, find, Option, Some, None}
use Rattle.std.specs.Option.{option_map, unwrap_or}
use Rattle.std.specs.Ordering.{int_eq}
use Rattle.ioa_commits.specs.Books.{PlainBook, plain_book}
use Rattle.ioa_compose.specs.Start.{start}
use Rattle.ioa_compose.specs.declared.configuration.Conf.{Conf}
use Rattle.ioa_record.specs.declared.ending.Ending.{Ending}
use Rattle.ioa_record.specs.declared.ending.Ending.TheVariants.{Fault}
use Rattle.ioa_record.specs.declared.ending.NodeFault.TheVariants as fault
use Rattle.ioa_passes.specs.Passes.{PlainPass}
use Rattle.ioa_sharing.specs.declared.named.Origin as Origin
use Rattle.ioa_system.specs.Declarations.{IsWellDeclared}
use Rattle.ioa_system.specs.Parts.{Parts}
use Rattle.ioa_system.specs.Systems.{SystemParts}
use Rattle.ioa_turns.specs.NodeTurns.{PlainProgress, progress_at}
use Rattle.ioa_solo.specs.Meets.{met_in}
use Rattle.ioa_solo.specs.Solo.{IsSoloCut, PlainCourse, course_of, ending_of, solo}
use Rattle.ioa_solo.specs.Told.{IsToldTo}
use Rattle.ioa_solo.specs.Visits.{PlainVisited, progress_in}
use Rattle.ioa_solo.specs.declared.visited.Visited.{Visited}

-- the program of node k, the first one if there are several
abbrev pub program_of : ℤ → List Parts → Option Parts
program_of k ps = find (λ p. int_eq p.node k) ps

-- the node of a program before the first round, if there is one
abbrev pub met_first : ℕ → List Conf → Option Parts → List PlainVisited
met_first attempts states None = []
met_first attempts states (Some p) =
    record { number = p.node; progress = met_in states (progress_at attempts p) } ∷ []

-- the nodes of these numbers before the first round, but for those of which there is no program
abbrev pub all_met : List Parts → ℕ → List Conf → List ℤ → List PlainVisited
all_met ps attempts states ks = flat_map (λ k. met_first attempts states (program_of k ps)) ks

-- the first of some nodes with number k
abbrev pub visited_at : {O : Type 0} {g : Origin.Ghosts O} → ℤ → List (Visited O g) → Option (Visited O g)
visited_at k nodes = find (λ n. int_eq n.number k) nodes

-- the ending of a node that was not visited, by its program: want of memory, or the system has no such node
abbrev pub ending_unvisited : Option Parts → Ending
ending_unvisited (Some p) = Fault fault.Memory
ending_unvisited None = Fault fault.Unknown

-- the ending that is reported of node k
abbrev pub ending_at : {O : Type 0} {g : Origin.Ghosts O} → List Parts → List (Visited O g) → ℤ → Ending
ending_at ps nodes k =
    unwrap_or (option_map (λ n. ending_of (progress_in n)) (visited_at k nodes)) (ending_unvisited (program_of k ps))

-- one worker has all nodes of a system, in order, and its board tells a book of that system in which nothing is
-- recorded
pub record IsAlone (told : Bool) (b : PlainBook) (p : PlainPass) (s : SystemParts) (nodes : List ℤ) : Type 0 where
  pub tells : IsToldTo told b p
  pub fresh : b ≡ plain_book (start s) [] b.limit
  pub all : nodes ≡ map (λ q. q.node) s.programs
  pub declared : IsWellDeclared s

-- a book and a list of endings hold what a run leaves: the schedule, the configurations, and the ending of each node
pub record IsHeldOf (left : PlainCourse × List PlainProgress) (b : PlainBook) (endings : List Ending) : Type 0 where
  pub course : course_of b ≡ left.0
  pub each : map Some endings ≡ map (λ p. p.ending) left.1

-- a book and endings are those of the run by one worker, or memory cut that run short
abbrev pub IsSoloWork : SystemParts → ℕ → ℕ → PlainBook → List Ending → Type 0
IsSoloWork s attempts limit b endings =
    IsSoloCut s attempts limit (course_of b) endings ⊎ IsHeldOf (solo s attempts limit) b endings
