-- Executions of any automaton (Lynch 8.1), and those of a composition and of its components (Lynch 8.2).
use Rattle.std.specs.Prelude.{◌≡◌, List, [], ◌∷◌, Some}
use Rattle.ioa_actions.specs.declared.component.Component.{Component}
use Rattle.ioa_transitions.specs.Entries.{PlainEntry}
use Rattle.ioa_compose.specs.declared.configuration.Conf.{Conf}
use Rattle.ioa_compose.specs.Composition.{find_conf}
use Rattle.ioa_compose.specs.Executions.{projection_of}

-- an execution of an automaton that has these steps, from one state by these labels to another (Lynch 8.1): each label,
-- an action or an entry, is a step from the state that the one before it has reached
abbrev pub IsExecution : {A S : Type 0} → (A → S → S → Type 0) → S → List A → S → Type 0
IsExecution step s [] t = s ≡ t
IsExecution {A} {S} step s (a ∷ more) t = (mid : S) × step a s mid × IsExecution step mid more t

-- each component has, by the entries in which it takes part, an execution of its own from the configuration that it has
-- at the start to the one that it has at the end (Lynch 8.2)
abbrev pub ProjectsOnEach : (PlainEntry → Conf → Conf → Type 0) → List Conf → List PlainEntry → List Conf → Type 0
ProjectsOnEach step start entries confs =
    (k : Component) (c : Conf) → find_conf k start ≡ Some c
    → (d : Conf) × (find_conf k confs ≡ Some d) × IsExecution step c (projection_of k entries) d
