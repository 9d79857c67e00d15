-- Which invariants read a component, and how verdicts are settled (form): what the code keeps on its way.
use Rattle.std.specs.Prelude.{◌≡◌, ℕ, ◌+◌, Bool, true, false, if◌then◌else◌, List, [], ◌∷◌, Option, Some, None, Result}
use Rattle.std.specs.Prelude.{Ok, IsErr, nat_eq, set, slice_get}
use Rattle.std.specs.List.{list_any, position_from}
use Rattle.ioa_actions.specs.declared.component.Component.{Component}
use Rattle.ioa_actions.specs.declared.component.Component.TheVariants as component
use Rattle.ioa_actions.specs.declared.fault.StepFault.{StepFault}
use Rattle.ioa_actions.specs.ComponentOrder.{same_component}
use Rattle.ioa_terms.specs.declared.name.Name.{Name}
use Rattle.ioa_terms.specs.declared.name.Name.TheVariants as called
use Rattle.ioa_system.specs.Invariants.{InvariantParts}
use Rattle.ioa_compose.specs.declared.configuration.Conf.{Conf}
use Rattle.ioa_verdicts.specs.Open.{is_open_at}
use Rattle.ioa_verdicts.specs.Verdicts.{answer_in, verdict_at}
use Rattle.ioa_verdicts.specs.declared.verdict.Verdict.{Verdict}

-- whether a name reads of a component
abbrev pub reads_of : Component → Name → Bool
reads_of k (called.Word w) = false
reads_of k (called.Variable x i) = same_component (component.Node i) k
reads_of k (called.Queue i j) = same_component (component.Channel i j) k

-- whether an invariant reads of a component
abbrev pub is_reader : Component → InvariantParts → Bool
is_reader k v = list_any (reads_of k) v.readings

-- the numbers of the invariants that read of a component, if the first has the number n
abbrev pub readers_from : Component → ℕ → List InvariantParts → List ℕ
readers_from k n [] = []
readers_from k n (v ∷ more) = if is_reader k v then n ∷ readers_from k (n + 1) more else readers_from k (n + 1) more

-- whether a number is among these
abbrev pub is_among : ℕ → List ℕ → Bool
is_among i is = list_any (nat_eq i) is

-- what a list has, if there is one
abbrev pub listed : {A : Type 0} → Option (List A) → List A
listed None = []
listed (Some xs) = xs

-- what is noted at a position, if there is one
abbrev pub noted_at : List (List ℕ) → Option ℕ → List ℕ
noted_at noted None = []
noted_at noted (Some m) = listed (slice_get noted m)

-- what is noted of a component, if components have these names
abbrev pub noted_of : List (List ℕ) → List Component → Component → List ℕ
noted_of noted names k = noted_at noted (position_from (λ l. same_component k l) 0 names)

-- the verdicts after the invariant of a number is evaluated in the state of number k, if it held so far
abbrev pub settled_one : ℕ → List Conf → ℕ → Option InvariantParts → Option Verdict → List Verdict → List Verdict
settled_one k cs i None f found = found
settled_one k cs i (Some v) f found = if is_open_at f then set found i (verdict_at k (answer_in v cs)) else found

-- the same of several numbers, one after another
unfoldable pub settled : ℕ → List Conf → List InvariantParts → List ℕ → List Verdict → List Verdict
settled k cs vs [] found = found
settled k cs vs (i ∷ is) found =
    settled k cs vs is (settled_one k cs i (slice_get vs i) (slice_get found i) found)

-- the same of all that is noted of these components
unfoldable pub settled_parts : ℕ → List Conf → List InvariantParts → List (List ℕ) → List Component → List Component
    → List Verdict → List Verdict
settled_parts k cs vs noted names [] found = found
settled_parts k cs vs noted names (c ∷ more) found =
    settled_parts k cs vs noted names more (settled k cs vs (noted_of noted names c) found)

-- what is left of an entry, if it is a step or not: the state behind it, and the verdicts settled there; or nothing new
abbrev pub GoesOn : Bool → Result (List Conf) StepFault → List Conf → (old new settled_there : List Verdict) → Type 0
GoesOn true step next old new there = (step ≡ Ok next) × (new ≡ there)
GoesOn false step next old new there = IsErr step × (new ≡ old)
