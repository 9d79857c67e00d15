-- What waits to be written of a node (form).
use Rattle.std.specs.Prelude.{ℕ, ℤ, ◌+◌, ◌-◌, ◌^◌, ◌&&◌, min, Bool, true, false, if◌then◌else◌, List, ◌++◌}
use Rattle.std.specs.Prelude.{Option, Some, None}
use Rattle.std.specs.List.{before_first, after_first}
use Rattle.std.specs.Ordering.{int_eq}
use Rattle.ioa_actions.specs.Actions.{same_action}
use Rattle.ioa_actions.specs.ComponentOrder.{same_component}
use Rattle.ioa_channels.specs.Queues.{same_item}
use Rattle.ioa_terms.specs.Bindings.{same_word}
use Rattle.ioa_reasons.specs.PlainReasons as told
use Rattle.ioa_reasons.specs.PlainReasons.{PlainReason}
use Rattle.ioa_tell_text.specs.Tests.{false_text}
use Rattle.ioa_tell_text.specs.declared.waiting.Passing.{Passing}
use Rattle.ioa_tell_text.specs.declared.waiting.Passing.TheVariants.{Idle, Missed}
use Rattle.ioa_tell_text.specs.declared.waiting.Waiting.{Waiting}
use Rattle.ioa_tell_text.specs.declared.waiting.Why.{Why}
use Rattle.ioa_tell_text.specs.declared.waiting.Why.TheVariants as why

-- why an action was not enabled, as it is kept; a part of a test as text, by these names of constants
abbrev pub why_of : List (List ℕ) → PlainReason → Why
why_of names (told.empty k) = why.Empty k
why_of names (told.first k x) = why.First k x
why_of names (told.absent k) = why.Absent k
why_of names told.node = why.Node
why_of names (told.falsified test t vs) = why.False (false_text names test t vs)

-- whether two reasons are the same
abbrev pub same_why : Why → Why → Bool
same_why (why.Empty k) (why.Empty l) = same_component k l
same_why (why.First k x) (why.First l y) = same_component k l && same_item x y
same_why (why.Absent k) (why.Absent l) = same_component k l
same_why why.Node why.Node = true
same_why (why.False s) (why.False t) = same_word s t
same_why v w = false

-- whether a node did the same twice: it was idle, or fired an action that was not enabled for the same reason
abbrev pub same_passing : Passing → Passing → Bool
same_passing Idle Idle = true
same_passing (Missed a v) (Missed b w) = same_action a b && same_why v w
same_passing p q = false

-- whether something waits of this node
abbrev pub is_of : ℤ → Waiting → Bool
is_of n w = int_eq w.node n

-- a list without the first that passes a test
abbrev pub without : {A : Type 0} → (A → Bool) → List A → List A
without test xs = before_first test xs ++ after_first test xs

-- what a node did once
abbrev pub once : ℤ → Passing → Waiting
once n p = record { node = n; passing = p; times = 1 }

-- the same once more; the count stays at its greatest number
abbrev pub once_more : Waiting → Waiting
once_more w = record { node = w.node; passing = w.passing; times = min (w.times + 1) (2 ^ 64 - 1) }

-- what waits of a node that does this, if that waited: the same once more, or else this once
abbrev pub next_waiting : ℤ → Passing → Option Waiting → Waiting
next_waiting n p None = once n p
next_waiting n p (Some w) = if same_passing w.passing p then once_more w else once n p
