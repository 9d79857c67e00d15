-- Actions that were taken, misses and idle turns as text (form).
use Rattle.std.specs.Prelude.{ℕ, ℤ, nat_lt, if◌then◌else◌, List, [], ◌++◌, Option, codes}
use Rattle.std.specs.Fmt.{decimal, signed_decimal}
use Rattle.ioa_actions.specs.ActionText.{action_text, entry_text}
use Rattle.ioa_actions.specs.declared.action.Action.{Action}
use Rattle.ioa_actions.specs.declared.action.Action.TheVariants.{Send, Receive, Local, Stimulus}
use Rattle.ioa_actions.specs.declared.component.Component.{Component}
use Rattle.ioa_channels.specs.declared.queue.Item.{Item}
use Rattle.ioa_compose.specs.declared.configuration.Conf.{Conf}
use Rattle.ioa_monitor.specs.Reports.{item_text}
use Rattle.ioa_transitions.specs.Entries.{PlainEntry}
use Rattle.ioa_tell_text.specs.Changes.{changes_text, component_text}
use Rattle.ioa_tell_text.specs.declared.waiting.Passing.{Passing}
use Rattle.ioa_tell_text.specs.declared.waiting.Passing.TheVariants.{Idle, Missed}
use Rattle.ioa_tell_text.specs.declared.waiting.Waiting.{Waiting}
use Rattle.ioa_tell_text.specs.declared.waiting.Why.{Why}
use Rattle.ioa_tell_text.specs.declared.waiting.Why.TheVariants as why

-- `k action` for the action after k others, with what its effect chose
abbrev pub numbered_text : List (List ℕ) → ℕ → PlainEntry → List ℕ
numbered_text names k e = decimal k ++ (codes " " ++ entry_text names e.action e.chosen)

-- the same for an action that was taken, and then what it changed
abbrev pub taken_line : List (List ℕ) → ℕ → PlainEntry → Conf → Conf → Option Conf → List ℕ
taken_line names k e before after queue =
    decimal k ++ (codes " " ++ (entry_text names e.action e.chosen
    ++ (changes_text names before after queue ++ codes "\n")))

-- which item is the first of a queue
abbrev pub first_text : List (List ℕ) → Component → Item → List ℕ
first_text names k x = codes "first in " ++ (component_text k ++ (codes " is " ++ item_text names x))

-- why an action was not enabled
abbrev pub why_text : List (List ℕ) → Why → List ℕ
why_text names (why.Empty k) = component_text k ++ codes " is empty"
why_text names (why.First k x) = first_text names k x
why_text names (why.Absent k) = component_text k ++ codes " has no such message"
why_text names why.Node = codes "not enabled: its where or its guard is false"
why_text names (why.False text) = text

-- the node of an action whose own text does not end with it
abbrev pub at_text : Action → List ℕ
at_text (Send m i j) = codes "@" ++ signed_decimal i
at_text (Receive m i j) = codes "@" ++ signed_decimal j
at_text (Local a) = []
at_text (Stimulus a) = []

-- `  fault action@i: why`, the line of an action whose step met a fault
abbrev pub fault_line : List (List ℕ) → Action → List ℕ → List ℕ
fault_line names a why =
    codes "  fault " ++ (action_text names a ++ (at_text a ++ (codes ": " ++ (why ++ codes "\n"))))

-- `  idle @i`, or `  missed action@i: why`
abbrev pub passing_text : List (List ℕ) → ℤ → Passing → List ℕ
passing_text names n Idle = codes "  idle @" ++ signed_decimal n
passing_text names n (Missed a w) =
    codes "  missed " ++ (action_text names a ++ (at_text a ++ (codes ": " ++ why_text names w)))

-- `   (n times)`, if that was more than once
abbrev pub times_text : ℕ → List ℕ
times_text n = if nat_lt 1 n then codes "   (" ++ (decimal n ++ codes " times)") else []

-- the line of what a node did that took no action
abbrev pub waiting_text : List (List ℕ) → Waiting → List ℕ
waiting_text names w = passing_text names w.node w.passing ++ (times_text w.times ++ codes "\n")
