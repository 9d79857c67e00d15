-- What is under way by the traffic of channels (view).
use Rattle.std.specs.Prelude.{ℕ, ℤ, Bool, if◌then◌else◌, List, [], ◌∷◌, Option, map}
use Rattle.ioa_values.specs.Data.{Data}
use Rattle.ioa_values.specs.DataOrder.{same}
use Rattle.ioa_show.specs.Matching.{Matching, same_ends}
use Rattle.ioa_show.specs.declared.partners.Traffic.{Traffic}
use Rattle.ioa_show.specs.declared.partners.Waiting.{Waiting}

-- whether traffic is that of the channel from i to j
abbrev pub is_on : ℤ → ℤ → Traffic → Bool
is_on i j t = same_ends t.from t.to i j

-- a send that waits: its position and its message
abbrev pub sent_of : Waiting → ℕ × Data
sent_of w = (w.position, w.message.now)

-- whether a send that waits has this message
abbrev pub has_message : Data → Waiting → Bool
has_message m w = same m w.message.now

-- the sends that wait by the traffic of a channel
abbrev pub waits : Traffic → List (ℕ × Data)
waits t = map sent_of t.waiting.items

-- the sends that wait on the channel from i to j
abbrev pub waiting_on : List Traffic → ℤ → ℤ → List (ℕ × Data)
waiting_on [] i j = []
waiting_on (t ∷ ts) i j = if is_on i j t then waits t else waiting_on ts i j

-- the actions that were gone through
abbrev pub matching : List Traffic → List (Option ℕ) → Matching
matching ts found = record { under_way = waiting_on ts; found = found }
