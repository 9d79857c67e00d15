-- Which receive takes which send: the first one on its channel whose message is equal and was not received before. In
-- an execution that is the first send that waits on the channel (Lynch 14.1), or if the channel keeps no order the one
-- whose message the queue loses (profile).
use Rattle.std.specs.Prelude.{ℕ, ℤ, Bool, ◌&&◌, if◌then◌else◌, List, [], ◌∷◌, ◌++◌, length, slice_set}
use Rattle.std.specs.Prelude.{Option, Some, None, slice_get}
use Rattle.std.specs.Ordering.{int_eq}
use Rattle.ioa_values.specs.Data.{Data}
use Rattle.ioa_values.specs.DataOrder.{same}
use Rattle.ioa_actions.specs.declared.action.Action.{Action}
use Rattle.ioa_actions.specs.declared.action.Action.TheVariants.{Send, Receive, Local, Stimulus}
use Rattle.ioa_transitions.specs.Entries.{PlainEntry}

-- whether two channels have the same ends
abbrev pub same_ends : ℤ → ℤ → ℤ → ℤ → Bool
same_ends i j a b = int_eq i a && int_eq j b

-- what is under way, with other positions on the channel from i to j
abbrev pub with_queue : ℤ → ℤ → List (ℕ × Data) → (ℤ → ℤ → List (ℕ × Data)) → ℤ → ℤ → List (ℕ × Data)
with_queue i j ws under_way a b = if same_ends i j a b then ws else under_way a b

-- the position of the first send with this message, and the others
abbrev pub first_of : Data → List (ℕ × Data) → Option ℕ
first_of m [] = None
first_of m (w ∷ ws) = if same m w.1 then Some w.0 else first_of m ws

abbrev pub rest_of : Data → List (ℕ × Data) → List (ℕ × Data)
rest_of m [] = []
rest_of m (w ∷ ws) = if same m w.1 then ws else w ∷ rest_of m ws

-- actions that were gone through: what is under way on the channel between two nodes, which are the sends whose
-- messages were not received, first to last, each with its position and its message; and the partner of each action, if
-- it has one
pub record Matching : Type 0 where
  pub under_way : ℤ → ℤ → List (ℕ × Data)
  pub found : List (Option ℕ)

-- before any action
abbrev pub nothing_sent : Matching
nothing_sent = record { under_way = λ i j. []; found = [] }

-- behind a receive of what was sent at a position: these two are partners
abbrev pub and_receive : Option ℕ → List (Option ℕ) → List (Option ℕ)
and_receive None found = found ++ None ∷ []
and_receive (Some k) found = slice_set found k (Some (length found)) ++ Some k ∷ []

-- behind one more action
abbrev pub matched_with : Action → Matching → Matching
matched_with (Send m i j) s = record {
  under_way = with_queue i j (s.under_way i j ++ (length s.found, m) ∷ []) s.under_way;
  found = s.found ++ None ∷ [];
}
matched_with (Receive m i j) s = record {
  under_way = with_queue i j (rest_of m (s.under_way i j)) s.under_way;
  found = and_receive (first_of m (s.under_way i j)) s.found;
}
matched_with (Local a) s = record { under_way = s.under_way; found = s.found ++ None ∷ [] }
matched_with (Stimulus a) s = record { under_way = s.under_way; found = s.found ++ None ∷ [] }

-- behind all actions of these entries
abbrev pub matched : List PlainEntry → Matching → Matching
matched [] s = s
matched (e ∷ more) s = matched more (matched_with e.action s)

-- for each action of a schedule the position of its partner: of a send that of the receive that takes its message, and
-- of that receive that of the send
abbrev pub partners_of : List PlainEntry → List (Option ℕ)
partners_of entries = (matched entries nothing_sent).found

-- the partner of the action at a position, if it has one
abbrev pub partner_in : Option (Option ℕ) → Option ℕ
partner_in None = None
partner_in (Some p) = p

abbrev pub partner_at : ℕ → List (Option ℕ) → Option ℕ
partner_at k ps = partner_in (slice_get ps k)
