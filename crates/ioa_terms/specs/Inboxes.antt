-- The inboxes of a node, as its schedule block sees them (profile): under one name, which no text can spell, a map from
-- the number of each node that sends to the sequence of what waits from it.
use Rattle.std.specs.Prelude.{ℕ, ℤ, codes, List, [], ◌∷◌, ◌++◌, map, Option, Some, None}
use Rattle.std.specs.Option.{option_map}
use Rattle.ioa_values.specs.Collections.{with_entry}
use Rattle.ioa_values.specs.Data.{Data, number, sequence, finite_map, items_of, entries_of}
use Rattle.ioa_terms.specs.declared.environment.Inbox.{Inbox}
use Rattle.ioa_terms.specs.declared.environment.LentValues.{LentValues}

-- the name of the inboxes
abbrev pub inboxes_word : List ℕ
inboxes_word = codes "inbox()"

-- inboxes: of each the number of the node that sends, and what waits from it
abbrev pub PlainInboxes : Type 0
PlainInboxes = List (ℤ × List Data)

-- the entries of the map; the first inbox of a sender counts
abbrev pub inbox_entries : PlainInboxes → List (Data × Data)
inbox_entries [] = []
inbox_entries (i ∷ more) = with_entry (number i.0) (sequence (items_of i.1)) (inbox_entries more)

-- the map
abbrev pub inboxes_value : PlainInboxes → Data
inboxes_value is = finite_map (entries_of (inbox_entries is))

-- it is one value, if the inboxes are in view
abbrev pub inbox_values : Option PlainInboxes → List Data
inbox_values None = []
inbox_values (Some is) = inboxes_value is ∷ []

-- the inboxes that the code keeps (view)
abbrev pub inboxes_of : List Inbox → PlainInboxes
inboxes_of is = map (λ i. (i.sender, i.messages.now)) is

-- all that is lent: the inboxes, and behind them the values of two owners
abbrev pub lent_values : LentValues → List Data
lent_values l = inbox_values (option_map (λ is. inboxes_of is.now) l.inboxes) ++ (l.first.now ++ l.second.now)
