-- The map of the inboxes.
use Rattle.std.proofs.Common.{◌≡◌, ℕ, ◌+◌, ◌<◌, List, drop, get_or, length, refl, ap, true, false, Some}
use Rattle.std.proofs.lemmas.List.{drop_more}
use Rattle.ioa_values.specs.Collections.{value_at, with_entry}
use Rattle.ioa_values.specs.Data.{Data, number, sequence, items_of}
use Rattle.ioa_values.specs.DataOrder.{same}
use Rattle.ioa_values.proofs.Members.{value_with}
use Rattle.ioa_terms.specs.Inboxes.{inbox_entries, inboxes_of}
use Rattle.ioa_terms.specs.declared.environment.Inbox.{Inbox}

-- the entries of one inbox more
pub one_inbox_more : (is : List Inbox) (k : ℕ) (i : Inbox) → k < length is → inbox_entries (inboxes_of (drop k is)) ≡ with_entry (number (get_or is k i).sender) (sequence (items_of (get_or is k i).messages.now)) (inbox_entries (inboxes_of (drop (k + 1) is)))
one_inbox_more is k i h = ap (λ js. inbox_entries (inboxes_of js)) (drop_more is k i h)

-- what the map has at a key: the messages of the first inbox, if the key is its sender, and else what the others have
pub found_here : (is : List Inbox) (p : ℕ) (i : Inbox) (k : Data) → p < length is → same k (number (get_or is p i).sender) ≡ true → value_at k (inbox_entries (inboxes_of (drop p is))) ≡ Some (sequence (items_of (get_or is p i).messages.now))
found_here is p i k h e = rw (one_inbox_more is p i h, value_with k (number (get_or is p i).sender) (sequence (items_of (get_or is p i).messages.now)) (inbox_entries (inboxes_of (drop (p + 1) is))), e) refl

pub found_later : (is : List Inbox) (p : ℕ) (i : Inbox) (k : Data) → p < length is → same k (number (get_or is p i).sender) ≡ false → value_at k (inbox_entries (inboxes_of (drop p is))) ≡ value_at k (inbox_entries (inboxes_of (drop (p + 1) is)))
found_later is p i k h e = rw (one_inbox_more is p i h, value_with k (number (get_or is p i).sender) (sequence (items_of (get_or is p i).messages.now)) (inbox_entries (inboxes_of (drop (p + 1) is))), e) refl
