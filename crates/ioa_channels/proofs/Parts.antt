-- The stimuli and the messages of a queue.
use Rattle.std.proofs.Common.{◌≡◌, ◌∙◌, ℕ, zero, suc, ◌+◌, ◌<◌, ◌≤◌, Bool, true, false, if◌then◌else◌, cond}
use Rattle.std.proofs.Common.{Result, Ok, Err, List, [], ◌∷◌, ◌++◌, Option, Some, None, drop, length, map, refl, sym}
use Rattle.std.proofs.Common.{ap}
use Rattle.std.proofs.Common.{append_assoc, add-one, arith}
use Rattle.std.specs.Prelude.{slice_get, ◌||◌}
use Rattle.std.specs.Option.{option_map}
use Rattle.std.specs.List.{list_any, position_from, remove}
use Rattle.std.proofs.lemmas.List.{map-append, length-append, length-map}
use Rattle.ioa_values.specs.Data.{Data}
use Rattle.ioa_values.specs.DataOrder.{same}
use Rattle.ioa_actions.specs.declared.action.NodeAction.{NodeAction}
use Rattle.ioa_actions.specs.declared.fault.StepFault.TheVariants.{NotEnabled}
use Rattle.ioa_channels.specs.declared.queue.Item.TheVariants.{Message, Stimulus}
use Rattle.ioa_channels.specs.Queues.{queue_items, messages_of, same_item, items_behind, without_equal, without_message}
use Rattle.ioa_values.specs.Outcome.{and_then}
use Rattle.ioa_values.specs.Collections.{is_member}
use Rattle.ioa_channels.specs.declared.queue.Item.{Item}
use Rattle.ioa_actions.specs.declared.fault.StepFault.{StepFault}

-- one more message is one more item at the end
pub one_more_message : (stimuli : List NodeAction) (messages : List Data) (m : Data) →
    queue_items stimuli (messages ++ m ∷ []) ≡ queue_items stimuli messages ++ Message m ∷ []
one_more_message stimuli messages m =
    ap (λ xs. map Stimulus stimuli ++ xs) (map-append Message messages (m ∷ []))
    ∙ sym (append_assoc (map Stimulus stimuli) (map Message messages) (Message m ∷ []))

-- a queue has as many items as it has stimuli and messages
pub length_of_parts : (stimuli : List NodeAction) (messages : List Data) →
    length (queue_items stimuli messages) ≡ length stimuli + length messages
length_of_parts stimuli messages =
    let both = length-append (map Stimulus stimuli) (map Message messages) in
    rw (both, length-map stimuli Stimulus, length-map messages Message) refl

-- the messages of messages alone
pub all_messages : (messages : List Data) → messages_of (map Message messages) ≡ Some messages
all_messages [] = refl
all_messages (m ∷ more) = ap (option_map (λ (ms : List Data). m ∷ ms)) (all_messages more)

-- a queue with no stimulus left holds its messages alone
pub messages_alone : (stimuli : List NodeAction) (messages : List Data) → length stimuli < 1 →
    messages_of (queue_items stimuli messages) ≡ Some messages
messages_alone [] messages none = all_messages messages
messages_alone (a ∷ more) messages none = absurd (omega arith)

-- a queue with a stimulus left holds more than messages
pub messages_behind : (stimuli : List NodeAction) (messages : List Data) → 1 ≤ length stimuli →
    messages_of (queue_items stimuli messages) ≡ None
messages_behind [] messages some = absurd (omega arith)
messages_behind (a ∷ more) messages some = refl

-- no stimulus comes out if none is left
pub no_stimulus : (a : NodeAction) (stimuli : List NodeAction) (messages : List Data) → length stimuli < 1 →
    items_behind (Stimulus a) (queue_items stimuli messages) ≡ Err NotEnabled
no_stimulus a [] [] none = refl
no_stimulus a [] (m ∷ more) none = refl
no_stimulus a (b ∷ more) messages none = absurd (omega arith)

-- no message comes out while a stimulus is left
pub no_message : (m : Data) (stimuli : List NodeAction) (messages : List Data) → 1 ≤ length stimuli →
    items_behind (Message m) (queue_items stimuli messages) ≡ Err NotEnabled
no_message m [] messages some = absurd (omega arith)
no_message m (a ∷ more) messages some = refl

-- no message comes out if there is none, or another is the first
pub no_first : (m : Data) (stimuli : List NodeAction) (messages : List Data) → length stimuli < 1 →
    slice_get messages 0 ≡ None → items_behind (Message m) (queue_items stimuli messages) ≡ Err NotEnabled
no_first m [] [] none nothing = refl
no_first m [] (n ∷ more) none nothing = absurd (cc)
no_first m (b ∷ more) messages none nothing = absurd (omega arith)

pub another_first : (m d : Data) (stimuli : List NodeAction) (messages : List Data) → length stimuli < 1 →
    slice_get messages 0 ≡ Some d → same d m ≡ false →
    items_behind (Message m) (queue_items stimuli messages) ≡ Err NotEnabled
another_first m d [] [] none first other = absurd (cc)
another_first m d [] (n ∷ more) none first other = let this : n ≡ d = cc in rw (this, other) refl
another_first m d (b ∷ more) messages none first other = absurd (omega arith)

-- what is left behind one item more
drop_next : {A : Type 0} (xs : List A) (n : ℕ) → drop (suc n) xs ≡ drop 1 (drop n xs)
drop_next [] zero = refl
drop_next [] (suc n) = refl
drop_next (x ∷ xs) zero = refl
drop_next (x ∷ xs) (suc n) = drop_next xs n

pub drop_further : {A : Type 0} (xs : List A) (n : ℕ) → drop (n + 1) xs ≡ drop 1 (drop n xs)
drop_further xs n = rw add-one (drop_next xs n)

-- a message comes out of messages as it does out of items
lifted : (n : Data) (r : Result (List Data) StepFault) →
    and_then (and_then r (λ ms. Ok (map Message ms))) (λ items. Ok (Message n ∷ items))
    ≡ and_then (and_then r (λ ms. Ok (n ∷ ms))) (λ ms. Ok (map Message ms))
lifted n (Ok ms) = refl
lifted n (Err f) = refl

tested : (t : Bool) (n : Data) (more : List Data) (r : Result (List Item) StepFault)
    (s : Result (List Data) StepFault) → r ≡ and_then s (λ ms. Ok (map Message ms)) →
    (if t then Ok (map Message more) else and_then r (λ items. Ok (Message n ∷ items)))
    ≡ and_then (if t then Ok more else and_then s (λ ms. Ok (n ∷ ms))) (λ ms. Ok (map Message ms))
tested true n more r s e = refl
tested false n more r s e = rw e (lifted n s)

among_messages : (m : Data) (ms : List Data) →
    without_equal (Message m) (map Message ms) ≡ and_then (without_message m ms) (λ ms. Ok (map Message ms))
among_messages m [] = refl
among_messages m (n ∷ ms) =
    tested (same m n) n ms (without_equal (Message m) (map Message ms)) (without_message m ms) (among_messages m ms)

behind_stimulus : (a : NodeAction) (stimuli : List NodeAction) (r : Result (List Data) StepFault) →
    and_then (and_then r (λ ms. Ok (queue_items stimuli ms))) (λ items. Ok (Stimulus a ∷ items))
    ≡ and_then r (λ ms. Ok (queue_items (a ∷ stimuli) ms))
behind_stimulus a stimuli (Ok ms) = refl
behind_stimulus a stimuli (Err f) = refl

pub any_message : (m : Data) (stimuli : List NodeAction) (ms : List Data) →
    without_equal (Message m) (queue_items stimuli ms)
    ≡ and_then (without_message m ms) (λ ms. Ok (queue_items stimuli ms))
any_message m [] ms = among_messages m ms
any_message m (a ∷ stimuli) ms = rw (any_message m stimuli ms) (behind_stimulus a stimuli (without_message m ms))

-- where a message is among messages, if the first one is not it
place_later : (m : Data) (i : ℕ) (ms : List Data) →
    position_from (same m) (i + 1) ms ≡ option_map suc (position_from (same m) i ms)
place_later m i [] = refl
place_later m i (n ∷ ms) = by_test (same m n) (place_later m (i + 1) ms)
  where
    by_test : (t : Bool) →
        position_from (same m) (i + 1 + 1) ms ≡ option_map suc (position_from (same m) (i + 1) ms) →
        cond t (Some (i + 1)) (position_from (same m) (i + 1 + 1) ms)
        ≡ option_map suc (cond t (Some i) (position_from (same m) (i + 1) ms))
    by_test true later = ap (λ (k : ℕ). Some k) (add-one i)
    by_test false later = later

-- the messages without the one at a position, if there is a position
abbrev taken_at : List Data → Option ℕ → Result (List Data) StepFault
taken_at ms None = Err NotEnabled
taken_at ms (Some i) = Ok (remove ms i)

one_more_in_front : (n : Data) (ms : List Data) (place : Option ℕ) →
    and_then (taken_at ms place) (λ rest. Ok (n ∷ rest)) ≡ taken_at (n ∷ ms) (option_map suc place)
one_more_in_front n ms None = refl
one_more_in_front n ms (Some i) = refl

-- a message comes out of messages where it is among them first
at_its_place : (m : Data) (ms : List Data) → without_message m ms ≡ taken_at ms (position_from (same m) 0 ms)
at_its_place m [] = refl
at_its_place m (n ∷ ms) = by_test (same m n) (at_its_place m ms)
  where
    further : without_message m ms ≡ taken_at ms (position_from (same m) 0 ms) →
        and_then (without_message m ms) (λ rest. Ok (n ∷ rest)) ≡ taken_at (n ∷ ms) (position_from (same m) 1 ms)
    further e =
        ap (λ (r : Result (List Data) StepFault). and_then r (λ rest. Ok (n ∷ rest))) e
        ∙ one_more_in_front n ms (position_from (same m) 0 ms)
        ∙ ap (taken_at (n ∷ ms)) (sym (place_later m 0 ms))

    by_test : (t : Bool) → without_message m ms ≡ taken_at ms (position_from (same m) 0 ms) →
        (if t then Ok ms else and_then (without_message m ms) (λ rest. Ok (n ∷ rest)))
        ≡ taken_at (n ∷ ms) (cond t (Some 0) (position_from (same m) 1 ms))
    by_test true e = refl
    by_test false e = further e

-- so a message that has no position does not come out, and another one is the one at its position
pub none_to_take : (m : Data) (ms : List Data) → position_from (same m) 0 ms ≡ None →
    without_message m ms ≡ Err NotEnabled
none_to_take m ms none = at_its_place m ms ∙ ap (taken_at ms) none

pub one_to_take : (m : Data) (ms : List Data) (i : ℕ) → position_from (same m) 0 ms ≡ Some i →
    without_message m ms ≡ Ok (remove ms i)
one_to_take m ms i some = at_its_place m ms ∙ ap (taken_at ms) some

-- a position is among the messages
place_within : (m : Data) (k i : ℕ) (ms : List Data) → position_from (same m) k ms ≡ Some i → i < k + length ms
place_within m k i [] h = absurd (cc)
place_within m k i (n ∷ ms) h = by_test (same m n) h (place_within m (k + 1) i ms)
  where
    by_test : (t : Bool) → cond t (Some k) (position_from (same m) (k + 1) ms) ≡ Some i →
        (position_from (same m) (k + 1) ms ≡ Some i → i < k + 1 + length ms) → i < k + length (n ∷ ms)
    by_test true here later = let same_place : k ≡ i = cc in omega (arith, same_place)
    by_test false there later = omega (arith, later there)

pub within_messages : (m : Data) (ms : List Data) (i : ℕ) → position_from (same m) 0 ms ≡ Some i → i < length ms
within_messages m ms i some = omega (arith, place_within m 0 i ms some)

pub ruleset taking_rules = (none_to_take, one_to_take, within_messages)

-- a message is among the items of a queue exactly if it is among its messages
among_all_messages : (m : Data) (ms : List Data) → is_member m ms ≡ list_any (same_item (Message m)) (map Message ms)
among_all_messages m [] = refl
among_all_messages m (n ∷ ms) = ap (λ (t : Bool). same m n || t) (among_all_messages m ms)

pub message_among : (m : Data) (stimuli : List NodeAction) (ms : List Data) →
    is_member m ms ≡ list_any (same_item (Message m)) (queue_items stimuli ms)
message_among m [] ms = among_all_messages m ms
message_among m (a ∷ stimuli) ms = message_among m stimuli ms
