-- The end of a line tells the node of the action that it spells.
use Rattle.std.proofs.Common.{◌≡◌, ℕ, suc, ◌+◌, ◌-◌, ◌≤◌, ℤ, pos, Bool, true, false, ◌||◌, List, [], ◌∷◌, ◌++◌, Some, length, refl, if◌then◌else◌, arith}
use Rattle.std.proofs.lemmas.List.{length-append}
use Rattle.ioa_tokens.specs.declared.token.Token.{Token}
use Rattle.ioa_tokens.specs.declared.token.Token.TheVariants as token
use Rattle.ioa_tokens.specs.declared.mark.Mark.TheVariants as mark
use Rattle.ioa_values.specs.Data.{Data, number}
use Rattle.ioa_actions.specs.ActionParts.{receive_name, send_name}
use Rattle.ioa_terms.specs.Bindings.{same_word}
use Rattle.ioa_value_reader.specs.Grammar.{SpellsValue, followed, is_false, is_true, minus, minus_amount, named, parts, plus, single, empty_map, empty_sequence, empty_set, entries, items, members}
use Rattle.ioa_value_reader.proofs.Shorter.{value_front}
use Rattle.ioa_lines.specs.Grammar.{SpellsArguments, is_message_name, listed}
use Rattle.ioa_lines.specs.Reading.{from_end, is_minus, node_at_end, number_at}

-- tokens in front change no token near the end
pub from_end_behind : (n : ℕ) (front tail : List Token) → n ≤ length tail → from_end n (front ++ tail) ≡ from_end n tail
from_end_behind n [] tail h = refl
from_end_behind n (t ∷ front) tail h =
    let long = length-append front tail in
    let e : suc (length (front ++ tail)) - n ≡ suc (length (front ++ tail) - n) = omega arith in
    rw e (from_end_behind n front tail h)

-- nor a number
pub number_at_behind : (n : ℕ) (front tail : List Token) → n + 1 ≤ length tail → number_at n (front ++ tail) ≡ number_at n tail
unfolding number_at
number_at_behind n front tail h =
    let low : n ≤ length tail = omega arith in
    rw (from_end_behind (n + 1) front tail h, from_end_behind n front tail low) refl

pub either_false : (a b : Bool) → (a || b) ≡ false → (a ≡ false) × (b ≡ false)
either_false true b e = absurd cc
either_false false b e = (refl, e)

-- the node behind arguments and `@`
pub node_behind : (w : List ℕ) (k : ℤ) (front : List Token) → is_message_name w ≡ false → node_at_end w (front ++ token.Mark mark.AtSign ∷ token.Number k ∷ []) ≡ Some k
unfolding node_at_end number_at
node_behind w k front other =
    let p = either_false (same_word w send_name) (same_word w receive_name) other in
    rw (p.0, p.1) (number_at_behind 1 front (token.Mark mark.AtSign ∷ token.Number k ∷ []) (omega arith))

-- how a number is spelled
pub data NumberTokens : ℤ → List Token → List Token → Type 0 where
  positive : {z : ℤ} {ys : List Token} → NumberTokens z (token.Number z ∷ ys) ys
  negative : {n : ℤ} {ys : List Token} → NumberTokens (minus_amount n) (token.Mark mark.Minus ∷ token.Number n ∷ ys) ys

number_tokens : {names : List (List ℕ)} {d : Data} {xs ys : List Token} → SpellsValue names d xs ys → (z : ℤ) → d ≡ number z → NumberTokens z xs ys
number_tokens (plus {n = n}) z e = let same : z ≡ pos n = cc in rw same positive
number_tokens (minus {n = n}) z e = let same : z ≡ minus_amount n = cc in rw same negative
number_tokens is_true z e = absurd cc
number_tokens is_false z e = absurd cc
number_tokens (named k) z e = absurd cc
number_tokens (parts d) z e = absurd cc
number_tokens empty_sequence z e = absurd cc
number_tokens empty_set z e = absurd cc
number_tokens empty_map z e = absurd cc
number_tokens (items d) z e = absurd cc
number_tokens (members a d) z e = absurd cc
number_tokens (entries a d) z e = absurd cc

-- where the sender is
sender_place : List Token → ℕ
sender_place tail = if is_minus (from_end 3 tail) then 5 else 4

sender_behind : (place : ℕ) (front tail : List Token) → sender_place tail ≡ place → place + 1 ≤ length tail → 3 ≤ length tail → node_at_end send_name (front ++ tail) ≡ number_at place tail
unfolding node_at_end sender_place
sender_behind place front tail e h low = rw (from_end_behind 3 front tail low) (rw e (number_at_behind place front tail h))

receiver_behind : (front tail : List Token) → 3 ≤ length tail → node_at_end receive_name (front ++ tail) ≡ number_at 2 tail
unfolding node_at_end
receiver_behind front tail h = number_at_behind 2 front tail h

-- the ends of a message, by the tokens at its end
pub record ShowsEnds (i j : ℤ) (xs : List Token) : Type 0 where
  pub sender : node_at_end send_name xs ≡ Some i
  pub receiver : node_at_end receive_name xs ≡ Some j

ends_behind : (front : List Token) {i j : ℤ} {us vs : List Token} → NumberTokens i us (token.Mark mark.Comma ∷ vs) → NumberTokens j vs (token.Mark mark.CloseRound ∷ []) → ShowsEnds i j (front ++ token.Mark mark.Comma ∷ us)
unfolding sender_place number_at
ends_behind front positive positive = record {
  sender = sender_behind 4 front _ refl (omega arith) (omega arith);
  receiver = receiver_behind front _ (omega arith);
}
ends_behind front positive negative = record {
  sender = sender_behind 5 front _ refl (omega arith) (omega arith);
  receiver = receiver_behind front _ (omega arith);
}
ends_behind front negative positive = record {
  sender = sender_behind 4 front _ refl (omega arith) (omega arith);
  receiver = receiver_behind front _ (omega arith);
}
ends_behind front negative negative = record {
  sender = sender_behind 5 front _ refl (omega arith) (omega arith);
  receiver = receiver_behind front _ (omega arith);
}

-- the arguments of a message with nothing behind them tell its ends
pub message_ends : {names : List (List ℕ)} {m : Data} {i j : ℤ} {xs : List Token} → SpellsArguments names (m ∷ number i ∷ number j ∷ []) xs [] → ShowsEnds i j xs
message_ends {i = i} {j = j} (listed (followed m (followed d (single e)))) =
    let f = value_front m in
    rw f.same (ends_behind (token.Mark mark.OpenRound ∷ f.front) (number_tokens d i refl) (number_tokens e j refl))
message_ends (listed (followed m (followed d (followed e rest)))) = elim rest [ ]
