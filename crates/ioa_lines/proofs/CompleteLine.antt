-- A line is read as it is spelled, if its action is one of the system.
use Rattle.std.proofs.Common.{◌≡◌, ℕ, suc, ◌+◌, ℤ, Bool, true, false, List, [], ◌∷◌, ◌++◌, Option, Some, None, cond, refl, ap, arith}
use Rattle.std.specs.List.{list_any}
use Rattle.std.specs.Prelude.{drop, not, take}
use Rattle.std.specs.Ordering.{int_eq}
use Rattle.std.proofs.lemmas.Bool.Decides.{Decides-int_eq}
use Rattle.ioa_tokens.specs.declared.token.Token.{Token}
use Rattle.ioa_tokens.specs.declared.token.Token.TheVariants as token
use Rattle.ioa_tokens.specs.declared.mark.Mark.TheVariants as mark
use Rattle.ioa_cursor.specs.Reading.{bind, choose, end, expect, number, skip, word}
use Rattle.ioa_cursor.proofs.Steps.{read_next}
use Rattle.ioa_values.specs.Data.{Data}
use Rattle.ioa_actions.specs.ActionParts.{action_arguments, action_name, input_at, input_by, locally_controlled_at, locally_controlled_by, message_and_ends, node_of, receive_name, send_name}
use Rattle.ioa_actions.specs.declared.action.Action.{Action}
use Rattle.ioa_actions.specs.declared.action.Action.TheVariants.{Local, Stimulus}
use Rattle.ioa_actions.specs.declared.action.NodeAction.{NodeAction}
use Rattle.ioa_terms.specs.Bindings.{same_word}
use Rattle.ioa_terms.specs.SameTerms.{same_kind}
use Rattle.ioa_terms.specs.declared.tree.Kind.TheVariants.{Input}
use Rattle.ioa_system.specs.Parts.{PlainRule}
use Rattle.ioa_system.specs.Systems.{SystemParts}
use Rattle.ioa_transitions.specs.Entries.{PlainEntry}
use Rattle.ioa_lines.specs.Grammar.{SpellsAction, SpellsAlone, SpellsArguments, SpellsChosen, chosen, is_message_name, local, nothing_chosen, numbered, plain, received, sent, stimulus}
use Rattle.ioa_lines.specs.Lines.{IsActionOf, SpellsLine, is_input}
use Rattle.ioa_lines.specs.Reading.{action_by, action_if_written, action_tokens, behind_number, choice_tokens, choose_place, is_choose, line_action, line_entry, named_action, node_at_end, read_arguments, read_end, rule_action, rule_at}
use Rattle.ioa_lines.proofs.ChosenValues.{chosen_complete}
use Rattle.ioa_lines.proofs.Ends.{either_false, message_ends, node_behind}
use Rattle.ioa_lines.proofs.OwnTokens.{action_alone, action_own}
use Rattle.ioa_lines.proofs.Parts.{arguments_complete, arguments_front}
use Rattle.ioa_lines.proofs.SoundLine.{rule_named_is}

same_number : (k : ℤ) → int_eq k k ≡ true
same_number k = (Decides-int_eq k k).1 refl

-- the action of another name than that of messages is an action of the node
local_made : (a : NodeAction) → is_message_name a.name ≡ false → locally_controlled_at a.node a.name a.arguments ≡ Local a
local_made a other = by_ends (message_and_ends a.arguments)
  where
    by_ends : (o : Option (Data × ℤ × ℤ)) → locally_controlled_by a.node a.name a.arguments o ≡ Local a
    by_ends None = refl
    by_ends (Some (m, i, j)) = let p = either_false (same_word a.name send_name) (same_word a.name receive_name) other in rw p.0 refl

stimulus_made : (a : NodeAction) → is_message_name a.name ≡ false → input_at a.node a.name a.arguments ≡ Stimulus a
stimulus_made a other = by_ends (message_and_ends a.arguments)
  where
    by_ends : (o : Option (Data × ℤ × ℤ)) → input_by a.node a.name a.arguments o ≡ Stimulus a
    by_ends None = refl
    by_ends (Some (m, i, j)) = let p = either_false (same_word a.name send_name) (same_word a.name receive_name) other in rw p.1 refl

-- what the tokens of an action show: its name, its arguments and its end
record Shows (names : List (List ℕ)) (a : Action) (ts : List Token) : Type 0 where
  behind : List Token
  same : ts ≡ token.Word (action_name a) ∷ behind
  rest : List Token
  arguments : SpellsArguments names (action_arguments a) behind rest
  ends : read_end (is_message_name (action_name a)) (node_of a) rest ≡ read_next tt []
  node : node_at_end (action_name a) behind ≡ Some (node_of a)
  made : action_if_written (is_message_name (action_name a)) (node_of a) (action_by (is_input a) (node_of a) (action_name a) (action_arguments a)) ≡ Some a

message_ended : (k : ℤ) → read_end true k [] ≡ read_next tt []
unfolding read_end choose end
message_ended k = refl

node_ended : (messages : Bool) (k : ℤ) → messages ≡ false → read_end messages k (token.Mark mark.AtSign ∷ token.Number k ∷ []) ≡ read_next tt []
unfolding read_end choose bind expect skip number end
node_ended messages k e = rw e (rw (same_number k) refl)

shows : {names : List (List ℕ)} {a : Action} {ts : List Token} → SpellsAction names a ts [] → Shows names a ts
shows (sent {m = m} {i = i} {j = j} d) = record {
  behind = _;
  same = refl;
  rest = [];
  arguments = d;
  ends = message_ended i;
  node = (message_ends d).sender;
  made = rw (same_number i) refl;
}
shows (received {m = m} {i = i} {j = j} d) = record {
  behind = _;
  same = refl;
  rest = [];
  arguments = d;
  ends = message_ended j;
  node = (message_ends d).receiver;
  made = rw (same_number j) refl;
}
shows (local a other d) = record {
  behind = _;
  same = refl;
  rest = _;
  arguments = d;
  ends = node_ended (is_message_name a.name) a.node other;
  node = let f = arguments_front _ d in rw f.same (node_behind a.name a.node f.front other);
  made = rw (local_made a other) (rw other refl);
}
shows (stimulus a other d) = record {
  behind = _;
  same = refl;
  rest = _;
  arguments = d;
  ends = node_ended (is_message_name a.name) a.node other;
  node = let f = arguments_front _ d in rw f.same (node_behind a.name a.node f.front other);
  made = rw (stimulus_made a other) (rw other refl);
}

rule_complete : (names : List (List ℕ)) (k : ℤ) (r : PlainRule) (xs rest : List Token) (vs : List Data) (a : Action) (w : List ℕ) → r.entry.name ≡ w → read_arguments names r.shapes xs ≡ read_next vs rest →
    read_end (is_message_name w) k rest ≡ read_next tt [] → action_if_written (is_message_name w) k (action_by (same_kind r.entry.kind Input) k w vs) ≡ Some a → rule_action names k r xs ≡ Some a
unfolding rule_action bind
rule_complete names k r xs rest vs a w n args ends made = rw n (rw args (rw ends made))

named_complete : (s : SystemParts) (a : Action) (ts : List Token) (d : Shows s.names a ts) → IsActionOf s a → named_action s (action_name a) d.behind ≡ Some a
unfolding named_action rule_at bind
named_complete s a ts d t =
    let named = rule_named_is (action_name a) t.program.automaton.rules t.rule t.named in
    let made : action_if_written (is_message_name (action_name a)) (node_of a) (action_by (same_kind t.rule.entry.kind Input) (node_of a) (action_name a) (action_arguments a)) ≡ Some a = rw t.kind d.made in
    rw d.node (rw t.placed (rw t.named
    (rule_complete s.names (node_of a) t.rule d.behind d.rest (action_arguments a) a (action_name a) named (arguments_complete s.names d.arguments t.rule.shapes t.sorted) d.ends made)))

at_word : (s : SystemParts) (xs ys : List Token) (w : List ℕ) (a : Action) → behind_number xs ≡ token.Word w ∷ ys → named_action s w ys ≡ Some a → line_action s xs ≡ Some a
unfolding line_action word bind
at_word s xs ys w a e h = rw e h

-- the action of its tokens alone, with a number in front or none
action_complete : (s : SystemParts) (xs : List Token) (a : Action) → SpellsAction s.names a xs [] → IsActionOf s a → line_action s xs ≡ Some a
action_complete s xs a d t = let p = shows d in at_word s xs p.behind (action_name a) a (ap behind_number p.same) (named_complete s a xs p t)

numbered_complete : (s : SystemParts) (n : ℤ) (xs : List Token) (a : Action) → SpellsAction s.names a xs [] → IsActionOf s a → line_action s (token.Number n ∷ xs) ≡ Some a
numbered_complete s n xs a d t = let p = shows d in at_word s (token.Number n ∷ xs) p.behind (action_name a) a p.same (named_complete s a xs p t)

-- a token that is not `choose` goes to the action
taken_too : (b : Bool) (k : ℕ) (t : Token) (xs front : List Token) → b ≡ false → take k xs ≡ front → take (cond (not b) (1 + k) 0) (t ∷ xs) ≡ t ∷ front
taken_too true k t xs front e h = absurd cc
taken_too false k t xs front e h = let next : 1 + k ≡ suc k = omega arith in rw next (ap (λ us. t ∷ us) h)

dropped_too : (b : Bool) (k : ℕ) (t : Token) (xs rest : List Token) → b ≡ false → drop k xs ≡ rest → drop (cond (not b) (1 + k) 0) (t ∷ xs) ≡ rest
dropped_too true k t xs rest e h = absurd cc
dropped_too false k t xs rest e h = let next : 1 + k ≡ suc k = omega arith in rw next h

-- the line is cut where its action ends
cut_at_end : (front ys : List Token) → list_any is_choose front ≡ false → choose_place ys ≡ 0 → (action_tokens (front ++ ys) ≡ front) × (choice_tokens (front ++ ys) ≡ ys)
cut_at_end [] ys free first = (rw first refl, rw first refl)
cut_at_end (t ∷ front) ys free first =
    let p = either_false (is_choose t) (list_any is_choose front) free in
    let r = cut_at_end front ys p.1 first in
    let place = choose_place (front ++ ys) in
    (taken_too (is_choose t) place t (front ++ ys) front p.0 r.0, dropped_too (is_choose t) place t (front ++ ys) ys p.0 r.1)

chosen_first : {names : List (List ℕ)} {vs : List Data} {ys : List Token} → SpellsChosen names vs ys → choose_place ys ≡ 0
chosen_first nothing_chosen = refl
chosen_first (chosen simple d) = refl

at_parts : (s : SystemParts) (front ys : List Token) (e : PlainEntry) → list_any is_choose front ≡ false → line_action s front ≡ Some e.action → SpellsChosen s.names e.chosen ys → line_entry s (front ++ ys) ≡ Some e
unfolding line_entry bind
at_parts s front ys e free action c =
    let p = cut_at_end front ys free (chosen_first c) in
    rw (p.0, p.1, action, chosen_complete s.names c) refl

alone_complete : (s : SystemParts) (xs : List Token) (e : PlainEntry) → SpellsAlone s.names e xs → IsActionOf s e.action → line_entry s xs ≡ Some e
alone_complete s xs e (plain {ys = ys} d c) t =
    let f = action_own d in
    rw f.same (at_parts s f.front ys e f.free (action_complete s f.front e.action (action_alone f) t) c)
alone_complete s xs e (numbered {n = n} {ys = ys} d c) t =
    let f = action_own d in
    rw f.same (at_parts s (token.Number n ∷ f.front) ys e f.free (numbered_complete s n f.front e.action (action_alone f) t) c)

-- a line is read as it is spelled, if its action is one of the system
pub line_complete : (s : SystemParts) (xs : List Token) (e : PlainEntry) → SpellsLine s xs e → line_entry s xs ≡ Some e
line_complete s xs e h = alone_complete s xs e h.spelled h.taken
