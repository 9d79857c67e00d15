-- What is read of a line is spelled, and is an action of the system.
use Rattle.std.proofs.Common.{◌≡◌, ℕ, ℤ, Bool, true, false, List, [], ◌∷◌, ◌++◌, Option, Some, None, if◌then◌else◌, refl, sym, ap, subst, ◌∙◌}
use Rattle.std.specs.Prelude.{not}
use Rattle.std.proofs.lemmas.Bool.Decides.{Decides-int_eq}
use Rattle.std.proofs.lemmas.List.{take-append-drop}
use Rattle.std.proofs.lemmas.Slice.Eq.{bytes_eq-Decides}
use Rattle.ioa_tokens.specs.declared.token.Token.{Token}
use Rattle.ioa_tokens.specs.declared.token.Token.TheVariants as token
use Rattle.ioa_tokens.specs.declared.mark.Mark.TheVariants as mark
use Rattle.ioa_cursor.specs.Reading.{choose}
use Rattle.ioa_cursor.proofs.Steps.{bind_cases, choose_cases, expected_taken, number_taken, word_taken}
use Rattle.ioa_values.specs.Data.{Data, items_of}
use Rattle.ioa_operators.specs.Shapes.{have_shapes, shapes_of, wide_shapes_if}
use Rattle.ioa_actions.specs.ActionParts.{action_arguments, action_name, input_by, locally_controlled_by, message_and_ends, node_action, node_of, receive_name, send_name}
use Rattle.ioa_actions.specs.declared.action.Action.{Action}
use Rattle.ioa_actions.specs.declared.action.Action.TheVariants.{Send, Receive, Local, Stimulus}
use Rattle.ioa_actions.proofs.Parts.{controlled_kept, controlled_named, input_kept, input_named}
use Rattle.ioa_terms.specs.Bindings.{same_word}
use Rattle.ioa_terms.specs.SameTerms.{same_kind}
use Rattle.ioa_terms.specs.declared.tree.Kind.TheVariants.{Input}
use Rattle.ioa_system.specs.Parts.{PlainRule, rule_named}
use Rattle.ioa_system.specs.Systems.{SystemParts}
use Rattle.ioa_transitions.specs.Entries.{PlainEntry}
use Rattle.ioa_lines.specs.Grammar.{SpellsAction, SpellsAlone, SpellsArguments, SpellsChosen, is_message_name, local, numbered, plain, received, sent, stimulus}
use Rattle.ioa_lines.specs.Lines.{IsActionOf, SpellsLine, is_input}
use Rattle.ioa_lines.specs.Reading.{action_by, action_tokens, behind_number, choice_tokens, choose_place, is_written, line_action, line_entry, named_action, read_end, rule_action, rule_at}
use Rattle.ioa_lines.proofs.ChosenValues.{chosen_sound}
use Rattle.ioa_lines.proofs.OwnTokens.{action_before}
use Rattle.ioa_lines.proofs.Parts.{arguments_sound, ended, settled}

-- the action of a rule's name and arguments is one of four
pub action_cases : (P : Action → Type 0) (input : Bool) (k : ℤ) (w : List ℕ) (vs : List Data) → ((m : Data) (i j : ℤ) → input ≡ false → P (Send m i j)) → ((m : Data) (i j : ℤ) → input ≡ true → P (Receive m i j)) →
    (input ≡ false → P (Local (node_action k w vs))) → (input ≡ true → P (Stimulus (node_action k w vs))) → P (action_by input k w vs)
action_cases P true k w vs s r l t = by_ends (message_and_ends vs)
  where
    by_name : (m : Data) (i j : ℤ) (b : Bool) → P (if b then Receive m i j else Stimulus (node_action k w vs))
    by_name m i j true = r m i j refl
    by_name m i j false = t refl

    by_ends : (o : Option (Data × ℤ × ℤ)) → P (input_by k w vs o)
    by_ends None = t refl
    by_ends (Some (m, i, j)) = by_name m i j (same_word w receive_name)
action_cases P false k w vs s r l t = by_ends (message_and_ends vs)
  where
    by_name : (m : Data) (i j : ℤ) (b : Bool) → P (if b then Send m i j else Local (node_action k w vs))
    by_name m i j true = s m i j refl
    by_name m i j false = l refl

    by_ends : (o : Option (Data × ℤ × ℤ)) → P (locally_controlled_by k w vs o)
    by_ends None = l refl
    by_ends (Some (m, i, j)) = by_name m i j (same_word w send_name)

named_kept : (input : Bool) (k : ℤ) (w : List ℕ) (vs : List Data) → action_name (action_by input k w vs) ≡ w
named_kept true k w vs = input_named k w vs
named_kept false k w vs = controlled_named k w vs

arguments_kept : (input : Bool) (k : ℤ) (w : List ℕ) (vs : List Data) → action_arguments (action_by input k w vs) ≡ vs
arguments_kept true k w vs = input_kept k w vs
arguments_kept false k w vs = controlled_kept k w vs

kind_kept : (input : Bool) (k : ℤ) (w : List ℕ) (vs : List Data) → input ≡ is_input (action_by input k w vs)
kind_kept input k w vs = action_cases (λ a. input ≡ is_input a) input k w vs (λ m i j e. e) (λ m i j e. e) (λ e. e) (λ e. e)

node_kept : (messages input : Bool) (k : ℤ) (w : List ℕ) (vs : List Data) → is_written messages k (action_by input k w vs) ≡ true → node_of (action_by input k w vs) ≡ k
node_kept messages input k w vs =
    action_cases (λ a. is_written messages k a ≡ true → node_of a ≡ k) input k w vs
    (λ m i j _ e. (Decides-int_eq i k).0 e) (λ m i j _ e. (Decides-int_eq j k).0 e) (λ _ _. refl) (λ _ _. refl)

-- what is behind the arguments
abbrev IsEnd : Bool → ℤ → List Token → Type 0
IsEnd true k xs = xs ≡ []
IsEnd false k xs = xs ≡ token.Mark mark.AtSign ∷ token.Number k ∷ []

end_sound : (messages : Bool) (k : ℤ) (xs : List Token) (e : Unit {0} × List Token) → read_end messages k xs ≡ Some e → IsEnd messages k xs
unfolding read_end choose
end_sound true k xs e h = ended xs e h
end_sound false k xs e h =
    let P : Type 0 = IsEnd false k xs in
    bind_cases P h (λ a a_is rest. bind_cases P rest (λ n n_is kept. choose_cases P kept
    (λ same at_end.
    let node : n.0 ≡ k = (Decides-int_eq n.0 k).0 same in
    expected_taken mark.AtSign xs a a_is ∙ ap (λ (us : List Token). token.Mark mark.AtSign ∷ us) (number_taken a.1 n n_is ∙ ap (λ (z : ℤ). token.Number z ∷ n.1) node ∙ ap (λ (us : List Token). token.Number k ∷ us) (ended n.1 e at_end)))
    (λ _ none. absurd cc)))

not_true : (b : Bool) → not b ≡ true → b ≡ false
not_true true e = absurd cc
not_true false e = refl

-- an action is spelled by its name, its arguments and its end
action_spelled : (names : List (List ℕ)) (a : Action) (w : List ℕ) (vs : List Data) (k : ℤ) (xs rest : List Token) → w ≡ action_name a → vs ≡ action_arguments a → k ≡ node_of a →
    SpellsArguments names vs xs rest → IsEnd (is_message_name w) k rest → is_written (is_message_name w) k a ≡ true → SpellsAction names a (token.Word w ∷ xs) []
action_spelled names (Send m i j) w vs k xs rest w_is vs_is k_is d e h =
    let ends : rest ≡ [] = rw w_is at e in
    rw w_is (sent (rw (vs_is, ends) at d))
action_spelled names (Receive m i j) w vs k xs rest w_is vs_is k_is d e h =
    let ends : rest ≡ [] = rw w_is at e in
    rw w_is (received (rw (vs_is, ends) at d))
action_spelled names (Local a) w vs k xs rest w_is vs_is k_is d e h =
    let other : is_message_name w ≡ false = not_true (is_message_name w) h in
    let ends : rest ≡ token.Mark mark.AtSign ∷ token.Number k ∷ [] = rw other at e in
    rw w_is (local a (rw w_is at other) (rw (vs_is, ends, k_is) at d))
action_spelled names (Stimulus a) w vs k xs rest w_is vs_is k_is d e h =
    let other : is_message_name w ≡ false = not_true (is_message_name w) h in
    let ends : rest ≡ token.Mark mark.AtSign ∷ token.Number k ∷ [] = rw other at e in
    rw w_is (stimulus a (rw w_is at other) (rw (vs_is, ends, k_is) at d))

written : (b : Bool) (a c : Action) → (if b then Some a else None) ≡ Some c → (a ≡ c) × (b ≡ true)
written true a c e = (cc, refl)
written false a c e = absurd cc

-- what the rule of a node makes of tokens
record RuleSpells (names : List (List ℕ)) (k : ℤ) (r : PlainRule) (xs : List Token) (a : Action) : Type 0 where
  name : action_name a ≡ r.entry.name
  node : node_of a ≡ k
  kind : same_kind r.entry.kind Input ≡ is_input a
  sorted : have_shapes (wide_shapes_if true (shapes_of r.shapes)) (items_of (action_arguments a)) ≡ true
  spelled : SpellsAction names a (token.Word r.entry.name ∷ xs) []

rule_sound : (names : List (List ℕ)) (k : ℤ) (r : PlainRule) (xs : List Token) (a : Action) → rule_action names k r xs ≡ Some a → RuleSpells names k r xs a
unfolding rule_action
rule_sound names k r xs a h =
    let P : Type 0 = RuleSpells names k r xs a in
    let input = same_kind r.entry.kind Input in
    let w = r.entry.name in
    bind_cases P h (λ vs vs_is rest. bind_cases P rest (λ e e_is made.
    let d = arguments_sound names r.shapes xs vs vs_is in
    let p = written (is_written (is_message_name w) k (action_by input k w vs.0)) (action_by input k w vs.0) a made in
    let node = node_kept (is_message_name w) input k w vs.0 p.1 in
    rw (← p.0)
    (record {
      name = named_kept input k w vs.0;
      node = node;
      kind = kind_kept input k w vs.0;
      sorted = rw (arguments_kept input k w vs.0) d.have;
      spelled = action_spelled names (action_by input k w vs.0) w vs.0 k xs vs.1 (sym (named_kept input k w vs.0)) (sym (arguments_kept input k w vs.0)) (sym node) d.are (end_sound (is_message_name w) k vs.1 e e_is) p.1;
    })))

-- a rule that is found has the name
named_by_test : (b : Bool) (w : List ℕ) (q r : PlainRule) (later : Option PlainRule) → same_word q.entry.name w ≡ b → (later ≡ Some r → r.entry.name ≡ w) → (if b then Some q else later) ≡ Some r → r.entry.name ≡ w
named_by_test true w q r later t f e = let same : q ≡ r = cc in ap (λ (x : PlainRule). x.entry.name) (sym same) ∙ (bytes_eq-Decides q.entry.name w).0 t
named_by_test false w q r later t f e = f e

pub rule_named_is : (w : List ℕ) (rs : List PlainRule) (r : PlainRule) → rule_named w rs ≡ Some r → r.entry.name ≡ w
rule_named_is w [] r e = absurd cc
rule_named_is w (q ∷ rs) r e = named_by_test (same_word q.entry.name w) w q r (rule_named w rs) refl (rule_named_is w rs r) e

-- tokens that spell an action of the system, behind the number that they may begin with
record SpellsActionOf (s : SystemParts) (xs : List Token) (a : Action) : Type 0 where
  spelled : SpellsAction s.names a (behind_number xs) []
  taken : IsActionOf s a

action_sound : (s : SystemParts) (xs : List Token) (a : Action) → line_action s xs ≡ Some a → SpellsActionOf s xs a
unfolding line_action named_action rule_at
action_sound s xs a h =
    let P : Type 0 = SpellsActionOf s xs a in
    bind_cases P h (λ w w_is named. bind_cases P named (λ k k_is ruled. bind_cases P ruled (λ r r_is made. bind_cases P r_is (λ p p_is q_is.
    let rule = rule_sound s.names k r w.1 a made in
    let name = rule_named_is w.0 p.automaton.rules r q_is in
    record {
      spelled = rw (word_taken (behind_number xs) w w_is) (rw name at rule.spelled);
      taken = record {
        program = p;
        placed = rw rule.node p_is;
        rule = r;
        named = rw (rule.name ∙ name) q_is;
        kind = rule.kind;
        sorted = rule.sorted;
      };
    }))))

-- a number in front, and what was chosen behind
with_number : {names : List (List ℕ)} {e : PlainEntry} (xs ys : List Token) → SpellsAction names e.action (behind_number xs) [] → SpellsChosen names e.chosen ys → SpellsAlone names e (xs ++ ys)
with_number (token.Number n ∷ xs) ys d c = numbered (action_before ys d) c
with_number (token.Mark m ∷ xs) ys d c = plain (action_before ys d) c
with_number (token.Word w ∷ xs) ys d c = plain (action_before ys d) c
with_number (token.LeftOut w ∷ xs) ys d c = plain (action_before ys d) c
with_number [] ys d c = plain (action_before ys d) c

-- what is read of a line is spelled, and its action is one of the system
pub line_sound : (s : SystemParts) (xs : List Token) (e : PlainEntry) → line_entry s xs ≡ Some e → SpellsLine s xs e
unfolding line_entry
line_sound s xs e h =
    let P : Type 0 = SpellsLine s xs e in
    bind_cases P h (λ a a_is rest. bind_cases P rest (λ vs vs_is done.
    let action = action_sound s (action_tokens xs) a a_is in
    let whole : action_tokens xs ++ choice_tokens xs ≡ xs = take-append-drop (choose_place xs) xs in
    settled (SpellsLine s xs) done
    (record {
      spelled = subst (SpellsAlone s.names _) whole (with_number (action_tokens xs) (choice_tokens xs) action.spelled (chosen_sound s.names (choice_tokens xs) vs vs_is));
      taken = action.taken;
    })))
