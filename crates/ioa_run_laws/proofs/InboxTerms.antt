-- In a schedule block `inbox(t)` is what waits on the channel from the node with the number t.
use Rattle.std.proofs.Common.{◌≡◌, ℕ, ℤ, true, false, List, [], ◌∷◌, ◌++◌, Option, Some, None, if◌then◌else◌, refl, ap, subst, ◌∙◌, map, zip}
use Rattle.std.specs.Prelude.{is_some}
use Rattle.std.specs.List.{AllByRecursion, AllZip, Contains, IsDistinct}
use Rattle.std.specs.Option.{option_and_then}
use Rattle.ioa_values.specs.Collections.{value_at}
use Rattle.ioa_values.specs.Data.{Data, number, pairs_of, entries_of}
use Rattle.ioa_values.proofs.ItemLists.{pairs_of_entries}
use Rattle.ioa_operators.specs.Shapes.{PlainShape, integers, maps, sequences}
use Rattle.ioa_operators.specs.declared.shape.Shape.{Shape}
use Rattle.ioa_actions.specs.ComponentOrder.{same_component}
use Rattle.ioa_actions.specs.declared.component.Component.{Component}
use Rattle.ioa_actions.specs.declared.component.Component.TheVariants as component
use Rattle.ioa_terms.specs.declared.callee.Callee.{Callee}
use Rattle.ioa_terms.specs.declared.name.Name.{Name}
use Rattle.ioa_terms.specs.declared.name.Name.TheVariants.{Word}
use Rattle.ioa_terms.specs.Bindings.{Bindings, same_name, lookup, constants_from}
use Rattle.ioa_terms.specs.Inboxes.{PlainInboxes, inboxes_word, inbox_entries, inboxes_value, inbox_values}
use Rattle.ioa_terms.specs.Meaning.{value, inbox_value}
use Rattle.ioa_terms.specs.PlainTerm.{PlainTerm}
use Rattle.ioa_terms.specs.Sorted.{NameShapes}
use Rattle.ioa_source.specs.Sides.{CheckedVariable, SourceText}
use Rattle.ioa_system.specs.InView.{inbox_words, parameter_names, variable_names}
use Rattle.ioa_system.specs.Parts.{Parts, message_shape}
use Rattle.ioa_system.specs.Systems.{SystemParts}
use Rattle.ioa_names.specs.NameTables.{AreDistinct, declared_names}
use Rattle.ioa_automata.specs.NamesInView.{parameter_shapes, variable_shapes, inbox_shapes_of}
use Rattle.ioa_sections.proofs.Tests.{word_turned}
use Rattle.ioa_check.specs.Systems.{IsSystemOf}
use Rattle.ioa_channels.specs.Queues.{messages_of}
use Rattle.ioa_channels.specs.declared.queue.Item.{Item}
use Rattle.ioa_channels.specs.declared.queue.Item.TheVariants.{Message, Stimulus}
use Rattle.ioa_compose.specs.Composition.{component_of, find_conf}
use Rattle.ioa_compose.specs.Readings.{queue_messages, channel_messages}
use Rattle.ioa_compose.specs.declared.configuration.Conf.{Conf}
use Rattle.ioa_compose.specs.declared.configuration.Conf.TheVariants.{Node, Queue}
use Rattle.ioa_compose.proofs.Components.{name_found}
use Rattle.ioa_sorts.proofs.Lookups.{found_has}
use Rattle.ioa_turns.specs.Inboxes.{inboxes_in}
use Rattle.ioa_turns.proofs.SeenInboxes.{inbox_waits, no_inbox}
use Rattle.ioa_run_laws.specs.Inboxes.{inbox_term, block_reads}
use Rattle.ioa_run_laws.specs.Shaped.{FitsVariable, IsItemTo, IsShapedQueue, IsShapedConf, AreShaped}
use Rattle.ioa_run_laws.proofs.Accepted.{is_accepted}
use Rattle.ioa_run_laws.proofs.BlockTurns.{bindings_read}

-- a name behind the variables of a block differs from each of them
module _ (w : List ℕ) (s : PlainShape) (others constants : NameShapes) where
  behind_variables : (P : Name → Type 0) (xs : List CheckedVariable) → AllByRecursion P (declared_names (((variable_shapes xs ++ (Word w, s) ∷ []) ++ others) ++ constants)) → P (Word w)
  behind_variables P [] h = h.0
  behind_variables P (x ∷ xs) h = behind_variables P xs h.1

  -- so it is not found among them
  past_variables : (xs : List CheckedVariable) (vs : List Data) (rest : Bindings) → AreDistinct (((variable_shapes xs ++ (Word w, s) ∷ []) ++ others) ++ constants) →
      lookup (Word w) (zip (map Word (variable_names xs)) vs ++ rest) ≡ lookup (Word w) rest
  unfolding IsDistinct
  past_variables [] vs rest d = refl
  past_variables (x ∷ xs) [] rest d = refl
  past_variables (x ∷ xs) (v ∷ vs) rest d =
      rw (word_turned x.declared.name w (behind_variables (λ y. same_name (Word x.declared.name) y ≡ false) xs d.0)) (past_variables xs vs rest d.1)

-- the name of the inboxes has the map of the inboxes
found_in_block : (p : Parts) (cs : List Conf) (state own : List Data) (s : PlainShape) (constants : NameShapes) → AllZip FitsVariable p.automaton.schedule.variables own → message_shape p.automaton.rules ≡ Some s →
    AreDistinct (((variable_shapes p.automaton.schedule.variables ++ inbox_shapes_of (message_shape p.automaton.rules)) ++ (variable_shapes p.automaton.variables ++ parameter_shapes p.automaton.parameters)) ++ constants) →
    lookup (Word inboxes_word) (block_reads p cs state own) ≡ Some (inboxes_value (inboxes_in p.node cs))
found_in_block p cs state own s constants fits takes differ =
    ap (lookup (Word inboxes_word)) (bindings_read p state (seen (message_shape p.automaton.rules)) own fits)
    ∙ past_variables inboxes_word (maps integers (sequences s)) (variable_shapes p.automaton.variables ++ parameter_shapes p.automaton.parameters) constants p.automaton.schedule.variables own (behind (message_shape p.automaton.rules))
    (subst (λ (o : Option PlainShape). AreDistinct (((variable_shapes p.automaton.schedule.variables ++ inbox_shapes_of o) ++ (variable_shapes p.automaton.variables ++ parameter_shapes p.automaton.parameters)) ++ constants)) takes differ)
    ∙ ap (λ (o : Option PlainShape). lookup (Word inboxes_word) (behind o)) takes
  where
    seen : Option PlainShape → List Data
    seen o = inbox_values (if is_some o then Some (inboxes_in p.node cs) else None)

    behind : Option PlainShape → Bindings
    behind o = zip (map Word (inbox_words o ++ (variable_names p.automaton.variables ++ parameter_names p.automaton.parameters))) (seen o ++ (state ++ p.arguments)) ++ constants_from 0 p.automaton.constants

-- the value of a call of `inbox`, if the inboxes are in view
call_read : (c : Callee) (t : PlainTerm ℕ Callee Shape) (e : Bindings) (i : ℤ) (is : PlainInboxes) → value t e ≡ Some (number i) → lookup (Word inboxes_word) e ≡ Some (inboxes_value is) → value (inbox_term c t) e ≡ value_at (number i) (inbox_entries is)
call_read c t e i is h found =
    let one : value (inbox_term c t) e ≡ inbox_value (number i ∷ []) e = rw h refl in
    let two : inbox_value (number i ∷ []) e ≡ value_at (number i) (pairs_of (entries_of (inbox_entries is))) = rw found refl in
    one ∙ two ∙ ap (value_at (number i)) (pairs_of_entries (inbox_entries is))

-- what is under way to a node are messages alone
all_messages : (s : SystemParts) (j : ℤ) (items : List Item) → AllByRecursion (IsItemTo s j) items → (ms : List Data) × (messages_of items ≡ Some ms)
all_messages s j [] h = ([], refl)
all_messages s j (Message m ∷ more) h = let rest = all_messages s j more h.1 in (m ∷ rest.0, rw rest.1 refl)
all_messages s j (Stimulus a ∷ more) h = absurd h.0

-- what the inboxes of a node have is what waits on its channels
inboxes_are : (s : SystemParts) (i j : ℤ) (cs : List Conf) → AreShaped s cs → value_at (number i) (inbox_entries (inboxes_in j cs)) ≡ channel_messages i j cs
inboxes_are s i j cs shaped = by_conf (find_conf (component.Channel i j) cs) refl
  where
    by_conf : (o : Option Conf) → find_conf (component.Channel i j) cs ≡ o → value_at (number i) (inbox_entries (inboxes_in j cs)) ≡ option_and_then queue_messages o
    by_conf None e = no_inbox i j cs e
    by_conf (Some (Node c)) e =
        let name : component.Node c.program.node ≡ component.Channel i j = name_found (component.Channel i j) cs (Node c) e in
        absurd (cc)
    by_conf (Some (Queue q)) e =
        let name : q.component ≡ component.Channel i j = name_found (component.Channel i j) cs (Queue q) e in
        let there : IsShapedQueue s q.component q.items = found_has (IsShapedConf s) (λ b. same_component (component.Channel i j) (component_of b)) cs (Queue q) shaped e in
        let channel : IsShapedQueue s (component.Channel i j) q.items = subst (λ (k : Component). IsShapedQueue s k q.items) name there in
        let all = all_messages s j q.items channel.messages in
        inbox_waits i j cs q all.0 e all.1 ∙ (rw all.1 refl)

pub inbox_is : (x : SourceText) (s : SystemParts) (p : Parts) (cs : List Conf) (state own : List Data) (c : Callee) (t : PlainTerm ℕ Callee Shape) (i : ℤ) → IsSystemOf x s → Contains s.programs p → AreShaped s cs → AllZip FitsVariable p.automaton.schedule.variables own →
    is_some (message_shape p.automaton.rules) ≡ true → value t (block_reads p cs state own) ≡ Some (number i) → value (inbox_term c t) (block_reads p cs state own) ≡ channel_messages i p.node cs
inbox_is x s p cs state own c t i h present shaped fits takes e = by_shape (message_shape p.automaton.rules) refl takes
  where
    by_shape : (o : Option PlainShape) → message_shape p.automaton.rules ≡ o → is_some o ≡ true → value (inbox_term c t) (block_reads p cs state own) ≡ channel_messages i p.node cs
    by_shape None g k = absurd (cc)
    by_shape (Some shape) g k =
        let accepted = is_accepted x s h p present in
        call_read c t (block_reads p cs state own) i (inboxes_in p.node cs) e
        (found_in_block p cs state own shape h.types.constants fits g accepted.automaton.schedule.names)
        ∙ inboxes_are s i p.node cs shaped
